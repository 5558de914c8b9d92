use Rattle.std.proofs.Common.{◌≡◌, ◌++◌, length, chars, flat_map}
use denote.Shadow.{shadow}
use denote.Text.{Utf8}
use Rattle.tree_print.specs.inner.Escapes.{escaped_char}
use Rattle.tree_print.proofs.escapes.push_escaped_parts.Given as goal

abbrev pub invariant-references : goal.invariant-references
invariant-references l = shadow (Utf8 l.rest) × (l.out ++ flat_map (escaped_char l.place) (chars l.rest) ≡ l.initial.out ++ flat_map (escaped_char l.place) (chars l.text))

abbrev pub decreases-references : goal.decreases-references
decreases-references l = length l.rest

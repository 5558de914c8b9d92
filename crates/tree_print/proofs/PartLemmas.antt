-- The parts on the stack.
use Rattle.std.proofs.Common.{◌≡◌, ℕ, ◌+◌, ◌<◌, ◌≤◌, List, [], ◌∷◌, ◌++◌, length, drop, flat_map, refl, sym, ap, ◌∙◌, arith, length-drop}
use Rattle.std.proofs.lemmas.List.{drop_all}
use Rattle.tree_print.specs.declared.parts.Part.{Part}
use Rattle.tree_print.specs.declared.parts.TheConstants.{CAPACITY}
use Rattle.tree_print.specs.declared.parts.Part.TheVariants.{Plain, Escaped, Broken, Named, Decls, Attrs, Nodes, EndTag, Whole}
use Rattle.tree_print.specs.inner.Parts.{Pending, pending, part_print, part_room}

-- no part is left
pub none_left : (stack : List Part) (next : ℕ) (now : Pending) → length stack ≡ CAPACITY → next ≡ CAPACITY → pending (drop next stack) ≡ now → now.text ≡ []
none_left stack next now long all is =
    sym (ap (λ (p : Pending). p.text) is) ∙ ap (flat_map part_print) (drop_all next stack (omega (arith, long, all)))

-- each part takes a place
pub takes_one : (p : Part) → 1 ≤ part_room p
takes_one (Plain text) = omega arith
takes_one (Escaped text place) = omega arith
takes_one (Broken text place) = omega arith
takes_one (Named name) = omega arith
takes_one (Decls decls e) = omega arith
takes_one (Attrs attrs e) = omega arith
takes_one (Nodes nodes) = omega arith
takes_one (EndTag name) = omega arith
takes_one (Whole e) = omega arith

-- so there is a free place for one that has room
pub place_free : (stack : List Part) (next : ℕ) (now : Pending) (p : Part) → length stack ≡ CAPACITY → pending (drop next stack) ≡ now → now.taken + part_room p ≤ CAPACITY → 1 ≤ next
place_free stack next now p long is fits =
    let one = takes_one p in
    let taken = ap (λ (x : Pending). x.taken) is in
    omega (arith, one, taken, fits, long, length-drop next stack)

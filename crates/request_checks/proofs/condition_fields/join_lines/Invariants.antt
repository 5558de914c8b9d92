use Rattle.std.proofs.Common.{◌≡◌, ◌∷◌, ◌++◌, drop}
use Rattle.std.specs.List.{flat_map}
use Rattle.request_checks.proofs.condition_fields.join_lines.Given as goal

abbrev pub invariant-lines : goal.invariant-lines
invariant-lines l = l.text ++ flat_map (λ line. 44 ∷ line) (drop l.line-index l.others) ≡ l.first ++ flat_map (λ line. 44 ∷ line) l.others

use Rattle.std.proofs.Common.{IsUtf8, sym, subst}
use Rattle.xml_names.proofs.text.Text.copy.Goals as goal

pub invariant_of-result : goal.invariant_of-result
invariant_of-result c = subst (λ bs. ∥ IsUtf8 bs ∥₁) (sym c.in_ok-bytes.ensures.same_bytes) c.self.invariant

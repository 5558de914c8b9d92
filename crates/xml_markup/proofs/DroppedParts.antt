-- Parts that spell nothing.
use Rattle.std.proofs.Common.{◌≡◌, ℕ, List, Result, Ok, ap}
use Rattle.xml_grammar.specs.TextReading.{Stop, Reader, ◌>>=◌}
use Rattle.xml_tokens.specs.declared.fault_kind.FaultKind.{FaultKind}
use Rattle.xml_markup.specs.readers.Markup.{read_without_value}

-- what is read and dropped
pub dropped_ok : {A : Type 0} (p : Reader FaultKind A) (text rest : List ℕ) (a : A) → p text ≡ Ok (a, rest) → read_without_value p text ≡ Ok (tt, rest)
dropped_ok {A} p text rest a h = ap (λ (r : Result (A × List ℕ) (Stop FaultKind)). r >>= λ x. let z : Unit {0} × List ℕ = (tt, x.1) in Ok z) h

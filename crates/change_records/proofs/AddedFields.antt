-- Fields that are added one after the other.
use Rattle.std.proofs.Common.{◌≡◌, ℕ, suc, ◌-◌, ◌<◌, List, [], ◌∷◌, ◌++◌, Option, None, Some, option_map, refl, sym, ap, ◌∙◌, append_assoc, arith}
use Rattle.std.specs.Option.{option_and_then}
use Rattle.http_wire.specs.declared.request.Field.{Field}
use Rattle.change_records.specs.Readings.{field_at, fields_of}

-- the first field, and the others
abbrev then_others : ℕ → Field × List ℕ → Option (List Field)
then_others count first = option_map (λ others. first.0 ∷ others) (fields_of count first.1)

by_suc : (count less : ℕ) (bytes : List ℕ) → count ≡ suc less → fields_of count bytes ≡ option_and_then (then_others less) (field_at bytes)
by_suc count less bytes is = ap (λ (n : ℕ). fields_of n bytes) is

pub fields_step : (count : ℕ) (bytes : List ℕ) → 0 < count → fields_of count bytes ≡ option_and_then (λ first. option_map (λ others. first.0 ∷ others) (fields_of (count - 1) first.1)) (field_at bytes)
fields_step count bytes some = by_suc count (count - 1) bytes (omega (arith, some))

pub added_to_none : (o : Option (List Field)) → option_map (λ more. [] ++ more) o ≡ o
added_to_none None = refl
added_to_none (Some fields) = refl

one_more : (old : List Field) (field : Field) (o : Option (List Field)) → option_map (λ more. old ++ more) (option_map (λ others. field ∷ others) o) ≡ option_map (λ more. (old ++ field ∷ []) ++ more) o
one_more old field None = refl
one_more old field (Some others) = ap (λ (l : List Field). Some l) (sym (append_assoc old (field ∷ []) others))

-- a field was added, and then the others
pub more_fields : (count : ℕ) (bytes rest : List ℕ) (old mid new : List Field) (field : Field) → 0 < count → field_at bytes ≡ Some (field, rest) → mid ≡ old ++ field ∷ []
    → option_map (λ more. mid ++ more) (fields_of (count - 1) rest) ≡ Some new → option_map (λ more. old ++ more) (fields_of count bytes) ≡ Some new
more_fields count bytes rest old mid new field some is added others =
    ap (λ (o : Option (List Field)). option_map (λ more. old ++ more) o) (fields_step count bytes some)
    ∙ ap (λ (o : Option (Field × List ℕ)). option_map (λ more. old ++ more) (option_and_then (then_others (count - 1)) o)) is
    ∙ one_more old field (fields_of (count - 1) rest)
    ∙ ap (λ (l : List Field). option_map (λ more. l ++ more) (fields_of (count - 1) rest)) (sym added)
    ∙ others

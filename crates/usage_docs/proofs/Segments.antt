-- Reading the first segment of a reference letter by letter.
use Rattle.std.proofs.Common.{◌≡◌, ℕ, Bool, true, false, List, [], ◌∷◌, ◌&&◌, not, fold, bytes_eq, refl, sym, ◌∙◌}
use Rattle.std.specs.Prelude.{◌==◌, if◌then◌else◌}
use Rattle.std.specs.List.{list_all}
use Rattle.usage_docs.specs.declared.address_states.SegmentState.TheVariants.{Empty, Begun, Ended, Wrong}
use Rattle.usage_docs.specs.readers.AddressStates.{segment_state_after, is_reference_segment}
use Rattle.usage_docs.specs.ReferenceForms.{first_segment, is_relative_reference}

-- a letter that isn't a colon
abbrev passes : ℕ → Bool
passes c = not (c == 58)

ended : (s : List ℕ) → is_reference_segment (fold segment_state_after Ended s) ≡ true
ended [] = refl
ended (c ∷ s) = ended s

wrong : (s : List ℕ) → is_reference_segment (fold segment_state_after Wrong s) ≡ false
wrong [] = refl
wrong (c ∷ s) = wrong s

step : (slash colon : Bool) (s : List ℕ) (rest : Bool) → is_reference_segment (fold segment_state_after Begun s) ≡ rest → is_reference_segment (fold segment_state_after (if slash then Ended else (if colon then Wrong else Begun)) s) ≡ (if slash then true else (not colon && rest))
step true colon s rest h = ended s
step false true s rest h = wrong s
step false false s rest h = h

all_of : (slash : Bool) (c : ℕ) (s : List ℕ) → list_all passes (if slash then [] else (c ∷ s)) ≡ (if slash then true else (passes c && list_all passes s))
all_of true c s = refl
all_of false c s = refl

begun : (s : List ℕ) → is_reference_segment (fold segment_state_after Begun s) ≡ list_all passes (first_segment s)
begun [] = refl
begun (c ∷ s) = step (c == 47) (c == 58) s (list_all passes (first_segment s)) (begun s) ∙ sym (all_of (c == 47) c (first_segment s))

no_slash : (colon : Bool) (s : List ℕ) → is_reference_segment (fold segment_state_after (if colon then Wrong else Begun) s) ≡ (not colon && list_all passes (first_segment s))
no_slash true s = wrong s
no_slash false s = begun s

first : (slash : Bool) (c : ℕ) (s : List ℕ) → is_reference_segment (fold segment_state_after (if slash then Wrong else (if c == 58 then Wrong else Begun)) s) ≡ (not (bytes_eq (if slash then [] else (c ∷ first_segment s)) []) && list_all passes (if slash then [] else (c ∷ first_segment s)))
first true c s = wrong s
first false c s = no_slash (c == 58) s

pub segment_is : (s : List ℕ) → is_reference_segment (fold segment_state_after Empty s) ≡ is_relative_reference s
unfolding is_relative_reference
segment_is [] = refl
segment_is (c ∷ s) = first (c == 47) c s

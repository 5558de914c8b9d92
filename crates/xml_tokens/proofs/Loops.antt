-- A loop over members reads them all: what it has made of the members that it has read, and the
-- members that are left.
use Rattle.std.proofs.Common.{◌≡◌, ℕ, zero, suc, ◌+◌, ◌-◌, ◌<◌, ◌≤◌, Bool, true, false, List, [], ◌∷◌, Result, Ok, Err, chars, refl, ap, ◌∙◌, arith}
use Rattle.xml_grammar.specs.TextReading.{Stop, Syntax, Faulty, Reader, ◌>>=◌, read_sequence, read_mapped}
use Rattle.xml_grammar.specs.readers.RuleReaders.{read_at_most, read_many, read_between_gaps}
use Rattle.xml_tokens.specs.declared.fault_kind.FaultKind.{FaultKind}
use Rattle.xml_tokens.specs.declared.parse_error.ParseError.{ParseError as CodeStop}
use Rattle.xml_tokens.specs.declared.parse_error.ParseError.TheVariants as stops
use Rattle.xml_tokens.specs.readers.ReadResults.{IsSameStop}

-- the result of adding members to what there is
abbrev pub finish : {A S B : Type 0} → (S → List A → B) → S → Result (List A × List ℕ) (Stop FaultKind) → Result (B × List ℕ) (Stop FaultKind)
finish F s read = read >>= λ x. Ok (F s x.0, x.1)

-- two readers, one after the other
pub both_ok : {A B : Type 0} (p : Reader FaultKind A) (q : A → Reader FaultKind B) (text rest left : List ℕ) (a : A) (b : B) → p text ≡ Ok (a, rest) → q a rest ≡ Ok (b, left) → read_sequence p q text ≡ Ok ((a, b), left)
both_ok {A} {B} p q text rest left a b h i =
    ap (λ (r : Result (A × List ℕ) (Stop FaultKind)). r >>= λ x. q x.0 x.1 >>= λ y. let z : (A × B) × List ℕ = ((x.0, y.0), y.1) in Ok z) h
    ∙ ap (λ (r : Result (B × List ℕ) (Stop FaultKind)). r >>= λ y. let z : (A × B) × List ℕ = ((a, y.0), y.1) in Ok z) i

pub first_fails : {A B : Type 0} (p : Reader FaultKind A) (q : A → Reader FaultKind B) (text : List ℕ) (e : Stop FaultKind) → p text ≡ Err e → read_sequence p q text ≡ Err e
first_fails {A} {B} p q text e h = ap (λ (r : Result (A × List ℕ) (Stop FaultKind)). r >>= λ x. q x.0 x.1 >>= λ y. let z : (A × B) × List ℕ = ((x.0, y.0), y.1) in Ok z) h

-- where the loop begins, after the first gap
module _ {A G B : Type 0} (test : List ℕ → Bool) (gap : Reader FaultKind G) (member : Reader FaultKind A) (f : G × List (A × G) → B) where
  pub start : (text first_left : List ℕ) (first : G) → gap text ≡ Ok (first, first_left) → read_mapped f (read_between_gaps test gap member) text ≡ finish (λ a xs. f (a, xs)) first (read_many test (read_sequence member (λ _. gap)) first_left)
  start text first_left first h =
      ap (λ (r : Result (G × List ℕ) (Stop FaultKind)). (r >>= λ x. read_many test (read_sequence member (λ _. gap)) x.1 >>= λ y. let z : (G × List (A × G)) × List ℕ = ((x.0, y.0), y.1) in Ok z) >>= λ x. Ok (f x.0, x.1)) h
      ∙ by_out (read_many test (read_sequence member (λ _. gap)) first_left)
    where
      by_out : (out : Result (List (A × G) × List ℕ) (Stop FaultKind)) → (out >>= λ y. let z : (G × List (A × G)) × List ℕ = ((first, y.0), y.1) in Ok z) >>= (λ x. Ok (f x.0, x.1)) ≡ finish (λ a xs. f (a, xs)) first out
      by_out (Ok y) = refl
      by_out (Err e) = refl

-- no member follows
pub none_read : {A : Type 0} (test : List ℕ → Bool) (p : Reader FaultKind A) (n : ℕ) (text : List ℕ) → test text ≡ false → read_at_most test p n text ≡ Ok ([], text)
none_read test p zero text h = refl
none_read test p (suc n) text h = rw h refl

module _ {A S B : Type 0} (test : List ℕ → Bool) (p : Reader FaultKind A) (F : S → List A → B) where
  step : (s t : S) (x : A) (out : Result (List A × List ℕ) (Stop FaultKind)) → ((xs : List A) → F s (x ∷ xs) ≡ F t xs) → finish F s (out >>= λ y. Ok (x ∷ y.0, y.1)) ≡ finish F t out
  step s t x (Ok y) j = ap (λ (z : B). Ok (z, y.1)) (j y.0)
  step s t x (Err e) j = refl

  more : (s t : S) (rest after : List ℕ) (x : A) (n m : ℕ) → n ≡ m + 1 → test rest ≡ true → p rest ≡ Ok (x, after) → ((xs : List A) → F s (x ∷ xs) ≡ F t xs) → finish F s (read_at_most test p n rest) ≡ finish F t (read_at_most test p m after)
  more s t rest after x n m e b h j =
      let k : n ≡ suc m = omega arith in
      rw k (rw b (rw h (step s t x (read_at_most test p m after) j)))

  stopped : (s : S) (rest : List ℕ) (n m : ℕ) (e : Stop FaultKind) → n ≡ m + 1 → test rest ≡ true → p rest ≡ Err e → finish F s (read_at_most test p n rest) ≡ Err e
  stopped s rest n m err e b h =
      let k : n ≡ suc m = omega arith in
      rw k (rw b (rw h refl))

  over : (s : S) (rest : List ℕ) (n : ℕ) → test rest ≡ false → finish F s (read_at_most test p n rest) ≡ Ok (F s [], rest)
  over s rest zero b = refl
  over s rest (suc n) b = rw b refl

  -- one more member
  pub goes_on : (s t : S) (count i : ℕ) (rest after : List ℕ) (x : A) (total : Result (B × List ℕ) (Stop FaultKind)) → i < count → test rest ≡ true → p rest ≡ Ok (x, after) → ((xs : List A) → F s (x ∷ xs) ≡ F t xs) → total ≡ finish F s (read_at_most test p (count - i) rest) → total ≡ finish F t (read_at_most test p (count - (i + 1)) after)
  goes_on s t count i rest after x total lt b h j so_far = so_far ∙ more s t rest after x (count - i) (count - (i + 1)) (omega arith) b h j

  -- a member that can't be read
  pub ends : (e : CodeStop) (s : S) (count i : ℕ) (rest : List ℕ) (total : Result (B × List ℕ) (Stop FaultKind)) → i < count → test rest ≡ true → IsSameStop e (p rest) → total ≡ finish F s (read_at_most test p (count - i) rest) → IsSameStop e total
  ends stops.Memory s count i rest total lt b h so_far = tt
  ends (stops.Syntax left) s count i rest total lt b h so_far = so_far ∙ stopped s rest (count - i) (count - (i + 1)) (Syntax (chars left.now)) (omega arith) b h
  ends (stops.Faulty kind left) s count i rest total lt b h so_far = so_far ∙ stopped s rest (count - i) (count - (i + 1)) (Faulty kind (chars left.now)) (omega arith) b h

  -- no more members
  pub is_done : (s : S) (count i : ℕ) (rest : List ℕ) (total : Result (B × List ℕ) (Stop FaultKind)) → count ≤ i → total ≡ finish F s (read_at_most test p (count - i) rest) → total ≡ Ok (F s [], rest)
  is_done s count i rest total le so_far = let k : count - i ≡ 0 = omega arith in so_far ∙ rw k refl

  pub is_stopped : (s : S) (count i : ℕ) (rest : List ℕ) (total : Result (B × List ℕ) (Stop FaultKind)) → test rest ≡ false → total ≡ finish F s (read_at_most test p (count - i) rest) → total ≡ Ok (F s [], rest)
  is_stopped s count i rest total b so_far = so_far ∙ over s rest (count - i) b

-- a sequence whose first part can't be read
pub first_stops : {A B : Type 0} (p : Reader FaultKind A) (q : A → Reader FaultKind B) (text : List ℕ) (e : CodeStop) → IsSameStop e (p text) → IsSameStop e (read_sequence p q text)
first_stops p q text stops.Memory h = tt
first_stops p q text (stops.Syntax left) h = first_fails p q text (Syntax (chars left.now)) h
first_stops p q text (stops.Faulty kind left) h = first_fails p q text (Faulty kind (chars left.now)) h

-- other values of what is read
pub record IsValued {A B : Type 0} (f : A → B) (out : Result (A × List ℕ) (Stop FaultKind)) (b : B) (rest : List ℕ) : Type 0 where
  pub value : A
  pub read : out ≡ Ok (value, rest)
  pub made : f value ≡ b

valued_by : {A B : Type 0} (f : A → B) (x : A × List ℕ) (b : B) (rest : List ℕ) → (let p : B × List ℕ = (f x.0, x.1) in p ≡ (b, rest)) → IsValued f (Ok x) b rest
valued_by {A} {B} f x b rest same = record {
  value = x.0;
  read = ap (λ (z : List ℕ). let w : A × List ℕ = (x.0, z) in Ok w) (ap (λ (z : B × List ℕ). z.1) same);
  made = ap (λ (z : B × List ℕ). z.0) same;
}

pub valued_ok : {A B : Type 0} (f : A → B) (out : Result (A × List ℕ) (Stop FaultKind)) (b : B) (rest : List ℕ) → (out >>= λ x. let z : B × List ℕ = (f x.0, x.1) in Ok z) ≡ Ok (b, rest) → IsValued f out b rest
valued_ok f (Ok x) b rest h = valued_by f x b rest cc
valued_ok f (Err e) b rest h = absurd cc

pub valued_err : {A B : Type 0} (f : A → B) (out : Result (A × List ℕ) (Stop FaultKind)) (s : Stop FaultKind) → (out >>= λ x. let z : B × List ℕ = (f x.0, x.1) in Ok z) ≡ Err s → out ≡ Err s
valued_err f (Ok x) s h = absurd cc
valued_err f (Err e) s h = cc

pub valued_stops : {A B : Type 0} (f : A → B) (p : Reader FaultKind A) (text : List ℕ) (e : CodeStop) → IsSameStop e (p text) → IsSameStop e (read_mapped f p text)
valued_stops {A} {B} f p text stops.Memory h = tt
valued_stops {A} {B} f p text (stops.Syntax left) h = ap (λ (r : Result (A × List ℕ) (Stop FaultKind)). r >>= λ x. let z : B × List ℕ = (f x.0, x.1) in Ok z) h
valued_stops {A} {B} f p text (stops.Faulty kind left) h = ap (λ (r : Result (A × List ℕ) (Stop FaultKind)). r >>= λ x. let z : B × List ℕ = (f x.0, x.1) in Ok z) h

pub valued_fails : {A B : Type 0} (f : A → B) (p : Reader FaultKind A) (text : List ℕ) (e : CodeStop) → IsSameStop e (read_mapped f p text) → IsSameStop e (p text)
valued_fails f p text stops.Memory h = tt
valued_fails f p text (stops.Syntax left) h = valued_err f (p text) (Syntax (chars left.now)) h
valued_fails f p text (stops.Faulty kind left) h = valued_err f (p text) (Faulty kind (chars left.now)) h

-- Addresses that are added to a registry or removed from it, one after another.
use Rattle.std.proofs.Common.{◌≡◌, ℕ, ◌+◌, ◌<◌, Bool, true, false, cond, ◌||◌, List, [], ◌∷◌, ◌++◌, length, take, get_or, Option, Result, Ok, Err, OnOk, refl, sym, ap, ◌∙◌}
use Rattle.std.proofs.lemmas.Cmp.{nat_list_eq_equiv}
use Rattle.std.proofs.lemmas.List.{take_more}
use Rattle.std.proofs.lemmas.List.Folds.{list_any-append}
use Rattle.std.specs.Set.{is_member}
use Rattle.std.specs.Str.{bytes_eq}

or-none : (b : Bool) → b ≡ (b || false)
or-none true = refl
or-none false = refl

-- one more address after some
member-more : (us all : List (List ℕ)) (u k : List ℕ) → all ≡ us ++ u ∷ [] → (is_member bytes_eq us k || bytes_eq u k) ≡ is_member bytes_eq all k
member-more us all u k more =
    ap (λ (b : Bool). is_member bytes_eq us k || b) (nat_list_eq_equiv.symm u k ∙ or-none (bytes_eq k u))
    ∙ sym (list_any-append (bytes_eq k) us (u ∷ []))
    ∙ ap (λ (xs : List (List ℕ)). is_member bytes_eq xs k) (sym more)

-- what they map to, where the last one comes first or last
module _ (us all : List (List ℕ)) (u k : List ℕ) (given before : Option ℕ) (more : all ≡ us ++ u ∷ []) where
  either : (a b : Bool) → ◌≡◌ {A = Option ℕ} (cond a given (cond b given before)) (cond (a || b) given before)
  either true b = refl
  either false b = refl

  swapped : (a b : Bool) → ◌≡◌ {A = Option ℕ} (cond b given (cond a given before)) (cond (a || b) given before)
  swapped true true = refl
  swapped true false = refl
  swapped false b = refl

  pub more-first : cond (is_member bytes_eq us k) given (cond (bytes_eq u k) given before) ≡ cond (is_member bytes_eq all k) given before
  more-first = either (is_member bytes_eq us k) (bytes_eq u k) ∙ ap (λ (b : Bool). cond b given before) (member-more us all u k more)

  pub more-last : cond (bytes_eq u k) given (cond (is_member bytes_eq us k) given before) ≡ cond (is_member bytes_eq all k) given before
  more-last = swapped (is_member bytes_eq us k) (bytes_eq u k) ∙ ap (λ (b : Bool). cond b given before) (member-more us all u k more)

pub taken-more : (us : List (List ℕ)) (i : ℕ) (u : List ℕ) → i < length us → u ≡ get_or us i u → take (i + 1) us ≡ take i us ++ u ∷ []
taken-more us i u within is = take_more us i u within ∙ ap (λ (x : List ℕ). take i us ++ x ∷ []) (sym is)

-- what a successful call did
pub succeeded : {T E : Type 0} (r : Result T E) (x : T) (P : Type 0) → r ≡ Ok x → OnOk r P → P
succeeded (Ok y) x P is h = h
succeeded (Err e) x P is h = cc

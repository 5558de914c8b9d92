-- A change that suits the state is refused only for lack of a number.
use Rattle.std.proofs.Common.{◌≡◌, ◌≢◌, ℕ, ◌+◌, ◌≤◌, nat_lt, nat_le, Bool, true, false, ◌&&◌, ◌||◌, List, [], ◌∷◌, ◌++◌, Option, None, option_map, refl, sym, ap, ◌∙◌, arith}
use Rattle.std.specs.List.{AllByRecursion, position_from}
use Rattle.std.specs.Set.{is_member}
use Rattle.std.specs.Str.{bytes_eq}
use Rattle.std.proofs.lemmas.Bool.Decides.{nat_tests}
use Rattle.std.proofs.lemmas.Iterator.Adapters.{position_from-zero}
use Rattle.std.proofs.lemmas.Slice.Eq.{bytes_eq-Decides}
use Rattle.std.specs.Option.{option_or as or_else}
use Rattle.usage_docs.specs.declared.key_repeats.Clash.{Clash}
use Rattle.usage_docs.specs.declared.schema_table.Key.TheVariants.{Uri}
use Rattle.store_core.specs.declared.refusal.StoreRefusal.{StoreRefusal}
use Rattle.store_core.specs.ValidStates.{AreDistinct}
use Rattle.store_core.specs.DocumentChanges.{refusal_if, first_taken_address}
use Rattle.store_core.proofs.DistinctItems.{each-append, each-right, apart-behind, apart-cut}

module _ {X : Type 0} where
  pub apart-before : (xs ys : List X) (n : X) → AreDistinct (xs ++ n ∷ ys) → AllByRecursion (λ y. n ≢ y) xs
  apart-before [] ys n a = tt
  apart-before (x ∷ xs) ys n a = ((λ e. (each-right (λ y. x ≢ y) xs (n ∷ ys) a.0).0 (sym e)), apart-before xs ys n a.1)

  pub apart-unmix : (xs ys zs : List X) → AreDistinct (xs ++ (ys ++ zs)) → AllByRecursion (λ y. AllByRecursion (λ o. y ≢ o) (xs ++ zs)) ys
  apart-unmix xs [] zs a = tt
  apart-unmix xs (y ∷ ys) zs a =
      (each-append (λ o. y ≢ o) xs zs (apart-before xs (ys ++ zs) y a) (each-right (λ o. y ≢ o) ys zs (apart-behind xs (ys ++ zs) y a)), apart-unmix xs ys zs (apart-cut xs (y ∷ []) (ys ++ zs) a))

module _ {X : Type 0} (p : X → Bool) where
  pub no-place : (n : ℕ) (xs : List X) → AllByRecursion (λ y. p y ≡ false) xs → position_from p n xs ≡ None
  no-place n [] h = refl
  no-place n (x ∷ xs) h = rw h.0 (no-place (n + 1) xs h.1)

unlike : (o uri : List ℕ) (b : Bool) → bytes_eq uri o ≡ b → uri ≢ o → b ≡ false
unlike o uri true e ne = absurd (ne ((bytes_eq-Decides uri o).0 e))
unlike o uri false e ne = refl

pub unlike-all : (uri : List ℕ) (others : List (List ℕ)) → AllByRecursion (λ o. uri ≢ o) others → is_member bytes_eq others uri ≡ false
unlike-all uri [] h = refl
unlike-all uri (o ∷ os) h = ap (λ b. b || is_member bytes_eq os uri) (unlike o uri (bytes_eq uri o) refl h.0) ∙ unlike-all uri os h.1

unlike-each : (others own : List (List ℕ)) → AllByRecursion (λ uri. AllByRecursion (λ o. uri ≢ o) others) own → AllByRecursion (λ uri. is_member bytes_eq others uri ≡ false) own
unlike-each others [] h = tt
unlike-each others (uri ∷ uris) h = (unlike-all uri others h.0, unlike-each others uris h.1)

-- where no address of the document is another's, the test finds none
pub nothing-first_taken_address : (others own : List (List ℕ)) → AllByRecursion (λ uri. AllByRecursion (λ o. uri ≢ o) others) own → first_taken_address others own ≡ None
nothing-first_taken_address others own h =
    let test : List ℕ → Bool = λ uri. is_member bytes_eq others uri in
    let clash : ℕ → Clash = λ i. record { path = i ∷ []; key = Uri } in
    ap (λ (i : Option ℕ). option_map clash i) (position_from-zero test own ∙ no-place test 0 own (unlike-each others own h))

pub no-more : (a b : ℕ) → b ≤ a → nat_lt a b ≡ false
no-more a b h = grind (arith, nat_tests)

pub not-yet : (most n : ℕ) → n + 1 ≤ most → (true && nat_le most n) ≡ false
not-yet most n h = grind (arith, nat_tests)

pub not-told : (b : Bool) (r : StoreRefusal) → b ≡ false → refusal_if b r ≡ None
not-told b r e = rw e refl

pub neither : {A : Type 0} (a b : Option A) → a ≡ None → b ≡ None → or_else a b ≡ None
neither a b e g = rw e g

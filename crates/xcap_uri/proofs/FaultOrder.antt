-- Steps that find a value or a fault, and the order of faults that they follow.
use Rattle.std.proofs.Common.{◌≡◌, Result, Ok, Err, inl, inr, refl, sym, subst, ◌∙◌}
use Rattle.xml_names.specs.declared.read_error.ReadError.TheVariants.{Fault, NoMemory}
use Rattle.xml_names.specs.ReadErrors.{ResultSatisfies}
use Rattle.xcap_uri.specs.readers.Steps.{UriError, ◌>>=◌}
use Rattle.xcap_uri.specs.FaultOrder.{FirstOrFault, HoldsOrFault}
use Rattle.xcap_uri.specs.declared.fault.UriFault.{UriFault}

-- what is found is a result of which this holds, and not out of memory
unfoldable pub Meets : {A : Type 0} → (Result A UriFault → Type 0) → Result A UriError → Type 0
Meets P (Ok value) = P (Ok value)
Meets P (Err (Fault fault)) = P (Err fault)
Meets P (Err NoMemory) = ⊥

pub met : {A : Type 0} (P : Result A UriFault → Type 0) (r : Result A UriError) → Meets P r → ResultSatisfies P r
unfolding Meets
met P (Ok value) m = m
met P (Err (Fault fault)) m = m
met P (Err NoMemory) m = tt

pub some_met : {A : Type 0} (P : Result A UriFault → Type 0) (r : Result A UriError) → Meets P r → (answer : Result A UriFault) × P answer
unfolding Meets
some_met P (Ok value) m = (Ok value, m)
some_met P (Err (Fault fault)) m = (Err fault, m)
some_met P (Err NoMemory) m = absurd m

pub meets_so : {A : Type 0} (P Q : Result A UriFault → Type 0) → ((answer : Result A UriFault) → P answer → Q answer) → (r : Result A UriError) → Meets P r → Meets Q r
unfolding Meets
meets_so P Q h (Ok value) m = h (Ok value) m
meets_so P Q h (Err (Fault fault)) m = h (Err fault) m
meets_so P Q h (Err NoMemory) m = m

-- a step finds the value of which this holds, and where there is none, reports this fault
pub record Decides {A : Type 0} (Is : A → Type 0) (fault : UriFault) (r : Result A UriError) : Type 0 where
  pub sound : (a : A) → r ≡ Ok a → Is a
  pub complete : (a : A) → Is a → r ≡ Ok a
  pub refused : (e : UriError) → r ≡ Err e → e ≡ Fault fault

-- two values of one step are equal
pub same_ok : {A : Type 0} (r : Result A UriError) (a b : A) → r ≡ Ok a → r ≡ Ok b → a ≡ b
same_ok (Ok x) a b p q = let i : x ≡ a = cc in let j : x ≡ b = cc in sym i ∙ j
same_ok (Err e) a b p q = absurd cc

none_ok : {A : Type 0} (r : Result A UriError) (e : UriError) (a : A) → r ≡ Err e → r ≡ Ok a → ⊥
none_ok (Ok x) e a p q = absurd cc
none_ok (Err x) e a p q = absurd cc

module _ {A B : Type 0} (Is : A → Type 0) (fault : UriFault) (Next : A → Result B UriFault → Type 0) where
  pub inside : (a : A) → Is a → (s : Result B UriError) → Meets (Next a) s → Meets (FirstOrFault Is fault Next) s
  unfolding Meets
  inside a i (Ok value) m = inl (a, i, m)
  inside a i (Err (Fault f)) m = inl (a, i, m)
  inside a i (Err NoMemory) m = m

  outside : (e : UriError) → e ≡ Fault fault → ((a : A) → Is a → ⊥) → (let s : Result B UriError = Err e in Meets (FirstOrFault Is fault Next) s)
  unfolding Meets
  outside e same none = subst (λ (z : UriError). let s : Result B UriError = Err z in Meets (FirstOrFault Is fault Next) s) (sym same) (inr (none, refl))

  by_result : (r s : Result A UriError) (next : A → Result B UriError) → Decides Is fault r → r ≡ s → ((a : A) → Is a → Meets (Next a) (next a)) → Meets (FirstOrFault Is fault Next) (s >>= next)
  by_result r (Ok a) next d e h = inside a (d.sound a e) (next a) (h a (d.sound a e))
  by_result r (Err x) next d e h = outside x (d.refused x e) (λ a i. none_ok r x a e (d.complete a i))

  -- a step, and what follows it
  pub step : (r : Result A UriError) (next : A → Result B UriError) → Decides Is fault r → ((a : A) → Is a → Meets (Next a) (next a)) → Meets (FirstOrFault Is fault Next) (r >>= next)
  step r next d h = by_result r r next d refl h

  -- it has one result
  pub one_step : (r : Result A UriError) → Decides Is fault r → ((a : A) (x y : Result B UriFault) → Next a x → Next a y → x ≡ y) → (x y : Result B UriFault) → FirstOrFault Is fault Next x → FirstOrFault Is fault Next y → x ≡ y
  one_step r d h x y (inl p) (inl q) =
      let same : p.0 ≡ q.0 = same_ok r p.0 q.0 (d.complete p.0 p.1) (d.complete q.0 q.1) in
      h q.0 x y (subst (λ (a : A). Next a x) same p.2) q.2
  one_step r d h x y (inl p) (inr q) = absurd (q.0 p.0 p.1)
  one_step r d h x y (inr p) (inl q) = absurd (p.0 q.0 q.1)
  one_step r d h x y (inr p) (inr q) = p.1 ∙ sym q.1

module _ {B : Type 0} (Holds : Type 0) (fault : UriFault) (Next : Result B UriFault → Type 0) where
  pub given_next : Holds → (s : Result B UriError) → Meets Next s → Meets (HoldsOrFault Holds fault Next) s
  given_next h s m = meets_so Next (HoldsOrFault Holds fault Next) (λ answer n. inl (h, n)) s m

  pub given_fault : (Holds → ⊥) → (let s : Result B UriError = Err (Fault fault) in Meets (HoldsOrFault Holds fault Next) s)
  unfolding Meets
  given_fault none = inr (none, refl)

  pub one_given : ((x y : Result B UriFault) → Next x → Next y → x ≡ y) → (x y : Result B UriFault) → HoldsOrFault Holds fault Next x → HoldsOrFault Holds fault Next y → x ≡ y
  one_given h x y (inl p) (inl q) = h x y p.1 q.1
  one_given h x y (inl p) (inr q) = absurd (q.0 p.0)
  one_given h x y (inr p) (inl q) = absurd (p.0 q.0)
  one_given h x y (inr p) (inr q) = p.1 ∙ sym q.1

-- Tests of equality for kinds and for children's classes.
use Rattle.std.proofs.Common.{◌≡◌, ◌↔◌, ◌⊎◌, Bool, true, false, ◌||◌, List, [], ◌∷◌, IsTrue, refl, ap, inl, inr}
use Rattle.usage_docs.specs.declared.schema_table.ElementKind.{ElementKind}
use Rattle.usage_docs.specs.declared.schema_table.ElementKind.TheVariants.{ResourceLists, EntryList, Entry, EntryRef, External, DisplayName, RlsServices, Service, ResourceList, Packages, Package}
use Rattle.usage_docs.specs.SchemaTable.{Child, known, foreign, stray, IsOneOf}

abbrev pub same_kind : ElementKind → ElementKind → Bool
same_kind ResourceLists ResourceLists = true
same_kind EntryList EntryList = true
same_kind Entry Entry = true
same_kind EntryRef EntryRef = true
same_kind External External = true
same_kind DisplayName DisplayName = true
same_kind RlsServices RlsServices = true
same_kind Service Service = true
same_kind ResourceList ResourceList = true
same_kind Packages Packages = true
same_kind Package Package = true
same_kind _ _ = false

pub same_kind_exact : (one other : ElementKind) → IsTrue (same_kind one other) ↔ (one ≡ other)
same_kind_exact ResourceLists ResourceLists = (λ _. refl, λ _. refl)
same_kind_exact EntryList EntryList = (λ _. refl, λ _. refl)
same_kind_exact Entry Entry = (λ _. refl, λ _. refl)
same_kind_exact EntryRef EntryRef = (λ _. refl, λ _. refl)
same_kind_exact External External = (λ _. refl, λ _. refl)
same_kind_exact DisplayName DisplayName = (λ _. refl, λ _. refl)
same_kind_exact RlsServices RlsServices = (λ _. refl, λ _. refl)
same_kind_exact Service Service = (λ _. refl, λ _. refl)
same_kind_exact ResourceList ResourceList = (λ _. refl, λ _. refl)
same_kind_exact Packages Packages = (λ _. refl, λ _. refl)
same_kind_exact Package Package = (λ _. refl, λ _. refl)
same_kind_exact _ _ = (λ h. cc, λ e. cc)

abbrev pub same_child : Child → Child → Bool
same_child (known one) (known other) = same_kind one other
same_child foreign foreign = true
same_child stray stray = true
same_child _ _ = false

known_one : (one other : ElementKind) → known one ≡ known other → one ≡ other
known_one one other e = cc

same_child_exact : (one other : Child) → IsTrue (same_child one other) ↔ (one ≡ other)
same_child_exact (known one) (known other) = (λ h. ap known ((same_kind_exact one other).0 h), λ e. (same_kind_exact one other).1 (known_one one other e))
same_child_exact foreign foreign = (λ _. refl, λ _. refl)
same_child_exact stray stray = (λ _. refl, λ _. refl)
same_child_exact _ _ = (λ h. cc, λ e. cc)

-- one of these children equals this one
abbrev pub is_in : List Child → Child → Bool
is_in [] x = false
is_in (y ∷ ys) x = same_child y x || is_in ys x

either : (b d : Bool) → IsTrue (b || d) → IsTrue b ⊎ IsTrue d
either true d h = inl refl
either false d h = inr h

either_of : (b d : Bool) → IsTrue b ⊎ IsTrue d → IsTrue (b || d)
either_of true d h = refl
either_of false d (inl h) = cc
either_of false d (inr h) = h

pub is_in_exact : (ys : List Child) (x : Child) → IsTrue (is_in ys x) ↔ IsOneOf ys x
is_in_exact [] x = (λ h. (let none : ⊥ = cc in none), λ h. absurd h)
is_in_exact (y ∷ ys) x = (
  λ h. elim (either (same_child y x) (is_in ys x) h) [ inl s ↦ inl ((same_child_exact y x).0 s) | inr r ↦ inr ((is_in_exact ys x).0 r) ],
  λ h. either_of (same_child y x) (is_in ys x) (elim h [ inl e ↦ inl ((same_child_exact y x).1 e) | inr r ↦ inr ((is_in_exact ys x).1 r) ]),
)

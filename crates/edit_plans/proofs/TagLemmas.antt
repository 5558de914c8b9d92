-- The conditions on a start tag and its attributes, as the code tests them.
use Rattle.std.proofs.Common.{◌≡◌, ◌↔◌, ℕ, suc, ◌+◌, ◌≤◌, Bool, true, false, cond, not, List, [], ◌∷◌, length, Option, Some, None, find, position, get_or, slice_get, refl, sym, ap, ◌∙◌, subst, arith}
use Rattle.std.proofs.lemmas.Grind.{common_steps}
use Rattle.std.specs.List.{position_or_len}
use Rattle.std.specs.Option.{ForSome}
use Rattle.std.proofs.lemmas.List.Folds.{find_at}
use Rattle.std.proofs.lemmas.List.Quantifiers.{position-Some}
use Rattle.std.proofs.lemmas.Option.{same_Some, slice_get-get_or}
use Rattle.xml_tree.specs.Tree.{Content}
use Rattle.xml_names.specs.declared.names.Attr.{Attr}
use Rattle.usage_docs.specs.declared.schema_table.ElementKind.{ElementKind}
use Rattle.usage_docs.specs.declared.schema_table.ElementKind.TheVariants.{ResourceLists, EntryList, Entry, EntryRef, External, DisplayName, RlsServices, Service, ResourceList, Packages, Package}
use Rattle.usage_docs.specs.ReferenceForms.{are_references_formed}
use Rattle.edit_rules.specs.StartTags.{are_attrs_formed}

-- ---- an element that has a kind, and whose parent has one

pub by_kind : {A B : Type 0} (P : B → Type 0) (asked : Type 0) (row : Option A) (f : A → Option B) (x : A) (y : B) → row ≡ Some x → f x ≡ Some y → asked ↔ P y → asked ↔ ForSome row (λ a. ForSome (f a) P)
by_kind P asked row f x y at_row at_kind same = (
  λ h a is b has.
      let e : x ≡ a = same_Some x a (sym at_row ∙ is) in
      subst P (same_Some y b (sym at_kind ∙ ap f e ∙ has)) (same.0 h),
  λ all. same.1 (all x at_row y at_kind),
)

-- ---- the form of references: only the form of a resource-list depends on what an element
-- contains

pub attrs_decide_form : (kind : ElementKind) (ats : List Attr) (content : Content) → (kind ≡ ResourceList → ⊥) → are_references_formed kind ats content ≡ are_attrs_formed kind ats
unfolding are_references_formed are_attrs_formed
attrs_decide_form ResourceList ats content other = absurd (other refl)
attrs_decide_form ResourceLists ats content other = refl
attrs_decide_form EntryList ats content other = refl
attrs_decide_form Entry ats content other = refl
attrs_decide_form EntryRef ats content other = refl
attrs_decide_form External ats content other = refl
attrs_decide_form DisplayName ats content other = refl
attrs_decide_form RlsServices ats content other = refl
attrs_decide_form Service ats content other = refl
attrs_decide_form Packages ats content other = refl
attrs_decide_form Package ats content other = refl

pub list_formed : (ats : List Attr) (kind : ElementKind) → kind ≡ ResourceList → true ≡ are_attrs_formed kind ats
unfolding are_attrs_formed
list_formed ats kind is = rw is refl

-- ---- the first attribute that passes a test, by its number

module _ {A : Type 0} (passes : A → Bool) (xs : List A) where
  pub found_at_position : (i : ℕ) (item : A) → position passes xs ≡ Some i → item ≡ get_or xs i item → find passes xs ≡ Some item
  found_at_position i item is at =
      let first : position_or_len passes xs ≡ i = grind (arith, common_steps) in
      let inside = (position-Some passes xs i item is).0 in
      find_at passes xs ∙ ap (slice_get xs) first ∙ slice_get-get_or xs i item inside ∙ ap (λ (x : A). Some x) (sym at)

short : {A : Type 0} (passes : A → Bool) (xs : List A) → position_or_len passes xs ≤ length xs
short passes [] = omega arith
short passes (x ∷ xs) = by (passes x) (short passes xs)
  where
    by : (b : Bool) → position_or_len passes xs ≤ length xs → cond (not b) (1 + position_or_len passes xs) 0 ≤ suc (length xs)
    by true rest = omega arith
    by false rest = omega arith

past_end : {A : Type 0} (xs : List A) → slice_get xs (length xs) ≡ None
past_end [] = refl
past_end (x ∷ xs) = past_end xs

pub none_at_position : {A : Type 0} (passes : A → Bool) (xs : List A) → position passes xs ≡ None → find passes xs ≡ None
none_at_position passes xs none =
    let short = short passes xs in
    let past : position_or_len passes xs ≡ length xs = grind (arith, common_steps) in
    find_at passes xs ∙ ap (slice_get xs) past ∙ past_end xs

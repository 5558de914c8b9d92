-- An element with other attributes: what has to hold of the new document is checked of its tag,
-- beside the change.
use Rattle.std.proofs.Common.{◌≡◌, ◌↔◌, inl, inr, ℕ, List, [], ◌∷◌, ◌++◌, remove, Option, Some, None, slice_get, IsTrue, refl, sym, ◌∙◌, subst}
use Rattle.doc_names.specs.declared.usages.Usage.{Usage}
use Rattle.xml_tree.specs.Tree.{Content, last, Tree, child_elements_of, at}
use Rattle.xml_tree.specs.Edits.{put_over}
use Rattle.xml_tree.specs.TreeScopes.{scope_at, inside}
use Rattle.xml_names.specs.declared.names.Attr.{Attr}
use Rattle.usage_docs.specs.declared.schema_table.ElementKind.{ElementKind}
use Rattle.usage_docs.specs.declared.schema_table.ElementKind.TheVariants.{ResourceLists, EntryList, Entry, EntryRef, External, DisplayName, RlsServices, Service, ResourceList, Packages, Package}
use Rattle.usage_docs.specs.declared.schema_table.Key.{Key}
use Rattle.usage_docs.specs.declared.key_repeats.Clash.{Clash}
use Rattle.usage_docs.specs.SchemaTable.{Scope, root_kind}
use Rattle.usage_docs.specs.KeyAttributes.{are_attrs_allowed}
use Rattle.usage_docs.specs.UniqueKeys.{RepeatsKeyAt, HasUniqueKeys, IsFirstClash}
use Rattle.usage_docs.specs.ReferenceForms.{MeetsConstraints, are_references_formed}
use Rattle.usage_docs.specs.readers.SiblingElements.{IsFirstInOrder}
use Rattle.usage_docs.specs.Validity.{AllMatchKinds, MatchesKind, IsValidDocument}
use Rattle.edit_rules.specs.NewElements.{IsDuplicate, ClashesInside, ClashesBeside}
use Rattle.usage_docs.specs.ElementKinds.{kind_at}
use Rattle.edit_rules.specs.StartTags.{HasFormedAttrs, AreAttrsAllowed, are_attrs_formed, start_tag_with, with_attrs}
use Rattle.edit_rules.proofs.ClashesAt.{mark_of_tag, unique_there, up_one}
use Rattle.edit_rules.proofs.ReplacedElements.{first_over, foreign_over, formed_over}
use Rattle.edit_rules.proofs.Places.{put_again}
use Rattle.edit_rules.proofs.ValidInside.{valid_over}

-- an element kind with other attributes that pass
with_pass : (own : ElementKind) (c : Scope) (old new : List Attr) (content : Content) → IsTrue (are_attrs_allowed own c new) → MatchesKind own c old content × AllMatchKinds own c content → MatchesKind own c new content × AllMatchKinds own c content
with_pass own c old new content pass k = (record { attributes = pass; text = k.0.text; children = k.0.children }, k.1)

-- ---- the form of references

attrs_decide : (own : ElementKind) (old new : List Attr) (content : Content) → IsTrue (are_references_formed own old content) → IsTrue (are_references_formed own new content) ↔ IsTrue (are_attrs_formed own new)
unfolding are_references_formed are_attrs_formed
attrs_decide ResourceList old new content h = (λ _. refl, λ _. h)
attrs_decide ResourceLists old new content h = (λ x. x, λ x. x)
attrs_decide EntryList old new content h = (λ x. x, λ x. x)
attrs_decide Entry old new content h = (λ x. x, λ x. x)
attrs_decide EntryRef old new content h = (λ x. x, λ x. x)
attrs_decide External old new content h = (λ x. x, λ x. x)
attrs_decide DisplayName old new content h = (λ x. x, λ x. x)
attrs_decide RlsServices old new content h = (λ x. x, λ x. x)
attrs_decide Service old new content h = (λ x. x, λ x. x)
attrs_decide Packages old new content h = (λ x. x, λ x. x)
attrs_decide Package old new content h = (λ x. x, λ x. x)

-- ---- clashes: an element with this tag has the same clashes beside it as the tag, where none
-- are in it

first_alike : (R S : List ℕ → Key → Type 0) (base : List ℕ) (found : Option Clash) → ((p : List ℕ) (key : Key) → R p key ↔ S p key) → IsFirstInOrder R base found → IsFirstInOrder S base found
first_alike R S base None same f = λ p key h. f p key ((same p key).1 h)
first_alike R S base (Some clash) same f = (f.0, (f.1.0, (same f.0 clash.key).0 f.1.1, λ q key h. f.1.2 q key ((same q key).1 h)))

none_in_none : (own : ElementKind) (c : Scope) (p : List ℕ) (key : Key) → RepeatsKeyAt own c [] p key → ⊥
none_in_none own c [] key h = h
none_in_none own c (n ∷ []) key h = let e = h.this in cc
none_in_none own c (n ∷ m ∷ p) key h = let e = h.1.1.0 in cc

module _ (kind : ElementKind) (c : Scope) (others : List Tree) (i : ℕ) (ats : List Attr) (child_element : Tree) (clean : (p : List ℕ) (key : Key) → ClashesInside kind c child_element p key → ⊥) where
  new : Tree
  new = with_attrs ats child_element

  tag : Tree
  tag = start_tag_with ats child_element

  twin_to : (j : ℕ) (key : Key) → IsDuplicate (record { kind = kind; scope = c; elements = others }) tag j key → IsDuplicate (record { kind = kind; scope = c; elements = others }) new j key
  unfolding new tag
  twin_to j key h = record { shared = h.shared; that = h.that; of_new = mark_of_tag kind c tag child_element.content ∙ h.of_new; by_key = h.by_key }

  twin_from : (j : ℕ) (key : Key) → IsDuplicate (record { kind = kind; scope = c; elements = others }) new j key → IsDuplicate (record { kind = kind; scope = c; elements = others }) tag j key
  unfolding new tag
  twin_from j key h = record { shared = h.shared; that = h.that; of_new = mark_of_tag kind c new (last []) ∙ h.of_new; by_key = h.by_key }

  pub same_clashes : (r : List ℕ) (key : Key) → ClashesBeside (record { kind = kind; scope = c; elements = others }) (start_tag_with ats child_element) i r key ↔ ClashesBeside (record { kind = kind; scope = c; elements = others }) (with_attrs ats child_element) i r key
  unfolding new tag
  same_clashes r key = (to, from)
    where
      to : ClashesBeside (record { kind = kind; scope = c; elements = others }) tag i r key → ClashesBeside (record { kind = kind; scope = c; elements = others }) new i r key
      to (inl (is, (j, (lt, h)))) = inl (is, (j, (lt, twin_to j key h)))
      to (inr (inl (p, (is, h)))) = absurd (none_in_none h.0 (inside c tag) p key h.1.1)
      to (inr (inr (j, (is, (le, h))))) = inr (inr (j, (is, (le, twin_to j key h))))

      from : ClashesBeside (record { kind = kind; scope = c; elements = others }) new i r key → ClashesBeside (record { kind = kind; scope = c; elements = others }) tag i r key
      from (inl (is, (j, (lt, h)))) = inl (is, (j, (lt, twin_from j key h)))
      from (inr (inl (p, (is, h)))) = absurd (clean p key h)
      from (inr (inr (j, (is, (le, h))))) = inr (inr (j, (is, (le, twin_from j key h))))

-- ---- below the root

module _ (u : Usage) (t parent child_element : Tree) (q : List ℕ) (i : ℕ) (ats : List Attr) (there : at q t ≡ Some parent) (is_kid : slice_get (child_elements_of parent) i ≡ Some child_element) (at_p : at (q ++ i ∷ []) t ≡ Some child_element) where
  abbrev same : put_over (q ++ i ∷ []) child_element t ≡ t
  same = put_again (q ++ i ∷ []) child_element t at_p

  pub valid_retag : IsValidDocument u t → IsValidDocument u (put_over (q ++ i ∷ []) (with_attrs ats child_element) t) ↔ AreAttrsAllowed (kind_at u t q) (scope_at q t) (start_tag_with ats child_element)
  valid_retag old =
      let a = valid_over u t parent child_element (with_attrs ats child_element) q i there is_kid old in
      let was = (valid_over u t parent child_element child_element q i there is_kid old).0 (subst (λ (x : Tree). IsValidDocument u x) (sym same) old) in (
        λ s kind is own of. ((a.0 s kind is).0 own of).0.attributes,
        λ h. a.1 (λ kind is. let o = was kind is in ((λ own of. with_pass own (inside (scope_at q t) child_element) child_element.attrs ats child_element.content (h kind is own of) (o.0 own of)), o.1, o.2)),
      )

  pub formed_retag : MeetsConstraints u t → MeetsConstraints u (put_over (q ++ i ∷ []) (with_attrs ats child_element) t) ↔ HasFormedAttrs (kind_at u t q) (scope_at q t) (start_tag_with ats child_element)
  formed_retag old =
      let a = formed_over u t parent child_element (with_attrs ats child_element) q i there is_kid old in
      let was = (formed_over u t parent child_element child_element q i there is_kid old).0 (subst (λ (x : Tree). MeetsConstraints u x) (sym same) old) in (
        λ s kind is own of. (attrs_decide own child_element.attrs ats child_element.content (was kind is own of).0).0 (a.0 s kind is own of).0,
        λ h. a.1 (λ kind is own of. ((attrs_decide own child_element.attrs ats child_element.content (was kind is own of).0).1 (h kind is own of), (was kind is own of).1)),
      )

  module _ (unique : HasUniqueKeys u t) where
    none_inside : (kind : ElementKind) → kind_at u t q ≡ Some kind → (p : List ℕ) (key : Key) → ClashesInside kind (scope_at q t) child_element p key → ⊥
    none_inside kind is p key h =
        unique_there u t parent q kind there is unique (i ∷ p) key (up_one kind h.0 (scope_at q t) (child_elements_of parent) i child_element key is_kid h.1.0 p h.1.1)

    pub first_retag : (kind : ElementKind) → kind_at u t q ≡ Some kind → (found : Option Clash)
        → IsFirstInOrder (ClashesBeside (record { kind = kind; scope = scope_at q t; elements = remove (child_elements_of parent) i }) (start_tag_with ats child_element) i) q found ↔ IsFirstClash u (put_over (q ++ i ∷ []) (with_attrs ats child_element) t) found
    first_retag kind is found =
        let c = scope_at q t in
        let others = remove (child_elements_of parent) i in
        let same_both = same_clashes kind c others i ats child_element (none_inside kind is) in
        let a = first_over u t parent child_element (with_attrs ats child_element) q i there is_kid unique kind is found in (
          λ f. a.0 (first_alike (ClashesBeside (record { kind = kind; scope = c; elements = others }) (start_tag_with ats child_element) i) (ClashesBeside (record { kind = kind; scope = c; elements = others }) (with_attrs ats child_element) i) q found same_both f),
          λ f. first_alike (ClashesBeside (record { kind = kind; scope = c; elements = others }) (with_attrs ats child_element) i) (ClashesBeside (record { kind = kind; scope = c; elements = others }) (start_tag_with ats child_element) i) q found (λ p key. ((same_both p key).1, (same_both p key).0)) (a.1 f),
        )

    pub foreign_retag : kind_at u t q ≡ None → HasUniqueKeys u (put_over (q ++ i ∷ []) (with_attrs ats child_element) t)
    foreign_retag none = foreign_over u t parent child_element (with_attrs ats child_element) q i there is_kid unique none

-- ---- the root

pub valid_root : (u : Usage) (t : Tree) (ats : List Attr) → IsValidDocument u t → IsValidDocument u (with_attrs ats t) ↔ IsTrue (are_attrs_allowed (root_kind u) (t.decls ∷ []) ats)
valid_root u t ats old = (λ s. s.valid.0.attributes, λ h. record { root = old.root; valid = with_pass (root_kind u) (t.decls ∷ []) t.attrs ats t.content h old.valid })

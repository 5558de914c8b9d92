-- Each tree has exactly one result: a first fault, or none.
use Rattle.std.proofs.Common.{◌≡◌, ◌⊎◌, ℕ, suc, Bool, true, false, List, [], ◌∷◌, ◌++◌, length, slice_get, take, Option, None, Some, IsTrue, inl, inr, refl, sym, ap, ap₂, subst, ◌∙◌, arith, append_assoc, append-nil}
use Rattle.std.specs.Option.{ForSome}
use Rattle.std.specs.Str.{bytes_eq}
use Rattle.std.proofs.lemmas.Option.{same_Some}
use Rattle.std.specs.Cmp.Lexicographic.{bytes_decides}
use Rattle.xml_tree.specs.Tree.{Content, Tree, child_elements, child_elements_of, last, more, comment_node, tree_of}
use Rattle.xml_names.specs.declared.names.Attr.{Attr}
use Rattle.xml_tree.specs.TreeScopes.{inside}
use Rattle.usage_docs.specs.UniqueKeys.{ClashesAt, IsFirstClash, SiblingKey, IsNotAfter, RepeatsKey, RepeatsKeyAt, sibling_key}
use Rattle.usage_docs.specs.ReferenceForms.{AllReferencesFormed, MeetsConstraints, are_references_formed}
use Rattle.usage_docs.specs.KeyAttributes.{are_attrs_allowed, key_of, value_of}
use Rattle.usage_docs.specs.SchemaTable.{Scope, Child, is_root, items_in, kind_of, content_model_of, root_kind, MatchesModel as Matches}
use Rattle.usage_docs.specs.readers.ContentParts.{end_part, may_follow, part_of_class}
use Rattle.usage_docs.specs.readers.SiblingElements.{IsFirstInOrder}
use Rattle.usage_docs.specs.ContentTexts.{content_text}
use Rattle.usage_docs.specs.Validity.{AllMatchKinds, MatchesKind, IsValidDocument, children_of, is_text_allowed}
use Rattle.usage_docs.proofs.KindTests.{same_kind, same_kind_exact}
use Rattle.usage_docs.proofs.ContentMatches.{Chain, matched}
use Rattle.usage_docs.specs.declared.key_repeats.Clash.{Clash}
use Rattle.usage_docs.specs.declared.schema_table.Key.{Key}
use Rattle.usage_docs.specs.declared.schema_table.ElementKind.{ElementKind}
use Rattle.usage_docs.proofs.EarlierMarks.{IsAmong, RepeatedKey, RepeatsHere, marks_of}
use Rattle.usage_docs.proofs.ClashLemmas.{NoneBefore, at_below, at_here, at_none, found, none_at_end, passed}
use Rattle.doc_names.specs.declared.usages.Usage.{Usage}
use Rattle.usage_docs.specs.Validation.{HasFirstFault}
use Rattle.usage_docs.specs.declared.validation.Fault.{Fault}
use Rattle.usage_docs.specs.declared.validation.Fault.TheVariants.{Invalid, Unformed, Repeated}

-- ---- what holds or doesn't

abbrev Decided : Type 0 → Type 0
Decided P = P ⊎ (P → ⊥)

test_decided : (b : Bool) → Decided (IsTrue b)
test_decided true = inl refl
test_decided false = inr (λ h. cc)

both_decided : {P Q : Type 0} → Decided P → Decided Q → Decided (P × Q)
both_decided (inl p) (inl q) = inl (p, q)
both_decided (inl p) (inr no_q) = inr (λ h. no_q h.1)
both_decided (inr no_p) q = inr (λ h. no_p h.0)

some_decided : {A : Type 0} (o : Option A) (P : A → Type 0) → ((x : A) → Decided (P x)) → Decided (ForSome o P)
some_decided None P d = inl (λ x e. (let none : ⊥ = cc in absurd none))
some_decided (Some y) P d = elim (d y) [ inl p ↦ inl (λ x e. subst P (same_Some y x e) p) | inr fails ↦ inr (λ h. fails (h y refl)) ]

-- ---- the schema and the constraints

chain_decided : (row : ElementKind) (xs : List Child) (before : ℕ) → Decided (Chain row before xs)
chain_decided row [] before = test_decided (may_follow row before end_part)
chain_decided row (x ∷ xs) before = both_decided (test_decided (may_follow row before (part_of_class row x))) (chain_decided row xs (part_of_class row x))

matches_decided : (row : ElementKind) (xs : List Child) → Decided (Matches (items_in (content_model_of row)) xs)
matches_decided row xs =
    let exact = matched row xs in
    elim (chain_decided row xs 0) [ inl h ↦ inl (exact.0 h) | inr fails ↦ inr (λ m. fails (exact.1 m)) ]

keeps_decided : (kind : ElementKind) (c : Scope) (ats : List Attr) (content : Content) → Decided (MatchesKind kind c ats content)
keeps_decided kind c ats content =
    elim (both_decided (test_decided (are_attrs_allowed kind c ats)) (both_decided (test_decided (is_text_allowed kind (content_text content))) (matches_decided kind (children_of kind c content)))) [
      | inl h ↦ inl (record { attributes = h.0; text = h.1.0; children = h.1.1 })
      | inr fails ↦ inr (λ k. fails (k.attributes, (k.text, k.children)))
    ]

all_decided : (content : Content) (row : ElementKind) (c : Scope) → Decided (AllMatchKinds row c content)
all_decided (last t) row c = inl tt
all_decided (comment_node t text rest) row c = all_decided rest row c
all_decided (more t n ds ats k rest) row c =
    both_decided
    (some_decided (kind_of row (c ++ ds ∷ []) n) (λ kind. MatchesKind kind (c ++ ds ∷ []) ats k × AllMatchKinds kind (c ++ ds ∷ []) k)
    (λ kind. both_decided (keeps_decided kind (c ++ ds ∷ []) ats k) (all_decided k kind (c ++ ds ∷ []))))
    (all_decided rest row c)

formed_decided : (content : Content) (row : ElementKind) (c : Scope) → Decided (AllReferencesFormed row c content)
formed_decided (last t) row c = inl tt
formed_decided (comment_node t text rest) row c = formed_decided rest row c
formed_decided (more t n ds ats k rest) row c =
    both_decided
    (some_decided (kind_of row (c ++ ds ∷ []) n) (λ kind. IsTrue (are_references_formed kind ats k) × AllReferencesFormed kind (c ++ ds ∷ []) k)
    (λ kind. both_decided (test_decided (are_references_formed kind ats k)) (formed_decided k kind (c ++ ds ∷ []))))
    (formed_decided rest row c)

schema_decided : (usage : Usage) (t : Tree) → Decided (IsValidDocument usage t)
schema_decided usage t =
    let scope : Scope = t.decls ∷ [] in
    elim (both_decided (test_decided (is_root usage scope t.name)) (both_decided (keeps_decided (root_kind usage) scope t.attrs t.content) (all_decided t.content (root_kind usage) scope))) [
      | inl h ↦ inl (record { root = h.0; valid = h.1 })
      | inr fails ↦ inr (λ s. fails (s.root, s.valid))
    ]

-- ---- repeated keys among siblings

kind_decided : (one other : ElementKind) → Decided (one ≡ other)
kind_decided one other =
    let exact = same_kind_exact one other in
    elim (test_decided (same_kind one other)) [ inl h ↦ inl (exact.0 h) | inr fails ↦ inr (λ e. fails (exact.1 e)) ]

bytes_decided : (one other : List ℕ) → Decided (one ≡ other)
bytes_decided one other = elim (test_decided (bytes_eq one other)) [ inl h ↦ inl ((bytes_decides one other).0 h) | inr fails ↦ inr (λ e. fails ((bytes_decides one other).1 e)) ]

mark_decided : (one other : SiblingKey) → Decided (one ≡ other)
mark_decided one other =
    elim (both_decided (kind_decided one.kind other.kind) (bytes_decided one.value other.value)) [
      | inl h ↦ inl (ap₂ sibling_key h.0 h.1)
      | inr fails ↦ inr (λ e. fails (ap (λ (m : SiblingKey). m.kind) e, ap (λ (m : SiblingKey). m.value) e))
    ]

among_decided : (ms : List SiblingKey) (m : SiblingKey) → Decided (IsAmong ms m)
among_decided [] m = inr (λ h. h)
among_decided (n ∷ ns) m =
    elim (mark_decided n m) [
      | inl e ↦ inl (inl e)
      | inr other ↦ elim (among_decided ns m) [ inl h ↦ inl (inr h) | inr fails ↦ inr (λ h. elim h [ inl e ↦ other e | inr r ↦ fails r ]) ]
    ]

-- what exists is found
abbrev ValidationResult : {A : Type 0} → (A → Type 0) → Type 0
ValidationResult {A} P = (x : A) × P x

module _ (ms : List SiblingKey) (kind : ElementKind) (ats : List Attr) where
  valued_key : (key : Key) (value : Option (List ℕ)) → key_of kind ≡ Some key → value_of key ats ≡ value → ValidationResult (RepeatedKey ms kind ats)
  valued_key key None of_kind written = (
    None,
    λ other. (
      λ e. cc,
      λ h.
          (let same = same_Some key other (sym of_kind ∙ h.1.0) in
          let there : None ≡ Some h.0 = sym written ∙ ap (λ k. value_of k ats) same ∙ h.1.1 in
          cc),
    ),
  )
  valued_key key (Some value) of_kind written =
      elim (among_decided ms (sibling_key kind value)) [
        | inl among ↦ (Some key, λ other. (λ e. (value, (of_kind ∙ e, ap (λ k. value_of k ats) (sym (same_Some key other e)) ∙ written, among)), λ h. sym of_kind ∙ h.1.0))
        | inr fails ↦ (
          None,
          λ other. (
            λ e. cc,
            λ h.
                (let same = same_Some key other (sym of_kind ∙ h.1.0) in
                let there = same_Some value h.0 (sym written ∙ ap (λ k. value_of k ats) same ∙ h.1.1) in
                absurd (fails (subst (λ v. IsAmong ms (sibling_key kind v)) (sym there) h.1.2))),
          ),
        )
      ]

  repeated_key : (key : Option Key) → key_of kind ≡ key → ValidationResult (RepeatedKey ms kind ats)
  repeated_key None of_kind = (None, λ other. (λ e. cc, λ h. (let e : None ≡ Some other = sym of_kind ∙ h.1.0 in cc)))
  repeated_key (Some key) of_kind = valued_key key (value_of key ats) of_kind refl

-- the first clash at an element after its siblings, where the one below it is found
module _ (row : ElementKind) (c : Scope) (ms : List SiblingKey) (child_element : Tree) (here : List ℕ) where
  of_kind_first : (kind : ElementKind) → kind_of row (inside c child_element) child_element.name ≡ Some kind → ValidationResult (RepeatedKey ms kind child_element.attrs) → ValidationResult (IsFirstInOrder (RepeatsKeyAt kind (inside c child_element) (child_elements_of child_element)) here)
      → ValidationResult (IsFirstInOrder (RepeatsHere row c ms child_element) here)
  of_kind_first kind e (None, h) below = (below.0, at_below row c ms child_element kind e here below.0 h below.1)
  of_kind_first kind e (Some key, h) below =
      let clash : Clash = record { path = here; key = key } in
      (Some clash, at_here row c ms child_element kind e here clash refl h)

  first_here : (kind : Option ElementKind) → kind_of row (inside c child_element) child_element.name ≡ kind → ((k : ElementKind) → ValidationResult (IsFirstInOrder (RepeatsKeyAt k (inside c child_element) (child_elements_of child_element)) here)) → ValidationResult (IsFirstInOrder (RepeatsHere row c ms child_element) here)
  first_here None e below = (None, at_none row c ms child_element here e)
  first_here (Some kind) e below = of_kind_first kind e (repeated_key ms kind child_element.attrs (key_of kind) refl) (below kind)

child_behind : (front rest : List Tree) (child_element : Tree) → slice_get (front ++ child_element ∷ rest) (length front) ≡ Some child_element
child_behind [] rest child_element = refl
child_behind (x ∷ front) rest child_element = child_behind front rest child_element

one_longer : (front : List Tree) (child_element : Tree) → length (front ++ child_element ∷ []) ≡ suc (length front)
one_longer [] child_element = refl
one_longer (x ∷ front) child_element = ap suc (one_longer front child_element)

-- the first clash of one relation, or else of another
here_or_later : (R S : List ℕ → Key → Type 0) (here base : List ℕ) → ValidationResult (IsFirstInOrder R here) → ((clash : Clash) → IsFirstInOrder R here (Some clash) → IsFirstInOrder S base (Some clash)) → (IsFirstInOrder R here None → ValidationResult (IsFirstInOrder S base)) → ValidationResult (IsFirstInOrder S base)
here_or_later R S here base (None, h) is later = later h
here_or_later R S here base (Some clash, h) is later = (Some clash, is clash h)

-- the first clash among the children of an element, after the ones before this content
first_clash : (content : Content) (row : ElementKind) (c : Scope) (xs front : List Tree) (base : List ℕ) → xs ≡ front ++ child_elements content → NoneBefore row c xs (length front) → ValidationResult (IsFirstInOrder (RepeatsKeyAt row c xs) base)
first_clash (last t) row c xs front base is none = (None, none_at_end row c xs (length front) (ap length (sym (is ∙ append-nil front))) none)
first_clash (comment_node t text rest) row c xs front base is none = first_clash rest row c xs front base is none
first_clash (more t n ds ats k rest) row c xs front base is none =
    let child_element : Tree = tree_of n ds ats k in
    let place : ℕ = length front in
    let here : List ℕ = base ++ place ∷ [] in
    let there : slice_get xs place ≡ Some child_element = ap (λ (l : List Tree). slice_get l place) is ∙ child_behind front (child_elements rest) child_element in
    let at_kid = first_here row c (marks_of row c (take place xs)) child_element here (kind_of row (inside c child_element) child_element.name) refl
    (λ kind. first_clash k kind (inside c child_element) (child_elements k) [] here refl (λ i p key less r. absurd (omega (arith, less)))) in
    here_or_later (RepeatsHere row c (marks_of row c (take place xs)) child_element) (RepeatsKeyAt row c xs) here base at_kid (λ clash h. found row c xs child_element place there base here clash refl none h)
    (λ h. first_clash rest row c xs (front ++ child_element ∷ []) base (is ∙ sym (append_assoc front (child_element ∷ []) (child_elements rest)))
    (passed row c xs child_element place there none h (length (front ++ child_element ∷ [])) (one_longer front child_element)))

-- ---- the first fault

pub from_top : (usage : Usage) (t : Tree) (o : Option Clash) → IsFirstInOrder (RepeatsKeyAt (root_kind usage) (t.decls ∷ []) (child_elements_of t)) [] o → IsFirstClash usage t o
from_top usage t None h = h
from_top usage t (Some clash) h =
    (subst (λ (p : List ℕ). ClashesAt usage t p clash.key) (sym h.1.0) h.1.1, λ q key r. subst (λ (p : List ℕ). IsNotAfter p q) (sym h.1.0) (h.1.2 q key r))

clash_judged : (usage : Usage) (t : Tree) → IsValidDocument usage t → MeetsConstraints usage t → (o : Option Clash) → IsFirstClash usage t o → ValidationResult (HasFirstFault usage t)
clash_judged usage t valid formed None h = (None, (valid, formed, h))
clash_judged usage t valid formed (Some clash) h = (Some (Repeated clash), (valid, formed, h))

pub judgement : (usage : Usage) (t : Tree) → (fault : Option Fault) × HasFirstFault usage t fault
judgement usage t =
    elim (schema_decided usage t) [
      | inr fails ↦ (Some Invalid, fails)
      | inl valid ↦ elim (formed_decided t.content (root_kind usage) (t.decls ∷ [])) [
        | inr fails ↦ (Some Unformed, (valid, fails))
        | inl formed ↦ (let first = first_clash t.content (root_kind usage) (t.decls ∷ []) (child_elements_of t) [] [] refl (λ i p key less r. absurd (omega (arith, less))) in
            clash_judged usage t valid formed first.0 (from_top usage t first.0 first.1))
      ]
    ]

-- ---- there is one first clash

one_some : {A : Type 0} (o : Option A) (x y : A) → o ≡ Some x → o ≡ Some y → x ≡ y
one_some o x y p q = let both : Some x ≡ Some y = sym p ∙ q in cc

repeats_one : (row : ElementKind) (c : Scope) (child_elements : List Tree) (i : ℕ) (key other : Key) → RepeatsKey row c child_elements i key → RepeatsKey row c child_elements i other → key ≡ other
repeats_one row c child_elements i key other r s =
    let same = one_some _ r.shared s.shared r.this s.this in
    one_some (key_of s.shared.kind) key other (ap (λ m. key_of m.kind) (sym same) ∙ r.by_key) s.by_key

key_one : (row : ElementKind) (c : Scope) (child_elements : List Tree) (p : List ℕ) (key other : Key) → RepeatsKeyAt row c child_elements p key → RepeatsKeyAt row c child_elements p other → key ≡ other
key_one row c child_elements [] key other r s = absurd r
key_one row c child_elements (i ∷ []) key other r s = repeats_one row c child_elements i key other r s
key_one row c child_elements (i ∷ n ∷ p) key other (child_element, (kind, (there, of_kind, r))) (child_element', (kind', (there', of_kind', s))) =
    let same_kid = one_some (slice_get child_elements i) child_element' child_element there' there in
    let same_kind = one_some (kind_of row (inside c child_element) child_element.name) kind' kind (ap (λ (k : Tree). kind_of row (inside c k) k.name) (sym same_kid) ∙ of_kind') of_kind in
    let s_here : RepeatsKeyAt kind (inside c child_element) (child_elements_of child_element) (n ∷ p) other =
    subst (λ (k : ElementKind). RepeatsKeyAt k (inside c child_element) (child_elements_of child_element) (n ∷ p) other) same_kind (subst (λ (k : Tree). RepeatsKeyAt kind' (inside c k) (child_elements_of k) (n ∷ p) other) same_kid s) in
    key_one kind (inside c child_element) (child_elements_of child_element) (n ∷ p) key other r s_here

-- two paths of which neither is later are equal
path_one : (p q : List ℕ) → IsNotAfter p q → IsNotAfter q p → p ≡ q
path_one [] [] h k = refl
path_one [] (m ∷ q) h k = absurd k
path_one (n ∷ p) [] h k = absurd h
path_one (n ∷ p) (m ∷ q) (inl less) (inl greater) = absurd (omega (arith, less, greater))
path_one (n ∷ p) (m ∷ q) (inl less) (inr greater) = let e = greater.0 in absurd (omega (arith, less, e))
path_one (n ∷ p) (m ∷ q) (inr same) (inl greater) = let e = same.0 in absurd (omega (arith, greater, e))
path_one (n ∷ p) (m ∷ q) (inr same) (inr greater) = ap (λ (x : ℕ). x ∷ p) same.0 ∙ ap (λ (r : List ℕ). m ∷ r) (path_one p q same.1 greater.1)

clash_one : (usage : Usage) (t : Tree) (clash other : Clash) → IsFirstClash usage t (Some clash) → IsFirstClash usage t (Some other) → clash ≡ other
clash_one usage t clash other f g =
    let path = path_one clash.path other.path (f.1 other.path other.key g.0) (g.1 clash.path clash.key f.0) in
    let here : ClashesAt usage t other.path clash.key = subst (λ (p : List ℕ). ClashesAt usage t p clash.key) path f.0 in
    let key = key_one (root_kind usage) (t.decls ∷ []) (child_elements_of t) other.path clash.key other.key here g.0 in
    let with_path : List ℕ → Clash = λ p. record { path = p; key = clash.key } in
    let with_key : Key → Clash = λ k. record { path = other.path; key = k } in
    ap with_path path ∙ ap with_key key

-- ---- there is one result

pub judged_one : (usage : Usage) (t : Tree) (one other : Option Fault) → HasFirstFault usage t one → HasFirstFault usage t other → one ≡ other
judged_one usage t (Some Invalid) (Some Invalid) j k = refl
judged_one usage t (Some Invalid) (Some Unformed) j k = absurd (j k.0)
judged_one usage t (Some Invalid) (Some (Repeated clash)) j k = absurd (j k.0)
judged_one usage t (Some Invalid) None j k = absurd (j k.0)
judged_one usage t (Some Unformed) (Some Invalid) j k = absurd (k j.0)
judged_one usage t (Some Unformed) (Some Unformed) j k = refl
judged_one usage t (Some Unformed) (Some (Repeated clash)) j k = absurd (j.1 k.1)
judged_one usage t (Some Unformed) None j k = absurd (j.1 k.1)
judged_one usage t (Some (Repeated clash)) (Some Invalid) j k = absurd (k j.0)
judged_one usage t (Some (Repeated clash)) (Some Unformed) j k = absurd (k.1 j.1)
judged_one usage t (Some (Repeated clash)) (Some (Repeated other)) j k = ap (λ (x : Clash). Some (Repeated x)) (clash_one usage t clash other j.2 k.2)
judged_one usage t (Some (Repeated clash)) None j k = absurd (k.2 clash.path clash.key j.2.0)
judged_one usage t None (Some Invalid) j k = absurd (k j.0)
judged_one usage t None (Some Unformed) j k = absurd (k.1 j.1)
judged_one usage t None (Some (Repeated clash)) j k = absurd (j.2 clash.path clash.key k.2.0)
judged_one usage t None None j k = refl

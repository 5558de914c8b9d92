-- What a walk has found so far, with one more node, and at the end.
use Rattle.std.proofs.Common.{◌≡◌, ◌≤◌, ◌<◌, ◌+◌, ◌↔◌, ◌&&◌, ℕ, suc, Bool, true, false, cond, IsTrue, List, [], ◌∷◌, ◌++◌, length, take, drop, get_or, Option, None, Some, slice_get, is_some, option_map, refl, sym, ap, ap₂, ◌∙◌, subst, inl, inr, arith, append_assoc, length-append}
use Rattle.std.specs.Option.{ForSome}
use Rattle.xml_names.specs.declared.names.Attr.{Attr}
use Rattle.doc_names.specs.declared.usages.Usage.{Usage}
use Rattle.usage_docs.specs.declared.validation.Fault.TheVariants.{Invalid, Unformed, Repeated}
use Rattle.usage_docs.specs.declared.validation_result.ValidationResult.{ValidationResult}
use Rattle.usage_docs.specs.Validation.{HasFirstFault}
use Rattle.usage_docs.specs.KeyAttributes.{are_attrs_allowed}
use Rattle.usage_docs.specs.Validity.{IsValidDocument, IsValidOfKind}
use Rattle.usage_docs.proofs.ChildWalks.{held_kept, keeps_held}
use Rattle.std.proofs.Math.Seq.{drop-cons}
use Rattle.std.proofs.lemmas.Bool.{cases_lt, false≢true}
use Rattle.std.proofs.lemmas.Option.{same_Some}
use Rattle.xml_tree.specs.Tree.{Content, last, more, comment_node, Tree, content_height, child_elements, child_elements_of}
use Rattle.xml_tree.specs.declared.tree.Node.{Node}
use Rattle.xml_tree.specs.declared.tree.Node.TheVariants.{Elem, Chars, Comment}
use Rattle.xml_tree.specs.TreeScopes.{inside}
use Rattle.usage_docs.specs.declared.key_repeats.Clash.{Clash}
use Rattle.usage_docs.specs.declared.key_repeats.KeyedChild.{KeyedChild}
use Rattle.usage_docs.specs.declared.key_repeats.KeyRepeat.{KeyRepeat}
use Rattle.usage_docs.specs.declared.schema_table.Key.{Key}
use Rattle.usage_docs.specs.declared.schema_table.ElementKind.{ElementKind}
use Rattle.usage_docs.specs.declared.validation_result.ChildScan.{ChildScan}
use Rattle.usage_docs.specs.UniqueKeys.{IsFirstClash, IsNotAfter, RepeatsKey, RepeatsKeyAt, sibling_key_of}
use Rattle.usage_docs.specs.ReferenceForms.{AllReferencesFormed, MeetsConstraints, IsFormedNode}
use Rattle.usage_docs.specs.SchemaTable.{Scope, is_root, kind_of, root_kind}
use Rattle.usage_docs.specs.readers.FirstFaults.{IsFirstClashAfter, IsFirstClashSoFar, FindsFirstClash, AddsKey, clash_scan, RepeatsKeyBelow, RepeatsKeyIfKnown, fault_of_result}
use Rattle.usage_docs.specs.readers.ContentParts.{end_part, may_follow}
use Rattle.usage_docs.specs.readers.KeyRepeats.{HoldsKeys, IsFirstRepeat, sibling_key_by_attrs}
use Rattle.usage_docs.specs.readers.SiblingElements.{node_children, count_with_node}
use Rattle.usage_docs.specs.readers.ContentWalks.{IsContentOfKind, IsNodeValid, part_after_node}
use Rattle.usage_docs.proofs.ClashLemmas.{count_next, kid_at, mark_within, repeats_within}
use Rattle.usage_docs.proofs.NodesFormed.{FormedNodes}
use Rattle.usage_docs.proofs.NodesValid.{ValidNodes}
use Rattle.usage_docs.proofs.RepeatLemmas.{held_next}

-- the same by the parts of the place and the scan
abbrev pub FirstSoFar : ElementKind → Scope → List Tree → List ℕ → ℕ → ℕ → Option Clash → Option Clash → Type 0
FirstSoFar row c xs base n clear before new = IsFirstClashSoFar (record { kind = row; scope = c; path = base }) xs before (record { count = n; clear = clear; clash = new })

abbrev pub ClashPassed : ElementKind → Scope → List ℕ → Node → ChildScan → Option Clash → ChildScan → Option Clash → Type 0
ClashPassed row c base n old before new found = FindsFirstClash (record { kind = row; scope = c; path = base }) n (clash_scan old before) (clash_scan new found)

-- ---- tests of all nodes

-- a test is true where another is and a property holds
abbrev pub And : Bool → Bool → Type 0 → Type 0
And new old P = IsTrue new ↔ (IsTrue old × P)

-- the property of all that is left, where this much is done
abbrev pub Stands : Bool → Type 0 → Bool → Type 0 → Type 0
Stands now Left first All = (IsTrue now × Left) ↔ (IsTrue first × All)

one_done : {P Left All : Type 0} (now new first : Bool) → And new now P → Stands now (P × Left) first All → Stands new Left first All
one_done now new first here all = (
  λ h. (let two = here.0 h.0 in all.0 (two.0, (two.1, h.1))),
  λ h. (let two = all.1 h in (here.1 (two.0, two.1.0), two.1.1)),
)

-- the same for equivalent properties
pub and_same : {P Q : Type 0} (new old : Bool) → P ↔ Q → And new old P → And new old Q
and_same new old exact and = (λ h. (let two = and.0 h in (two.0, exact.0 two.1)), λ h. and.1 (h.0, exact.1 h.1))

-- where the other test is true at the beginning
pub from_start : {P : Type 0} (new old : Bool) → old ≡ true → And new old P → IsTrue new ↔ P
from_start new old is and = (λ h. (and.0 h).1, λ p. and.1 (is, p))

-- no property to check
pub nothing_more : (b : Bool) → And b b (Unit {0})
nothing_more b = (λ h. (h, tt), λ h. h.0)

-- two tests as one
both_tests : (a b : Bool) → And (a && b) a (IsTrue b)
both_tests true b = (λ h. (refl, h), λ h. h.1)
both_tests false b = (λ h. cc, λ h. h.0)

both_of : (a b : Bool) → IsTrue (a && b) → IsTrue a × IsTrue b
both_of a b h = (both_tests a b).0 h

true_both : (a b : Bool) → IsTrue a → IsTrue b → IsTrue (a && b)
true_both a b h k = (both_tests a b).1 (h, k)

pub and_equal : (new a b : Bool) (P : Type 0) → new ≡ (a && b) → IsTrue b ↔ P → And new a P
and_equal new a b P is exact = (
  λ h. (let two = (both_tests a b).0 (sym is ∙ h) in (two.0, exact.0 two.1)),
  λ h. is ∙ (both_tests a b).1 (h.0, exact.1 h.1),
)

-- equivalent properties, beside a test
pub under_test : {P Q : Type 0} (b : Bool) → P ↔ Q → Stands b P b Q
under_test b exact = (λ h. (h.0, exact.0 h.1), λ h. (h.0, exact.1 h.1))

-- two properties that are added one after the other
pub and_then : {P Q : Type 0} (old now new : Bool) → And now old P → And new now Q → And new old (P × Q)
and_then old now new one other = (
  λ h. (let two = other.0 h in let first = one.0 two.0 in (first.0, (first.1, two.1))),
  λ h. other.1 (one.1 (h.0, h.1.0), h.1.1),
)

module _ (row : ElementKind) (c : Scope) (ns : List Node) (n : Node) (i : ℕ) (within : i < length ns) (is : n ≡ get_or ns i n) where
  rest : drop i ns ≡ n ∷ drop (suc i) ns
  rest = drop-cons ns i n within ∙ ap (λ (x : Node). x ∷ drop (suc i) ns) (sym is)

  pub valid_next : {All : Type 0} (now new first : Bool) (before part next : ℕ) → And new now (IsNodeValid row c before n) → part ≡ part_after_node row c before n → next ≡ suc i
      → Stands now (ValidNodes row c before (drop i ns)) first All → Stands new (ValidNodes row c part (drop next ns)) first All
  valid_next {All} now new first before part next here part_is next_is all =
      subst (λ (b : ℕ). Stands new (ValidNodes row c b (drop next ns)) first All) (sym part_is)
      (subst (λ (j : ℕ). Stands new (ValidNodes row c (part_after_node row c before n) (drop j ns)) first All) (sym next_is)
      (one_done now new first here (subst (λ (xs : List Node). Stands now (ValidNodes row c before xs) first All) rest all)))

  pub formed_next : {All : Type 0} (now new first : Bool) (next : ℕ) → And new now (IsFormedNode row c n) → next ≡ suc i → Stands now (FormedNodes row c (drop i ns)) first All → Stands new (FormedNodes row c (drop next ns)) first All
  formed_next {All} now new first next here next_is all =
      subst (λ (j : ℕ). Stands new (FormedNodes row c (drop j ns)) first All) (sym next_is)
      (one_done now new first here (subst (λ (xs : List Node). Stands now (FormedNodes row c xs) first All) rest all))

  pub counts_next : (count new next : ℕ) → next ≡ suc i → new ≡ count_with_node n count → count ≡ length (node_children (take i ns)) → new ≡ length (node_children (take next ns))
  counts_next count new next next_is new_is counted =
      new_is ∙ ap (count_with_node n) counted ∙ sym (count_next ns i n within is) ∙ ap (λ (j : ℕ). length (node_children (take j ns))) (sym next_is)

pub one_more_at_most : (n : Node) (count : ℕ) → count_with_node n count ≤ suc count
one_more_at_most (Elem e) count = omega arith
one_more_at_most (Chars t) count = omega arith
one_more_at_most (Comment x) count = omega arith

-- at the end nothing is left
pub formed_end : (row : ElementKind) (c : Scope) (ns : List Node) (now first : Bool) (All : Type 0) → ns ≡ [] → Stands now (FormedNodes row c ns) first All → And now first All
formed_end row c ns now first All none all =
    let done = subst (λ (xs : List Node). Stands now (FormedNodes row c xs) first All) none all in
    (λ h. done.0 (h, tt), λ h. (done.1 h).0)

pub valid_end : (row : ElementKind) (c : Scope) (ns : List Node) (part : ℕ) (now follow new first : Bool) (All : Type 0) → ns ≡ [] → new ≡ (now && follow) → follow ≡ may_follow row part end_part → Stands now (ValidNodes row c part ns) first All → And new first All
valid_end row c ns part now follow new first All none is ends all =
    let done = subst (λ (xs : List Node). Stands now (ValidNodes row c part xs) first All) none all in
    (λ h. (let two = both_of now follow (sym is ∙ h) in done.0 (two.0, sym ends ∙ two.1)), λ h. (let two = done.1 h in is ∙ true_both now follow two.0 (ends ∙ two.1)))

-- ---- an element that may have a kind

module _ (o : Option ElementKind) (none : o ≡ None) where
  pub none_known : (P : ElementKind → Type 0) (b : Bool) → And b b (ForSome o P)
  none_known P b = (λ h. (h, λ x is. (let e : None ≡ Some x = sym none ∙ is in cc)), λ h. h.0)

  pub none_clash : (c : Scope) (e : Tree) (base : List ℕ) (old : Option Clash) → IsFirstClashAfter old (RepeatsKeyIfKnown o c e) base old
  none_clash c e base (Some clash) = refl
  none_clash c e base None = λ p key r. subst (λ (k : Option ElementKind). RepeatsKeyIfKnown k c e p key) none r

module _ (o : Option ElementKind) (kind : ElementKind) (some : o ≡ Some kind) where
  pub some_known : (P : ElementKind → Type 0) → P kind ↔ ForSome o P
  some_known P = (λ p x is. subst P (same_Some kind x (sym some ∙ is)) p, λ f. f kind some)

pub valid_in_row : (kind : ElementKind) (c : Scope) (e : Tree) → (IsTrue (are_attrs_allowed kind c e.attrs) × IsContentOfKind kind c e.content) ↔ IsValidOfKind kind c e
valid_in_row kind c e = (λ h. keeps_held kind c e.attrs e.content h.0 h.1, λ v. (v.0.attributes, held_kept kind c e.attrs e.content v))

pub and_both : {P Q R : Type 0} → P ↔ Q → Q ↔ R → P ↔ R
and_both one other = (λ p. other.0 (one.0 p), λ r. one.1 (other.1 r))

-- the meaning of a test, by its result
pub same_test : (r s : Bool) → r ≡ s → IsTrue r ↔ IsTrue s
same_test r s is = (λ h. sym is ∙ h, λ h. is ∙ h)

pub marked_by : (row : ElementKind) (c : Scope) (e : Tree) (o : Option ElementKind) (ats : List Attr) → kind_of row (inside c e) e.name ≡ o → ats ≡ e.attrs → sibling_key_by_attrs o ats ≡ sibling_key_of row c e
unfolding sibling_key_of
marked_by row c e o ats of_kind is = ap₂ sibling_key_by_attrs (sym of_kind) is

-- ---- the first fault of a root

module _ (usage : Usage) (t : Tree) where
  pub valid_root : (scope : Scope) (new a b : Bool) → scope ≡ t.decls ∷ [] → a ≡ is_root usage scope t.name → b ≡ are_attrs_allowed (root_kind usage) scope t.attrs → And new (a && b) (IsContentOfKind (root_kind usage) scope t.content) → IsTrue new ↔ IsValidDocument usage t
  valid_root scope new a b is root attrs and =
      let there = subst (λ (s : Scope). And new (is_root usage s t.name && are_attrs_allowed (root_kind usage) s t.attrs) (IsContentOfKind (root_kind usage) s t.content)) is
      (subst (λ (x : Bool). And new (x && are_attrs_allowed (root_kind usage) scope t.attrs) (IsContentOfKind (root_kind usage) scope t.content)) root
      (subst (λ (x : Bool). And new (a && x) (IsContentOfKind (root_kind usage) scope t.content)) attrs and)) in
      let top : Scope = t.decls ∷ [] in (
        λ h.
            (let two = there.0 h in
            let tests = both_of (is_root usage top t.name) (are_attrs_allowed (root_kind usage) top t.attrs) two.0 in
            record { root = tests.0; valid = keeps_held (root_kind usage) top t.attrs t.content tests.1 two.1 }),
        λ s. there.1 (true_both (is_root usage top t.name) (are_attrs_allowed (root_kind usage) top t.attrs) s.root s.valid.0.attributes, held_kept (root_kind usage) top t.attrs t.content s.valid),
      )

  pub formed_root : (scope : Scope) (new old : Bool) → scope ≡ t.decls ∷ [] → old ≡ true → And new old (AllReferencesFormed (root_kind usage) scope t.content) → IsTrue new ↔ MeetsConstraints usage t
  formed_root scope new old is start and = from_start new old start (subst (λ (s : Scope). And new old (AllReferencesFormed (root_kind usage) s t.content)) is and)

  judged_as : (v f : Bool) (clash : Option Clash) → IsTrue v ↔ IsValidDocument usage t → IsTrue f ↔ MeetsConstraints usage t → IsFirstClash usage t clash → HasFirstFault usage t (cond v (cond f (option_map (λ x. Repeated x) clash) (Some Unformed)) (Some Invalid))
  judged_as false f clash valid formed first = λ s. false≢true (valid.1 s)
  judged_as true false clash valid formed first = (valid.0 refl, λ s. false≢true (formed.1 s))
  judged_as true true None valid formed first = (valid.0 refl, formed.0 refl, first)
  judged_as true true (Some clash) valid formed first = (valid.0 refl, formed.0 refl, first)

  -- the first fault by what is found
  pub judged_by : (found : ValidationResult) → IsTrue found.valid ↔ IsValidDocument usage t → IsTrue found.formed ↔ MeetsConstraints usage t → IsFirstClash usage t found.clash → HasFirstFault usage t (fault_of_result found)
  judged_by found = judged_as found.valid found.formed found.clash

-- ---- clashes below children

none_is_some : (x : Clash) → None ≡ Some x → ⊥
none_is_some x e = cc

known_to : (o : Option ElementKind) (c : Scope) (e : Tree) (p : List ℕ) (key : Key) → RepeatsKeyIfKnown o c e p key → (kind : ElementKind) × ((o ≡ Some kind) × RepeatsKeyAt kind c (child_elements_of e) p key)
known_to None c e p key r = absurd r
known_to (Some kind) c e p key r = (kind, (refl, r))

known_from : (o : Option ElementKind) (kind : ElementKind) (c : Scope) (e : Tree) (p : List ℕ) (key : Key) → o ≡ Some kind → RepeatsKeyAt kind c (child_elements_of e) p key → RepeatsKeyIfKnown o c e p key
known_from o kind c e p key is r = subst (λ (k : Option ElementKind). RepeatsKeyIfKnown k c e p key) (sym is) r

-- of two places the one that isn't later begins with a number that isn't greater
front_least : (i j : ℕ) (p q : List ℕ) → IsNotAfter (i ∷ p) (j ∷ q) → i ≤ j
front_least i j p q (inl less) = omega (arith, less)
front_least i j p q (inr same) = let e = same.0 in omega (arith, e)

-- a place whose number isn't greater is not later
no_later_front : (i j : ℕ) (q : List ℕ) → i ≤ j → IsNotAfter (i ∷ []) (j ∷ q)
no_later_front i j q upto = elim (cases_lt i j) [ inl less ↦ inl less | inr reached ↦ (let same : i ≡ j = omega (arith, upto, reached) in inr (same, tt)) ]

-- an element with child elements has more than one level
some_kids : (content : Content) (i : ℕ) → i < length (child_elements content) → 1 ≤ content_height content
some_kids (last t) i less = absurd (omega (arith, less))
some_kids (comment_node t x rest) i less = some_kids rest i less
some_kids (more t n ds ats k rest) i less = omega arith

module _ (row : ElementKind) (c : Scope) (xs : List Tree) (base : List ℕ) where
  abbrev Below : List ℕ → Key → Type 0
  Below p key = RepeatsKeyBelow row c xs p key

  module _ (i : ℕ) (child_element : Tree) (there : slice_get xs i ≡ Some child_element) where
    abbrev Known : List ℕ → Key → Type 0
    Known p key = RepeatsKeyIfKnown (kind_of row (inside c child_element) child_element.name) (inside c child_element) child_element p key

    below_to : (p : List ℕ) (key : Key) → Below (i ∷ p) key → Known p key
    below_to [] key r = absurd r
    below_to (n ∷ p) key (other, (kind, (at, of_kind, r))) =
        let same = same_Some other child_element (sym at ∙ there) in
        known_from (kind_of row (inside c child_element) child_element.name) kind (inside c child_element) child_element (n ∷ p) key
        (subst (λ (x : Tree). kind_of row (inside c x) x.name ≡ Some kind) same of_kind)
        (subst (λ (x : Tree). RepeatsKeyAt kind (inside c x) (child_elements_of x) (n ∷ p) key) same r)

    below_from : (p : List ℕ) (key : Key) → Known p key → Below (i ∷ p) key
    below_from [] key r = let k = known_to (kind_of row (inside c child_element) child_element.name) (inside c child_element) child_element [] key r in absurd k.1.1
    below_from (n ∷ p) key r = let k = known_to (kind_of row (inside c child_element) child_element.name) (inside c child_element) child_element (n ∷ p) key r in (child_element, (k.0, (there, k.1.0, k.1.1)))

    -- there is none below it either
    none_next : (next : ℕ) → next ≡ suc i → ((j : ℕ) (p : List ℕ) (key : Key) → j < i → Below (j ∷ p) key → ⊥) → ((p : List ℕ) (key : Key) → Known p key → ⊥) → (j : ℕ) (p : List ℕ) (key : Key) → j < next → Below (j ∷ p) key → ⊥
    none_next next is none here j p key less r =
        elim (cases_lt j i) [
          | inl before ↦ none j p key before r
          | inr reached ↦ (let same : j ≡ i = omega (arith, is, less, reached) in here p key (below_to p key (subst (λ (k : ℕ). Below (k ∷ p) key) same r)))
        ]

    -- the first clash below it is the first of all
    first_next : (p : List ℕ) → ((j : ℕ) (q : List ℕ) (key : Key) → j < i → Below (j ∷ q) key → ⊥) → ((q : List ℕ) (key : Key) → Known q key → IsNotAfter p q) → (q : List ℕ) (key : Key) → Below q key → IsNotAfter (i ∷ p) q
    first_next p none first [] key r = absurd r
    first_next p none first (j ∷ q) key r =
        elim (cases_lt j i) [
          | inl before ↦ absurd (none j q key before r)
          | inr reached ↦ elim (cases_lt i j) [
            | inl less ↦ inl less
            | inr upto ↦ (let same : j ≡ i = omega arith in inr (sym same, first q key (below_to q key (subst (λ (k : ℕ). Below (k ∷ q) key) same r))))
          ]
        ]

    abbrev Next : ℕ → ℕ → Option Clash → Option Clash → Type 0
    Next next clear before new = FirstSoFar row c xs base next clear before new

    found_next : (next clear new_clear : ℕ) (before old new : Option Clash) → next ≡ suc i → IsFirstClashAfter old (RepeatsKeyIfKnown (kind_of row (inside c child_element) child_element.name) (inside c child_element) child_element) (base ++ i ∷ []) new → new_clear ≡ cond (is_some new) clear (suc clear) → FirstSoFar row c xs base i clear before old → Next next new_clear before new
    found_next next clear new_clear (Some b) None new is at counts so = absurd (none_is_some b so.0)
    found_next next clear new_clear (Some b) (Some o) new is at counts so = (at ∙ so.0, counts ∙ ap (λ (x : Option Clash). cond (is_some x) clear (suc clear)) at ∙ so.1)
    found_next next clear new_clear None (Some o) None is at counts so = absurd (none_is_some o at)
    found_next next clear new_clear None (Some o) (Some n) is at counts so =
        subst (λ (x : Option Clash). Next next new_clear None x) (sym at) (subst (λ (k : ℕ). Next next k None (Some o)) (sym counts) so)
    found_next next clear new_clear None None None is at counts so = (counts ∙ ap suc so.0 ∙ sym is, none_next next is so.1 at)
    found_next next clear new_clear None None (Some n) is at counts so =
        subst (λ (k : ℕ). Next next k None (Some n)) (sym (counts ∙ so.0))
        (at.0, (at.1.0 ∙ append_assoc base (i ∷ []) at.0, below_from at.0 n.key at.1.1, first_next at.0 so.1 at.1.2))

  -- a node that isn't an element changes nothing
  same_next : (i next clear new_clear : ℕ) (before old new : Option Clash) → next ≡ i → new ≡ old → new_clear ≡ clear → FirstSoFar row c xs base i clear before old → FirstSoFar row c xs base next new_clear before new
  same_next i next clear new_clear before old new is same clear_is so =
      subst (λ (j : ℕ). FirstSoFar row c xs base j new_clear before new) (sym is)
      (subst (λ (x : Option Clash). FirstSoFar row c xs base i new_clear before x) (sym same) (subst (λ (k : ℕ). FirstSoFar row c xs base i k before old) (sym clear_is) so))

  -- nothing is found at the beginning
  pub none_found_yet : (before : Option Clash) → FirstSoFar row c xs base 0 0 before before
  none_found_yet None = (refl, λ i p key less r. absurd (omega (arith, less)))
  none_found_yet (Some b) = (refl, refl)

  module _ (ns : List Node) (kids_is : xs ≡ node_children ns) (i : ℕ) (count : ℕ) (counted : count ≡ length (node_children (take i ns))) where
    kid_here : (n : Node) (child_element : Tree) → i < length ns → n ≡ get_or ns i n → n ≡ Elem child_element → slice_get xs count ≡ Some child_element
    kid_here n child_element within is elem = ap (λ (ks : List Tree). slice_get ks count) kids_is ∙ ap (slice_get (node_children ns)) counted ∙ kid_at ns i n child_element within is elem

    pub key_next : (n : Node) (old new : ChildScan) → i < length ns → n ≡ get_or ns i n → old.count ≡ count → new.count ≡ count_with_node n old.count → AddsKey row c n old new → (old.holds_all ≡ true → HoldsKeys row c xs old.count old.keys.items)
        → new.holds_all ≡ true → HoldsKeys row c xs new.count new.keys.items
    key_next (Elem child_element) old new within is from next passes held all =
        let entered = passes all in
        held_next row c xs child_element old.count new.count (subst (λ (k : ℕ). slice_get xs k ≡ Some child_element) (sym from) (kid_here (Elem child_element) child_element within is refl)) next old.keys.items new.keys.items (held entered.0) entered.1
    key_next (Chars t) old new within is from next passes held all = subst (λ (k : ℕ). HoldsKeys row c xs k new.keys.items) (sym next) (subst (λ (ks : List KeyedChild). HoldsKeys row c xs old.count ks) (sym passes.1) (held (sym passes.0 ∙ all)))
    key_next (Comment x) old new within is from next passes held all = subst (λ (k : ℕ). HoldsKeys row c xs k new.keys.items) (sym next) (subst (λ (ks : List KeyedChild). HoldsKeys row c xs old.count ks) (sym passes.1) (held (sym passes.0 ∙ all)))

    pub clash_next : (n : Node) (old new : ChildScan) (before found found_new : Option Clash) → i < length ns → n ≡ get_or ns i n → old.count ≡ count → new.count ≡ count_with_node n old.count → ClashPassed row c base n old found new found_new
        → FirstSoFar row c xs base old.count old.clear before found → FirstSoFar row c xs base new.count new.clear before found_new
    clash_next (Elem child_element) old new before found found_new within is from next passes so =
        found_next old.count child_element (subst (λ (k : ℕ). slice_get xs k ≡ Some child_element) (sym from) (kid_here (Elem child_element) child_element within is refl)) new.count old.clear new.clear before found found_new next passes.0 passes.1 so
    clash_next (Chars t) old new before found found_new within is from next passes so = same_next old.count new.count old.clear new.clear before found found_new next passes.0 passes.1 so
    clash_next (Comment x) old new before found found_new within is from next passes so = same_next old.count new.count old.clear new.clear before found found_new next passes.0 passes.1 so

  -- ---- with the keys of the children

  below_clashes : (p : List ℕ) (key : Key) → Below p key → RepeatsKeyAt row c xs p key
  below_clashes [] key r = r
  below_clashes (i ∷ []) key r = absurd r
  below_clashes (i ∷ n ∷ p) key r = r

  -- a clash is at a child, or below a child
  clash_cases : (P : List ℕ → Type 0) → ((i : ℕ) (key : Key) → RepeatsKey row c xs i key → P (i ∷ [])) → ((i : ℕ) (p : List ℕ) (key : Key) → i < length xs → Below (i ∷ p) key → P (i ∷ p)) → (p : List ℕ) (key : Key) → RepeatsKeyAt row c xs p key → P p
  clash_cases P at below [] key r = absurd r
  clash_cases P at below (i ∷ []) key r = at i key r
  clash_cases P at below (i ∷ n ∷ p) key r = below i (n ∷ p) key (repeats_within row c xs i (n ∷ p) key r) r

  abbrev SoFar : ℕ → Option Clash → Option Clash → Type 0
  SoFar clear before old = FirstSoFar row c xs base (length xs) clear before old

  abbrev After : Option Clash → Option Clash → Type 0
  After before new = IsFirstClashAfter before (RepeatsKeyAt row c xs) base new

  -- no child repeats a key
  pub none_repeats : (clear : ℕ) (before old : Option Clash) → IsFirstRepeat row c xs None → SoFar clear before old → After before old
  none_repeats clear (Some b) old none so = so.0
  none_repeats clear None None none so = clash_cases (λ p. ⊥) none so.1
  none_repeats clear None (Some clash) none so =
      (clear ∷ so.0, (so.1.0, below_clashes (clear ∷ so.0) clash.key so.1.1, clash_cases (λ q. IsNotAfter (clear ∷ so.0) q) (λ i key r. absurd (none i key r)) (λ i q key within r. so.1.2 (i ∷ q) key r)))

  module _ (repeat : KeyRepeat) (first : IsFirstRepeat row c xs (Some repeat)) where
    -- the first child that repeats one is after a clash
    pub repeats_later : (clear : ℕ) (before old : Option Clash) → clear < repeat.child → SoFar clear before old → After before old
    repeats_later clear (Some b) old less so = so.0
    repeats_later clear None None less so = let within = mark_within row c first.0.shared xs repeat.child first.0.this in let all = so.0 in absurd (omega (arith, less, within, all))
    repeats_later clear None (Some clash) less so = (
      clear ∷ so.0,
      (
        so.1.0,
        below_clashes (clear ∷ so.0) clash.key so.1.1,
        clash_cases (λ q. IsNotAfter (clear ∷ so.0) q)
            (λ i key r. (let upto = first.1 i key r in inl (omega (arith, less, upto)))) (λ i q key within r. so.1.2 (i ∷ q) key r),
      ),
    )

    later_below : (clear : ℕ) (old : Option Clash) → repeat.child ≤ clear → SoFar clear None old → (i : ℕ) (q : List ℕ) (key : Key) → i < length xs → Below (i ∷ q) key → IsNotAfter (repeat.child ∷ []) (i ∷ q)
    later_below clear None upto so i q key within r = absurd (so.1 i q key within r)
    later_below clear (Some clash) upto so i q key within r = no_later_front repeat.child i q (let least = front_least clear i so.0 q (so.1.2 (i ∷ q) key r) in omega (arith, upto, least))

    -- it comes before each clash that was found
    pub repeats_first : (clear : ℕ) (before old : Option Clash) (path : List ℕ) → repeat.child ≤ clear → path ≡ base ++ repeat.child ∷ [] → SoFar clear before old → After before (Some (record { path = path; key = repeat.key }))
    repeats_first clear (Some b) old path upto is so = let behind = first.0.comes_first in let none = so.1 in absurd (omega (arith, upto, behind, none))
    repeats_first clear None old path upto is so =
        (repeat.child ∷ [], (is, first.0, clash_cases (λ q. IsNotAfter (repeat.child ∷ []) q) (λ i key r. no_later_front repeat.child i [] (first.1 i key r)) (later_below clear old upto so)))

    -- there is room for its path
    pub repeats_low : (content : Content) → xs ≡ child_elements content → length base + content_height content ≤ 64 → length (base ++ repeat.child ∷ []) ≤ 64
    repeats_low content is low =
        let within = subst (λ (ks : List Tree). repeat.child < length ks) is (mark_within row c first.0.shared xs repeat.child first.0.this) in
        let high = some_kids content repeat.child within in
        omega (arith, low, high, length-append base (repeat.child ∷ []))

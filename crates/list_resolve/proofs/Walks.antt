-- A walk node by node, and what is collected of it part by part.
use Rattle.std.proofs.Common.{◌≡◌, ◌≤◌, ◌<◌, ◌+◌, ◌-◌, ℕ, zero, suc, List, [], ◌∷◌, ◌++◌, Option, drop, get_or, length, Result, Ok, Err, IsErrAnd, if◌then◌else◌, subst, refl, sym, ap, ◌∙◌, arith}
use Rattle.std.specs.Option.{option_map_or}
use Rattle.std.proofs.lemmas.List.{drop_more}
use Rattle.xml_tree.specs.Tree.{Content, last, more, comment_node, Tree}
use Rattle.xml_tree.specs.Edits.{with_text_prepended}
use Rattle.xml_tree.specs.Nodes.{content_of}
use Rattle.xml_tree.specs.declared.tree.Node.{Node}
use Rattle.xml_tree.specs.declared.tree.Node.TheVariants.{Elem, Chars, Comment}
use Rattle.usage_docs.specs.declared.schema_table.ElementKind.{ElementKind}
use Rattle.usage_docs.specs.SchemaTable.{Scope}
use Rattle.list_resolve.specs.declared.fault.FlatFault.TheVariants.{NoService, TooWide, TooLarge}
use Rattle.xml_names.specs.declared.read_error.ReadError.TheVariants.{Fault, NoMemory}
use Rattle.list_resolve.specs.declared.reference.Reference.{Reference}
use Rattle.list_resolve.specs.declared.document_place.Place.{Place}
use Rattle.list_resolve.specs.Resolution.{ResolutionContext, ResolvedReference}
use Rattle.list_resolve.specs.ElementPlaces.{contains_place}
use Rattle.list_resolve.specs.Walks.{Item, address, mark, content_items, scoped_element_items, walk_after_mark}
use Rattle.list_resolve.specs.inner.ChildItems.{child_items}
use Rattle.list_resolve.specs.inner.WalkStates.{FlatError, Tally, CollectorState, IsWalkFault, with_item, with_items}
use Rattle.list_resolve.specs.inner.SkippedElements.{CollectsItems}
use Rattle.list_resolve.specs.declared.uri_collector.TheConstants.{MARK_LIMIT}

-- ---- node by node

abbrev pub nodes_items : (Reference → List Item) → List ℕ → ElementKind → Scope → List Node → List Item
nodes_items behind root row c [] = []
nodes_items behind root row c (Elem e ∷ ns) = child_items behind root row c e ++ nodes_items behind root row c ns
nodes_items behind root row c (Chars t ∷ ns) = nodes_items behind root row c ns
nodes_items behind root row c (Comment x ∷ ns) = nodes_items behind root row c ns

walked_before : (behind : Reference → List Item) (root : List ℕ) (row : ElementKind) (c : Scope) (t : List ℕ) (content : Content) → content_items behind root row c (with_text_prepended t content) ≡ content_items behind root row c content
walked_before behind root row c t (last u) = refl
walked_before behind root row c t (more u n ds ats k rest) = refl
walked_before behind root row c t (comment_node u x rest) = refl

nodes_are : (behind : Reference → List Item) (root : List ℕ) (row : ElementKind) (c : Scope) (ns : List Node) → nodes_items behind root row c ns ≡ content_items behind root row c (content_of ns)
nodes_are behind root row c [] = refl
nodes_are behind root row c (Elem e ∷ ns) = ap (λ items. child_items behind root row c e ++ items) (nodes_are behind root row c ns)
nodes_are behind root row c (Chars t ∷ ns) = nodes_are behind root row c ns ∙ sym (walked_before behind root row c t (content_of ns))
nodes_are behind root row c (Comment x ∷ ns) = nodes_are behind root row c ns

pub all_nodes : (behind : Reference → List Item) (root : List ℕ) (row : ElementKind) (c : Scope) (ns : List Node) (content : Content) → content_of ns ≡ content → nodes_items behind root row c ns ≡ content_items behind root row c content
all_nodes behind root row c ns content e = nodes_are behind root row c ns ∙ ap (content_items behind root row c) e

-- an element and the nodes after it
pub at_elem : (behind : Reference → List Item) (root : List ℕ) (row : ElementKind) (c : Scope) (ns : List Node) (i : ℕ) (x : Node) (child_element : Tree) → i < length ns → x ≡ get_or ns i x → x ≡ Elem child_element
    → nodes_items behind root row c (drop i ns) ≡ child_items behind root row c child_element ++ nodes_items behind root row c (drop (i + 1) ns)
at_elem behind root row c ns i x child_element lt there is =
    ap (nodes_items behind root row c) (drop_more ns i x lt ∙ ap (λ y. y ∷ drop (i + 1) ns) (sym there ∙ is))

-- ---- what references give

-- a reference gives a mark, and then what it leads to
abbrev pub reference_items : (Reference → List Item) → Option Reference → List Item
reference_items behind found = option_map_or (λ r. mark ∷ behind r) found []

-- an element that a reference leads to gives what it does unless it is on the chain
abbrev pub lead_items : (List Place → Reference → List Item) → List ℕ → List Place → ResolvedReference → List Item
lead_items behind root chain l = if contains_place chain l.place then [] else scoped_element_items (behind (l.place ∷ chain)) root l.scoped_element

abbrev pub led_items : (List Place → Reference → List Item) → List ℕ → List Place → Option ResolvedReference → List Item
led_items behind root chain found = option_map_or (lead_items behind root chain) found []

-- what comes after a mark, where an element may still be added to the chain
pub behind_left : (resolve_reference : Reference → Option ResolvedReference) (root : List ℕ) (left : ℕ) (chain : List Place) (r : Reference) → 0 < left → walk_after_mark resolve_reference root left chain r ≡ led_items (walk_after_mark resolve_reference root (left - 1)) root chain (resolve_reference r)
behind_left resolve_reference root zero chain r h = absurd (omega arith)
behind_left resolve_reference root (suc n) chain r h = let e : n ≡ suc n - 1 = omega arith in ap (λ (m : ℕ). led_items (walk_after_mark resolve_reference root m) root chain (resolve_reference r)) e

-- ---- part by part

pub with_two : (items more_items : List Item) (s : Tally) → with_items s (items ++ more_items) ≡ with_items (with_items s items) more_items
with_two [] more_items s = refl
with_two (i ∷ items) more_items s = with_two items more_items (with_item s i)

one_rises : (s : Tally) (i : Item) → s.marks ≤ (with_item s i).marks
one_rises s (address uri) = omega arith
one_rises s mark = omega arith

pub marks_rise : (items : List Item) (s : Tally) → s.marks ≤ (with_items s items).marks
marks_rise [] s = omega arith
marks_rise (i ∷ items) s = let a = one_rises s i in let b = marks_rise items (with_item s i) in omega arith

-- where the first part has too many references, the whole has
pub fails_in_part : (items more_items : List Item) (s : Tally) (fault : FlatError) → IsWalkFault items s fault → IsWalkFault (items ++ more_items) s fault
fails_in_part items more_items s (Fault NoService) h = h
fails_in_part items more_items s (Fault TooWide) h =
    let rise = marks_rise more_items (with_items s items) in
    let same : (with_items s (items ++ more_items)).marks ≡ (with_items (with_items s items) more_items).marks = ap (λ g. g.marks) (with_two items more_items s) in
    omega arith
fails_in_part items more_items s (Fault (TooLarge len)) h = h
fails_in_part items more_items s NoMemory h = tt

-- where the collected items and those of a part together make others, that part's failure is a
-- failure of these
pub fails_before : (items more_items whole : List Item) (s start : Tally) (fault : FlatError)
    → with_items s (items ++ more_items) ≡ with_items start whole → IsWalkFault items s fault → IsWalkFault whole start fault
fails_before items more_items whole s start (Fault NoService) e h = h
fails_before items more_items whole s start (Fault TooWide) e h =
    let wide : MARK_LIMIT < (with_items s (items ++ more_items)).marks = fails_in_part items more_items s (Fault TooWide) h in
    let same : (with_items s (items ++ more_items)).marks ≡ (with_items start whole).marks = ap (λ g. g.marks) e in
    omega arith
fails_before items more_items whole s start (Fault (TooLarge len)) e h = h
fails_before items more_items whole s start NoMemory e h = tt

-- a call that returns the fault of another one
pub hands_on : {T : Type 0} (g : ResolutionContext) (r : Result T FlatError) (items : List Item) (s new : CollectorState) (fault : FlatError) → IsErrAnd r (λ e. e ≡ fault) → IsWalkFault items s.tally fault → CollectsItems g items s new r
hands_on g (Ok x) items s new fault h f = absurd h
hands_on g (Err e) items s new fault h f = subst (λ (x : FlatError). IsWalkFault items s.tally x) (sym h) f

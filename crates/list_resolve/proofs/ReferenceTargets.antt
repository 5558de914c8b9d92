-- Where references lead: each to at most one place, where the element is found again.
use Rattle.std.proofs.Common.{◌≡◌, ℕ, Bool, true, false, cond, ◌&&◌, List, Option, None, Some, IfSome, Result, Ok, Err, option_and_then, option_map, encode_utf8_all, if◌then◌else◌, refl, sym, ap, ◌∙◌, subst}
use Rattle.std.proofs.lemmas.Bool.{and_parts}
use Rattle.xml_tree.specs.Tree.{Tree}
use Rattle.node_select.specs.Selection.{selected_element_path}
use Rattle.node_select.specs.declared.selector.Selector.{Selector}
use Rattle.doc_names.specs.NameEquality.{same_auid, same_home}
use Rattle.doc_names.specs.declared.doc_id.Auid.TheVariants.{ResourceLists}
use Rattle.doc_names.specs.declared.doc_id.Home.{Home}
use Rattle.doc_names.specs.declared.doc_id.DocId.{DocId}
use Rattle.doc_names.proofs.SameIds.{id_exact}
use Rattle.std.proofs.lemmas.Bool.{and_from}
use Rattle.std.specs.Cmp.Lexicographic.{bytes_decides}
use Rattle.xml_names.specs.ReadErrors.{ResultSatisfies}
use Rattle.xml_names.specs.declared.read_error.ReadError.{ReadError}
use Rattle.xml_names.specs.declared.read_error.ReadError.TheVariants.{Fault}
use Rattle.xcap_uri.specs.Targets.{IsTargetResult, is_element_end}
use Rattle.xcap_uri.specs.declared.fault.UriFault.{UriFault}
use Rattle.xcap_uri.specs.declared.target.Target.{Target}
use Rattle.xcap_uri.specs.declared.target.Target.TheVariants.{Document, Node, Deep, Feed, ElementFeed, Flat}
use Rattle.xcap_uri.proofs.TargetAnswers.{one_target, some_target}
use Rattle.list_resolve.specs.declared.document_place.Place.{Place}
use Rattle.list_resolve.specs.declared.reference.ReferenceTarget.{ReferenceTarget}
use Rattle.list_resolve.specs.declared.reference.Reference.{Reference}
use Rattle.list_resolve.specs.References.{is_wanted}
use Rattle.list_resolve.specs.ScopedElements.{ScopedElement, list_element}
use Rattle.list_resolve.specs.Resolution.{ResolutionContext, ResolvedReference, ResolvesReferences, is_own_document, resolve_at, resolve_target, stored_tree}
use Rattle.list_resolve.specs.declared.resolution.ResolvedReference.{ResolvedReference as CodeLead}
use Rattle.list_resolve.specs.inner.Views.{resolved_view, scoped_element_view}
use Rattle.list_resolve.specs.inner.SkippedElements.{resolve_in_context, lists_document_id, scoped_element_at, target_result}

-- ---- by the only result of a target

-- the meaning of a target is the only result that it has
pub meant : (root target : List ℕ) (read : Result Target UriFault) → IsTargetResult root (encode_utf8_all target) read → read ≡ target_result root target
unfolding target_result
meant root target read is = one_target root (encode_utf8_all target) read (some_target root (encode_utf8_all target)).0 is (some_target root (encode_utf8_all target)).1

pub led : (g : ResolutionContext) (r : Reference) (read : Result Target UriFault) → IsTargetResult g.root (encode_utf8_all r.target) read → resolve_target g r.wanted read ≡ resolve_in_context g r
led g r read is = ap (resolve_target g r.wanted) (meant g.root r.target read is)

is_meant : (root target : List ℕ) → IsTargetResult root (encode_utf8_all target) (target_result root target)
unfolding target_result
is_meant root target = (some_target root (encode_utf8_all target)).1

pub are_leads : (g : ResolutionContext) → ResolvesReferences g (resolve_in_context g)
are_leads g = λ r. (target_result g.root r.target, is_meant g.root r.target, refl)

one_lead : (g : ResolutionContext) (r : Reference) (found : Option ResolvedReference) → ((read : Result Target UriFault) × IsTargetResult g.root (encode_utf8_all r.target) read × (found ≡ resolve_target g r.wanted read)) → found ≡ resolve_in_context g r
one_lead g r found (read, is, e) = e ∙ led g r read is

-- there is one map of all references
pub one_map : (g : ResolutionContext) (resolve_reference : Reference → Option ResolvedReference) → ResolvesReferences g resolve_reference → resolve_reference ≡ resolve_in_context g
one_map g resolve_reference are = λ i r. one_lead g r (resolve_reference r) (are r) i

pub target_led : (g : ResolutionContext) (r : Reference) (bytes : List ℕ) (target : Target) → bytes ≡ encode_utf8_all r.target → IsTargetResult g.root bytes (Ok target) → resolve_target g r.wanted (Ok target) ≡ resolve_in_context g r
target_led g r bytes target same is = led g r (Ok target) (subst (λ (z : List ℕ). IsTargetResult g.root z (Ok target)) same is)

pub fault_led : (g : ResolutionContext) (r : Reference) (bytes : List ℕ) (error : ReadError UriFault) (fault : UriFault) → bytes ≡ encode_utf8_all r.target → error ≡ Fault fault
    → ResultSatisfies {A = Target} (IsTargetResult g.root bytes) (Err error) → None ≡ resolve_in_context g r
fault_led g r bytes error fault same told answers =
    let is : IsTargetResult g.root bytes (Err fault) = subst (λ (e : ReadError UriFault). ResultSatisfies {A = Target} (IsTargetResult g.root bytes) (Err e)) told answers in
    led g r (Err fault) (subst (λ (z : List ℕ). IsTargetResult g.root z (Err fault)) same is)

-- ---- the place of what a reference leads to

abbrev place_of : List ℕ → List ℕ → Place
place_of name path = record { name = name; path = path }

abbrev lead : Place → ScopedElement → ResolvedReference
lead place scoped_element = record { place = place; scoped_element = scoped_element }

-- the element at a place, if it is of the expected kind
abbrev lead_if : ReferenceTarget → Place → ScopedElement → Option ResolvedReference
lead_if wanted place scoped_element = if is_wanted wanted scoped_element.kind then Some (lead place scoped_element) else None

-- the element that a selector selects in a document with this name
abbrev resolve_by : ReferenceTarget → List ℕ → Selector → Tree → Option ResolvedReference
resolve_by wanted name selector root = option_and_then (resolve_at wanted name root) (selected_element_path selector.steps root)

own_name : (home : Home) (doc : DocId) → is_own_document home doc ≡ true → doc ≡ lists_document_id home doc.name
own_name home doc own =
    let parts = and_parts (same_auid doc.auid ResourceLists) (same_home doc.home home) own in
    id_exact doc (lists_document_id home doc.name) (and_from _ _ parts.0 (and_from _ _ parts.1 ((bytes_decides doc.name doc.name).1 refl)))

if_wanted : (b : Bool) (x l : ResolvedReference) → cond b (Some x) None ≡ Some l → x ≡ l
if_wanted true x l h = cc
if_wanted false x l h = absurd cc

at_place : (wanted : ReferenceTarget) (name : List ℕ) (root : Tree) (p : List ℕ) (s : Option ScopedElement) (l : ResolvedReference)
    → list_element root p ≡ s → option_and_then (lead_if wanted (place_of name p)) s ≡ Some l → (l.place ≡ place_of name p) × (list_element root p ≡ Some l.scoped_element)
at_place wanted name root p None l e h = absurd cc
at_place wanted name root p (Some s) l e h =
    let same = if_wanted (is_wanted wanted s.kind) (lead (place_of name p) s) l h in
    (sym (ap (λ (x : ResolvedReference). x.place) same), e ∙ ap Some (ap (λ (x : ResolvedReference). x.scoped_element) same))

by_path : (wanted : ReferenceTarget) (name : List ℕ) (root : Tree) (path : Option (List ℕ)) (l : ResolvedReference)
    → option_and_then (resolve_at wanted name root) path ≡ Some l → (l.place.name ≡ name) × (list_element root l.place.path ≡ Some l.scoped_element)
by_path wanted name root None l h = absurd cc
by_path wanted name root (Some p) l h =
    let found = at_place wanted name root p (list_element root p) l refl h in
    (ap (λ (x : Place). x.name) found.0, ap (λ (x : Place). list_element root x.path) found.0 ∙ found.1)

in_tree : (wanted : ReferenceTarget) (name : List ℕ) (selector : Selector) (tree : Option Tree) (l : ResolvedReference)
    → option_and_then (resolve_by wanted name selector) tree ≡ Some l → (l.place.name ≡ name) × (option_and_then (λ root. list_element root l.place.path) tree ≡ Some l.scoped_element)
in_tree wanted name selector None l h = absurd cc
in_tree wanted name selector (Some root) l h = by_path wanted name root (selected_element_path selector.steps root) l h

found_own : (g : ResolutionContext) (wanted : ReferenceTarget) (doc : DocId) (selector : Selector) (l : ResolvedReference) → is_own_document g.home doc ≡ true
    → option_and_then (resolve_by wanted doc.name selector) (stored_tree g.documents doc) ≡ Some l → scoped_element_at g l.place ≡ Some l.scoped_element
found_own g wanted doc selector l own h =
    let found = in_tree wanted doc.name selector (stored_tree g.documents doc) l h in
    let same : doc ≡ lists_document_id g.home l.place.name = own_name g.home doc own ∙ ap (lists_document_id g.home) (sym found.0) in
    ap (λ (d : DocId). option_and_then (λ root. list_element root l.place.path) (stored_tree g.documents d)) (sym same) ∙ found.1

if_own : (g : ResolutionContext) (wanted : ReferenceTarget) (doc : DocId) (selector : Selector) (l : ResolvedReference) (own element : Bool) → is_own_document g.home doc ≡ own
    → cond (own && element) (option_and_then (resolve_by wanted doc.name selector) (stored_tree g.documents doc)) None ≡ Some l → scoped_element_at g l.place ≡ Some l.scoped_element
if_own g wanted doc selector l true true e h = found_own g wanted doc selector l e h
if_own g wanted doc selector l true false e h = absurd cc
if_own g wanted doc selector l false element e h = absurd cc

-- only the address of a node leads anywhere
pub leads_nowhere : (g : ResolutionContext) (wanted : ReferenceTarget) (target : Target) → ((doc : DocId) (selector : Selector) → target ≡ Node doc selector → ⊥) → None ≡ resolve_target g wanted (Ok target)
leads_nowhere g wanted (Node doc selector) h = absurd (h doc selector refl)
leads_nowhere g wanted (Document doc) h = refl
leads_nowhere g wanted (Deep auid home) h = refl
leads_nowhere g wanted (Feed mode tag doc) h = refl
leads_nowhere g wanted (ElementFeed tag doc selector raw) h = refl
leads_nowhere g wanted (Flat doc service) h = refl

lead_there : (g : ResolutionContext) (wanted : ReferenceTarget) (read : Result Target UriFault) (l : ResolvedReference) → resolve_target g wanted read ≡ Some l → scoped_element_at g l.place ≡ Some l.scoped_element
lead_there g wanted (Ok (Node doc selector)) l h = if_own g wanted doc selector l (is_own_document g.home doc) (is_element_end selector.end) refl h
lead_there g wanted (Ok (Document doc)) l h = absurd cc
lead_there g wanted (Ok (Deep auid home)) l h = absurd cc
lead_there g wanted (Ok (Feed mode tag doc)) l h = absurd cc
lead_there g wanted (Ok (ElementFeed tag doc selector raw)) l h = absurd cc
lead_there g wanted (Ok (Flat doc service)) l h = absurd cc
lead_there g wanted (Err fault) l h = absurd cc

-- what a reference leads to is found again at its place
there : (g : ResolutionContext) (r : Reference) (l : ResolvedReference) → resolve_in_context g r ≡ Some l → scoped_element_at g l.place ≡ Some l.scoped_element
there g r l h = lead_there g r.wanted (target_result g.root r.target) l h

pub found_there : (g : ResolutionContext) (r : Reference) (found : Option CodeLead) → option_map resolved_view found ≡ resolve_in_context g r → IfSome found (λ l. scoped_element_at g l.place ≡ Some (scoped_element_view l.scoped_element))
found_there g r None e = tt
found_there g r (Some l) e = there g r (resolved_view l) (sym e)

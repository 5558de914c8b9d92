-- A target is read as the rules say.
use Rattle.std.proofs.Common.{◌≡◌, ℕ, Bool, true, false, cond, List, Option, None, Some, Result, Ok, Err, IfOk, ◌⊎◌, inl, inr, refl, sym, ap, subst, ◌∙◌, encode_utf8_all}
use Rattle.std.specs.List.{list_any}
use Rattle.std.specs.Str.{chars}
use Rattle.xml_names.specs.declared.names.Decl.{Decl}
use Rattle.node_select.specs.Faults.{IsSelectorAnswer}
use Rattle.node_select.specs.declared.fault.SelectorFault.{SelectorFault}
use Rattle.node_select.specs.declared.selector.End.{End}
use Rattle.node_select.specs.declared.selector.End.TheVariants as ends
use Rattle.node_select.specs.declared.selector.Selector.{Selector}
use Rattle.node_select.specs.readers.WholeSelectors.{parsed_selector}
use Rattle.node_select.proofs.ExactSelectors.{selector_answer, one_selector}
use Rattle.xml_names.specs.declared.read_error.ReadError.{ReadError}
use Rattle.xml_names.specs.declared.read_error.ReadError.TheVariants.{Fault, NoMemory}
use Rattle.xml_names.specs.ReadErrors.{ResultSatisfies}
use Rattle.doc_names.specs.Usages.{namespace_of}
use Rattle.doc_names.specs.declared.doc_id.Auid.{Auid}
use Rattle.doc_names.specs.declared.doc_id.DocId.{DocId}
use Rattle.xcap_uri.specs.Delimiters.{front_before, rest_after}
use Rattle.xcap_uri.specs.Escapes.{DecodesToOptional}
use Rattle.xcap_uri.specs.readers.Steps.{UriError, ◌>>=◌}
use Rattle.xcap_uri.specs.FaultOrder.{FirstOrFault, HoldsOrFault}
use Rattle.xcap_uri.specs.Queries.{IsQuery}
use Rattle.xcap_uri.specs.readers.Queries.{parsed_optional_bindings}
use Rattle.xcap_uri.specs.Shapes.{NamesShape, HasKnownFirstSegment, AreNonEmpty}
use Rattle.xcap_uri.specs.Targets.{question, rest_under_root, raw_text, IsSplitPath, IsTargetSelectorAnswer, node_target, is_element_end, element_feed_target, ShapeMeans, IsSegmentsAnswer, IsRestAnswer, IsTargetResult, IsReadableTarget}
use Rattle.xcap_uri.specs.readers.Escapes.{parsed_optional_text}
use Rattle.xcap_uri.specs.readers.Shapes as reader
use Rattle.xcap_uri.specs.readers.Targets.{error_of, with_target_fault, parsed_target_selector, require_element_end, require_element, target_of, parsed_path, parsed_rest, parsed_under_root, parsed_target}
use Rattle.xcap_uri.specs.declared.fault.UriFault.{UriFault}
use Rattle.xcap_uri.specs.declared.fault.UriFault.TheVariants.{OutsideRoot, UnknownAuid, BadShape, BadEscape, BadQuery, BadSelector}
use Rattle.xcap_uri.specs.declared.shape.Shape.{Shape}
use Rattle.xcap_uri.specs.declared.shape.Shape.TheVariants as shapes
use Rattle.xcap_uri.specs.declared.target.Target.{Target}
use Rattle.xcap_uri.specs.declared.target.Target.TheVariants.{Node, ElementFeed}
use Rattle.xcap_uri.proofs.Nameable.{target_readable}
use Rattle.xcap_uri.proofs.FaultOrder.{Meets, inside, met, some_met, step, one_step, given_next, given_fault, one_given}
use Rattle.xcap_uri.proofs.QueryAnswers.{query_decided}
use Rattle.xcap_uri.proofs.SegmentAnswers.{optional_decided, path_decided}
use Rattle.xcap_uri.proofs.ShapeAnswers.{Good, judged, good_decided, all_named, one_empty}

-- ---- the selector of a part

-- the result for a selector
abbrev stated : List Decl → Auid → List ℕ → Result Selector SelectorFault
stated bindings auid text = parsed_selector bindings (chars (namespace_of auid)) (encode_utf8_all text)

is_stated : (bindings : List Decl) (auid : Auid) (text : List ℕ) (answer : Result Selector SelectorFault) → IsTargetSelectorAnswer bindings auid text answer → answer ≡ stated bindings auid text
is_stated bindings auid text answer is =
    let uri = chars (namespace_of auid) in
    let spelled = encode_utf8_all text in
    one_selector bindings uri spelled answer (parsed_selector bindings uri spelled) is (selector_answer bindings uri spelled)

-- the code reads it, by the texts of the namespace and of the selector
pub part_ok : (bindings : List Decl) (auid : Auid) (text uri spelled : List ℕ) (selector : Selector) → uri ≡ namespace_of auid → spelled ≡ encode_utf8_all text → IsSelectorAnswer bindings (chars uri) spelled (Ok selector)
    → let r : Result Selector UriError = Ok selector in (r ≡ parsed_target_selector bindings auid text) ⊎ (r ≡ Err NoMemory)
part_ok bindings auid text uri spelled selector e f is =
    let here = subst (λ (z : List ℕ). IsSelectorAnswer bindings (chars z) (encode_utf8_all text) (Ok selector)) e (subst (λ (z : List ℕ). IsSelectorAnswer bindings (chars uri) z (Ok selector)) f is) in
    inl (ap with_target_fault (is_stated bindings auid text (Ok selector) here))

pub part_err : (bindings : List Decl) (auid : Auid) (text uri spelled : List ℕ) (error : ReadError SelectorFault) (told : UriError) → uri ≡ namespace_of auid → spelled ≡ encode_utf8_all text
    → (let r : Result Selector (ReadError SelectorFault) = Err error in ResultSatisfies (IsSelectorAnswer bindings (chars uri) spelled) r) → told ≡ error_of error
    → let r : Result Selector UriError = Err told in (r ≡ parsed_target_selector bindings auid text) ⊎ (r ≡ Err NoMemory)
part_err bindings auid text uri spelled (Fault fault) told e f is same =
    let here = subst (λ (z : List ℕ). IsSelectorAnswer bindings (chars z) (encode_utf8_all text) (Err fault)) e (subst (λ (z : List ℕ). IsSelectorAnswer bindings (chars uri) z (Err fault)) f is) in
    inl (ap (λ (z : UriError). let r : Result Selector UriError = Err z in r) same ∙ ap with_target_fault (is_stated bindings auid text (Err fault) here))
part_err bindings auid text uri spelled NoMemory told e f is same = inr (ap (λ (z : UriError). let r : Result Selector UriError = Err z in r) same)

-- ---- the meaning of a shape

abbrev Answer : Type 0
Answer = Result Target UriFault

node_meets : (doc : DocId) (Is : Result Selector SelectorFault → Type 0) (read : Result Selector SelectorFault) → Is read
    → Meets (λ (answer : Answer). (r : Result Selector SelectorFault) × Is r × (answer ≡ node_target doc r)) (with_target_fault read >>= λ selector. let r : Result Target UriError = Ok (Node doc selector) in r)
unfolding Meets
node_meets doc Is (Ok selector) is = (Ok selector, is, refl)
node_meets doc Is (Err fault) is = (Err fault, is, refl)

module _ (tag : ℕ) (doc : DocId) (raw : List ℕ) (Is : Result Selector SelectorFault → Type 0) where
  abbrev IsFeed : Answer → Type 0
  IsFeed answer = (r : Result Selector SelectorFault) × Is r × (answer ≡ element_feed_target tag doc raw r)

  by_end : (selector : Selector) (end : End) → selector.end ≡ end → Is (Ok selector) → Meets IsFeed (require_element_end end selector >>= λ s. let r : Result Target UriError = Ok (ElementFeed tag doc s raw) in r)
  unfolding Meets
  by_end selector ends.Element e is = (Ok selector, is, sym (ap (λ (z : End). let r : Answer = cond (is_element_end z) (Ok (ElementFeed tag doc selector raw)) (Err BadSelector) in r) e))
  by_end selector (ends.Attribute uri local) e is = (Ok selector, is, sym (ap (λ (z : End). let r : Answer = cond (is_element_end z) (Ok (ElementFeed tag doc selector raw)) (Err BadSelector) in r) e))
  by_end selector ends.Namespaces e is = (Ok selector, is, sym (ap (λ (z : End). let r : Answer = cond (is_element_end z) (Ok (ElementFeed tag doc selector raw)) (Err BadSelector) in r) e))

  feed_meets : (read : Result Selector SelectorFault) → Is read → Meets IsFeed (with_target_fault read >>= require_element >>= λ s. let r : Result Target UriError = Ok (ElementFeed tag doc s raw) in r)
  unfolding Meets
  feed_meets (Ok selector) is = by_end selector selector.end refl is
  feed_meets (Err fault) is = (Err fault, is, refl)

means_meets : (bindings : List Decl) (raw : List ℕ) (shape : Shape) → Meets (ShapeMeans bindings raw shape) (target_of shape bindings raw)
unfolding Meets
means_meets bindings raw (shapes.Document doc) = refl
means_meets bindings raw (shapes.Node doc text) = node_meets doc (IsTargetSelectorAnswer bindings doc.auid text) (stated bindings doc.auid text) (selector_answer bindings (chars (namespace_of doc.auid)) (encode_utf8_all text))
means_meets bindings raw (shapes.Deep auid home) = refl
means_meets bindings raw (shapes.Feed mode tag doc) = refl
means_meets bindings raw (shapes.ElementFeed tag doc text) =
    feed_meets tag doc raw (IsTargetSelectorAnswer bindings doc.auid text) (stated bindings doc.auid text) (selector_answer bindings (chars (namespace_of doc.auid)) (encode_utf8_all text))
means_meets bindings raw (shapes.Flat doc service) = refl

one_part : (bindings : List Decl) (auid : Auid) (text : List ℕ) (a b : Result Selector SelectorFault) → IsTargetSelectorAnswer bindings auid text a → IsTargetSelectorAnswer bindings auid text b → a ≡ b
one_part bindings auid text = one_selector bindings (chars (namespace_of auid)) (encode_utf8_all text)

one_meaning : (bindings : List Decl) (raw : List ℕ) (shape : Shape) (x y : Answer) → ShapeMeans bindings raw shape x → ShapeMeans bindings raw shape y → x ≡ y
one_meaning bindings raw (shapes.Document doc) x y p q = p ∙ sym q
one_meaning bindings raw (shapes.Node doc text) x y p q = p.2 ∙ ap (node_target doc) (one_part bindings doc.auid text p.0 q.0 p.1 q.1) ∙ sym q.2
one_meaning bindings raw (shapes.Deep auid home) x y p q = p ∙ sym q
one_meaning bindings raw (shapes.Feed mode tag doc) x y p q = p ∙ sym q
one_meaning bindings raw (shapes.ElementFeed tag doc text) x y p q = p.2 ∙ ap (element_feed_target tag doc raw) (one_part bindings doc.auid text p.0 q.0 p.1 q.1) ∙ sym q.2
one_meaning bindings raw (shapes.Flat doc service) x y p q = p ∙ sym q

-- ---- the shape, and the query

module _ (segments : List (List ℕ)) (selector query : Option (List ℕ)) (raw : List ℕ) where
  abbrev Bound : Shape → List Decl → Answer → Type 0
  Bound shape bindings = ShapeMeans bindings raw shape

  abbrev Shaped : Shape → Answer → Type 0
  Shaped shape = FirstOrFault (IsQuery query) BadQuery (Bound shape)

  abbrev Begun : Answer → Type 0
  Begun = FirstOrFault (NamesShape segments selector) BadShape Shaped

  abbrev Filled : Answer → Type 0
  Filled = HoldsOrFault (HasKnownFirstSegment segments) UnknownAuid Begun

  abbrev bound : Shape → List Decl → Result Target UriError
  bound shape bindings = target_of shape bindings raw

  abbrev shaped : Shape → Result Target UriError
  shaped shape = parsed_optional_bindings query >>= bound shape

  shaped_meets : (shape : Shape) → Meets (Shaped shape) (shaped shape)
  shaped_meets shape = step (IsQuery query) BadQuery (Bound shape) (parsed_optional_bindings query) (bound shape) (query_decided query) (λ bindings is. means_meets bindings raw shape)

  by_begin : (HasKnownFirstSegment segments × Good segments selector (reader.shape_of_segments segments selector)) ⊎ ((HasKnownFirstSegment segments → ⊥) × (reader.shape_of_segments segments selector ≡ Err (Fault UnknownAuid))) → Meets Filled (reader.shape_of_segments segments selector >>= shaped)
  by_begin (inl j) =
      given_next (HasKnownFirstSegment segments) UnknownAuid Begun j.0 (reader.shape_of_segments segments selector >>= shaped)
      (step (NamesShape segments selector) BadShape Shaped (reader.shape_of_segments segments selector) shaped (good_decided segments selector j.1) (λ shape is. shaped_meets shape))
  by_begin (inr j) = subst (λ (r : Result Shape UriError). Meets Filled (r >>= shaped)) (sym j.1) (given_fault (HasKnownFirstSegment segments) UnknownAuid Begun j.0)

  by_empty : (b : Bool) → list_any reader.is_empty segments ≡ b → Meets (HoldsOrFault (AreNonEmpty segments) BadShape Filled) (cond b (Err (Fault BadShape)) (reader.shape_of_segments segments selector) >>= shaped)
  by_empty true e = given_fault (AreNonEmpty segments) BadShape Filled (one_empty segments e)
  by_empty false e = given_next (AreNonEmpty segments) BadShape Filled (all_named segments e) (reader.shape_of_segments segments selector >>= shaped) (by_begin (judged segments selector))

  named_meets : Meets (IsSegmentsAnswer segments selector query raw) (reader.shape_of segments selector >>= shaped)
  named_meets = by_empty (list_any reader.is_empty segments) refl

  one_shaped : (shape : Shape) (x y : Answer) → Shaped shape x → Shaped shape y → x ≡ y
  one_shaped shape = one_step (IsQuery query) BadQuery (Bound shape) (parsed_optional_bindings query) (query_decided query) (λ bindings x y p q. one_meaning bindings raw shape x y p q)

  one_begun : (x y : Answer) → HasKnownFirstSegment segments → Begun x → Begun y → x ≡ y
  one_begun x y begin p q = by (judged segments selector)
    where
      by : (HasKnownFirstSegment segments × Good segments selector (reader.shape_of_segments segments selector)) ⊎ ((HasKnownFirstSegment segments → ⊥) × (reader.shape_of_segments segments selector ≡ Err (Fault UnknownAuid))) → x ≡ y
      by (inl j) = one_step (NamesShape segments selector) BadShape Shaped (reader.shape_of_segments segments selector) (good_decided segments selector j.1) one_shaped x y p q
      by (inr j) = absurd (j.0 begin)

  one_filled : (x y : Answer) → Filled x → Filled y → x ≡ y
  one_filled x y (inl p) (inl q) = one_begun x y p.0 p.1 q.1
  one_filled x y (inl p) (inr q) = absurd (q.0 p.0)
  one_filled x y (inr p) (inl q) = absurd (p.0 q.0)
  one_filled x y (inr p) (inr q) = p.1 ∙ sym q.1

  one_named : (x y : Answer) → IsSegmentsAnswer segments selector query raw x → IsSegmentsAnswer segments selector query raw y → x ≡ y
  one_named = one_given (AreNonEmpty segments) BadShape Filled one_filled

-- ---- what comes after the root

module _ (rest : List ℕ) where
  abbrev Query : Option (List ℕ)
  Query = rest_after question rest

  abbrev Path : Type 0
  Path = List (List ℕ) × Option (List ℕ)

  abbrev Queried : Path → Option (List ℕ) → Option (List ℕ) → Answer → Type 0
  Queried path selector query = IsSegmentsAnswer path.0 selector query (raw_text path.1 Query)

  abbrev Selected : Path → Option (List ℕ) → Answer → Type 0
  Selected path selector = FirstOrFault (DecodesToOptional Query) BadEscape (Queried path selector)

  abbrev Cut : Path → Answer → Type 0
  Cut path = FirstOrFault (DecodesToOptional path.1) BadEscape (Selected path)

  abbrev queried : Path → Option (List ℕ) → Option (List ℕ) → Result Target UriError
  queried path selector query = reader.shape_of path.0 selector >>= shaped path.0 selector query (raw_text path.1 Query)

  abbrev selected : Path → Option (List ℕ) → Result Target UriError
  selected path selector = parsed_optional_text Query >>= queried path selector

  abbrev cut : Path → Result Target UriError
  cut path = parsed_optional_text path.1 >>= selected path

  selected_meets : (path : Path) (selector : Option (List ℕ)) → Meets (Selected path selector) (selected path selector)
  selected_meets path selector =
      step (DecodesToOptional Query) BadEscape (Queried path selector) (parsed_optional_text Query) (queried path selector) (optional_decided Query)
      (λ query is. named_meets path.0 selector query (raw_text path.1 Query))

  cut_meets : (path : Path) → Meets (Cut path) (cut path)
  cut_meets path = step (DecodesToOptional path.1) BadEscape (Selected path) (parsed_optional_text path.1) (selected path) (optional_decided path.1) (λ selector is. selected_meets path selector)

  rest_meets : Meets (IsRestAnswer rest) (parsed_rest rest)
  rest_meets = step (IsSplitPath (front_before question rest)) BadEscape Cut (parsed_path (front_before question rest)) cut (path_decided (front_before question rest)) (λ path is. cut_meets path)

  one_selected : (path : Path) (selector : Option (List ℕ)) (x y : Answer) → Selected path selector x → Selected path selector y → x ≡ y
  one_selected path selector =
      one_step (DecodesToOptional Query) BadEscape (Queried path selector) (parsed_optional_text Query) (optional_decided Query) (λ query x y p q. one_named path.0 selector query (raw_text path.1 Query) x y p q)

  one_cut : (path : Path) (x y : Answer) → Cut path x → Cut path y → x ≡ y
  one_cut path = one_step (DecodesToOptional path.1) BadEscape (Selected path) (parsed_optional_text path.1) (optional_decided path.1) (λ selector x y p q. one_selected path selector x y p q)

  one_rest : (x y : Answer) → IsRestAnswer rest x → IsRestAnswer rest y → x ≡ y
  one_rest = one_step (IsSplitPath (front_before question rest)) BadEscape Cut (parsed_path (front_before question rest)) (path_decided (front_before question rest)) (λ path x y p q. one_cut path x y p q)

-- ---- the whole target

by_root : (under found : Option (List ℕ)) → under ≡ found → Meets (FirstOrFault (λ rest. under ≡ Some rest) OutsideRoot IsRestAnswer) (parsed_under_root found)
unfolding Meets
by_root under None e = inr (λ rest h. (let i : None ≡ Some rest = sym e ∙ h in absurd cc), refl)
by_root under (Some rest) e = inside (λ rest. under ≡ Some rest) OutsideRoot IsRestAnswer rest e (parsed_rest rest) (rest_meets rest)

target_meets : (root target : List ℕ) → Meets (IsTargetResult root target) (parsed_target root target)
target_meets root target = by_root (rest_under_root root target) (rest_under_root root target) refl

-- A target has a result, which reading finds,
pub read_answered : (root target : List ℕ) → ResultSatisfies (IsTargetResult root target) (parsed_target root target)
read_answered root target = met (IsTargetResult root target) (parsed_target root target) (target_meets root target)

pub some_target : (root target : List ℕ) → (answer : Answer) × IsTargetResult root target answer
some_target root target = some_met (IsTargetResult root target) (parsed_target root target) (target_meets root target)

-- and no other.
pub one_target : (root target : List ℕ) (x y : Answer) → IsTargetResult root target x → IsTargetResult root target y → x ≡ y
one_target root target x y (inl p) (inl q) =
    let i : Some p.0 ≡ Some q.0 = sym p.1 ∙ q.1 in
    let same : p.0 ≡ q.0 = cc in
    one_rest q.0 x y (subst (λ (z : List ℕ). IsRestAnswer z x) same p.2) q.2
one_target root target x y (inl p) (inr q) = absurd (q.0 p.0 p.1)
one_target root target x y (inr p) (inl q) = absurd (p.0 q.0 q.1)
one_target root target x y (inr p) (inr q) = p.1 ∙ sym q.1

-- The code returns it, or out of memory.
pub target_answered : (root target : List ℕ) (r : Result Target UriError) → (r ≡ parsed_target root target) ⊎ (r ≡ Err NoMemory) → ResultSatisfies (IsTargetResult root target) r
target_answered root target r (inl e) = subst (ResultSatisfies (IsTargetResult root target)) (sym e) (read_answered root target)
target_answered root target r (inr e) = subst (ResultSatisfies (IsTargetResult root target)) (sym e) tt

-- An address can name the ids in a target.
readable_of : (root target : List ℕ) (t : Target) (r : Result Target UriError) → IfOk r IsReadableTarget → Meets (IsTargetResult root target) r → IsTargetResult root target (Ok t) → IsReadableTarget t
unfolding Meets
readable_of root target t (Ok s) good m is = let i : Ok s ≡ Ok t = one_target root target (Ok s) (Ok t) m is in let same : s ≡ t = cc in subst IsReadableTarget same good
readable_of root target t (Err (Fault fault)) good m is = let i = one_target root target (Err fault) (Ok t) m is in absurd cc
readable_of root target t (Err NoMemory) good m is = absurd m

pub readable_target : (root target : List ℕ) (t : Target) → IsTargetResult root target (Ok t) → IsReadableTarget t
readable_target root target t is = readable_of root target t (parsed_target root target) (target_readable root target) (target_meets root target) is

-- What is read is the result.
pub read_is : (root target : List ℕ) (t : Target) → parsed_target root target ≡ Ok t → IsTargetResult root target (Ok t)
read_is root target t e = subst (ResultSatisfies (IsTargetResult root target)) e (read_answered root target)

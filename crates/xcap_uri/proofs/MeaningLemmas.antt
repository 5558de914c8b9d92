-- What an address means by itself, and the result of reading it: a target of the standards is what
-- the address means, and a fault says whether it leads nowhere.
use Rattle.std.proofs.Common.{◌≡◌, ◌≢◌, ◌↔◌, ℕ, true, false, true≢false, List, [], ◌∷◌, ◌⊎◌, inl, inr, Option, None, Some, Result, Ok, Err, refl, sym, ap, subst, ◌∙◌, encode_utf8_all}
use Rattle.std.specs.Str.{chars}
use Rattle.xml_names.specs.declared.names.Decl.{Decl}
use Rattle.xml_grammar.specs.ParseResults.{IsParseResult}
use Rattle.xml_grammar.specs.TextReading.{Stop}
use Rattle.xml_tokens.specs.declared.fault_kind.FaultKind.{FaultKind}
use Rattle.node_select.specs.Faults.{IsSelectorAnswer, fault_ranking, selector_result}
use Rattle.node_select.specs.Grammar as grammar
use Rattle.node_select.specs.declared.fault.SelectorFault.{SelectorFault}
use Rattle.node_select.specs.declared.fault.SelectorFault.TheVariants as selectors
use Rattle.node_select.specs.declared.selector.End.{End}
use Rattle.node_select.specs.declared.selector.End.TheVariants as ends
use Rattle.node_select.specs.declared.selector.Selector.{Selector}
use Rattle.doc_names.specs.Usages.{auid_text, namespace_of}
use Rattle.doc_names.specs.declared.doc_id.Auid.{Auid}
use Rattle.doc_names.specs.declared.doc_id.Auid.TheVariants.{RlsServices}
use Rattle.doc_names.specs.declared.doc_id.Home.TheVariants.{User}
use Rattle.doc_names.specs.declared.doc_id.DocId.{DocId}
use Rattle.xcap_uri.specs.Meanings.{AddressParts, BeginOwn, HasParts, IsNowhereFault, IsOwnAddress, IsOwnTarget, IsTarget, LeadsNowhere, PartsMean, SpellsSelector, means_deep, means_document, means_node}
use Rattle.xcap_uri.specs.Shapes.{NamesShape, doc_of, names_deep, names_document, names_element_feed, names_feed, names_flat, names_node, AreNonEmpty, HasKnownFirstSegment}
use Rattle.xcap_uri.specs.Targets.{IsTargetSelectorAnswer, ShapeMeans, IsTargetResult, element_feed_target, node_target, question, raw_text, rest_under_root}
use Rattle.xcap_uri.specs.Delimiters.{rest_after}
use Rattle.xcap_uri.specs.Queries.{IsQuery}
use Rattle.xcap_uri.specs.Words.{feed, flat}
use Rattle.xcap_uri.specs.declared.fault.UriFault.{UriFault}
use Rattle.xcap_uri.specs.declared.fault.UriFault.TheVariants.{OutsideRoot, UnknownAuid, BadShape, BadEscape, BadQuery, UnboundPrefix, BadSelector}
use Rattle.xcap_uri.specs.declared.shape.Shape.{Shape}
use Rattle.xcap_uri.specs.declared.shape.Shape.TheVariants as shapes
use Rattle.xcap_uri.specs.declared.target.Target.{Target}
use Rattle.xcap_uri.specs.declared.target.Target.TheVariants.{Document, Node, Deep, Feed, ElementFeed, Flat}
use Rattle.xcap_uri.proofs.TargetAnswers.{one_target}

abbrev Answer : Type 0
Answer = Result Target UriFault

-- a fault is no target
no_target : {X : Type 0} (t : Target) (fault : UriFault) → ◌≡◌ {A = Answer} (Ok t) (Err fault) → X
no_target t fault e = let never : ⊥ = cc in absurd never

same_fault : (a b : UriFault) → ◌≡◌ {A = Answer} (Err a) (Err b) → a ≡ b
same_fault a b e = cc

-- ---- selectors

module _ (bindings : List Decl) (auid : Auid) (text : List ℕ) where
  by_names : (selector : Selector) (form names : Result Selector (Stop FaultKind)) → Ok selector ≡ selector_result (encode_utf8_all text) form names
      → IsParseResult (fault_ranking true) (grammar.selector bindings (chars (namespace_of auid))) (chars (encode_utf8_all text)) names → SpellsSelector bindings auid text selector
  by_names selector (Err stop) names e is = let never : ⊥ = cc in absurd never
  by_names selector (Ok value) (Err stop) e is = let never : ⊥ = cc in absurd never
  by_names selector (Ok value) (Ok same) e is = let here : same ≡ selector = cc in subst (SpellsSelector bindings auid text) here is

  spells : (selector : Selector) → IsTargetSelectorAnswer bindings auid text (Ok selector) → SpellsSelector bindings auid text selector
  spells selector is = by_names selector is.form_is is.names_are is.is_told is.by_names

  is_answer : (selector : Selector) → SpellsSelector bindings auid text selector → IsTargetSelectorAnswer bindings auid text (Ok selector)
  is_answer selector is = record {
    form_is = Ok selector;
    by_form = record { spelled = is.spelled; unique = is.unique; calm = λ kind left counts said. absurd (true≢false (sym counts)) };
    names_are = Ok selector;
    by_names = is;
    is_told = refl;
  }

-- ---- by the parts

module _ (parts : AddressParts) (bindings : List Decl) where
  begins : (word : List ℕ) (more segments : List (List ℕ)) → segments ≡ word ∷ more → (word ≡ feed) ⊎ (word ≡ flat) → BeginOwn segments
  begins word more segments e is = subst BeginOwn (sym e) is

  node_means : (auid : Auid) (text : List ℕ) (t : Target) (doc : DocId) (read : Result Selector SelectorFault) → IsTargetSelectorAnswer bindings auid text read → ◌≡◌ {A = Answer} (Ok t) (node_target doc read)
      → (selector : Selector) × SpellsSelector bindings auid text selector × (t ≡ Node doc selector)
  node_means auid text t doc (Ok selector) is e = (selector, spells bindings auid text selector is, cc)
  node_means auid text t doc (Err fault) is e = let never : ⊥ = cc in absurd never

  element_feed_is : (tag : ℕ) (doc : DocId) (raw : List ℕ) (t : Target) (selector : Selector) (end : End) → selector.end ≡ end → ◌≡◌ {A = Answer} (Ok t) (element_feed_target tag doc raw (Ok selector)) → IsOwnTarget t
  element_feed_is tag doc raw t selector ends.Element p e = let same : t ≡ ElementFeed tag doc selector raw = cc in subst IsOwnTarget (sym same) tt
  element_feed_is tag doc raw t selector (ends.Attribute uri local) p e = let never : ⊥ = cc in absurd never
  element_feed_is tag doc raw t selector ends.Namespaces p e = let never : ⊥ = cc in absurd never

  feed_is : (tag : ℕ) (doc : DocId) (raw : List ℕ) (t : Target) (read : Result Selector SelectorFault) → ◌≡◌ {A = Answer} (Ok t) (element_feed_target tag doc raw read) → IsOwnTarget t
  feed_is tag doc raw t (Ok selector) e = element_feed_is tag doc raw t selector selector.end refl e
  feed_is tag doc raw t (Err fault) e = let never : ⊥ = cc in absurd never

  -- a shape's meaning is what the parts mean, or it is one of the server's own
  by_shape : (raw : List ℕ) (t : Target) (shape : Shape) → NamesShape parts.segments parts.selector shape → ShapeMeans bindings raw shape (Ok t) → PartsMean parts bindings t ⊎ (BeginOwn parts.segments × IsOwnTarget t)
  by_shape raw t _ (names_document auid home name e f) is =
      let same : t ≡ Document (doc_of auid home name) = cc in inl (subst (PartsMean parts bindings) (sym same) (means_document auid home name e f))
  by_shape raw t _ (names_node auid home name text e f some) is =
      let n = node_means auid text t (doc_of auid home name) is.0 is.1 is.2 in
      inl (subst (PartsMean parts bindings) (sym n.2) (means_node auid home name text n.0 e f some n.1))
  by_shape raw t _ (names_deep auid home name next more e) is = let same : t ≡ Deep auid home = cc in inl (subst (PartsMean parts bindings) (sym same) (means_deep auid home name next more e))
  by_shape raw t _ (names_feed mode tag digits auid usage xui name e is_tag stored f) is =
      let same : t ≡ Feed mode tag (doc_of auid (User xui) name) = cc in inr (begins feed _ parts.segments e (inl refl), subst IsOwnTarget (sym same) tt)
  by_shape raw t _ (names_element_feed tag digits auid usage xui name text e is_tag stored f some) is =
      inr (begins feed _ parts.segments e (inl refl), feed_is tag (doc_of auid (User xui) name) raw t is.0 is.2)
  by_shape raw t _ (names_flat xui name service e f) is =
      let same : t ≡ Flat (doc_of RlsServices (User xui) name) service = cc in inr (begins flat _ parts.segments e (inr refl), subst IsOwnTarget (sym same) tt)

  -- what the parts mean is the meaning of the shape that they name
  shape_of : (raw : List ℕ) (t : Target) → PartsMean parts bindings t → (shape : Shape) × NamesShape parts.segments parts.selector shape × ShapeMeans bindings raw shape (Ok t)
  shape_of raw _ (means_document auid home name e f) = (shapes.Document (doc_of auid home name), names_document auid home name e f, refl)
  shape_of raw _ (means_node auid home name text selector e f some is) =
      (shapes.Node (doc_of auid home name) text, names_node auid home name text e f some, (Ok selector, is_answer bindings auid text selector is, refl))
  shape_of raw _ (means_deep auid home name next more e) = (shapes.Deep auid home, names_deep auid home name next more e, refl)

  right : (auid : Auid) (more segments : List (List ℕ)) → segments ≡ chars (auid_text auid) ∷ more → HasKnownFirstSegment segments
  right auid more segments e = subst HasKnownFirstSegment (sym e) (inr (inr (auid, refl)))

  begins_rightly : (t : Target) → PartsMean parts bindings t → HasKnownFirstSegment parts.segments
  begins_rightly _ (means_document auid home name e f) = right auid _ parts.segments e
  begins_rightly _ (means_node auid home name text selector e f some is) = right auid _ parts.segments e
  begins_rightly _ (means_deep auid home name next more e) = right auid _ parts.segments e

  -- no meaning has a fault that leads nowhere
  node_fault : (doc : DocId) (fault : UriFault) (read : Result Selector SelectorFault) → ◌≡◌ {A = Answer} (Err fault) (node_target doc read) → IsNowhereFault fault → ⊥
  node_fault doc fault (Ok selector) e is = let never : ⊥ = cc in absurd never
  node_fault doc fault (Err (selectors.BadSelector place)) e is = let same : fault ≡ BadSelector = cc in subst IsNowhereFault same is
  node_fault doc fault (Err (selectors.UnboundPrefix place)) e is = let same : fault ≡ UnboundPrefix = cc in subst IsNowhereFault same is

  end_fault : (tag : ℕ) (doc : DocId) (raw : List ℕ) (fault : UriFault) (selector : Selector) (end : End) → selector.end ≡ end → ◌≡◌ {A = Answer} (Err fault) (element_feed_target tag doc raw (Ok selector)) → IsNowhereFault fault → ⊥
  end_fault tag doc raw fault selector ends.Element p e is = let never : ⊥ = cc in absurd never
  end_fault tag doc raw fault selector (ends.Attribute uri local) p e is = let same : fault ≡ BadSelector = cc in subst IsNowhereFault same is
  end_fault tag doc raw fault selector ends.Namespaces p e is = let same : fault ≡ BadSelector = cc in subst IsNowhereFault same is

  feed_fault : (tag : ℕ) (doc : DocId) (raw : List ℕ) (fault : UriFault) (read : Result Selector SelectorFault) → ◌≡◌ {A = Answer} (Err fault) (element_feed_target tag doc raw read) → IsNowhereFault fault → ⊥
  feed_fault tag doc raw fault (Ok selector) e is = end_fault tag doc raw fault selector selector.end refl e is
  feed_fault tag doc raw fault (Err (selectors.BadSelector place)) e is = let same : fault ≡ BadSelector = cc in subst IsNowhereFault same is
  feed_fault tag doc raw fault (Err (selectors.UnboundPrefix place)) e is = let same : fault ≡ UnboundPrefix = cc in subst IsNowhereFault same is

  meant_fault : (raw : List ℕ) (fault : UriFault) (shape : Shape) → ShapeMeans bindings raw shape (Err fault) → IsNowhereFault fault → ⊥
  meant_fault raw fault (shapes.Document doc) e is = let never : ⊥ = cc in absurd never
  meant_fault raw fault (shapes.Node doc text) e is = node_fault doc fault e.0 e.2 is
  meant_fault raw fault (shapes.Deep auid home) e is = let never : ⊥ = cc in absurd never
  meant_fault raw fault (shapes.Feed mode tag doc) e is = let never : ⊥ = cc in absurd never
  meant_fault raw fault (shapes.ElementFeed tag doc text) e is = feed_fault tag doc raw fault e.0 e.2 is
  meant_fault raw fault (shapes.Flat doc service) e is = let never : ⊥ = cc in absurd never

-- ---- by the whole address

abbrev parts_of : List (List ℕ) → Option (List ℕ) → Option (List ℕ) → AddressParts
parts_of segments selector query = record { segments = segments; selector = selector; query = query }

module _ (root target : List ℕ) where
  -- a target that is read is what the address means, or the address is one of the server's own
  pub meant : (t : Target) → IsTargetResult root target (Ok t) → IsTarget root target t ⊎ (IsOwnAddress root target × IsOwnTarget t)
  meant t (inl (rest, under, inl ((segments, coded), path, inl (selector, selects, inl (query, asks, inl (named, inl (right, inl (shape, names, inl (bindings, binds, means))))))))) =
      let parts = parts_of segments selector query in
      let has : HasParts root target parts = record { rest = rest; under = under; coded = coded; path = path; selects = selects; asks = asks; named = named } in
      either_so parts has bindings binds (by_shape parts bindings (raw_text coded (rest_after question rest)) t shape names means)
    where
      either_so : (parts : AddressParts) → HasParts root target parts → (bindings : List Decl) → IsQuery parts.query bindings → PartsMean parts bindings t ⊎ (BeginOwn parts.segments × IsOwnTarget t) → IsTarget root target t ⊎ (IsOwnAddress root target × IsOwnTarget t)
      either_so parts has bindings binds (inl means) = inl (record { parts = parts; has = has; bindings = bindings; binds = binds; means = means })
      either_so parts has bindings binds (inr own) = inr ((parts, has, own.0), own.1)
  meant t (inl (rest, under, inl (path, is_path, inl (selector, selects, inl (query, asks, inl (named, inl (right, inl (shape, names, inr (none, e))))))))) = no_target t BadQuery e
  meant t (inl (rest, under, inl (path, is_path, inl (selector, selects, inl (query, asks, inl (named, inl (right, inr (none, e)))))))) = no_target t BadShape e
  meant t (inl (rest, under, inl (path, is_path, inl (selector, selects, inl (query, asks, inl (named, inr (none, e))))))) = no_target t UnknownAuid e
  meant t (inl (rest, under, inl (path, is_path, inl (selector, selects, inl (query, asks, inr (none, e)))))) = no_target t BadShape e
  meant t (inl (rest, under, inl (path, is_path, inl (selector, selects, inr (none, e))))) = no_target t BadEscape e
  meant t (inl (rest, under, inl (path, is_path, inr (none, e)))) = no_target t BadEscape e
  meant t (inl (rest, under, inr (none, e))) = no_target t BadEscape e
  meant t (inr (none, e)) = no_target t OutsideRoot e

  -- what the address means is read
  pub is_read : (t : Target) → IsTarget root target t → IsTargetResult root target (Ok t)
  is_read t is =
      let parts = is.parts in
      let has = is.has in
      let shape = shape_of parts is.bindings (raw_text has.coded (rest_after question has.rest)) t is.means in
      inl (has.rest, has.under, inl ((parts.segments, has.coded), has.path, inl (parts.selector, has.selects, inl (parts.query, has.asks, inl (has.named, inl (begins_rightly parts is.bindings t is.means, inl (shape.0, shape.1, inl (is.bindings, is.binds, shape.2))))))))

  none_of : (found : Option (List ℕ)) → ((rest : List ℕ) → found ≡ Some rest → ⊥) → found ≡ None
  none_of None none = refl
  none_of (Some rest) none = absurd (none rest refl)

  -- a fault of an address that leads nowhere says so
  leads : (fault : UriFault) → IsTargetResult root target (Err fault) → IsNowhereFault fault → LeadsNowhere root target
  leads fault (inl (rest, under, inl (path, is_path, inl (selector, selects, inl (query, asks, inl (named, inl (right, inl (shape, names, inl (bindings, binds, means))))))))) is =
      absurd (meant_fault (parts_of path.0 selector query) bindings (raw_text path.1 (rest_after question rest)) fault shape means is)
  leads fault (inl (rest, under, inl (path, is_path, inl (selector, selects, inl (query, asks, inl (named, inl (right, inl (shape, names, inr (none, e))))))))) is = absurd (subst IsNowhereFault (same_fault fault BadQuery e) is)
  leads fault (inl (rest, under, inl (path, is_path, inl (selector, selects, inl (query, asks, inl (named, inl (right, inr (none, e)))))))) is = absurd (subst IsNowhereFault (same_fault fault BadShape e) is)
  leads fault (inl (rest, under, inl ((segments, coded), path, inl (selector, selects, inl (query, asks, inl (named, inr (wrong, e))))))) is =
      inr (parts_of segments selector query, record { rest = rest; under = under; coded = coded; path = path; selects = selects; asks = asks; named = named }, wrong)
  leads fault (inl (rest, under, inl (path, is_path, inl (selector, selects, inl (query, asks, inr (none, e)))))) is = absurd (subst IsNowhereFault (same_fault fault BadShape e) is)
  leads fault (inl (rest, under, inl (path, is_path, inl (selector, selects, inr (none, e))))) is = absurd (subst IsNowhereFault (same_fault fault BadEscape e) is)
  leads fault (inl (rest, under, inl (path, is_path, inr (none, e)))) is = absurd (subst IsNowhereFault (same_fault fault BadEscape e) is)
  leads fault (inl (rest, under, inr (none, e))) is = absurd (subst IsNowhereFault (same_fault fault BadEscape e) is)
  leads fault (inr (none, e)) is = inl (none_of (rest_under_root root target) none)

  nowhere_read : LeadsNowhere root target → (fault : UriFault) × IsTargetResult root target (Err fault) × IsNowhereFault fault
  nowhere_read (inl none) = (OutsideRoot, inr (λ rest under. (let never : None ≡ Some rest = sym none ∙ under in absurd cc), refl), tt)
  nowhere_read (inr (parts, has, wrong)) =
      (UnknownAuid, inl (has.rest, has.under, inl ((parts.segments, has.coded), has.path, inl (parts.selector, has.selects, inl (parts.query, has.asks, inl (has.named, inr (wrong, refl)))))), tt)

  is_nowhere : (fault : UriFault) → IsTargetResult root target (Err fault) → LeadsNowhere root target → IsNowhereFault fault
  is_nowhere fault is nowhere =
      let read = nowhere_read nowhere in
      subst IsNowhereFault (same_fault read.0 fault (one_target root target (Err read.0) (Err fault) read.1 is)) read.2

  pub nowhere : (fault : UriFault) → IsTargetResult root target (Err fault) → LeadsNowhere root target ↔ IsNowhereFault fault
  nowhere fault is = (is_nowhere fault is, leads fault is)

  -- an address that has a fault means nothing, and one that means something leads somewhere
  pub meaningless : (fault : UriFault) (t : Target) → IsTargetResult root target (Err fault) → IsTarget root target t → ⊥
  meaningless fault t is means = no_target t fault (one_target root target (Ok t) (Err fault) (is_read t means) is)

  pub one_meaning : (t other : Target) → IsTarget root target t → IsTarget root target other → t ≡ other
  one_meaning t other is also = let same : ◌≡◌ {A = Answer} (Ok t) (Ok other) = one_target root target (Ok t) (Ok other) (is_read t is) (is_read other also) in cc

  pub somewhere : (t : Target) → LeadsNowhere root target → IsTarget root target t → ⊥
  somewhere t leads_nowhere is = let read = nowhere_read leads_nowhere in meaningless read.0 t read.1 is

-- Each answer of the machine is an answer of the standards' machine, and so is each step.
use Rattle.std.proofs.Common.{◌≡◌, ◌⊎◌, inl, inr, ℕ, Bool, true, false, List, Option, None, Some, option_map, Result, Ok, Err, refl, sym, ap, subst, ◌∙◌}
use Rattle.std.proofs.lemmas.Bool.{true≢false}
use Rattle.xcap_uri.specs.Meanings.{AddressParts, IsNowhereFault, IsOwnAddress, IsOwnTarget, IsTarget, LeadsNowhere, PartsMean, means_deep, means_document, means_node}
use Rattle.xcap_uri.specs.Targets.{IsTargetResult}
use Rattle.xcap_uri.specs.declared.fault.UriFault.{UriFault}
use Rattle.xcap_uri.specs.declared.fault.UriFault.TheVariants.{OutsideRoot, UnknownAuid, BadShape, BadEscape, BadQuery, UnboundPrefix, BadSelector}
use Rattle.xcap_uri.specs.declared.target.Target.{Target}
use Rattle.xcap_uri.specs.declared.target.Target.TheVariants.{Document, Node, Deep, Feed, ElementFeed, Flat}
use Rattle.xcap_uri.proofs.MeaningLemmas.{meaningless, meant, nowhere, one_meaning, somewhere}
use Rattle.xml_names.specs.declared.names.Decl.{Decl}
use Rattle.edit_ops.specs.declared.edit.Edit.{Edit}
use Rattle.reply_text.specs.ReplyHeads.{SentReply, plain_reply}
use Rattle.http_wire.specs.declared.request.Request.{Request}
use Rattle.request_checks.specs.Methods.{method_of}
use Rattle.request_checks.specs.declared.method.Method.{Method}
use Rattle.request_checks.specs.declared.method.Method.TheVariants.{Get, Head, Put, Delete, Other}
use Rattle.store_core.specs.Contents.{HasDocumentsOf, contents_of, StoreContents as Content}
use Rattle.store_core.specs.State.{State}
use Rattle.store_core.proofs.PresentDocuments.{has_documents_after, represented}
use Rattle.xcap_machine.specs.Answers.{Answer, MadeChange, reply_only}
use Rattle.xcap_machine.specs.StepOutcomes.{HasStandardStep}
use Rattle.xcap_machine.specs.Machine.{ContentStep, StandardStep, Step, state_after_answer, answer_with_edit, content_after_answer, change_from_edit}
use Rattle.xcap_machine.specs.Requests.{AnswersByTarget, IsAnswer, fault_status}
use Rattle.xcap_machine.specs.StandardRequests as standard
use Rattle.xcap_machine.specs.StandardRequests.{IsStandardAnswer, ReadsNothing, by_target, is_own, leads_nowhere, means_nothing}
use Rattle.xcap_machine.specs.inner.AnswerCases.{IsAnswerByTarget}
use Rattle.xcap_machine.specs.inner.RecordValues.{server_state}
use Rattle.xcap_machine.proofs.OneAnswer.{one_of_target, some_answer}
use Rattle.xcap_machine.proofs.Steps.{answer_closes, some_step}
use Rattle.xcap_machine.proofs.Ways.{Way, changes, stays, way_of}

-- ---- targets

-- a target of the standards
abbrev IsStandard : Target → Type 0
IsStandard (Document id) = Unit {0}
IsStandard (Node id selector) = Unit {0}
IsStandard (Deep auid home) = Unit {0}
IsStandard _ = ⊥

meant_standard : (parts : AddressParts) (bindings : List Decl) (t : Target) → PartsMean parts bindings t → IsStandard t
meant_standard parts bindings _ (means_document auid home name e f) = tt
meant_standard parts bindings _ (means_node auid home name text selector e f some is) = tt
meant_standard parts bindings _ (means_deep auid home name next more e) = tt

module _ (root : List ℕ) (c : Content) (request : Request) (a : Answer) where
  abbrev Standard : Target → Method → Type 0
  Standard target method = standard.AnswersByTarget ReadsNothing (server_state root c) target method request a

  abbrev Whole : Target → Method → Type 0
  Whole target method = AnswersByTarget (server_state root c) target method request a

  -- a target of the standards is answered alike
  alike : (target : Target) → IsStandard target → (method : Method) → Whole target method → Standard target method
  alike (Document id) is Get so = so
  alike (Document id) is Head so = so
  alike (Document id) is Put so = so
  alike (Document id) is Delete so = so
  alike (Document id) is Other so = so
  alike (Node id selector) is Get so = so
  alike (Node id selector) is Head so = so
  alike (Node id selector) is Put so = so
  alike (Node id selector) is Delete so = so
  alike (Node id selector) is Other so = so
  alike (Deep auid home) is Get so = so
  alike (Deep auid home) is Head so = so
  alike (Deep auid home) is Put so = so
  alike (Deep auid home) is Delete so = so
  alike (Deep auid home) is Other so = so
  alike (Feed mode tag id) is method so = absurd is
  alike (ElementFeed tag id selector raw) is method so = absurd is
  alike (Flat id service) is method so = absurd is

  alike_back : (target : Target) → IsStandard target → (method : Method) → Standard target method → Whole target method
  alike_back (Document id) is Get so = so
  alike_back (Document id) is Head so = so
  alike_back (Document id) is Put so = so
  alike_back (Document id) is Delete so = so
  alike_back (Document id) is Other so = so
  alike_back (Node id selector) is Get so = so
  alike_back (Node id selector) is Head so = so
  alike_back (Node id selector) is Put so = so
  alike_back (Node id selector) is Delete so = so
  alike_back (Node id selector) is Other so = so
  alike_back (Deep auid home) is Get so = so
  alike_back (Deep auid home) is Head so = so
  alike_back (Deep auid home) is Put so = so
  alike_back (Deep auid home) is Delete so = so
  alike_back (Deep auid home) is Other so = so
  alike_back (Feed mode tag id) is method so = absurd is
  alike_back (ElementFeed tag id selector raw) is method so = absurd is
  alike_back (Flat id service) is method so = absurd is

  -- ---- this server's own targets

  -- a request that reads changes nothing
  get_way : Way Get request.closes c a → a.made ≡ None
  get_way (stays reply tells closes is) = ap (λ (x : Answer). x.made) is
  get_way (changes reply tells closes id change note next asks made is) = absurd (true≢false (sym tells))

  head_way : Way Head request.closes c a → a.made ≡ None
  head_way (stays reply tells closes is) = ap (λ (x : Answer). x.made) is
  head_way (changes reply tells closes id change note next asks made is) = absurd (true≢false (sym tells))

  stopped : (reply : SentReply) → a ≡ reply_only reply → a.made ≡ None
  stopped reply is = ap (λ (x : Answer). x.made) is

  -- and no other request is allowed
  own_made : (target : Target) → IsOwnTarget target → (method : Method) → Whole target method → Way method request.closes c a → a.made ≡ None
  own_made target is Get so way = get_way way
  own_made target is Head so way = head_way way
  own_made (Document id) is Put so way = absurd is
  own_made (Node id selector) is Put so way = absurd is
  own_made (Deep auid home) is Put so way = absurd is
  own_made (Feed mode tag id) is Put so way = stopped _ so
  own_made (ElementFeed tag id selector raw) is Put so way = stopped _ so
  own_made (Flat id service) is Put so way = stopped _ so
  own_made (Document id) is Delete so way = absurd is
  own_made (Node id selector) is Delete so way = absurd is
  own_made (Deep auid home) is Delete so way = absurd is
  own_made (Feed mode tag id) is Delete so way = stopped _ so
  own_made (ElementFeed tag id selector raw) is Delete so way = stopped _ so
  own_made (Flat id service) is Delete so way = stopped _ so
  own_made target is Other so way = stopped _ so

  -- ---- all in order

  abbrev address : List ℕ
  address = request.target

  nowhere_status : (fault : UriFault) → IsNowhereFault fault → fault_status fault ≡ 404
  nowhere_status OutsideRoot is = refl
  nowhere_status UnknownAuid is = refl
  nowhere_status BadShape is = absurd is
  nowhere_status BadEscape is = absurd is
  nowhere_status BadQuery is = absurd is
  nowhere_status UnboundPrefix is = absurd is
  nowhere_status BadSelector is = absurd is

  -- the fault of an address
  by_fault : (fault : UriFault) → IsTargetResult root address (Err fault) → a ≡ reply_only (plain_reply (fault_status fault) request.closes) → IsStandardAnswer root c request a
  by_fault OutsideRoot found is = leads_nowhere ((nowhere root address OutsideRoot found).1 tt) is
  by_fault UnknownAuid found is = leads_nowhere ((nowhere root address UnknownAuid found).1 tt) is
  by_fault BadShape found is = means_nothing (λ t. meaningless root address BadShape t found) (nowhere root address BadShape found).0 is
  by_fault BadEscape found is = means_nothing (λ t. meaningless root address BadEscape t found) (nowhere root address BadEscape found).0 is
  by_fault BadQuery found is = means_nothing (λ t. meaningless root address BadQuery t found) (nowhere root address BadQuery found).0 is
  by_fault UnboundPrefix found is = means_nothing (λ t. meaningless root address UnboundPrefix t found) (nowhere root address UnboundPrefix found).0 is
  by_fault BadSelector found is = means_nothing (λ t. meaningless root address BadSelector t found) (nowhere root address BadSelector found).0 is

  by_meaning : (t : Target) → IsTarget root address t ⊎ (IsOwnAddress root address × IsOwnTarget t) → Whole t (method_of request.method) → Way (method_of request.method) request.closes c a → a.reply.closes ≡ request.closes → IsStandardAnswer root c request a
  by_meaning t (inl is) so way closes = by_target t is (alike t (meant_standard is.parts is.bindings t is.means) (method_of request.method) so)
  by_meaning t (inr own) so way closes = is_own own.0 (own_made t own.1 (method_of request.method) so way) closes

  by_read : (read : Result Target UriFault) → IsTargetResult root address read → IsAnswerByTarget root c read request a → Way (method_of request.method) request.closes c a → a.reply.closes ≡ request.closes → IsStandardAnswer root c request a
  by_read (Ok t) found so way closes = by_meaning t (meant root address t found) so way closes
  by_read (Err fault) found so way closes = by_fault fault found so

  pub standard_answer : IsAnswer root c request a → IsStandardAnswer root c request a
  standard_answer is = by_read is.0 is.1 is.2 (way_of root c request a is) (answer_closes root c request a is)

-- ---- one answer

module _ (root : List ℕ) (c : Content) (request : Request) where
  abbrev Is : Answer → Type 0
  Is a = IsStandardAnswer root c request a

  abbrev One : Answer → Answer → Type 0
  One a b = (a ≡ b) ⊎ IsOwnAddress root request.target

  pub some_standard : (a : Answer) × Is a
  some_standard = let some = some_answer root c request in (some.0, standard_answer root c request some.0 some.1)

  same_target : (t other : Target) (a b : Answer) → t ≡ other → IsStandard t → Standard root c request a t (method_of request.method) → Standard root c request b other (method_of request.method) → a ≡ b
  same_target t other a b same is so also =
      one_of_target root c request t (method_of request.method) a b (alike_back root c request a t is (method_of request.method) so)
      (alike_back root c request b t is (method_of request.method) (subst (λ (x : Target). Standard root c request b x (method_of request.method)) (sym same) also))

  by_targets : (t other : Target) (a b : Answer) → IsTarget root request.target t → IsTarget root request.target other → Standard root c request a t (method_of request.method) → Standard root c request b other (method_of request.method) → a ≡ b
  by_targets t other a b is also so too = same_target t other a b (one_meaning root request.target t other is also) (meant_standard is.parts is.bindings t is.means) so too

  pub one_standard : (a b : Answer) → Is a → Is b → One a b
  one_standard a b (is_own own made closes) is = inr own
  one_standard a b is (is_own own made closes) = inr own
  one_standard a b (by_target t is so) (by_target other also too) = inl (by_targets t other a b is also so too)
  one_standard a b (by_target t is so) (leads_nowhere leads also) = absurd (somewhere root request.target t leads is)
  one_standard a b (by_target t is so) (means_nothing none leads also) = absurd (none t is)
  one_standard a b (leads_nowhere leads is) (by_target t also so) = absurd (somewhere root request.target t leads also)
  one_standard a b (leads_nowhere leads is) (leads_nowhere other also) = inl (is ∙ sym also)
  one_standard a b (leads_nowhere leads is) (means_nothing none never also) = absurd (never leads)
  one_standard a b (means_nothing none never is) (by_target t also so) = absurd (none t also)
  one_standard a b (means_nothing none never is) (leads_nowhere leads also) = absurd (never leads)
  one_standard a b (means_nothing none never is) (means_nothing other leads also) = inl (is ∙ sym also)

-- ---- steps

-- what contents have after an answer
after_made : (c : Content) (m : State) (made : Option MadeChange) → HasDocumentsOf c m → HasDocumentsOf (content_after_answer c made) (state_after_answer m made)
after_made c m None has = has
after_made c m (Some made) has = has_documents_after c m made.0 made.1.change has

-- what is done on contents that have the documents of a state is a step of the standards' machine
-- from it, and the contents then have the documents of the next state
pub standard_step : (root : List ℕ) (c next : Content) (m : State) (request : Request) (reply : SentReply) (edit : Option Edit) → ContentStep root c request reply next edit → HasDocumentsOf c m
    → (m' : State) × StandardStep root m request reply m' edit × HasDocumentsOf next m'
standard_step root c next m request reply edit does has =
    let made = option_map change_from_edit edit in (
      state_after_answer m made,
      record { content = c; has = has; answers = standard_answer root c request (answer_with_edit reply edit) does.answers; goes_on = refl },
      subst (λ (x : Content). HasDocumentsOf x (state_after_answer m made)) (sym does.goes_on) (after_made c m made has),
    )

-- a step of the machine is one of the standards' machine
pub is_standard_step : (root : List ℕ) (m : State) (request : Request) (reply : SentReply) (next : State) (edit : Option Edit) → Step root m request reply next edit → StandardStep root m request reply next edit
is_standard_step root m request reply next edit step =
    record { content = contents_of m; has = represented (contents_of m) m refl; answers = standard_answer root (contents_of m) request (answer_with_edit reply edit) step.answers; goes_on = step.goes_on }

pub some_standard_step : (root : List ℕ) (m : State) (request : Request) → HasStandardStep root m request
some_standard_step root m request =
    let some = some_step root m request in
    record { reply = some.reply; next = some.next; edit = some.edit; step = is_standard_step root m request some.reply some.next some.edit some.step }

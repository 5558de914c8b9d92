-- A step changes the document that its address leads into, where the address leads.
use Rattle.std.proofs.Common.{◌≡◌, ℕ, Bool, true, false, List, [], is_some, Option, None, Some, Ok, option_map, refl, sym, ap, subst, ◌∙◌}
use Rattle.edit_ops.specs.declared.edit.Edit.{Edit}
use Rattle.xml_tree.specs.Tree.{Tree}
use Rattle.doc_names.specs.declared.doc_id.DocId.{DocId}
use Rattle.node_select.specs.declared.selector.Selector.{Selector}
use Rattle.edit_ops.specs.declared.change.Change.{Change}
use Rattle.edit_ops.specs.declared.change.Change.TheVariants.{RemoveDocument}
use Rattle.http_wire.specs.declared.request.Request.{Request}
use Rattle.reply_text.specs.ReplyHeads.{SentReply}
use Rattle.request_checks.specs.Methods.{method_of}
use Rattle.request_checks.specs.declared.method.Method.{Method}
use Rattle.request_checks.specs.declared.method.Method.TheVariants.{Get, Head, Put, Delete, Other}
use Rattle.store_core.specs.Contents.{StoredDocument, StoreContents as Content}
use Rattle.store_core.specs.DocumentChanges.{find_document, stored_id}
use Rattle.xcap_uri.specs.Targets.{IsTargetResult}
use Rattle.xcap_uri.specs.declared.target.Target.{Target}
use Rattle.xcap_uri.specs.declared.target.Target.TheVariants.{Document, Node, Deep, Feed, ElementFeed, Flat}
use Rattle.xcap_machine.specs.Answers.{Answer}
use Rattle.xcap_machine.specs.DocumentWrites.{delete_reply, put_change, put_reply}
use Rattle.xcap_machine.specs.StepOutcomes.{reports_change}
use Rattle.xcap_machine.specs.Machine.{ContentStep, answer_with_edit, change_from_edit}
use Rattle.xcap_machine.specs.NodeWrites.{node_delete_reply, node_exists}
use Rattle.xcap_machine.specs.Resources.{version_of}
use Rattle.xcap_machine.proofs.AcceptedRequests.{Accepts, NodePut, accepted, by_target, delete_enters, document_deleted, document_put, node_deleted, node_put, of_element, of_value, put_enters, stopped_never, store_made}
use Rattle.xcap_machine.proofs.Ways.{Way, changes, stays, way_of}
use Rattle.xcap_laws.specs.AddressedDocuments.{IsAddressedChange, IsChangeAtNode, IsChangeOfDocument, IsTargetIn}
use Rattle.xcap_laws.proofs.AddressedChanges.{deleted_here, element_put_here, value_put_here}

-- the tree of a document that is stored in some version
tree_of_version : (o : Option StoredDocument) (t : Tree) (tag : ℕ) → option_map {U = Tree × ℕ} (λ (h : StoredDocument). (h.tree, h.tag)) o ≡ Some (t, tag) → option_map (λ (h : StoredDocument). h.tree) o ≡ Some t
tree_of_version None t tag is = absurd (cc)
tree_of_version (Some h) t tag is = let same : ◌≡◌ {A = Tree × ℕ} (h.tree, h.tag) (t, tag) = cc in ap (λ (v : Tree × ℕ). Some v.0) same

put_whole : (exists : Bool) (t : Tree) → IsChangeOfDocument (put_change exists t)
put_whole true t = refl
put_whole false t = tt

-- the tree of a document before the step
abbrev tree_before : Content → DocId → Option Tree
tree_before c id = option_map (λ (h : StoredDocument). h.tree) (find_document stored_id c.documents id)

-- the edit is of the document that a target leads into, and what the target asks for
abbrev IsAsked : Content → Edit → Target → Type 0
IsAsked c edit target = IsTargetIn edit.doc target × IsAddressedChange (tree_before c edit.doc) target edit.note.change

asked_document : (c : Content) (edit : Edit) (id : DocId) (change : Change) → IsChangeOfDocument change → edit.doc ≡ id → edit.note.change ≡ change → IsAsked c edit (Document id)
asked_document c edit id change whole of_document of_change = (sym of_document, subst (λ (x : Change). IsChangeOfDocument x) (sym of_change) whole)

asked_node : (c : Content) (edit : Edit) (id : DocId) (selector : Selector) (t : Tree) (tag : ℕ) (change : Change) → version_of c id ≡ Some (t, tag) → IsChangeAtNode t selector change
    → edit.doc ≡ id → edit.note.change ≡ change → IsAsked c edit (Node id selector)
asked_node c edit id selector t tag change held here of_document of_change =
    let there : tree_before c edit.doc ≡ Some t = ap (λ (d : DocId). tree_before c d) of_document ∙ tree_of_version (find_document stored_id c.documents id) t tag held in (
      sym of_document,
      subst (λ (o : Option Tree). IsAddressedChange o (Node id selector) edit.note.change) (sym there)
          (subst (λ (x : Change). IsChangeAtNode t selector x) (sym of_change) here),
    )

module _ (root : List ℕ) (c next : Content) (request : Request) (edit : Edit) where
  put_in : (target : Target) → Accepts root c request Put target next edit → IsAsked c edit target
  put_in (Document id) a =
      let answer = answer_with_edit a.reply (Some edit) in
      let e = put_enters root c request (Document id) answer (change_from_edit edit) refl (by_target root c request answer (Document id) Put a.means a.asks a.does.answers) in
      let d = document_put c id e.usage request answer (change_from_edit edit) refl e.does in
      let change = put_change (is_some (version_of c id)) d.tree in
      let made = store_made c id change request.closes (put_reply (is_some (version_of c id)) request.closes) answer (change_from_edit edit) refl d.answers in
      asked_document c edit id change (put_whole (is_some (version_of c id)) d.tree) made.of_document made.of_change
  put_in (Node id selector) a =
      let answer = answer_with_edit a.reply (Some edit) in
      let e = put_enters root c request (Node id selector) answer (change_from_edit edit) refl (by_target root c request answer (Node id selector) Put a.means a.asks a.does.answers) in
      let n = node_put root c id e.usage selector (version_of c id) request answer (change_from_edit edit) refl e.does in
      by e.usage n.tree n.tag n.held answer refl n.put.put
    where
      by : (usage : _) (t : Tree) (tag : ℕ) → version_of c id ≡ Some (t, tag) → (answer : Answer) → answer.made ≡ Some (change_from_edit edit) → NodePut c id usage selector t request answer → IsAsked c edit (Node id selector)
      by usage t tag held answer is (of_element spot ends_so place e spelled change plan answers) =
          let made = store_made c id change request.closes (put_reply (node_exists t selector) request.closes) answer (change_from_edit edit) is answers in
          asked_node c edit id selector t tag change held (element_put_here usage t selector change spot e ends_so place plan) made.of_document made.of_change
      by usage t tag held answer is (of_value p uri local value ends_so place spelled change plan answers) =
          let made = store_made c id change request.closes (put_reply (node_exists t selector) request.closes) answer (change_from_edit edit) is answers in
          asked_node c edit id selector t tag change held (value_put_here usage t selector change p uri local value selector.end ends_so ends_so place plan) made.of_document made.of_change
  put_in (Deep auid home) a =
      let answer = answer_with_edit a.reply (Some edit) in
      absurd (stopped_never answer _ (change_from_edit edit) refl (put_enters root c request (Deep auid home) answer (change_from_edit edit) refl (by_target root c request answer (Deep auid home) Put a.means a.asks a.does.answers)).does)
  put_in (Feed mode tag id) a =
      let answer = answer_with_edit a.reply (Some edit) in
      absurd (put_enters root c request (Feed mode tag id) answer (change_from_edit edit) refl (by_target root c request answer (Feed mode tag id) Put a.means a.asks a.does.answers)).does
  put_in (ElementFeed tag id selector raw) a =
      let answer = answer_with_edit a.reply (Some edit) in
      absurd (put_enters root c request (ElementFeed tag id selector raw) answer (change_from_edit edit) refl (by_target root c request answer (ElementFeed tag id selector raw) Put a.means a.asks a.does.answers)).does
  put_in (Flat id service) a =
      let answer = answer_with_edit a.reply (Some edit) in
      absurd (put_enters root c request (Flat id service) answer (change_from_edit edit) refl (by_target root c request answer (Flat id service) Put a.means a.asks a.does.answers)).does

  delete_in : (target : Target) → Accepts root c request Delete target next edit → IsAsked c edit target
  delete_in (Document id) a =
      let answer = answer_with_edit a.reply (Some edit) in
      let e = delete_enters root c request (Document id) answer (change_from_edit edit) refl (by_target root c request answer (Document id) Delete a.means a.asks a.does.answers) in
      let d = document_deleted c id (version_of c id) request answer (change_from_edit edit) refl e.does in
      let made = store_made c id RemoveDocument request.closes (delete_reply request.closes) answer (change_from_edit edit) refl d.answers in
      asked_document c edit id RemoveDocument tt made.of_document made.of_change
  delete_in (Node id selector) a =
      let answer = answer_with_edit a.reply (Some edit) in
      let e = delete_enters root c request (Node id selector) answer (change_from_edit edit) refl (by_target root c request answer (Node id selector) Delete a.means a.asks a.does.answers) in
      let d = node_deleted c id e.usage selector (version_of c id) request answer (change_from_edit edit) refl e.does in
      let made = store_made c id d.change request.closes (node_delete_reply request.closes) answer (change_from_edit edit) refl d.answers in
      asked_node c edit id selector d.tree d.tag d.change d.held (deleted_here e.usage d.tree selector d.change d.plan) made.of_document made.of_change
  delete_in (Deep auid home) a =
      let answer = answer_with_edit a.reply (Some edit) in
      absurd (stopped_never answer _ (change_from_edit edit) refl (delete_enters root c request (Deep auid home) answer (change_from_edit edit) refl (by_target root c request answer (Deep auid home) Delete a.means a.asks a.does.answers)).does)
  delete_in (Feed mode tag id) a =
      let answer = answer_with_edit a.reply (Some edit) in
      absurd (delete_enters root c request (Feed mode tag id) answer (change_from_edit edit) refl (by_target root c request answer (Feed mode tag id) Delete a.means a.asks a.does.answers)).does
  delete_in (ElementFeed tag id selector raw) a =
      let answer = answer_with_edit a.reply (Some edit) in
      absurd (delete_enters root c request (ElementFeed tag id selector raw) answer (change_from_edit edit) refl (by_target root c request answer (ElementFeed tag id selector raw) Delete a.means a.asks a.does.answers)).does
  delete_in (Flat id service) a =
      let answer = answer_with_edit a.reply (Some edit) in
      absurd (delete_enters root c request (Flat id service) answer (change_from_edit edit) refl (by_target root c request answer (Flat id service) Delete a.means a.asks a.does.answers)).does

  -- a method whose replies never report a change makes none
  never : (method : Method) (reply : SentReply) → Way method request.closes c (answer_with_edit reply (Some edit)) → ((status : ℕ) → reports_change method status ≡ false) → ⊥
  never method reply (stays same tells closes is) silent = let z : Some (change_from_edit edit) ≡ None = ap (λ (a : Answer). a.made) is in cc
  never method reply (changes same tells closes id change note held asks made is) silent = let z : true ≡ false = sym tells ∙ silent same.status in cc

pub addressed : (root : List ℕ) (c next : Content) (request : Request) (reply : SentReply) (e : Edit) → ContentStep root c request reply next (Some e)
    → (target : Target) × IsTargetResult root request.target (Ok target) × IsAsked c e target
addressed root c next request reply e does = by (method_of request.method) refl (way_of root c request (answer_with_edit reply (Some e)) does.answers)
  where
    by : (method : Method) → method_of request.method ≡ method → Way (method_of request.method) request.closes c (answer_with_edit reply (Some e)) → (target : Target) × IsTargetResult root request.target (Ok target) × IsAsked c e target
    by Put asks way = let a = accepted root c next request reply e Put does asks in (a.0, a.1.means, put_in root c next request e a.0 a.1)
    by Delete asks way = let a = accepted root c next request reply e Delete does asks in (a.0, a.1.means, delete_in root c next request e a.0 a.1)
    by Get asks way = absurd (never root c next request e (method_of request.method) reply way (λ status. ap (λ (m : Method). reports_change m status) asks))
    by Head asks way = absurd (never root c next request e (method_of request.method) reply way (λ status. ap (λ (m : Method). reports_change m status) asks))
    by Other asks way = absurd (never root c next request e (method_of request.method) reply way (λ status. ap (λ (m : Method). reports_change m status) asks))

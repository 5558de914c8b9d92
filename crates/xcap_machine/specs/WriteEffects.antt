-- What accepted requests leave in the store: those that make a change, which is an edit. RFC 4825,
-- sections 8.2.3 and 8.2.4 (a GET of the same address gives what was put) and 8.4 (and nothing
-- once it was deleted); RFC 9110, section 9.2.2 (PUT can be repeated without harm); RFC 4826,
-- sections 3.4.5 and 4.4.5 (keys, by which addresses last).
use Rattle.std.specs.Prelude.{◌≡◌, ℕ, nat_le, codes, List, [], map, Option, None, Some, IfSome, Ok}
use Rattle.std.specs.Prelude.{◌+◌}
use Rattle.std.specs.Bool.{MatchBool}
use Rattle.xml_tree.specs.Tree.{Tree, at}
use Rattle.xml_names.specs.Limits.{u64_max}
use Rattle.xml_names.specs.declared.limits.TheConstants.{MAX_LEVELS}
use Rattle.tree_text.specs.Faults.{IsBodyResult, IsTextResult}
use Rattle.node_select.specs.Selection.{FindsNode, SelectsPath}
use Rattle.node_select.specs.declared.selector.End.{End}
use Rattle.node_select.specs.declared.selector.End.TheVariants.{Element, Attribute, Namespaces}
use Rattle.node_select.specs.declared.selector.Selector.{Selector}
use Rattle.edit_rules.specs.AttributePuts.{FindsValue}
use Rattle.edit_rules.specs.Spots.{IsSpotOf}
use Rattle.edit_rules.specs.declared.spot.Spot.{Spot}
use Rattle.doc_names.specs.declared.doc_id.DocId.{DocId}
use Rattle.xcap_uri.specs.Targets.{IsTargetResult}
use Rattle.xcap_uri.specs.declared.target.Target.{Target}
use Rattle.xcap_uri.specs.declared.target.Target.TheVariants.{Document, Node}
use Rattle.http_wire.specs.declared.request.Request.{Request}
use Rattle.request_checks.specs.Methods.{method_of}
use Rattle.request_checks.specs.Rights.{fields_named}
use Rattle.request_checks.specs.declared.method.Method.TheVariants.{Put, Delete}
use Rattle.edit_ops.specs.declared.edit.Edit.{Edit}
use Rattle.reply_text.specs.ReplyHeads.{plain_reply}
use Rattle.store_core.specs.Contents.{StoredDocument, StoreContents}
use Rattle.xcap_machine.specs.Answers.{Answer, reply_only}
use Rattle.xcap_machine.specs.NodeWrites.{max_height_at, edit_target_scope}
use Rattle.xcap_machine.specs.KeyAddresses.{ChangeKeepsKeyAddresses}
use Rattle.xcap_machine.specs.Machine.{content_after_answer}
use Rattle.xcap_machine.specs.Requests.{IsAnswer}
use Rattle.xcap_machine.specs.Resources.{version_of}

-- ---- what was put is there

-- the stored document has this tag afterwards, and is the tree that the body is parsed as
pub record DocumentExists (next : StoreContents) (id : DocId) (tag : ℕ)
    (body : List ℕ) : Type 0 where
  pub tree : Tree
  pub spelled : IsTextResult MAX_LEVELS [] body (Ok tree)
  pub held : version_of next id ≡ Some (tree, tag)

-- a PUT of a node that made a change: the contents before and after it, the document, its tag
-- afterwards, the selector, and the body
pub record AcceptedPut : Type 0 where
  pub old : StoreContents
  pub new : StoreContents
  pub id : DocId
  pub tag : ℕ
  pub selector : Selector
  pub body : List ℕ

-- in the document afterwards the selector selects exactly the element that the body is parsed as
-- in the scope of the edit target that it had before
pub record ElementExists (put : AcceptedPut) : Type 0 where
  pub before : Tree
  pub old_tag : ℕ
  pub was_held : version_of put.old put.id ≡ Some (before, old_tag)
  pub spot : Spot
  pub is_spot : IsSpotOf before put.selector spot
  pub element : Tree
  pub spelled : IsTextResult (max_height_at spot) (edit_target_scope before spot) put.body
      (Ok element)
  pub after : Tree
  pub held : version_of put.new put.id ≡ Some (after, put.tag)
  pub path : List ℕ
  pub selects : SelectsPath put.selector.steps after path
  pub there : at path after ≡ Some element

-- in the document afterwards the attribute that the selector finds, whose name this is, has the
-- value of the body
pub record ValueExists (put : AcceptedPut) (uri local : List ℕ) : Type 0 where
  pub value : List ℕ
  pub spelled : IsBodyResult put.body (Ok value)
  pub after : Tree
  pub held : version_of put.new put.id ≡ Some (after, put.tag)
  pub path : List ℕ
  pub finds : FindsValue put.selector.steps (record { path = path; uri = uri; local = local }) after
      value

-- by what the selector ends in; namespace bindings are never put
abbrev pub NodeExists : AcceptedPut → End → Type 0
NodeExists put Element = ElementExists put
NodeExists put (Attribute uri local) = ValueExists put uri local
NodeExists put Namespaces = ⊥

-- by what was put: a document or a node of one
abbrev pub TargetExists : StoreContents → StoreContents → Target → ℕ → List ℕ → Type 0
TargetExists c next (Document id) tag body = DocumentExists next id tag body
TargetExists c next (Node id selector) tag body =
    let put : AcceptedPut =
    record { old = c; new = next; id = id; tag = tag; selector = selector; body = body } in
    NodeExists put selector.end
TargetExists c next _ tag body = ⊥

-- where a PUT made a change, from the contents before to the next ones, its address means a
-- target, which is there as the body says
abbrev pub PutTargetExists : List ℕ → StoreContents → Request → Option Edit → StoreContents → Type 0
PutTargetExists root c request edit next =
    IfSome edit (λ e.
    method_of request.method ≡ Put
    → (target : Target) × IsTargetResult root request.target (Ok target)
    × TargetExists c next target e.note.next request.body)

-- ---- what was deleted is gone

-- in the document afterwards, which has this tag, the selector finds nothing
pub record NodeIsGone (next : StoreContents) (id : DocId) (tag : ℕ)
    (selector : Selector) : Type 0 where
  pub after : Tree
  pub held : version_of next id ≡ Some (after, tag)
  pub finds_nothing : FindsNode after selector → ⊥

-- by what was deleted: a document or a node of one
abbrev pub TargetIsGone : StoreContents → Target → ℕ → Type 0
TargetIsGone next (Document id) tag = version_of next id ≡ None
TargetIsGone next (Node id selector) tag = NodeIsGone next id tag selector
TargetIsGone next _ tag = ⊥

-- where a DELETE made a change, its address means a target, and the next contents have nothing
-- there
abbrev pub DeleteTargetIsGone : List ℕ → Request → Option Edit → StoreContents → Type 0
DeleteTargetIsGone root request edit next =
    IfSome edit (λ e.
    method_of request.method ≡ Delete
    → (target : Target) × IsTargetResult root request.target (Ok target)
    × TargetIsGone next target e.note.next)

-- ---- a PUT once more

-- the request has neither of the condition fields
pub record IsUnconditional (request : Request) : Type 0 where
  pub no_match : fields_named (codes "if-match") request.fields ≡ []
  pub no_none_match : fields_named (codes "if-none-match") request.fields ≡ []

-- the names and the trees of all stored documents
abbrev pub name_and_tree : StoredDocument → DocId × Tree
name_and_tree h = (h.id, h.tree)

abbrev pub named_trees : StoreContents → List (DocId × Tree)
named_trees c = map name_and_tree c.documents

-- the answer leaves every tree unchanged and has the status 200; or, where the next number has
-- more than 64 bits, it is 507 and changes nothing
abbrev pub PreservesTrees : StoreContents → Request → Answer → Type 0
PreservesTrees c request a =
    MatchBool (nat_le (u64_max + 1) c.next)
    (a ≡ reply_only (plain_reply 507 request.closes))
    ((a.reply.status ≡ 200) × (named_trees (content_after_answer c a.made) ≡ named_trees c))

-- where a PUT without condition fields made a change, the answer to the same request on the
-- contents afterwards leaves every tree unchanged
abbrev pub RepeatedPutPreservesTrees : List ℕ → Request → Option Edit → StoreContents → Type 0
RepeatedPutPreservesTrees root request edit next =
    IfSome edit (λ e. method_of request.method ≡ Put → IsUnconditional request
    → (again : Answer) → IsAnswer root next request again → PreservesTrees next request again)

-- ---- addresses by keys

-- where a change was made, it preserves what the key addresses of its document select
abbrev pub EditKeepsKeyAddresses : StoreContents → Option Edit → StoreContents → Type 0
EditKeepsKeyAddresses c edit next =
    IfSome edit (λ e. ChangeKeepsKeyAddresses c e.doc e.note.change next)

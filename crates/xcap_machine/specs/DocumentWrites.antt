-- Requests that write documents, and what they have in common with requests that write nodes. RFC
-- 4825, sections 8.2 (PUT) and 8.4 (DELETE), with the conflicts of section 11 and the entity tags
-- of section 8.5; the order of the tests is this server's own.
use Rattle.std.specs.Prelude.{◌≡◌, ℕ, Bool, true, false, List, [], ◌++◌, codes, is_some, Option}
use Rattle.std.specs.Prelude.{None, Some, Result, option_map, MatchOption, MatchResult}
use Rattle.std.specs.Prelude.{if◌then◌else◌}
use Rattle.std.specs.Bool.{MatchBool}
use Rattle.std.specs.Option.{option_map_or}
use Rattle.xml_tree.specs.PathTexts.{path_text}
use Rattle.xml_tree.specs.Tree.{Tree}
use Rattle.xml_names.specs.declared.limits.TheConstants.{MAX_LEVELS}
use Rattle.tree_text.specs.Spellings.{ReadsTree}
use Rattle.tree_text.specs.declared.fault.TextFault.{TextFault}
use Rattle.tree_text.specs.declared.fault.TextFault.TheVariants as texts
use Rattle.usage_docs.specs.Validation.{HasFirstFault}
use Rattle.usage_docs.specs.KeyAttributes.{attribute_name}
use Rattle.usage_docs.specs.declared.validation.Fault.{Fault}
use Rattle.usage_docs.specs.declared.validation.Fault.TheVariants.{Invalid, Unformed, Repeated}
use Rattle.usage_docs.specs.declared.key_repeats.Clash.{Clash}
use Rattle.doc_names.specs.declared.usages.Usage.{Usage}
use Rattle.doc_names.specs.declared.doc_id.Auid.{Auid}
use Rattle.doc_names.specs.declared.doc_id.Home.{Home}
use Rattle.doc_names.specs.declared.doc_id.DocId.{DocId}
use Rattle.edit_ops.specs.declared.change.Change.{Change}
use Rattle.edit_ops.specs.declared.change.Change.TheVariants.{CreateDocument, Replace}
use Rattle.edit_ops.specs.declared.change.Change.TheVariants.{RemoveDocument}
use Rattle.edit_ops.specs.Notes.{Note}
use Rattle.reply_bodies.specs.declared.conflicts.ErrorBody.{ErrorBody}
use Rattle.reply_bodies.specs.declared.conflicts.ErrorBody.TheVariants as conflicts
use Rattle.reply_text.specs.ReplyHeads.{SentReply, plain_reply}
use Rattle.reply_text.specs.declared.media_types.MediaType.{MediaType}
use Rattle.http_wire.specs.declared.request.Request.{Request}
use Rattle.request_checks.specs.MediaTypes.{document_media_type, has_media_type}
use Rattle.xcap_uri.specs.Ancestors.{home_uri}
use Rattle.store_core.specs.DocumentChanges.{change_kind, refusal_of, find_document, stored_id}
use Rattle.store_core.specs.DocumentChanges.{note_for}
use Rattle.store_core.specs.declared.refusal.StoreRefusal.{StoreRefusal}
use Rattle.store_core.specs.declared.refusal.StoreRefusal.TheVariants.{ServiceTaken}
use Rattle.store_core.specs.Contents.{StoreContents}
use Rattle.xcap_machine.specs.Answers.{Answer, AppliesConditions, reply_only, error_reply}
use Rattle.xcap_machine.specs.Answers.{tagged_reply}
use Rattle.xcap_machine.specs.Resources.{version_of}

-- ---- what stops a request that writes

-- in a usage that stores no documents, writing is forbidden
abbrev pub WritesIfStored : Option Usage → Request → Answer → (Usage → Type 0) → Type 0
WritesIfStored None request a Writes = a ≡ reply_only (plain_reply 403 request.closes)
WritesIfStored (Some usage) request a Writes = Writes usage

-- ---- texts that can't be parsed

-- a text isn't UTF-8, or has another fault, for which each kind of resource has its own conflict
abbrev pub text_conflict : ErrorBody → TextFault → ErrorBody
text_conflict malformed texts.NotUtf8 = conflicts.NotUtf8
text_conflict malformed _ = malformed

-- ---- trees that are a document of the usage, or not

-- the place of a clash, as the error document has it: the path of the element, and its key
abbrev pub clash_field : Clash → List ℕ
clash_field clash = path_text clash.path ++ (codes "/@" ++ attribute_name clash.key)

-- the conflict of a tree that is no document of its usage
abbrev pub fault_conflict : Fault → ErrorBody
fault_conflict Invalid = conflicts.Schema
fault_conflict Unformed = conflicts.Constraint
fault_conflict (Repeated clash) = conflicts.Unique (clash_field clash)

-- ---- what the store does with a change

-- a service address that another document has is a conflict; a limit of the store is 507 (RFC
-- 4918, section 11.5)
abbrev pub refusal_reply : StoreRefusal → Bool → SentReply
refusal_reply (ServiceTaken clash) closes =
    error_reply (conflicts.Unique (clash_field clash)) closes
refusal_reply _ closes = plain_reply 507 closes

-- the answer to a change of a document: it is refused by the first reason against it, or made, and
-- the reply is made from its record
abbrev pub change_answer : StoreContents → DocId → Change → Bool → (Note → SentReply) → Answer
change_answer c id change closes reply =
    let held = find_document stored_id c.documents id in
    let note = note_for c id change held in
    option_map_or (λ refusal. reply_only (refusal_reply refusal closes))
    (refusal_of c id change held (change_kind change))
    (record { reply = reply note; made = Some (id, note) })

-- the reply to a PUT: the resource is new, or replaces the old one; the document's new tag is the
-- number of the change
abbrev pub put_reply : Bool → Bool → Note → SentReply
put_reply exists closes note = tagged_reply (if exists then 200 else 201) note.next closes

-- ---- PUT of documents (RFC 4825, sections 8.2.2 to 8.2.5)

-- it replaces the stored document, or it is new
abbrev pub put_change : Bool → Tree → Change
put_change true t = Replace [] t
put_change false t = CreateDocument t

-- the answer to a tree that is a document of the usage
abbrev pub put_answer : StoreContents → DocId → Bool → Tree → Answer
put_answer c id closes t =
    let exists = is_some (version_of c id) in
    change_answer c id (put_change exists t) closes (put_reply exists closes)

-- the answer to a body that is parsed as a tree of at most `MAX_LEVELS` levels, which has a fault
-- as a document of the usage, or none; or the body has a fault
abbrev pub PutsParsedBody : Usage → Request → (Tree → Answer) → Answer → Type 0
PutsParsedBody usage request answer a =
    (read : Result Tree TextFault) × ReadsTree MAX_LEVELS [] request.body read
    × MatchResult read
    (λ t.
    (judgement : Option Fault) × HasFirstFault usage t judgement
    × (a
    ≡ option_map_or (λ fault. reply_only (error_reply (fault_conflict fault) request.closes))
    judgement
    (answer t)))
    (λ fault. a ≡ reply_only
    (error_reply (text_conflict conflicts.NotWellFormed fault) request.closes))

-- the body has the usage's media type
abbrev pub PutsBody : Usage → MediaType → Request → (Tree → Answer) → Answer → Type 0
PutsBody usage media request answer a =
    MatchBool (has_media_type media request.fields)
    (PutsParsedBody usage request answer a)
    (a ≡ reply_only (plain_reply 415 request.closes))

abbrev pub PutsDocument : StoreContents → DocId → Usage → Request → Answer → Type 0
PutsDocument c id usage request a =
    let version = version_of c id in
    let tag : Option ℕ = option_map (λ held. held.1) version in
    AppliesConditions request (record { tag = tag; exists = is_some version }) false a
    (PutsBody usage (document_media_type id.auid) request (put_answer c id request.closes) a)

-- no document is deeper than directly in a home (RFC 4825, section 8.2.1)
abbrev pub missing_parent_answer : List ℕ → Auid → Home → Request → Answer
missing_parent_answer root auid home request =
    reply_only (error_reply (conflicts.NoParent (home_uri root auid home)) request.closes)

-- ---- DELETE of documents (RFC 4825, section 8.4)

-- the reply to a DELETE of a document, which has no tag
abbrev pub delete_reply : Bool → Note → SentReply
delete_reply closes note = plain_reply 200 closes

-- by whether the document is stored
abbrev pub DeletesDocument : StoreContents → DocId → Request → Answer → Type 0
DeletesDocument c id request a =
    MatchOption (version_of c id) (a ≡ reply_only (plain_reply 404 request.closes)) (λ held.
    AppliesConditions request (record { tag = Some held.1; exists = true }) false a
    (a ≡ change_answer c id RemoveDocument request.closes (delete_reply request.closes)))

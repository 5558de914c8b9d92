-- Where a log leads to the documents of a state, a restart comes to a state that has them; and
-- snapshots that are written while requests are answered keep them.
use Rattle.std.proofs.Common.{◌≡◌, ℕ, ◌<◌, ◌^◌, false, List, [], ◌∷◌, map, Option, None, Some, IfSome, refl, sym, ap, subst}
use Rattle.std.specs.List.{AllByRecursion}
use Rattle.change_log.specs.LogContents.{Contents, snapshot_of}
use Rattle.change_log.specs.LogHistories.{Moment, settled_moment}
use Rattle.edit_ops.specs.declared.edit.Edit.{Edit}
use Rattle.http_wire.specs.declared.request.Request.{Request}
use Rattle.logged_state.specs.Restarts.{MakesChanges}
use Rattle.reply_text.specs.ReplyHeads.{SentReply}
use Rattle.request_checks.specs.Methods.{is_reading, method_of}
use Rattle.state_snapshots.specs.Names.{IsEncodableName}
use Rattle.state_snapshots.specs.Snapshots.{document_without_earlier, snapshot_parts, without_earlier}
use Rattle.state_snapshots.proofs.States.{state_kept}
use Rattle.store_core.specs.Contents.{HasDocumentsOf, contents_of, document_now, stored_now, stored_document}
use Rattle.store_core.specs.State.{Document, State}
use Rattle.store_core.specs.ValidStates.{IsValidState}
use Rattle.store_core.proofs.PresentDocuments.{represented}
use Rattle.unread_parts.proofs.RecordedRequests.{changes_by}
use Rattle.unread_parts.proofs.SameDocuments.{same_step}
use Rattle.xcap_machine.specs.Machine.{ValidStep, answer_with_edit, change_from_edit}
use Rattle.xcap_machine.proofs.Ways.{way_of}
use Rattle.server_restarts.specs.KeptDocuments.{BeginsWithDocuments, KeepsDocuments, LeadsToDocuments, LeadsToSameDocuments}
use Rattle.server_restarts.specs.StatesOfLogs.{BeginsAt, KeepsState, LeadsToState}
use Rattle.server_restarts.proofs.Snapshots.{valid_alone}

module _ (root : List ℕ) where
  abbrev Makes : (List (List ℕ) → ℕ → State → Type 0) → State → List Request → State → Type 0
  Makes Begins m requests n = MakesChanges (ValidStep root) Begins m requests n

  -- which snapshots there are doesn't matter
  makes_also : (Begins Others : List (List ℕ) → ℕ → State → Type 0) (requests : List Request) (m n : State) → Makes Begins m requests n → Makes Others m requests n
  makes_also Begins Others [] m n is = is
  makes_also Begins Others (request ∷ requests) m n (reply, mid, edit, step, more) = (reply, mid, edit, step, makes_also Begins Others requests mid n more)

  -- a request on which a change is made doesn't read
  writes : (m next : State) (request : Request) (reply : SentReply) (edit : Edit) → ValidStep root m request reply next (Some edit) → is_reading (method_of request.method) ≡ false
  writes m next request reply edit step =
      changes_by (method_of request.method) request.closes (contents_of m) (answer_with_edit reply (Some edit)) (change_from_edit edit) refl
      (way_of root (contents_of m) request (answer_with_edit reply (Some edit)) step.1.answers)

  -- from each state with the same documents the same changes are made
  made_too : (requests : List Request) (m last n : State) → Makes (BeginsWithDocuments root) m requests last → HasDocumentsOf (contents_of m) n → IsValidState n
      → (other : State) × Makes (BeginsAt root) n requests other × HasDocumentsOf (contents_of last) other
  made_too [] m last n same has valid = (n, refl, subst (λ (x : State). HasDocumentsOf (contents_of x) n) (sym same) has)
  made_too (request ∷ requests) m last n (reply, mid, edit, step, more) has valid =
      let one = same_step root m mid n request reply (Some edit) (writes m mid request reply edit step) step has valid in
      let rest = made_too requests mid last one.0 more one.2 one.1.2 in
      (rest.0, (reply, one.0, edit, one.1, rest.1), rest.2)

  pub leads_with_documents : (found : Contents) (m : State) → LeadsToDocuments root found m → LeadsToSameDocuments root found m
  leads_with_documents found m leads =
      let begins = leads.begins in
      let made = made_too leads.requests leads.origin m begins.snapshot leads.made begins.has begins.begins.valid in
      record {
        state = made.0;
        leads = record { origin = begins.snapshot; requests = leads.requests; begins = begins.begins; told = leads.told; changes = leads.changes; made = made.1 };
        has = made.2;
      }

  -- ---- a log that keeps the state keeps its documents

  begins_too : (parts : List (List ℕ)) (first : ℕ) (m : State) → BeginsAt root parts first m → BeginsWithDocuments root parts first m
  begins_too parts first m begins = record { valid = begins.valid; snapshot = m; begins = begins; has = represented (contents_of m) m refl }

  leads_too : (found : Contents) (m : State) → LeadsToState root found m → LeadsToDocuments root found m
  leads_too found m leads = record {
    origin = leads.origin;
    requests = leads.requests;
    begins = begins_too found.parts found.first leads.origin leads.begins;
    told = leads.told;
    changes = leads.changes;
    made = makes_also (BeginsAt root) (BeginsWithDocuments root) leads.requests leads.origin m leads.made;
  }

  instead_too : (instead : Option Contents) (m : State) → IfSome instead (λ found. LeadsToState root found m) → IfSome instead (λ found. LeadsToDocuments root found m)
  instead_too None m is = tt
  instead_too (Some found) m is = leads_too found m is

  pub keeps_too : (m : State) (pending : Option Request) (now : Moment) → KeepsState root m pending now → KeepsDocuments root m pending now
  keeps_too m pending now is = record { comes = leads_too now.kept m is.comes; open_change = is.open_change; accepted = is.accepted; instead = instead_too now.instead m is.instead }

  -- ---- snapshots

  present_alone : (ds : List Document) → map stored_now (map stored_document ds) ≡ map document_now (map document_without_earlier ds)
  present_alone [] = refl
  present_alone (d ∷ ds) = ap (λ ps. document_now d ∷ ps) (present_alone ds)

  leads_at : (m : State) → IsValidState m → m.next < 2 ^ 64 → AllByRecursion (λ d. IsEncodableName d.id) m.documents → LeadsToDocuments root (snapshot_of (snapshot_parts root m) m.next) m
  leads_at m valid fits writable = record {
    origin = m;
    requests = [];
    begins = record { valid = valid; snapshot = without_earlier m; begins = record { valid = valid_alone m valid; parts_of_state = state_kept root m valid fits writable; next = refl }; has = record { documents = present_alone m.documents; next = refl; limits = refl } };
    told = tt;
    changes = refl;
    made = refl;
  }

  pub after_snapshot : (m : State) → IsValidState m → m.next < 2 ^ 64 → AllByRecursion (λ d. IsEncodableName d.id) m.documents → KeepsDocuments root m None (settled_moment (snapshot_of (snapshot_parts root m) m.next))
  after_snapshot m valid fits writable = record { comes = leads_at m valid fits writable; open_change = refl; accepted = tt; instead = tt }

  pub with_snapshot_instead : (m : State) (pending : Option Request) (now : Moment) → IsValidState m → m.next < 2 ^ 64 → AllByRecursion (λ d. IsEncodableName d.id) m.documents → KeepsDocuments root m pending now
      → KeepsDocuments root m pending (record now { instead = Some (snapshot_of (snapshot_parts root m) m.next) })
  with_snapshot_instead m pending now valid fits writable is = record { comes = is.comes; open_change = is.open_change; accepted = is.accepted; instead = leads_at m valid fits writable }

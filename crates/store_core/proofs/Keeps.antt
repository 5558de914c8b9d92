-- After a change that the store makes its contents represent the next state, which is valid.
use Rattle.std.proofs.Common.{◌≡◌, Option, None, Some, Result, Ok, Err, ap, subst}
use Rattle.doc_names.specs.declared.doc_id.DocId.{DocId}
use Rattle.edit_ops.specs.declared.change.Change.{Change}
use Rattle.edit_ops.specs.Notes.{Note}
use Rattle.store_core.specs.declared.refusal.StoreRefusal.{StoreRefusal}
use Rattle.store_core.specs.State.{State}
use Rattle.store_core.specs.Contents.{Represents, StoreContents as Content}
use Rattle.store_core.specs.ValidStates.{IsValidState}
use Rattle.store_core.specs.ChangePreconditions.{MayRequest}
use Rattle.store_core.specs.DocumentChanges.{change_kind, state_after, refusal_of, refusal_or, change_result, contents_after, find_document, stored_id, note_for}
use Rattle.store_core.proofs.AcceptedChanges.{accepted-suits}
use Rattle.store_core.proofs.KeptAfter.{kept-state_after}
use Rattle.store_core.proofs.StateContents.{stands-state_after}

abbrev holding : Content → Result (Note × Content) StoreRefusal → Content
holding c (Ok x) = x.1
holding c (Err refusal) = c

pub told-next : (o : Option StoreRefusal) (note told : Note) (c next : Content) → refusal_or o note c ≡ Ok (told, next) → c ≡ next
told-next None note told c next h = ap (holding c) h
told-next (Some refusal) note told c next h = cc

pub keeps : (c : Content) (m : State) (id : DocId) (change : Change) (note : Note) (next : Content) → Represents c m → IsValidState m → MayRequest c id change → change_result c id change ≡ Ok (note, next) → Represents next (state_after m id change) × IsValidState (state_after m id change)
keeps c m id change note next s k a h =
    let found = find_document stored_id c.documents id in
    let e : contents_after c id change ≡ next = told-next (refusal_of c id change found (change_kind change)) (note_for c id change found) note (contents_after c id change) next h in
    (subst (λ (d : Content). Represents d (state_after m id change)) e (stands-state_after c m id change s), kept-state_after m id change k (accepted-suits c m id change (note, next) s k a h))

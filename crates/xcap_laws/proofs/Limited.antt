-- Every state of a run from a new server keeps the limits of documents.
use Rattle.std.proofs.Common.{◌≡◌, inl, inr, ℕ, ◌+◌, ◌<◌, ◌≤◌, Bool, true, false, cond, ◌&&◌, List, [], ◌∷◌, length, map, sum_by, Option, None, Some, option_map, Ok, refl, sym, ap, subst, ◌∙◌, arith, encode_utf8_all}
use Rattle.std.specs.Prelude.{nat_le}
use Rattle.std.proofs.lemmas.Bool.Decides.{nat_tests}
use Rattle.std.specs.List.{AllByRecursion}
use Rattle.std.specs.Option.{option_or as or_else}
use Rattle.xml_tree.specs.Print.{document_print}
use Rattle.xml_tree.specs.Tree.{Tree}
use Rattle.usage_docs.specs.Services.{document_len}
use Rattle.doc_names.specs.Usages.{usage_of}
use Rattle.doc_names.specs.declared.usages.Usage.{Usage}
use Rattle.doc_names.specs.declared.doc_id.DocId.{DocId}
use Rattle.edit_ops.specs.Changes.{edited}
use Rattle.edit_ops.specs.Notes.{Note}
use Rattle.edit_ops.specs.DiffOperations.{weight}
use Rattle.edit_ops.specs.declared.change.Change.{Change}
use Rattle.edit_ops.specs.declared.edit.Edit.{Edit}
use Rattle.http_wire.specs.declared.request.Request.{Request}
use Rattle.reply_text.specs.ReplyHeads.{SentReply}
use Rattle.request_checks.specs.Methods.{method_of}
use Rattle.request_checks.specs.declared.method.Method.{Method}
use Rattle.store_core.specs.Contents.{StoredDocument, StoreContents as Content, contents_of, stored_document}
use Rattle.store_core.specs.DocumentChanges.{ChangeKind, Makes, Edits, Removes, change_kind, state_after_by_kind, refusal_of, refusal_of_number, refusal_of_tree, refusal_or, change_result, contents_after, find_document, note_for, document_id, stored_id}
use Rattle.store_core.specs.HomeLimits.{IsWithin, documents_of_home}
use Rattle.store_core.specs.declared.limits.Limits.{Limits}
use Rattle.store_core.specs.ChangePreconditions.{MayRequest, MayRequestByKind}
use Rattle.store_core.specs.State.{Document, State, Version, default_limits, first_state, first_state_within, is_within_retention, notes, longest_retained_end, versions}
use Rattle.store_core.specs.ValidStates.{AreCountable, IsValidHistory, IsSoundDocumentFor, IsValidState}
use Rattle.store_core.specs.declared.refusal.StoreRefusal.{StoreRefusal}
use Rattle.store_core.specs.declared.refusal.StoreRefusal.TheVariants.{NoNumber}
use Rattle.store_core.proofs.AcceptedChanges.{sum-first}
use Rattle.store_core.proofs.KeptAfter.{kept-first-within}
use Rattle.store_core.proofs.PutLengths.{print_len}
use Rattle.store_core.proofs.SoundHeld.{all_sound}
use Rattle.xcap_machine.specs.Answers.{Answer}
use Rattle.xcap_machine.specs.Machine.{Step, change_from_edit, state_after_answer, answer_with_edit}
use Rattle.xcap_machine.proofs.Steps.{kept_after}
use Rattle.xcap_machine.proofs.Ways.{Way, changes, stays, way_of}
use Rattle.xcap_laws.specs.DocumentLimits.{AreRetainedRecords, IsDocumentWithinLimits, IsVersionWithinLimits, KeepsLimits, printed_len}
use Rattle.xcap_laws.specs.MachineRuns.{ReachesBySteps, goes_on, stays as ends}

-- ---- the retained records

both : (a b : Bool) → (a && b) ≡ true → (a ≡ true) × (b ≡ true)
both true b h = (refl, h)
both false b h = absurd cc

low : (n k : ℕ) → nat_le n k ≡ true → n ≤ k
low n k h = grind (arith, nat_tests)

few_end : (xs : List Note) → AreRetainedRecords xs (longest_retained_end weight xs)
few_end [] = record { newest = ([], refl); some = λ h. refl; few = omega arith; light = inl (omega arith) }
few_end (x ∷ []) = record { newest = ([], refl); some = λ h. h; few = omega arith; light = inr refl }
few_end (x ∷ y ∷ xs) = by (is_within_retention weight (x ∷ y ∷ xs)) refl (few_end (y ∷ xs))
  where
    by : (b : Bool) → is_within_retention weight (x ∷ y ∷ xs) ≡ b → AreRetainedRecords (y ∷ xs) (longest_retained_end weight (y ∷ xs)) → AreRetainedRecords (x ∷ y ∷ xs) (longest_retained_end weight (x ∷ y ∷ xs))
    by true e r =
        let small = both (nat_le (length (x ∷ y ∷ xs)) 64) (nat_le (sum_by weight (x ∷ y ∷ xs)) 65536) e in
        rw e (record { newest = ([], refl); some = λ h. h; few = low (length (x ∷ y ∷ xs)) 64 small.0; light = inl (low (sum_by weight (x ∷ y ∷ xs)) 65536 small.1) })
    by false e r =
        rw e (record { newest = (x ∷ r.newest.0, ap (λ (l : List Note). x ∷ l) r.newest.1); some = λ h. absurd (let no : y ∷ xs ≡ [] = r.some h in cc); few = r.few; light = r.light })

-- ---- one document

printed : (t : Tree) → printed_len t ≡ document_len t
printed t = print_len t (encode_utf8_all (document_print t)) refl

module _ (next : ℕ) (low_next : next ≤ 18446744073709551616) where
  within : (usage : Option Usage) (v : Version) → IsSoundDocumentFor usage v.tree → (1 ≤ v.tag) × (v.tag < next) → IsVersionWithinLimits v
  within None v sound dated = absurd sound
  within (Some usage) v sound dated =
      record { levels = sound.low; bytes = omega (arith, printed v.tree, sound.short); tag = (dated.0, omega (arith, dated.1, low_next)) }

  all_within : (usage : Option Usage) (vs : List Version) → AllByRecursion (λ v. IsSoundDocumentFor usage v.tree) vs → AllByRecursion (λ v. (1 ≤ v.tag) × (v.tag < next)) vs → AllByRecursion IsVersionWithinLimits vs
  all_within usage [] sound dated = tt
  all_within usage (v ∷ vs) sound dated = (within usage v sound.0 dated.0, all_within usage vs sound.1 dated.1)

  documents_within : (ds : List Document) → AllByRecursion (IsValidHistory next) ds → AllByRecursion IsDocumentWithinLimits ds
  documents_within [] kept = tt
  documents_within (d ∷ ds) kept =
      (record { versions_within = all_within (usage_of d.id.auid) (versions d) kept.0.sound kept.0.tags; records = few_end (notes d) }, documents_within ds kept.1)

sums : (ds : List Document) → sum_by (λ (h : StoredDocument). printed_len h.tree) (map stored_document ds) ≡ sum_by (λ d. document_len d.now.tree) ds
sums [] = refl
sums (d ∷ ds) =
    let first = sum-first (λ (h : StoredDocument). printed_len h.tree) (stored_document d) (map stored_document ds) in
    let same = sum-first (λ (e : Document). document_len e.now.tree) d ds in
    omega (arith, first, same, printed d.now.tree, sums ds)

-- a valid state whose next number is at most 2^64 keeps the limits
pub keeps_limits : (m : State) → IsValidState m → m.next ≤ 18446744073709551616 → KeepsLimits m.limits m
keeps_limits m kept low_next =
    record {
      each = documents_within m.next low_next m.documents kept.documents;
      few = kept.few;
      room = omega (arith, sums m.documents, kept.room);
      homes = λ home. record {
        few = (kept.homes home).few;
        room = subst (λ (n : ℕ). IsWithin m.limits.home_bytes n) (sym (sums (documents_of_home document_id m.documents home))) (kept.homes home).room;
      };
    }

-- ---- the numbers of changes

none_after : {A : Type 0} (a b : Option A) → or_else a b ≡ None → b ≡ None
none_after None b h = h
none_after (Some x) b h = cc

fits : (c : Content) → refusal_of_number c ≡ None → c.next < 18446744073709551616
fits c h = by (nat_le 18446744073709551616 c.next) refl h
  where
    under : (n : ℕ) → nat_le 18446744073709551616 n ≡ false → n < 18446744073709551616
    under n h = grind (arith, nat_tests)

    by : (b : Bool) → nat_le 18446744073709551616 c.next ≡ b → cond b (Some NoNumber) None ≡ None → c.next < 18446744073709551616
    by true e s = cc
    by false e s = under c.next e

by_act : (c : Content) (id : DocId) (change : Change) (act : ChangeKind) (held : Option StoredDocument) → MayRequestByKind c id change act → find_document stored_id c.documents id ≡ held → refusal_of c id change held act ≡ None → c.next < 18446744073709551616
by_act c id change (Makes root) held asks is h = fits c (none_after (refusal_of_tree c id true root) (refusal_of_number c) h)
by_act c id change Edits (Some d) asks is h = fits c (none_after (refusal_of_tree c id false (edited d.tree change)) (refusal_of_number c) h)
by_act c id change Edits None asks is h = absurd (asked asks)
  where
    asked : MayRequestByKind c id change Edits → ⊥
    asked a = rw is at a
by_act c id change Removes held asks is h = fits c h

not_refused : (o : Option StoreRefusal) (note told : Note) (c next : Content) → refusal_or o note c ≡ Ok (told, next) → o ≡ None
not_refused None note told c next h = refl
not_refused (Some refusal) note told c next h = cc

-- a change that the store makes gets a number of 64 bits
number_fits : (c : Content) (id : DocId) (change : Change) (note : Note) (next : Content) → MayRequest c id change → change_result c id change ≡ Ok (note, next) → c.next < 18446744073709551616
number_fits c id change note next asks h =
    let held = find_document stored_id c.documents id in
    by_act c id change (change_kind change) held asks refl (not_refused (refusal_of c id change held (change_kind change)) (note_for c id change held) note (contents_after c id change) next h)

next_number : (m : State) (id : DocId) (change : Change) (act : ChangeKind) → (state_after_by_kind m id change act).next ≡ m.next + 1
next_number m id change (Makes root) = refl
next_number m id change Edits = refl
next_number m id change Removes = refl

limits_by : (m : State) (id : DocId) (change : Change) (act : ChangeKind) → (state_after_by_kind m id change act).limits ≡ m.limits
limits_by m id change (Makes root) = refl
limits_by m id change Edits = refl
limits_by m id change Removes = refl

-- no answer changes the limits
limits_after : (m : State) (made : Option (DocId × Note)) → (state_after_answer m made).limits ≡ m.limits
limits_after m None = refl
limits_after m (Some made) = limits_by m made.0 made.1.change (change_kind made.1.change)

number_by : (method : Method) (closes : Bool) (m : State) (a : Answer) → IsValidState m → m.next ≤ 18446744073709551616 → Way method closes (contents_of m) a → (state_after_answer m a.made).next ≤ 18446744073709551616
number_by method closes m a kept few (stays reply tells same is) =
    subst (λ (x : Answer). (state_after_answer m x.made).next ≤ 18446744073709551616) (sym is) few
number_by method closes m a kept few (changes reply tells same id change note next asks made is) =
    let below = number_fits (contents_of m) id change note next (asks (all_sound (contents_of m) m refl kept)) made in
    subst (λ (x : Answer). (state_after_answer m x.made).next ≤ 18446744073709551616) (sym is)
    (omega (arith, below, next_number m id note.change (change_kind note.change)))

number_after : (root : List ℕ) (m : State) (request : Request) (reply : SentReply) (next : State) (edit : Option Edit) → Step root m request reply next edit → IsValidState m → m.next ≤ 18446744073709551616 → next.next ≤ 18446744073709551616
number_after root m request reply next edit s kept few =
    let a = answer_with_edit reply edit in
    subst (λ (x : State). x.next ≤ 18446744073709551616) (sym s.goes_on)
    (number_by (method_of request.method) request.closes m a kept few (way_of root (contents_of m) request a s.answers))

-- ---- runs

pub run_keeps : (root : List ℕ) (m last : State) → ReachesBySteps root m last → IsValidState m → m.next ≤ 18446744073709551616 → IsValidState last × (last.next ≤ 18446744073709551616)
run_keeps root _ _ (ends m) kept few = (kept, few)
run_keeps root _ _ (goes_on m n last request reply edit step rest) kept few =
    run_keeps root n last rest (kept_after root m request reply n edit step kept) (number_after root m request reply n edit step kept few)

run_limits : (root : List ℕ) (m last : State) → ReachesBySteps root m last → last.limits ≡ m.limits
run_limits root _ _ (ends m) = refl
run_limits root _ _ (goes_on m n last request reply edit step rest) = run_limits root n last rest ∙ ap (λ (x : State). x.limits) step.goes_on ∙ limits_after m (option_map change_from_edit edit)

pub limits_hold_within : (root : List ℕ) (limits : Limits) (first : ℕ) (m : State) → 1 ≤ first → first < 18446744073709551616 → AreCountable limits → ReachesBySteps root (first_state_within limits first) m → KeepsLimits limits m
limits_hold_within root limits first m positive few most run =
    let start : IsValidState (first_state_within limits first) = kept-first-within limits first positive most in
    let last = run_keeps root (first_state_within limits first) m run start (omega (arith, few)) in
    subst (λ (l : Limits). KeepsLimits l m) (run_limits root (first_state_within limits first) m run) (keeps_limits m last.0 last.1)

pub limits_hold : (root : List ℕ) (first : ℕ) (m : State) → 1 ≤ first → first < 18446744073709551616 → ReachesBySteps root (first_state first) m → KeepsLimits default_limits m
limits_hold root first m positive few run = limits_hold_within root default_limits first m positive few (omega arith, omega arith) run

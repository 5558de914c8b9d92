-- A snapshot keeps the state without earlier versions.
use Rattle.std.proofs.Common.{◌≡◌, ℕ, ◌<◌, ◌^◌, List, [], ◌∷◌, map, Option, None, Some, Result, Ok, encode_utf8_all, refl, sym, ap, subst, ◌∙◌, arith}
use Rattle.std.specs.List.{AllByRecursion}
use Rattle.std.proofs.lemmas.List.{length-map}
use Rattle.std.proofs.lemmas.Option.{same_Some}
use Rattle.xml_tree.specs.Print.{document_print}
use Rattle.xml_tree.specs.Tree.{Tree}
use Rattle.xml_names.specs.declared.limits.TheConstants.{MAX_LEVELS}
use Rattle.tree_text.specs.Faults.{IsTextResult}
use Rattle.tree_text.specs.declared.fault.TextFault.{TextFault}
use Rattle.tree_text.proofs.OneAnswer.{one_text}
use Rattle.tree_text.proofs.PrintedTexts.{document_is_read}
use Rattle.tree_text.proofs.ReadAnswers.{text_answer}
use Rattle.doc_names.specs.Usages.{usage_of}
use Rattle.doc_names.specs.declared.usages.Usage.{Usage}
use Rattle.doc_names.specs.declared.doc_id.DocId.{DocId}
use Rattle.edit_ops.specs.Notes.{Note}
use Rattle.store_core.specs.declared.limits.Limits.{Limits}
use Rattle.store_core.specs.State.{Document, State, Version}
use Rattle.store_core.specs.ValidStates.{IsValidHistory, IsSoundDocumentFor, IsValidState}
use Rattle.state_snapshots.specs.Names.{IsEncodableName}
use Rattle.state_snapshots.specs.Snapshots.{DocumentPart, Start, document_part, document_without_earlier, part_of, snapshot_parts, start_of, without_earlier}
use Rattle.state_snapshots.specs.States.{AreOfState, ArePartsOf, IsPartOf}
use Rattle.state_snapshots.proofs.ReadBack.{document_back, start_back}

-- ---- the parts are of the state

printed : (t : Tree) (usage : Option Usage) → IsSoundDocumentFor usage t → IsTextResult MAX_LEVELS [] (encode_utf8_all (document_print t)) (Ok t)
printed t None sound = absurd sound
printed t (Some usage) sound =
    let bytes = encode_utf8_all (document_print t) in
    subst (IsTextResult MAX_LEVELS [] bytes) (document_is_read MAX_LEVELS [] t refl sound.proper sound.low).read (text_answer MAX_LEVELS [] bytes)

part_kept : (next : ℕ) (d : Document) → next < 2 ^ 64 → IsValidHistory next d → IsEncodableName d.id → IsPartOf (document_part (part_of d)) (document_without_earlier d)
part_kept next d fits kept writable = record {
  read = part_of d;
  is = document_back (part_of d) (omega (arith, kept.tags.0.1, fits)) writable;
  id = refl;
  tag = refl;
  tree = printed d.now.tree (usage_of d.id.auid) kept.sound.0;
  note = refl;
  alone = refl;
}

parts_kept : (next : ℕ) (ds : List Document) → next < 2 ^ 64 → AllByRecursion (IsValidHistory next) ds → AllByRecursion (λ d. IsEncodableName d.id) ds → ArePartsOf (map (λ d. document_part (part_of d)) ds) (map document_without_earlier ds)
parts_kept next [] fits kept writable = tt
parts_kept next (d ∷ ds) fits kept writable = (part_kept next d fits kept.0 writable.0, parts_kept next ds fits kept.1 writable.1)

pub state_kept : (root : List ℕ) (m : State) → IsValidState m → m.next < 2 ^ 64 → AllByRecursion (λ d. IsEncodableName d.id) m.documents → AreOfState root (snapshot_parts root m) (without_earlier m)
state_kept root m valid fits writable = (
  start_back (start_of root m) (omega (arith, valid.few, valid.countable.0)) fits ∙ ap (λ (n : ℕ). Some (record { count = n; next = m.next; root = root })) (sym (length-map m.documents document_without_earlier)),
  parts_kept m.next m.documents fits valid.documents writable,
)

-- ---- and of no other

one_document : (d e : Document) → d.id ≡ e.id → d.now.tag ≡ e.now.tag → d.now.tree ≡ e.now.tree → d.now.note ≡ e.now.note → d.earlier ≡ e.earlier → d ≡ e
one_document d e id tag tree note earlier =
    ap (λ (x : DocId). record { id = x; now = d.now; earlier = d.earlier }) id
    ∙ ap (λ (x : ℕ). record { id = e.id; now = record { tag = x; tree = d.now.tree; note = d.now.note }; earlier = d.earlier }) tag
    ∙ ap (λ (x : Tree). record { id = e.id; now = record { tag = e.now.tag; tree = x; note = d.now.note }; earlier = d.earlier }) tree
    ∙ ap (λ (x : Option Note). record { id = e.id; now = record { tag = e.now.tag; tree = e.now.tree; note = x }; earlier = d.earlier }) note
    ∙ ap (λ (x : List Version). record { id = e.id; now = e.now; earlier = x }) earlier

same_tree : (s t : Tree) → ◌≡◌ {A = Result Tree TextFault} (Ok s) (Ok t) → s ≡ t
same_tree s t e = cc

same_part : (part : List ℕ) (d e : Document) → IsPartOf part d → IsPartOf part e → d ≡ e
same_part part d e first second =
    let read : first.read ≡ second.read = same_Some first.read second.read (sym first.is ∙ second.is) in
    let answer : IsTextResult MAX_LEVELS [] second.read.text (Ok d.now.tree) = subst (λ (p : DocumentPart). IsTextResult MAX_LEVELS [] p.text (Ok d.now.tree)) read first.tree in
    one_document d e (first.id ∙ ap (λ (p : DocumentPart). p.id) read ∙ sym second.id) (first.tag ∙ ap (λ (p : DocumentPart). p.tag) read ∙ sym second.tag)
    (same_tree d.now.tree e.now.tree (one_text MAX_LEVELS [] second.read.text (Ok d.now.tree) (Ok e.now.tree) answer second.tree))
    (first.note ∙ sym second.note) (first.alone ∙ sym second.alone)

same_parts : (parts : List (List ℕ)) (ds es : List Document) → ArePartsOf parts ds → ArePartsOf parts es → ds ≡ es
same_parts [] [] [] first second = refl
same_parts [] [] (e ∷ es) first second = absurd second
same_parts [] (d ∷ ds) es first second = absurd first
same_parts (part ∷ parts) [] es first second = absurd first
same_parts (part ∷ parts) (d ∷ ds) [] first second = absurd second
same_parts (part ∷ parts) (d ∷ ds) (e ∷ es) first second =
    ap (λ (x : Document). x ∷ ds) (same_part part d e first.0 second.0) ∙ ap (λ (xs : List Document). e ∷ xs) (same_parts parts ds es first.1 second.1)

pub one_state : (root : List ℕ) (parts : List (List ℕ)) (m n : State) → m.limits ≡ n.limits → AreOfState root parts m → AreOfState root parts n → m ≡ n
one_state root [] m n limits first second = absurd first
one_state root (start ∷ parts) m n limits first second =
    let started : start_of root m ≡ start_of root n = same_Some (start_of root m) (start_of root n) (sym first.0 ∙ second.0) in
    ap (λ (ds : List Document). record { documents = ds; next = m.next; limits = m.limits }) (same_parts parts m.documents n.documents first.1 second.1)
    ∙ ap (λ (k : ℕ). record { documents = n.documents; next = k; limits = m.limits }) (ap (λ (s : Start). s.next) started)
    ∙ ap (λ (l : Limits). record { documents = n.documents; next = n.next; limits = l }) limits

-- The documents in a map after one of them changed.
use Rattle.std.proofs.Common.{◌≡◌, false, Option, List, Result, Ok, Err, OnErr, sym, ap, subst, ◌∙◌, ⊎_elim}
use Rattle.std.proofs.lemmas.Bool.{cases_Bool}
use Rattle.std.specs.Option.{option_map}
use Rattle.std.specs.Map.{lookup}
use Rattle.doc_names.specs.contracts.doc_id.DocIdPartialEq.TheImpl.{eq-value}
use Rattle.doc_names.specs.declared.doc_id.DocId.{DocId}
use Rattle.doc_names.specs.NameEquality.{same_id}
use Rattle.doc_names.proofs.Keys.{derived_eq}
use Rattle.watchers.specs.declared.mirror_entry.MirrorEntry.{MirrorEntry}
use Rattle.watchers.specs.Mirrors.{AllAreUnchanged, OthersAreUnchanged, find_mirrored, mirrored_document}
use Rattle.doc_names.proofs.SameIds.{id_exact, ids_apart}

-- a look-up by the derived `==` is one by parts
looked_up : (es : List (DocId × MirrorEntry)) (doc : DocId) → find_mirrored es doc ≡ option_map mirrored_document (lookup (eq-value.it doc) es)
looked_up es doc = ap (λ eq. option_map mirrored_document (lookup (eq doc) es)) (sym derived_eq)

-- the document that changed
pub held_now : (es : List (DocId × MirrorEntry)) (doc : DocId) (held : Option MirrorEntry) → lookup (eq-value.it doc) es ≡ held → find_mirrored es doc ≡ option_map mirrored_document held
held_now es doc held is = looked_up es doc ∙ ap (λ o. option_map mirrored_document o) is

-- the others, where the map says that the entries of other keys are unchanged
module _ (old new : List (DocId × MirrorEntry)) (doc : DocId) (kept : (q : DocId) → eq-value.it doc q ≡ false → lookup (eq-value.it q) new ≡ lookup (eq-value.it q) old) where
  kept_apart : (other : DocId) → same_id doc other ≡ false → find_mirrored new other ≡ find_mirrored old other
  kept_apart other apart = looked_up new other ∙ ap (λ o. option_map mirrored_document o) (kept other (ap (λ eq. eq doc other) derived_eq ∙ apart)) ∙ sym (looked_up old other)

  pub others_stay : OthersAreUnchanged old doc new
  others_stay other differs = kept_apart other (ids_apart doc other differs)

  -- all, where that document is unchanged too
  pub all_stay : find_mirrored new doc ≡ find_mirrored old doc → AllAreUnchanged old new
  all_stay same other =
      ⊎_elim
      (λ h. let is = id_exact doc other h in subst (λ d. find_mirrored new d ≡ find_mirrored old d) is same)
      (λ h. kept_apart other h)
      (cases_Bool (same_id doc other))

-- what holds anyway holds of an error
pub on_err : {T E : Type 0} (r : Result T E) (P : Type 0) → P → OnErr r P
on_err (Ok x) P h = tt
on_err (Err e) P h = h

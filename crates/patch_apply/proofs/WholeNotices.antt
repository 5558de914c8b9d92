-- A whole diff document, `document` after `document`.
use Rattle.std.proofs.Common.{◌≡◌, ℕ, ◌<◌, Bool, true, cond, List, [], ◌∷◌, length, Some, Result, Ok, Err, refl, sym, ap, ◌∙◌, subst, arith, is_some, Option, if◌then◌else◌}
use Rattle.xml_names.specs.declared.read_error.ReadError.{ReadError}
use Rattle.xml_names.specs.declared.read_error.ReadError.TheVariants.{Fault, NoMemory}
use Rattle.xml_tree.specs.Proper.{IsProperTree}
use Rattle.xml_tree.specs.Tree.{Tree}
use Rattle.patch_rules.specs.Replay as replay
use Rattle.patch_rules.specs.Replay.{ReplayAnswer, ReplicaContents, Patched, Removed, WrongDocument, replay_answer, documents, are_all_mine, and_then_replay}
use Rattle.patch_rules.specs.readers.AppliedOperations.{selector_reading}
use Rattle.patch_rules.specs.readers.Replay.{outcome_of_documents, replay_outcome}
use Rattle.patch_laws.specs.ReplayLaws.{HasReplicaTree}
use Rattle.patch_laws.proofs.OnwardNotices.{replayed_sound}
use Rattle.patch_laws.proofs.Outcomes.{replays}
use Rattle.patch_apply.specs.ApplyAnswers.{IsApplyAnswer}
use Rattle.patch_apply.specs.inner.Results.{IsReplayResult}
use Rattle.patch_apply.specs.Views.{answer_view}
use Rattle.patch_apply.specs.declared.fault.ApplyFault.{ApplyFault}
use Rattle.patch_apply.specs.declared.replica.Applied.{Applied}

module _ (is_mine : List ℕ → Bool) (notice : Tree) (held : ReplicaContents) where
  abbrev answer_of : Result (Option ReplicaContents) replay.ReplayFault → Result (ReplayAnswer × ReplicaContents) replay.ReplayFault
  answer_of r = and_then_replay r (λ end. Ok (replay_answer (documents notice) held end))

  abbrev taken_all : Result (Option ReplicaContents) replay.ReplayFault
  taken_all = outcome_of_documents 0 (notice.decls ∷ []) (documents notice) held

  module _ (mine : are_all_mine is_mine (documents notice) ≡ true) where
    pub of_mine : replay_outcome is_mine notice held ≡ and_then_replay (outcome_of_documents 0 (notice.decls ∷ []) (documents notice) held) (λ end. Ok (replay_answer (documents notice) held end))
    of_mine = ap (λ b. cond b (answer_of taken_all) (Err WrongDocument)) mine

    pub done_with : (new : ReplicaContents) → 0 < length (documents notice) → outcome_of_documents 0 (notice.decls ∷ []) (documents notice) held ≡ Ok (Some new) → replay_outcome is_mine notice held ≡ Ok (if is_some new then Patched else Removed, new)
    done_with new some e = of_mine ∙ ap answer_of e ∙ ap Ok (answer_is (documents notice) some)
      where
        answer_is : (ds : List Tree) → 0 < length ds → replay_answer ds held (Some new) ≡ (if is_some new then Patched else Removed, new)
        answer_is [] h = absurd (omega arith)
        answer_is (d ∷ ds) h = refl

module _ (is_mine : List ℕ → Bool) (notice : Tree) (old : ReplicaContents) where
  -- the outcome by reading selectors from left to right is the outcome by the grammar
  pub applies : (r : Result Applied (ReadError ApplyFault)) (new : ReplicaContents) → IsReplayResult (replay_outcome is_mine notice old) old r new → IsApplyAnswer is_mine notice old r new
  applies (Ok answer) new h = replays is_mine notice old (Ok (answer_view answer, new)) h
  applies (Err (Fault fault)) new h = (h.0.stated_fault, replays is_mine notice old (Err h.0.stated_fault) h.0.is, h.0.told, h.1)
  applies (Err NoMemory) new h = h

  -- the replica stays proper and within the depth
  pub stays_sound : (r : Result Applied (ReadError ApplyFault)) (new : ReplicaContents) → IsProperTree [] notice → IsReplayResult (replay_outcome is_mine notice old) old r new → HasReplicaTree old → HasReplicaTree new
  stays_sound (Ok answer) new proper h sound = replayed_sound selector_reading is_mine notice old new (answer_view answer) proper sound h
  stays_sound (Err (Fault fault)) new proper h sound = subst HasReplicaTree (sym h.1) sound
  stays_sound (Err NoMemory) new proper h sound = subst HasReplicaTree (sym h) sound

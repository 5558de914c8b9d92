-- A server that records statuses follows the machine that records them.
use Rattle.std.proofs.Common.{ℕ, List, [], ◌∷◌, ◌++◌, Option, refl, sym, ap, subst, ◌∙◌, arith}
use Rattle.http_wire.specs.declared.request.Request.{Request}
use Rattle.http_serve.specs.ReplyBytes.{StepsInBytes}
use Rattle.edit_ops.specs.declared.edit.Edit.{Edit}
use Rattle.store_core.proofs.KeptAfter.{kept-first}
use Rattle.xcap_machine.specs.Machine.{ValidStep}
use Rattle.xcap_app.specs.StatusRecorders.{RecordedState, RecordedStep, initial_recorded_state}
use Rattle.xcap_app.specs.SampleRequests.{root_text}
use Rattle.xcap_app.specs.inner.RecorderSteps.{AnswersRecording, RecorderState, RepresentsRecorded, new_recorder_state}

-- one step
pub noted_step : (root : List ℕ) (s s' : RecorderState) (m : RecordedState) (request : Request) (bytes : List ℕ) (edit : Option Edit) → RepresentsRecorded root s m → StepsInBytes AnswersRecording s request bytes s' edit
    → (m' : RecordedState) × RepresentsRecorded root s' m' × StepsInBytes (RecordedStep root) m request bytes m' edit
noted_step root s s' m request bytes edit here a =
    let t = a.step.follows m.state here.kept here.stands in
    let statuses : List ℕ = m.statuses ++ a.reply.status ∷ [] in
    let step : ValidStep root m.state request a.reply t.0 edit = subst (λ (r : List ℕ). ValidStep r m.state request a.reply t.0 edit) here.same_root t.3 in (
      record { state = t.0; statuses = statuses },
      record {
        same_root = a.step.same_root ∙ here.same_root;
        kept = t.1;
        stands = t.2;
        noted = ap (λ (l : List ℕ). l ++ a.reply.status ∷ []) here.noted ∙ sym a.step.notes;
      },
      record { reply = a.reply; written = a.written; step = record { step = step; notes = refl } },
    )

-- a new one represents the state without documents and replies
pub new_stands : (room : ℕ) → RepresentsRecorded root_text (new_recorder_state room) initial_recorded_state
new_stands room = record { same_root = refl; kept = kept-first 1 (omega arith); stands = refl; noted = refl }

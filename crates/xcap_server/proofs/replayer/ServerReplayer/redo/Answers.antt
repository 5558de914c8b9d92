use Rattle.std.proofs.Common.{Option, subst}
use Rattle.edit_ops.specs.declared.edit.Edit.{Edit}
use Rattle.store_core.specs.Contents.{Represents}
use Rattle.store_core.specs.ValidStates.{IsValidState}
use Rattle.store_core.specs.State.{State}
use Rattle.xcap_machine.specs.Machine.{ValidStep}
use Rattle.xcap_machine.specs.ServerStates.{ServerState}
use Rattle.xcap_server.proofs.Redone.{redo_done, redo_nothing, redo_refused}
use Rattle.xcap_server.proofs.replayer.ServerReplayer.redo.Goals as goal

pub returns-in-Err-clause-redoes_request : goal.returns-in-Err-clause-redoes_request
returns-in-Err-clause-redoes_request c = redo_nothing c.args.self.now c.answer.new.server c.args.request.now c.answer.ensures.same_root c.in-Err.ensures.err_unchanged

pub returns-in-Some-clause-redoes_request : goal.returns-in-Some-clause-redoes_request
returns-in-Some-clause-redoes_request c =
    let old = c.args.self.now in
    let new = c.answer.new.server in
    let reply = c.in-Ok.answered.reply in
    let here = c.represents_valid_state.ensures.valid_state in
    redo_done old new c.args.request.now reply c.answer.ensures.same_root here.0 (subst (λ (s : ServerState). Represents s.content here.0) c.self.view_is here.1) here.2 c.in-Some.field-0
    (subst (λ (e : Option Edit). (n : State) → IsValidState n → Represents old.content n → (next : State) × ValidStep old.root n c.args.request.now reply next e × Represents new.content next) c.in-Some.is c.in-Ok.ensures.machine_step)

pub returns-clause-redoes_request : goal.returns-clause-redoes_request
returns-clause-redoes_request c =
    let old = c.args.self.now in
    let new = c.answer.new.server in
    let reply = c.in-Ok.answered.reply in
    let here = c.represents_valid_state.ensures.valid_state in
    redo_refused old new c.args.request.now reply c.answer.ensures.same_root here.0 (subst (λ (s : ServerState). Represents s.content here.0) c.self.view_is here.1) here.2
    (subst (λ (e : Option Edit). (n : State) → IsValidState n → Represents old.content n → (next : State) × ValidStep old.root n c.args.request.now reply next e × Represents new.content next) c.in-None.is c.in-Ok.ensures.machine_step)

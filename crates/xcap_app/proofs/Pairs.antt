-- What was served over a pair was served from its input to its output.
use Rattle.std.proofs.Common.{◌≡◌, ℕ, List, [], ◌∷◌, ap, subst}
use Rattle.std.specs.Borrow.{GName}
use Rattle.store_core.specs.ValidStates.{IsValidState}
use Rattle.store_core.specs.State.{State}
use Rattle.xcap_machine.specs.Machine.{ValidStep}
use Rattle.edit_ops.specs.declared.edit.Edit.{Edit}
use Rattle.xcap_io.specs.StreamStates.{HiddenState, StreamState}
use Rattle.xcap_io.specs.StreamPairs.{pair_state}
use Rattle.xcap_io.proofs.PairLemmas.{Through, through}
use Rattle.http_serve.specs.ServedStreams.{ServesStream}
use Rattle.http_serve.specs.ReplyBytes.{StepsInBytes}
use Rattle.http_wire.specs.declared.close_reason.CloseReason.{CloseReason}
use Rattle.xcap_app.specs.StreamFrames.{ReadsOnly, WritesOnly}
use Rattle.xcap_app.specs.ReplayCommand.{ServesInput}

just_read : (input output input' output' : StreamState) → Through input output input' output' → ReadsOnly input input'
just_read input output input' output' t = record {
  same_taken = ap (λ (m : HiddenState). m.taken) t.same_unread;
  same_write_faults = ap (λ (m : HiddenState). m.faults) t.same_unread;
  same_holds = t.same_input_holds;
  same_aside = t.same_input_aside;
  same_port = ap (λ (m : HiddenState). m.port) t.same_unread;
  same_peer = ap (λ (m : HiddenState). m.peer) t.same_unread;
}

just_written : (input output input' output' : StreamState) → Through input output input' output' → WritesOnly output output'
just_written input output input' output' t = record {
  same_inward = ap (λ (m : HiddenState). m.inward) t.same_unwritten;
  same_read_faults = ap (λ (m : HiddenState). m.faults) t.same_unwritten;
  same_holds = t.same_output_holds;
  same_aside = t.same_output_aside;
  same_port = ap (λ (m : HiddenState). m.port) t.same_unwritten;
  same_peer = ap (λ (m : HiddenState). m.peer) t.same_unwritten;
}

module _ {W : Type 0} (Keeps : List Edit → W → W → Type 0) where
  pub by_pair : (root : List ℕ) (ended : CloseReason) (m m' : State) (input output input' output' made : StreamState) (a o a' o' : GName) (w w' : W)
      → made ≡ pair_state input output (a ∷ o ∷ []) → IsValidState m'
      → ServesStream (StepsInBytes (ValidStep root)) Keeps ended (record { machine = m; stream = made; watchers = w }) (record { machine = m'; stream = pair_state input' output' (a' ∷ o' ∷ []); watchers = w' })
      → ServesInput Keeps root m ended (record { input = input; output = output; watchers = w }) (record { input = input'; output = output'; watchers = w' })
  by_pair root ended m m' input output input' output' made a o a' o' w w' was kept s =
      let on : ServesStream (StepsInBytes (ValidStep root)) Keeps ended (record { machine = m; stream = pair_state input output (a ∷ o ∷ []); watchers = w }) (record { machine = m'; stream = pair_state input' output' (a' ∷ o' ∷ []); watchers = w' }) =
      subst (λ (l : StreamState). ServesStream (StepsInBytes (ValidStep root)) Keeps ended (record { machine = m; stream = l; watchers = w }) (record { machine = m'; stream = pair_state input' output' (a' ∷ o' ∷ []); watchers = w' })) was s in
      let t : Through input output input' output' = through input output input' output' on.exchanges.same_holds on.exchanges.same_aside in
      record {
        state = m';
        kept = kept;
        passed = on.passed;
        edits = on.edits;
        gave = on.gave;
        found_end = on.found_end;
        took = on.took;
        serves = on.serves;
        notified = on.kept;
        faults = on.faults;
        just_read = just_read input output input' output' t;
        just_written = just_written input output input' output' t;
      }

-- What a server did over its end of a connection, by all bytes of the requests.
use Rattle.std.proofs.Common.{◌≡◌, ℕ, true≢false, List, [], ◌∷◌, ◌++◌, Some, sym, ap, subst, ◌∙◌, arith}
use Rattle.std.specs.Borrow.{GName}
use Rattle.edit_ops.specs.declared.edit.Edit.{Edit}
use Rattle.store_core.specs.State.{State}
use Rattle.xcap_io.specs.StreamStates.{StreamState, CountRises}
use Rattle.xcap_io.specs.ConnectionHistories.{Traffic, no_traffic}
use Rattle.xcap_io.specs.StreamTraffic.{HasNothingAfterEnd}
use Rattle.http_wire.specs.ServedConnections.{ServesConnection, counted_traffic}
use Rattle.http_serve.specs.ServedStreams.{ServesStream}
use Rattle.http_serve.specs.FaultCounts.{CountsFaultOfReason}
use Rattle.http_serve.specs.FixedReplies.{fixed_reply}
use Rattle.http_serve.specs.ReplyBytes.{StepsInBytes}
use Rattle.http_wire.specs.declared.close_reason.CloseReason.{CloseReason}
use Rattle.http_wire.specs.declared.close_reason.CloseReason.TheVariants.{Closed, ReadFailed, WriteFailed}
use Rattle.xcap_machine.specs.Machine.{ValidStep}
use Rattle.xcap_server.proofs.KnownBytes.{line_counts}
use Rattle.server_peer.specs.inner.ServerEnds.{server_end_state}
use Rattle.server_peer.specs.ServedBytes.{whole_traffic}

-- the one reference is the same as before
pub same_name : {a b : GName} → a ∷ [] ≡ b ∷ [] → a ≡ b
same_name h = cc

-- a count that never rises
never : (before now : ℕ) → before ≡ 0 → now ≡ 0 → CountRises before now → ⊥
never before now b n h = omega (arith, b, n, h)

-- where neither count rose the connection was closed
closes : (root : List ℕ) (ended : CloseReason) (m next : State) (old new : StreamState) (asked : List ℕ) (passed : Traffic) (edits : List Edit) → old.read_faults ≡ 0 → new.read_faults ≡ 0 → old.write_faults ≡ 0 → new.write_faults ≡ 0 → CountsFaultOfReason ended old.read_faults new.read_faults old.write_faults new.write_faults
    → ServesConnection (StepsInBytes (ValidStep root)) fixed_reply ended m (counted_traffic ended asked passed) next edits → ServesConnection (StepsInBytes (ValidStep root)) fixed_reply Closed m (whole_traffic asked passed.taken) next edits
closes root Closed m next old new asked passed edits r r' w w' faults s = s
closes root ReadFailed m next old new asked passed edits r r' w w' faults s = absurd (never old.read_faults new.read_faults r r' faults.0)
closes root WriteFailed m next old new asked passed edits r r' w w' faults s = absurd (never old.write_faults new.write_faults w w' faults.1)

module _ {W : Type 0} (Keeps : List Edit → W → W → Type 0) where
  -- the bytes taken are all replies
  pub answered : (root : List ℕ) (ended : CloseReason) (m next : State) (old new : StreamState) (w w' : W) (asked : List ℕ) (name : GName) → old ≡ server_end_state asked no_traffic name → new.read_faults ≡ 0 → new.write_faults ≡ 0
      → ServesStream (StepsInBytes (ValidStep root)) Keeps ended (record { machine = m; stream = old; watchers = w }) (record { machine = next; stream = new; watchers = w' }) → (edits : List Edit) × ServesConnection (StepsInBytes (ValidStep root)) fixed_reply Closed m (whole_traffic asked new.taken) next edits
  answered root ended m next old new w w' asked name is r' t' s =
      let told : old.inward.left ≡ Some asked = ap (λ (l : StreamState). l.inward.left) is in
      let truthful : HasNothingAfterEnd old.inward = λ found. absurd (true≢false (sym found ∙ ap (λ (l : StreamState). l.inward.ended) is)) in
      let r : old.read_faults ≡ 0 = ap (λ (l : StreamState). l.read_faults) is in
      let t : old.write_faults ≡ 0 = ap (λ (l : StreamState). l.write_faults) is in
      let taken : s.passed.taken ≡ new.taken = sym (s.took ∙ ap (λ (l : StreamState). l.taken ++ s.passed.taken) is) in
      let all = closes root ended m next old new asked s.passed s.edits r r' t t' s.faults (line_counts Keeps root ended (record { machine = m; stream = old; watchers = w }) (record { machine = next; stream = new; watchers = w' }) asked told truthful s) in
      (s.edits, subst (λ (l : List ℕ). ServesConnection (StepsInBytes (ValidStep root)) fixed_reply Closed m (whole_traffic asked l) next s.edits) taken all)

use Rattle.std.proofs.Common.{◌≡◌, ℕ, ◌+◌, ◌-◌, nat_lt, Bool, ◌||◌, List, ◌++◌, length, take, drop, refl, sym, ap, ◌∙◌, arith, subst}
use Rattle.std.proofs.lemmas.List.{drop-drop}
use Rattle.xcap_io.specs.ConnectionHistories.{ConnectionHistory}
use Rattle.server_peer.specs.inner.ServerEnds.{KeepsReplyFront}
use Rattle.server_peer.proofs.ReplyFronts.{keeps_more}
use Rattle.server_peer.proofs.server_end.ServerEndSink.write.Goals as goal

pub invariant_of-self-clause-keeps : goal.invariant_of-self-clause-keeps
invariant_of-self-clause-keeps c =
    let room : List ℕ = c.args.self.now.room.now in
    let held : ℕ = c.args.self.now.held in
    let piece : List ℕ = c.args.piece.now in
    let n : ℕ = c.min-count.result in
    let replies : List ℕ = c.args.self.now.log.history.now.taken in
    let over : Bool = c.args.self.now.is_over in
    let mid : List ℕ = c.copy_from_slice.new.self in
    let behind : List ℕ = drop (held + n - held) (drop held room) in
    let same : held + n - held ≡ n = omega arith in
    let taken : c.record_write.new.self.history.now.taken ≡ replies ++ piece = ap (λ (h : ConnectionHistory). h.now.taken) c.record_write.ensures.taken_is_logged in
    let back : behind ≡ drop (held + n) room = ap (λ (m : ℕ). drop m (drop held room)) same ∙ drop-drop n held room in
    subst (λ (l : List ℕ). KeepsReplyFront (take held room ++ (mid ++ behind)) (held + n) (over || nat_lt n (length piece)) l) (sym taken)
    (keeps_more room replies piece mid behind held n over (over || nat_lt n (length piece)) c.args.self.now.keeps c.min-count.ensures c.copy_from_slice.ensures.after back refl)

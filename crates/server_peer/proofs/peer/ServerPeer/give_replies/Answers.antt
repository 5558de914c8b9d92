use Rattle.std.proofs.Common.{◌≡◌, ℕ, ◌+◌, ◌-◌, ◌≤◌, List, length, take, drop, ap, ◌∙◌, arith, length-drop}
use Rattle.xcap_io.specs.ConnectionHistories.{ConnectionHistory}
use Rattle.server_peer.proofs.Rooms.{gives_on}
use Rattle.server_peer.proofs.peer.ServerPeer.give_replies.Goals as goal

pub overflow_add-self : goal.overflow_add-self
overflow_add-self c =
    let bytes : List ℕ = c.self.inside.replies.bytes in
    let given : ℕ = c.self.inside.given in
    let left : length c.replies_after-left.result.now ≡ length bytes - given = ap length c.replies_after-left.ensures.exact ∙ length-drop given bytes in
    omega (arith, left, c.min-count.ensures, c.self.invariant.3, c.replies_after-left.ensures.fits_u64)

pub invariant_of-self-2 : goal.invariant_of-self-2
invariant_of-self-2 c =
    let bytes : List ℕ = c.self.inside.replies.bytes in
    let given : ℕ = c.self.inside.given in
    let count : ℕ = c.min-count.result in
    let left : length c.replies_after-left.result.now ≡ length bytes - given = ap length c.replies_after-left.ensures.exact ∙ length-drop given bytes in
    let fits : given + count ≤ length bytes = omega (arith, left, c.min-count.ensures, c.self.invariant.3) in
    let front : c.copy_from_slice.new.self ≡ take count (drop given bytes) = c.copy_from_slice.ensures.after ∙ ap (λ (l : List ℕ). take count l) c.replies_after-left.ensures.exact in (
      ap (λ (h : ConnectionHistory). h.is_present) c.record_read.ensures.given_is_logged ∙ c.self.invariant.0,
      ap (λ (h : ConnectionHistory). h.now.taken) c.record_read.ensures.given_is_logged ∙ c.self.invariant.1,
      ap (λ (h : ConnectionHistory). h.now.given) c.record_read.ensures.given_is_logged ∙ gives_on bytes c.copy_from_slice.new.self _ c.self.inside.log.history.now.given given count fits front c.self.invariant.2,
      fits,
    )

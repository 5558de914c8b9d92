use Rattle.std.proofs.Common.{◌≡◌, ℕ, ◌≤◌, length, take, sym, ap, subst, ◌∙◌}
use Rattle.server_peer.specs.BufferStates.{RepliesState, WrittenState}
use Rattle.server_peer.proofs.Rooms.{still_front, still_inside}
use Rattle.server_peer.proofs.peer.ServerPeer.serve_pending.Goals as goal

pub invariant_of-self : goal.invariant_of-self
invariant_of-self c =
    let r : RepliesState = c.self.inside.replies in
    let given : ℕ = c.self.inside.given in
    let a = c.add.ensures.adds_replies in
    let within : length r.bytes ≤ r.room = c.add.ensures.within_capacity in
    let front : take given c.add.new.self.bytes ≡ take given r.bytes = ap (λ (s : RepliesState). take given s.bytes) a.behind ∙ still_front r given a.replies within c.self.invariant.3 in (
      c.self.invariant.0,
      c.self.invariant.1 ∙ sym (ap (λ (w : WrittenState). w.bytes) c.set_served.ensures.exact),
      c.self.invariant.2 ∙ sym front,
      subst (λ (s : RepliesState). given ≤ length s.bytes) (sym a.behind) (still_inside r given a.replies within c.self.invariant.3),
    )

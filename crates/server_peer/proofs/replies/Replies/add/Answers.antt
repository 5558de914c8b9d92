use Rattle.std.proofs.Common.{◌≡◌, ℕ, ◌+◌, ◌-◌, ◌≤◌, Bool, true, ◌||◌, List, length, take, drop, sym, ap, subst, ◌∙◌, arith, length-drop}
use Rattle.std.proofs.lemmas.List.{length-take}
use Rattle.server_peer.specs.BufferStates.{RepliesState, with_replies}
use Rattle.server_peer.proofs.ReplyFronts.{full_then, held_within, kept_both, over_both, replies_are, room_stays, written_behind}
use Rattle.server_peer.proofs.replies.Replies.add.Goals as goal

pub invariant_of-self : goal.invariant_of-self
invariant_of-self c =
    let items : List ℕ = c.self.inside.room.items in
    let now : List ℕ = c.deref_mut.result.now in
    let replies_after : List ℕ = c.reply_to-replied.new.room in
    let held : ℕ = c.self.inside.held in
    let k : ℕ = c.reply_to-replied.result.held in
    let more : Bool = c.self.inside.is_over in
    let over : Bool = c.reply_to-replied.result.is_over in
    let f = c.reply_to-replied.ensures.replies_to_bytes in
    let within : held ≤ length items = c.self.invariant.0 in
    let same : now ≡ items = c.deref_mut.ensures.value in
    let size : length replies_after ≡ length items - held = omega (arith, f.same_room, length-take (length now - held) (drop held now), length-drop held now, ap length same) in
    subst (λ (l : List ℕ). (held + k ≤ length l) × ((more || over) ≡ true → held + k ≡ length l))
    (sym (written_behind items now replies_after c.self.inside.room.len held same c.deref_mut.ensures.len within size))
    (held_within items replies_after f.replies held k more over within size f.keeps, full_then items replies_after f.replies held k more over within size f.keeps c.self.invariant.1)

pub returns-clause-adds_replies : goal.returns-clause-adds_replies
returns-clause-adds_replies c =
    let items : List ℕ = c.self.inside.room.items in
    let now : List ℕ = c.deref_mut.result.now in
    let replies_after : List ℕ = c.reply_to-replied.new.room in
    let held : ℕ = c.self.inside.held in
    let k : ℕ = c.reply_to-replied.result.held in
    let more : Bool = c.self.inside.is_over in
    let over : Bool = c.reply_to-replied.result.is_over in
    let f = c.reply_to-replied.ensures.replies_to_bytes in
    let within : held ≤ length items = c.self.invariant.0 in
    let same : now ≡ items = c.deref_mut.ensures.value in
    let size : length replies_after ≡ length items - held = omega (arith, f.same_room, length-take (length now - held) (drop held now), length-drop held now, ap length same) in
    record {
      replies = f.replies;
      served = f.served;
      behind =
          ap (λ (l : List ℕ). record { bytes = take (held + k) l; more = more || over; room = length l }) (written_behind items now replies_after c.self.inside.room.len held same c.deref_mut.ensures.len within size)
          ∙ replies_are _ _ _ _ _ _ (kept_both items replies_after f.replies held k more over within size f.keeps) (over_both items replies_after f.replies held k more over within size f.keeps) (room_stays items replies_after f.replies held k more over within size f.keeps)
          ∙ ap (λ (r : RepliesState). with_replies r f.replies) c.self.view_is;
    }

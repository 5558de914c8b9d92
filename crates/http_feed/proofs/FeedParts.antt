-- The parts of a feed stay in agreement.
use Rattle.std.proofs.Common.{◌≡◌, ℕ, ◌+◌, ◌<◌, ◌≤◌, Bool, true, false, List, [], ◌∷◌, ◌++◌, length, refl, sym, ap, subst, ◌∙◌, arith}
use Rattle.http_wire.specs.inner.ChunkDecoder.{Decoding}
use Rattle.http_feed.specs.declared.item_reader.ReadPlace.{ReadPlace}
use Rattle.http_feed.specs.declared.item_reader.ReadPlace.TheVariants.{Head}
use Rattle.http_feed.specs.inner.Buffers.{ReadBufferState, ChunkDataState, no_bytes}
use Rattle.http_feed.specs.inner.Places.{ArePartsOfFeed, HoldsBytes}
use Rattle.http_feed.proofs.ReadPlaces.{holds_more, holds_next, holds_none}

not_both : {A : Type 0} (spent : Bool) → spent ≡ false → spent ≡ true → A
not_both spent open_still ended = absurd (let both : false ≡ true = sym open_still ∙ ended in let e : ⊥ = cc in e)

-- before the next item of a feed that isn't spent
pub at_next : (held : ReadBufferState) (chunks : ChunkDataState) (given : List ℕ) (requests : ℕ) (spent : Bool) → given ≡ held.bytes → spent ≡ false → requests < 1000 → ArePartsOfFeed (Head 0) held chunks (record { held = given; requests = requests; spent = spent })
at_next held chunks given requests spent same stays few = record {
  holds = subst (λ (l : List ℕ). HoldsBytes (Head 0) held.bytes chunks.decoding l) (sym same) (holds_next held.bytes chunks.decoding);
  fewer = λ _. few;
  none = λ ended. not_both spent stays ended;
}

-- a spent feed
pub when_spent : (held : ReadBufferState) (chunks : ChunkDataState) (given : List ℕ) (requests : ℕ) (spent : Bool) → held ≡ no_bytes → chunks.capacity ≡ 0 → given ≡ [] → spent ≡ true → ArePartsOfFeed (Head 0) held chunks (record { held = given; requests = requests; spent = spent })
when_spent held chunks given requests spent none free empty ended = record {
  holds = subst (λ (l : List ℕ). HoldsBytes (Head 0) held.bytes chunks.decoding l) (ap (λ (h : ReadBufferState). h.bytes) none ∙ sym empty) (holds_next held.bytes chunks.decoding);
  fewer = λ stays. not_both spent stays ended;
  none = λ _. (empty, none, free);
}

-- more bytes were given
pub with_more : (place : ReadPlace) (held held' : ReadBufferState) (chunks : ChunkDataState) (given given' more : List ℕ) (requests : ℕ) (spent : Bool) → ArePartsOfFeed place held chunks (record { held = given; requests = requests; spent = spent }) → held'.bytes ≡ held.bytes ++ more → given' ≡ given ++ more
    → length more ≤ held.room → 0 < length more → ArePartsOfFeed place held' chunks (record { held = given'; requests = requests; spent = spent })
with_more place held held' chunks given given' more requests spent p added also fits some = record {
  holds = subst (λ (l : List ℕ). HoldsBytes place held'.bytes chunks.decoding l) (sym also)
      (subst (λ (l : List ℕ). HoldsBytes place l chunks.decoding (given ++ more)) (sym added) (holds_more place held.bytes more chunks.decoding given p.holds));
  fewer = p.fewer;
  none = λ ended. absurd (omega (arith, fits, some, ap (λ (h : ReadBufferState). h.room) (p.none ended).1));
}

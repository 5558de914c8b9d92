-- Replies whose front is kept, one piece after the other.
use Rattle.std.proofs.Common.{◌≡◌, ℕ, zero, suc, ◌+◌, ◌-◌, ◌<◌, ◌≤◌, nat_lt, min, Bool, true, false, ◌||◌, List, [], ◌∷◌, ◌++◌, length, take, drop, refl, sym, ap, ◌∙◌, arith, length-append, length-drop, append_assoc, append-nil, take-append-drop, true≢false}
use Rattle.std.proofs.lemmas.Bool.Decides.{nat_tests}
use Rattle.std.proofs.lemmas.List.{drop_all, length-take, length-take-le, take_all, take_at, take_min}
use Rattle.server_peer.specs.inner.ServerEnds.{KeepsReplyFront}
use Rattle.server_peer.specs.BufferStates.{RepliesState}

-- either there were more before, or there are now
pub is_over_then : (room before piece : ℕ) (over : Bool) (n : ℕ) → over ≡ nat_lt room before → n ≡ min piece (room - before) → (over || nat_lt n piece) ≡ nat_lt room (before + piece)
is_over_then room before piece over n was is = grind (arith, nat_tests)

-- the front of two lists, one after the other
pub take_both : (n : ℕ) (xs ys : List ℕ) → take n (xs ++ ys) ≡ take n xs ++ take (n - length xs) ys
take_both zero xs ys = let e : 0 ≡ 0 - length xs = omega arith in ap (λ (m : ℕ). take m ys) e
take_both (suc n) [] ys = let e : suc n ≡ suc n - length {A = ℕ} [] = omega arith in ap (λ (m : ℕ). take m ys) e
take_both (suc n) (x ∷ xs) ys =
    let e : n - length xs ≡ suc n - suc (length xs) = omega arith in
    ap (λ (l : List ℕ). x ∷ l) (take_both n xs ys ∙ ap (λ (m : ℕ). take n xs ++ take m ys) e)

-- the number of bytes kept
pub how_many : (room : List ℕ) (held : ℕ) (replies : List ℕ) → held ≤ length room → take held room ≡ take (length room) replies → held ≡ min (length room) (length replies)
how_many room held replies within front =
    sym (length-take-le held room within) ∙ ap length front ∙ length-take (length room) replies

module _ (room replies piece mid behind : List ℕ) (held n : ℕ) (over now : Bool) (k : KeepsReplyFront room held over replies) (count : n ≡ min (length piece) (length room - held)) (front : mid ≡ take n piece) (back : behind ≡ drop (held + n) room) where
  many : held ≡ min (length room) (length replies)
  many = how_many room held replies k.within k.front

  fits : held + n ≤ length room
  fits = omega (arith, k.within, count)

  mid_length : length mid ≡ n
  mid_length = ap length front ∙ length-take-le n piece (omega (arith, count))

  first_length : length (take held room) ≡ held
  first_length = length-take-le held room k.within

  same_length : length (take held room ++ (mid ++ behind)) ≡ length room
  same_length =
      let back_length : length behind ≡ length room - (held + n) = ap length back ∙ length-drop (held + n) room in
      length-append (take held room) (mid ++ behind) ∙ omega (arith, length-append mid behind, first_length, mid_length, back_length, fits)

  -- the piece that is kept is the front of what fits
  piece_front : take n piece ≡ take (length room - length replies) piece
  piece_front =
      let is : n ≡ min (length room - length replies) (length piece) = omega (arith, count, many) in
      ap (λ (m : ℕ). take m piece) is ∙ take_min (length room - length replies) piece

  pub keeps_more : now ≡ (over || nat_lt n (length piece)) → KeepsReplyFront (take held room ++ (mid ++ behind)) (held + n) now (replies ++ piece)
  keeps_more is = record {
    within = omega (arith, same_length, fits);
    front =
        let joined : length (take held room ++ mid) ≡ held + n = length-append (take held room) mid ∙ omega (arith, first_length, mid_length) in
        ap (λ (l : List ℕ). take (held + n) l) (sym (append_assoc (take held room) mid behind))
        ∙ take_at (take held room ++ mid) behind (held + n) joined
        ∙ ap (λ (l : List ℕ). take held room ++ l) (front ∙ piece_front)
        ∙ ap (λ (l : List ℕ). l ++ take (length room - length replies) piece) k.front
        ∙ sym (take_both (length room) replies piece)
        ∙ ap (λ (m : ℕ). take m (replies ++ piece)) (sym same_length);
    others =
        is ∙ is_over_then (length room) (length replies) (length piece) over n k.others (omega (arith, count, many))
        ∙ ap (λ (m : ℕ). nat_lt (length room) m) (sym (length-append replies piece))
        ∙ ap (λ (m : ℕ). nat_lt m (length (replies ++ piece))) (sym same_length);
  }

-- The first `held` bytes are kept. After them the front of others is kept in the rest of the
-- buffer.
module _ (room behind others : List ℕ) (held k : ℕ) (more over : Bool) (within : held ≤ length room) (size : length behind ≡ length room - held) (keeps : KeepsReplyFront behind k over others) where
  kept_length : length (take held room) ≡ held
  kept_length = length-take-le held room within

  pub room_stays : length (take held room ++ behind) ≡ length room
  room_stays = length-append (take held room) behind ∙ omega (arith, kept_length, size, within)

  pub held_within : held + k ≤ length (take held room ++ behind)
  held_within = omega (arith, room_stays, keeps.within, size, within)

  joined_length : length (take held room ++ take k behind) ≡ held + k
  joined_length = length-append (take held room) (take k behind) ∙ omega (arith, kept_length, length-take-le k behind keeps.within)

  -- they are kept as one list
  pub kept_both : take (held + k) (take held room ++ behind) ≡ take (length room) (take held room ++ others)
  kept_both =
      let left : length room - length (take held room) ≡ length behind = omega (arith, kept_length, size, within) in
      let front : take (length room) (take held room) ≡ take held room = take_all (length room) (take held room) (omega (arith, kept_length, within)) in
      ap (λ (l : List ℕ). take (held + k) (take held room ++ l)) (sym (take-append-drop k behind))
      ∙ ap (λ (l : List ℕ). take (held + k) l) (sym (append_assoc (take held room) (take k behind) (drop k behind)))
      ∙ take_at (take held room ++ take k behind) (drop k behind) (held + k) joined_length
      ∙ ap (λ (l : List ℕ). take held room ++ l) keeps.front
      ∙ sym (ap (λ (l : List ℕ). l ++ take (length room - length (take held room)) others) front ∙ ap (λ (m : ℕ). take held room ++ take m others) left)
      ∙ sym (take_both (length room) (take held room) others)

  -- there are more after them, where there were before, or are now
  pub over_both : (more || over) ≡ (more || nat_lt (length room) (length (take held room ++ others)))
  over_both =
      let sum : length (take held room ++ others) ≡ held + length others = length-append (take held room) others ∙ ap (λ (m : ℕ). m + length others) kept_length in
      ap (λ (b : Bool). more || b) (keeps.others ∙ later (length room) (length others) (length behind) (length (take held room ++ others)) within size sum)
    where
      later : (n m b l : ℕ) → held ≤ n → b ≡ n - held → l ≡ held + m → nat_lt b m ≡ nat_lt n l
      later n m b l fits is sums = grind (arith, nat_tests)

  pub full_then : (more ≡ true → held ≡ length room) → (more || over) ≡ true → held + k ≡ length (take held room ++ behind)
  full_then before now = full more over refl refl now
    where
      full : (x y : Bool) → x ≡ more → y ≡ over → (x || y) ≡ true → held + k ≡ length (take held room ++ behind)
      full true y is so now = let all : held ≡ length room = before (sym is) in omega (arith, room_stays, all, size, keeps.within)
      full false true is so now =
          let many : k ≡ min (length behind) (length others) = how_many behind k others keeps.within keeps.front in
          let tested : nat_lt (length behind) (length others) ≡ true = sym (so ∙ keeps.others) in
          let past : length behind < length others = grind (arith, nat_tests) in
          omega (arith, room_stays, many, past, size, within)
      full false false is so now = absurd (true≢false (sym now))

-- the items of a vector of which the slice from a place on was written, and its length kept
pub written_behind : (items now behind : List ℕ) (len held : ℕ) → now ≡ items → length now ≡ len → held ≤ length items → length behind ≡ length items - held
    → take len ((take held now ++ (behind ++ drop (length now - held) (drop held now))) ++ drop (length (take held now ++ (behind ++ drop (length now - held) (drop held now)))) items) ≡ take held items ++ behind
written_behind items now behind len held same sized within size =
    let none : drop (length now - held) (drop held now) ≡ [] = drop_all (length now - held) (drop held now) (omega (arith, length-drop held now)) in
    let is : take held now ++ (behind ++ drop (length now - held) (drop held now)) ≡ take held items ++ behind =
    ap (λ (l : List ℕ). take held now ++ (behind ++ l)) none ∙ ap (λ (l : List ℕ). take held now ++ l) (append-nil behind) ∙ ap (λ (l : List ℕ). take held l ++ behind) same in
    let long : length (take held items ++ behind) ≡ len =
    length-append (take held items) behind ∙ omega (arith, length-take-le held items within, size, within, sized, ap length same) in
    ap (λ (l : List ℕ). take len (l ++ drop (length l) items)) is ∙ take_at (take held items ++ behind) (drop (length (take held items ++ behind)) items) len long

abbrev replies : List ℕ → Bool → ℕ → RepliesState
replies bytes more room = record { bytes = bytes; more = more; room = room }

pub replies_are : (b b' : List ℕ) (m m' : Bool) (r r' : ℕ) → b ≡ b' → m ≡ m' → r ≡ r' → replies b m r ≡ replies b' m' r'
replies_are b b' m m' r r' eb em er = ap (λ (l : List ℕ). replies l m r) eb ∙ ap (λ (x : Bool). replies b' x r) em ∙ ap (λ (n : ℕ). replies b' m' n) er

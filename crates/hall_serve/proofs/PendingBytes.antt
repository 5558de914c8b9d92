-- The bytes of a reply that are not written yet, in its head and its body.
use Rattle.std.proofs.Common.{◌≡◌, ℕ, zero, suc, ◌+◌, ◌-◌, ◌<◌, ◌≤◌, ◌⊎◌, inl, inr, true, false, List, [], ◌∷◌, ◌++◌, length, take, drop, refl, sym, ap, ◌∙◌, arith}
use Rattle.std.specs.Prelude.{leb, min}
use Rattle.std.proofs.lemmas.Bool.Decides.{leb_tells}
use Rattle.std.proofs.lemmas.List.{drop-append-le, length-append, length-take-le, take-append-le}
use Rattle.std.proofs.Math.Seq.{drop-append-add, take-append-add, take-length}

-- where the head is written, the rest of the body is pending
pub pending_body : (head body : List ℕ) (written : ℕ) → length head ≤ written → drop written (head ++ body) ≡ drop (written - length head) body
pending_body head body written past =
    let e : written ≡ length head + (written - length head) = omega (arith, past) in
    ap (λ (n : ℕ). drop n (head ++ body)) e ∙ drop-append-add head body (written - length head)

pub pending_head : (head body : List ℕ) (written : ℕ) → written ≤ length head → drop written (head ++ body) ≡ drop written head ++ body
pending_head head body written within = drop-append-le written head body within

-- bytes of the head were copied to the front of a buffer, and bytes of the body after them
pub both_copied : (head body old new last : List ℕ) (first more : ℕ) → first ≡ min (length head) (length old) → more ≡ min (length body) (length old - first) → length new ≡ length old → take first new ≡ take first head
    → take more last ≡ take more body → take (first + more) (take first new ++ last) ≡ take (first + more) (head ++ body)
both_copied head body old new last first more is_first is_more same copied then = by_test (leb_tells (length head) (length old))
  where
    by_test : ((leb (length head) (length old) ≡ true) × (length head ≤ length old)) ⊎ ((leb (length head) (length old) ≡ false) × (length old < length head)) → take (first + more) (take first new ++ last) ≡ take (first + more) (head ++ body)
    by_test (inl (_, fits)) =
        let whole : first ≡ length head = omega (arith, fits, is_first) in
        let front : take first new ≡ head = copied ∙ ap (λ (n : ℕ). take n head) whole ∙ take-length head in
        ap (λ (l : List ℕ). take (first + more) (l ++ last)) front ∙ ap (λ (n : ℕ). take (n + more) (head ++ last)) whole ∙ take-append-add head last more ∙ ap (λ (l : List ℕ). head ++ l) then
        ∙ sym (take-append-add head body more) ∙ ap (λ (n : ℕ). take (n + more) (head ++ body)) (sym whole)
    by_test (inr (_, full)) =
        let all : first ≡ length old = omega (arith, full, is_first) in
        let none : first + more ≡ first = omega (arith, is_more, all) in
        let size : length (take first new) ≡ first = length-take-le first new (omega (arith, all, same)) in
        let within : first ≤ length (take first new) = omega (arith, size) in
        let inside : first ≤ length head = omega (arith, all, full) in
        ap (λ (n : ℕ). take n (take first new ++ last)) none ∙ take-append-le first (take first new) last within ∙ ap (λ (n : ℕ). take n (take first new)) (sym size) ∙ take-length (take first new)
        ∙ copied ∙ sym (take-append-le first head body inside) ∙ ap (λ (n : ℕ). take n (head ++ body)) (sym none)

pub both_len : (head body old : List ℕ) (first more : ℕ) → first ≡ min (length head) (length old) → more ≡ min (length body) (length old - first) → first + more ≡ min (length (head ++ body)) (length old)
both_len head body old first more is_first is_more = let e = length-append head body in omega (arith, is_first, is_more, e)

take-front : {A : Type 0} (n m : ℕ) (xs : List A) → n ≤ m → take n (take m xs) ≡ take n xs
take-front zero m xs within = refl
take-front (suc n) zero xs within = absurd (let no : ⊥ = omega (arith, within) in no)
take-front (suc n) (suc m) [] within = refl
take-front {A} (suc n) (suc m) (x ∷ xs) within = ap (λ (l : List A). x ∷ l) (take-front n m xs (omega (arith, within)))

-- the first bytes of those that were copied
pub piece_front : (count most : ℕ) (buf pending : List ℕ) → count ≤ most → take most buf ≡ take most pending → take count (take most buf) ≡ take count pending
piece_front count most buf pending within copied = ap (λ (l : List ℕ). take count l) copied ∙ take-front count most pending within

-- the bytes copied where the head is written
pub body_copied : (head body h b pending new : List ℕ) (written count : ℕ) → h ≡ head → b ≡ body → length h ≤ written → pending ≡ drop written (head ++ body) → (piece : List ℕ) → piece ≡ drop (written - length h) b → take count new ≡ take count piece
    → take count new ≡ take count pending
body_copied head body h b pending new written count same_head same_body past is piece whole copied =
    let past' : length head ≤ written = let e = ap length same_head in omega (arith, e, past) in
    let rest : drop (written - length h) b ≡ drop (written - length head) body = ap (λ (l : List ℕ). drop (written - length l) b) same_head ∙ ap (drop (written - length head)) same_body in
    copied ∙ ap (take count) (whole ∙ rest ∙ sym (pending_body head body written past') ∙ sym is)

-- the bytes copied where some of the head are pending, and then some of the body
pub head_copied : (head body h b old new new' post room pending : List ℕ) (written first more : ℕ) → h ≡ head → b ≡ body → written ≤ length h → pending ≡ drop written (head ++ body) → (piece : List ℕ) → piece ≡ drop written h
    → first ≡ min (length piece) (length old) → length new ≡ length old → take first new ≡ take first piece
    → length room ≡ length old - first → length new' ≡ length room → more ≡ min (length b) (length room) → take more new' ≡ take more b
    → take (first + more) (take first new ++ (new' ++ post)) ≡ take (first + more) pending
head_copied head body h b old new new' post room pending written first more same_head same_body within is piece whole is_first same copied left same' is_more also =
    let size = ap length whole in
    let within' : more ≤ length new' = omega (arith, is_more, same') in
    let is_more' : more ≡ min (length b) (length old - first) = omega (arith, is_more, left) in
    let is_first' : first ≡ min (length (drop written h)) (length old) = omega (arith, is_first, size) in
    let last : take more (new' ++ post) ≡ take more b = take-append-le more new' post within' ∙ also in
    let joined : drop written h ++ b ≡ pending =
    sym (pending_head h b written within) ∙ ap (λ (l : List ℕ). drop written (l ++ b)) same_head ∙ ap (λ (l : List ℕ). drop written (head ++ l)) same_body ∙ sym is in
    both_copied (drop written h) b old new (new' ++ post) first more is_first' is_more' same (copied ∙ ap (take first) whole) last ∙ ap (take (first + more)) joined

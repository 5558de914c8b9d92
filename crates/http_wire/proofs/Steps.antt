-- A chunked body byte by byte: the numbers stay within the limits, and the bytes left get fewer.
use Rattle.std.proofs.Common.{◌≡◌, ◌≢◌, ℕ, ◌+◌, ◌-◌, ◌*◌, ◌<◌, ◌≤◌, min, Bool, true, false, not, ◌||◌, ◌==◌, nat_lt, nat_le, List, [], ◌∷◌, ◌++◌, length, take, drop, if◌then◌else◌, refl, sym, ap, subst, ◌∙◌, arith, length-append, append_assoc}
use Rattle.std.proofs.lemmas.Bool.{cond_both, leb-false, leb-true, ltb-true, eqb-true, eqb-false, not-true, not-false, ne_eqb, or_from, not_from_false}
use Rattle.std.proofs.lemmas.List.{append-nil, length-take-le, take_all, take_rest}
use Rattle.std.proofs.Math.Seq.{take-add}
use Rattle.http_wire.proofs.Buffers.{put_behind}
use Rattle.std.specs.Char.{digit_value, is_digit}
use Rattle.httparse.specs.Ascii.{line_feed, carriage_return, semicolon}
use Rattle.httparse.specs.Grammar.{is_ows, is_value_byte}
use Rattle.http_wire.specs.declared.chunk_decoder.ChunkState.{ChunkState}
use Rattle.http_wire.specs.declared.chunk_decoder.ChunkState.TheVariants.{Size, Blank, Extension, SizeEnd, Data, DataEnd, Trailers, Trailer, TrailerEnd, LastEnd, Done, Bad, TooLong}
use Rattle.http_wire.specs.ChunkedBodies.{is_trailer_byte}
use Rattle.http_wire.specs.inner.ChunkDecoder.{Decoding, decoding, is_settled, expects_data, state_after_digits, state_in_digits, state_in_extension, state_after_line, state_after_data, state_in_trailers, state_if_line_feed, next_state, next_decoding, DecodesBytes, IsWithinLimits, bytes_left}

-- A fact about the state after each kind of byte, from the fact at each state that may follow.

pub by_after_digits : (P : ChunkState → Type 0) (value len b : ℕ) → (b ≡ carriage_return → P (SizeEnd value)) → P Bad → (len < 254 → is_ows b ≡ true → P (Blank value (len + 1))) → (len < 254 → b ≡ semicolon → P (Extension value (len + 1))) → P (state_after_digits value len b)
by_after_digits P value len b ends bad blank extension =
    let last : ChunkState = if b == semicolon then Extension value (len + 1) else Bad in
    let inner : ChunkState = if is_ows b then Blank value (len + 1) else last in
    cond_both (b == carriage_return) (SizeEnd value) (if nat_le 254 len then Bad else inner) P (λ end. ends (eqb-true b carriage_return end)) (λ _.
    cond_both (nat_le 254 len) Bad inner P (λ _. bad) (λ more.
    let less : len < 254 = leb-false 254 len more in
    cond_both (is_ows b) (Blank value (len + 1)) last P (blank less) (λ _.
    cond_both (b == semicolon) (Extension value (len + 1)) Bad P (λ mark. extension less (eqb-true b semicolon mark)) (λ _. bad))))

pub by_in_digits : (P : ChunkState → Type 0) (digits value b : ℕ) → (digits < 16 → is_digit b 16 ≡ true → P (Size (digits + 1) (min (value * 16 + digit_value b) 262_145))) → P Bad → (0 < digits → P (state_after_digits value digits b)) → P (state_in_digits digits value b)
by_in_digits P digits value b digit bad behind =
    let more : ChunkState = Size (digits + 1) (min (value * 16 + digit_value b) 262_145) in
    let other : ChunkState = if digits == 0 then Bad else state_after_digits value digits b in
    cond_both (nat_lt (digit_value b) 16) (if nat_lt digits 16 then more else Bad) other P
    (λ is. cond_both (nat_lt digits 16) more Bad P (λ few. digit (ltb-true digits 16 few) is) (λ _. bad))
    (λ _. cond_both (digits == 0) Bad (state_after_digits value digits b) P (λ _. bad) (λ some. behind (let ne : digits ≢ 0 = eqb-false digits 0 some in omega arith)))

pub by_in_extension : (P : ChunkState → Type 0) (value len b : ℕ) → (b ≡ carriage_return → P (SizeEnd value)) → P Bad → (len < 254 → is_value_byte b ≡ true → P (Extension value (len + 1))) → P (state_in_extension value len b)
by_in_extension P value len b ends bad extension =
    let inner : ChunkState = if is_value_byte b then Extension value (len + 1) else Bad in
    cond_both (b == carriage_return) (SizeEnd value) (if nat_le 254 len then Bad else inner) P (λ end. ends (eqb-true b carriage_return end)) (λ _.
    cond_both (nat_le 254 len) Bad inner P (λ _. bad) (λ more.
    cond_both (is_value_byte b) (Extension value (len + 1)) Bad P (extension (leb-false 254 len more)) (λ _. bad)))

pub by_after_line : (P : ChunkState → Type 0) (value decoded b : ℕ) → P Bad → (b ≡ line_feed → value ≡ 0 → P (Trailers 0)) → (b ≡ line_feed → 0 < value → decoded + value ≤ 262_144 → P (Data value)) → (b ≡ line_feed → 262_144 < decoded + value → P TooLong) → P (state_after_line value decoded b)
by_after_line P value decoded b bad trailers data_due long =
    let sized : ChunkState = if nat_le (decoded + value) 262_144 then Data value else TooLong in
    let fed : ChunkState = if value == 0 then Trailers 0 else sized in
    cond_both (not (b == line_feed)) Bad fed P (λ _. bad) (λ fed_by.
    let feed : b ≡ line_feed = eqb-true b line_feed (not-false (b == line_feed) fed_by) in
    cond_both (value == 0) (Trailers 0) sized P (λ none. trailers feed (eqb-true value 0 none)) (λ some.
    cond_both (nat_le (decoded + value) 262_144) (Data value) TooLong P
    (λ fits. data_due feed (let ne : value ≢ 0 = eqb-false value 0 some in omega arith) (leb-true (decoded + value) 262_144 fits))
    (λ over. long feed (leb-false (decoded + value) 262_144 over))))

pub by_in_trailers : (P : ChunkState → Type 0) (used b : ℕ) (end : ChunkState) → (b ≡ carriage_return → P end) → P Bad → (used + 3 ≤ 16_384 → is_trailer_byte b ≡ true → P (Trailer (used + 1))) → P (state_in_trailers used b end)
by_in_trailers P used b end ends bad trailer =
    let longer : ChunkState = if nat_le (used + 3) 16_384 then Trailer (used + 1) else Bad in
    cond_both (b == carriage_return) end (if b == line_feed then Bad else longer) P (λ is. ends (eqb-true b carriage_return is)) (λ no_end.
    cond_both (b == line_feed) Bad longer P (λ _. bad) (λ no_feed.
    cond_both (nat_le (used + 3) 16_384) (Trailer (used + 1)) Bad P (λ fits. trailer (leb-true (used + 3) 16_384 fits) (not_from_false (b == carriage_return || b == line_feed) (or_from (b == carriage_return) (b == line_feed) no_end no_feed))) (λ _. bad)))

pub by_if_feed : (P : ChunkState → Type 0) (b : ℕ) (next : ChunkState) → (b ≡ line_feed → P next) → P Bad → P (state_if_line_feed b next)
by_if_feed P b next fed bad = cond_both (b == line_feed) next Bad P (λ is. fed (eqb-true b line_feed is)) (λ _. bad)

pub by_data : (P : ChunkState → Type 0) (left decoded b : ℕ) → (left ≡ 0 → b ≡ carriage_return → P DataEnd) → (left ≡ 0 → P Bad) → (0 < left → P (Data (left - 1))) → P (next_state (Data left) decoded b)
by_data P left decoded b ends bad more =
    cond_both (left == 0) (state_after_data b) (Data (left - 1)) P
    (λ none. cond_both (b == carriage_return) DataEnd Bad P (λ is. ends (eqb-true left 0 none) (eqb-true b carriage_return is)) (λ _. bad (eqb-true left 0 none)))
    (λ some. more (let ne : left ≢ 0 = eqb-false left 0 some in omega arith))

-- The numbers stay within the limits, where the decoded bytes are counted with a byte of a chunk.
abbrev pub decoded_after : ChunkState → ℕ → ℕ
decoded_after s decoded = if expects_data s then decoded + 1 else decoded

pub fits_next : (s : ChunkState) (decoded b : ℕ) → IsWithinLimits s decoded → expects_data s ≡ false → IsWithinLimits (next_state s decoded b) decoded
fits_next (Size digits value) decoded b fits other =
    let P : ChunkState → Type 0 = λ s. IsWithinLimits s decoded in
    by_in_digits P digits value b (λ few digit. (omega arith, omega arith, fits.2)) fits.2 (λ _.
    by_after_digits P value digits b (λ _. (fits.1, fits.2)) fits.2 (λ less _. (fits.1, omega arith, fits.2)) (λ less _. (fits.1, omega arith, fits.2)))
fits_next (Blank value len) decoded b fits other = by_after_digits (λ s. IsWithinLimits s decoded) value len b (λ _. (fits.0, fits.2)) fits.2 (λ less _. (fits.0, omega arith, fits.2)) (λ less _. (fits.0, omega arith, fits.2))
fits_next (Extension value len) decoded b fits other = by_in_extension (λ s. IsWithinLimits s decoded) value len b (λ _. (fits.0, fits.2)) fits.2 (λ less _. (fits.0, omega arith, fits.2))
fits_next (SizeEnd value) decoded b fits other = by_after_line (λ s. IsWithinLimits s decoded) value decoded b fits.1 (λ _ _. (omega arith, fits.1)) (λ _ some room. room) (λ _ _. fits.1)
fits_next (Data left) decoded b fits other =
    let room : decoded ≤ 262_144 = omega arith in
    by_data (λ s. IsWithinLimits s decoded) left decoded b (λ _ _. room) (λ _. room) (λ some. let fewer : decoded + (left - 1) ≤ 262_144 = omega arith in fewer)
fits_next DataEnd decoded b fits other = by_if_feed (λ s. IsWithinLimits s decoded) b (Size 0 0) (λ _. (omega arith, omega arith, fits)) fits
fits_next (Trailers used) decoded b fits other = by_in_trailers (λ s. IsWithinLimits s decoded) used b LastEnd (λ _. fits.1) fits.1 (λ room _. (omega arith, fits.1))
fits_next (Trailer used) decoded b fits other = by_in_trailers (λ s. IsWithinLimits s decoded) used b (TrailerEnd (used + 1)) (λ _. (omega (arith, fits.0), fits.1)) fits.1 (λ room _. (omega arith, fits.1))
fits_next (TrailerEnd used) decoded b fits other = by_if_feed (λ s. IsWithinLimits s decoded) b (Trailers (used + 1)) (λ _. (fits.0, fits.1)) fits.1
fits_next LastEnd decoded b fits other = by_if_feed (λ s. IsWithinLimits s decoded) b Done (λ _. fits) fits
fits_next Done decoded b fits other = fits
fits_next Bad decoded b fits other = fits
fits_next TooLong decoded b fits other = fits

-- fewer bytes are left
pub fewer_left : (s : ChunkState) (decoded b : ℕ) → IsWithinLimits s decoded → is_settled s ≡ false → bytes_left (next_state s decoded b) (decoded_after s decoded) < bytes_left s decoded
fewer_left (Size digits value) decoded b fits going =
    let P : ChunkState → Type 0 = λ s. bytes_left s decoded < (262_145 - decoded) * 1000 + 20_000 - digits in
    let fewer : 0 < (262_145 - decoded) * 1000 + 20_000 - digits = omega (arith, fits.0) in
    by_in_digits P digits value b (λ few digit. omega arith) fewer (λ _.
    by_after_digits P value digits b (λ _. omega (arith, fits.0)) fewer (λ less _. omega arith) (λ less _. omega arith))
fewer_left (Blank value len) decoded b fits going =
    let P : ChunkState → Type 0 = λ s. bytes_left s decoded < (262_145 - decoded) * 1000 + 20_000 - len in
    by_after_digits P value len b (λ _. omega (arith, fits.1)) (omega (arith, fits.1)) (λ less _. omega arith) (λ less _. omega arith)
fewer_left (Extension value len) decoded b fits going =
    let P : ChunkState → Type 0 = λ s. bytes_left s decoded < (262_145 - decoded) * 1000 + 20_000 - len in
    by_in_extension P value len b (λ _. omega (arith, fits.1)) (omega (arith, fits.1)) (λ less _. omega arith)
fewer_left (SizeEnd value) decoded b fits going =
    let P : ChunkState → Type 0 = λ s. bytes_left s decoded < (262_145 - decoded) * 1000 + 19_700 in
    by_after_line P value decoded b (omega arith) (λ _ _. omega arith) (λ _ some room. omega arith) (λ _ _. omega arith)
fewer_left (Data left) decoded b fits going = left_in_data (left == 0) refl
  where
    left_in_data : (none : Bool) → (left == 0) ≡ none → bytes_left (next_state (Data left) decoded b) (if not none then decoded + 1 else decoded) < bytes_left (Data left) decoded
    left_in_data true none =
        let zero_left : left ≡ 0 = eqb-true left 0 none in
        let P : ChunkState → Type 0 = λ s. bytes_left s decoded < bytes_left (Data left) decoded in
        by_data P left decoded b (λ _ _. omega arith) (λ _. omega arith) (λ some. absurd (omega arith))
    left_in_data false some =
        let ne : left ≢ 0 = eqb-false left 0 some in
        let P : ChunkState → Type 0 = λ s. bytes_left s (decoded + 1) < bytes_left (Data left) decoded in
        by_data P left decoded b (λ none _. absurd (ne none)) (λ none. absurd (ne none)) (λ more. omega arith)
fewer_left DataEnd decoded b fits going = by_if_feed (λ s. bytes_left s decoded < bytes_left DataEnd decoded) b (Size 0 0) (λ _. omega arith) (omega arith)
fewer_left (Trailers used) decoded b fits going = by_in_trailers (λ s. bytes_left s decoded < 17_000 - used) used b LastEnd (λ _. omega (arith, fits.0)) (omega (arith, fits.0)) (λ room _. omega arith)
fewer_left (Trailer used) decoded b fits going = by_in_trailers (λ s. bytes_left s decoded < 17_000 - used) used b (TrailerEnd (used + 1)) (λ _. omega (arith, fits.0)) (omega (arith, fits.0)) (λ room _. omega arith)
fewer_left (TrailerEnd used) decoded b fits going = by_if_feed (λ s. bytes_left s decoded < 17_000 - used) b (Trailers (used + 1)) (λ _. omega (arith, fits.0)) (omega (arith, fits.0))
fewer_left LastEnd decoded b fits going = by_if_feed (λ s. bytes_left s decoded < 1) b Done (λ _. omega arith) (omega arith)
fewer_left Done decoded b fits going = absurd (let no : ⊥ = cc in no)
fewer_left Bad decoded b fits going = absurd (let no : ⊥ = cc in no)
fewer_left TooLong decoded b fits going = absurd (let no : ⊥ = cc in no)

-- one decoding after another
pub reads_on : (d mid new : Decoding) (first next : List ℕ) → DecodesBytes d first mid → DecodesBytes mid next new → DecodesBytes d (first ++ next) new
reads_on d mid new [] next same more = subst (λ (x : Decoding). DecodesBytes x next new) same more
reads_on d mid new (b ∷ first) next reads more = (reads.0, reads_on (next_decoding d b) mid new first next reads.1 more)

-- two decodings with equal parts
pub same_decoding : (s t : ChunkState) (x y : List ℕ) → s ≡ t → x ≡ y → decoding s x ≡ decoding t y
same_decoding s t x y stages bodies = cc

-- one byte of a chunk
pub next_data : (left : ℕ) (body : List ℕ) (b : ℕ) → 0 < left → next_decoding (decoding (Data left) body) b ≡ decoding (Data (left - 1)) (body ++ b ∷ [])
next_data left body b some =
    let ne : left ≢ 0 = omega arith in
    let test : (left == 0) ≡ false = ne_eqb left 0 ne in
    same_decoding (next_state (Data left) (length body) b) (Data (left - 1)) (if not (left == 0) then body ++ b ∷ [] else body) (body ++ b ∷ [])
    (ap (λ t. if t then state_after_data b else Data (left - 1)) test)
    (ap (λ t. if not t then body ++ b ∷ [] else body) test)

-- bytes of a chunk of which n are missing
pub reads_data : (left : ℕ) (body bytes : List ℕ) → length bytes ≤ left → DecodesBytes (decoding (Data left) body) bytes (decoding (Data (left - length bytes)) (body ++ bytes))
reads_data left body [] due = same_decoding (Data (left - 0)) (Data left) (body ++ []) body (ap Data (omega arith)) (append-nil body)
reads_data left body (b ∷ bytes) due =
    let fewer : length bytes ≤ left - 1 = omega arith in
    let some : 0 < left = omega arith in
    let last : decoding (Data (left - 1 - length bytes)) ((body ++ b ∷ []) ++ bytes) ≡ decoding (Data (left - length (b ∷ bytes))) (body ++ b ∷ bytes) =
    same_decoding (Data (left - 1 - length bytes)) (Data (left - length (b ∷ bytes))) ((body ++ b ∷ []) ++ bytes) (body ++ b ∷ bytes) (ap Data (omega arith)) (append_assoc body (b ∷ []) bytes) in (
      refl,
      subst (λ (d : Decoding). DecodesBytes d bytes (decoding (Data (left - length (b ∷ bytes))) (body ++ b ∷ bytes))) (sym (next_data left body b some))
          (subst (λ (d : Decoding). DecodesBytes (decoding (Data (left - 1)) (body ++ b ∷ [])) bytes d) last (reads_data (left - 1) (body ++ b ∷ []) bytes fewer)),
    )

-- what one byte adds to the body
pub body_after : (s : ChunkState) (body : List ℕ) (b : ℕ) → length (next_decoding (decoding s body) b).body ≡ decoded_after s (length body)
body_after s body b = by_is_data (expects_data s)
  where
    by_is_data : (t : Bool) → length (if t then body ++ b ∷ [] else body) ≡ (if t then length body + 1 else length body)
    by_is_data true = length-append body (b ∷ [])
    by_is_data false = refl

-- the numbers stay within the limits, for data bytes and others
pub fits_after : (s : ChunkState) (decoded b : ℕ) → IsWithinLimits s decoded → IsWithinLimits (next_state s decoded b) (decoded_after s decoded)
fits_after s decoded b fits = by_is_data (expects_data s) refl
  where
    of_data : (s : ChunkState) → expects_data s ≡ true → IsWithinLimits s decoded → IsWithinLimits (next_state s decoded b) (decoded + 1)
    of_data (Data left) is room =
        let ne : left ≢ 0 = eqb-false left 0 (not-true (left == 0) is) in
        by_data (λ s. IsWithinLimits s (decoded + 1)) left decoded b (λ none _. absurd (ne none)) (λ none. absurd (ne none)) (λ some. let next : decoded + 1 + (left - 1) ≤ 262_144 = omega arith in next)
    of_data (Size digits value) is room = absurd (let no : ⊥ = cc in no)
    of_data (Blank value len) is room = absurd (let no : ⊥ = cc in no)
    of_data (Extension value len) is room = absurd (let no : ⊥ = cc in no)
    of_data (SizeEnd value) is room = absurd (let no : ⊥ = cc in no)
    of_data DataEnd is room = absurd (let no : ⊥ = cc in no)
    of_data (Trailers used) is room = absurd (let no : ⊥ = cc in no)
    of_data (Trailer used) is room = absurd (let no : ⊥ = cc in no)
    of_data (TrailerEnd used) is room = absurd (let no : ⊥ = cc in no)
    of_data LastEnd is room = absurd (let no : ⊥ = cc in no)
    of_data Done is room = absurd (let no : ⊥ = cc in no)
    of_data Bad is room = absurd (let no : ⊥ = cc in no)
    of_data TooLong is room = absurd (let no : ⊥ = cc in no)

    by_is_data : (t : Bool) → expects_data s ≡ t → IsWithinLimits (next_state s decoded b) (if t then decoded + 1 else decoded)
    by_is_data true is = of_data s is fits
    by_is_data false is = fits_next s decoded b fits is

-- the numbers of a decoding are within the limits
abbrev pub IsInLimits : Decoding → Type 0
IsInLimits d = IsWithinLimits d.stage (length d.body)

pub next_in_limits : (d : Decoding) (b : ℕ) → IsInLimits d → IsInLimits (next_decoding d b)
next_in_limits d b fits = subst (λ (n : ℕ). IsWithinLimits (next_state d.stage (length d.body) b) n) (sym (body_after d.stage d.body b)) (fits_after d.stage (length d.body) b fits)

pub reads_in_limits : (d : Decoding) (bytes : List ℕ) (new : Decoding) → IsInLimits d → DecodesBytes d bytes new → IsInLimits new
reads_in_limits d [] new fits same = subst IsInLimits (sym same) fits
reads_in_limits d (b ∷ bytes) new fits reads = reads_in_limits (next_decoding d b) bytes new (next_in_limits d b fits) reads.1

-- how many bytes a decoding can go on for
abbrev pub left_of : Decoding → ℕ
left_of d = bytes_left d.stage (length d.body)

no_more_left : (d : Decoding) (bytes : List ℕ) (new : Decoding) → IsInLimits d → DecodesBytes d bytes new → left_of new ≤ left_of d
no_more_left d [] new fits same = subst (λ (x : Decoding). left_of x ≤ left_of d) (sym same) (let stays : left_of d ≤ left_of d = omega arith in stays)
no_more_left d (b ∷ bytes) new fits reads =
    let rest = no_more_left (next_decoding d b) bytes new (next_in_limits d b fits) reads.1 in
    let one : left_of (next_decoding d b) < left_of d = subst (λ (n : ℕ). bytes_left (next_state d.stage (length d.body) b) n < left_of d) (sym (body_after d.stage d.body b)) (fewer_left d.stage (length d.body) b fits reads.0) in
    le_from (left_of new) (left_of (next_decoding d b)) (left_of d) rest one
  where
    le_from : (x y z : ℕ) → x ≤ y → y < z → x ≤ z
    le_from x y z p q = omega arith

-- a decoding of at least one byte leaves fewer
pub fewer_after : (d : Decoding) (bytes : List ℕ) (new : Decoding) → IsInLimits d → 0 < length bytes → DecodesBytes d bytes new → left_of new < left_of d
fewer_after d [] new fits some same = absurd (omega arith)
fewer_after d (b ∷ bytes) new fits some reads =
    let rest = no_more_left (next_decoding d b) bytes new (next_in_limits d b fits) reads.1 in
    let one : left_of (next_decoding d b) < left_of d = subst (λ (n : ℕ). bytes_left (next_state d.stage (length d.body) b) n < left_of d) (sym (body_after d.stage d.body b)) (fewer_left d.stage (length d.body) b fits reads.0) in
    lt_from (left_of new) (left_of (next_decoding d b)) (left_of d) rest one
  where
    lt_from : (x y z : ℕ) → x ≤ y → y < z → x < z
    lt_from x y z p q = omega arith

-- bytes of a chunk that were appended to those in a buffer
pub data_taken : (d : Decoding) (left count held : ℕ) (raw buffer part behind items : List ℕ) → d.stage ≡ Data left → items ≡ take held buffer ++ (part ++ behind) → part ≡ take count raw → take held buffer ≡ d.body → held ≤ length buffer → count ≤ length raw → count ≤ left
    → DecodesBytes d (take count raw) (decoding (Data (left - count)) (take (held + count) items))
data_taken d left count held raw buffer part behind items due joined is body inside enough fits =
    let size : length part ≡ count = ap length is ∙ length-take-le count raw enough in
    let new : take (held + count) items ≡ d.body ++ part =
    ap (λ (l : List ℕ). take (held + count) l) joined
    ∙ put_behind buffer part behind held count inside (omega (arith, size))
    ∙ ap (λ (l : List ℕ). l ++ take count part) body
    ∙ ap (λ (l : List ℕ). d.body ++ l) (take_all count part (omega (arith, size))) in
    let old : decoding (Data left) d.body ≡ d = same_decoding (Data left) d.stage d.body d.body (sym due) refl in
    let last : decoding (Data (left - length part)) (d.body ++ part) ≡ decoding (Data (left - count)) (take (held + count) items) =
    same_decoding (Data (left - length part)) (Data (left - count)) (d.body ++ part) (take (held + count) items) (ap (λ (n : ℕ). Data (left - n)) size) (sym new) in
    let due_all : length part ≤ left = omega (arith, size) in
    subst (λ (l : List ℕ). DecodesBytes d l (decoding (Data (left - count)) (take (held + count) items))) is
    (subst (DecodesBytes d part) last (subst (λ (x : Decoding). DecodesBytes x part (decoding (Data (left - length part)) (d.body ++ part))) old (reads_data left d.body part due_all)))

-- a decoding of some bytes, and one of the next
pub reads_next : (d mid new : Decoding) (used more : ℕ) (raw : List ℕ) → used ≤ length raw → DecodesBytes d (take used raw) mid → DecodesBytes mid (take more (take (length raw - used) (drop used raw))) new → DecodesBytes d (take (used + more) raw) new
reads_next d mid new used more raw inside first next =
    let rest : take (length raw - used) (drop used raw) ≡ drop used raw = take_rest raw used in
    subst (λ (l : List ℕ). DecodesBytes d l new) (sym (take-add used more raw)) (reads_on d mid new (take used raw) (take more (drop used raw)) first (subst (λ (l : List ℕ). DecodesBytes mid (take more l) new) rest next))

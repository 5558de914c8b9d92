-- The bytes of a chunked body are read to its end, and bytes that pass the limit are read up to
-- there.
use Rattle.std.proofs.Common.{◌≡◌, ◌≢◌, ℕ, ◌+◌, ◌-◌, ◌*◌, ◌<◌, ◌≤◌, inl, inr, min, Bool, true, false, ◌==◌, ◌||◌, nat_lt, nat_le, List, [], ◌∷◌, ◌++◌, length, if◌then◌else◌, Option, None, Some, refl, sym, ap, subst, ◌∙◌, arith, length-append, append_assoc, zero-add}
use Rattle.std.proofs.lemmas.Bool.{and_parts, or_cases, or_parts, not-true, eqb-true, ne_eqb, lt-ltb, lt-leb, le-leb, cases_lt, both_ways}
use Rattle.std.proofs.lemmas.List.{append-nil}
use Rattle.std.specs.List.{list_all, AllByRecursion}
use Rattle.std.specs.Char.{digit_value, is_digit}
use Rattle.std.specs.Str.Parse.{digits_value_after}
use Rattle.std.specs.Prelude.{unwrap_or}
use Rattle.httparse.specs.Ascii.{line_feed, carriage_return, semicolon, crlf_bytes}
use Rattle.httparse.specs.Grammar.{ChunkLine, print_extension, chunk_size, is_ows, is_value_byte}
use Rattle.http_wire.specs.declared.chunk_decoder.ChunkState.{ChunkState}
use Rattle.http_wire.specs.declared.chunk_decoder.ChunkState.TheVariants.{Size, Blank, Extension, SizeEnd, Data, Trailers, Trailer, TrailerEnd, LastEnd, Done, Bad, TooLong}
use Rattle.http_wire.specs.ChunkedBodies.{chunk_line_text, print_chunk_line, IsChunkLine, Chunk, print_chunk, IsChunk, print_chunks, is_trailer_byte, IsTrailer, print_trailer, print_trailers, ChunkedBody, print_chunked_body, IsChunkedBody, chunk_data as joined}
use Rattle.http_wire.specs.inner.ChunkDecoder.{Decoding, decoding, initial_decoding, is_settled, expects_data, state_after_digits, state_after_line, state_in_trailers, next_state, next_decoding, DecodesBytes}
use Rattle.http_wire.proofs.Steps.{same_decoding, reads_on, reads_data}

-- one byte, from a state that is not settled
step : (d : Decoding) (b : ℕ) (bytes : List ℕ) (next new : Decoding) → is_settled d.stage ≡ false → next_decoding d b ≡ next → DecodesBytes next bytes new → DecodesBytes d (b ∷ bytes) new
step d b bytes next new going is reads = (going, subst (λ (x : Decoding). DecodesBytes x bytes new) (sym is) reads)

-- one byte that changes only the state
move : (s t : ChunkState) (body : List ℕ) (b : ℕ) (bytes : List ℕ) (new : Decoding) → is_settled s ≡ false → expects_data s ≡ false → next_state s (length body) b ≡ t → DecodesBytes (decoding t body) bytes new → DecodesBytes (decoding s body) (b ∷ bytes) new
move s t body b bytes new going other is reads =
    step (decoding s body) b bytes (decoding t body) new going
    (same_decoding (next_state s (length body) b) t (if expects_data s then body ++ b ∷ [] else body) body is (ap (λ x. if x then body ++ b ∷ [] else body) other))
    reads

-- a byte that passes a test which a carriage return fails is no carriage return
no_return : (p : ℕ → Bool) (b : ℕ) → p carriage_return ≡ false → p b ≡ true → (b == carriage_return) ≡ false
no_return p b fails is = ne_eqb b carriage_return (λ same. both_ways (p carriage_return) fails (subst (λ (c : ℕ). p c ≡ true) same is))

-- digits, after others
one_digit : (count w b : ℕ) (decoded : ℕ) → count < 16 → is_digit b 16 ≡ true → next_state (Size count (min w 262_145)) decoded b ≡ Size (count + 1) (min (w * 16 + digit_value b) 262_145)
one_digit count w b decoded few is =
    let v : ℕ = min w 262_145 in
    ap (λ t. if t then (if nat_lt count 16 then Size (count + 1) (min (v * 16 + digit_value b) 262_145) else Bad) else (if count == 0 then Bad else state_after_digits v count b)) is
    ∙ ap (λ t. if t then Size (count + 1) (min (v * 16 + digit_value b) 262_145) else Bad) (lt-ltb count 16 few)
    ∙ ap (Size (count + 1)) (kept w (digit_value b))
  where
    kept : (w d : ℕ) → min (min w 262_145 * 16 + d) 262_145 ≡ min (w * 16 + d) 262_145
    kept w d = omega arith

reads_digits : (count w : ℕ) (body ds : List ℕ) → count + length ds ≤ 16 → list_all (λ b. is_digit b 16) ds ≡ true → DecodesBytes (decoding (Size count (min w 262_145)) body) ds (decoding (Size (count + length ds) (min (digits_value_after 16 w ds) 262_145)) body)
reads_digits count w body [] few are =
    let same : count + 0 ≡ count = omega arith in
    ap (λ (n : ℕ). decoding (Size n (min w 262_145)) body) same
reads_digits count w body (d ∷ ds) few are =
    let parts = and_parts (is_digit d 16) (list_all (λ b. is_digit b 16) ds) are in
    let rest = reads_digits (count + 1) (w * 16 + digit_value d) body ds (omega arith) parts.1 in
    let counted : count + 1 + length ds ≡ count + length (d ∷ ds) = omega arith in
    move (Size count (min w 262_145)) (Size (count + 1) (min (w * 16 + digit_value d) 262_145)) body d ds (decoding (Size (count + length (d ∷ ds)) (min (digits_value_after 16 w (d ∷ ds)) 262_145)) body) refl refl
    (one_digit count w d (length body) (omega arith) parts.0)
    (subst (λ (n : ℕ). DecodesBytes (decoding (Size (count + 1) (min (w * 16 + digit_value d) 262_145)) body) ds (decoding (Size n (min (digits_value_after 16 w (d ∷ ds)) 262_145)) body)) counted rest)

-- the line end of a chunk line, after an extension
reads_extension : (value len : ℕ) (body text : List ℕ) → len + length text ≤ 254 → list_all is_value_byte text ≡ true → DecodesBytes (decoding (Extension value len) body) (text ++ crlf_bytes) (decoding (state_after_line value (length body) line_feed) body)
reads_extension value len body [] short are = (refl, (refl, refl))
reads_extension value len body (b ∷ text) short are =
    let parts = and_parts (is_value_byte b) (list_all is_value_byte text) are in
    let inner : ChunkState = if is_value_byte b then Extension value (len + 1) else Bad in
    move (Extension value len) (Extension value (len + 1)) body b (text ++ crlf_bytes) (decoding (state_after_line value (length body) line_feed) body) refl refl
    (ap (λ t. if t then SizeEnd value else (if nat_le 254 len then Bad else inner)) (no_return is_value_byte b refl parts.0)
    ∙ ap (λ t. if t then Bad else inner) (lt-leb 254 len (omega arith))
    ∙ ap (λ t. if t then Extension value (len + 1) else Bad) parts.0)
    (reads_extension value (len + 1) body text (omega arith) parts.1)

-- a byte that continues after the digits is read alike after digits and after blanks
abbrev LikeBlank : ChunkState → ℕ → ℕ → ℕ → Type 0
LikeBlank s value len decoded = (b : ℕ) → is_digit b 16 ≡ false → next_state s decoded b ≡ state_after_digits value len b

size_like_blank : (count value decoded : ℕ) → 0 < count → LikeBlank (Size count value) value count decoded
size_like_blank count value decoded some b other =
    let ne : count ≢ 0 = omega arith in
    ap (λ t. if t then (if nat_lt count 16 then Size (count + 1) (min (value * 16 + digit_value b) 262_145) else Bad) else (if count == 0 then Bad else state_after_digits value count b)) other
    ∙ ap (λ t. if t then Bad else state_after_digits value count b) (ne_eqb count 0 ne)

blank_no_digit : (b : ℕ) → is_ows b ≡ true → is_digit b 16 ≡ false
blank_no_digit b is = elim (or_cases (b == 32) (b == 9) is) [
  | inl space ↦ ap (λ (c : ℕ). is_digit c 16) (eqb-true b 32 space)
  | inr tab ↦ ap (λ (c : ℕ). is_digit c 16) (eqb-true b 9 tab)
]

-- the rest of a chunk line after its digits
reads_tail : (s : ChunkState) (value len : ℕ) (body pad : List ℕ) (extension : Option (List ℕ)) → is_settled s ≡ false → expects_data s ≡ false → LikeBlank s value len (length body) → len + length (pad ++ print_extension extension) ≤ 254 → list_all is_ows pad ≡ true → list_all is_value_byte (unwrap_or extension []) ≡ true
    → DecodesBytes (decoding s body) ((pad ++ print_extension extension) ++ crlf_bytes) (decoding (state_after_line value (length body) line_feed) body)
reads_tail s value len body [] None going other like short pads texts =
    move s (SizeEnd value) body carriage_return (line_feed ∷ []) (decoding (state_after_line value (length body) line_feed) body) going other (like carriage_return refl) (refl, refl)
reads_tail s value len body [] (Some text) going other like short pads texts =
    let marked : next_state s (length body) semicolon ≡ Extension value (len + 1) =
    like semicolon refl ∙ ap (λ t. if t then Bad else Extension value (len + 1)) (lt-leb 254 len (omega arith)) in
    move s (Extension value (len + 1)) body semicolon (text ++ crlf_bytes) (decoding (state_after_line value (length body) line_feed) body) going other marked (reads_extension value (len + 1) body text (omega arith) texts)
reads_tail s value len body (b ∷ pad) extension going other like short pads texts =
    let parts = and_parts (is_ows b) (list_all is_ows pad) pads in
    let last : ChunkState = if b == semicolon then Extension value (len + 1) else Bad in
    let inner : ChunkState = if is_ows b then Blank value (len + 1) else last in
    let blank : next_state s (length body) b ≡ Blank value (len + 1) =
    like b (blank_no_digit b parts.0)
    ∙ ap (λ t. if t then SizeEnd value else (if nat_le 254 len then Bad else inner)) (no_return is_ows b refl parts.0)
    ∙ ap (λ t. if t then Bad else inner) (lt-leb 254 len (omega arith))
    ∙ ap (λ t. if t then Blank value (len + 1) else last) parts.0 in
    move s (Blank value (len + 1)) body b ((pad ++ print_extension extension) ++ crlf_bytes) (decoding (state_after_line value (length body) line_feed) body) going other blank
    (reads_tail (Blank value (len + 1)) value (len + 1) body pad extension refl refl (λ c _. refl) (omega arith) parts.1 texts)

-- a complete chunk line
pub reads_line : (line : ChunkLine) (body : List ℕ) → IsChunkLine line → DecodesBytes (decoding (Size 0 0) body) (print_chunk_line line) (decoding (state_after_line (min (chunk_size line) 262_145) (length body) line_feed) body)
reads_line line body is =
    let rest : List ℕ = line.pad ++ print_extension line.extension in
    let value : ℕ = min (chunk_size line) 262_145 in
    let n : ℕ = length line.digits in
    let digits : DecodesBytes (decoding (Size 0 0) body) line.digits (decoding (Size n value) body) =
    subst (λ (k : ℕ). DecodesBytes (decoding (Size 0 0) body) line.digits (decoding (Size k value) body)) (zero-add n) (reads_digits 0 0 body line.digits (omega (arith, is.few)) is.digits) in
    let short : n + length rest ≤ 254 = omega (arith, is.short, length-append (chunk_line_text line) crlf_bytes, length-append line.digits rest) in
    subst (λ (l : List ℕ). DecodesBytes (decoding (Size 0 0) body) l (decoding (state_after_line value (length body) line_feed) body)) (sym (append_assoc line.digits rest crlf_bytes))
    (reads_on (decoding (Size 0 0) body) (decoding (Size n value) body) (decoding (state_after_line value (length body) line_feed) body) line.digits (rest ++ crlf_bytes) digits
    (reads_tail (Size n value) value n body line.pad line.extension refl refl (size_like_blank n value (length body) is.some) short is.pad is.extension))

-- what a chunk line leads to
to_trailers : (n decoded : ℕ) → n ≡ 0 → state_after_line (min n 262_145) decoded line_feed ≡ Trailers 0
to_trailers n decoded none = ap (λ (k : ℕ). state_after_line (min k 262_145) decoded line_feed) none

to_data : (n decoded : ℕ) → 0 < n → decoded + n ≤ 262_144 → state_after_line (min n 262_145) decoded line_feed ≡ Data n
to_data n decoded some fits =
    let kept : min n 262_145 ≡ n = omega arith in
    let ne : n ≢ 0 = omega arith in
    ap (λ (k : ℕ). state_after_line k decoded line_feed) kept
    ∙ ap (λ t. if t then Trailers 0 else (if nat_le (decoded + n) 262_144 then Data n else TooLong)) (ne_eqb n 0 ne)
    ∙ ap (λ t. if t then Data n else TooLong) (le-leb (decoded + n) 262_144 fits)

to_limit : (n decoded : ℕ) → decoded ≤ 262_144 → 262_144 < decoded + n → state_after_line (min n 262_145) decoded line_feed ≡ TooLong
to_limit n decoded room over =
    let k : ℕ = min n 262_145 in
    let ne : k ≢ 0 = omega arith in
    let beyond : 262_144 < decoded + k = omega arith in
    ap (λ t. if t then Trailers 0 else (if nat_le (decoded + k) 262_144 then Data k else TooLong)) (ne_eqb k 0 ne)
    ∙ ap (λ t. if t then Data k else TooLong) (lt-leb (decoded + k) 262_144 beyond)

-- a chunk that fits
reads_chunk : (c : Chunk) (body : List ℕ) → IsChunk c → length body + length c.bytes ≤ 262_144 → DecodesBytes (decoding (Size 0 0) body) (print_chunk c) (decoding (Size 0 0) (body ++ c.bytes))
reads_chunk c body is fits =
    let n : ℕ = length c.bytes in
    let to : state_after_line (min (chunk_size c.line) 262_145) (length body) line_feed ≡ Data n = ap (λ (k : ℕ). state_after_line (min k 262_145) (length body) line_feed) is.sized ∙ to_data n (length body) is.some fits in
    let line : DecodesBytes (decoding (Size 0 0) body) (print_chunk_line c.line) (decoding (Data n) body) = subst (λ (s : ChunkState). DecodesBytes (decoding (Size 0 0) body) (print_chunk_line c.line) (decoding s body)) to (reads_line c.line body is.line) in
    let all : n - n ≡ 0 = omega arith in
    let bytes : DecodesBytes (decoding (Data n) body) c.bytes (decoding (Data 0) (body ++ c.bytes)) = subst (λ (k : ℕ). DecodesBytes (decoding (Data n) body) c.bytes (decoding (Data k) (body ++ c.bytes))) all (reads_data n body c.bytes (omega arith)) in
    reads_on (decoding (Size 0 0) body) (decoding (Data n) body) (decoding (Size 0 0) (body ++ c.bytes)) (print_chunk_line c.line) (c.bytes ++ crlf_bytes) line
    (reads_on (decoding (Data n) body) (decoding (Data 0) (body ++ c.bytes)) (decoding (Size 0 0) (body ++ c.bytes)) c.bytes crlf_bytes bytes (refl, (refl, refl)))

reads_chunks : (chunks : List Chunk) (body : List ℕ) → AllByRecursion IsChunk chunks → length body + length (joined chunks) ≤ 262_144 → DecodesBytes (decoding (Size 0 0) body) (print_chunks chunks) (decoding (Size 0 0) (body ++ joined chunks))
reads_chunks [] body are fits = ap (decoding (Size 0 0)) (append-nil body)
reads_chunks (c ∷ chunks) body are fits =
    let long = length-append c.bytes (joined chunks) in
    let rest = reads_chunks chunks (body ++ c.bytes) are.1 (omega (arith, long, length-append body c.bytes)) in
    reads_on (decoding (Size 0 0) body) (decoding (Size 0 0) (body ++ c.bytes)) (decoding (Size 0 0) (body ++ joined (c ∷ chunks))) (print_chunk c) (print_chunks chunks)
    (reads_chunk c body are.0 (omega (arith, long)))
    (subst (λ (l : List ℕ). DecodesBytes (decoding (Size 0 0) (body ++ c.bytes)) (print_chunks chunks) (decoding (Size 0 0) l)) (append_assoc body c.bytes (joined chunks)) rest)

-- a trailer line within the limit
trailer_moves : (used b : ℕ) (end : ChunkState) → is_trailer_byte b ≡ true → used + 3 ≤ 16_384 → state_in_trailers used b end ≡ Trailer (used + 1)
trailer_moves used b end is room =
    let tests = or_parts (b == carriage_return) (b == line_feed) (not-true (b == carriage_return || b == line_feed) is) in
    let longer : ChunkState = if nat_le (used + 3) 16_384 then Trailer (used + 1) else Bad in
    ap (λ t. if t then end else (if b == line_feed then Bad else longer)) tests.0
    ∙ ap (λ t. if t then Bad else longer) tests.1
    ∙ ap (λ t. if t then Trailer (used + 1) else Bad) (le-leb (used + 3) 16_384 room)

reads_trailer : (used : ℕ) (body text : List ℕ) → list_all is_trailer_byte text ≡ true → used + length text + 2 ≤ 16_384 → DecodesBytes (decoding (Trailer used) body) (text ++ crlf_bytes) (decoding (Trailers (used + length text + 2)) body)
reads_trailer used body [] are room =
    let counted : used + 1 + 1 ≡ used + 0 + 2 = omega arith in
    (refl, (refl, ap (λ (n : ℕ). decoding (Trailers n) body) (sym counted)))
reads_trailer used body (b ∷ text) are room =
    let parts = and_parts (is_trailer_byte b) (list_all is_trailer_byte text) are in
    let counted : used + 1 + length text + 2 ≡ used + length (b ∷ text) + 2 = omega arith in
    let new : Decoding = decoding (Trailers (used + length (b ∷ text) + 2)) body in
    move (Trailer used) (Trailer (used + 1)) body b (text ++ crlf_bytes) new refl refl (trailer_moves used b (TrailerEnd (used + 1)) parts.0 (omega arith))
    (subst (λ (n : ℕ). DecodesBytes (decoding (Trailer (used + 1)) body) (text ++ crlf_bytes) (decoding (Trailers n) body)) counted (reads_trailer (used + 1) body text parts.1 (omega arith)))

reads_whole_trailer : (used : ℕ) (body text : List ℕ) → IsTrailer text → used + length text + 2 ≤ 16_384 → DecodesBytes (decoding (Trailers used) body) (text ++ crlf_bytes) (decoding (Trailers (used + length text + 2)) body)
reads_whole_trailer used body [] is room = absurd (omega (arith, is.some))
reads_whole_trailer used body (b ∷ text) is room =
    let parts = and_parts (is_trailer_byte b) (list_all is_trailer_byte text) is.bytes in
    let counted : used + 1 + length text + 2 ≡ used + length (b ∷ text) + 2 = omega arith in
    let new : Decoding = decoding (Trailers (used + length (b ∷ text) + 2)) body in
    move (Trailers used) (Trailer (used + 1)) body b (text ++ crlf_bytes) new refl refl (trailer_moves used b LastEnd parts.0 (omega arith))
    (subst (λ (n : ℕ). DecodesBytes (decoding (Trailer (used + 1)) body) (text ++ crlf_bytes) (decoding (Trailers n) body)) counted (reads_trailer (used + 1) body text parts.1 (omega arith)))

reads_trailers : (used : ℕ) (body : List ℕ) (trailers : List (List ℕ)) → AllByRecursion IsTrailer trailers → used + length (print_trailers trailers) ≤ 16_384 → DecodesBytes (decoding (Trailers used) body) (print_trailers trailers) (decoding (Trailers (used + length (print_trailers trailers))) body)
reads_trailers used body [] are room =
    let same : used ≡ used + 0 = omega arith in
    ap (λ (n : ℕ). decoding (Trailers n) body) (sym same)
reads_trailers used body (text ∷ trailers) are room =
    let long = length-append (print_trailer text) (print_trailers trailers) in
    let short = length-append text crlf_bytes in
    let used' : ℕ = used + length text + 2 in
    let counted : used' + length (print_trailers trailers) ≡ used + length (print_trailers (text ∷ trailers)) = omega (arith, long, short) in
    reads_on (decoding (Trailers used) body) (decoding (Trailers used') body) (decoding (Trailers (used + length (print_trailers (text ∷ trailers)))) body) (print_trailer text) (print_trailers trailers)
    (reads_whole_trailer used body text are.0 (omega (arith, long, short)))
    (subst (λ (n : ℕ). DecodesBytes (decoding (Trailers used') body) (print_trailers trailers) (decoding (Trailers n) body)) counted (reads_trailers used' body trailers are.1 (omega (arith, long, short))))

-- a complete body within the limit is read to its end
pub reads_body : (c : ChunkedBody) → IsChunkedBody c → length (joined c.chunks) ≤ 262_144 → DecodesBytes initial_decoding (print_chunked_body c) (decoding Done (joined c.chunks))
reads_body c is short =
    let body : List ℕ = joined c.chunks in
    let used : ℕ = length (print_trailers c.trailers) in
    let last : DecodesBytes (decoding (Size 0 0) body) (print_chunk_line c.last) (decoding (Trailers 0) body) =
    subst (λ (s : ChunkState). DecodesBytes (decoding (Size 0 0) body) (print_chunk_line c.last) (decoding s body)) (to_trailers (chunk_size c.last) (length body) is.ends) (reads_line c.last body is.last) in
    let trailers : DecodesBytes (decoding (Trailers 0) body) (print_trailers c.trailers) (decoding (Trailers used) body) =
    subst (λ (n : ℕ). DecodesBytes (decoding (Trailers 0) body) (print_trailers c.trailers) (decoding (Trailers n) body)) (zero-add used) (reads_trailers 0 body c.trailers is.trailers (omega (arith, is.short))) in
    reads_on initial_decoding (decoding (Size 0 0) body) (decoding Done body) (print_chunks c.chunks) (print_chunk_line c.last ++ (print_trailers c.trailers ++ crlf_bytes)) (reads_chunks c.chunks [] is.chunks (omega arith))
    (reads_on (decoding (Size 0 0) body) (decoding (Trailers 0) body) (decoding Done body) (print_chunk_line c.last) (print_trailers c.trailers ++ crlf_bytes) last
    (reads_on (decoding (Trailers 0) body) (decoding (Trailers used) body) (decoding Done body) (print_trailers c.trailers) crlf_bytes trailers (refl, (refl, refl))))

-- chunks and one more line that pass the limit are read up to there
pub reads_to_limit : (chunks : List Chunk) (line : ChunkLine) (body : List ℕ) → AllByRecursion IsChunk chunks → IsChunkLine line → length body ≤ 262_144 → 262_144 < length body + length (joined chunks) + chunk_size line
    → (front : List ℕ) × (back : List ℕ) × (last : List ℕ) × (print_chunks chunks ++ print_chunk_line line ≡ front ++ back) × DecodesBytes (decoding (Size 0 0) body) front (decoding TooLong last)
reads_to_limit [] line body are is room over = (
  print_chunk_line line,
  [],
  body,
  sym (append-nil (print_chunk_line line)),
  subst (λ (s : ChunkState). DecodesBytes (decoding (Size 0 0) body) (print_chunk_line line) (decoding s body)) (to_limit (chunk_size line) (length body) room (omega arith)) (reads_line line body is),
)
reads_to_limit (c ∷ chunks) line body are is room over = elim (cases_lt 262_144 (length body + length c.bytes)) [
  | inl beyond ↦ (
      let back : List ℕ = (c.bytes ++ crlf_bytes) ++ (print_chunks chunks ++ print_chunk_line line) in
      let there : state_after_line (min (chunk_size c.line) 262_145) (length body) line_feed ≡ TooLong = to_limit (chunk_size c.line) (length body) room (omega (arith, are.0.sized)) in (
        print_chunk_line c.line,
        back,
        body,
        append_assoc (print_chunk c) (print_chunks chunks) (print_chunk_line line) ∙ append_assoc (print_chunk_line c.line) (c.bytes ++ crlf_bytes) (print_chunks chunks ++ print_chunk_line line),
        subst (λ (s : ChunkState). DecodesBytes (decoding (Size 0 0) body) (print_chunk_line c.line) (decoding s body)) there (reads_line c.line body are.0.line),
      )
      )
  | inr fits ↦ (
      let long = length-append c.bytes (joined chunks) in
      let longer = length-append body c.bytes in
      let rest = reads_to_limit chunks line (body ++ c.bytes) are.1 is (omega (arith, longer)) (omega (arith, long, longer)) in (
        print_chunk c ++ rest.0,
        rest.1,
        rest.2,
        append_assoc (print_chunk c) (print_chunks chunks) (print_chunk_line line) ∙ ap (λ (l : List ℕ). print_chunk c ++ l) rest.3 ∙ sym (append_assoc (print_chunk c) rest.0 rest.1),
        reads_on (decoding (Size 0 0) body) (decoding (Size 0 0) (body ++ c.bytes)) (decoding TooLong rest.2) (print_chunk c) rest.0 (reads_chunk c body are.0 fits) rest.4,
      )
      )
]

-- Where a decoding ends is determined by the bytes.

-- of two decodings of bytes that begin alike, one that is settled goes no further
pub settles_once : (d : Decoding) (front other rest more : List ℕ) (x y : Decoding) → DecodesBytes d front x → DecodesBytes d other y → front ++ rest ≡ other ++ more → is_settled x.stage ≡ true → is_settled y.stage ≡ true → (x ≡ y) × (front ≡ other) × (rest ≡ more)
settles_once d [] [] rest more x y p q same u v = (p ∙ sym q, refl, same)
settles_once d [] (c ∷ other) rest more x y p q same u v = absurd (both_ways (is_settled d.stage) q.0 (subst (λ (z : Decoding). is_settled z.stage ≡ true) p u))
settles_once d (b ∷ front) [] rest more x y p q same u v = absurd (both_ways (is_settled d.stage) p.0 (subst (λ (z : Decoding). is_settled z.stage ≡ true) q v))
settles_once d (b ∷ front) (c ∷ other) rest more x y p q same u v =
    let heads : b ≡ c = cc in
    let tails : front ++ rest ≡ other ++ more = cc in
    let next = settles_once (next_decoding d b) front other rest more x y p.1 (subst (λ (k : ℕ). DecodesBytes (next_decoding d k) other y) (sym heads) q.1) tails u v in
    (next.0, (let e : front ≡ other = next.1 in cc), next.2)

-- a decoding that isn't settled read no bytes on which another one is settled
pub not_settled_before : (d : Decoding) (front rest bytes : List ℕ) (x y : Decoding) → DecodesBytes d front x → DecodesBytes d bytes y → bytes ≡ front ++ rest → is_settled x.stage ≡ true → is_settled y.stage ≡ false → ⊥
not_settled_before d [] rest [] x y p q same u v = both_ways (is_settled d.stage) (subst (λ (z : Decoding). is_settled z.stage ≡ false) q v) (subst (λ (z : Decoding). is_settled z.stage ≡ true) p u)
not_settled_before d [] rest (c ∷ bytes) x y p q same u v = both_ways (is_settled d.stage) q.0 (subst (λ (z : Decoding). is_settled z.stage ≡ true) p u)
not_settled_before d (b ∷ front) rest [] x y p q same u v = let no : ⊥ = cc in no
not_settled_before d (b ∷ front) rest (c ∷ bytes) x y p q same u v =
    let heads : c ≡ b = cc in
    let tails : bytes ≡ front ++ rest = cc in
    not_settled_before (next_decoding d b) front rest bytes x y p.1 (subst (λ (k : ℕ). DecodesBytes (next_decoding d k) bytes y) heads q.1) tails u v

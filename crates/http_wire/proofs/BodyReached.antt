-- Each state of the decoder was reached by bytes of the stated form, and from each unsettled one
-- some bytes end the body.
use Rattle.std.proofs.Common.{◌≡◌, ◌≢◌, ℕ, ◌+◌, ◌≤◌, Bool, true, false, not, ◌==◌, List, [], ◌∷◌, ◌++◌, length, replicate, if◌then◌else◌, IsTrue, Option, None, Some, refl, sym, ap, subst, ◌∙◌, arith, length-append, append_assoc, inl, inr}
use Rattle.std.proofs.lemmas.Bool.{and_from, eqb-true, eqb-false, cases_eq}
use Rattle.std.proofs.lemmas.List.{append-nil, length-replicate, nil_from_length}
use Rattle.std.proofs.lemmas.List.Concat.{flat_map-append}
use Rattle.std.specs.List.{list_all, AllByRecursion}
use Rattle.httparse.specs.Ascii.{line_feed, carriage_return, crlf_bytes}
use Rattle.httparse.specs.Grammar.{ChunkLine, chunk_size}
use Rattle.http_wire.specs.declared.chunk_decoder.ChunkState.{ChunkState}
use Rattle.http_wire.specs.declared.chunk_decoder.ChunkState.TheVariants.{Size, Blank, Extension, SizeEnd, Data, DataEnd, Trailers, Trailer, TrailerEnd, LastEnd, Done, Bad, TooLong}
use Rattle.http_wire.specs.ChunkedBodies.{chunk_line_text, print_chunk_line, IsChunkLine, Chunk, print_chunk, IsChunk, print_chunks, is_trailer_byte, IsTrailer, print_trailer, print_trailers, ChunkedBody, print_chunked_body, IsChunkedBody, MayBecomeChunkedBody}
use Rattle.http_wire.specs.inner.ChunkDecoder.{Decoding, initial_decoding, is_settled, expects_data, state_after_digits, next_state, next_decoding, DecodesBytes, IsWithinLimits}
use Rattle.http_wire.proofs.Steps.{by_after_digits, by_in_digits, by_in_extension, by_after_line, by_in_trailers, by_if_feed, by_data, IsInLimits, next_in_limits}
use Rattle.http_wire.proofs.BodyForms.{InDigits, InLine, InData, AtDataEnd, InTrailers, IsWhole, Stands, more_digits, digits_line, more_blanks, more_extension, mark, line_end, to_trailers, to_data, to_limit, more_data, to_data_end, to_next_chunk, trailers_more, print_trailers-push, trailer_done, to_last_end, list_all-push, all-push}

-- the body after one more byte
abbrev body_next : ChunkState → List ℕ → ℕ → List ℕ
body_next s body b = if expects_data s then body ++ b ∷ [] else body

digits_stand : (value len b : ℕ) (body raw : List ℕ) → InLine None value len [] body raw → Stands (state_after_digits value len b) body (raw ++ b ∷ [])
digits_stand value len b body raw at =
    by_after_digits (λ s. Stands s body (raw ++ b ∷ [])) value len b
    (λ end. (None, len, subst (λ (c : ℕ). InLine None value len (carriage_return ∷ []) body (raw ++ c ∷ [])) (sym end) (line_end None value len body raw at)))
    tt
    (λ short is. more_blanks value len b body raw at short is)
    (λ short is. ([], subst (λ (c : ℕ). InLine (Some []) value (len + 1) [] body (raw ++ c ∷ [])) (sym is) (mark value len body raw at short)))

data_stands : (left b : ℕ) (body raw : List ℕ) → InData left body raw → (none : Bool) → (left == 0) ≡ none → Stands (next_state (Data left) (length body) b) (if not none then body ++ b ∷ [] else body) (raw ++ b ∷ [])
data_stands left b body raw at true is =
    let none : left ≡ 0 = eqb-true left 0 is in
    by_data (λ s. Stands s body (raw ++ b ∷ [])) left (length body) b
    (λ _ end. subst (λ (c : ℕ). AtDataEnd body (raw ++ c ∷ [])) (sym end) (to_data_end left body raw at none))
    (λ _. tt)
    (λ some. absurd (omega arith))
data_stands left b body raw at false is =
    let ne : left ≢ 0 = eqb-false left 0 is in
    by_data (λ s. Stands s (body ++ b ∷ []) (raw ++ b ∷ [])) left (length body) b (λ none _. absurd (ne none)) (λ none. absurd (ne none)) (λ some. more_data left b body raw at some)

pub stands_next : (s : ChunkState) (body raw : List ℕ) (b : ℕ) → IsWithinLimits s (length body) → is_settled s ≡ false → Stands s body raw → Stands (next_state s (length body) b) (body_next s body b) (raw ++ b ∷ [])
stands_next (Size count value) body raw b fits going at =
    by_in_digits (λ s. Stands s body (raw ++ b ∷ [])) count value b
    (λ few is. more_digits count value b body raw at few is)
    tt
    (λ some. digits_stand value count b body raw (digits_line count value body raw at some))
stands_next (Blank value len) body raw b fits going at = digits_stand value len b body raw at
stands_next (Extension value len) body raw b fits going at =
    by_in_extension (λ s. Stands s body (raw ++ b ∷ [])) value len b
    (λ end. (Some at.0, len, subst (λ (c : ℕ). InLine (Some at.0) value len (carriage_return ∷ []) body (raw ++ c ∷ [])) (sym end) (line_end (Some at.0) value len body raw at.1)))
    tt
    (λ short is. (at.0 ++ b ∷ [], more_extension value len b at.0 body raw at.1 short is))
stands_next (SizeEnd value) body raw b fits going at =
    by_after_line (λ s. Stands s body (raw ++ b ∷ [])) value (length body) b
    tt
    (λ feed none. ([], subst (λ (c : ℕ). InTrailers [] [] body (raw ++ c ∷ [])) (sym feed) (to_trailers at.0 value at.1 body raw at.2 none), refl, omega arith))
    (λ feed some room. subst (λ (c : ℕ). InData value body (raw ++ c ∷ [])) (sym feed) (to_data at.0 value at.1 body raw at.2 some (omega arith)))
    (λ feed over. subst (λ (c : ℕ). Stands TooLong body (raw ++ c ∷ [])) (sym feed) (to_limit at.0 value at.1 body raw at.2 over))
stands_next (Data left) body raw b fits going at = data_stands left b body raw at (left == 0) refl
stands_next DataEnd body raw b fits going at = by_if_feed (λ s. Stands s body (raw ++ b ∷ [])) b (Size 0 0) (λ feed. subst (λ (c : ℕ). InDigits 0 0 body (raw ++ c ∷ [])) (sym feed) (to_next_chunk body raw at)) tt
stands_next (Trailers used) body raw b fits going at =
    by_in_trailers (λ s. Stands s body (raw ++ b ∷ [])) used b LastEnd
    (λ end. subst (λ (c : ℕ). IsWhole body ((raw ++ c ∷ []) ++ line_feed ∷ [])) (sym end) (to_last_end at.0 body raw at.1 (omega (arith, at.2, at.3))))
    tt
    (λ room is. (at.0, b ∷ [], trailers_more at.0 [] body raw b at.1, record { some = omega arith; bytes = trailer_alone b is }, ap (λ (n : ℕ). n + 1) at.2, omega arith))
  where
    trailer_alone : (b : ℕ) → is_trailer_byte b ≡ true → IsTrue (list_all is_trailer_byte (b ∷ []))
    trailer_alone b is = and_from (is_trailer_byte b) true is refl
stands_next (Trailer used) body raw b fits going at =
    by_in_trailers (λ s. Stands s body (raw ++ b ∷ [])) used b (TrailerEnd (used + 1))
    (λ end. (at.0, at.1, subst (λ (c : ℕ). InTrailers at.0 (at.1 ++ carriage_return ∷ []) body (raw ++ c ∷ [])) (sym end) (trailers_more at.0 at.1 body raw carriage_return at.2), at.3, ap (λ (n : ℕ). n + 1) at.4, omega (arith, at.5)))
    tt
    (λ room is. (at.0, at.1 ++ b ∷ [], trailers_more at.0 at.1 body raw b at.2, record { some = omega (arith, length-append at.1 (b ∷ [])); bytes = list_all-push is_trailer_byte at.1 b at.3.bytes is }, omega (arith, at.4, length-append at.1 (b ∷ [])), omega arith))
stands_next (TrailerEnd used) body raw b fits going at =
    by_if_feed (λ s. Stands s body (raw ++ b ∷ [])) b (Trailers (used + 1))
    (λ feed. (at.0 ++ at.1 ∷ [], subst (λ (c : ℕ). InTrailers (at.0 ++ at.1 ∷ []) [] body (raw ++ c ∷ [])) (sym feed) (trailer_done at.0 at.1 body raw at.2 at.3), omega (arith, at.4, ap length (print_trailers-push at.0 at.1), length-append (print_trailers at.0) (print_trailer at.1), length-append at.1 crlf_bytes), at.5))
    tt
stands_next LastEnd body raw b fits going at = by_if_feed (λ s. Stands s body (raw ++ b ∷ [])) b Done (λ feed. subst (λ (c : ℕ). IsWhole body (raw ++ c ∷ [])) (sym feed) at) tt
stands_next Done body raw b fits going at = absurd (let no : ⊥ = cc in no)
stands_next Bad body raw b fits going at = absurd (let no : ⊥ = cc in no)
stands_next TooLong body raw b fits going at = absurd (let no : ⊥ = cc in no)

reads_stand : (d : Decoding) (raw bytes : List ℕ) (new : Decoding) → IsInLimits d → Stands d.stage d.body raw → DecodesBytes d bytes new → Stands new.stage new.body (raw ++ bytes)
reads_stand d raw [] new fits at same = subst (λ (l : List ℕ). Stands new.stage new.body l) (sym (append-nil raw)) (subst (λ (x : Decoding). Stands x.stage x.body raw) (sym same) at)
reads_stand d raw (b ∷ bytes) new fits at reads =
    subst (λ (l : List ℕ). Stands new.stage new.body l) (append_assoc raw (b ∷ []) bytes)
    (reads_stand (next_decoding d b) (raw ++ b ∷ []) bytes new (next_in_limits d b fits) (stands_next d.stage d.body raw b fits reads.0 at) reads.1)

pub start_in_limits : IsInLimits initial_decoding
start_in_limits = (omega arith, omega arith, omega arith)

-- what was read from the start
pub reached : (bytes : List ℕ) (d : Decoding) → DecodesBytes initial_decoding bytes d → Stands d.stage d.body bytes
reached bytes d reads =
    reads_stand initial_decoding [] bytes d start_in_limits (record {
      digits = [];
      behind = record { chunks = []; are = tt; gives = refl; reads = refl };
      many = refl;
      few = omega arith;
      are = refl;
      value_is = refl;
    }) reads

-- The line `0`, which can end any chunks.
zero_line : ChunkLine
zero_line = record { digits = 48 ∷ []; pad = []; extension = None }

is_zero_line : IsChunkLine zero_line × (chunk_size zero_line ≡ 0)
unfolding zero_line
is_zero_line = (record { some = omega arith; few = omega arith; digits = refl; pad = refl; extension = refl; short = omega arith }, refl)

-- bytes that continue to a complete body
pub becomes_body : (raw more : List ℕ) (c : ChunkedBody) → IsChunkedBody c → raw ++ more ≡ print_chunked_body c → MayBecomeChunkedBody raw
becomes_body raw more c is same = (more, c, (is, same ∙ sym (append-nil (print_chunked_body c))))

-- bytes that continue to complete chunks
becomes_chunks : (raw more : List ℕ) (chunks : List Chunk) → AllByRecursion IsChunk chunks → raw ++ more ≡ print_chunks chunks → MayBecomeChunkedBody raw
becomes_chunks raw more chunks are same =
    let c : ChunkedBody = record { chunks = chunks; last = zero_line; trailers = [] } in
    becomes_body raw (more ++ (print_chunk_line zero_line ++ crlf_bytes)) c
    (record { chunks = are; last = is_zero_line.0; ends = is_zero_line.1; trailers = tt; short = omega arith })
    (sym (append_assoc raw more (print_chunk_line zero_line ++ crlf_bytes)) ∙ ap (λ (l : List ℕ). l ++ (print_chunk_line zero_line ++ crlf_bytes)) same)

-- one more chunk
print_chunks-push : (chunks : List Chunk) (c : Chunk) → print_chunks (chunks ++ c ∷ []) ≡ print_chunks chunks ++ print_chunk c
print_chunks-push chunks c = flat_map-append print_chunk chunks (c ∷ []) ∙ ap (λ (l : List ℕ). print_chunks chunks ++ l) (append-nil (print_chunk c))

-- bytes that continue to complete chunks and one more chunk line
pub becomes_line : (raw more : List ℕ) (chunks : List Chunk) (line : ChunkLine) → AllByRecursion IsChunk chunks → IsChunkLine line → raw ++ more ≡ print_chunks chunks ++ print_chunk_line line → MayBecomeChunkedBody raw
becomes_line raw more chunks line are is same = elim (cases_eq (chunk_size line) 0) [
  | inl none ↦ (
      let c : ChunkedBody = record { chunks = chunks; last = line; trailers = [] } in
      becomes_body raw (more ++ crlf_bytes) c
      (record { chunks = are; last = is; ends = none; trailers = tt; short = omega arith })
      (sym (append_assoc raw more crlf_bytes) ∙ ap (λ (l : List ℕ). l ++ crlf_bytes) same ∙ append_assoc (print_chunks chunks) (print_chunk_line line) crlf_bytes)
      )
  | inr some ↦ (
      let bytes : List ℕ = replicate (chunk_size line) 0 in
      let c : Chunk = record { line = line; bytes = bytes } in
      becomes_chunks raw (more ++ (bytes ++ crlf_bytes)) (chunks ++ c ∷ [])
      (all-push IsChunk chunks c are (record { line = is; sized = sym (length-replicate {A = ℕ} (chunk_size line) 0); some = omega (arith, length-replicate {A = ℕ} (chunk_size line) 0) }))
      (sym (append_assoc raw more (bytes ++ crlf_bytes)) ∙ ap (λ (l : List ℕ). l ++ (bytes ++ crlf_bytes)) same ∙ append_assoc (print_chunks chunks) (print_chunk_line line) (bytes ++ crlf_bytes) ∙ sym (print_chunks-push chunks c))
      )
]

line_becomes : (extension : Option (List ℕ)) (value len : ℕ) (tail more body raw : List ℕ) → InLine extension value len tail body raw → tail ++ more ≡ crlf_bytes → MayBecomeChunkedBody raw
line_becomes extension value len tail more body raw at ends =
    becomes_line raw more at.behind.chunks at.line at.behind.are at.is
    (ap (λ (l : List ℕ). l ++ more) at.behind.reads ∙ (simp append_assoc) ∙ ap (λ (l : List ℕ). print_chunks at.behind.chunks ++ (chunk_line_text at.line ++ l)) ends)

trailers_become : (trailers all : List (List ℕ)) (tail more body raw : List ℕ) → InTrailers trailers tail body raw → AllByRecursion IsTrailer all → length (print_trailers all) ≤ 16_384 → print_trailers trailers ++ (tail ++ more) ≡ print_trailers all ++ crlf_bytes → MayBecomeChunkedBody raw
trailers_become trailers all tail more body raw at are short ends =
    becomes_body raw more (record { chunks = at.chunks; last = at.last; trailers = all })
    (record { chunks = at.are; last = at.is; ends = at.ends; trailers = are; short = short })
    (ap (λ (l : List ℕ). l ++ more) at.reads ∙ (simp append_assoc) ∙ ap (λ (l : List ℕ). print_chunks at.chunks ++ (print_chunk_line at.last ++ l)) ends)

-- where it isn't settled, some bytes end the body
pub may_become : (s : ChunkState) (body raw : List ℕ) → is_settled s ≡ false → Stands s body raw → MayBecomeChunkedBody raw
may_become (Size count value) body raw going at = elim (cases_eq count 0) [
  | inl none ↦ (
      let empty : at.digits ≡ [] = nil_from_length at.digits (at.many ∙ none) in
      becomes_chunks raw [] at.behind.chunks at.behind.are (append-nil raw ∙ at.behind.reads ∙ ap (λ (l : List ℕ). print_chunks at.behind.chunks ++ l) empty ∙ append-nil (print_chunks at.behind.chunks))
      )
  | inr some ↦ line_becomes None value count [] crlf_bytes body raw (digits_line count value body raw at (omega arith)) refl
]
may_become (Blank value len) body raw going at = line_becomes None value len [] crlf_bytes body raw at refl
may_become (Extension value len) body raw going at = line_becomes (Some at.0) value len [] crlf_bytes body raw at.1 refl
may_become (SizeEnd value) body raw going at = line_becomes at.0 value at.1 (carriage_return ∷ []) (line_feed ∷ []) body raw at.2 refl
may_become (Data left) body raw going at =
    let due : List ℕ = replicate left 0 in
    let c : Chunk = record { line = at.line; bytes = at.got ++ due } in
    let size : length (at.got ++ due) ≡ length at.got + left = length-append at.got due ∙ ap (λ (n : ℕ). length at.got + n) (length-replicate {A = ℕ} left 0) in
    becomes_chunks raw (due ++ crlf_bytes) (at.chunks ++ c ∷ [])
    (all-push IsChunk at.chunks c at.are (record { line = at.is; sized = at.sized ∙ sym size; some = omega (arith, size, at.sized, at.some) }))
    (ap (λ (l : List ℕ). l ++ (due ++ crlf_bytes)) at.reads ∙ (simp append_assoc) ∙ ap (λ (l : List ℕ). print_chunks at.chunks ++ (print_chunk_line at.line ++ l)) (sym (append_assoc at.got due crlf_bytes)) ∙ sym (print_chunks-push at.chunks c))
may_become DataEnd body raw going at = becomes_chunks raw (line_feed ∷ []) (at.chunks ++ at.chunk ∷ []) (all-push IsChunk at.chunks at.chunk at.are at.is) (at.reads ∙ sym (print_chunks-push at.chunks at.chunk))
may_become (Trailers used) body raw going at = trailers_become at.0 at.0 [] crlf_bytes body raw at.1 at.1.trailers_are (omega (arith, at.2, at.3)) refl
may_become (Trailer used) body raw going at =
    let all : List (List ℕ) = at.0 ++ at.1 ∷ [] in
    let printed = print_trailers-push at.0 at.1 in
    trailers_become at.0 all at.1 (crlf_bytes ++ crlf_bytes) body raw at.2 (all-push IsTrailer at.0 at.1 at.2.trailers_are at.3)
    (omega (arith, at.4, at.5, ap length printed, length-append (print_trailers at.0) (print_trailer at.1), length-append at.1 crlf_bytes))
    (sym (ap (λ (l : List ℕ). l ++ crlf_bytes) printed ∙ simp append_assoc))
may_become (TrailerEnd used) body raw going at =
    let all : List (List ℕ) = at.0 ++ at.1 ∷ [] in
    let printed = print_trailers-push at.0 at.1 in
    trailers_become at.0 all (at.1 ++ carriage_return ∷ []) (line_feed ∷ crlf_bytes) body raw at.2 (all-push IsTrailer at.0 at.1 at.2.trailers_are at.3)
    (omega (arith, at.4, at.5, ap length printed, length-append (print_trailers at.0) (print_trailer at.1), length-append at.1 crlf_bytes))
    (ap (λ (l : List ℕ). print_trailers at.0 ++ l) (append_assoc at.1 (carriage_return ∷ []) (line_feed ∷ crlf_bytes)) ∙ sym (ap (λ (l : List ℕ). l ++ crlf_bytes) printed ∙ simp append_assoc))
may_become LastEnd body raw going at = becomes_body raw (line_feed ∷ []) at.whole at.is at.reads
may_become Done body raw going at = absurd (let no : ⊥ = cc in no)
may_become Bad body raw going at = absurd (let no : ⊥ = cc in no)
may_become TooLong body raw going at = absurd (let no : ⊥ = cc in no)

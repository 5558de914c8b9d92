-- What decoding the bytes after a head says about them.
use Rattle.std.proofs.Common.{◌≡◌, ℕ, ◌<◌, ◌≤◌, ◌⊎◌, inl, inr, true, false, List, [], ◌++◌, length, refl, sym, ap, subst, ◌∙◌, arith, append_assoc}
use Rattle.std.proofs.lemmas.Bool.{cases_lt}
use Rattle.httparse.specs.Ascii.{crlf_bytes}
use Rattle.http_wire.specs.declared.chunk_decoder.ChunkState.{ChunkState}
use Rattle.http_wire.specs.declared.chunk_decoder.ChunkState.TheVariants.{Size, Blank, Extension, SizeEnd, Data, DataEnd, Trailers, Trailer, TrailerEnd, LastEnd, Done, Bad, TooLong}
use Rattle.http_wire.specs.ChunkedBodies.{print_chunk_line, print_chunks, print_trailers, ChunkedBody, print_chunked_body, ReadsChunkedBody, MayBecomeChunkedBody, ExceedsBodyLimit, chunk_data as joined}
use Rattle.http_wire.specs.inner.ChunkDecoder.{Decoding, decoding, initial_decoding, is_settled, DecodesBytes, IsWithinLimits}
use Rattle.http_wire.specs.inner.ReadBuffer.{BeginsWithBody, HasNoBodyYet}
use Rattle.http_wire.proofs.Steps.{reads_in_limits}
use Rattle.http_wire.proofs.BodyForms.{Stands}
use Rattle.http_wire.proofs.BodyReached.{start_in_limits, reached, may_become}
use Rattle.http_wire.proofs.BodyRuns.{reads_body, reads_to_limit, settles_once, not_settled_before}

-- a front of the bytes is read up to that state
pub record Settles (stage : ChunkState) (bytes : List ℕ) : Type 0 where
  pub front : List ℕ
  pub back : List ℕ
  pub last : List ℕ
  pub split : bytes ≡ front ++ back
  pub reads : DecodesBytes initial_decoding front (decoding stage last)

pub limit_settles : (bytes : List ℕ) → ExceedsBodyLimit bytes → Settles TooLong bytes
limit_settles bytes passes =
    let to = reads_to_limit passes.chunks passes.line [] passes.are_chunks passes.is_line (omega arith) (omega (arith, passes.over)) in
    record {
      front = to.0;
      back = to.1 ++ passes.rest;
      last = to.2;
      split = passes.reads ∙ sym (append_assoc (print_chunks passes.chunks) (print_chunk_line passes.line) passes.rest) ∙ ap (λ (l : List ℕ). l ++ passes.rest) to.3 ∙ append_assoc to.0 to.1 passes.rest;
      reads = to.4;
    }

-- a body beyond the limit passes it
pub long_passes : (bytes : List ℕ) (c : ChunkedBody) (rest : List ℕ) → ReadsChunkedBody bytes c rest → 262_144 < length (joined c.chunks) → ExceedsBodyLimit bytes
long_passes bytes c rest reads long = record {
  chunks = c.chunks;
  line = c.last;
  rest = (print_trailers c.trailers ++ crlf_bytes) ++ rest;
  are_chunks = reads.0.chunks;
  is_line = reads.0.last;
  reads = reads.1 ∙ append_assoc (print_chunks c.chunks) (print_chunk_line c.last ++ (print_trailers c.trailers ++ crlf_bytes)) rest ∙ ap (λ (l : List ℕ). print_chunks c.chunks ++ l) (append_assoc (print_chunk_line c.last) (print_trailers c.trailers ++ crlf_bytes) rest);
  over = omega arith;
}

pub short_settles : (bytes : List ℕ) (c : ChunkedBody) (rest : List ℕ) → ReadsChunkedBody bytes c rest → length (joined c.chunks) ≤ 262_144 → Settles Done bytes
short_settles bytes c rest reads short = record {
  front = print_chunked_body c;
  back = rest;
  last = joined c.chunks;
  split = reads.1;
  reads = reads_body c reads.0 short;
}

pub body_settles : (bytes : List ℕ) (c : ChunkedBody) (rest : List ℕ) → ReadsChunkedBody bytes c rest → Settles Done bytes ⊎ Settles TooLong bytes
body_settles bytes c rest reads = elim (cases_lt 262_144 (length (joined c.chunks))) [
  | inl long ↦ inr (limit_settles bytes (long_passes bytes c rest reads long))
  | inr short ↦ inl (short_settles bytes c rest reads short)
]

-- while the state isn't settled there is no body, and the limit isn't passed
pub no_body_yet : (raw : List ℕ) (d : Decoding) → DecodesBytes initial_decoding raw d → is_settled d.stage ≡ false → HasNoBodyYet raw
no_body_yet raw d reads going =
    let not_done = λ (s : Settles Done raw). not_settled_before initial_decoding s.front s.back raw (decoding Done s.last) d s.reads reads s.split refl going in
    let not_long = λ (s : Settles TooLong raw). not_settled_before initial_decoding s.front s.back raw (decoding TooLong s.last) d s.reads reads s.split refl going in (
      λ c rest body. elim (body_settles raw c rest body) [ inl s ↦ not_done s | inr s ↦ not_long s ],
      λ passes. not_long (limit_settles raw passes),
    )

-- a decoding that settles elsewhere never meets one
stage_once : (s : ChunkState) (raw more : List ℕ) (d : Decoding) → DecodesBytes initial_decoding raw d → is_settled d.stage ≡ true → is_settled s ≡ true → Settles s (raw ++ more) → d.stage ≡ s
stage_once s raw more d reads settled ends at =
    let same = settles_once initial_decoding raw at.front more at.back d (decoding s at.last) reads at.reads at.split settled ends in
    ap (λ (x : Decoding). x.stage) same.0

-- where no chunked body continues like this, none ever comes
pub no_body_ever : (raw more : List ℕ) (d : Decoding) → DecodesBytes initial_decoding raw d → d.stage ≡ Bad → HasNoBodyYet (raw ++ more)
no_body_ever raw more d reads bad =
    let settled : is_settled d.stage ≡ true = ap is_settled bad in
    let not_done = λ (s : Settles Done (raw ++ more)). bad_not_done (sym bad ∙ stage_once Done raw more d reads settled refl s) in
    let not_long = λ (s : Settles TooLong (raw ++ more)). bad_not_long (sym bad ∙ stage_once TooLong raw more d reads settled refl s) in (
      λ c rest body. elim (body_settles (raw ++ more) c rest body) [ inl s ↦ not_done s | inr s ↦ not_long s ],
      λ passes. not_long (limit_settles (raw ++ more) passes),
    )
  where
    bad_not_done : Bad ≡ Done → ⊥
    bad_not_done same = cc

    bad_not_long : Bad ≡ TooLong → ⊥
    bad_not_long same = cc

-- a decoding that is done read a complete body
pub whole_body : (raw rest : List ℕ) (d : Decoding) → DecodesBytes initial_decoding raw d → d.stage ≡ Done → BeginsWithBody (raw ++ rest) d.body rest
whole_body raw rest d reads done =
    let at : Stands Done d.body raw = subst (λ (s : ChunkState). Stands s d.body raw) done (reached raw d reads) in
    let fits : IsWithinLimits Done (length d.body) = subst (λ (s : ChunkState). IsWithinLimits s (length d.body)) done (reads_in_limits initial_decoding raw d start_in_limits reads) in
    record {
      whole = at.whole;
      reads = (at.is, ap (λ (l : List ℕ). l ++ rest) at.reads);
      gives = at.gives;
      short = fits;
    }

pub passes_limit : (raw rest : List ℕ) (d : Decoding) → DecodesBytes initial_decoding raw d → d.stage ≡ TooLong → ExceedsBodyLimit (raw ++ rest)
passes_limit raw rest d reads long =
    let at : ExceedsBodyLimit raw = subst (λ (s : ChunkState). Stands s d.body raw) long (reached raw d reads) in
    record {
      chunks = at.chunks;
      line = at.line;
      rest = at.rest ++ rest;
      are_chunks = at.are_chunks;
      is_line = at.is_line;
      reads = ap (λ (l : List ℕ). l ++ rest) at.reads ∙ append_assoc (print_chunks at.chunks) (print_chunk_line at.line ++ at.rest) rest ∙ ap (λ (l : List ℕ). print_chunks at.chunks ++ l) (append_assoc (print_chunk_line at.line) at.rest rest);
      over = at.over;
    }

pub goes_on : (raw : List ℕ) (d : Decoding) → DecodesBytes initial_decoding raw d → is_settled d.stage ≡ false → MayBecomeChunkedBody raw × HasNoBodyYet raw
goes_on raw d reads going = (may_become d.stage d.body raw going (reached raw d reads), no_body_yet raw d reads going)

-- a settled state is one of three
pub other_is_bad : (s : ChunkState) → is_settled s ≡ true → ¬ (s ≡ Done) → ¬ (s ≡ TooLong) → s ≡ Bad
other_is_bad (Size digits value) settled a b = absurd (let no : ⊥ = cc in no)
other_is_bad (Blank value len) settled a b = absurd (let no : ⊥ = cc in no)
other_is_bad (Extension value len) settled a b = absurd (let no : ⊥ = cc in no)
other_is_bad (SizeEnd value) settled a b = absurd (let no : ⊥ = cc in no)
other_is_bad (Data left) settled a b = absurd (let no : ⊥ = cc in no)
other_is_bad DataEnd settled a b = absurd (let no : ⊥ = cc in no)
other_is_bad (Trailers used) settled a b = absurd (let no : ⊥ = cc in no)
other_is_bad (Trailer used) settled a b = absurd (let no : ⊥ = cc in no)
other_is_bad (TrailerEnd used) settled a b = absurd (let no : ⊥ = cc in no)
other_is_bad LastEnd settled a b = absurd (let no : ⊥ = cc in no)
other_is_bad Done settled a b = absurd (a refl)
other_is_bad Bad settled a b = refl
other_is_bad TooLong settled a b = absurd (b refl)

-- What bytes that were read mean, at each state of the chunked decoder.
use Rattle.std.proofs.Common.{◌≡◌, ℕ, ◌+◌, ◌-◌, ◌*◌, ◌<◌, ◌≤◌, min, Bool, true, List, [], ◌∷◌, ◌++◌, length, IsTrue, Option, None, Some, refl, sym, ap, subst, ◌∙◌, arith, length-append, append_assoc}
use Rattle.std.proofs.lemmas.Bool.{and_from, and_parts}
use Rattle.std.proofs.lemmas.List.{append-nil}
use Rattle.std.proofs.lemmas.List.Concat.{flat_map-append}
use Rattle.std.specs.Bool.{⊤}
use Rattle.std.specs.List.{list_all, AllByRecursion}
use Rattle.std.specs.Char.{digit_value, is_digit}
use Rattle.std.specs.Str.Parse.{digits_value, digits_value_after}
use Rattle.std.specs.Prelude.{unwrap_or}
use Rattle.httparse.specs.Ascii.{line_feed, carriage_return, semicolon, crlf_bytes}
use Rattle.httparse.specs.Grammar.{ChunkLine, print_extension, chunk_size, is_ows, is_value_byte}
use Rattle.http_wire.specs.declared.chunk_decoder.ChunkState.{ChunkState}
use Rattle.http_wire.specs.declared.chunk_decoder.ChunkState.TheVariants.{Size, Blank, Extension, SizeEnd, Data, DataEnd, Trailers, Trailer, TrailerEnd, LastEnd, Done, Bad, TooLong}
use Rattle.http_wire.specs.ChunkedBodies.{chunk_line_text, print_chunk_line, IsChunkLine, Chunk, print_chunk, IsChunk, print_chunks, IsTrailer, print_trailer, print_trailers, ChunkedBody, print_chunked_body, IsChunkedBody, ExceedsBodyLimit, chunk_data as joined}

-- the bytes are complete chunks, which give the body, and then the tail
pub record Behind (body raw tail : List ℕ) : Type 0 where
  pub chunks : List Chunk
  pub are : AllByRecursion IsChunk chunks
  pub gives : joined chunks ≡ body
  pub reads : raw ≡ print_chunks chunks ++ tail

-- a number that is recorded as the limit plus 1 where it is beyond it
abbrev pub capped : ℕ → ℕ
capped n = min n 262_145

-- only digits
pub record InDigits (count value : ℕ) (body raw : List ℕ) : Type 0 where
  pub digits : List ℕ
  pub behind : Behind body raw digits
  pub many : length digits ≡ count
  pub few : count ≤ 16
  pub are : IsTrue (list_all (λ b. is_digit b 16) digits)
  pub value_is : value ≡ capped (digits_value 16 digits)

-- a chunk line up to its line end, or to some place after its digits
pub record InLine (extension : Option (List ℕ)) (value len : ℕ) (tail body raw : List ℕ) : Type 0 where
  pub line : ChunkLine
  pub behind : Behind body raw (chunk_line_text line ++ tail)
  pub is : IsChunkLine line
  pub extended : line.extension ≡ extension
  pub many : len ≡ length (chunk_line_text line)
  pub value_is : value ≡ capped (chunk_size line)

-- a chunk of which n bytes are missing
pub record InData (left : ℕ) (body raw : List ℕ) : Type 0 where
  pub chunks : List Chunk
  pub line : ChunkLine
  pub got : List ℕ
  pub are : AllByRecursion IsChunk chunks
  pub is : IsChunkLine line
  pub gives : joined chunks ++ got ≡ body
  pub sized : chunk_size line ≡ length got + left
  pub some : 0 < chunk_size line
  pub reads : raw ≡ print_chunks chunks ++ (print_chunk_line line ++ got)

-- a complete chunk except its line feed
pub record AtDataEnd (body raw : List ℕ) : Type 0 where
  pub chunks : List Chunk
  pub chunk : Chunk
  pub are : AllByRecursion IsChunk chunks
  pub is : IsChunk chunk
  pub gives : joined chunks ++ chunk.bytes ≡ body
  pub reads : raw ++ line_feed ∷ [] ≡ print_chunks chunks ++ print_chunk chunk

-- the last chunk line, trailer lines, and then the tail
pub record InTrailers (trailers : List (List ℕ)) (tail body raw : List ℕ) : Type 0 where
  pub chunks : List Chunk
  pub last : ChunkLine
  pub are : AllByRecursion IsChunk chunks
  pub is : IsChunkLine last
  pub ends : chunk_size last ≡ 0
  pub trailers_are : AllByRecursion IsTrailer trailers
  pub gives : joined chunks ≡ body
  pub reads : raw ≡ print_chunks chunks ++ (print_chunk_line last ++ (print_trailers trailers ++ tail))

-- a complete body, or one except its line feed
pub record IsWhole (body raw : List ℕ) : Type 0 where
  pub whole : ChunkedBody
  pub is : IsChunkedBody whole
  pub gives : joined whole.chunks ≡ body
  pub reads : raw ≡ print_chunked_body whole

abbrev pub Stands : ChunkState → List ℕ → List ℕ → Type 0
Stands (Size count value) body raw = InDigits count value body raw
Stands (Blank value len) body raw = InLine None value len [] body raw
Stands (Extension value len) body raw = (text : List ℕ) × InLine (Some text) value len [] body raw
Stands (SizeEnd value) body raw = (extension : Option (List ℕ)) × (len : ℕ) × InLine extension value len (carriage_return ∷ []) body raw
Stands (Data left) body raw = InData left body raw
Stands DataEnd body raw = AtDataEnd body raw
Stands (Trailers used) body raw = (trailers : List (List ℕ)) × InTrailers trailers [] body raw × (used ≡ length (print_trailers trailers)) × (used ≤ 16_384)
Stands (Trailer used) body raw = (trailers : List (List ℕ)) × (text : List ℕ) × InTrailers trailers text body raw × IsTrailer text × (used ≡ length (print_trailers trailers) + length text) × (used + 2 ≤ 16_384)
Stands (TrailerEnd used) body raw = (trailers : List (List ℕ)) × (text : List ℕ) × InTrailers trailers (text ++ carriage_return ∷ []) body raw × IsTrailer text × (used ≡ length (print_trailers trailers) + length text + 1) × (used + 1 ≤ 16_384)
Stands LastEnd body raw = IsWhole body (raw ++ line_feed ∷ [])
Stands Done body raw = IsWhole body raw
Stands Bad body raw = ⊤
Stands TooLong body raw = ExceedsBodyLimit raw

-- one byte more at the end of the tail
behind_more : (body raw tail : List ℕ) (b : ℕ) → Behind body raw tail → Behind body (raw ++ b ∷ []) (tail ++ b ∷ [])
behind_more body raw tail b at = record {
  chunks = at.chunks;
  are = at.are;
  gives = at.gives;
  reads = ap (λ (l : List ℕ). l ++ b ∷ []) at.reads ∙ append_assoc (print_chunks at.chunks) tail (b ∷ []);
}

pub list_all-push : (p : ℕ → Bool) (xs : List ℕ) (b : ℕ) → list_all p xs ≡ true → p b ≡ true → list_all p (xs ++ b ∷ []) ≡ true
list_all-push p [] b all is = and_from (p b) true is refl
list_all-push p (x ∷ xs) b all is =
    let parts = and_parts (p x) (list_all p xs) all in
    and_from (p x) (list_all p (xs ++ b ∷ [])) parts.0 (list_all-push p xs b parts.1 is)

digits_value-push : (n : ℕ) (xs : List ℕ) (b : ℕ) → digits_value_after 16 n (xs ++ b ∷ []) ≡ digits_value_after 16 n xs * 16 + digit_value b
digits_value-push n [] b = refl
digits_value-push n (x ∷ xs) b = digits_value-push (n * 16 + digit_value x) xs b

-- one digit more
pub more_digits : (count value b : ℕ) (body raw : List ℕ) → InDigits count value body raw → count < 16 → is_digit b 16 ≡ true → InDigits (count + 1) (min (value * 16 + digit_value b) 262_145) body (raw ++ b ∷ [])
more_digits count value b body raw at few is = record {
  digits = at.digits ++ b ∷ [];
  behind = behind_more body raw at.digits b at.behind;
  many = length-append at.digits (b ∷ []) ∙ ap (λ (n : ℕ). n + 1) at.many;
  few = omega arith;
  are = list_all-push (λ d. is_digit d 16) at.digits b at.are is;
  value_is = omega (arith, at.value_is, digits_value-push 0 at.digits b);
}

pub all-push : {A : Type 0} (P : A → Type 0) (xs : List A) (y : A) → AllByRecursion P xs → P y → AllByRecursion P (xs ++ y ∷ [])
all-push P [] y all is = (is, tt)
all-push P (x ∷ xs) y all is = (all.0, all-push P xs y all.1 is)

-- digits are a chunk line so far
pub digits_line : (count value : ℕ) (body raw : List ℕ) → InDigits count value body raw → 0 < count → InLine None value count [] body raw
digits_line count value body raw at some =
    let line : ChunkLine = record { digits = at.digits; pad = []; extension = None } in
    let text : at.digits ≡ chunk_line_text line ++ [] = sym (append-nil (chunk_line_text line) ∙ append-nil at.digits) in
    let long : length (chunk_line_text line) ≡ count = ap length (append-nil at.digits) ∙ at.many in
    record {
      line = line;
      behind = subst (Behind body raw) text at.behind;
      is = record {
        some = omega (arith, at.many);
        few = omega (arith, at.many, at.few);
        digits = at.are;
        pad = refl;
        extension = refl;
        short = omega (arith, length-append (chunk_line_text line) crlf_bytes, long, at.few);
      };
      extended = refl;
      many = sym long;
      value_is = at.value_is;
    }

-- one more blank
blank_text : (l : ChunkLine) (b : ℕ) → l.extension ≡ None → (chunk_line_text l ++ []) ++ b ∷ [] ≡ chunk_line_text (record { digits = l.digits; pad = l.pad ++ b ∷ []; extension = None }) ++ []
blank_text l b none =
    let no_text : print_extension l.extension ≡ [] = ap print_extension none in
    ap (λ (t : List ℕ). ((l.digits ++ (l.pad ++ t)) ++ []) ++ b ∷ []) no_text ∙ simp (append-nil, append_assoc)

pub more_blanks : (value len b : ℕ) (body raw : List ℕ) → InLine None value len [] body raw → len < 254 → is_ows b ≡ true → InLine None value (len + 1) [] body (raw ++ b ∷ [])
more_blanks value len b body raw at short is =
    let l = at.line in
    let line : ChunkLine = record { digits = l.digits; pad = l.pad ++ b ∷ []; extension = None } in
    let text = blank_text l b at.extended in
    let long : length (chunk_line_text line) ≡ len + 1 = omega (arith, ap length text, length-append (chunk_line_text l ++ []) (b ∷ []), length-append (chunk_line_text l) [], length-append (chunk_line_text line) [], at.many) in
    record {
      line = line;
      behind = subst (Behind body (raw ++ b ∷ [])) text (behind_more body raw (chunk_line_text l ++ []) b at.behind);
      is = record {
        some = at.is.some;
        few = at.is.few;
        digits = at.is.digits;
        pad = list_all-push is_ows l.pad b at.is.pad is;
        extension = refl;
        short = omega (arith, length-append (chunk_line_text line) crlf_bytes, long);
      };
      extended = refl;
      many = sym long;
      value_is = at.value_is;
    }

-- the mark of an extension, or one more byte of it
extension_texts : (l : ChunkLine) (b : ℕ) (text : List ℕ) → l.extension ≡ Some text → (chunk_line_text l ++ []) ++ b ∷ [] ≡ chunk_line_text (record { digits = l.digits; pad = l.pad; extension = Some (text ++ b ∷ []) }) ++ []
extension_texts l b text some =
    let texts : print_extension l.extension ≡ semicolon ∷ text = ap print_extension some in
    ap (λ (t : List ℕ). ((l.digits ++ (l.pad ++ t)) ++ []) ++ b ∷ []) texts ∙ simp (append-nil, append_assoc)

pub more_extension : (value len b : ℕ) (text body raw : List ℕ) → InLine (Some text) value len [] body raw → len < 254 → is_value_byte b ≡ true → InLine (Some (text ++ b ∷ [])) value (len + 1) [] body (raw ++ b ∷ [])
more_extension value len b text body raw at short is =
    let l = at.line in
    let line : ChunkLine = record { digits = l.digits; pad = l.pad; extension = Some (text ++ b ∷ []) } in
    let texts = extension_texts l b text at.extended in
    let long : length (chunk_line_text line) ≡ len + 1 = omega (arith, ap length texts, length-append (chunk_line_text l ++ []) (b ∷ []), length-append (chunk_line_text l) [], length-append (chunk_line_text line) [], at.many) in
    record {
      line = line;
      behind = subst (Behind body (raw ++ b ∷ [])) texts (behind_more body raw (chunk_line_text l ++ []) b at.behind);
      is = record {
        some = at.is.some;
        few = at.is.few;
        digits = at.is.digits;
        pad = at.is.pad;
        extension = list_all-push is_value_byte text b (subst (λ (e : Option (List ℕ)). IsTrue (list_all is_value_byte (unwrap_or e []))) at.extended at.is.extension) is;
        short = omega (arith, length-append (chunk_line_text line) crlf_bytes, long);
      };
      extended = refl;
      many = sym long;
      value_is = at.value_is;
    }

mark_text : (l : ChunkLine) → l.extension ≡ None → (chunk_line_text l ++ []) ++ semicolon ∷ [] ≡ chunk_line_text (record { digits = l.digits; pad = l.pad; extension = Some [] }) ++ []
mark_text l none =
    let no_text : print_extension l.extension ≡ [] = ap print_extension none in
    ap (λ (t : List ℕ). ((l.digits ++ (l.pad ++ t)) ++ []) ++ semicolon ∷ []) no_text ∙ simp (append-nil, append_assoc)

pub mark : (value len : ℕ) (body raw : List ℕ) → InLine None value len [] body raw → len < 254 → InLine (Some []) value (len + 1) [] body (raw ++ semicolon ∷ [])
mark value len body raw at short =
    let l = at.line in
    let line : ChunkLine = record { digits = l.digits; pad = l.pad; extension = Some [] } in
    let text = mark_text l at.extended in
    let long : length (chunk_line_text line) ≡ len + 1 = omega (arith, ap length text, length-append (chunk_line_text l ++ []) (semicolon ∷ []), length-append (chunk_line_text l) [], length-append (chunk_line_text line) [], at.many) in
    record {
      line = line;
      behind = subst (Behind body (raw ++ semicolon ∷ [])) text (behind_more body raw (chunk_line_text l ++ []) semicolon at.behind);
      is = record {
        some = at.is.some;
        few = at.is.few;
        digits = at.is.digits;
        pad = at.is.pad;
        extension = refl;
        short = omega (arith, length-append (chunk_line_text line) crlf_bytes, long);
      };
      extended = refl;
      many = sym long;
      value_is = at.value_is;
    }

pub line_end : (extension : Option (List ℕ)) (value len : ℕ) (body raw : List ℕ) → InLine extension value len [] body raw → InLine extension value len (carriage_return ∷ []) body (raw ++ carriage_return ∷ [])
line_end extension value len body raw at = record {
  line = at.line;
  behind = subst (Behind body (raw ++ carriage_return ∷ [])) (ap (λ (t : List ℕ). t ++ carriage_return ∷ []) (append-nil (chunk_line_text at.line))) (behind_more body raw (chunk_line_text at.line ++ []) carriage_return at.behind);
  is = at.is;
  extended = at.extended;
  many = at.many;
  value_is = at.value_is;
}

-- the line feed of a chunk line
fed_line : (chunks : List Chunk) (line : ChunkLine) (raw rest : List ℕ) → raw ≡ print_chunks chunks ++ (chunk_line_text line ++ carriage_return ∷ []) → (raw ++ line_feed ∷ []) ++ rest ≡ print_chunks chunks ++ (print_chunk_line line ++ rest)
fed_line chunks line raw rest reads = ap (λ (l : List ℕ). (l ++ line_feed ∷ []) ++ rest) reads ∙ simp append_assoc

pub to_trailers : (extension : Option (List ℕ)) (value len : ℕ) (body raw : List ℕ) → InLine extension value len (carriage_return ∷ []) body raw → value ≡ 0 → InTrailers [] [] body (raw ++ line_feed ∷ [])
to_trailers extension value len body raw at none = record {
  chunks = at.behind.chunks;
  last = at.line;
  are = at.behind.are;
  is = at.is;
  ends = omega (arith, at.value_is, none);
  trailers_are = tt;
  gives = at.behind.gives;
  reads = sym (append-nil (raw ++ line_feed ∷ [])) ∙ fed_line at.behind.chunks at.line raw [] at.behind.reads;
}

pub to_data : (extension : Option (List ℕ)) (value len : ℕ) (body raw : List ℕ) → InLine extension value len (carriage_return ∷ []) body raw → 0 < value → value ≤ 262_144 → InData value body (raw ++ line_feed ∷ [])
to_data extension value len body raw at some fits = record {
  chunks = at.behind.chunks;
  line = at.line;
  got = [];
  are = at.behind.are;
  is = at.is;
  gives = append-nil (joined at.behind.chunks) ∙ at.behind.gives;
  sized = omega (arith, at.value_is);
  some = omega (arith, at.value_is);
  reads = sym (append-nil (raw ++ line_feed ∷ [])) ∙ fed_line at.behind.chunks at.line raw [] at.behind.reads;
}

pub to_limit : (extension : Option (List ℕ)) (value len : ℕ) (body raw : List ℕ) → InLine extension value len (carriage_return ∷ []) body raw → 262_144 < length body + value → ExceedsBodyLimit (raw ++ line_feed ∷ [])
to_limit extension value len body raw at over = record {
  chunks = at.behind.chunks;
  line = at.line;
  rest = [];
  are_chunks = at.behind.are;
  is_line = at.is;
  reads = sym (append-nil (raw ++ line_feed ∷ [])) ∙ fed_line at.behind.chunks at.line raw [] at.behind.reads;
  over = omega (arith, at.value_is, ap length at.behind.gives);
}

pub more_data : (left b : ℕ) (body raw : List ℕ) → InData left body raw → 0 < left → InData (left - 1) (body ++ b ∷ []) (raw ++ b ∷ [])
more_data left b body raw at due = record {
  chunks = at.chunks;
  line = at.line;
  got = at.got ++ b ∷ [];
  are = at.are;
  is = at.is;
  gives = sym (append_assoc (joined at.chunks) at.got (b ∷ [])) ∙ ap (λ (l : List ℕ). l ++ b ∷ []) at.gives;
  sized = omega (arith, at.sized, length-append at.got (b ∷ []));
  some = at.some;
  reads = ap (λ (l : List ℕ). l ++ b ∷ []) at.reads ∙ simp append_assoc;
}

pub to_data_end : (left : ℕ) (body raw : List ℕ) → InData left body raw → left ≡ 0 → AtDataEnd body (raw ++ carriage_return ∷ [])
to_data_end left body raw at none = record {
  chunks = at.chunks;
  chunk = record { line = at.line; bytes = at.got };
  are = at.are;
  is = record { line = at.is; sized = omega (arith, at.sized, none); some = omega (arith, at.sized, at.some, none) };
  gives = at.gives;
  reads = ap (λ (l : List ℕ). (l ++ carriage_return ∷ []) ++ line_feed ∷ []) at.reads ∙ simp append_assoc;
}

pub to_next_chunk : (body raw : List ℕ) → AtDataEnd body raw → InDigits 0 0 body (raw ++ line_feed ∷ [])
to_next_chunk body raw at =
    let chunks : List Chunk = at.chunks ++ at.chunk ∷ [] in
    let printed : print_chunks chunks ≡ print_chunks at.chunks ++ print_chunk at.chunk = flat_map-append print_chunk at.chunks (at.chunk ∷ []) ∙ ap (λ (l : List ℕ). print_chunks at.chunks ++ l) (append-nil (print_chunk at.chunk)) in
    record {
      digits = [];
      behind = record {
        chunks = chunks;
        are = all-push IsChunk at.chunks at.chunk at.are at.is;
        gives = flat_map-append (λ (c : Chunk). c.bytes) at.chunks (at.chunk ∷ []) ∙ ap (λ (l : List ℕ). joined at.chunks ++ l) (append-nil at.chunk.bytes) ∙ at.gives;
        reads = at.reads ∙ sym printed ∙ sym (append-nil (print_chunks chunks));
      };
      many = refl;
      few = omega arith;
      are = refl;
      value_is = refl;
    }

-- one more byte of a trailer line, or of its end
pub trailers_more : (trailers : List (List ℕ)) (tail body raw : List ℕ) (b : ℕ) → InTrailers trailers tail body raw → InTrailers trailers (tail ++ b ∷ []) body (raw ++ b ∷ [])
trailers_more trailers tail body raw b at = record {
  chunks = at.chunks;
  last = at.last;
  are = at.are;
  is = at.is;
  ends = at.ends;
  trailers_are = at.trailers_are;
  gives = at.gives;
  reads = ap (λ (l : List ℕ). l ++ b ∷ []) at.reads ∙ simp append_assoc;
}

pub print_trailers-push : (trailers : List (List ℕ)) (text : List ℕ) → print_trailers (trailers ++ text ∷ []) ≡ print_trailers trailers ++ print_trailer text
print_trailers-push trailers text = flat_map-append print_trailer trailers (text ∷ []) ∙ ap (λ (l : List ℕ). print_trailers trailers ++ l) (append-nil (print_trailer text))

pub trailer_done : (trailers : List (List ℕ)) (text body raw : List ℕ) → InTrailers trailers (text ++ carriage_return ∷ []) body raw → IsTrailer text → InTrailers (trailers ++ text ∷ []) [] body (raw ++ line_feed ∷ [])
trailer_done trailers text body raw at is = record {
  chunks = at.chunks;
  last = at.last;
  are = at.are;
  is = at.is;
  ends = at.ends;
  trailers_are = all-push IsTrailer trailers text at.trailers_are is;
  gives = at.gives;
  reads =
      ap (λ (l : List ℕ). l ++ line_feed ∷ []) at.reads
      ∙ (simp append_assoc)
      ∙ ap (λ (l : List ℕ). print_chunks at.chunks ++ (print_chunk_line at.last ++ l)) (sym (print_trailers-push trailers text) ∙ sym (append-nil (print_trailers (trailers ++ text ∷ []))));
}

pub to_last_end : (trailers : List (List ℕ)) (body raw : List ℕ) → InTrailers trailers [] body raw → length (print_trailers trailers) ≤ 16_384 → IsWhole body ((raw ++ carriage_return ∷ []) ++ line_feed ∷ [])
to_last_end trailers body raw at short = record {
  whole = record { chunks = at.chunks; last = at.last; trailers = trailers };
  is = record { chunks = at.are; last = at.is; ends = at.ends; trailers = at.trailers_are; short = short };
  gives = at.gives;
  reads = ap (λ (l : List ℕ). (l ++ carriage_return ∷ []) ++ line_feed ∷ []) at.reads ∙ simp (append-nil, append_assoc);
}

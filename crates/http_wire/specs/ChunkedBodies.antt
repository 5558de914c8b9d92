-- Chunked bodies (RFC 9112, section 7.1), as this server accepts them. Each form is a tree, a
-- printer from the tree to its bytes, and a fact that says which trees are valid.
use Rattle.std.specs.Prelude.{◌≡◌, ℕ, ◌+◌, ◌<◌, ◌≤◌, Bool, not, ◌||◌, ◌==◌, List, [], ◌++◌, length}
use Rattle.std.specs.Prelude.{IsTrue, flat_map, unwrap_or}
use Rattle.std.specs.List.{list_all, AllByRecursion}
use Rattle.std.specs.Char.{is_digit}
use Rattle.httparse.specs.Ascii.{line_feed, carriage_return, crlf_bytes}
use Rattle.httparse.specs.Grammar.{ChunkLine, print_extension, chunk_size, is_ows, is_value_byte}
use Rattle.http_wire.specs.declared.limits.TheConstants.{MAX_BODY_BYTES, MAX_DIGITS, MAX_LINE_BYTES}
use Rattle.http_wire.specs.declared.limits.TheConstants.{MAX_TRAILER_BYTES}

-- the bytes of a chunk line without its line end: digits, blanks, and an extension after `;`
abbrev pub chunk_line_text : ChunkLine → List ℕ
chunk_line_text l = l.digits ++ (l.pad ++ print_extension l.extension)

-- chunk-line = 1*16HEXDIG *( SP / HTAB ) [ ";" extension ] CR LF
abbrev pub print_chunk_line : ChunkLine → List ℕ
print_chunk_line l = chunk_line_text l ++ crlf_bytes

-- each part is of its class, an extension consisting of tabs, spaces, visible bytes and those past
-- ASCII; the whole line is within its limit
pub record IsChunkLine (l : ChunkLine) : Type 0 where
  pub some : 0 < length l.digits
  pub few : length l.digits ≤ MAX_DIGITS
  pub digits : IsTrue (list_all (λ b. is_digit b 16) l.digits)
  pub pad : IsTrue (list_all is_ows l.pad)
  pub extension : IsTrue (list_all is_value_byte (unwrap_or l.extension []))
  pub short : length (print_chunk_line l) ≤ MAX_LINE_BYTES

-- chunk = chunk-line bytes CR LF
pub record Chunk : Type 0 where
  pub line : ChunkLine
  pub bytes : List ℕ

abbrev pub print_chunk : Chunk → List ℕ
print_chunk c = print_chunk_line c.line ++ (c.bytes ++ crlf_bytes)

-- the line's number is the number of bytes that follow, and is not 0
pub record IsChunk (c : Chunk) : Type 0 where
  pub line : IsChunkLine c.line
  pub sized : chunk_size c.line ≡ length c.bytes
  pub some : 0 < length c.bytes

abbrev pub print_chunks : List Chunk → List ℕ
print_chunks chunks = flat_map print_chunk chunks

-- a byte of a trailer line: any but CR and LF
abbrev pub is_trailer_byte : ℕ → Bool
is_trailer_byte b = not (b == carriage_return || b == line_feed)

-- trailer-line = 1*trailer-byte CR LF
pub record IsTrailer (text : List ℕ) : Type 0 where
  pub some : 0 < length text
  pub bytes : IsTrue (list_all is_trailer_byte text)

abbrev pub print_trailer : List ℕ → List ℕ
print_trailer text = text ++ crlf_bytes

abbrev pub print_trailers : List (List ℕ) → List ℕ
print_trailers trailers = flat_map print_trailer trailers

-- chunked-body = *chunk last-chunk-line *trailer-line CR LF
pub record ChunkedBody : Type 0 where
  pub chunks : List Chunk
  pub last : ChunkLine
  pub trailers : List (List ℕ)

abbrev pub print_chunked_body : ChunkedBody → List ℕ
print_chunked_body c =
    print_chunks c.chunks ++ (print_chunk_line c.last ++ (print_trailers c.trailers ++ crlf_bytes))

-- the last line's number is 0, and the trailer lines are within their limit together
pub record IsChunkedBody (c : ChunkedBody) : Type 0 where
  pub chunks : AllByRecursion IsChunk c.chunks
  pub last : IsChunkLine c.last
  pub ends : chunk_size c.last ≡ 0
  pub trailers : AllByRecursion IsTrailer c.trailers
  pub short : length (print_trailers c.trailers) ≤ MAX_TRAILER_BYTES

-- the data of the chunks, joined
abbrev pub chunk_data : List Chunk → List ℕ
chunk_data chunks = flat_map (λ c. c.bytes) chunks

-- the bytes are that body, and then rest
abbrev pub ReadsChunkedBody : List ℕ → ChunkedBody → List ℕ → Type 0
ReadsChunkedBody bytes c rest = IsChunkedBody c × (bytes ≡ print_chunked_body c ++ rest)

-- no prefix of the bytes is a chunked body
abbrev pub HasNoChunkedBody : List ℕ → Type 0
HasNoChunkedBody bytes = (c : ChunkedBody) (rest : List ℕ) → ¬ (ReadsChunkedBody bytes c rest)

-- some bytes can follow that make these a chunked body
abbrev pub MayBecomeChunkedBody : List ℕ → Type 0
MayBecomeChunkedBody bytes =
    (more : List ℕ) × (c : ChunkedBody) × ReadsChunkedBody (bytes ++ more) c []

-- the bytes begin with chunks and one more chunk line, and the chunks' bytes plus the number of
-- that line are more than a body may have
pub record ExceedsBodyLimit (bytes : List ℕ) : Type 0 where
  pub chunks : List Chunk
  pub line : ChunkLine
  pub rest : List ℕ
  pub are_chunks : AllByRecursion IsChunk chunks
  pub is_line : IsChunkLine line
  pub reads : bytes ≡ print_chunks chunks ++ (print_chunk_line line ++ rest)
  pub over : MAX_BODY_BYTES < length (chunk_data chunks) + chunk_size line

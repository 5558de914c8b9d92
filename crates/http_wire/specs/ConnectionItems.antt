-- The items that the bytes of a connection consist of (RFC 9112, sections 2.2, 6 and 9.3):
-- requests, and what comes in place of one. Here the whole list of bytes is known, and nothing
-- depends on how reads cut it.
use Rattle.std.specs.Prelude.{◌≡◌, ℕ, ◌+◌, ◌-◌, ◌<◌, ◌≤◌, ◌⊎◌, ◌==◌, Bool, true, ◌||◌, List, []}
use Rattle.std.specs.Prelude.{◌∷◌, ◌++◌, length, map}
use Rattle.std.specs.Bool.{MatchBool}
use Rattle.httparse.specs.Grammar.{RequestHead}
use Rattle.httparse.specs.Spans.{name_and_value}
use Rattle.http_wire.specs.declared.framing.Framing.{Framing}
use Rattle.http_wire.specs.declared.framing.Framing.TheVariants.{Bad, Coded, TooLong, Length}
use Rattle.http_wire.specs.declared.framing.Framing.TheVariants.{Chunked}
use Rattle.http_wire.specs.declared.request.Field.{Field}
use Rattle.http_wire.specs.declared.request.Request.{Request}
use Rattle.http_wire.specs.declared.limits.TheConstants.{MAX_BODY_BYTES, MAX_REQUESTS}
use Rattle.http_wire.specs.Heads.{BeginsWithHead, HasNoHead}
use Rattle.http_wire.specs.Fields.{asks_to_close}
use Rattle.http_wire.specs.Framing.{framing}
use Rattle.http_wire.specs.ChunkedBodies.{ChunkedBody, ReadsChunkedBody, HasNoChunkedBody}
use Rattle.http_wire.specs.ChunkedBodies.{MayBecomeChunkedBody}
use Rattle.http_wire.specs.ChunkedBodies.{ExceedsBodyLimit}
use Rattle.http_wire.specs.ChunkedBodies.{chunk_data}

-- An item: a request, or what gets a 400, 413 or 501 in place of one.
pub data Item : Type 0 where
  asks : Request → Item
  bad too_long coded : Item

-- the field with this name and value
abbrev pub field_of : List ℕ × List ℕ → Field
field_of f = record { name = f.0; value = f.1 }

-- The request of this head and body, after `before` requests of the connection. Its reply ends the
-- connection if it is the last request that a connection may have, or of HTTP/1.0, or asks for
-- that.
abbrev pub request_of : ℕ → RequestHead → List ℕ → Request
request_of before head body = record {
  method = head.method;
  target = head.target;
  closes =
      (before == MAX_REQUESTS - 1)
      || ((head.minor == 0) || asks_to_close (map name_and_value head.fields));
  fields = map field_of (map name_and_value head.fields);
  body = body;
}

-- the bytes begin with this head, whose fields give this framing, and then rest
pub record BeginsWithFramedHead (bytes : List ℕ) (head : RequestHead) (what : Framing)
    (rest : List ℕ) : Type 0 where
  pub begins : BeginsWithHead bytes head rest
  pub framed : framing head.minor (map name_and_value head.fields) ≡ what

-- after a head of this framing come bytes with the property
pub record HoldsAfterHead (what : Framing) (bytes : List ℕ) (Behind : List ℕ → Type 0) : Type 0
  where
    pub head : RequestHead
    pub rest : List ℕ
    pub opens : BeginsWithFramedHead bytes head what rest
    pub behind : Behind rest

-- the head alone decides
abbrev pub HasFraming : Framing → List ℕ → Type 0
HasFraming what bytes =
    (head : RequestHead) × (rest : List ℕ) × BeginsWithFramedHead bytes head what rest

-- The bytes begin with a complete request, whose body has the length that its head states, or is
-- chunked and within the limit; and then rest.
pub data AsksFor (before : ℕ) (bytes : List ℕ) (request : Request) (rest : List ℕ) : Type 0 where
  with_length : (head : RequestHead) (body : List ℕ)
      → BeginsWithFramedHead bytes head (Length (length body)) (body ++ rest)
      → request ≡ request_of before head body → AsksFor before bytes request rest
  in_chunks : (head : RequestHead) (behind : List ℕ) (body : ChunkedBody)
      → BeginsWithFramedHead bytes head Chunked behind → ReadsChunkedBody behind body rest
      → length (chunk_data body.chunks) ≤ MAX_BODY_BYTES
      → request ≡ request_of before head (chunk_data body.chunks)
      → AsksFor before bytes request rest

-- The bytes, at least one, are no request: there is no head, or its fields are not acceptable, or
-- its body is cut short by their end, or it should be chunked and is no chunked body.
pub data IsBadRequest (bytes : List ℕ) : Type 0 where
  no_head : 0 < length bytes → HasNoHead bytes → IsBadRequest bytes
  bad_fields : HasFraming Bad bytes → IsBadRequest bytes
  body_cut : (len : ℕ) → HoldsAfterHead (Length len) bytes (λ rest. length rest < len)
      → IsBadRequest bytes
  no_body : HoldsAfterHead Chunked bytes (λ rest. HasNoChunkedBody rest × ¬ (ExceedsBodyLimit rest))
      → IsBadRequest bytes

-- The body is beyond the limit, by its length or by the sizes of its chunks.
pub data HasTooLongBody (bytes : List ℕ) : Type 0 where
  long_body : HasFraming TooLong bytes → HasTooLongBody bytes
  long_chunks : HoldsAfterHead Chunked bytes ExceedsBodyLimit → HasTooLongBody bytes

-- The first item of all the bytes of a connection, after `before` requests, and the bytes after
-- it; after an item that is no request none are looked at.
abbrev pub IsFirstItem : ℕ → List ℕ → Item → List ℕ → Type 0
IsFirstItem before bytes (asks request) rest = AsksFor before bytes request rest
IsFirstItem before bytes bad rest = IsBadRequest bytes
IsFirstItem before bytes too_long rest = HasTooLongBody bytes
IsFirstItem before bytes coded rest = HasFraming Coded bytes

-- These bytes were given, and the item is the first one: whatever follows them, or because a read
-- found their end.
abbrev pub IsKnownFirstItem : ℕ → List ℕ → Bool → Item → Type 0
IsKnownFirstItem before given ended item =
    ((more : List ℕ) → (rest : List ℕ) × IsFirstItem before (given ++ more) item rest)
    ⊎ ((ended ≡ true) × ((rest : List ℕ) × IsFirstItem before given item rest))

-- after two equal first items the rests are equal, where they are looked at
abbrev pub HaveEqualRests : Item → List ℕ → List ℕ → Type 0
HaveEqualRests (asks request) rest other = rest ≡ other
HaveEqualRests _ rest other = Unit {0}

-- the reply to the item ends the connection
abbrev pub ends_connection : Item → Bool
ends_connection (asks request) = request.closes
ends_connection _ = true

-- The sequence of items of a connection's bytes, after `before` requests: one after the other, up
-- to one that ends the connection, or to the end of the bytes.
abbrev pub IsItemSequence : ℕ → List ℕ → List Item → Type 0
IsItemSequence before bytes [] = bytes ≡ []
IsItemSequence before bytes (item ∷ items) =
    (rest : List ℕ) × IsFirstItem before bytes item rest
    × MatchBool (ends_connection item) (items ≡ []) (IsItemSequence (before + 1) rest items)

-- The item is complete at the front of these bytes, whatever follows them: a head and a body, or
-- enough to show that there is no request.
abbrev pub IsCompleteItem : ℕ → List ℕ → Item → Type 0
IsCompleteItem before bytes (asks request) = (rest : List ℕ) × AsksFor before bytes request rest
IsCompleteItem before bytes bad =
    HasFraming Bad bytes
    ⊎ HoldsAfterHead Chunked bytes (λ rest.
    ¬ (MayBecomeChunkedBody rest) × HasNoChunkedBody rest × ¬ (ExceedsBodyLimit rest))
IsCompleteItem before bytes too_long = HasTooLongBody bytes
IsCompleteItem before bytes coded = HasFraming Coded bytes

-- No item is complete in these bytes: there is no head, or its body isn't complete yet.
pub data HasNoCompleteItem (bytes : List ℕ) : Type 0 where
  lacks_head : HasNoHead bytes → HasNoCompleteItem bytes
  lacks_body : (len : ℕ) → HoldsAfterHead (Length len) bytes (λ rest. length rest < len)
      → HasNoCompleteItem bytes
  lacks_chunks : HoldsAfterHead Chunked bytes (λ rest.
      MayBecomeChunkedBody rest × HasNoChunkedBody rest × ¬ (ExceedsBodyLimit rest))
      → HasNoCompleteItem bytes

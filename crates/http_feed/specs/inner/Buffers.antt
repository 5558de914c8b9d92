-- The two buffers of a feed: the bytes given, and the data of the chunks decoded so far.
use Rattle.std.specs.Prelude.{ℕ, true, List, []}
use Rattle.http_wire.specs.inner.ChunkDecoder.{Decoding}
use Rattle.http_feed.specs.Feeds.{FeedState}

-- The bytes given and not used yet, how many more may be added without allocation, and how many
-- bytes are allocated.
pub record ReadBufferState : Type 0 where
  pub bytes : List ℕ
  pub room : ℕ
  pub capacity : ℕ

-- a buffer for which nothing is allocated
abbrev pub no_bytes : ReadBufferState
no_bytes = record { bytes = []; room = 0; capacity = 0 }

-- a decoder of chunks and how many bytes are allocated for their data
pub record ChunkDataState : Type 0 where
  pub decoding : Decoding
  pub capacity : ℕ

-- a feed that is spent after this many requests: it holds nothing, and nothing is allocated
abbrev pub spent_feed : ℕ → FeedState
spent_feed requests = record {
  reader = record { held = []; requests = requests; spent = true };
  buffer = record { filled = 0; room = 0; capacity = 0 };
}

-- The bytes written on a connection in memory, and the replies on it, as far as they fit into
-- buffers. The project's own.
use Rattle.std.specs.Prelude.{ℕ, nat_lt, Bool, ◌||◌, List, ◌++◌, length, take}

-- The bytes written, how many of them the server has served, and the size of the buffer.
pub record WrittenState : Type 0 where
  pub bytes : List ℕ
  pub served : ℕ
  pub room : ℕ

-- The replies that fit into the buffer, whether there were more, and the size of the buffer.
pub record RepliesState : Type 0 where
  pub bytes : List ℕ
  pub more : Bool
  pub room : ℕ

-- these bytes appended to the replies, as far as they fit
abbrev pub with_replies : RepliesState → List ℕ → RepliesState
with_replies r bytes = record {
  bytes = take r.room (r.bytes ++ bytes);
  more = r.more || nat_lt r.room (length (r.bytes ++ bytes));
  room = r.room;
}

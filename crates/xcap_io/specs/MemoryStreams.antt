-- Streams in memory, and ports and peers made of them, as their callers see them. This is the
-- project's own.
use Rattle.std.specs.Prelude.{◌≡◌, ◌≢◌, ℕ, zero, suc, ◌+◌, ◌-◌, ◌<◌, ◌==◌, min, List, [], ◌∷◌, ◌++◌}
use Rattle.std.specs.Prelude.{length, map, take, drop, Bool, true, false, Option, None, Some}
use Rattle.std.specs.Prelude.{Result, Ok, Err, option_map, unwrap_or, IsErr, ◌⊎◌, slice_index_or}
use Rattle.std.specs.Prelude.{slice_set, MatchOption}
use Rattle.xcap_io.specs.StreamStates.{BegunConnections, StreamState, greatest_count, no_port}
use Rattle.xcap_io.specs.StreamStates.{no_peer}
use Rattle.xcap_io.specs.ConnectionHistories.{Traffic}

-- A stream in memory.
pub record MemoryStream : Type 0 where
  -- what reads will give, and the greatest number of bytes of one read
  pub left : List ℕ
  pub step : ℕ
  -- after how many bytes reads fail, if they ever fail
  pub until_fault : Option ℕ
  -- what reads gave, and whether the last one that didn't fail found the end
  pub given : List ℕ
  pub ended : Bool
  -- what writes handed over, and how many bytes they can hand over in all
  pub taken : List ℕ
  pub room : ℕ
  pub read_faults : ℕ
  pub write_faults : ℕ

-- the counter after one more fault; it stops at the greatest `u64`
abbrev pub count_plus_one : ℕ → ℕ
count_plus_one faults = min (faults + 1) greatest_count

-- how many bytes a read into a buffer of n bytes gives, where it doesn't fail
abbrev pub read_len : MemoryStream → ℕ → ℕ
read_len line wanted =
    min (min wanted line.step)
    (min (unwrap_or line.until_fault (length line.left)) (length line.left))

-- the stream after a read of n bytes
abbrev pub stream_after_read : MemoryStream → ℕ → MemoryStream
stream_after_read line n =
    record line {
      left = drop n line.left;
      given = line.given ++ take n line.left;
      ended = n == 0;
      until_fault = option_map (λ place. place - n) line.until_fault;
    }

-- a read fails exactly where no further byte may be given
abbrev pub ReadsInMemory : {E : Type 0} → MemoryStream → MemoryStream → ℕ → Result ℕ E → Type 0
ReadsInMemory old new wanted (Ok n) =
    (old.until_fault ≢ Some 0) × (n ≡ read_len old wanted) × (new ≡ stream_after_read old n)
ReadsInMemory old new wanted (Err e) =
    (old.until_fault ≡ Some 0) × (new ≡ record old { read_faults = count_plus_one old.read_faults })

-- a write takes what there is room for, and fails exactly where there is none
abbrev pub WritesInMemory : {E : Type 0} → MemoryStream → MemoryStream → List ℕ → Result ℕ E
    → Type 0
WritesInMemory old new piece (Ok n) =
    (length old.taken < old.room) × (n ≡ min (length piece) (old.room - length old.taken))
    × (new ≡ record old { taken = old.taken ++ take n piece })
WritesInMemory old new piece (Err e) =
    (length old.taken ≡ old.room)
    × (new ≡ record old { write_faults = count_plus_one old.write_faults })

-- a stream in memory as a stream
abbrev pub line_state : MemoryStream → StreamState
line_state line = record {
  inward = record { left = Some line.left; given = line.given; ended = line.ended };
  taken = line.taken;
  read_faults = line.read_faults;
  write_faults = line.write_faults;
  holds = [];
  aside = [];
  port = no_port;
  peer = no_peer;
}

-- Streams in memory that begin one after the other. Those before the present one have ended, those
-- after it are to come.
pub record MemoryLines : Type 0 where
  pub lines : List MemoryStream
  -- the number of the present stream; None before the first one begins
  pub present : Option ℕ
  pub read_faults : ℕ
  pub write_faults : ℕ

-- a stream that gives and takes nothing
abbrev pub no_line : MemoryStream
no_line =
    record {
      left = [];
      step = 0;
      until_fault = None;
      given = [];
      ended = true;
      taken = [];
      room = 0;
      read_faults = 0;
      write_faults = 0;
    }

-- the stream of this number
abbrev pub line_at : List MemoryStream → ℕ → MemoryStream
line_at lines i = slice_index_or lines i no_line

-- the present stream; where there is none, one that gives and takes nothing
abbrev pub present_line : List MemoryStream → Option ℕ → MemoryStream
present_line lines None = no_line
present_line lines (Some i) = line_at lines i

-- the number of the stream that begins next
abbrev pub next_line_number : Option ℕ → ℕ
next_line_number None = 0
next_line_number (Some i) = i + 1

-- the stream, over which nothing has passed
abbrev pub reset_line : MemoryStream → MemoryStream
reset_line line = record line { given = []; ended = false; taken = [] }

-- the next stream begins
abbrev pub begin_next : MemoryLines → MemoryLines
begin_next m =
    let at = next_line_number m.present in
    record m { lines = slice_set m.lines at (reset_line (line_at m.lines at)); present = Some at }

-- whether a stream was left, and so began
abbrev pub BeginsLine : MemoryLines → MemoryLines → Bool → Type 0
BeginsLine old new true = (next_line_number old.present < length old.lines) × (new ≡ begin_next old)
BeginsLine old new false = (next_line_number old.present ≡ length old.lines) × (new ≡ old)

-- a fault counter after a call
abbrev pub fault_count_after : {T E : Type 0} → Result T E → ℕ → ℕ
fault_count_after (Ok x) faults = faults
fault_count_after (Err e) faults = count_plus_one faults

-- a read reads from the present stream; where there is none, it finds the end of the input
abbrev pub ReadsPresentLine : {E : Type 0} → MemoryLines → MemoryLines → ℕ → Result ℕ E → Type 0
ReadsPresentLine old new wanted result = MatchOption old.present
    ((result ≡ Ok 0) × (new ≡ old))
    (λ i.
    (line : MemoryStream) × ReadsInMemory (line_at old.lines i) line wanted result
    × (new ≡ record old {
      lines = slice_set old.lines i line;
      read_faults = fault_count_after result old.read_faults;
    }))

-- a write writes to the present stream; where there is none, it fails
abbrev pub WritesPresentLine : {E : Type 0} → MemoryLines → MemoryLines → List ℕ → Result ℕ E
    → Type 0
WritesPresentLine old new piece result = MatchOption old.present
    (IsErr result × (new ≡ record old { write_faults = count_plus_one old.write_faults }))
    (λ i.
    (line : MemoryStream) × WritesInMemory (line_at old.lines i) line piece result
    × (new ≡ record old {
      lines = slice_set old.lines i line;
      write_faults = fault_count_after result old.write_faults;
    }))

-- streams in memory as one stream
abbrev pub lines_state : MemoryLines → StreamState
lines_state m = record {
  inward =
      let line = present_line m.lines m.present in
      record { left = Some line.left; given = line.given; ended = line.ended };
  taken = (present_line m.lines m.present).taken;
  read_faults = m.read_faults;
  write_faults = m.write_faults;
  holds = [];
  aside = [];
  port = no_port;
  peer = no_peer;
}

-- what the streams that are to come will give
abbrev pub lines_to_come : MemoryLines → List (List ℕ)
lines_to_come m = map (λ line. line.left) (drop (next_line_number m.present) m.lines)

-- the number of calls up to the one that fails, after one more call: 1 is the next call; 0 and
-- None mean that no call fails
abbrev pub countdown_after_call : Option ℕ → Option ℕ
countdown_after_call None = None
countdown_after_call (Some zero) = Some 0
countdown_after_call (Some (suc zero)) = None
countdown_after_call (Some (suc (suc n))) = Some (suc n)

-- A port in memory.
pub record MemoryPort : Type 0 where
  pub lines : MemoryLines
  pub listen_fails : Bool
  pub until_fault : Option ℕ
  -- the address of the last `listen` that returned `Ok`
  pub listening : Option (List ℕ)
  pub faults : ℕ

-- the first of the texts, which are listed latest first
abbrev pub latest_address : List (List ℕ) → Option (List ℕ)
latest_address [] = None
latest_address (text ∷ before) = Some text

-- what passed over a stream
abbrev pub line_traffic : MemoryStream → Traffic
line_traffic line = record { given = line.given; ended = line.ended; taken = line.taken }

-- what passed over the streams that have begun
abbrev pub begun_lines : List MemoryStream → Option ℕ → BegunConnections
begun_lines lines None = record { earlier = []; is_present = false }
begun_lines lines (Some i) = record { earlier = map line_traffic (take i lines); is_present = true }

-- a port in memory as a stream
abbrev pub port_state : MemoryPort → StreamState
port_state m = record (lines_state m.lines) {
  port = record {
    listening = Some m.listening;
    to_come = Some (lines_to_come m.lines);
    begun = begun_lines m.lines.lines m.lines.present;
    faults = m.faults;
  };
}

-- `listen` fails exactly where the port was made so
abbrev pub ListensInMemory : {E : Type 0} → MemoryPort → MemoryPort → Result (Unit {0}) E → List ℕ
    → Type 0
ListensInMemory old new (Ok x) address =
    (old.listen_fails ≡ false) × (new ≡ record old { listening = Some address })
ListensInMemory old new (Err e) address =
    (old.listen_fails ≡ true) × (new ≡ record old { faults = count_plus_one old.faults })

-- `next` fails exactly at the call that the port was set to fail
abbrev pub AcceptsInMemory : {E : Type 0} → MemoryPort → MemoryPort → Result Bool E → Type 0
AcceptsInMemory old new (Ok begins) =
    (old.until_fault ≢ Some 1) × BeginsLine old.lines new.lines begins
    × (new ≡ record old { lines = new.lines; until_fault = countdown_after_call old.until_fault })
AcceptsInMemory old new (Err e) =
    (old.until_fault ≡ Some 1)
    × (new ≡ record old { until_fault = None; faults = count_plus_one old.faults })

-- A peer in memory. The addresses are those of the connections that it has made, latest first.
pub record MemoryPeer : Type 0 where
  pub lines : MemoryLines
  pub until_fault : Option ℕ
  pub addresses : List (List ℕ)
  pub faults : ℕ

-- a peer in memory as a stream
abbrev pub peer_state : MemoryPeer → StreamState
peer_state m = record (lines_state m.lines) {
  peer = record {
    to_come = Some (lines_to_come m.lines);
    begun = begun_lines m.lines.lines m.lines.present;
    addresses = m.addresses;
    faults = m.faults;
  };
}

-- why `connect` fails: it is the call that the peer was set to fail, or no stream is left
abbrev pub CannotConnect : MemoryPeer → Type 0
CannotConnect m =
    (m.until_fault ≡ Some 1) ⊎ (next_line_number m.lines.present ≡ length m.lines.lines)

-- `connect` fails exactly at the call that the peer was set to fail, and where no stream is left
abbrev pub ConnectsInMemory : {E : Type 0} → MemoryPeer → MemoryPeer → Result (Unit {0}) E → List ℕ
    → Type 0
ConnectsInMemory old new (Ok x) address =
    (old.until_fault ≢ Some 1) × BeginsLine old.lines new.lines true
    × (new ≡ record old {
      lines = new.lines;
      until_fault = countdown_after_call old.until_fault;
      addresses = address ∷ old.addresses;
    })
ConnectsInMemory old new (Err e) address =
    CannotConnect old
    × (new ≡ record old {
      until_fault = countdown_after_call old.until_fault;
      faults = count_plus_one old.faults;
    })

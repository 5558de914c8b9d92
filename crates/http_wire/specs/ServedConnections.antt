-- Connections served by any machine (RFC 9112, sections 2.2 and 9.3): its states are M, the edits
-- that it reports are E, and its step says which bytes answer a request, what the next state is,
-- and which edit was made. `fixed` gives the bytes of the reply without body that has a status and
-- ends the connection. Of a connection only the bytes given on it matter, and whether a read found
-- their end; so this applies to real sockets, too.
use Rattle.std.specs.Prelude.{◌≡◌, ℕ, ◌+◌, ◌<◌, ◌⊎◌, Bool, true, false, List, [], ◌∷◌, ◌++◌, length}
use Rattle.std.specs.Prelude.{take, Option, None, option_to_list}
use Rattle.xcap_io.specs.StreamStates.{CountRisesBy, StreamState}
use Rattle.xcap_io.specs.ConnectionHistories.{Traffic}
use Rattle.http_wire.specs.declared.close_reason.CloseReason.{CloseReason}
use Rattle.http_wire.specs.declared.close_reason.CloseReason.TheVariants.{Closed, ReadFailed}
use Rattle.http_wire.specs.declared.close_reason.CloseReason.TheVariants.{WriteFailed}
use Rattle.http_wire.specs.declared.request.Request.{Request}
use Rattle.http_wire.specs.ConnectionItems.{Item, asks, bad, too_long, coded, IsKnownFirstItem}
use Rattle.http_wire.specs.ConnectionItems.{AsksFor}
use Rattle.http_wire.specs.ConnectionItems.{ends_connection, HasNoCompleteItem}

-- What a connection has to answer: how many requests came before, the bytes given after them, and
-- whether a read found the end.
pub record PendingInput : Type 0 where
  pub before : ℕ
  pub given : List ℕ
  pub ended : Bool

-- what was done on an item: the bytes written, the machine's next state, and the edit, if there was
-- one
pub record ItemAnswer (M E : Type 0) : Type 0 where
  pub written : List ℕ
  pub next : M
  pub edit : Option E

-- what was done on requests, one after the other: the bytes written, the edits, the machine's next
-- state, and the bytes that follow the requests
pub record RequestsAnswer (M E : Type 0) : Type 0 where
  pub written : List ℕ
  pub edits : List E
  pub next : M
  pub rest : List ℕ

-- how many connections ended with a failed read
abbrev pub read_failures : List CloseReason → ℕ
read_failures [] = 0
read_failures (ReadFailed ∷ endings) = read_failures endings + 1
read_failures (_ ∷ endings) = read_failures endings

abbrev pub write_failures : List CloseReason → ℕ
write_failures [] = 0
write_failures (WriteFailed ∷ endings) = write_failures endings + 1
write_failures (_ ∷ endings) = write_failures endings

-- a machine, and how many reads and how many writes have failed
pub record MachineAndFaults (M : Type 0) : Type 0 where
  pub machine : M
  pub read_faults : ℕ
  pub write_faults : ℕ

abbrev pub machine_without_faults : {M : Type 0} → M → MachineAndFaults M
machine_without_faults machine = record { machine = machine; read_faults = 0; write_faults = 0 }

-- a machine that is served on this stream
abbrev pub machine_on_stream : {M : Type 0} → M → StreamState → MachineAndFaults M
machine_on_stream machine stream =
    record {
      machine = machine;
      read_faults = stream.read_faults;
      write_faults = stream.write_faults;
    }

module _ {M E : Type 0} (Step : M → Request → List ℕ → M → Option E → Type 0)
    (fixed : ℕ → List ℕ) where
  -- How an item is answered. An item that is no request gets a fixed reply and changes nothing.
  abbrev pub AnswersItem : M → Item → List ℕ → M → Option E → Type 0
  AnswersItem machine (asks request) reply next edit = Step machine request reply next edit
  AnswersItem machine bad reply next edit = (reply ≡ fixed 400) × (next ≡ machine) × (edit ≡ None)
  AnswersItem machine too_long reply next edit =
      (reply ≡ fixed 413) × (next ≡ machine) × (edit ≡ None)
  AnswersItem machine coded reply next edit = (reply ≡ fixed 501) × (next ≡ machine) × (edit ≡ None)

  -- The bytes, after `before` requests, begin with these requests, none of which ends the
  -- connection. The machine answers them one after the other; the replies are joined, and the
  -- edits are in order.
  abbrev pub AnswersRequests : ℕ → M → List ℕ → List Request → RequestsAnswer M E → Type 0
  AnswersRequests before machine bytes [] answer =
      (answer.written ≡ []) × (answer.edits ≡ []) × (answer.next ≡ machine) × (bytes ≡ answer.rest)
  AnswersRequests before machine bytes (request ∷ requests) answer =
      (behind : List ℕ) × (reply : List ℕ) × (mid : M) × (edit : Option E) × (more : List ℕ)
      × (later : List E)
      × AsksFor before bytes request behind × (request.closes ≡ false)
      × Step machine request reply mid edit
      × (answer.written ≡ reply ++ more) × (answer.edits ≡ option_to_list edit ++ later)
      × AnswersRequests (before + 1) mid behind requests
      (record answer { written = more; edits = later })

  -- How a connection that was closed ends: with no further reply, where no byte was given and the
  -- end was found; with the reply to an item that ends it; or with the fixed 503 in place of a
  -- request, which means out of memory and changes nothing.
  pub data ClosesConnection (input : PendingInput) (machine : M) (answer : ItemAnswer M E) : Type 0
    where
      no_more : input.given ≡ [] → input.ended ≡ true → answer.written ≡ []
          → answer.next ≡ machine → answer.edit ≡ None → ClosesConnection input machine answer
      last_item : (item : Item) → IsKnownFirstItem input.before input.given input.ended item
          → ends_connection item ≡ true
          → AnswersItem machine item answer.written answer.next answer.edit
          → ClosesConnection input machine answer
      no_memory : (request : Request) (rest : List ℕ)
          → AsksFor input.before input.given request rest → answer.written ≡ fixed 503
          → answer.next ≡ machine → answer.edit ≡ None → ClosesConnection input machine answer

  -- A request that keeps the connection open is answered.
  pub record KeepsConnectionOpen (input : PendingInput) (machine : M) (answer : ItemAnswer M E)
      (rest : List ℕ)
      : Type 0 where
    pub request : Request
    pub asked : AsksFor input.before input.given request rest
    pub stays : request.closes ≡ false
    pub step : Step machine request answer.written answer.next answer.edit

  -- How a connection ends, and what is written then. Where a read failed, no item is complete in
  -- the bytes given. A failed write leaves a proper prefix of a reply, and the item has had its
  -- effect.
  abbrev pub EndsConnection : CloseReason → PendingInput → M → ItemAnswer M E → Type 0
  EndsConnection Closed input machine answer = ClosesConnection input machine answer
  EndsConnection ReadFailed input machine answer =
      HasNoCompleteItem input.given × (answer.written ≡ []) × (answer.next ≡ machine)
      × (answer.edit ≡ None)
  EndsConnection WriteFailed input machine answer =
      (reply : List ℕ) × (n : ℕ)
      × (n < length reply) × (answer.written ≡ take n reply)
      × (ClosesConnection input machine (record answer { written = reply })
      ⊎ ((rest : List ℕ)
      × KeepsConnectionOpen input machine (record answer { written = reply }) rest))

  -- One connection with this traffic: requests at the front of the bytes given, after which it
  -- went on, and then what ended it. The replies to these items, one after the other, are the
  -- bytes written, and their edits are all that were reported.
  pub record ServesConnection (ending : CloseReason) (machine : M) (passed : Traffic) (next : M)
      (edits : List E) : Type 0 where
    pub requests : List Request
    pub replies : List ℕ
    pub early : List E
    pub mid : M
    pub behind : List ℕ
    pub last : List ℕ
    pub edit : Option E
    pub run : AnswersRequests 0 machine passed.given requests
        (record { written = replies; edits = early; next = mid; rest = behind })
    pub ends : EndsConnection ending
        (record { before = length requests; given = behind; ended = passed.ended })
        mid (record { written = last; next = next; edit = edit })
    pub wrote : passed.taken ≡ replies ++ last
    pub all_told : edits ≡ early ++ option_to_list edit

  -- Connections with this traffic, served one after the other, each from the state that the one
  -- before left: how each ended, and all edits.
  abbrev pub ServesEach : M → List Traffic → List CloseReason → M → List E → Type 0
  ServesEach machine [] endings next edits = (endings ≡ []) × (next ≡ machine) × (edits ≡ [])
  ServesEach machine (passed ∷ connections) endings next edits =
      (ending : CloseReason) × (others : List CloseReason) × (mid : M) × (first : List E)
      × (later : List E)
      × (endings ≡ ending ∷ others) × (edits ≡ first ++ later)
      × ServesConnection ending machine passed mid first
      × ServesEach mid connections others next later

  -- All connections, where each failure is one of the reads or writes that failed.
  pub record ServesAll (old new : MachineAndFaults M) (connections : List Traffic)
      (edits : List E) : Type 0 where
    pub endings : List CloseReason
    pub each : ServesEach old.machine connections endings new.machine edits
    pub read_bound : CountRisesBy (read_failures endings) old.read_faults new.read_faults
    pub write_bound : CountRisesBy (write_failures endings) old.write_faults new.write_faults

-- These are all bytes of a connection with this traffic: those given, and those left, of which
-- there are none where a read found the end.
abbrev pub AreAllBytesOf : List ℕ → Traffic → Type 0
AreAllBytesOf bytes passed =
    (left : List ℕ) × (bytes ≡ passed.given ++ left) × (passed.ended ≡ true → left ≡ [])

-- each list has all bytes of the connection at its place
abbrev pub AreAllBytesOfEach : List (List ℕ) → List Traffic → Type 0
AreAllBytesOfEach [] [] = Unit {0}
AreAllBytesOfEach (bytes ∷ all) (passed ∷ connections) =
    AreAllBytesOf bytes passed × AreAllBytesOfEach all connections
AreAllBytesOfEach all connections = ⊥

-- the traffic that counts for a connection with these bytes that ended so: all bytes, as if they
-- had been given and the end been found; where a read failed, the bytes given alone
abbrev pub counted_traffic : CloseReason → List ℕ → Traffic → Traffic
counted_traffic ReadFailed bytes passed = passed
counted_traffic _ bytes passed = record passed { given = bytes; ended = true }

-- the traffic that counts for each connection
abbrev pub counted_traffics : List Traffic → List (List ℕ) → List CloseReason → List Traffic
counted_traffics [] all endings = []
counted_traffics (passed ∷ connections) [] endings = passed ∷ connections
counted_traffics (passed ∷ connections) (bytes ∷ all) [] = passed ∷ connections
counted_traffics (passed ∷ connections) (bytes ∷ all) (ending ∷ endings) =
    counted_traffic ending bytes passed ∷ counted_traffics connections all endings

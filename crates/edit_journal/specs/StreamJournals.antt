-- A journal over a sink, as its callers see it. This is the project's own.
use Rattle.std.specs.Prelude.{ℕ, ◌-◌, ◌∷◌, length, drop, take}
use Rattle.std.specs.Borrow.{GName}
use Rattle.xcap_io.specs.StreamStates.{StreamState}
use Rattle.xcap_io.specs.StreamPairs.{output_hidden_state}
use Rattle.edit_journal.specs.Journals.{JournalState}

-- A journal that wrote the last `len` bytes that the sink took.
abbrev pub stream_journal_state : StreamState → GName → ℕ → ℕ → JournalState
stream_journal_state sink name len faults = record {
  held = drop (length sink.taken - len) sink.taken;
  before = take (length sink.taken - len) sink.taken;
  faults = faults;
  beneath = sink.write_faults;
  holds = name ∷ sink.holds;
  aside = output_hidden_state sink ∷ sink.aside;
}

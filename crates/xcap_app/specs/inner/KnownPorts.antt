-- A port whose connections are known before, and on which replies are discarded. The project's
-- own.
use Rattle.std.specs.Prelude.{ℕ, List, [], None, Some}
use Rattle.xcap_io.specs.StreamStates.{StreamState, no_peer}
use Rattle.xcap_io.specs.ConnectionHistories.{ConnectionHistory}

-- These connections are to come, and of the current one these bytes are left. It never fails, and
-- has no address.
abbrev pub port_line : List (List ℕ) → List ℕ → ConnectionHistory → StreamState
port_line to_come left history = record {
  inward = record { left = Some left; given = history.now.given; ended = history.now.ended };
  taken = history.now.taken;
  read_faults = 0;
  write_faults = 0;
  holds = [];
  aside = [];
  port = record {
    listening = None;
    to_come = Some to_come;
    begun = record { earlier = history.earlier; is_present = history.is_present };
    faults = 0;
  };
  peer = no_peer;
}

-- What contracts see of a source and a sink joined to one stream. This is the project's own.
use Rattle.std.specs.Prelude.{List, [], ◌∷◌, ◌++◌, length}
use Rattle.std.specs.Borrow.{GName}
use Rattle.xcap_io.specs.StreamStates.{HiddenState, StreamState, no_input, no_peer, no_port}

-- what reads of an input don't touch
abbrev pub input_hidden_state : StreamState → HiddenState
input_hidden_state input =
    record {
      inward = no_input;
      taken = input.taken;
      faults = input.write_faults;
      port = input.port;
      peer = input.peer;
      holds = length input.holds;
      aside = length input.aside;
    }

-- what writes to an output don't touch
abbrev pub output_hidden_state : StreamState → HiddenState
output_hidden_state output =
    record {
      inward = output.inward;
      taken = [];
      faults = output.read_faults;
      port = output.port;
      peer = output.peer;
      holds = length output.holds;
      aside = length output.aside;
    }

-- The two as one stream: it gives what the input gives, and takes what the output takes.
abbrev pub pair_state : StreamState → StreamState → List GName → StreamState
pair_state input output names = record {
  inward = input.inward;
  taken = output.taken;
  read_faults = input.read_faults;
  write_faults = output.write_faults;
  holds = names ++ (input.holds ++ output.holds);
  aside = input_hidden_state input ∷ output_hidden_state output ∷ (input.aside ++ output.aside);
  port = no_port;
  peer = no_peer;
}

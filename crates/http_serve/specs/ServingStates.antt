-- What connections are served with, at one moment. This is the project's own.
use Rattle.xcap_io.specs.StreamStates.{StreamState}

-- the machine that answers, the byte stream or the port, and the watchers of the machine's edits
pub record ServingState (M W : Type 0) : Type 0 where
  pub machine : M
  pub stream : StreamState
  pub watchers : W

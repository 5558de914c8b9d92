-- The head of a request at the front of a connection's bytes (RFC 9112, sections 2 to 5), by the
-- grammar of `httparse` and within this server's limits.
use Rattle.std.specs.Prelude.{ℕ, ◌≤◌, List, length}
use Rattle.httparse.specs.Grammar.{RequestHead, ReadsRequest, print_request}
use Rattle.http_wire.specs.declared.limits.TheConstants.{MAX_FIELD_LINES, MAX_HEAD_BYTES}

-- the bytes are a head within the limits, and then rest
pub record BeginsWithHead (bytes : List ℕ) (head : RequestHead) (rest : List ℕ) : Type 0 where
  pub reads : ReadsRequest bytes head rest
  pub short : length (print_request head) ≤ MAX_HEAD_BYTES
  pub few : length head.fields ≤ MAX_FIELD_LINES

-- no prefix of the bytes is a head within the limits
abbrev pub HasNoHead : List ℕ → Type 0
HasNoHead bytes = (head : RequestHead) (rest : List ℕ) → ¬ (BeginsWithHead bytes head rest)

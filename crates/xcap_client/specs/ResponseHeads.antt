-- The head of a response at the front of a connection's bytes (RFC 9112, sections 2, 4 and 5), by
-- the grammar of `httparse` and within the limits of any head.
use Rattle.std.specs.Prelude.{ℕ, ◌≤◌, List, length}
use Rattle.httparse.specs.Grammar.{ResponseHead, ReadsResponse, print_response}
use Rattle.http_wire.specs.declared.limits.TheConstants.{MAX_FIELD_LINES, MAX_HEAD_BYTES}

-- the bytes are a head within the limits, and then the rest
pub record BeginsWithHead (bytes : List ℕ) (head : ResponseHead) (rest : List ℕ) : Type 0 where
  pub reads : ReadsResponse bytes head rest
  pub short : length (print_response head) ≤ MAX_HEAD_BYTES
  pub few : length head.fields ≤ MAX_FIELD_LINES

-- no prefix of the bytes is such a head
abbrev pub HasNoHead : List ℕ → Type 0
HasNoHead bytes = (head : ResponseHead) (rest : List ℕ) → ¬ (BeginsWithHead bytes head rest)

-- What a port or a peer over sockets does with the stream of its present connection. This is the
-- project's own.
use Rattle.std.specs.Prelude.{◌≡◌, ℕ, List, Option, None, MatchOption, Result, IsErr}
use Rattle.std.specs.Io.KnownBytes.{ReadConsumes, WriteAppends}

-- A stream of this type, where there is one, before and after a call, and the bytes that it shows.
pub record StreamChange (S : Type 0) : Type 0 where
  pub bytes : S → Option (List ℕ)
  pub old : Option S
  pub new : Option S

-- The bytes come from the stream, as far as it shows its bytes. A read without a stream fails, and
-- no stream comes or goes.
abbrev pub ReadsStream : {S E : Type 0} → StreamChange S → Result ℕ E → List ℕ → Type 0
ReadsStream change result buf = MatchOption change.old
    ((change.new ≡ None) × IsErr result)
    (λ old. MatchOption change.new ⊥ (λ new.
    ReadConsumes (change.bytes old) (change.bytes new) result buf))

-- The bytes go to the stream, as far as it shows its bytes. A write without a stream fails, and no
-- stream comes or goes.
abbrev pub WritesStream : {S E : Type 0} → StreamChange S → Result ℕ E → List ℕ → Type 0
WritesStream change result piece = MatchOption change.old
    ((change.new ≡ None) × IsErr result)
    (λ old. MatchOption change.new ⊥ (λ new.
    WriteAppends (change.bytes old) (change.bytes new) result piece))

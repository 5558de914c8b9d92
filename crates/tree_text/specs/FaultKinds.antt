-- Which fault kinds are faults, and which of two at one place counts.
use Rattle.std.specs.Prelude.{ℕ, Bool, true, nat_lt}
use Rattle.xml_grammar.specs.ParseResults.{FaultRanking}
use Rattle.xml_tokens.specs.declared.fault_kind.FaultKind.{FaultKind}
use Rattle.xml_tokens.specs.declared.fault_kind.FaultKind.TheVariants.{Encoded, Doctyped, Depth}
use Rattle.xml_tokens.specs.declared.fault_kind.FaultKind.TheVariants.{Unbound, Repeated}

-- a start tag is a fault where it is deeper than the limit, the other kinds always
abbrev pub is_fault : ℕ → FaultKind → Bool
is_fault limit (Depth depth) = nat_lt limit depth
is_fault limit _ = true

-- Of two faults at one place the one with the lesser rank counts: `Unbound` for a declaration
-- that isn't allowed and repeats a prefix. No two kinds have the same rank, so there is one
-- answer.
abbrev pub rank : FaultKind → ℕ
rank (Depth depth) = 0
rank Unbound = 1
rank Repeated = 2
rank Encoded = 3
rank Doctyped = 4

abbrev pub fault_ranking : ℕ → FaultRanking FaultKind
fault_ranking limit = record { is_fault = is_fault limit; rank = rank }

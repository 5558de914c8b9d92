use Rattle.std.proofs.Common.{rules, ◌≡◌, ℕ, List, take, subst, arith, length-take}
use Rattle.std.proofs.lemmas.Grind.{common_steps}
use Rattle.httparse.specs.Grammar.{HasNoRequest}
use Rattle.http_wire.proofs.Fronts.{never_behind_full, never_behind_error, head_in_front}
use Rattle.http_wire.proofs.head_scan.scan_head.Goals as goal

pub returns-in-Ok-Complete : goal.returns-in-Ok-Complete
returns-in-Ok-Complete c = record {
  head_of_bytes =
      let front : List ℕ = take c.min.result c.args.bytes.now in
      let inside = rw c.in-Ok-Complete.field-0-is at c.in-Ok-Complete.ensures.within in
      let parts = rw c.in-Ok-Complete.field-0-is at c.in-Ok-Complete.ensures.complete in
      head_in_front c.args.bytes.now c.min.result c.parse_request.new.headers c.in-Ok-Complete.spans (search rules) (omega (arith, length-take c.min.result c.args.bytes.now)) inside parts;
}

pub returns-in_default : goal.returns-in_default
returns-in_default c = record {
  head_of_bytes =
      let none = rw c.in-Ok-Partial.field-0-is at c.in-Ok-Partial.ensures.partial in
      let full : c.min.result ≡ 16_384 = omega (arith, c.if-bytes-lt-MAX_HEAD_BYTES.false) in
      (never_behind_full c.args.bytes.now c.if-bytes-lt-MAX_HEAD_BYTES.false (subst (λ (n : ℕ). HasNoRequest (take n c.args.bytes.now)) full none), omega arith);
}

pub returns-in_default-2 : goal.returns-in_default-2
returns-in_default-2 c = record { head_of_bytes = (never_behind_error c.args.bytes.now c.min.result (rw c.requires at c.in-Err.ensures.no_room), grind (arith, common_steps)) }

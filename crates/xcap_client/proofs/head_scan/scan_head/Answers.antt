use Rattle.std.proofs.Common.{rules, ◌≡◌, ℕ, take, subst, arith, length-take}
use Rattle.httparse.specs.Grammar.{HasNoResponse}
use Rattle.xcap_client.proofs.Fronts.{never_behind_full, never_behind_error, head_in_front}
use Rattle.xcap_client.proofs.head_scan.scan_head.Goals as goal

pub returns-in-Ok-Complete : goal.returns-in-Ok-Complete
returns-in-Ok-Complete c = record {
  head_of_bytes =
      let inside = rw c.in-Ok-Complete.field-0-is at c.in-Ok-Complete.ensures.within in
      let parts = rw c.in-Ok-Complete.field-0-is at c.in-Ok-Complete.ensures.complete in
      head_in_front c.args.bytes.now c.min.result c.parse_response.new.headers c.in-Ok-Complete.spans (search rules) (omega (arith, length-take c.min.result c.args.bytes.now)) inside parts;
}

pub returns-in_default : goal.returns-in_default
returns-in_default c = record {
  head_of_bytes =
      let none = rw c.in-Ok-Partial.field-0-is at c.in-Ok-Partial.ensures.partial in
      let full : c.min.result ≡ 16_384 = omega (arith, c.if-bytes-lt-MAX_HEAD_BYTES.false) in
      never_behind_full c.args.bytes.now c.if-bytes-lt-MAX_HEAD_BYTES.false (subst (λ (n : ℕ). HasNoResponse (take n c.args.bytes.now)) full none);
}

pub returns-in-Err : goal.returns-in-Err
returns-in-Err c = record {
  head_of_bytes = never_behind_error c.args.bytes.now c.min.result (rw c.requires at c.in-Err.ensures.no_room);
}

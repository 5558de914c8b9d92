use Rattle.std.proofs.Common.{◌≡◌, ◌==◌, drop, false, ap, sym, ◌∙◌}
use Rattle.std.proofs.lemmas.List.{take_rest}
use Rattle.std.specs.List.{list_any}
use Rattle.httparse.specs.Ascii.{line_feed}
use Rattle.xcap_client.proofs.Fronts.{no_head_without_feed}
use Rattle.xcap_client.proofs.head_scan.rescan_head.Goals as goal

pub returns-then-not-contains : goal.returns-then-not-contains
returns-then-not-contains c = record {
  head_of_all =
      let none : list_any (λ b. b == line_feed) (drop c.args.seen c.args.bytes.now) ≡ false =
      ap (list_any (λ b. b == line_feed)) (sym (take_rest c.args.bytes.now c.args.seen)) ∙ sym c.contains.ensures.value ∙ c.if-not-contains.true in
      (no_head_without_feed c.args.bytes.now c.args.seen c.requires.inside c.requires.no_head_yet none, c.if-bytes-lt-MAX_HEAD_BYTES.true);
}

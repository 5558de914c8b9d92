use Rattle.std.proofs.Common.{chars, sym}
use Rattle.xml_tokens.specs.readers.CharacterRuns.{is_plain_in_content}
use Rattle.xml_tokens.proofs.PlainFronts.{plain_chars}
use Rattle.tree_text.proofs.ContentFronts.{chars_onto}
use Rattle.xml_tokens.proofs.TextBytes.{run_whole, run_all}
use Rattle.tree_text.proofs.elements.push_non_empty_run.Goals as goal

pub returns-then-run_ends : goal.returns-then-run_ends
returns-then-run_ends c = record {
  reads_onto =
      let text = chars c.args.text.now in
      let plain = chars c.run.result.0.now in
      let rest = chars c.run.result.1.now in
      let front = c.run.ensures.front_of_run in
      rw (c.in_ok-push_plain.ensures.appends_chars, c.in_ok-plain.ensures.same_chars) (chars_onto c.args.element.now text plain rest
      (plain_chars text plain rest (run_whole is_plain_in_content text plain rest front c.run.ensures.rest_after_run) (run_all is_plain_in_content text plain front) (sym c.if-run_ends.ensures.exact)));
}

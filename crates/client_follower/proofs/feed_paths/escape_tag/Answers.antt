use Rattle.std.proofs.Common.{List, ℕ, ◌++◌, ap, ◌∙◌}
use Rattle.std.specs.Str.{chars}
use Rattle.std.proofs.lemmas.Str.{chars-IsAscii}
use Rattle.doc_names.specs.PercentEscapes.{escape_part}
use Rattle.doc_names.proofs.AsciiPrints.{part_letters}
use Rattle.client_follower.proofs.feed_paths.escape_tag.Goals as goal

pub returns : goal.returns
returns c = record {
  ok =
      let part : List ℕ = escape_part c.args.tag.now in
      c.own.ensures.exact
      ∙ ap chars (c.in_ok-push_escaped_part.ensures.appended ∙ ap (λ (l : List ℕ). l ++ part) c.new-part.ensures.bytes)
      ∙ chars-IsAscii part (part_letters c.args.tag.now);
}

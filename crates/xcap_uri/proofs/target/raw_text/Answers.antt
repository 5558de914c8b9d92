use Rattle.std.proofs.Common.{List, ℕ, ◌++◌, option_map, ap, ◌∙◌}
use Rattle.std.specs.Str.{chars}
use Rattle.doc_names.specs.PercentEscapes.{escape_octets, is_visible}
use Rattle.xcap_uri.specs.Targets.{with_query}
use Rattle.doc_names.proofs.AsciiPrints.{visible_letters}
use Rattle.xcap_uri.proofs.target.raw_text.Goals as goal

pub returns-in_ok-push_raw-in-Some : goal.returns-in_ok-push_raw-in-Some
returns-in_ok-push_raw-in-Some c = record {
  ok =
      let octets = with_query c.in-Some.selector.now (option_map (λ x. x.now) c.args.query) in
      let bytes = c.in_ok-push_raw-in-Some.ensures.appended ∙ ap (λ (l : List ℕ). l ++ escape_octets is_visible octets) c.new-line.ensures.bytes in
      rw c.in-Some.is (c.own.ensures.exact ∙ ap chars bytes ∙ visible_letters octets);
}

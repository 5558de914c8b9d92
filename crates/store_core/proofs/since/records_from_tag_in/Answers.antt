use Rattle.std.proofs.Common.{Some, ap, ◌∙◌}
use Rattle.store_core.specs.Since.{notes_from}
use Rattle.store_core.proofs.TellingSince.{in-newer, in-older}
use Rattle.store_core.proofs.since.records_from_tag_in.Goals as goal

pub returns-in-Some : goal.returns-in-Some
returns-in-Some c = record {
  exact =
      let pieces = c.pieces.result in
      ap Some c.from_pieces.ensures.joins_pieces ∙ in-older c.args.tag pieces.0.now pieces.1.now c.in-Some.found.now c.in-Some.ensures.exact ∙ ap (notes_from c.args.tag) c.pieces.ensures.exact;
}

pub returns-in-None : goal.returns-in-None
returns-in-None c = record {
  exact =
      let pieces = c.pieces.result in
      c.newer_records_from_tag.ensures.exact ∙ in-newer c.args.tag pieces.0.now pieces.1.now c.in-None.ensures.exact ∙ ap (notes_from c.args.tag) c.pieces.ensures.exact;
}

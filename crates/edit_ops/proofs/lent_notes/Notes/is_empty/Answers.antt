use Rattle.std.proofs.Common.{◌∙◌, ap}
use Rattle.edit_ops.specs.RecordParts.{has_no_notes}
use Rattle.edit_ops.proofs.NotePieces.{none-older, some-older}
use Rattle.edit_ops.proofs.lent_notes.Notes.is_empty.Goals as goal

pub returns-then-is_empty : goal.returns-then-is_empty
returns-then-is_empty c = record {
  exact =
      let notes = c.self.inside in
      none-older notes.older.now notes.newer.now c.is_empty.result c.is_empty-then-is_empty.result c.is_empty.ensures c.if-is_empty.true c.is_empty-then-is_empty.ensures ∙ ap has_no_notes c.self.view_is;
}

pub returns-else-is_empty : goal.returns-else-is_empty
returns-else-is_empty c = record {
  exact =
      let notes = c.self.inside in
      some-older notes.older.now notes.newer.now c.is_empty.result c.is_empty.ensures c.if-is_empty.false ∙ ap has_no_notes c.self.view_is;
}

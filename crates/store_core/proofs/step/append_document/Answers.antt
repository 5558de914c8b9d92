use Rattle.std.proofs.Common.{◌∙◌}
use Rattle.indexmap.proofs.CallerLemmas.{insert_entry-new}
use Rattle.doc_names.specs.contracts.doc_id.DocIdPartialEq.TheImpl.{eq-value}
use Rattle.store_core.proofs.DocumentMaps.{looked-up}
use Rattle.store_core.proofs.step.append_document.Goals as goal

pub returns : goal.returns
returns c = record {
  appends_entry =
      let entries = rw c.unwrap.ensures at c.insert.ensures.entries in
      entries ∙ insert_entry-new eq-value.it c.args.documents.now c.args.doc c.args.entry (looked-up c.args.doc c.args.documents.now.entries ∙ c.requires.absent);
}

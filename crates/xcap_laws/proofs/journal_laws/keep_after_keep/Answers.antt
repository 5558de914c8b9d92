use Rattle.xcap_laws.proofs.KeptJournals as journals
use Rattle.xcap_laws.proofs.journal_laws.keep_after_keep.Goals as goal

pub returns : goal.returns
returns g c = record {
  writes_records = journals.writes_records g.W.Watchers.keeps;
  never_refused = journals.never_refused g.W.Watchers.keeps;
  comes_back = journals.comes_back;
  goes_on = journals.goes_on g.W.Watchers.keeps;
}

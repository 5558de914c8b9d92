use Rattle.edit_rules.proofs.Twice.{put_is}
use Rattle.edit_rules.proofs.puts_and_deletes.what_was_put_is_selected.Goals as goal

pub returns : goal.returns
returns c = record {
  put_is_selected = λ k spot e change h. let p = put_is k.usage k.document k.steps spot e change h in (p.path, p.selects, p.there);
  without_fault = λ k spot e change h. (put_is k.usage k.document k.steps spot e change h).faultless;
}

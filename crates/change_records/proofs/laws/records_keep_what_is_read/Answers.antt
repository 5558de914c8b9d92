use Rattle.change_records.proofs.KeptFields.{all_known, no_authorization, no_cookie, same_values}
use Rattle.change_records.proofs.laws.records_keep_what_is_read.Goals as goal

pub returns : goal.returns
returns c = record {
  all_values = λ known request. same_values known request.fields;
  none_else = λ request. all_known request.fields;
  no_authorization = no_authorization;
  no_cookie = no_cookie;
}

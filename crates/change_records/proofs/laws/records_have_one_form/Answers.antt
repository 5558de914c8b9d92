use Rattle.change_records.proofs.FormReadings.{record_form, recordable}
use Rattle.change_records.proofs.ReadBack.{request_back}
use Rattle.change_records.proofs.laws.records_have_one_form.Goals as goal

pub returns : goal.returns
returns c = record {
  read_back = request_back;
  one_form = λ bytes request are is. (record_form bytes request are is).is;
  as_recorded = λ bytes request are is. (record_form bytes request are is).same;
  recordable = λ bytes request are short is. recordable bytes request (record_form bytes request are is) short;
}

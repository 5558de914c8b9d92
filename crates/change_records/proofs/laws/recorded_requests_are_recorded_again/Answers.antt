use Rattle.change_records.proofs.Again.{kept_request_again, record_again, recordable_again}
use Rattle.change_records.proofs.laws.recorded_requests_are_recorded_again.Goals as goal

pub returns : goal.returns
returns c = record {
  same_record = record_again;
  given_again = kept_request_again;
  still_recordable = recordable_again;
}

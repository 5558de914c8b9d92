use Rattle.change_records.proofs.record_reading.+read_fields.Given as goal

abbrev pub decreases-read_fields : goal.decreases-read_fields
decreases-read_fields l = l.count

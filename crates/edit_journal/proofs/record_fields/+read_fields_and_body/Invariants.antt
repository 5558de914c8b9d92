use Rattle.edit_journal.proofs.record_fields.+read_fields_and_body.Given as goal

abbrev pub decreases-read_fields_and_body : goal.decreases-read_fields_and_body
decreases-read_fields_and_body l = l.count

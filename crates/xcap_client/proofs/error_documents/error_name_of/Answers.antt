use Rattle.xcap_client.proofs.ErrorNames.{named, unnamed}
use Rattle.xcap_client.proofs.error_documents.error_name_of.Goals as goal

pub returns-in-Ok : goal.returns-in-Ok
returns-in-Ok c = record { names_error = named c.args.body.now c.in-Ok.root c.error_name_in.result c.in-Ok.ensures.grammar_answer c.error_name_in.ensures.ok }

pub returns-in-Err-Fault : goal.returns-in-Err-Fault
returns-in-Err-Fault c = record { names_error = unnamed c.args.body.now c.in-Err-Fault.field-0 _ c.in-Err-Fault.field-0-is c.in-Err-Fault.ensures.grammar_answer }

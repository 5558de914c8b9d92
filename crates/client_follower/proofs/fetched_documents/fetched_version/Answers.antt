use Rattle.std.proofs.Common.{refl, ap, ◌∙◌}
use Rattle.std.specs.Prelude.{Ok, Err}
use Rattle.std.proofs.lemmas.Result.{err_from_is_err_and}
use Rattle.client_follower.proofs.ResponseContents.{document_taken}
use Rattle.client_follower.proofs.fetched_documents.fetched_version.Goals as goal

pub returns-in_err-read_version-in-Ok-clause-takes_document : goal.returns-in_err-read_version-in-Ok-clause-takes_document
returns-in_err-read_version-in-Ok-clause-takes_document c =
    let p = err_from_is_err_and c.from_residual.result c.from_residual.ensures.1 in
    document_taken c.args.given c.in-Ok.response (Err c.in_err-read_version-in-Ok.field-0.0) c.from_residual.result c.in-Ok.is c.in_err-read_version-in-Ok.ensures.brings_version (p.1 ∙ ap Err p.2)

pub returns-in_ok-read_version-in-Ok-clause-takes_document : goal.returns-in_ok-read_version-in-Ok-clause-takes_document
returns-in_ok-read_version-in-Ok-clause-takes_document c =
    document_taken c.args.given c.in-Ok.response (Ok c.in_ok-read_version-in-Ok.field-0) _ c.in-Ok.is c.in_ok-read_version-in-Ok.ensures.brings_version refl

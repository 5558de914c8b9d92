use Rattle.std.proofs.Common.{ap, ◌∙◌}
use Rattle.std.specs.Prelude.{Err}
use Rattle.std.proofs.lemmas.Result.{err_from_is_err_and}
use Rattle.client_follower.proofs.ResponseContents.{text_refused, text_taken}
use Rattle.client_follower.proofs.fetched_documents.read_version.Goals as goal

pub returns-in_err-root-clause-brings_version : goal.returns-in_err-root-clause-brings_version
returns-in_err-root-clause-brings_version c =
    let p = err_from_is_err_and c.from_residual.result c.from_residual.ensures.1 in
    text_refused c.args.response c.in-Some.tag c.as_slice.result.now c.in_err-root.field-0.0 c.from_residual.result c.in-Some.is c.as_slice.ensures.exact c.in_err-root.ensures.grammar_answer (p.1 ∙ ap Err p.2)

pub returns-clause-brings_version : goal.returns-clause-brings_version
returns-clause-brings_version c =
    text_taken c.args.response c.in-Some.tag c.as_slice.result.now c.in_ok-root.root c.in-Some.is c.as_slice.ensures.exact c.in_ok-root.ensures.grammar_answer

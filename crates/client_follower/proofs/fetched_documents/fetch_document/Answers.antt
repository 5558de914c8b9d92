use Rattle.std.proofs.Common.{refl, ap, ◌∙◌}
use Rattle.std.specs.Prelude.{Err}
use Rattle.std.proofs.lemmas.Result.{err_from_is_err_and}
use Rattle.xcap_client.specs.declared.client_fault.ClientFault.TheVariants.{NoMemory}
use Rattle.xcap_client.specs.Exchanges.{not_begun}
use Rattle.client_follower.proofs.fetched_documents.fetch_document.Goals as goal

pub returns-in_err-path-clause-fetches_document : goal.returns-in_err-path-clause-fetches_document
returns-in_err-path-clause-fetches_document g c =
    let p = err_from_is_err_and c.from_residual.result c.from_residual.ensures.1 in record {
      given = Err NoMemory;
      calls = record { given = Err NoMemory; exchanges = not_begun refl refl; judged = refl };
      takes = p.1 ∙ ap Err p.2;
    }

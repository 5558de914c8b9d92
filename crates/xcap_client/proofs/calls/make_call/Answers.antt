use Rattle.std.proofs.Common.{ap, ◌∙◌}
use Rattle.std.specs.Prelude.{Ok, Err}
use Rattle.std.proofs.lemmas.Result.{err_from_is_err_and}
use Rattle.xcap_client.proofs.calls.make_call.Goals as goal

pub returns : goal.returns
returns g c = record {
  one_exchange_judged = record {
    given = Ok c.in_ok-response.response;
    exchanges = c.in_ok-response.ensures.one_exchange;
    judged = c.judge_response.ensures.judged_by_status;
  };
}

pub returns-in_err-response : goal.returns-in_err-response
returns-in_err-response g c = record {
  one_exchange_judged =
      let p = err_from_is_err_and c.from_residual.result c.from_residual.ensures.1 in
      record {
        given = Err c.in_err-response.field-0.0;
        exchanges = c.in_err-response.ensures.one_exchange;
        judged = p.1 ∙ ap Err p.2;
      };
}

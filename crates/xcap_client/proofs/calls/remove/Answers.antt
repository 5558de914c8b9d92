use Rattle.std.proofs.Common.{refl, subst, ap, ◌∙◌}
use Rattle.std.specs.Prelude.{Err}
use Rattle.std.proofs.lemmas.Result.{err_from_is_err_and}
use Rattle.xcap_client.specs.declared.request.Ask.{Ask}
use Rattle.xcap_client.specs.declared.client_fault.ClientFault.TheVariants.{NoMemory}
use Rattle.xcap_client.specs.Calls.{MakesCall}
use Rattle.xcap_client.specs.Exchanges.{not_begun}
use Rattle.xcap_client.proofs.calls.remove.Goals as goal

pub returns : goal.returns
returns g c = record {
  calls_delete = subst (λ (ask : Ask). MakesCall c.args.root.now ask (g.C.Line.state c.args.peer.now) (g.C.Line.state c.make_call.new.peer) c.make_call.result) c.in_ok-ask.ensures.ok c.make_call.ensures.one_exchange_judged;
}

pub returns-in_err-ask : goal.returns-in_err-ask
returns-in_err-ask g c = record {
  calls_delete =
      let p = err_from_is_err_and c.from_residual.result c.from_residual.ensures.1 in
      record { given = Err NoMemory; exchanges = not_begun refl refl; judged = p.1 ∙ ap Err p.2 };
}

use Rattle.std.proofs.Common.{refl, sym, subst}
use Rattle.xcap_client.specs.Requests.{IsLawfulAsk}
use Rattle.xcap_client.proofs.Words.{put, putting_is_lawful}
use Rattle.xcap_client.proofs.asks.put_ask.Goals as goal

pub returns-clause-ok : goal.returns-clause-ok
returns-clause-ok c = rw (c.in_ok-ask.ensures.ok, put, c.in_ok-media.ensures.same_chars, c.in_ok-body.ensures.same_bytes) refl

pub returns-clause-lawful_ask : goal.returns-clause-lawful_ask
returns-clause-lawful_ask c = subst IsLawfulAsk (sym (returns-clause-ok c)) (putting_is_lawful _ _ _ _)

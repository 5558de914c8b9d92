use Rattle.xcap_client.proofs.Words.{get, is_lawful, getting_is_lawful}
use Rattle.xcap_client.proofs.asks.get_ask.Goals as goal

pub returns-clause-ok : goal.returns-clause-ok
returns-clause-ok c = rw get at c.bodiless_ask.ensures.ok

pub returns-clause-lawful_ask : goal.returns-clause-lawful_ask
returns-clause-lawful_ask c = is_lawful _ c.bodiless_ask.result (getting_is_lawful _ _) (returns-clause-ok c)

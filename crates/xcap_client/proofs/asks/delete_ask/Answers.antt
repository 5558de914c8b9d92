use Rattle.xcap_client.proofs.Words.{delete, is_lawful, removing_is_lawful}
use Rattle.xcap_client.proofs.asks.delete_ask.Goals as goal

pub returns-clause-ok : goal.returns-clause-ok
returns-clause-ok c = rw delete at c.bodiless_ask.ensures.ok

pub returns-clause-lawful_ask : goal.returns-clause-lawful_ask
returns-clause-lawful_ask c = is_lawful _ c.bodiless_ask.result (removing_is_lawful _ _) (returns-clause-ok c)

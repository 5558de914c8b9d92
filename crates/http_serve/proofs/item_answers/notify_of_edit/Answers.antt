use Rattle.http_serve.proofs.item_answers.notify_of_edit.Goals as goal

pub returns : goal.returns
returns g c = record { notifies_watchers = rw c.in-Some.is c.notify.ensures.notifies_change }

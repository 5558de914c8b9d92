use Rattle.std.proofs.Common.{◌∙◌}
use Rattle.reply_bodies.proofs.ConflictBytes.{document_is}
use Rattle.reply_bodies.proofs.conflicts.error_document.Goals as goal

pub returns-clause-prints_error : goal.returns-clause-prints_error
returns-clause-prints_error c = λ named. c.in_ok-document.ensures.ok ∙ document_is c.args.body.now named

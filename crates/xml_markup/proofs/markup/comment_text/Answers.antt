use Rattle.std.proofs.Common.{chars}
use Rattle.xml_markup.proofs.CommentLemmas.{read_is_comment}
use Rattle.xml_markup.proofs.markup.comment_text.Goals as goal

pub returns-clause-keepable_comment : goal.returns-clause-keepable_comment
returns-clause-keepable_comment c = read_is_comment (chars c.in_ok-rest.rest.now) ((chars c.in_ok-inside.inside.now), (chars c.in_ok-inside.rest.now)) c.in_ok-inside.ensures.reads_rule

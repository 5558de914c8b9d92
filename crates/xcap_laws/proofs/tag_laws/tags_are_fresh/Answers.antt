use Rattle.xcap_laws.proofs.FreshTags.{above_changes, above_versions, number_is_tag}
use Rattle.xcap_laws.proofs.ReplyTags.{above_replies}
use Rattle.xcap_laws.proofs.tag_laws.tags_are_fresh.Goals as goal

pub returns-clause-number_is_tag : goal.returns-clause-number_is_tag
returns-clause-number_is_tag c = number_is_tag

pub returns-clause-above_versions : goal.returns-clause-above_versions
returns-clause-above_versions c = above_versions

pub returns-clause-above_changes : goal.returns-clause-above_changes
returns-clause-above_changes c = above_changes

pub returns-clause-above_replies : goal.returns-clause-above_replies
returns-clause-above_replies c = above_replies

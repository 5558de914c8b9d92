use Rattle.doc_names.specs.Usages.{usage_of}
use Rattle.xcap_put.proofs.StoredAnswers.{sound_one}
use Rattle.xcap_put.proofs.nodes.version_of.Goals as goal

pub returns-clause-stored_sound : goal.returns-clause-stored_sound
returns-clause-stored_sound c = sound_one (usage_of c.args.doc.now.auid) c.args.usage c.requires.usage_of_doc c.get.result c.get.ensures.tree_is_sound

use Rattle.xcap_put.proofs.PutTrees.{asks_put, put_so}
use Rattle.xcap_put.proofs.documents.put_tree.Goals as goal

pub decide_change-requires : goal.decide_change-requires
decide_change-requires c = record {
  change_asked = asks_put c.args.store.now.content c.args.doc c.args.root c.args.closes c.args.exists c.requires.exists_iff
      c.put_change.result c.put_change.ensures.replaces_or_creates c.requires.readable c.requires.user_document c.args.usage c.requires.usage_of_doc c.requires.may_be;
}

pub returns-clause-decides_put : goal.returns-clause-decides_put
returns-clause-decides_put c =
    put_so c.args.store.now.content c.args.doc c.args.root c.args.closes c.args.exists c.requires.exists_iff
    c.put_change.result c.put_change.ensures.replaces_or_creates c.decide_change.new.store c.decide_change.result c.decide_change.ensures.decides_change

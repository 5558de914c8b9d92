use Rattle.client_theorem.proofs.Addresses.{means_feed}
use Rattle.client_theorem.proofs.FeedRights.{allowed, reads}
use Rattle.client_theorem.proofs.laws.requests_ask_for_feeds.Goals as goal

pub returns : goal.returns
returns c = record {
  asks_feed = λ mode tag n has is_tag. record {
    target = means_feed c.args.root.now mode n tag c.args.doc.now has is_tag (c.printed_id_reads_back.ensures.below_whole_root has.readable);
    method = reads;
    allowed = allowed c.args.doc.now.auid c.args.doc.now.home;
  };
}

use Rattle.std.proofs.Common.{refl}
use Rattle.xcap_uri.specs.Roots.{authority_of, path_of}
use Rattle.xcap_laws.proofs.FollowedRounds.{converges}
use Rattle.xcap_laws.proofs.follower_laws.followers_converge.Goals as goal

pub returns : goal.returns
returns c =
    let root = c.args.root.now in
    let spelled = (c.roots_are_spelled_by_the_grammar.ensures.root_by_pieces root (authority_of root) (path_of root)).1 (c.text-text.ensures.valid_root_text, refl, refl) in
    record { holds_present = converges root c.args.doc.now spelled c.printed_id_reads_back.ensures.below_root_path c.requests_ask_for_feeds.ensures.asks_feed }

use Rattle.std.proofs.Common.{ap, sym, subst, ◌∙◌}
use Rattle.xcap_uri.specs.Numerals.{numeral_of}
use Rattle.patch_apply.specs.Views.{replica_view}
use Rattle.client_theorem.specs.FeedRequests.{AsksForFeed}
use Rattle.client_theorem.proofs.FeedReplies.{none_there, one_there}
use Rattle.client_theorem.proofs.replica_updates.request_since.Goals as goal

pub returns-then-is_none : goal.returns-then-is_none
returns-then-is_none c =
    let tag = c.in-Some.held.tag in
    let parse_numeral = c.parse_numeral.ensures.exact ∙ ap numeral_of (c.as_bytes.ensures.value ∙ c.as_str.ensures.utf8_bytes) in
    record {
      asks_since = ((tag, c.in-Some.held.root), ap replica_view c.in-Some.is, sym parse_numeral ∙ none_there c.parse_numeral.result c.is_none.result c.is_none.ensures c.if-is_none.true);
    }

pub returns : goal.returns
returns c =
    let tag = c.in-Some.held.tag in
    let parse_numeral = c.parse_numeral.ensures.exact ∙ ap numeral_of (c.as_bytes.ensures.value ∙ c.as_str.ensures.utf8_bytes) in
    let number = one_there c.parse_numeral.result c.is_none.result c.is_none.ensures c.if-is_none.false in
    let is_tag = sym parse_numeral ∙ number.1 in
    record {
      asks_since = record {
        version = (tag, c.in-Some.held.root);
        is_held = ap replica_view c.in-Some.is;
        number = number.0;
        is_tag = is_tag;
        is_request = c.in_ok-request.ensures.ok;
        asks =
            subst (AsksForFeed c.args.root.now c.args.mode number.0 c.args.doc.now) (sym c.in_ok-request.ensures.ok)
            (c.requests_ask_for_feeds.ensures.asks_feed c.args.mode tag number.0 c.requires.has_feed is_tag);
      };
    }

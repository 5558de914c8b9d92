use Rattle.std.proofs.Common.{◌≡◌, true, fold, ap, ◌∙◌, arith}
use Rattle.std.proofs.lemmas.Grind.{common_steps}
use Rattle.usage_docs.specs.declared.address_states.AddressState.TheVariants.{Start}
use Rattle.usage_docs.specs.readers.AddressStates.{is_trimmed_space, address_state_after, is_whole_address}
use Rattle.usage_docs.specs.ContentTexts.{content_text}
use Rattle.usage_docs.proofs.Addresses.{trimmed_is}
use Rattle.usage_docs.proofs.TextsRead.{all_read}
use Rattle.usage_docs.proofs.address_states.is_http_uri_inside.Goals as goal

pub loop-node-init : goal.loop-node-init
loop-node-init c = all_read (address_state_after (is_trimmed_space true)) c.nodes-node-items.result.now Start c.args.element.now.content c.nodes-node-items.ensures.nodes_content

pub returns : goal.returns
returns c = record {
  exact =
      let e : c.loop-node.address ≡ fold (address_state_after (is_trimmed_space true)) Start (content_text c.args.element.now.content) = grind (arith, common_steps) in
      c.is_whole.ensures.exact ∙ ap is_whole_address e ∙ trimmed_is (content_text c.args.element.now.content);
}

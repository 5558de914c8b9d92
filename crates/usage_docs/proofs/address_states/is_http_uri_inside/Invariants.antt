use Rattle.std.proofs.Common.{◌≡◌, true, drop, fold}
use Rattle.usage_docs.specs.declared.address_states.AddressState.TheVariants.{Start}
use Rattle.usage_docs.specs.readers.AddressStates.{is_trimmed_space, address_state_after}
use Rattle.usage_docs.specs.ContentTexts.{content_text}
use Rattle.usage_docs.proofs.TextsRead.{after_nodes}
use Rattle.usage_docs.proofs.address_states.is_http_uri_inside.Given as goal

abbrev pub invariant-loop-node : goal.invariant-loop-node
invariant-loop-node l = after_nodes (address_state_after (is_trimmed_space true)) l.address (drop l.node-index l.node-items) ≡ fold (address_state_after (is_trimmed_space true)) Start (content_text l.element.content)

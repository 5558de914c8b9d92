use Rattle.std.proofs.Common.{refl}
use Rattle.xcap_uri.specs.Roots.{authority_of, path_of}
use Rattle.xcap_machine.proofs.SubscriberLemmas.{in_order}
use Rattle.xcap_machine.proofs.subscriber_laws.notices_are_applied_in_order.Goals as goal

pub returns : goal.returns
returns x = record {
  from_any_version = λ root m n after request reply edit mode id v d is kept reaches has step target method ok there.
      in_order root ((x.roots_are_spelled_by_the_grammar.ensures.root_by_pieces root (authority_of root) (path_of root)).1 (is, refl, refl)) m n after request reply edit mode id v d kept reaches has step target method ok
      there;
}

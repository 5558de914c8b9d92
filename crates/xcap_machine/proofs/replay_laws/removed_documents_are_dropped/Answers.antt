use Rattle.std.proofs.Common.{refl}
use Rattle.xcap_uri.specs.Roots.{authority_of, path_of}
use Rattle.xcap_machine.proofs.Present as present
use Rattle.xcap_machine.proofs.replay_laws.removed_documents_are_dropped.Goals as goal

pub returns : goal.returns
returns x = record {
  gone_is_dropped = λ id tag t root is encodable.
      present.gone id tag t root ((x.roots_are_spelled_by_the_grammar.ensures.root_by_pieces root (authority_of root) (path_of root)).1 (is, refl, refl)) encodable;
}

use Rattle.std.proofs.Common.{refl}
use Rattle.xcap_uri.specs.Roots.{authority_of, path_of}
use Rattle.xcap_machine.proofs.Present.{aggregate, patching, tags_alone}
use Rattle.xcap_machine.proofs.replay_laws.versions_are_replayed.Goals as goal

pub returns : goal.returns
returns x = record {
  step_by_step = λ c m v root tells is encodable. patching c m v root tells ((x.roots_are_spelled_by_the_grammar.ensures.root_by_pieces root (authority_of root) (path_of root)).1 (is, refl, refl)) encodable;
  aggregated = λ c m v root tells is encodable. aggregate c m v root tells ((x.roots_are_spelled_by_the_grammar.ensures.root_by_pieces root (authority_of root) (path_of root)).1 (is, refl, refl)) encodable;
  tags_alone = λ c m v root tells is encodable. tags_alone c m v root tells ((x.roots_are_spelled_by_the_grammar.ensures.root_by_pieces root (authority_of root) (path_of root)).1 (is, refl, refl)) encodable;
}

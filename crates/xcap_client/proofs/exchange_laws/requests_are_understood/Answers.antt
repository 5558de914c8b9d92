use Rattle.std.proofs.Common.{refl}
use Rattle.xcap_uri.specs.Roots.{authority_of, path_of}
use Rattle.xcap_client.proofs.RequestParsing.{understood}
use Rattle.xcap_client.proofs.exchange_laws.requests_are_understood.Goals as goal

pub returns : goal.returns
returns c = record {
  understood_as_meant = λ root ask is. understood root ask ((c.roots_are_spelled_by_the_grammar.ensures.root_by_pieces root (authority_of root) (path_of root)).1 (is, refl, refl));
}

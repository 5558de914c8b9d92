use Rattle.std.proofs.Common.{refl, subst}
use Rattle.xcap_uri.specs.Roots.{IsRoot, authority_of, path_of}
use Rattle.xcap_machine.specs.ServerStates.{ServerState}
use Rattle.xcap_server.proofs.service.Service.is_rooted.Goals as goal

pub returns : goal.returns
returns c =
    let root = c.self.inside.root in
    record {
      grammar_root =
          subst (λ (s : ServerState). IsRoot s.root (authority_of s.root) (path_of s.root)) c.self.view_is
          ((c.roots_are_spelled_by_the_grammar.ensures.root_by_pieces root (authority_of root) (path_of root)).1 (c.text-text.ensures.valid_root_text, refl, refl));
    }

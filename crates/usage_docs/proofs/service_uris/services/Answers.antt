use Rattle.std.proofs.Common.{List, [], ◌∷◌, filter_map, ap, ◌∙◌}
use Rattle.xml_tree.specs.Tree.{child_elements_of}
use Rattle.xml_names.specs.declared.names.Decl.{Decl}
use Rattle.usage_docs.specs.Services.{service_uri}
use Rattle.usage_docs.proofs.UriLemmas.{uris_are}
use Rattle.usage_docs.proofs.service_uris.services.Goals as goal

pub returns : goal.returns
returns c = record {
  addresses_in_order =
      uris_are (c.index_decls.result ∷ []) c.nodes.result.now c.args.root.now.content c.nodes.ensures.nodes_content
      ∙ ap (λ (ds : List Decl). filter_map (service_uri (ds ∷ [])) (child_elements_of c.args.root.now)) (c.index_decls.ensures.holds_declarations ∙ c.decls.ensures.exact);
}

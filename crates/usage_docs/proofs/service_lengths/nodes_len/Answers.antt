use Rattle.std.proofs.Common.{◌≡◌, ◌+◌, List, [], ◌∷◌, drop, map, ap, ◌∙◌, arith}
use Rattle.xml_names.specs.declared.names.Decl.{Decl}
use Rattle.xml_tree.specs.declared.tree.Node.TheVariants.{Elem}
use Rattle.usage_docs.specs.SchemaTable.{Scope}
use Rattle.usage_docs.specs.Services.{service_elements}
use Rattle.usage_docs.specs.readers.ServiceNodes.{elems_len, listed_nodes}
use Rattle.usage_docs.proofs.ListingLemmas.{all_listed}
use Rattle.usage_docs.proofs.LengthLemmas.{next_listed, next_capped}
use Rattle.usage_docs.proofs.service_lengths.nodes_len.Goals as goal

pub loop-node-init : goal.loop-node-init
loop-node-init c =
    let root = c.args.root.now in
    let ns = c.nodes-node-items.result.now in
    let scope : c.args.scope.now ≡ root.decls ∷ [] = c.requires.scope_is_outer ∙ ap (λ (ds : List Decl). ds ∷ []) c.requires.same_declarations in
    let whole : elems_len (listed_nodes c.args.scope.now ns) ≡ elems_len (map Elem (service_elements root)) =
    ap (λ (x : Scope). elems_len (listed_nodes x ns)) scope ∙ ap elems_len (all_listed (root.decls ∷ []) ns root.content c.nodes-node-items.ensures.nodes_content) in
    record { fits = omega arith; counted = omega (arith, whole) }

pub loop-node-preserved : goal.loop-node-preserved
loop-node-preserved c =
    let scope = c.args.scope.now in
    let ns = c.nodes-node-items.result.now in
    let i = c.loop-node.node-index in
    let n = c.node-item.result in
    let next = next_listed scope ns i n c.loop-node-test.true c.node-item.is in
    record {
      fits = omega arith;
      counted = next_capped 18446744073709551615 c.loop-node.total (elems_len (listed_nodes scope (n ∷ []))) (elems_len (listed_nodes scope (drop (i + 1) ns))) _
          (elems_len (listed_nodes scope (drop i ns))) c.saturating_add-total.result _ c.loop-node.invariant.counted c.in_ok-node_len.ensures.ok c.saturating_add-total.ensures next;
    }

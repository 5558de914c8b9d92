use Rattle.std.proofs.Common.{◌≤◌, ◌+◌, ◌++◌, List, length, map, min, ap, sym, ◌∙◌, subst, arith}
use Rattle.xml_tree.specs.Tree.{Tree}
use Rattle.xml_tree.specs.declared.tree.Node.TheVariants.{Elem}
use Rattle.usage_docs.specs.Services.{service_elements, index_of, index_len}
use Rattle.usage_docs.specs.declared.service_index.TheConstants.{INDEX_LIMIT}
use Rattle.usage_docs.specs.readers.ServiceNodes.{elems_len}
use Rattle.usage_docs.proofs.ListingLemmas.{too_large, small_enough, counted_again, grown, kids_grown}
use Rattle.usage_docs.proofs.service_index.IndexBuilder.add.Goals as goal

pub returns-then-len-gt-INDEX_LIMIT-clause-refused_too_long : goal.returns-then-len-gt-INDEX_LIMIT-clause-refused_too_long
returns-then-len-gt-INDEX_LIMIT-clause-refused_too_long c =
    let counted = c.self.invariant.counted ∙ ap (λ (ss : List Tree). elems_len (map Elem ss)) c.self.view_is in
    let more = c.in_ok-listed_len.ensures.ok in
    let added = c.saturating_add-inner.ensures ∙ ap (λ x. min (c.self.inside.inner + x) 18446744073709551615) more in
    too_large c.args.self.now (service_elements c.args.root.now) c.self.inside.inner c.saturating_add-inner.result c.index_len_with-len.result counted added c.index_len_with-len.ensures.exact (omega arith)

pub invariant_of-self-2 : goal.invariant_of-self-2
invariant_of-self-2 c =
    let counted = c.self.invariant.counted ∙ ap (λ (ss : List Tree). elems_len (map Elem ss)) c.self.view_is in
    let more = c.in_ok-listed_len.ensures.ok in
    let added = c.saturating_add-inner.ensures ∙ ap (λ x. min (c.self.inside.inner + x) 18446744073709551615) more in
    let ss = c.args.self.now in
    let new = service_elements c.args.root.now in
    let root = grown c.exchange_nodes.new.self c.self.inside.root c.in_ok-services.services.items ss new (length c.nodes-end.result.now) c.in_ok-exchange_nodes.ensures.replaces_nodes c.in_ok-services.ensures.ok (c.self.invariant.whole ∙ ap index_of c.self.view_is) (ap length c.nodes-end.ensures.content_nodes) in
    let child_elements = kids_grown c.exchange_nodes.new.self (ss ++ new) root in
    record {
      whole = root ∙ ap index_of (sym child_elements);
      counted = counted_again ss new c.self.inside.inner c.saturating_add-inner.result c.index_len_with-len.result counted added c.index_len_with-len.ensures.exact (omega arith) ∙ ap (λ (ts : List Tree). elems_len (map Elem ts)) (sym child_elements);
    }

pub returns-clause-appended : goal.returns-clause-appended
returns-clause-appended c =
    let ss = c.args.self.now in
    let new = service_elements c.args.root.now in
    let root = grown c.exchange_nodes.new.self c.self.inside.root c.in_ok-services.services.items ss new (length c.nodes-end.result.now) c.in_ok-exchange_nodes.ensures.replaces_nodes c.in_ok-services.ensures.ok (c.self.invariant.whole ∙ ap index_of c.self.view_is) (ap length c.nodes-end.ensures.content_nodes) in
    kids_grown c.exchange_nodes.new.self (ss ++ new) root

pub returns-clause-at_most_limit : goal.returns-clause-at_most_limit
returns-clause-at_most_limit c =
    let counted = c.self.invariant.counted ∙ ap (λ (ss : List Tree). elems_len (map Elem ss)) c.self.view_is in
    let more = c.in_ok-listed_len.ensures.ok in
    let added = c.saturating_add-inner.ensures ∙ ap (λ x. min (c.self.inside.inner + x) 18446744073709551615) more in
    let ss = c.args.self.now in
    let new = service_elements c.args.root.now in
    let root = grown c.exchange_nodes.new.self c.self.inside.root c.in_ok-services.services.items ss new (length c.nodes-end.result.now) c.in_ok-exchange_nodes.ensures.replaces_nodes c.in_ok-services.ensures.ok (c.self.invariant.whole ∙ ap index_of c.self.view_is) (ap length c.nodes-end.ensures.content_nodes) in
    let child_elements = kids_grown c.exchange_nodes.new.self (ss ++ new) root in
    subst (λ (ts : List Tree). index_len ts ≤ INDEX_LIMIT) (sym child_elements) (small_enough ss new c.self.inside.inner c.saturating_add-inner.result c.index_len_with-len.result counted added c.index_len_with-len.ensures.exact (omega arith))

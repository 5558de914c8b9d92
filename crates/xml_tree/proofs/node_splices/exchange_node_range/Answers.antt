use Rattle.std.proofs.Common.{◌≡◌, ◌++◌, take, drop, sym, ap, ◌∙◌, subst, append_assoc, arith, length}
use Rattle.std.specs.List.{splice}
use Rattle.std.proofs.lemmas.Iterator.{items_from_drains}
use Rattle.std.proofs.lemmas.Iterator.Adapters.{YieldsList-from_vec}
use Rattle.std.proofs.lemmas.List.{map-id}
use Rattle.xml_tree.specs.Nodes.{AreNormalized, content_of}
use Rattle.xml_tree.proofs.RunLemmas.{AreNormal-drop, AreNormal-take, AreNormal-three, content_of-between}
use Rattle.xml_tree.proofs.node_splices.exchange_node_range.Goals as goal

-- the nodes that are in place of the old ones
spliced : (c : goal.After-drop-gone) → c.splice.new.self.items ≡ take c.in_ok-start.start c.args.nodes.now.items ++ (c.in_ok-joined.joined.items ++ drop c.in_ok-end.end c.args.nodes.now.items)
spliced c =
    let it = c.in_ok-_gone.ensures.items in
    let drained = it.3 in
    let same_len : it.0.rest.len ≡ length c.in_ok-joined.joined.items = omega (arith, it.2.1, c.in_ok-joined.joined.ok) in
    let all = items_from_drains it.1 (drained.1.0, drained.1.1, λ _. (drained.0, drained.1.2)) (YieldsList-from_vec c.in_ok-joined.joined.items it.2.0 same_len) in
    it.4 ∙ ap (λ l. splice c.args.nodes.now.items c.in_ok-start.start c.in_ok-end.end l) (sym (map-id it.1) ∙ all)

pub returns-clause-stays_normal : goal.returns-clause-stays_normal
returns-clause-stays_normal c = λ normal.
    let ns = c.args.nodes.now.items in
    let start = rw c.deref.ensures.value at c.in_ok-start.ensures.no_adjoining_text in
    let end = rw c.deref-2.ensures.value at c.in_ok-end.ensures.no_adjoining_text in
    subst AreNormalized (sym (spliced c))
    (AreNormal-three (take c.in_ok-start.start ns) c.in_ok-joined.joined.items (drop c.in_ok-end.end ns) (AreNormal-take c.in_ok-start.start ns normal) c.in_ok-joined.ensures.stays_normal
    (AreNormal-drop c.in_ok-end.end ns normal) (start normal) (end normal))

pub returns-clause-replaces_nodes : goal.returns-clause-replaces_nodes
returns-clause-replaces_nodes c =
    let ns = c.args.nodes.now.items in
    let before = take c.in_ok-start.start ns in
    let n1 = c.take_text_before.new.more.items in
    let n2 = c.take_text_after.new.more.items in
    let start = rw c.deref.ensures.value at c.in_ok-start.ensures.nodes_in_order in
    let end = rw c.deref-2.ensures.value at c.in_ok-end.ensures.nodes_in_order in
    ap content_of (spliced c) ∙ content_of-between before c.in_ok-joined.joined.items n2 (drop c.in_ok-end.end ns) c.in_ok-joined.ensures.same_content
    ∙ ap content_of
    (ap (λ l. before ++ l) end ∙ sym (append_assoc before n1 (drop c.args.to ns)) ∙ ap (λ l. l ++ drop c.args.to ns) start
    ∙ append_assoc (take c.args.from ns) c.args.new.items (drop c.args.to ns))

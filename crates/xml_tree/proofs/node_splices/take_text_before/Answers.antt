use Rattle.std.proofs.Common.{◌≡◌, suc, ◌-◌, ◌++◌, ◌∷◌, take, false, sym, ap, ◌∙◌, subst, arith}
use Rattle.xml_tree.specs.inner.Nodes.{ends_in_text}
use Rattle.xml_tree.specs.declared.tree.Node.TheVariants.{Chars}
use Rattle.xml_tree.proofs.RunLemmas.{ends-take_none, ends-take_some, take-text}
use Rattle.xml_tree.proofs.node_splices.take_text_before.Goals as goal

pub returns-in_default-clause-no_adjoining_text : goal.returns-in_default-clause-no_adjoining_text
returns-in_default-clause-no_adjoining_text c = λ normal.
    let ns = c.args.nodes.now in
    let e : suc (c.args.place - 1) ≡ c.args.place = omega arith in
    subst (λ k. ends_in_text (take k ns) ≡ false) e (ends-take_none (c.args.place - 1) ns (omega arith) (sym c.in_default.ensures.exact))

pub returns-clause-nodes_in_order : goal.returns-clause-nodes_in_order
returns-clause-nodes_in_order c =
    let ns = c.args.nodes.now in let i = c.args.place - 1 in let zs = c.args.more.now.items in
    let e : suc (c.args.place - 1) ≡ c.args.place = omega arith in
    ap (λ l. take i ns ++ l) (c.in_ok-insert.ensures.items ∙ ap (λ t. Chars t ∷ zs) c.in_ok-copy.ensures.equal_text) ∙ take-text i ns zs c.in-Some.text.now (sym c.in-Some.ensures.exact)
    ∙ ap (λ k. take k ns ++ zs) e

pub returns-clause-no_adjoining_text : goal.returns-clause-no_adjoining_text
returns-clause-no_adjoining_text c = λ normal. ends-take_some (c.args.place - 1) c.args.nodes.now c.in-Some.text.now normal (sym c.in-Some.ensures.exact)

use Rattle.std.proofs.Common.{◌≡◌, suc, ◌+◌, ◌++◌, ◌∷◌, [], drop, sym, ap, ◌∙◌, subst, arith, append_assoc}
use Rattle.xml_tree.specs.Nodes.{StartsWithoutText}
use Rattle.xml_tree.specs.declared.tree.Node.TheVariants.{Chars}
use Rattle.xml_tree.proofs.RunLemmas.{StartsApart-drop_none, StartsApart-drop_some, drop-text, text_there}
use Rattle.xml_tree.proofs.node_splices.take_text_after.Goals as goal

pub returns-in_default-clause-no_adjoining_text : goal.returns-in_default-clause-no_adjoining_text
returns-in_default-clause-no_adjoining_text c = λ normal. StartsApart-drop_none c.args.place c.args.nodes.now (sym c.in_default.ensures.exact)

pub returns-clause-nodes_in_order : goal.returns-clause-nodes_in_order
returns-clause-nodes_in_order c =
    let ns = c.args.nodes.now in let i = c.args.place in let zs = c.args.more.now.items in
    let e : i + 1 ≡ suc i = omega arith in
    ap (λ l. l ++ drop (i + 1) ns) (c.in_ok-push.ensures.items ∙ ap (λ t. zs ++ Chars t ∷ []) c.in_ok-copy.ensures.equal_text)
    ∙ append_assoc zs (Chars c.in-Some.text.now ∷ []) (drop (i + 1) ns) ∙ ap (λ k. zs ++ Chars c.in-Some.text.now ∷ drop k ns) e
    ∙ ap (λ l. zs ++ l) (drop-text i ns c.in-Some.text.now (sym c.in-Some.ensures.exact))

pub returns-clause-lies_within : goal.returns-clause-lies_within
returns-clause-lies_within c =
    let there = text_there c.args.place c.args.nodes.now c.in-Some.text.now (sym c.in-Some.ensures.exact) in (omega arith, omega arith)

pub returns-clause-no_adjoining_text : goal.returns-clause-no_adjoining_text
returns-clause-no_adjoining_text c = λ normal.
    let ns = c.args.nodes.now in
    let e : suc c.args.place ≡ c.args.place + 1 = omega arith in
    subst (λ k. StartsWithoutText (drop k ns)) e (StartsApart-drop_some c.args.place ns c.in-Some.text.now normal (sym c.in-Some.ensures.exact))

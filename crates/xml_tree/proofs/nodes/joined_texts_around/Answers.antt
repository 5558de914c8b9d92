use Rattle.std.proofs.Common.{subst, IsSome}
use Rattle.std.proofs.lemmas.Result.{on_err_weaker}
use Rattle.xml_tree.specs.Nodes.{joined_neighbor_texts}
use Rattle.xml_tree.proofs.Removals.{TextsMeet-joined}
use Rattle.xml_tree.proofs.nodes.joined_texts_around.Goals as goal

pub returns-clause-err_texts_meet : goal.returns-clause-err_texts_meet
returns-clause-err_texts_meet c = λ normal.
    let ns = c.args.nodes.now in let at = c.child_place.ensures.exact in
    on_err_weaker c.joined_neighbor_texts.result (λ two. TextsMeet-joined c.args.child ns c.requires normal (subst (λ i. IsSome (joined_neighbor_texts i ns)) at two)) c.joined_neighbor_texts.ensures.err_texts_join

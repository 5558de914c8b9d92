use Rattle.tree_text.proofs.ReadProper.{body_answers}
use Rattle.tree_text.proofs.ProperBodies.{body_good}
use Rattle.tree_text.proofs.attribute_bodies.read_att_value.Goals as goal

pub returns : goal.returns
returns c =
    let answer = body_answers c.args.bytes.now c.read_body.result c.read_body.ensures.grammar_answer in
    record {
      grammar_answer = answer;
      allowed_chars = body_good c.args.bytes.now c.read_body.result answer;
    }

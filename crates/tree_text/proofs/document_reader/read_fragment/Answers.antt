use Rattle.tree_text.proofs.ReadProper.{text_answers, text_good}
use Rattle.tree_text.proofs.document_reader.read_fragment.Goals as goal

pub returns : goal.returns
returns c =
    let answer = text_answers c.args.depth c.args.scope.now c.args.bytes.now c.read.result c.read.ensures.grammar_answer in
    record {
      grammar_answer = answer;
      is_proper = text_good c.args.depth c.args.scope.now c.args.bytes.now c.read.result answer;
    }

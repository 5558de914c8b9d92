use Rattle.std.proofs.Common.{◌≡◌, List, [], subst}
use Rattle.xml_names.specs.declared.names.Decl.{Decl}
use Rattle.xml_names.specs.ReadErrors.{ResultSatisfies}
use Rattle.tree_text.specs.readers.WholeTexts.{read_document_text}
use Rattle.tree_text.proofs.ReadProper.{text_answers, text_good}
use Rattle.tree_text.proofs.document_reader.read_document.Goals as goal

pub returns : goal.returns
returns c =
    let read = subst (λ (z : List (List Decl)). ResultSatisfies (λ answer. answer ≡ read_document_text c.args.depth z c.args.bytes.now) c.read.result) c.empty.ensures.declares_nothing c.read.ensures.grammar_answer in
    let answer = text_answers c.args.depth [] c.args.bytes.now c.read.result read in
    record {
      grammar_answer = answer;
      is_proper = text_good c.args.depth [] c.args.bytes.now c.read.result answer;
    }

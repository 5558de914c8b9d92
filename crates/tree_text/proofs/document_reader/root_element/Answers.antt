use Rattle.std.proofs.Common.{List, chars, subst}
use Rattle.xml_names.specs.declared.names.Decl.{Decl}
use Rattle.xml_tokens.specs.readers.ReadResults.{IsSameResult}
use Rattle.tree_text.specs.readers.Texts.{read_element}
use Rattle.tree_text.proofs.document_reader.root_element.Goals as goal

pub returns : goal.returns
returns c = record {
  reads_rule =
      subst (λ (z : List (List Decl)). IsSameResult (λ x. (x.0, chars x.1.now)) c.element-read.result (read_element c.args.depth z 1 (chars c.args.text.now)))
      c.in_ok-bindings.ensures.given_scope c.element-read.ensures.reads_rule;
}

use Rattle.tree_text.proofs.PrintedTexts.{document_is_read, element_is_read, body_is_spelled}
use Rattle.tree_text.proofs.print_laws.prints_spell_what_was_printed.Goals as goal

pub returns : goal.returns
returns c = record {
  for_document = λ depth scope root unbound proper fits. (document_is_read depth scope root unbound proper fits).spelled;
  for_element = λ depth scope root unbound proper fits. (element_is_read depth scope root unbound proper fits).spelled;
  for_value = body_is_spelled;
}

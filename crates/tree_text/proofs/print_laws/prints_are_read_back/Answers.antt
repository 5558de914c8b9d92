use Rattle.std.proofs.Common.{encode_utf8_all, subst}
use Rattle.xml_tree.specs.Print.{print, document_print}
use Rattle.tree_text.specs.Faults.{IsTextResult, IsBodyResult}
use Rattle.tree_print.specs.AttributeBodyPrints.{body_print}
use Rattle.tree_text.proofs.PrintedTexts.{document_is_read, element_is_read, body_is_read}
use Rattle.tree_text.proofs.ReadAnswers.{text_answer, body_answer}
use Rattle.tree_text.proofs.print_laws.prints_are_read_back.Goals as goal

pub returns : goal.returns
returns c = record {
  for_document = λ depth scope root unbound proper fits.
      let bytes = encode_utf8_all (document_print root) in
      subst (IsTextResult depth scope bytes) (document_is_read depth scope root unbound proper fits).read (text_answer depth scope bytes);
  for_element = λ depth scope root unbound proper fits.
      let bytes = encode_utf8_all (print root) in
      subst (IsTextResult depth scope bytes) (element_is_read depth scope root unbound proper fits).read (text_answer depth scope bytes);
  for_value = λ value chars.
      let bytes = encode_utf8_all (body_print value) in
      subst (IsBodyResult bytes) (body_is_read value chars) (body_answer bytes);
}

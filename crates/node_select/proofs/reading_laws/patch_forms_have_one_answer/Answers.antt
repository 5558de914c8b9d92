use Rattle.node_select.proofs.PatchForms.{form_answer, one_form}
use Rattle.node_select.proofs.reading_laws.patch_forms_have_one_answer.Goals as goal

pub returns : goal.returns
returns c = record {
  answer_is_exact = form_answer;
  at_most_one = one_form;
}

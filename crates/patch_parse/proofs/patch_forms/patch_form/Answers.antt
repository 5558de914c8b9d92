use Rattle.std.proofs.Common.{◌∙◌, ap}
use Rattle.std.proofs.lemmas.Result.{IfOk-weaker}
use Rattle.xml_grammar.specs.readers.RuleReaders.{read_whole_text}
use Rattle.node_select.specs.readers.Selectors.{read_patch_selector}
use Rattle.node_select.specs.readers.WholeSelectors.{parsed_patch_form, raw_form_if_parsed}
use Rattle.node_select.proofs.PatchForms.{form_answer, one_form}
use Rattle.patch_parse.proofs.patch_forms.patch_form.Goals as goal

pub returns : goal.returns
returns c = record {
  ok =
      let text = c.as_str.result.now in
      IfOk-weaker c.read_patch_form.result _ _
      (λ form is. one_form text form (parsed_patch_form text) is (form_answer text) ∙ ap (λ cs. raw_form_if_parsed (read_whole_text read_patch_selector cs)) c.as_str.ensures.same_chars)
      c.read_patch_form.ensures.grammar_answer;
}

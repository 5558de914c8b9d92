use Rattle.node_select.proofs.PatchForms.{form_answered}
use Rattle.node_select.proofs.selector_reader.read_patch_form.Goals as goal

pub returns : goal.returns
returns c = record { grammar_answer = form_answered c.args.text.now c.parse_patch_form.result c.parse_patch_form.ensures.ok }

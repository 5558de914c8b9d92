use Rattle.std.proofs.Common.{◌≡◌, subst}
use Rattle.tree_text.specs.declared.fault.TextFault.{TextFault}
use Rattle.xcap_app.specs.TextVerdicts.{refusal_of_text}
use Rattle.xcap_app.specs.declared.exit.Exit.TheVariants.{Refused}
use Rattle.xcap_app.proofs.Ends.{fault_judged, tree_judged}
use Rattle.xcap_app.proofs.check_verdict.judge_text.Goals as goal

pub returns-in-Ok : goal.returns-in-Ok
returns-in-Ok c = record { judges_text = tree_judged c.args.usage c.args.text.now c.in-Ok.root c.judge_tree.result c.in-Ok.ensures.grammar_answer c.judge_tree.ensures.has_first_fault }

pub returns-in-Err-Fault : goal.returns-in-Err-Fault
returns-in-Err-Fault c = record {
  judges_text =
      fault_judged c.args.usage c.args.text.now c.read_document.result c.in-Err-Fault.field-0 c.in-Err-Fault.fault c.judge_fault.result c.in-Err-Fault.is c.in-Err-Fault.field-0-is c.read_document.ensures.grammar_answer
      (subst (λ (fault : TextFault). c.judge_fault.result ≡ Refused (refusal_of_text fault)) c.in-Err-Fault.fault-is c.judge_fault.ensures.exact);
}

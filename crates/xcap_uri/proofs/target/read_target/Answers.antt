use Rattle.xcap_uri.specs.readers.Targets.{parsed_target}
use Rattle.xcap_uri.proofs.Nameable.{answer_nameable, target_readable}
use Rattle.xcap_uri.proofs.TargetAnswers.{target_answered}
use Rattle.xcap_uri.proofs.target.read_target.Goals as goal

pub returns : goal.returns
returns c =
    let root = c.args.root.now in
    let target = c.args.target.now in
    record {
      rules_answer = target_answered root target c.read_under_root.result c.read_under_root.ensures.stated_answer;
      outside_without_memory = c.read_under_root.ensures.outside_is_refused;
      readable_ids = answer_nameable (parsed_target root target) c.read_under_root.result (target_readable root target) c.read_under_root.ensures.stated_answer;
    }

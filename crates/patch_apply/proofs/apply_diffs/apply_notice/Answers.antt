use Rattle.std.proofs.Common.{subst}
use Rattle.xml_tree.specs.Tree.{Tree}
use Rattle.xcap_uri.specs.PrintedNames.{is_name_of}
use Rattle.patch_apply.specs.ApplyAnswers.{IsApplyAnswer}
use Rattle.patch_apply.specs.Views.{replica_view}
use Rattle.patch_apply.proofs.WholeNotices.{applies, stays_sound}
use Rattle.patch_apply.proofs.apply_diffs.apply_notice.Goals as goal

pub returns-clause-as_specified : goal.returns-clause-as_specified
returns-clause-as_specified c =
    let held = replica_view c.args.replica.now.held in
    subst (λ (notice : Tree). IsApplyAnswer (is_name_of c.args.replica.now.doc) notice held c.replay.result (replica_view c.replay.new.replica.held)) c.root.ensures.exact
    (applies (is_name_of c.args.replica.now.doc) c.root.result.now held c.replay.result (replica_view c.replay.new.replica.held) c.replay.ensures.as_specified)

pub returns-clause-stays_sound : goal.returns-clause-stays_sound
returns-clause-stays_sound c =
    stays_sound (is_name_of c.args.replica.now.doc) c.root.result.now (replica_view c.args.replica.now.held) c.replay.result _ c.root.ensures.is_proper c.replay.ensures.as_specified

use Rattle.std.proofs.Common.{refl}
use Rattle.xcap_uri.specs.Roots.{authority_of, path_of}
use Rattle.xcap_machine.specs.Machine.{answer_with_edit}
use Rattle.store_core.specs.Contents.{contents_of}
use Rattle.xcap_machine.proofs.FeedAnswers.{holds}
use Rattle.xcap_machine.proofs.subscriber_laws.subscribers_hold_the_document.Goals as goal

pub returns : goal.returns
returns x = record {
  held_after_answer = λ root c m request a is kept stands answers.
      holds root ((x.roots_are_spelled_by_the_grammar.ensures.root_by_pieces root (authority_of root) (path_of root)).1 (is, refl, refl)) c m request a kept stands answers;
  held_after_step = λ root m next request reply edit is step.
      holds root ((x.roots_are_spelled_by_the_grammar.ensures.root_by_pieces root (authority_of root) (path_of root)).1 (is, refl, refl)) (contents_of m) m request (answer_with_edit reply edit) step.0 refl step.1.answers;
}

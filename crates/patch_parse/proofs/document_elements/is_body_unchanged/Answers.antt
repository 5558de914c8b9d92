use Rattle.std.proofs.Common.{List, sym, ap, ◌∙◌, arith}
use Rattle.xml_tree.specs.Tree.{Tree}
use Rattle.patch_rules.specs.Replay.{has_diff_name, is_body_unchanged}
use Rattle.patch_parse.proofs.Items.{one_item}
use Rattle.patch_parse.proofs.Words.{same_body}
use Rattle.patch_parse.proofs.document_elements.is_body_unchanged.Goals as goal

pub returns-in-len1 : goal.returns-in-len1
returns-in-len1 c = record {
  exact =
      c.has_diff_name.ensures.exact ∙ ap (λ w. has_diff_name c.args.scope.now w c.one-item.result.now) same_body
      ∙ ap (λ (os : List Tree). is_body_unchanged c.args.scope.now os) (sym (one_item c.args.operations.now c.one-item.result (omega arith) (omega arith) c.one-item.is));
}

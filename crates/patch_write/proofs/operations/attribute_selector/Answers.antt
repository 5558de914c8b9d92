use Rattle.std.proofs.Common.{ℕ, List, ◌++◌, codes, append_assoc, ap, ◌∙◌}
use Rattle.std.specs.Str.{chars}
use Rattle.xml_tree.specs.PathTexts.{path_text}
use Rattle.xml_names.specs.Markup.{print_name}
use Rattle.patch_write.proofs.Words.{behind_slash}
use Rattle.patch_write.proofs.operations.attribute_selector.Goals as goal

pub returns : goal.returns
returns c = record {
  ok =
      let p = path_text c.args.at.now in
      let n = print_name c.args.name.now in
      let front = c.in_ok-push_str.ensures.appends_chars ∙ ap (λ (l : List ℕ). l ++ chars (codes "/@")) c.in_ok-text.ensures.ok ∙ ap (λ (l : List ℕ). p ++ l) behind_slash in
      c.in_ok-push_name.ensures.appended ∙ ap (λ (l : List ℕ). l ++ n) front ∙ append_assoc p (codes "/@") n;
}

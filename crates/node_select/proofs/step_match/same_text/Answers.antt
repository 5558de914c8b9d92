use Rattle.std.specs.Prelude.{chars}
use Rattle.std.proofs.Common.{sym, ◌∙◌}
use Rattle.std.proofs.lemmas.Slice.Eq.{bytes_eq-Decides}
use Rattle.xml_names.proofs.Letters.{bytes_eq-chars}
use Rattle.node_select.proofs.step_match.same_text.Goals as goal

pub returns : goal.returns
returns c = record {
  exact = c.eq.ensures ∙ bytes_eq-chars c.args.a.now c.args.b.now c.utf8.a c.utf8.b;
  equal_iff =
      let same = c.eq.ensures ∙ bytes_eq-chars c.args.a.now c.args.b.now c.utf8.a c.utf8.b in
      let decided = bytes_eq-Decides (chars c.args.a.now) (chars c.args.b.now) in
      (λ h. decided.0 (sym same ∙ h), λ h. same ∙ decided.1 h);
}

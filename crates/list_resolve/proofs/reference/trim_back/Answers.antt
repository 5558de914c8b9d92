use Rattle.std.proofs.Common.{sym, ap, ◌∙◌}
use Rattle.xml_names.specs.Characters.{is_space}
use Rattle.usage_docs.specs.ReferenceForms.{trim_back}
use Rattle.list_resolve.proofs.Texts.{back_white, back_other}
use Rattle.list_resolve.proofs.reference.trim_back.Goals as goal

pub blanks-preserved : goal.blanks-preserved
blanks-preserved c =
    sym (back_white is_space c.in-Some.rest.now c.in-Some.last.now (sym c.is_space.ensures.exact ∙ c.if-is_space.true))
    ∙ ap (trim_back is_space) (sym c.in-Some.ensures.cases.0) ∙ c.blanks.invariant

pub returns-else-is_space : goal.returns-else-is_space
returns-else-is_space c = record {
  exact =
      c.in-Some.ensures.cases.0
      ∙ sym (back_other is_space c.in-Some.rest.now c.in-Some.last.now (sym c.is_space.ensures.exact ∙ c.if-is_space.false))
      ∙ ap (trim_back is_space) (sym c.in-Some.ensures.cases.0) ∙ c.blanks.invariant;
}

use Rattle.std.proofs.Common.{sym, ap, ◌∙◌}
use Rattle.std.specs.List.{list_all}
use Rattle.patch_parse.specs.inner.OperationContents.{is_element_or_blank}
use Rattle.patch_parse.proofs.ByNodes.{all_loose, second_there, some_fixed}
use Rattle.patch_parse.proofs.operation_content.sole_element.Goals as goal

pub returns-then-is_some : goal.returns-then-is_some
returns-then-is_some c = record {
  exact = sym (second_there c.args.operation.now.content c.child_element.result (sym c.is_some.ensures ∙ c.if-is_some.true) c.child_element.ensures.exact);
}

pub returns-then-not-are_elements_or_blanks : goal.returns-then-not-are_elements_or_blanks
returns-then-not-are_elements_or_blanks c = record {
  exact =
      let loose = sym (c.are_elements_or_blanks.ensures.exact ∙ ap (list_all is_element_or_blank) c.nodes.ensures.content_nodes) in
      sym (some_fixed c.args.operation.now.content c.child_element.result (sym c.is_some.ensures ∙ c.if-is_some.false) c.child_element.ensures.exact (loose ∙ c.if-not-are_elements_or_blanks.true));
}

pub returns : goal.returns
returns c = record {
  exact =
      let loose = sym (c.are_elements_or_blanks.ensures.exact ∙ ap (list_all is_element_or_blank) c.nodes.ensures.content_nodes) in
      c.child_element-2.ensures.exact
      ∙ sym (all_loose c.args.operation.now.content c.child_element.result (sym c.is_some.ensures ∙ c.if-is_some.false) c.child_element.ensures.exact (loose ∙ c.if-not-are_elements_or_blanks.false));
}

use Rattle.std.proofs.Common.{◌++◌, ◌∷◌, [], List, sym, ap, ◌∙◌}
use Rattle.std.specs.List.{list_all}
use Rattle.xml_names.specs.declared.names.Decl.{Decl}
use Rattle.patch_rules.specs.PatchOperations.{is_known_attribute}
use Rattle.patch_apply.proofs.OperationStages.{edits_same, known_attrs, plain_is, unknown_attrs, without_selector}
use Rattle.patch_parse.proofs.Words.{sel}
use Rattle.patch_apply.proofs.operations.apply_operation.Goals as goal
use Rattle.patch_rules.specs.readers.AppliedOperations.{apply_selected}

pub returns-in_default : goal.returns-in_default
returns-in_default c = record {
  as_specified =
      let o = c.args.operation.now in
      without_selector c.args.scope.now o c.args.tree.now (plain_is _ _ o.attrs c.attrs-attrs.result.now _ sel c.attrs-attrs.ensures.exact (c.in_default.ensures {u = tt}).exact);
}

pub returns-then-not-are_known_attributes : goal.returns-then-not-are_known_attributes
returns-then-not-are_known_attributes c = record {
  as_specified =
      let o = c.args.operation.now in
      unknown_attrs c.args.scope.now o c.args.tree.now c.in-Some.sel.now
      (plain_is _ _ o.attrs c.attrs-attrs.result.now _ sel c.attrs-attrs.ensures.exact (c.in-Some.ensures {u = tt}).exact)
      (ap (list_all is_known_attribute) (sym c.attrs-attrs.ensures.exact) ∙ sym c.are_known_attributes.ensures.exact ∙ c.if-not-are_known_attributes.true);
}

pub returns : goal.returns
returns c = record {
  as_specified =
      let o = c.args.operation.now in
      let inside = c.with-here.ensures.exact ∙ ap (λ (ds : List Decl). c.args.scope.now ++ ds ∷ []) c.decls.ensures.exact in
      edits_same _ _ c.apply_selected.new.tree c.apply_selected.result
      (
      ap (λ (h : List (List Decl)). apply_selected h c.in-Some.sel.now o c.args.tree.now) inside
      ∙ sym (
      known_attrs c.args.scope.now o c.args.tree.now c.in-Some.sel.now
      (plain_is _ _ o.attrs c.attrs-attrs.result.now _ sel c.attrs-attrs.ensures.exact (c.in-Some.ensures {u = tt}).exact)
      (ap (list_all is_known_attribute) (sym c.attrs-attrs.ensures.exact) ∙ sym c.are_known_attributes.ensures.exact ∙ c.if-not-are_known_attributes.false)
      )
      )
      c.apply_selected.ensures.as_specified;
}

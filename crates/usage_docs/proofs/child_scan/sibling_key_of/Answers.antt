use Rattle.std.proofs.Common.{Some, None, option_map, ap, ◌∙◌, refl}
use Rattle.usage_docs.specs.UniqueKeys.{sibling_key}
use Rattle.usage_docs.proofs.ClashLemmas.{kind_is, scope_is}
use Rattle.usage_docs.proofs.FindingLemmas.{marked_by}
use Rattle.usage_docs.proofs.child_scan.sibling_key_of.Goals as goal

pub returns-in_default : goal.returns-in_default
returns-in_default c =
    let e = c.args.child_element.now in
    let is = scope_is c.args.scope.now e c.inside-inside.result c.new-declared.result c.decls.result.now c.inside-inside.ensures.adds_declarations c.new-declared.ensures.holds_declarations c.decls.ensures.exact in
    let kind = kind_is c.args.row c.args.scope.now e c.inside-inside.result c.name.result.now c.kind_of.result None c.kind_of.ensures.child_kind is c.name.ensures.exact c.in_default.is in
    record { exact = marked_by c.args.row c.args.scope.now e None e.attrs kind refl }

pub returns-in_default-key_text : goal.returns-in_default-key_text
returns-in_default-key_text c =
    let e = c.args.child_element.now in
    let is = scope_is c.args.scope.now e c.inside-inside.result c.new-declared.result c.decls.result.now c.inside-inside.ensures.adds_declarations c.new-declared.ensures.holds_declarations c.decls.ensures.exact in
    let kind = kind_is c.args.row c.args.scope.now e c.inside-inside.result c.name.result.now c.kind_of.result (Some c.in-Some.kind) c.kind_of.ensures.child_kind is c.name.ensures.exact c.in-Some.is in
    let said = rw c.in_default-key_text.is at c.key_text.ensures.exact in
    record { exact = ap (option_map (sibling_key c.in-Some.kind)) said ∙ marked_by c.args.row c.args.scope.now e (Some c.in-Some.kind) c.attrs.result.now kind c.attrs.ensures.exact }

pub returns : goal.returns
returns c =
    let e = c.args.child_element.now in
    let is = scope_is c.args.scope.now e c.inside-inside.result c.new-declared.result c.decls.result.now c.inside-inside.ensures.adds_declarations c.new-declared.ensures.holds_declarations c.decls.ensures.exact in
    let kind = kind_is c.args.row c.args.scope.now e c.inside-inside.result c.name.result.now c.kind_of.result (Some c.in-Some.kind) c.kind_of.ensures.child_kind is c.name.ensures.exact c.in-Some.is in
    let said = rw c.in-Some-key_text.is at c.key_text.ensures.exact in
    record { exact = ap (option_map (sibling_key c.in-Some.kind)) said ∙ marked_by c.args.row c.args.scope.now e (Some c.in-Some.kind) c.attrs.result.now kind c.attrs.ensures.exact }

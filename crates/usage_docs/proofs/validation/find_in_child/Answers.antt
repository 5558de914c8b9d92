use Rattle.std.proofs.Common.{Option, refl, subst, sym}
use Rattle.std.specs.Option.{ForSome}
use Rattle.xml_tree.specs.TreeScopes.{inside}
use Rattle.usage_docs.specs.declared.schema_table.ElementKind.{ElementKind}
use Rattle.usage_docs.specs.readers.FirstFaults.{IsFormedOfKind}
use Rattle.usage_docs.specs.SchemaTable.{Scope}
use Rattle.usage_docs.specs.Validity.{IsValidOfKind}
use Rattle.usage_docs.proofs.ClashLemmas.{kind_is, scope_is}
use Rattle.usage_docs.proofs.FindingLemmas.{And, from_start}
use Rattle.usage_docs.proofs.validation.find_in_child.Goals as goal

pub returns : goal.returns
returns c =
    let row = c.args.row in
    let scope = c.args.scope.now in
    let e = c.args.child_element.now in
    let found = c.walk_if_kind.new.found in
    let start = c.no_fault-found.result in
    let walked = c.walk_if_kind.ensures in
    let is = scope_is scope e c.inside-inside.result c.index_decls-declared.result c.decls.result.now c.inside-inside.ensures.adds_declarations c.index_decls-declared.ensures.holds_declarations c.decls.ensures.exact in
    let kind = kind_is row scope e c.inside-inside.result c.name.result.now c.kind_of-kind.result c.kind_of-kind.result c.kind_of-kind.ensures.child_kind is c.name.ensures.exact refl in
    record {
      valid_child = from_start found.valid start.valid c.no_fault-found.ensures.starts_valid
          (subst (λ (o : Option ElementKind). And found.valid start.valid (ForSome o (λ k. IsValidOfKind k (inside scope e) e))) (sym kind)
          (subst (λ (s : Scope). And found.valid start.valid (ForSome c.kind_of-kind.result (λ k. IsValidOfKind k s e))) is walked.valid_with_element));
      formed_child = from_start found.formed start.formed c.no_fault-found.ensures.starts_formed
          (subst (λ (o : Option ElementKind). And found.formed start.formed (ForSome o (λ k. IsFormedOfKind k (inside scope e) e))) (sym kind)
          (subst (λ (s : Scope). And found.formed start.formed (ForSome c.kind_of-kind.result (λ k. IsFormedOfKind k s e))) is walked.formed_with_element));
    }

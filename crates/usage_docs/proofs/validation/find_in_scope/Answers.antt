use Rattle.std.proofs.Common.{◌&&◌, ◌∷◌, [], List, ℕ, Option, ap, length, subst, ◌∙◌, arith}
use Rattle.xml_tree.specs.Tree.{child_elements_of}
use Rattle.usage_docs.specs.UniqueKeys.{RepeatsKeyAt}
use Rattle.usage_docs.specs.declared.key_repeats.Clash.{Clash}
use Rattle.usage_docs.specs.declared.schema_table.ElementKind.{ElementKind}
use Rattle.usage_docs.specs.ReferenceForms.{AllReferencesFormed}
use Rattle.usage_docs.specs.KeyAttributes.{are_attrs_allowed}
use Rattle.usage_docs.specs.readers.FirstFaults.{IsFirstClashAfter}
use Rattle.usage_docs.specs.readers.ContentWalks.{IsContentOfKind}
use Rattle.usage_docs.specs.SchemaTable.{Scope, is_root, root_kind}
use Rattle.usage_docs.proofs.FindingLemmas.{And, formed_root, valid_root}
use Rattle.usage_docs.proofs.Judgements.{from_top}
use Rattle.usage_docs.proofs.validation.find_in_scope.Goals as goal

pub returns : goal.returns
returns c =
    let usage = c.args.usage in
    let t = c.args.root.now in
    let scope = c.args.scope.now in
    let kind = c.root_kind-kind.ensures.exact in
    let found = c.walk_inside.new.found in
    let walked = c.walk_inside.ensures in
    let start = c.no_fault-found.ensures in
    let tests = c.is_root.result && c.are_attrs_allowed.result in
    record {
      valid_root = valid_root usage t scope found.valid c.is_root.result c.are_attrs_allowed.result c.requires
          (c.is_root.ensures.exact ∙ ap (is_root usage scope) c.name.ensures.exact)
          (c.are_attrs_allowed.ensures.exact ∙ ap (λ (k : ElementKind). are_attrs_allowed k scope c.attrs.result.now) kind ∙ ap (are_attrs_allowed (root_kind usage) scope) c.attrs.ensures.exact)
          (subst (λ (k : ElementKind). And found.valid tests (IsContentOfKind k scope t.content)) kind walked.valid_inside);
      formed_root = formed_root usage t scope found.formed c.no_fault-found.result.formed c.requires start.starts_formed (subst (λ (k : ElementKind). And found.formed c.no_fault-found.result.formed (AllReferencesFormed k scope t.content)) kind walked.formed_inside);
      first_root_clash = λ low.
          (let at = c.at.ensures.exact ∙ c.root-path.ensures.exact in
          let long = ap length at in
          let first = walked.first_clash_inside (omega (arith, low, long)) in
          from_top usage t found.clash
          (subst (λ (o : Option Clash). IsFirstClashAfter o (RepeatsKeyAt (root_kind usage) (t.decls ∷ []) (child_elements_of t)) [] found.clash) start.starts_without_clash
          (subst (λ (p : List ℕ). IsFirstClashAfter c.no_fault-found.result.clash (RepeatsKeyAt (root_kind usage) (t.decls ∷ []) (child_elements_of t)) p found.clash) at
          (subst (λ (s : Scope). IsFirstClashAfter c.no_fault-found.result.clash (RepeatsKeyAt (root_kind usage) s (child_elements_of t)) c.at.result found.clash) c.requires
          (subst (λ (k : ElementKind). IsFirstClashAfter c.no_fault-found.result.clash (RepeatsKeyAt k scope (child_elements_of t)) c.at.result found.clash) kind first)))));
    }

use Rattle.std.proofs.Common.{◌+◌, ◌≤◌, List, ℕ, Option, length, sym, subst}
use Rattle.xml_tree.specs.Tree.{content_height, child_elements_of}
use Rattle.usage_docs.specs.UniqueKeys.{RepeatsKeyAt}
use Rattle.usage_docs.specs.declared.key_repeats.Clash.{Clash}
use Rattle.usage_docs.specs.readers.FirstFaults.{IsFirstClashAfter}
use Rattle.usage_docs.proofs.validation.clash_below.Goals as goal

pub returns : goal.returns
returns c =
    let e = c.args.element.now in
    let at = c.at.ensures.exact in
    let found = c.walk_inside.new.found in
    let low = subst (λ (p : List ℕ). length p + content_height e.content ≤ 64) (sym at) c.requires.height_bounded in
    let first = c.walk_inside.ensures.first_clash_inside low in
    record {
      first_iff =
          subst (λ (o : Option Clash). IsFirstClashAfter o (RepeatsKeyAt c.args.row c.args.scope.now (child_elements_of e)) c.args.path.now found.clash) c.no_fault-found.ensures.starts_without_clash
          (subst (λ (p : List ℕ). IsFirstClashAfter c.no_fault-found.result.clash (RepeatsKeyAt c.args.row c.args.scope.now (child_elements_of e)) p found.clash) at first);
    }

use Rattle.std.proofs.Common.{◌≡◌, ◌∷◌, ◌++◌, [], ◌+◌, length, length-append, Some, None, option_and_then, option_map, drop, get_or, slice_get, sym, ap, ◌∙◌, append_assoc, append-nil}
use Rattle.std.specs.Option.{option_copied}
use Rattle.std.proofs.lemmas.List.{drop_all}
use Rattle.xml_tree.specs.Tree.{at, child_elements_of}
use Rattle.xml_tree.specs.TreeScopes.{scope_at, scope_below}
use Rattle.xml_tree.proofs.TreeScopeLemmas.{at_next, scope_next}
use Rattle.xml_tree.proofs.scope.Scope.at.Goals as goal

pub returns-in_err-here : goal.returns-in_err-here
returns-in_err-here c = record {
  exact =
      let ns = c.numbers-number-items.result.now in
      let none : at c.args.path.now c.args.root.now ≡ None =
      sym c.loop-number.invariant.reached ∙ at_next ns c.loop-number.number-index c.loop-number.here.now c.loop-number-test.true
      ∙ ap (option_and_then (at (drop (c.loop-number.number-index + 1) ns))) (sym c.child_element.ensures.exact ∙ ap option_copied (c.in_err-here.was {u = tt})) in
      c.from_residual.ensures ∙ ap (option_map (λ _. scope_at c.args.path.now c.args.root.now)) (sym none);
}

pub loop-number-preserved : goal.loop-number-preserved
loop-number-preserved c =
    let ns = c.numbers-number-items.result.now in let i = c.loop-number.number-index in let here = c.loop-number.here.now in
    let is : slice_get (child_elements_of here) (get_or ns i 0) ≡ Some c.in_ok-here.here.now = sym c.child_element.ensures.exact ∙ ap option_copied (c.in_ok-here.was {u = tt}) in
    record {
      depth = ap length c.with-scope-in-loop-number.ensures.exact ∙ length-append c.loop-number.scope (c.decls-in-loop-number.result.now ∷ []) ∙ ap (λ n. n + 1) c.loop-number.invariant.depth;
      reached = ap (option_and_then (at (drop (i + 1) ns))) (sym is) ∙ sym (at_next ns i here c.loop-number-test.true) ∙ c.loop-number.invariant.reached;
      scopes = ap (λ s. s ++ scope_below (drop (i + 1) ns) c.in_ok-here.here.now) (c.with-scope-in-loop-number.ensures.exact ∙ ap (λ ds. c.loop-number.scope ++ ds ∷ []) c.decls-in-loop-number.ensures.exact)
          ∙ append_assoc c.loop-number.scope (c.in_ok-here.here.now.decls ∷ []) (scope_below (drop (i + 1) ns) c.in_ok-here.here.now)
          ∙ ap (λ s. c.loop-number.scope ++ s) (sym (scope_next ns i here c.in_ok-here.here.now c.loop-number-test.true is)) ∙ c.loop-number.invariant.scopes;
    }

pub returns : goal.returns
returns c = record {
  exact =
      let ns = c.numbers-number-items.result.now in let i = c.loop-number.number-index in let here = c.loop-number.here.now in
      let all = drop_all i ns c.loop-number-test.false in
      let there : at c.args.path.now c.args.root.now ≡ Some here = sym c.loop-number.invariant.reached ∙ ap (λ p. at p here) all in
      let scopes = sym c.loop-number.invariant.scopes ∙ ap (λ p. c.loop-number.scope ++ scope_below p here) all ∙ append-nil c.loop-number.scope in
      ap Some (sym scopes) ∙ ap (option_map (λ _. scope_at c.args.path.now c.args.root.now)) (sym there);
}

use Rattle.std.proofs.Common.{◌+◌, ◌≤◌, List, ℕ, length, sym, subst}
use Rattle.xml_names.specs.declared.names.Decl.{Decl}
use Rattle.xcap_machine.specs.NodeWrites.{max_height_at}
use Rattle.xcap_put.proofs.TargetLemmas.{scope_fits}
use Rattle.xcap_put.proofs.fragment_puts.read_element.Goals as goal

pub read_fragment-requires : goal.read_fragment-requires
read_fragment-requires c =
    subst (λ (n : ℕ). length c.edit_target_scope-scope.result + n ≤ 67) (sym c.max_height_at.ensures.exact)
    (subst (λ (s : List (List Decl)). length s + max_height_at c.args.spot.now ≤ 67) (sym c.edit_target_scope-scope.ensures.exact) (scope_fits c.args.tree.now c.args.spot.now c.requires.valid_spot c.requires.height_bounded))

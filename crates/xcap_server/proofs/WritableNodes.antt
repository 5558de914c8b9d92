-- A node as a writable target.
use Rattle.std.proofs.Common.{◌≡◌, Bool, true, false, Option, None, Some, MatchOption, sym, ap, ◌∙◌}
use Rattle.doc_names.specs.declared.doc_id.DocId.{DocId}
use Rattle.node_select.specs.declared.selector.End.TheVariants.{Namespaces}
use Rattle.node_select.specs.declared.selector.Selector.{Selector}
use Rattle.xcap_uri.specs.declared.target.Target.{Target}
use Rattle.xcap_uri.specs.declared.target.Target.TheVariants as targets
use Rattle.xcap_machine.specs.StandardRequests.{is_namespace_bindings, is_read_only}
use Rattle.xcap_server.specs.declared.targets.WritableTarget.{WritableTarget}
use Rattle.xcap_server.specs.declared.targets.WritableTarget.TheVariants.{Node}
use Rattle.xcap_server.specs.inner.WritableTargets.{target_of}

pub node_target : (id : DocId) (selector : Selector) (target : Target) → target ≡ targets.Node id selector → (r : Option WritableTarget)
    → MatchOption r (is_namespace_bindings selector.end ≡ true) (λ writable. (is_namespace_bindings selector.end ≡ false) × (writable ≡ Node id selector))
    → MatchOption r (is_read_only target ≡ true) (λ writable. (is_read_only target ≡ false) × (target_of writable ≡ target))
node_target id selector target is None bound = ap is_read_only is ∙ bound
node_target id selector target is (Some writable) made = (ap is_read_only is ∙ made.0, ap target_of made.1 ∙ sym is)

-- it isn't namespace bindings
pub selects_node : (id : DocId) (selector : Selector) (target : WritableTarget) → target ≡ Node id selector → is_read_only (target_of target) ≡ false → selector.end ≡ Namespaces → ⊥
selects_node id selector target is writable ends =
    let both : false ≡ true = sym writable ∙ ap (λ (t : WritableTarget). is_read_only (target_of t)) is ∙ ap is_namespace_bindings ends in
    cc

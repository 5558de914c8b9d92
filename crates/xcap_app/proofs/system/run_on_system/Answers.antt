use Rattle.std.proofs.Common.{refl, sym, ◌∙◌}
use Rattle.xcap_app.proofs.Real.{done_by}
use Rattle.xcap_app.proofs.system.run_on_system.Goals as goal

pub returns-clause-status_0_done : goal.returns-clause-status_0_done
returns-clause-status_0_done g c = λ zero.
    let e = c.run.ensures.exit_status in
    done_by g.W.Watchers.keeps _ _ e.0 _ _ _ _ _ _ _ _ _ _ _ e.1 _ _ _ c.requires.no_connections c.requires.none_given c.requires.none_taken refl (sym e.2 ∙ zero) e.3

use Rattle.std.proofs.Common.{◌≡◌, ℕ, inl, inr, List, length, Result, Ok, Err, OnOk, OnErr, refl, ap, subst, ◌∙◌, arith}
use Rattle.change_log.specs.LogContents.{with_change}
use Rattle.change_log.specs.LogStates.{FailsToAppend, kept_contents}
use Rattle.change_log.specs.LogHistories.{IsFoundBeforeOr, HoldsAtEachMoment, settled_moment}
use Rattle.change_log.proofs.Passing.{no_call}
use Rattle.change_records.specs.Records.{change_record}
use Rattle.logged_state.proofs.appending.append_request.Goals as goal

always : {T E P : Type 0} (r : Result T E) → P → OnErr r P
always (Ok x) p = tt
always (Err e) p = p

pub returns-in_err-change-clause-not_appended : goal.returns-in_err-change-clause-not_appended
returns-in_err-change-clause-not_appended g c = always c.from_residual.result (inr (inl refl))

pub returns-in_err-change-clause-any_moment : goal.returns-in_err-change-clause-any_moment
returns-in_err-change-clause-any_moment g c =
    let log = g.L.ChangeLog.state c.args.log.now in
    no_call (IsFoundBeforeOr log.history (with_change (change_record c.args.request.now) (kept_contents log))) log.history

pub append-requires-clause-short : goal.append-requires-clause-short
append-requires-clause-short g c = omega (arith, c.requires.recordable.short, ap length (c.deref.ensures.value ∙ c.in_ok-change.ensures.exact))

pub returns-clause-appended : goal.returns-clause-appended
returns-clause-appended g c =
    let old = g.L.ChangeLog.state c.args.log.now in
    let new = g.L.ChangeLog.state c.append.new.self in
    subst (λ (bytes : List ℕ). OnOk c.append.result (new.history.now ≡ settled_moment (with_change bytes (kept_contents old)))) (c.deref.ensures.value ∙ c.in_ok-change.ensures.exact) c.append.ensures.appended

pub returns-clause-not_appended : goal.returns-clause-not_appended
returns-clause-not_appended g c =
    let old = g.L.ChangeLog.state c.args.log.now in
    let new = g.L.ChangeLog.state c.append.new.self in
    subst (λ (bytes : List ℕ). OnErr c.append.result (FailsToAppend bytes old.history.now new.history.now)) (c.deref.ensures.value ∙ c.in_ok-change.ensures.exact) c.append.ensures.not_appended

pub returns-clause-any_moment : goal.returns-clause-any_moment
returns-clause-any_moment g c =
    let old = g.L.ChangeLog.state c.args.log.now in
    let new = g.L.ChangeLog.state c.append.new.self in
    subst (λ (bytes : List ℕ). HoldsAtEachMoment (IsFoundBeforeOr old.history (with_change bytes (kept_contents old))) old.history new.history) (c.deref.ensures.value ∙ c.in_ok-change.ensures.exact) c.append.ensures.any_moment

-- How the numbers of a log go on while requests are answered.
use Rattle.std.proofs.Common.{◌≡◌, inl, inr, ℕ, ◌+◌, ◌-◌, ◌≤◌, List, [], ◌∷◌, ◌++◌, length, Option, ap, arith, length-append}
use Rattle.change_log.specs.LogContents.{Contents, next_number, with_change}
use Rattle.change_log.specs.LogHistories.{Moment}
use Rattle.change_log.specs.LogStates.{FailsToAppend, LogState, kept_contents}
use Rattle.change_records.specs.Records.{change_record}
use Rattle.edit_ops.specs.declared.edit.Edit.{Edit}
use Rattle.http_wire.specs.declared.request.Request.{Request}
use Rattle.logged_state.specs.DurableAnswers.{Answers, Call, DurableState, appended, not_appended, stays}
use Rattle.reply_text.specs.ReplyHeads.{SentReply}

kept_by : (change : List ℕ) (old new : Moment) → FailsToAppend change old new → new.kept ≡ old.kept
kept_by change old new (inl is) = ap (λ (m : Moment). m.kept) is
kept_by change old new (inr (inl is)) = ap (λ (m : Moment). m.kept) is
kept_by change old new (inr (inr is)) = ap (λ (m : Moment). m.kept) is

module _ {M : Type 0} (Step : M → Request → SentReply → M → Option Edit → Type 0) where
  -- the next number rises by at most one
  pub number_after : (old : DurableState M) (call : Call Edit) (new : DurableState M) → Answers Step old call new → next_number (kept_contents new.log) ≤ next_number (kept_contents old.log) + 1
  number_after old call new (stays none step same same_log) =
      let e : next_number (kept_contents new.log) ≡ next_number (kept_contents old.log) = ap (λ (l : LogState). next_number (kept_contents l)) same_log in omega (arith, e)
  number_after old call new (appended edit some step recordable now) =
      let c = kept_contents old.log in
      let e : kept_contents new.log ≡ with_change (change_record call.request) c = ap (λ (m : Moment). m.kept) now in
      let first : (kept_contents new.log).first ≡ c.first = ap (λ (x : Contents). x.first) e in
      let count : length (kept_contents new.log).changes ≡ length (c.changes ++ change_record call.request ∷ []) = ap (λ (x : Contents). length x.changes) e in
      omega (arith, first, count, length-append c.changes (change_record call.request ∷ []))
  number_after old call new (not_appended none accepts reply same recordable not cause) =
      let e : next_number (kept_contents new.log) ≡ next_number (kept_contents old.log) = ap (λ (c : Contents). next_number c) (kept_by (change_record call.request) old.log.history.now new.log.history.now not) in omega (arith, e)

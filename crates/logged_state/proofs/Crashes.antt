-- What a crash leaves leads to the state, or to one change more.
use Rattle.std.proofs.Common.{◌≡◌, ◌⊎◌, inl, inr, ℕ, List, [], ◌∷◌, ◌++◌, map, Option, None, Some, option_map, IfSome, IsSomeAnd, refl, sym, ap, subst, ◌∙◌}
use Rattle.std.specs.List.{AllByRecursion}
use Rattle.std.proofs.lemmas.List.{map-append}
use Rattle.reply_text.specs.ReplyHeads.{SentReply}
use Rattle.http_wire.specs.declared.request.Request.{Request}
use Rattle.change_log.specs.LogContents.{Contents, with_change}
use Rattle.change_log.specs.LogStates.{LogState, FailsToAppend, kept_contents}
use Rattle.change_log.specs.LogHistories.{IsFoundBeforeOr, MayBeFound, Moment, HoldsAtEachMoment}
use Rattle.change_log.proofs.Passing.{no_call, weaker}
use Rattle.change_records.specs.Records.{IsRecordable, change_record, kept_request}
use Rattle.change_records.proofs.Again.{record_again, recordable_again, kept_request_again}
use Rattle.logged_state.specs.DurableAnswers.{Accepts, Answers, AnswersAll, Call, DurableState, FindsChange, stays, appended, not_appended}
use Rattle.logged_state.specs.Restarts.{ComesTo, IsKept, IsRecorded, KeepsCall, KeepsCalls, MakesChanges, Survives, SurvivesCall}

all_and_one : {A : Type 0} (P : A → Type 0) (xs : List A) (x : A) → AllByRecursion P xs → P x → AllByRecursion P (xs ++ x ∷ [])
all_and_one P [] x all one = (one, tt)
all_and_one P (y ∷ ys) x all one = (all.0, all_and_one P ys x all.1 one)

module _ {M E : Type 0} (Step : M → Request → SentReply → M → Option E → Type 0) (Begins : List (List ℕ) → ℕ → M → Type 0)
    (suffice : (m : M) (request : Request) (reply : SentReply) (next : M) (edit : E) → Step m request reply next (Some edit) → (again : SentReply) × Step m (kept_request request) again next (Some edit)) where
  one_change_more : (requests : List Request) (m mid n : M) (request : Request) (reply : SentReply) (edit : E) → MakesChanges Step Begins m requests mid → Step mid request reply n (Some edit) → MakesChanges Step Begins m (requests ++ request ∷ []) n
  one_change_more [] m mid n request reply edit made step = (reply, n, edit, subst (λ (x : M). Step x request reply n (Some edit)) made step, refl)
  one_change_more (first ∷ requests) m mid n request reply edit made step =
      (made.0, made.1, made.2, made.3, one_change_more requests made.1 mid n request reply edit made.4 step)

  -- the contents with one change more lead to the state after it
  comes_after : (found : Contents) (m n : M) (request : Request) (reply : SentReply) (edit : E) → ComesTo Step Begins found m → IsRecordable request → Step m request reply n (Some edit) → ComesTo Step Begins (with_change (change_record request) found) n
  comes_after found m n request reply edit comes recordable step =
      let again = suffice m request reply n edit step in
      record {
        origin = comes.origin;
        requests = comes.requests ++ kept_request request ∷ [];
        begins = comes.begins;
        told = all_and_one IsRecorded comes.requests (kept_request request) comes.told (recordable_again request recordable, kept_request_again request);
        changes =
            ap (λ (l : List (List ℕ)). l ++ change_record request ∷ []) comes.changes
            ∙ ap (λ (r : List ℕ). map change_record comes.requests ++ r ∷ []) (sym (record_again request))
            ∙ sym (map-append change_record comes.requests (kept_request request ∷ []));
        made = one_change_more comes.requests comes.origin m n (kept_request request) again.0 edit comes.made again.1;
      }

  with_pending : (m : M) (pending : Option Request) (found : Contents) → ComesTo Step Begins found m → Survives Step Begins m pending found
  with_pending m None found comes = comes
  with_pending m (Some request) found comes = inl comes

  -- contents with the change of an accepted request
  survives_change : (m : M) (found changed : Contents) (request : Request) → ComesTo Step Begins found m → IsRecordable request → Accepts Step m request → changed ≡ with_change (change_record request) found → Survives Step Begins m (Some request) changed
  survives_change m found changed request comes recordable accepts is =
      inr (
        accepts.0,
        accepts.1,
        accepts.2,
        accepts.3,
        subst (λ (c : Contents). ComesTo Step Begins c accepts.1) (sym is) (comes_after found m accepts.1 request accepts.0 accepts.2 comes recordable accepts.3),
      )

  pending_change : (m : M) (pending : Option Request) (base found : Contents) → ComesTo Step Begins base m → IfSome pending (λ request. IsRecordable request × Accepts Step m request)
      → IsSomeAnd (option_map change_record pending) (λ change. found ≡ with_change change base) → Survives Step Begins m pending found
  pending_change m None base found comes accepted is = absurd is
  pending_change m (Some request) base found comes accepted is = survives_change m base found request comes accepted.0 accepted.1 is

  replaced : (m : M) (instead : Option Contents) (found : Contents) → IfSome instead (λ c. ComesTo Step Begins c m) → IsSomeAnd instead (λ c. found ≡ c) → ComesTo Step Begins found m
  replaced m None found all is = absurd is
  replaced m (Some c) found all is = subst (λ (c : Contents). ComesTo Step Begins c m) (sym is) all

  pub between : (m : M) (pending : Option Request) (now : Moment) → IsKept Step Begins m pending now → (found : Contents) → MayBeFound now found → Survives Step Begins m pending found
  between m pending now is found may =
      elim may [
        | inl same ↦ with_pending m pending found (subst (λ (c : Contents). ComesTo Step Begins c m) (sym same) is.comes)
        | inr others ↦ elim others [
          | inl changed ↦ pending_change m pending now.kept found is.comes is.accepted (subst (λ (o : Option (List ℕ)). IsSomeAnd o (λ change. found ≡ with_change change now.kept)) is.open_change changed)
          | inr instead ↦ with_pending m pending found (replaced m now.instead found is.instead instead)
        ]
      ]

  -- ---- a call

  module _ (old new : DurableState M) (pending : Option Request) (call : Call E) (is : IsKept Step Begins old.machine pending old.log.history.now) where
    abbrev m : M
    m = old.machine

    abbrev request : Request
    request = call.request

    moments : IsRecordable request → Accepts Step m request → FindsChange old.log request new.log → HoldsAtEachMoment (SurvivesCall Step Begins m pending request) old.log.history new.log.history
    moments recordable accepts finds =
        weaker (IsFoundBeforeOr old.log.history (with_change (change_record request) (kept_contents old.log))) (SurvivesCall Step Begins m pending request)
        (λ c found. elim found [
          | inl before ↦ inl (between m pending old.log.history.now is c before)
          | inr changed ↦ inr (survives_change m (kept_contents old.log) c request is.comes recordable accepts changed)
        ]) old.log.history new.log.history finds

    abbrev Kept : Option Request → Type 0
    Kept next = KeepsCall Step Begins old pending call new next

    abbrev OneOf : Option Request → Type 0
    OneOf next = (next ≡ None) ⊎ ((next ≡ pending) ⊎ (next ≡ Some request))

    same_machine : (pending : Option Request) (now : Moment) → new.machine ≡ m → IsKept Step Begins m pending now → IsKept Step Begins new.machine pending now
    same_machine pending now same kept = subst (λ (x : M). IsKept Step Begins x pending now) (sym same) kept

    settled_none : (next : Option Request) → call.edit ≡ None → IfSome call.edit (λ _. next ≡ None)
    settled_none next none = subst (λ (o : Option E). IfSome o (λ _. next ≡ None)) (sym none) tt

    settled_some : (next : Option Request) (edit : E) → next ≡ None → call.edit ≡ Some edit → IfSome call.edit (λ _. next ≡ None)
    settled_some next edit none some = subst (λ (o : Option E). IfSome o (λ _. next ≡ None)) (sym some) none

    kept_after : (now : Moment) → IsRecordable request → Accepts Step m request → FailsToAppend (change_record request) old.log.history.now now → (next : Option Request) × IsKept Step Begins m next now × OneOf next
    kept_after now recordable accepts (inl none) =
        (None, subst (IsKept Step Begins m None) (sym none) (record { comes = is.comes; open_change = refl; accepted = tt; instead = is.instead }), inl refl)
    kept_after now recordable accepts (inr (inl same)) =
        (pending, subst (IsKept Step Begins m pending) (sym same) is, inr (inl refl))
    kept_after now recordable accepts (inr (inr opened)) =
        (Some request, subst (IsKept Step Begins m (Some request)) (sym opened) (record { comes = is.comes; open_change = refl; accepted = (recordable, accepts); instead = is.instead }), inr (inr refl))

    pub in_call : Answers Step old call new → FindsChange old.log request new.log → (next : Option Request) × Kept next
    in_call (stays none step same same_log) finds = (
      pending,
      record {
        kept = same_machine pending new.log.history.now same (subst (λ (l : LogState). IsKept Step Begins m pending l.history.now) (sym same_log) is);
        settled = settled_none pending none;
        one_of = inr (inl refl);
        any_moment = subst (λ (l : LogState). HoldsAtEachMoment (SurvivesCall Step Begins m pending request) old.log.history l.history) (sym same_log) (no_call (SurvivesCall Step Begins m pending request) old.log.history);
      },
    )
    in_call (appended edit some step recordable now) finds = (
      None,
      record {
        kept = subst (IsKept Step Begins new.machine None) (sym now) (record {
          comes = comes_after (kept_contents old.log) m new.machine request call.reply edit is.comes recordable step;
          open_change = refl;
          accepted = tt;
          instead = tt;
        });
        settled = settled_some None edit refl some;
        one_of = inl refl;
        any_moment = moments recordable (call.reply, new.machine, edit, step) finds;
      },
    )
    in_call (not_appended none accepts reply same recordable not cause) finds =
        let after = kept_after new.log.history.now recordable accepts not in (
          after.0,
          record {
            kept = same_machine after.0 new.log.history.now same after.1;
            settled = settled_none after.0 none;
            one_of = after.2;
            any_moment = moments recordable accepts finds;
          },
        )

  pub in_calls : (calls : List (Call E)) (old new : DurableState M) (pending : Option Request) → IsKept Step Begins old.machine pending old.log.history.now → AnswersAll Step old calls new
      → (last : Option Request) × IsKept Step Begins new.machine last new.log.history.now × KeepsCalls Step Begins old pending calls new last
  in_calls [] old new pending is same = (pending, subst (λ (s : DurableState M). IsKept Step Begins s.machine pending s.log.history.now) (sym same) is, (same, refl))
  in_calls (call ∷ calls) old new pending is (mid, answers, finds, others) =
      let first = in_call old mid pending call is answers finds in
      let rest = in_calls calls mid new first.0 first.1.kept others in
      (rest.0, rest.1, (mid, first.0, answers, first.1, rest.2))

use Rattle.std.proofs.Common.{rules, ◌≡◌, ℕ, ◌-◌, Bool, List, [], ◌∷◌, ◌++◌, map, length, chars, encode_utf8_all, Result, Ok, Err, refl, sym, ap, ◌∙◌, append_assoc, arith}
use denote.Text.{Utf8}
use denote.Shadow.{shadow}
use Rattle.std.proofs.lemmas.Str.{encodes-chars}
use Rattle.xml_grammar.specs.TextReading.{Stop, ◌>>=◌}
use Rattle.xml_grammar.specs.readers.RuleReaders.{read_many}
use Rattle.xml_tokens.specs.declared.fault_kind.FaultKind.{FaultKind}
use Rattle.node_select.specs.readers.SelectorValues.{steps_from_parts}
use Rattle.std.proofs.lemmas.List.{append-nil, map_push}
use Rattle.std.proofs.lemmas.Result.{err_from_is_err_and}
use Rattle.xml_tokens.proofs.Loops.{finish, goes_on, ends, is_done, is_stopped}
use Rattle.node_select.specs.readers.RawSelectors.{RawStep}
use Rattle.node_select.specs.readers.PartialReads.{steps_with}
use Rattle.node_select.specs.readers.Selectors.{read_next_step, read_step, read_steps}
use Rattle.node_select.specs.readers.Views.{step_follows_in, step_view}
use Rattle.node_select.proofs.steps.steps.Goals as goal
use Rattle.node_select.proofs.steps.steps.Goals.{else-loop-test, then-loop-test+then-not-step_follows}

-- after the first step
steps_begin : (test : List ℕ → Bool) (text left : List ℕ) (first : RawStep) → read_step text ≡ Ok (first, left) → read_steps test text ≡ finish steps_with (first ∷ []) (read_many test read_next_step left)
steps_begin test text left first h =
    ap (λ (r : Result (RawStep × List ℕ) (Stop FaultKind)). (r >>= λ x. read_many test read_next_step x.1 >>= λ y. let z : (RawStep × List RawStep) × List ℕ = ((x.0, y.0), y.1) in Ok z) >>= λ x. Ok (steps_from_parts x.0, x.1)) h
    ∙ by_out (read_many test read_next_step left)
  where
    by_out : (out : Result (List RawStep × List ℕ) (Stop FaultKind)) → (out >>= λ y. let z : (RawStep × List RawStep) × List ℕ = ((first, y.0), y.1) in Ok z) >>= (λ x. Ok (steps_from_parts x.0, x.1)) ≡ finish steps_with (first ∷ []) out
    by_out (Ok y) = refl
    by_out (Err e) = refl

pub loop-init : goal.loop-init
loop-init c =
    let start = c.in_ok-first.start.now in
    let text : shadow (Utf8 start) = search rules in
    let all : length start - 0 ≡ length (encode_utf8_all (chars start)) = omega (arith, ap length (encodes-chars start text)) in
    record {
      utf8 = text;
      left = rw (c.in_ok-push.ensures.items, c.new-steps.ensures.items, all) (steps_begin (step_follows_in c.args.form) (chars c.args.text.now) (chars start) (step_view c.in_ok-first.first) c.in_ok-first.ensures.reads_rule);
    }

pub returns-in_err-step : goal.returns-in_err-step
returns-in_err-step c = record {
  reads_rule =
      let p = err_from_is_err_and c.from_residual-in_err-step.result c.from_residual-in_err-step.ensures.1 in
      rw (p.1, p.2) (ends (step_follows_in c.args.form) read_next_step steps_with c.in_err-step.field-0.0 (map step_view c.loop.steps.items) _ c.loop.counter (chars c.loop.rest.now) (read_steps (step_follows_in c.args.form) (chars c.args.text.now)) c.loop-test.true (sym c.step_follows.ensures.exact ∙ c.if-not-step_follows.false)
      c.in_err-step.ensures.reads_rule c.loop.invariant.left);
}

join : (front : List RawStep) (x : RawStep) (xs : List RawStep) → front ++ (x ∷ xs) ≡ (front ++ x ∷ []) ++ xs
join front x xs = sym (append_assoc front (x ∷ []) xs)

pub loop-preserved : goal.loop-preserved
loop-preserved c = record {
  utf8 = search rules;
  left =
      rw c.in_ok-push-2.ensures.items (rw (map_push step_view c.loop.steps.items c.in_ok-step.step)
      (goes_on (step_follows_in c.args.form) read_next_step steps_with (map step_view c.loop.steps.items) (map step_view c.loop.steps.items ++ step_view c.in_ok-step.step ∷ []) _ c.loop.counter (chars c.loop.rest.now) (chars c.in_ok-step.after.now) (step_view c.in_ok-step.step) (read_steps (step_follows_in c.args.form) (chars c.args.text.now)) c.loop-test.true (sym c.step_follows.ensures.exact ∙ c.if-not-step_follows.false)
      c.in_ok-step.ensures.reads_rule
      (λ xs. join (map step_view c.loop.steps.items) (step_view c.in_ok-step.step) xs) c.loop.invariant.left));
}

none_more : (front : List RawStep) → front ++ [] ≡ front
none_more front = append-nil front

pub returns : goal.returns
returns c = record {
  reads_rule = elim c.loop-test.branch [
    | else-loop-test w ↦ rw (none_more (map step_view c.loop.steps.items)) at (is_done (step_follows_in c.args.form) read_next_step steps_with (map step_view c.loop.steps.items) _ c.loop.counter (chars c.loop.rest.now) (read_steps (step_follows_in c.args.form) (chars c.args.text.now)) w.loop-test.false c.loop.invariant.left)
    | then-loop-test+then-not-step_follows w ↦ rw (none_more (map step_view c.loop.steps.items)) at (is_stopped (step_follows_in c.args.form) read_next_step steps_with (map step_view c.loop.steps.items) _ c.loop.counter (chars c.loop.rest.now) (read_steps (step_follows_in c.args.form) (chars c.args.text.now)) (sym w.step_follows.ensures.exact ∙ w.if-not-step_follows.true) c.loop.invariant.left)
  ];
}

use Rattle.std.proofs.Common.{◌≡◌, ◌≤◌, List, ℕ, Option, IsSome, IfSome, length, refl, sym, subst, ◌∙◌}
use Rattle.std.proofs.lemmas.Bool.{false≢true}
use Rattle.xml_tree.specs.Tree.{child_elements_of}
use Rattle.usage_docs.specs.declared.key_repeats.KeyRepeat.{KeyRepeat}
use Rattle.usage_docs.specs.readers.KeyRepeats.{IsFirstRepeat}
use Rattle.usage_docs.proofs.FindingLemmas.{none_repeats, repeats_first, repeats_later, repeats_low}
use Rattle.usage_docs.proofs.validation_result.note_repeat.Goals as goal

pub returns-in_default : goal.returns-in_default
returns-in_default c = record {
  others_stay = (refl, refl);
  is_first_repeat = λ row s e before held low so.
      none_repeats row s (child_elements_of e) c.args.trail.now c.args.clear before c.args.found.now.clash
      (subst (λ (o : Option KeyRepeat). IsFirstRepeat row s (child_elements_of e) o) c.in_default.is held) so;
}

pub returns-then-clear-repeat : goal.returns-then-clear-repeat
returns-then-clear-repeat c = record {
  others_stay = (refl, refl);
  is_first_repeat = λ row s e before held low so.
      repeats_later row s (child_elements_of e) c.args.trail.now c.in-Some.repeat (subst (λ (o : Option KeyRepeat). IsFirstRepeat row s (child_elements_of e) o) c.in-Some.is held)
      c.args.clear before c.args.found.now.clash c.if-clear-repeat.true so;
}

pub returns-in_default-path : goal.returns-in_default-path
returns-in_default-path c = record {
  others_stay = (refl, refl);
  is_first_repeat = λ row s e before held low so.
      (let first = subst (λ (o : Option KeyRepeat). IsFirstRepeat row s (child_elements_of e) o) c.in-Some.is held in
      let short = repeats_low row s (child_elements_of e) c.args.trail.now c.in-Some.repeat first e.content refl low in
      let there = c.path.ensures.short_is_some (subst (λ (p : List ℕ). length p ≤ 64) (sym c.child-here.ensures.exact) short) in
      absurd (false≢true (subst (λ (o : Option (List ℕ)). IsSome o) c.in_default-path.is there)));
}

pub returns : goal.returns
returns c = record {
  others_stay = (refl, refl);
  is_first_repeat = λ row s e before held low so.
      (let first = subst (λ (o : Option KeyRepeat). IsFirstRepeat row s (child_elements_of e) o) c.in-Some.is held in
      let path = subst (λ (o : Option (List ℕ)). IfSome o (λ p. p ≡ c.child-here.result)) c.in-Some-path.is c.path.ensures.path_to_place in
      repeats_first row s (child_elements_of e) c.args.trail.now c.in-Some.repeat first c.args.clear before c.args.found.now.clash c.in-Some-path.path c.if-clear-repeat.false (path ∙ c.child-here.ensures.exact) so);
}

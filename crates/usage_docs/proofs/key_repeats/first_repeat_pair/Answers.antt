use Rattle.std.proofs.Common.{ℕ, ◌+◌, Option, Some, add-one, ap, arith, subst, sym, ◌∙◌}
use Rattle.std.proofs.lemmas.Bool.{false≢true}
use Rattle.usage_docs.specs.declared.schema_table.ElementKind.{ElementKind}
use Rattle.usage_docs.specs.readers.KeyRepeats.{IsLeastPair}
use Rattle.usage_docs.proofs.RepeatLemmas.{lesser_pair, no_pair_yet, other_pair, pairs_end}
use Rattle.usage_docs.proofs.key_repeats.first_repeat_pair.Goals as goal
use Rattle.usage_docs.proofs.key_repeats.first_repeat_pair.Goals.{then-is_repeat_pair, else-is_repeat_pair}

pub loop-at-init : goal.loop-at-init
loop-at-init c = no_pair_yet c.args.keys.now

pub loop-at-preserved : goal.loop-at-preserved
loop-at-preserved c =
    let keys = c.args.keys.now in
    let at = c.loop-at.at in
    let found = c.loop-at.found in
    let one = c.index-keys-at-in-loop-at.result in
    let other = c.index-keys-at.result in
    let pos = c.loop-at.auto.at in
    let less = c.loop-at-test.true in
    elim c.if-is_repeat_pair.branch [
      | then-is_repeat_pair w ↦
          subst (λ (o : Option (ℕ × ElementKind)). IsLeastPair keys (at + 1) o) (sym (w.found-is ∙ ap Some w.earlier_child.ensures.exact))
          (lesser_pair keys at one other (omega (arith, pos)) less c.index-keys-at-in-loop-at.is c.index-keys-at.is (at + 1) found (add-one at) (c.is_repeat_pair.ensures.exact.0 w.if-is_repeat_pair.true) c.loop-at.invariant)
      | else-is_repeat_pair w ↦
          subst (λ (o : Option (ℕ × ElementKind)). IsLeastPair keys (at + 1) o) (sym w.found-is)
          (other_pair keys at one other (omega (arith, pos)) less c.index-keys-at-in-loop-at.is c.index-keys-at.is (at + 1) found (add-one at)
          (λ pair. false≢true (sym w.if-is_repeat_pair.false ∙ c.is_repeat_pair.ensures.exact.1 pair)) c.loop-at.invariant)
    ]

pub returns : goal.returns
returns c = record { is_least_pair = pairs_end c.args.keys.now c.loop-at.at c.loop-at.found c.loop-at-test.false c.loop-at.invariant }

use Rattle.std.proofs.Common.{List, ℕ, [], ◌∷◌, subst}
use Rattle.patch_write.specs.inner.DeclaredPrefixes.{GainsPrefixes}
use Rattle.patch_write.proofs.PrefixSets.{gains-end, gains-next, gains-none, gains-one, prefix_alone, declared_prefixes-each}
use Rattle.patch_write.proofs.prefixes.add_decls.Goals as goal

pub loop-decl-init : goal.loop-decl-init
loop-decl-init c = gains-none c.args.seen.now

pub loop-decl-preserved : goal.loop-decl-preserved
loop-decl-preserved c =
    let d = c.decl-item.result in
    gains-next prefix_alone [] c.args.decls.now c.loop-decl.decl-index d c.args.seen.now c.loop-decl.seen c.insert.new.self c.loop-decl-test.true c.decl-item.is c.loop-decl.invariant
    (subst (λ (p : List ℕ). GainsPrefixes (p ∷ []) c.loop-decl.seen c.insert.new.self) c.in_ok-copy.ensures.equal_text (gains-one c.in_ok-copy.field-0 c.loop-decl.seen c.insert.new.self c.in_ok-_is_new.ensures.updates))

pub returns : goal.returns
returns c = record {
  gains_prefixes =
      subst (λ (l : List (List ℕ)). GainsPrefixes l c.args.seen.now c.loop-decl.seen) (declared_prefixes-each c.args.decls.now)
      (gains-end prefix_alone [] c.args.decls.now c.loop-decl.decl-index c.args.seen.now c.loop-decl.seen c.loop-decl-test.false c.loop-decl.invariant);
}

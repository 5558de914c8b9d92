use Rattle.std.proofs.Common.{ℕ, ◌+◌, cond, take, Option, None, ap, ◌∙◌, arith}
use Rattle.std.specs.Str.{bytes_eq}
use Rattle.store_core.specs.inner.StoreMemory.{registered_number}
use Rattle.store_core.proofs.RegistryLemmas.{more-last, taken-more}
use Rattle.store_core.proofs.registry.release_addresses.Goals as goal

pub loop-uri-preserved : goal.loop-uri-preserved
loop-uri-preserved c =
    let us = c.args.uris.now in
    let i = c.loop-uri.uri-index in
    let u = c.uri-item.result in record {
      left = λ k.
          c.swap_remove.ensures.updates.0 k
          ∙ ap (λ (o : Option ℕ). cond (bytes_eq u k) None o) (c.loop-uri.invariant.left k)
          ∙ more-last (take i us) (take (i + 1) us) u k None (registered_number c.args.registry.now.entries k) (taken-more us i u c.loop-uri-test.true c.uri-item.is);
      room = omega (arith, c.swap_remove.ensures.room, c.loop-uri.invariant.room);
    }

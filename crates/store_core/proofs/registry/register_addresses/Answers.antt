use Rattle.std.proofs.Common.{List, ℕ, ◌++◌, cond, Option, Some, ap, ◌∙◌, rules}
use Rattle.std.specs.HashMap.{Updates}
use Rattle.std.specs.Option.{option_to_list}
use Rattle.std.specs.Set.{is_member}
use Rattle.std.specs.Str.{bytes_eq}
use Rattle.store_core.specs.inner.StoreMemory.{registered_number}
use Rattle.store_core.proofs.RegistryLemmas.{more-first, succeeded}
use Rattle.store_core.proofs.registry.register_addresses.Goals as goal

pub each-preserved : goal.each-preserved
each-preserved c =
    let us = c.pop.new.self.items in
    let u = c.in-Some.uri in
    let given = Some c.args.number in
    let all = c.pop.ensures.items ∙ ap (λ (o : Option (List ℕ)). us ++ option_to_list o) c.in-Some.is in
    let entered = succeeded c.insert.result c.unwrap.result (Updates bytes_eq c.each.registry c.insert.new.self u given) c.unwrap.ensures c.insert.ensures.updates in record {
      room = search rules;
      rest = λ k.
          ap (λ (o : Option ℕ). cond (is_member bytes_eq us k) given o) (entered.0 k)
          ∙ more-first us c.each.uris.items u k given (registered_number c.each.registry.entries k) all
          ∙ c.each.invariant.rest k;
    }

use Rattle.std.proofs.Common.{chars, ap, sym, ◌∙◌}
use Rattle.std.specs.Option.{option_copied, option_or}
use Rattle.xml_names.proofs.ScopeLemmas.{nearer}
use Rattle.xml_names.proofs.prefixes.nearest_uri.Goals as goal
use Rattle.xml_names.proofs.prefixes.nearest_uri.Goals.{in-Some, in_default}

pub loop-list-preserved : goal.loop-list-preserved
loop-list-preserved c =
    let found = option_copied c.loop-list.found in
    nearer (chars c.args.prefix.now) c.args.lists.now c.loop-list.list-index c.list-item.result found _ _ c.loop-list-test.true c.list-item.is c.loop-list.invariant
    (elim c.match-declared_uri.branch [
      | in-Some w ↦ ap option_copied w.found-is ∙ ap (λ o. option_or (option_copied o) found) (sym w.in-Some.is) ∙ ap (λ o. option_or o found) c.declared_uri.ensures.exact
      | in_default w ↦ ap option_copied w.found-is ∙ ap (λ o. option_or (option_copied o) found) (sym w.in_default.is) ∙ ap (λ o. option_or o found) c.declared_uri.ensures.exact
    ])

use Rattle.std.proofs.Common.{◌≡◌, drop, map, chars}
use Rattle.std.specs.Option.{option_or, option_copied}
use Rattle.xml_names.specs.Scopes.{declared_uri, scope_decls}
use Rattle.xml_names.proofs.prefixes.nearest_uri.Given as goal

abbrev pub invariant-loop-list : goal.invariant-loop-list
invariant-loop-list l =
    option_or (declared_uri (scope_decls (map (λ x. x.now) (drop l.list-index l.lists))) (chars l.prefix)) (option_copied l.found)
    ≡ declared_uri (scope_decls (map (λ x. x.now) l.lists)) (chars l.prefix)

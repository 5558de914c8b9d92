use Rattle.std.proofs.Common.{◌≡◌, drop, chars}
use Rattle.std.specs.Option.{option_or, option_copied}
use Rattle.xml_names.specs.Scopes.{declared_uri}
use Rattle.xml_names.proofs.prefixes.declared_uri.Given as goal

abbrev pub invariant-loop-decl : goal.invariant-loop-decl
invariant-loop-decl l =
    option_or (declared_uri (drop l.decl-index l.decls) (chars l.prefix)) (option_copied l.found) ≡ declared_uri l.decls (chars l.prefix)

-- Chains of places that are linked outwards.
use Rattle.std.specs.Prelude.{List, [], ◌∷◌}
use Rattle.list_resolve.specs.declared.document_place.Place.{Place}
use Rattle.list_resolve.specs.declared.visit_chain.Link.{Link}
use Rattle.list_resolve.specs.declared.visit_chain.Link.TheVariants.{End, After}

-- the places on a chain, innermost first
abbrev pub chain_places : Link → List Place
chain_places End = []
chain_places (After place outer) = place.now ∷ outer.now

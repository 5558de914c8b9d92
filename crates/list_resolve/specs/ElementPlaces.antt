-- Places of elements in one user's documents of lists: the name of the document, and the path in
-- it.
use Rattle.std.specs.Prelude.{Bool, ◌&&◌, List}
use Rattle.std.specs.List.{list_any}
use Rattle.std.specs.Str.{bytes_eq}
use Rattle.list_resolve.specs.declared.document_place.Place.{Place}

-- whether two places are equal
abbrev pub same_place : Place → Place → Bool
same_place a b = bytes_eq a.name b.name && bytes_eq a.path b.path

-- whether a place is one of these
abbrev pub contains_place : List Place → Place → Bool
contains_place chain place = list_any (same_place place) chain

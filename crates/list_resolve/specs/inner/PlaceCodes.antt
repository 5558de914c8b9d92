-- How a ghost variable stores a place, and what a hasher is fed for it.
use Rattle.std.specs.Prelude.{ℕ, List, ◌++◌, encode_utf8_all}
use Rattle.std.specs.Coded.{Coded, code_by, coded×, coded_ℕ, coded_list}
use Rattle.std.specs.Hash as fed
use Rattle.std.specs.Hash.{HashWrites}
use Rattle.list_resolve.specs.declared.document_place.Place.{Place}
use mathlib.Core.Path.{refl}

abbrev pub place_code : Coded Place
place_code =
    code_by (List ℕ × List ℕ) (coded× (coded_list coded_ℕ) (coded_list coded_ℕ))
    (λ p. (p.name, p.path)) (λ p. record { name = p.0; path = p.1 }) (λ _. refl)

abbrev pub place_hash_input : Place → HashWrites
place_hash_input p = fed.str (encode_utf8_all p.name) ++ fed.slice fed.usize p.path

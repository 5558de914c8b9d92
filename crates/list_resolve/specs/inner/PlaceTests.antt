-- The test of two places holds exactly where they are equal, so places serve as keys of sets.
use Rattle.std.proofs.Common.{◌≡◌, true, IsTrue, ap}
use Rattle.std.proofs.lemmas.Bool.{and_parts}
use Rattle.std.specs.Cmp.{IsEquivalence, and_equiv, on_equiv}
use Rattle.std.specs.Cmp.Lexicographic.{bytes_decides, nat_list_eq_equiv}
use Rattle.std.specs.Str.{bytes_eq}
use Rattle.list_resolve.specs.declared.document_place.Place.{Place}
use Rattle.list_resolve.specs.ElementPlaces.{same_place}
use Rattle.list_resolve.specs.inner.PlaceCodes.{place_hash_input}

pub places_equiv : IsEquivalence same_place
places_equiv =
    and_equiv (on_equiv (λ (p : Place). p.name) nat_list_eq_equiv)
    (on_equiv (λ (p : Place). p.path) nat_list_eq_equiv)

-- places that pass the test are equal
pub place_exact : (a b : Place) → same_place a b ≡ true → a ≡ b
place_exact a b h =
    let parts = and_parts (bytes_eq a.name b.name) (bytes_eq a.path b.path) h in
    let name = (bytes_decides a.name b.name).0 parts.0 in
    let path = (bytes_decides a.path b.path).0 parts.1 in
    λ i. record { name = name i; path = path i }

-- so a hasher is fed the same for both
pub places_fed : (a b : Place) → IsTrue (same_place a b) → place_hash_input a ≡ place_hash_input b
places_fed a b h = ap place_hash_input (place_exact a b h)

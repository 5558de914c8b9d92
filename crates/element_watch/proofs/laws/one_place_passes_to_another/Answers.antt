use Rattle.element_watch.proofs.EarlierPlaces.{one_start}
use Rattle.element_watch.proofs.laws.one_place_passes_to_another.Goals as goal

pub returns : goal.returns
returns c = record { places_are_one = one_start }

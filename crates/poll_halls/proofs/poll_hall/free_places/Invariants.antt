use Rattle.poll_halls.specs.inner.ConnectionPlaces.{AreFreePlaces}
use Rattle.poll_halls.proofs.poll_hall.free_places.Given as goal

abbrev pub invariant-loop : goal.invariant-loop
invariant-loop g l = AreFreePlaces l.made.items

use Rattle.reply_bodies.proofs.Parents.{parent_from_place, place_from_parent}
use Rattle.reply_bodies.proofs.laws.elements_have_places_below_their_parents.Goals as goal

pub returns : goal.returns
returns c = record { place_iff_parent = λ first second steps root. (parent_from_place first second steps root, place_from_parent first second steps root) }

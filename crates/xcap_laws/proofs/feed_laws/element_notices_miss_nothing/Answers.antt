use Rattle.xcap_laws.proofs.ToldElements.{change_told, removal_told}
use Rattle.xcap_laws.proofs.feed_laws.element_notices_miss_nothing.Goals as goal

pub returns : goal.returns
returns x = record {
  change_reported = λ root c m query a u p h usage selects by_keys differs. change_told root c m query a h u p usage selects by_keys differs;
  removal_reported = λ root c m query a h none some. removal_told root c m query a h none some;
}

use Rattle.xcap_laws.proofs.HeadOfGet.{head_is_get}
use Rattle.xcap_laws.proofs.method_laws.head_is_get_without_body.Goals as goal

pub returns : goal.returns
returns c = record { same_head = head_is_get }

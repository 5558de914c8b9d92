use Rattle.unread_parts.proofs.SameDocuments.{same_step}
use Rattle.unread_parts.proofs.laws.writes_depend_on_documents_alone.Goals as goal

pub returns : goal.returns
returns c = record { same_step = same_step }

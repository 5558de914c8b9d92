use Rattle.xcap_uri.proofs.AddressedDocuments.{addressed}
use Rattle.xcap_uri.proofs.NamePrints.{names}
use Rattle.xcap_uri.proofs.name_laws.printed_names_name_their_documents.Goals as goal

pub returns : goal.returns
returns c = record { printed_name = names; addressed_name = addressed }

use Rattle.xcap_laws.proofs.Addressed.{addressed}
use Rattle.xcap_laws.proofs.Beside.{changed_tree, elements_around_stay, elements_beside_stay, other_documents_stay}
use Rattle.xcap_laws.proofs.edit_laws.only_the_addressed_changes.Goals as goal

pub returns-clause-addressed_change : goal.returns-clause-addressed_change
returns-clause-addressed_change c = λ root c next request reply e does.
    let a = addressed root c next request reply e does in (a.0, a.1, a.2.0, a.2.1)

pub returns-clause-other_documents : goal.returns-clause-other_documents
returns-clause-other_documents c = other_documents_stay

pub returns-clause-changed_tree : goal.returns-clause-changed_tree
returns-clause-changed_tree c = changed_tree

pub returns-clause-other_elements : goal.returns-clause-other_elements
returns-clause-other_elements c = elements_beside_stay

pub returns-clause-elements_around : goal.returns-clause-elements_around
returns-clause-elements_around c = elements_around_stay

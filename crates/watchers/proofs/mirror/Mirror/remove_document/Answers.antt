use Rattle.std.proofs.Common.{None, ap, ◌∙◌}
use Rattle.watchers.specs.Mirrors.{find_mirrored}
use Rattle.watchers.proofs.Holdings.{held_now, others_stay}
use Rattle.watchers.proofs.mirror.Mirror.remove_document.Goals as goal

pub returns-clause-document_is_forgotten : goal.returns-clause-document_is_forgotten
returns-clause-document_is_forgotten c = held_now c.swap_remove.new.self.entries c.args.doc.now None c.swap_remove.ensures.updates.1

pub returns-clause-other_documents_stay : goal.returns-clause-other_documents_stay
returns-clause-other_documents_stay c = λ other differs.
    others_stay c.self.inside.held.entries c.swap_remove.new.self.entries c.args.doc.now (λ q apart. c.swap_remove.ensures.updates.2 q apart) other differs ∙ ap (λ es. find_mirrored es other) c.self.view_is

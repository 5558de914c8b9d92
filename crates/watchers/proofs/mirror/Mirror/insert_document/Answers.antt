use Rattle.std.proofs.Common.{◌≡◌, inl, inr, ap, sym, subst, ◌∙◌, arith, Some}
use Rattle.std.specs.Map.{lookup}
use Rattle.doc_names.specs.contracts.doc_id.DocIdPartialEq.TheImpl.{eq-value}
use Rattle.watchers.specs.declared.mirror_entry.MirrorEntry.{MirrorEntry}
use Rattle.watchers.specs.Mirrors.{OthersAreUnchanged, find_mirrored}
use Rattle.watchers.proofs.Holdings.{held_now, others_stay}
use Rattle.watchers.proofs.mirror.Mirror.insert_document.Goals as goal

pub returns-then-depth-gt-MAX_LEVELS-clause-holds_new : goal.returns-then-depth-gt-MAX_LEVELS-clause-holds_new
returns-then-depth-gt-MAX_LEVELS-clause-holds_new c = inr (omega (arith, c.if-depth-gt-MAX_LEVELS.true, c.depth.ensures.exact), c.remove_document.ensures.document_is_forgotten)

pub returns-clause-holds_new : goal.returns-clause-holds_new
returns-clause-holds_new c =
    let held : MirrorEntry = record { tree = c.in_ok-tree.tree; number = c.args.number } in
    let is : lookup (eq-value.it c.in_ok-doc.doc) c.insert.new.self.entries ≡ Some held = c.in_ok-insert.ensures.updates.1 in
    inl (
      omega (arith, c.if-depth-gt-MAX_LEVELS.false, c.depth.ensures.exact),
      ap (λ d. find_mirrored c.insert.new.self.entries d) (sym c.in_ok-doc.ensures.equal_copy) ∙ held_now c.insert.new.self.entries c.in_ok-doc.doc (Some held) is ∙ ap (λ t. Some (t, c.args.number)) c.in_ok-tree.ensures.equal_copy,
    )

pub returns-clause-other_documents_stay : goal.returns-clause-other_documents_stay
returns-clause-other_documents_stay c = λ other differs.
    let others = others_stay c.self.inside.held.entries c.insert.new.self.entries c.in_ok-doc.doc (λ q apart. c.in_ok-insert.ensures.updates.2 q apart) in
    subst (λ d. OthersAreUnchanged c.self.inside.held.entries d c.insert.new.self.entries) c.in_ok-doc.ensures.equal_copy others other differs ∙ ap (λ es. find_mirrored es other) c.self.view_is

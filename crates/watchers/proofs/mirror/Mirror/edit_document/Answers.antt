use Rattle.std.proofs.Common.{◌≡◌, IsSome, Option, Some, None, if◌then◌else◌, refl, ap, sym, subst, ◌∙◌}
use Rattle.std.specs.Map.{lookup}
use Rattle.doc_names.specs.contracts.doc_id.DocIdPartialEq.TheImpl.{eq-value}
use Rattle.watchers.specs.MirrorContents.{MirroredDocument}
use Rattle.watchers.specs.Mirrors.{HoldsEditedTree, AllAreUnchanged, find_mirrored, mirrored_document}
use Rattle.watchers.specs.declared.mirror_entry.MirrorEntry.{MirrorEntry}
use Rattle.watchers.proofs.Holdings.{all_stay, held_now, on_err, others_stay}
use Rattle.watchers.proofs.mirror.Mirror.edit_document.Goals as goal

pub returns-in_err-stays-clause-other_documents_stay : goal.returns-in_err-stays-clause-other_documents_stay
returns-in_err-stays-clause-other_documents_stay c = λ other differs.
    let es = c.self.inside.held.entries in
    let doc = c.args.doc.now in
    let w = c.update_mirrored.new.held in
    let e : Some c.in-Some.held.now ≡ lookup (eq-value.it doc) es = c.in-Some.ensures.value in
    let u = (c.get_mut.follows.holds w).3 (subst (λ (o : Option MirrorEntry). IsSome o) e refl) in
    others_stay es (c.get_mut.follows.lender w).entries doc (λ q apart. u.2 q apart) other differs ∙ ap (λ l. find_mirrored l other) c.self.view_is

pub returns-in_err-stays-clause-err_unchanged : goal.returns-in_err-stays-clause-err_unchanged
returns-in_err-stays-clause-err_unchanged c =
    let es = c.self.inside.held.entries in
    let doc = c.args.doc.now in
    let w = c.update_mirrored.new.held in
    let e : Some c.in-Some.held.now ≡ lookup (eq-value.it doc) es = c.in-Some.ensures.value in
    let u = (c.get_mut.follows.holds w).3 (subst (λ (o : Option MirrorEntry). IsSome o) e refl) in
    let now = (c.get_mut.follows.lender w).entries in
    let same : find_mirrored now doc ≡ find_mirrored es doc = held_now now doc (Some w) u.1 ∙ ap (λ h. Some (mirrored_document h)) c.in_err-stays.ensures.err_unchanged ∙ sym (held_now es doc (Some c.in-Some.held.now) (sym e)) in
    on_err c.from_residual.result _ (subst (λ l. AllAreUnchanged l now) c.self.view_is (all_stay es now doc (λ q apart. u.2 q apart) same))

pub returns-then-stays-clause-holds_edited : goal.returns-then-stays-clause-holds_edited
returns-then-stays-clause-holds_edited c =
    let es = c.self.inside.held.entries in
    let doc = c.args.doc.now in
    let change = c.args.change.now in
    let number = c.args.number in
    let w = c.update_mirrored.new.held in
    let e : Some c.in-Some.held.now ≡ lookup (eq-value.it doc) es = c.in-Some.ensures.value in
    let u = (c.get_mut.follows.holds w).3 (subst (λ (o : Option MirrorEntry). IsSome o) e refl) in
    let now = (c.get_mut.follows.lender w).entries in
    let before : find_mirrored c.args.self.now doc ≡ Some (mirrored_document c.in-Some.held.now) = ap (λ l. find_mirrored l doc) (sym c.self.view_is) ∙ held_now es doc (Some c.in-Some.held.now) (sym e) in
    let after : (if c.in_ok-stays.stays then Some (mirrored_document w) else None) ≡ find_mirrored now doc = ap (λ t. if t then Some (mirrored_document w) else None) c.if-stays.true ∙ sym (held_now now doc (Some w) u.1) in
    subst (λ (a : Option MirroredDocument). HoldsEditedTree change number a (find_mirrored now doc)) (sym before)
    (subst (λ (b : Option MirroredDocument). HoldsEditedTree change number (Some (mirrored_document c.in-Some.held.now)) b) after c.in_ok-stays.ensures.holds_edited)

pub returns-then-stays-clause-other_documents_stay : goal.returns-then-stays-clause-other_documents_stay
returns-then-stays-clause-other_documents_stay c = λ other differs.
    let es = c.self.inside.held.entries in
    let doc = c.args.doc.now in
    let w = c.update_mirrored.new.held in
    let e : Some c.in-Some.held.now ≡ lookup (eq-value.it doc) es = c.in-Some.ensures.value in
    let u = (c.get_mut.follows.holds w).3 (subst (λ (o : Option MirrorEntry). IsSome o) e refl) in
    others_stay es (c.get_mut.follows.lender w).entries doc (λ q apart. u.2 q apart) other differs ∙ ap (λ l. find_mirrored l other) c.self.view_is

pub returns-clause-holds_edited : goal.returns-clause-holds_edited
returns-clause-holds_edited c =
    let es = c.self.inside.held.entries in
    let doc = c.args.doc.now in
    let change = c.args.change.now in
    let number = c.args.number in
    let w = c.update_mirrored.new.held in
    let e : Some c.in-Some.held.now ≡ lookup (eq-value.it doc) es = c.in-Some.ensures.value in
    let now = c.remove_document.new.self in
    let before : find_mirrored c.args.self.now doc ≡ Some (mirrored_document c.in-Some.held.now) = ap (λ l. find_mirrored l doc) (sym c.self.view_is) ∙ held_now es doc (Some c.in-Some.held.now) (sym e) in
    let after : (if c.in_ok-stays.stays then Some (mirrored_document w) else None) ≡ find_mirrored now doc = ap (λ t. if t then Some (mirrored_document w) else None) c.if-stays.false ∙ sym c.remove_document.ensures.document_is_forgotten in
    subst (λ (a : Option MirroredDocument). HoldsEditedTree change number a (find_mirrored now doc)) (sym before)
    (subst (λ (b : Option MirroredDocument). HoldsEditedTree change number (Some (mirrored_document c.in-Some.held.now)) b) after c.in_ok-stays.ensures.holds_edited)

pub returns-clause-other_documents_stay : goal.returns-clause-other_documents_stay
returns-clause-other_documents_stay c = λ other differs.
    let es = c.self.inside.held.entries in
    let doc = c.args.doc.now in
    let w = c.update_mirrored.new.held in
    let e : Some c.in-Some.held.now ≡ lookup (eq-value.it doc) es = c.in-Some.ensures.value in
    let u = (c.get_mut.follows.holds w).3 (subst (λ (o : Option MirrorEntry). IsSome o) e refl) in
    c.remove_document.ensures.other_documents_stay other differs ∙ others_stay es (c.get_mut.follows.lender w).entries doc (λ q apart. u.2 q apart) other differs ∙ ap (λ l. find_mirrored l other) c.self.view_is

-- What a store has after a change that was ready for it.
use Rattle.std.proofs.Common.{◌≡◌, ℕ, Bool, List, Option, None, Some, cond, sym, ap, subst, ◌∙◌}
use Rattle.std.specs.Map.{lookup}
use Rattle.std.specs.Set.{is_member}
use Rattle.std.specs.Str.{bytes_eq}
use Rattle.doc_names.specs.NameEquality.{same_id}
use Rattle.doc_names.specs.declared.doc_id.DocId.{DocId}
use Rattle.store_core.specs.declared.limits.Limits.{Limits}
use Rattle.store_core.specs.declared.entry.Entry.{Entry}
use Rattle.store_core.specs.DocumentChanges.{contents_after}
use Rattle.store_core.specs.inner.StoreMemory.{IsConsistentStore, contents_view, registered_after, registered_number, unshared_flags}
use Rattle.store_core.specs.PreparedChanges.{HasTreeForStep, IsReady, PreparedChange}
use Rattle.store_core.proofs.ChangeSteps.{steppable, stored}
use Rattle.store_core.specs.StoreViews.{SpareCapacity, StoreView}
use Rattle.store_core.specs.inner.ChangePlans.{CanTakeStep, TakesStep}

module _ (es : List (DocId × Entry)) (rs : List (List ℕ × ℕ)) (limits : Limits) (last total : ℕ) (room : SpareCapacity) (s : StoreView) (p q : PreparedChange)
    (seen : (let x : StoreView = record { content = contents_view es limits last; room = room } in x) ≡ s) (same : p ≡ q) (storing : IsConsistentStore es rs limits last total) (ready : IsReady s q) where
  abbrev Here : StoreView
  Here = record { content = contents_view es limits last; room = room }

  pub ready-here : IsReady Here p
  ready-here = subst (λ (x : StoreView). IsReady x p) (sym seen) (subst (λ (x : PreparedChange). IsReady s x) (sym same) ready)

  pub may-step : room.trees ≡ unshared_flags es → CanTakeStep es p.doc p.step
  may-step shown =
      steppable es rs limits last total p p.step storing ready-here.planned ready-here.planned.step (subst (λ (trees : List (DocId × Bool)). HasTreeForStep p.step (lookup (same_id p.doc) trees)) shown ready-here.tree)

  module _ (left rows : List (List ℕ × ℕ)) (next : List (DocId × Entry)) (created number : ℕ) (leaves enters : List (List ℕ)) (numbered : number ≡ p.note.next) (stepped : TakesStep (record { entries = es; doc = p.doc; number = number }) p.step created next)
      (removed_addresses : leaves ≡ p.leaves) (added_addresses : enters ≡ p.enters)
      (took : (uri : List ℕ) → registered_number left uri ≡ cond (is_member bytes_eq leaves uri) None (registered_number rs uri)) (gave : (uri : List ℕ) → registered_number rows uri ≡ cond (is_member bytes_eq enters uri) (Some created) (registered_number left uri)) where
    exchanges : (uri : List ℕ) → registered_number rows uri ≡ registered_after p.leaves p.enters created (registered_number rs uri) uri
    exchanges uri =
        gave uri
        ∙ ap (λ (o : Option ℕ). cond (is_member bytes_eq enters uri) (Some created) o) (took uri)
        ∙ ap (λ (us : List (List ℕ)). cond (is_member bytes_eq enters uri) (Some created) (cond (is_member bytes_eq us uri) None (registered_number rs uri))) removed_addresses
        ∙ ap (λ (us : List (List ℕ)). cond (is_member bytes_eq us uri) (Some created) (cond (is_member bytes_eq p.leaves uri) None (registered_number rs uri))) added_addresses

    stepped-so : TakesStep (record { entries = es; doc = p.doc; number = p.note.next }) p.step created next
    stepped-so = subst (λ (n : ℕ). TakesStep (record { entries = es; doc = p.doc; number = n }) p.step created next) numbered stepped

    pub still-storing : IsConsistentStore next rows limits number p.total
    still-storing =
        subst (λ (n : ℕ). IsConsistentStore next rows limits n p.total) (sym numbered) (stored es rs limits last total p p.step created next rows storing ready-here.planned ready-here.planned.step stepped-so exchanges).1

    pub holds-next : contents_view next limits number ≡ contents_after s.content q.doc q.note.change
    holds-next =
        ap (contents_view next limits) numbered
        ∙ (stored es rs limits last total p p.step created next rows storing ready-here.planned ready-here.planned.step stepped-so exchanges).0
        ∙ ap (λ (x : StoreView). contents_after x.content p.doc p.note.change) seen
        ∙ ap (λ (x : PreparedChange). contents_after s.content x.doc x.note.change) same

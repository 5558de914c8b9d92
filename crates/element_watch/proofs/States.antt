-- The state of an element is unique, and it is the computed one.
use Rattle.std.proofs.Common.{◌≡◌, ℕ, Bool, true, false, List, [], ◌∷◌, is_some, Option, None, Some, refl, sym, ap, ◌∙◌, subst, inl, inr}
use Rattle.std.specs.Prelude.{◌&&◌, ◌||◌}
use Rattle.std.proofs.lemmas.Option.{same_Some}
use Rattle.xml_tree.specs.Tree.{Tree}
use Rattle.doc_names.specs.DocIds.{id_text}
use Rattle.doc_names.specs.Usages.{usage_of}
use Rattle.doc_names.specs.declared.doc_id.DocId.{DocId}
use Rattle.doc_names.specs.declared.usages.Usage.{Usage}
use Rattle.node_select.specs.Selection.{SelectsPath, selected_element_path}
use Rattle.node_select.specs.declared.selector.Selector.{Selector}
use Rattle.node_select.proofs.Along.{one_path}
use Rattle.node_select.proofs.ReachLemmas.{path_is}
use Rattle.edit_ops.specs.Notes.{Note}
use Rattle.element_watch.specs.ElementNotices.{element_notice}
use Rattle.edit_ops.specs.RecordParts.{has_no_notes}
use Rattle.element_watch.specs.declared.element_states.ElementState.{ElementState}
use Rattle.element_watch.specs.declared.element_states.ElementState.TheVariants.{Unchanged, Exists, Missing}
use Rattle.store_core.specs.DocumentChanges.{find_document, stored_id}
use Rattle.store_core.specs.Contents.{StoredDocument, StoreContents}
use Rattle.store_core.specs.Since.{ReportedChanges, since}
use Rattle.store_core.specs.inner.ChangesSince.{stored_changes_since}
use Rattle.element_watch.specs.WatchedElements.{IsElementNotice, HasNothingToReport, IsElementState, IsUntouched, IsUntouchedAt, SelectsSome}
use Rattle.element_watch.specs.inner.PathHistory.{path_before_notes}
use Rattle.element_watch.specs.inner.KeyAddresses.{is_key_address}
use Rattle.element_watch.specs.inner.ElementStates.{is_untouched, is_untouched_at, state_at, state_of_selected}
use Rattle.element_watch.proofs.Addresses.{address_is}
use Rattle.element_watch.proofs.EarlierPlaces.{leads_is}

-- ---- tests

both : (a b : Bool) → (a && b) ≡ true → (a ≡ true) × (b ≡ true)
both true b h = (refl, h)
both false b h = cc

and_true : (a b : Bool) → a ≡ true → b ≡ true → (a && b) ≡ true
and_true true b h g = g
and_true false b h g = cc

none_are : (ns : List Note) → has_no_notes ns ≡ true → ns ≡ []
none_are [] h = refl
none_are (n ∷ ns) h = cc

what_is : {A : Type 0} (o : Option A) → is_some o ≡ true → (x : A) × (o ≡ Some x)
what_is None h = cc
what_is (Some x) h = (x, refl)

not_both : (b : Bool) → b ≡ true → b ≡ false → ⊥
not_both true h g = cc
not_both false h g = cc

-- ---- an element that no change touched

untouched_at : (u : Usage) (t : Tree) (selector : Selector) (ns : List Note) (p : List ℕ) → SelectsPath selector.steps t p → is_untouched_at u t selector ns p ≡ true → IsUntouchedAt u t selector ns p
untouched_at u t selector ns p selects h =
    let b = both (is_key_address u t selector p) (is_some (path_before_notes p ns)) h in
    let former = what_is (path_before_notes p ns) b.1 in
    record { selects = selects; by_keys = (address_is u t selector p selects).0 b.0; former = former.0; passes = (leads_is ns former.0 p).0 former.1 }

tested_at : (u : Usage) (t : Tree) (selector : Selector) (ns : List Note) (p : List ℕ) → IsUntouchedAt u t selector ns p → is_untouched_at u t selector ns p ≡ true
tested_at u t selector ns p h =
    and_true (is_key_address u t selector p) (is_some (path_before_notes p ns)) ((address_is u t selector p h.selects).1 h.by_keys) (ap is_some ((leads_is ns h.former p).1 h.passes))

untouched_to : (u : Option Usage) (t : Tree) (selector : Selector) (ns : List Note) (p : List ℕ) → SelectsPath selector.steps t p → is_untouched u t selector ns p ≡ true → IsUntouched u t selector ns
untouched_to None t selector ns p selects h = cc
untouched_to (Some u) t selector ns p selects h = (p, untouched_at u t selector ns p selects h)

untouched_from : (u : Option Usage) (t : Tree) (selector : Selector) (ns : List Note) (p : List ℕ) → SelectsPath selector.steps t p → IsUntouched u t selector ns → is_untouched u t selector ns p ≡ true
untouched_from None t selector ns p selects h = absurd h
untouched_from (Some u) t selector ns p selects h =
    tested_at u t selector ns p (subst (λ (q : List ℕ). IsUntouchedAt u t selector ns q) (one_path selector.steps t h.0 p h.1.selects selects) h.1)

untouched_selects : (u : Option Usage) (t : Tree) (selector : Selector) (ns : List Note) → IsUntouched u t selector ns → SelectsSome selector t
untouched_selects None t selector ns h = absurd h
untouched_selects (Some u) t selector ns h = (h.0, h.1.selects)

-- ---- the state

module _ (u : Option Usage) (t : Tree) (selector : Selector) (ns : List Note) where
  nothing_selected : selected_element_path selector.steps t ≡ None → SelectsSome selector t → ⊥
  nothing_selected none h = let z : None ≡ Some h.0 = sym none ∙ (path_is selector.steps t h.0).1 h.1 in cc

  loud_without : has_no_notes ns ≡ false → (SelectsSome selector t → ⊥) → HasNothingToReport u t selector ns → ⊥
  loud_without some nothing (inl none) = not_both (has_no_notes ns) (ap has_no_notes none) some
  loud_without some nothing (inr h) = nothing (untouched_selects u t selector ns h)

  state_without : (b : Bool) → has_no_notes ns ≡ b → selected_element_path selector.steps t ≡ None → state_at u t selector ns None ≡ state_at u t selector ns None → IsElementState u t selector ns (state_at u t selector ns None)
  state_without true is none same = rw is (inl (none_are ns is))
  state_without false is none same = rw is (loud_without is (nothing_selected none), nothing_selected none)

  loud_at : (p : List ℕ) → SelectsPath selector.steps t p → (has_no_notes ns || is_untouched u t selector ns p) ≡ false → HasNothingToReport u t selector ns → ⊥
  loud_at p selects loud (inl none) = not_both (has_no_notes ns || is_untouched u t selector ns p) (ap (λ (l : List Note). has_no_notes l || is_untouched u t selector ns p) none) loud
  loud_at p selects loud (inr h) = by (has_no_notes ns) (is_untouched u t selector ns p) loud (untouched_from u t selector ns p selects h)
    where
      by : (a b : Bool) → (a || b) ≡ false → b ≡ true → ⊥
      by true b h g = cc
      by false b h g = not_both b g h

  quiet_at : (p : List ℕ) → SelectsPath selector.steps t p → (has_no_notes ns || is_untouched u t selector ns p) ≡ true → HasNothingToReport u t selector ns
  quiet_at p selects quiet = by (has_no_notes ns) refl quiet
    where
      by : (a : Bool) → has_no_notes ns ≡ a → (a || is_untouched u t selector ns p) ≡ true → HasNothingToReport u t selector ns
      by true is h = inl (none_are ns is)
      by false is h = inr (untouched_to u t selector ns p selects h)

  state_with : (p : List ℕ) (b : Bool) → (has_no_notes ns || is_untouched u t selector ns p) ≡ b → SelectsPath selector.steps t p → IsElementState u t selector ns (state_at u t selector ns (Some p))
  state_with p true is selects = rw is (quiet_at p selects is)
  state_with p false is selects = rw is (loud_at p selects is, (p, selects))

  pub state_is : IsElementState u t selector ns (state_of_selected u t selector ns)
  state_is = by (selected_element_path selector.steps t) refl
    where
      by : (o : Option (List ℕ)) → selected_element_path selector.steps t ≡ o → IsElementState u t selector ns (state_at u t selector ns o)
      by None is = state_without (has_no_notes ns) refl is refl
      by (Some p) is = state_with p (has_no_notes ns || is_untouched u t selector ns p) refl ((path_is selector.steps t p).0 is)

  pub one_state : (a b : ElementState) → IsElementState u t selector ns a → IsElementState u t selector ns b → a ≡ b
  one_state Unchanged Unchanged h g = refl
  one_state Unchanged Exists h g = absurd (g.0 h)
  one_state Unchanged Missing h g = absurd (g.0 h)
  one_state Exists Unchanged h g = absurd (h.0 g)
  one_state Exists Exists h g = refl
  one_state Exists Missing h g = absurd (g.1 h.1)
  one_state Missing Unchanged h g = absurd (h.0 g)
  one_state Missing Exists h g = absurd (h.1 g.1)
  one_state Missing Missing h g = refl

-- ---- the diff document

pub one_notice : (root : List ℕ) (c : StoreContents) (id : DocId) (selector : Selector) (raw : List ℕ) (ns : List Note) (a b : Tree) → IsElementNotice root (record { doc = id; selector = selector; raw = raw }) c ns a → IsElementNotice root (record { doc = id; selector = selector; raw = raw }) c ns b → a ≡ b
one_notice root c id selector raw ns a b h g =
    let same : h.held ≡ g.held = same_Some h.held g.held (sym h.there ∙ g.there) in
    let here : IsElementState (usage_of id.auid) g.held.tree selector ns h.state = subst (λ (x : StoredDocument). IsElementState (usage_of id.auid) x.tree selector ns h.state) same h.is_state in
    let state : h.state ≡ g.state = one_state (usage_of id.auid) g.held.tree selector ns h.state g.state here g.is_state in
    h.told ∙ ap (element_notice root (id_text id) raw) state ∙ sym g.told

made_notice : (root : List ℕ) (c : StoreContents) (tag : ℕ) (id : DocId) (selector : Selector) (raw : List ℕ) (ns : List Note) (o : Option StoredDocument) → find_document stored_id c.documents id ≡ o → stored_changes_since tag o ≡ ReportedChanges ns
    → (notice : Tree) × IsElementNotice root (record { doc = id; selector = selector; raw = raw }) c ns notice
made_notice root c tag id selector raw ns None is told = cc
made_notice root c tag id selector raw ns (Some h) is told =
    let state = state_of_selected (usage_of id.auid) h.tree selector ns in
    (element_notice root (id_text id) raw state, record { held = h; there = is; state = state; is_state = state_is (usage_of id.auid) h.tree selector ns; told = refl })

-- where records are returned, there is one
pub some_notice : (root : List ℕ) (c : StoreContents) (tag : ℕ) (id : DocId) (selector : Selector) (raw : List ℕ) (ns : List Note) → since c id tag ≡ ReportedChanges ns → (notice : Tree) × IsElementNotice root (record { doc = id; selector = selector; raw = raw }) c ns notice
some_notice root c tag id selector raw ns told = made_notice root c tag id selector raw ns (find_document stored_id c.documents id) refl told

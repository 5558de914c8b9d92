-- A planned change is made where the selector leads.
use Rattle.std.proofs.Common.{◌≡◌, ℕ, Bool, true, false, List, [], ◌∷◌, find, Option, None, Some, Result, Ok, Err, inl, inr, refl, sym, ap, subst, ◌∙◌}
use Rattle.doc_names.specs.declared.usages.Usage.{Usage}
use Rattle.xml_names.specs.declared.names.Name.{Name}
use Rattle.xml_tree.specs.Tree.{Tree, at}
use Rattle.xml_tree.specs.TreeScopes.{scope_at}
use Rattle.node_select.specs.declared.selector.End.{End}
use Rattle.node_select.specs.declared.selector.End.TheVariants as ends
use Rattle.node_select.specs.declared.selector.Selector.{Selector}
use Rattle.node_select.specs.Selection.{FindsNode, SelectsPath}
use Rattle.usage_docs.specs.declared.validation.Fault.{Fault}
use Rattle.edit_ops.specs.declared.change.Change.{Change}
use Rattle.edit_ops.specs.declared.change.Change.TheVariants.{Insert, Replace, Remove, SetAttr, DropAttr}
use Rattle.edit_rules.specs.AttributePuts.{IsAttrPlan, IsAttributeWrite, written_name}
use Rattle.edit_rules.specs.CheckedChanges.{IsCheckedChange, IsCheckedIfLawful, change_or_fault}
use Rattle.edit_rules.specs.Deletions.{IsDeletePlan, IsDeletePlanFor, IsElementRemoval}
use Rattle.edit_rules.specs.EditContexts.{AttrPlace, EditContext, PutContext}
use Rattle.edit_rules.specs.ElementPuts.{IsPutPlan, IsResultOfGap}
use Rattle.edit_rules.specs.Spots.{IsSpotOf}
use Rattle.edit_rules.specs.declared.edit_refusal.EditRefusal.{EditRefusal}
use Rattle.edit_rules.specs.declared.spot.Spot.{Spot}
use Rattle.edit_rules.specs.declared.spot.Spot.TheVariants.{Over, Under, Beside, Value}
use Rattle.xcap_laws.specs.AddressedDocuments.{IsChangeAtNode}

-- a checked change that is made is the one that was checked
module _ (u : Usage) (t : Tree) (change made : Change) where
  by_fault : (fault : Option Fault) → Ok made ≡ change_or_fault change fault → made ≡ change
  by_fault None is = cc
  by_fault (Some fault) is = absurd (cc)

  checked : IsCheckedChange u t change (Ok made) → made ≡ change
  checked h = by_fault h.0 h.1.1

  checked_if_lawful : (unlawful : EditRefusal) (lawful : Type 0) → IsCheckedIfLawful unlawful lawful (IsCheckedChange u t change) (Ok made) → made ≡ change
  checked_if_lawful unlawful lawful (inl h) = let no : ◌≡◌ {A = Result Change EditRefusal} (Ok made) (Err unlawful) = h.0 in cc
  checked_if_lawful unlawful lawful (inr h) = checked h.1

module _ (u : Usage) (t : Tree) (selector : Selector) (made : Change) where
  abbrev Here : Type 0
  Here = IsChangeAtNode t selector made

  as_made : (change : Change) → made ≡ change → IsChangeAtNode t selector change → Here
  as_made change same h = subst (λ (x : Change). IsChangeAtNode t selector x) (sym same) h

  abbrev context : PutContext
  context = record { usage = u; document = t; steps = selector.steps }

  inserted : (q : List ℕ) (e : Tree) (gap : Result ℕ EditRefusal) → IsSpotOf t selector (Under q) → IsResultOfGap (λ j. IsCheckedChange u t (Insert q j e)) gap (Ok made) → Here
  inserted q e (Ok gap) place h = as_made (Insert q gap e) (checked u t (Insert q gap e) made h) place
  inserted q e (Err why) place h = let no : ◌≡◌ {A = Result Change EditRefusal} (Ok made) (Err why) = h in cc

  pub element_put_here : (spot : Spot) (e : Tree) → selector.end ≡ ends.Element → IsSpotOf t selector spot → IsPutPlan context spot e (Ok made) → Here
  element_put_here (Over p) e ends_so place plan = as_made (Replace p e) (checked_if_lawful u t (Replace p e) made _ _ plan) place
  element_put_here (Under q) e ends_so place plan = inserted q e plan.gap place plan.then
  element_put_here Beside e ends_so place plan = absurd (cc)
  element_put_here (Value p) e ends_so place plan = absurd plan

  written : (p uri local value : List ℕ) (e : Tree) (name : Option Name) → selector.end ≡ ends.Attribute uri local → SelectsPath selector.steps t p → at p t ≡ Some e
      → written_name (scope_at p t) uri local e.attrs ≡ name → IsAttributeWrite context (record { path = p; uri = uri; local = local }) value name (Ok made) → Here
  written p uri local value e None ends_so selects there is plan = let no : ◌≡◌ {A = Result Change EditRefusal} (Ok made) (Err _) = plan in cc
  written p uri local value e (Some name) ends_so selects there is plan =
      as_made (SetAttr p name value) (checked_if_lawful u t (SetAttr p name value) made _ _ plan)
      (record { uri = uri; local = local; ends_in = ends_so; selects = selects; element = e; there = there; named = is })

  pub value_put_here : (p uri local value : List ℕ) (end : End) → end ≡ ends.Attribute uri local → selector.end ≡ ends.Attribute uri local → IsSpotOf t selector (Value p) → IsAttrPlan context end p value (Ok made) → Here
  value_put_here p uri local value end is ends_so place plan =
      let of_attr = subst (λ (x : End). IsAttrPlan context x p value (Ok made)) is plan in
      written p uri local value of_attr.element (written_name (scope_at p t) uri local of_attr.element.attrs) ends_so place.1 of_attr.there refl of_attr.plan

  removed : (p : List ℕ) → selector.end ≡ ends.Element → SelectsPath selector.steps t p → IsElementRemoval (record { usage = u; document = t; selector = selector }) p (Ok made) → Here
  removed [] ends_so selects plan = let no : ◌≡◌ {A = Result Change EditRefusal} (Ok made) (Err _) = plan in cc
  removed (n ∷ p) ends_so selects plan = as_made (Remove (n ∷ p)) (checked_if_lawful u t (Remove (n ∷ p)) made _ _ plan) (ends_so, selects)

  deleted_at : (found : FindsNode t selector) (end : End) → selector.end ≡ end → IsDeletePlanFor (record { usage = u; document = t; selector = selector }) found.path found.element end (Ok made) → Here
  deleted_at found ends.Element ends_so plan = removed found.path ends_so found.selects plan
  deleted_at found (ends.Attribute uri local) ends_so plan =
      as_made (DropAttr found.path plan.attr.name) (checked_if_lawful u t (DropAttr found.path plan.attr.name) made _ _ plan.then)
      (record {
        uri = uri;
        local = local;
        ends_in = ends_so;
        selects = found.selects;
        element = found.element;
        there = found.there;
        named = record { attr = plan.attr; found = plan.that; has_name = refl };
      })
  deleted_at found ends.Namespaces ends_so plan = absurd plan

  pub deleted_here : IsDeletePlan u t selector (Ok made) → Here
  deleted_here (inl h) = let no : ◌≡◌ {A = Result Change EditRefusal} (Ok made) (Err _) = h.0 in cc
  deleted_here (inr (found, plan)) = deleted_at found selector.end refl plan

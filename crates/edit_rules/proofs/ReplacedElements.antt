-- An element replaced by another: it is in the gap of the removed one, among the same siblings.
use Rattle.std.proofs.Common.{◌≡◌, ◌↔◌, ℕ, ◌≤◌, List, [], ◌∷◌, ◌++◌, length, insert, remove, Option, Some, None, slice_get, refl, sym, ◌∙◌, subst}
use Rattle.std.specs.Option.{ForSome}
use Rattle.node_select.proofs.ListEdits.{insert-remove_other, length_removed}
use Rattle.doc_names.specs.declared.usages.Usage.{Usage}
use Rattle.xml_tree.specs.Tree.{Tree, child_elements_of, at}
use Rattle.xml_tree.specs.Edits.{change_at, change_child, put_over}
use Rattle.xml_tree.specs.TreeScopes.{scope_at}
use Rattle.xml_tree.specs.declared.tree.Node.TheVariants.{Elem}
use Rattle.xml_tree.proofs.PlaceLaws.{change_at-append}
use Rattle.xml_tree.proofs.TreeScopeLemmas.{scope_at-below}
use Rattle.usage_docs.specs.declared.schema_table.ElementKind.{ElementKind}
use Rattle.usage_docs.specs.declared.schema_table.Key.{Key}
use Rattle.usage_docs.specs.declared.key_repeats.Clash.{Clash}
use Rattle.usage_docs.specs.SchemaTable.{Scope, root_kind}
use Rattle.usage_docs.specs.UniqueKeys.{RepeatsKeyAt, HasUniqueKeys, IsFirstClash}
use Rattle.usage_docs.specs.ReferenceForms.{AllReferencesFormed, MeetsConstraints, IsFormedNode}
use Rattle.usage_docs.specs.readers.SiblingElements.{IsFirstInOrder}
use Rattle.usage_docs.specs.ElementKinds.{kind_at}
use Rattle.edit_rules.specs.NewElements.{HasNoDuplicate, HasUniqueKeysInside, ClashesBeside}
use Rattle.edit_rules.proofs.ClashesAt.{unique_there}
use Rattle.edit_rules.proofs.FirstBeside.{first_from, first_to, none_foreign, unique_after}
use Rattle.edit_rules.proofs.FormedBeside.{change_from, change_to, formed_after, formed_there, text_changed}
use Rattle.edit_rules.proofs.RemovedElements.{old_clash}
use Rattle.edit_rules.proofs.StaysSelected.{child_elements-over}

module _ (u : Usage) (t parent child_element new : Tree) (q : List ℕ) (i : ℕ) (there : at q t ≡ Some parent) (is_kid : slice_get (child_elements_of parent) i ≡ Some child_element) where
  abbrev exchange : Tree → Tree
  exchange = change_child i (λ _. new)

  abbrev others : List Tree
  others = remove (child_elements_of parent) i

  as_change : put_over (q ++ i ∷ []) new t ≡ change_at q exchange t
  as_change = change_at-append q (i ∷ []) (λ _. new) t

  kids_are : child_elements_of (exchange parent) ≡ insert others i new
  kids_are = child_elements-over i new parent.content ∙ sym (insert-remove_other (child_elements_of parent) i child_element new is_kid)

  within : i ≤ length others
  within = length_removed (child_elements_of parent) i child_element is_kid

  -- ---- clashes

  module _ (unique : HasUniqueKeys u t) where
    clean : (kind : ElementKind) → kind_at u t q ≡ Some kind → (r : List ℕ) (key : Key) → RepeatsKeyAt kind (scope_at q t) others r key → ⊥
    clean kind is r key h =
        let o = old_clash kind (scope_at q t) (child_elements_of parent) i r key h in
        unique_there u t parent q kind there is unique o.0 key o.1

    pub first_over : (kind : ElementKind) → kind_at u t q ≡ Some kind → (found : Option Clash) → IsFirstInOrder (ClashesBeside (record { kind = kind; scope = scope_at q t; elements = others }) new i) q found ↔ IsFirstClash u (put_over (q ++ i ∷ []) new t) found
    first_over kind is found = (
      λ f. subst (λ (x : Tree). IsFirstClash u x found) (sym as_change) (first_to u t parent new q exchange others i (λ e. refl) there kids_are within unique clean kind is found f),
      λ f. first_from u t parent new q exchange others i (λ e. refl) there kids_are within unique clean kind is found (subst (λ (x : Tree). IsFirstClash u x found) as_change f),
    )

    pub foreign_over : kind_at u t q ≡ None → HasUniqueKeys u (put_over (q ++ i ∷ []) new t)
    foreign_over none = subst (λ (x : Tree). HasUniqueKeys u x) (sym as_change) (none_foreign u t parent new q exchange others i (λ e. refl) there kids_are within unique clean none)

    pub unique_over : HasUniqueKeys u (put_over (q ++ i ∷ []) new t) ↔ ForSome (kind_at u t q) (λ kind. HasNoDuplicate (record { kind = kind; scope = scope_at q t; elements = others }) new × HasUniqueKeysInside kind (scope_at q t) new)
    unique_over =
        let a = unique_after u t parent new q exchange others i (λ e. refl) there kids_are within unique clean in
        (λ h. a.0 (subst (λ (x : Tree). HasUniqueKeys u x) as_change h), λ h. subst (λ (x : Tree). HasUniqueKeys u x) (sym as_change) (a.1 h))

  -- ---- constraints

  pub formed_over : MeetsConstraints u t → MeetsConstraints u (put_over (q ++ i ∷ []) new t) ↔ ForSome (kind_at u t q) (λ kind. IsFormedNode kind (scope_at q t) (Elem new))
  formed_over old =
      let a = formed_after u t parent q exchange (λ e. refl) (λ e. text_changed i (λ _. new) e.content) there old in (
        λ h kind is. change_to kind (scope_at q t) (λ _. new) i parent.content child_element is_kid (a.0 (subst (λ (x : Tree). MeetsConstraints u x) as_change h) kind is),
        λ h. subst (λ (x : Tree). MeetsConstraints u x) (sym as_change) (a.1 (λ kind is.
            let here = formed_there q (root_kind u) (t.decls ∷ []) t parent kind there is old in
            change_from kind (scope_at q t) (λ _. new) i parent.content child_element is_kid (subst (λ (d : Scope). AllReferencesFormed kind d parent.content) (sym (scope_at-below q t)) here) (h kind is))),
      )

-- Plans decided from the parent alone: a change among its children, and its result.
use Rattle.std.specs.Prelude.{◌≡◌, ◌⊎◌, ◌≤◌, ◌+◌, ◌-◌, ℕ, suc, cond, nat_lt, List, [], ◌∷◌, length}
use Rattle.std.specs.Prelude.{remove, Option, None, Some, Result, Ok, Err, IsTrue}
use Rattle.std.specs.Option.{ForSome, option_copied}
use Rattle.node_select.specs.StepSelection.{StepTests}
use Rattle.node_select.specs.InsertionPoints.{IsLawfulInsertion, IsInsertionPlan}
use Rattle.doc_names.specs.declared.usages.Usage.{Usage}
use Rattle.xml_tree.specs.Tree.{Tree, height, child_elements_of}
use Rattle.xml_tree.specs.declared.tree.Node.TheVariants.{Elem}
use Rattle.xml_names.specs.declared.limits.TheConstants.{MAX_LEVELS}
use Rattle.node_select.specs.Selection.{SelectsChild, is_named, is_tested, step_tests}
use Rattle.node_select.specs.declared.selector.Step.{Step}
use Rattle.usage_docs.specs.declared.schema_table.ElementKind.{ElementKind}
use Rattle.usage_docs.specs.declared.schema_table.Key.{Key}
use Rattle.usage_docs.specs.declared.key_repeats.Clash.{Clash}
use Rattle.usage_docs.specs.KeyAttributes.{are_attrs_allowed}
use Rattle.usage_docs.specs.SchemaTable.{Scope, root_kind}
use Rattle.usage_docs.specs.UniqueKeys.{RepeatsKeyAt}
use Rattle.usage_docs.specs.ReferenceForms.{IsFormedNode}
use Rattle.usage_docs.specs.readers.SiblingElements.{IsFirstInOrder}
use Rattle.usage_docs.specs.declared.validation.Fault.TheVariants.{Invalid, Unformed, Repeated}
use Rattle.edit_rules.specs.declared.edit_refusal.EditRefusal.{EditRefusal}
use Rattle.edit_rules.specs.declared.edit_refusal.EditRefusal.TheVariants.{CannotInsert}
use Rattle.edit_rules.specs.declared.edit_refusal.EditRefusal.TheVariants.{CannotDelete}
use Rattle.edit_rules.specs.declared.edit_refusal.EditRefusal.TheVariants.{Faulty}
use Rattle.edit_rules.specs.NewElements.{ClashesBeside, Siblings}
use Rattle.edit_rules.specs.Removals.{NeighboursMayMeet, StillSelectsChild}
use Rattle.edit_rules.specs.StartTags.{HasFormedAttrs, AreAttrsAllowed}
use Rattle.edit_rules.specs.inner.TestedValues.{tested_value}
use Rattle.edit_plans.specs.declared.child_changes.ChildChange.{ChildChange}
use Rattle.edit_plans.specs.declared.child_changes.ChildChange.TheVariants.{Put, Exchange}
use Rattle.edit_plans.specs.declared.child_changes.ChildChange.TheVariants.{RemoveChild}
use Rattle.edit_plans.specs.declared.child_changes.ChildChange.TheVariants.{SetAttributes}
use Rattle.edit_plans.specs.declared.child_attributes.AttributeEdit.{AttributeEdit}
use Rattle.edit_plans.specs.declared.parent.Parent.{Parent}
use Rattle.edit_plans.specs.inner.Neighbours.{FitsInsertionPoint, FitsReplacement}

-- the siblings of a new element: all children, or those without the one that it replaces
abbrev pub siblings_without : Option ℕ → List Tree → List Tree
siblings_without None child_elements = child_elements
siblings_without (Some i) child_elements = remove child_elements i

-- the number of a child among the siblings
abbrev pub number_among_siblings : Option ℕ → ℕ → ℕ
number_among_siblings None child = child
number_among_siblings (Some i) child = cond (nat_lt i child) (child - 1) child

-- a parent: its element kind, if it has one, the scope inside it, the step that is to select one of
-- its children, and the element
pub record ParentContext : Type 0 where
  pub kind : Option ElementKind
  pub scope : Scope
  pub step : Step
  pub element : Tree

-- a parent, and the step that is to select one of its children
abbrev pub parent_context : Parent → Step → ParentContext
parent_context parent step =
    record {
      kind = parent.kind;
      scope = parent.scope.now;
      step = step;
      element = parent.element.now;
    }

-- the siblings of a new element, with the element kind of their parent, if it has one, the scope
-- inside it and its path
pub record SiblingPlace : Type 0 where
  pub kind : Option ElementKind
  pub scope : Scope
  pub elements : List Tree
  pub path : List ℕ

-- the siblings under a parent of this kind
abbrev pub siblings_in : SiblingPlace → ElementKind → Siblings
siblings_in place kind = record { kind = kind; scope = place.scope; elements = place.elements }

-- the siblings of a new element under a parent, without the child that it replaces, if it does
abbrev pub sibling_place : Parent → Option ℕ → SiblingPlace
sibling_place parent left_out =
    record {
      kind = parent.kind;
      scope = parent.scope.now;
      elements = siblings_without left_out (child_elements_of parent.element.now);
      path = parent.path.now;
    }

-- the same under a parent of this kind
abbrev pub siblings_under : ElementKind → Parent → Option ℕ → Siblings
siblings_under kind parent left_out = siblings_in (sibling_place parent left_out) kind

-- the result for a new element at an insertion point among others, by the element kind of the
-- parent: its references don't have their form, else it makes a clash, else the insertion point;
-- without an element kind there is no condition
abbrev pub IsNewChildResult : Type 0 → SiblingPlace → Tree → ℕ → Result ℕ EditRefusal → Type 0
IsNewChildResult formed place new gap result =
    ((result ≡ Err (Faulty Unformed)) × (formed → ⊥))
    ⊎ ((clash : Clash)
    × ((result ≡ Err (Faulty (Repeated clash))) × formed
    × ((kind : ElementKind)
    × ((place.kind ≡ Some kind)
    × IsFirstInOrder (ClashesBeside (siblings_in place kind) new gap) place.path (Some clash)))))
    ⊎ ((result ≡ Ok gap) × formed
    × ForSome place.kind (λ kind.
    IsFirstInOrder (ClashesBeside (siblings_in place kind) new gap) place.path None))

-- the references in a new element have their form
abbrev pub HasFormedReferences : Option ElementKind → Scope → Tree → Type 0
HasFormedReferences row c new = ForSome row (λ kind. IsFormedNode kind c (Elem new))

-- the result once an insertion point is chosen, or none could be
abbrev pub IsResultOfGapIn : SiblingPlace → Tree → Result ℕ EditRefusal → Result ℕ EditRefusal
    → Type 0
IsResultOfGapIn place new (Ok gap) result =
    IsNewChildResult (HasFormedReferences place.kind place.scope new) place new gap result
IsResultOfGapIn place new (Err why) result = result ≡ Err why

-- all children of a parent at this path
abbrev pub all_children : ParentContext → List ℕ → SiblingPlace
all_children context q =
    record {
      kind = context.kind;
      scope = context.scope;
      elements = child_elements_of context.element;
      path = q;
    }

-- the children of a parent at this path without the i-th
abbrev pub children_without : ParentContext → ℕ → List ℕ → SiblingPlace
children_without context i q =
    record {
      kind = context.kind;
      scope = context.scope;
      elements = remove (child_elements_of context.element) i;
      path = q;
    }

-- the insertion point at which the step selects a new element, under a parent at this path
pub record IsInsertionResult (context : ParentContext) (new : Tree) (q : List ℕ)
    (result : Result ℕ EditRefusal) : Type 0 where
  pub gap : Result ℕ EditRefusal
  pub is_chosen : IsInsertionPlan CannotInsert (Faulty Invalid)
      (IsLawfulInsertion (step_tests context.scope context.step)
      (child_elements_of context.element) new)
      (FitsInsertionPoint context.kind context.scope context.element.content new)
      (length (child_elements_of context.element) + 1) gap
  pub then : IsResultOfGapIn (all_children context q) new gap result

-- the tests of the step without its position
abbrev pub without_position : {A : Type 0} → StepTests A → StepTests A
without_position step = record { named = step.named; position = None; tested = step.tested }

-- the element passes both tests of the step
abbrev pub PassesStep : Scope → Step → Tree → Type 0
PassesStep c step new = IsTrue (is_named c step new) × IsTrue (is_tested c step new)

-- the result for a new element in place of the i-th child, under a parent at this path
abbrev pub IsReplacementResult : ParentContext → ℕ → Tree → List ℕ → Result ℕ EditRefusal → Type 0
IsReplacementResult context i new q result =
    let passes : Type 0 = PassesStep context.scope context.step new in
    let fits : Type 0 = FitsReplacement context.kind context.scope context.element.content new i in
    ((result ≡ Err CannotInsert) × (passes → ⊥))
    ⊎ ((result ≡ Err (Faulty Invalid)) × passes × (fits → ⊥))
    ⊎ (passes × fits
    × IsNewChildResult (HasFormedReferences context.kind context.scope new)
    (children_without context i q) new i result)

-- the result for the parent without the j-th child
abbrev pub IsRemovalResult : ParentContext → ℕ → Result ℕ EditRefusal → Type 0
IsRemovalResult context j result =
    let selects : Type 0 =
    StillSelectsChild context.scope context.step (child_elements_of context.element) j in
    let closes_up : Type 0 =
    NeighboursMayMeet context.kind context.scope context.element.content j in
    ((result ≡ Err CannotDelete) × selects)
    ⊎ ((result ≡ Err (Faulty Invalid)) × (selects → ⊥) × (closes_up → ⊥))
    ⊎ ((result ≡ Ok j) × (selects → ⊥) × closes_up)

-- the refusal where an attribute isn't found as it should be: with a value, or not at all
abbrev pub not_found_refusal : Option (List ℕ) → EditRefusal
not_found_refusal None = CannotDelete
not_found_refusal (Some value) = CannotInsert

-- the attribute is found in a child with this start tag with the expected value, or not at all
-- where none is expected
abbrev pub IsFoundInTag : Scope → Step → Tree → AttributeEdit → Type 0
IsFoundInTag c step tag sought =
    tested_value c step sought.uri.now sought.local.now tag ≡ option_copied sought.value

-- a child's new start tag, and how the attribute is to be found in it
pub record NewTag : Type 0 where
  pub child : ℕ
  pub tag : Tree
  pub sought : AttributeEdit

-- the result for a child with a new start tag, under a parent at this path
abbrev pub IsNewTagResult : ParentContext → NewTag → List ℕ → Result ℕ EditRefusal → Type 0
IsNewTagResult context new q result =
    let found : Type 0 = IsFoundInTag context.scope context.step new.tag new.sought in
    let passes : Type 0 = AreAttrsAllowed context.kind context.scope new.tag in
    ((result ≡ Err (not_found_refusal (option_copied new.sought.value))) × (found → ⊥))
    ⊎ ((result ≡ Err (Faulty Invalid)) × found × (passes → ⊥))
    ⊎ (found × passes
    × IsNewChildResult (HasFormedAttrs context.kind context.scope new.tag)
    (children_without context new.child q)
    new.tag new.child result)

-- the result for the root, which the step selects, with this start tag
abbrev pub IsRootTagResult : Usage → Step → Tree → AttributeEdit → Result ℕ EditRefusal → Type 0
IsRootTagResult u step tag sought result =
    ((result ≡ Err (not_found_refusal (option_copied sought.value)))
    × (IsFoundInTag [] step tag sought → ⊥))
    ⊎ ((result ≡ Err (Faulty Invalid)) × IsFoundInTag [] step tag sought
    × (IsTrue (are_attrs_allowed (root_kind u) (tag.decls ∷ []) tag.attrs) → ⊥))
    ⊎ ((result ≡ Ok 0) × IsFoundInTag [] step tag sought
    × IsTrue (are_attrs_allowed (root_kind u) (tag.decls ∷ []) tag.attrs))

-- the result for a change among the children of a parent at this path
abbrev pub IsChildChangeResult : ParentContext → List ℕ → ChildChange → Result ℕ EditRefusal
    → Type 0
IsChildChangeResult context q (Put new) result = IsInsertionResult context new.now q result
IsChildChangeResult context q (Exchange i new) result =
    IsReplacementResult context i new.now q result
IsChildChangeResult context q (RemoveChild j) result = IsRemovalResult context j result
IsChildChangeResult context q (SetAttributes i tag sought) result =
    IsNewTagResult context (record { child = i; tag = tag.now; sought = sought.now }) q result

-- ---- which changes may be asked for

-- no two of the children, or of those below them, clash
abbrev pub HasNoClash : Option ElementKind → Scope → Tree → Type 0
HasNoClash row c parent =
    ForSome row (λ kind.
    (r : List ℕ) (key : Key) → RepeatsKeyAt kind c (child_elements_of parent) r key → ⊥)

-- the levels of a new element below the place of the parent are within the limit
abbrev pub FitsWithinLevels : List ℕ → Tree → Type 0
FitsWithinLevels q new = length q + suc (height new) ≤ MAX_LEVELS

-- the child is the one that the step selects under a parent whose children don't clash
abbrev pub IsSelectedChild : ParentContext → ℕ → Type 0
IsSelectedChild context i =
    HasNoClash context.kind context.scope context.element
    × SelectsChild context.scope context.step (child_elements_of context.element) i

abbrev pub MayChangeChild : ParentContext → List ℕ → ChildChange → Type 0
MayChangeChild context q (Put new) =
    HasNoClash context.kind context.scope context.element × FitsWithinLevels q new.now
MayChangeChild context q (Exchange i new) = IsSelectedChild context i × FitsWithinLevels q new.now
MayChangeChild context q (RemoveChild j) = IsSelectedChild context j
MayChangeChild context q (SetAttributes i tag sought) =
    IsSelectedChild context i × FitsWithinLevels q tag.now

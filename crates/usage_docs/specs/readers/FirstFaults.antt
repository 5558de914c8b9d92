-- What one walk over a tree finds, given what was found before.
use Rattle.std.specs.Prelude.{◌≡◌, ◌<◌, ℕ, suc, List, [], ◌∷◌, ◌++◌, Option, None, Some, IsTrue}
use Rattle.std.specs.Prelude.{true, is_some, option_map, if◌then◌else◌}
use Rattle.xml_tree.specs.Tree.{Tree, child_elements_of}
use Rattle.xml_tree.specs.declared.tree.Node.{Node}
use Rattle.xml_tree.specs.declared.tree.Node.TheVariants.{Elem, Chars, Comment}
use Rattle.xml_tree.specs.TreeScopes.{inside}
use Rattle.usage_docs.specs.declared.validation.Fault.{Fault}
use Rattle.usage_docs.specs.declared.validation.Fault.TheVariants.{Invalid, Unformed, Repeated}
use Rattle.usage_docs.specs.declared.key_repeats.Clash.{Clash}
use Rattle.usage_docs.specs.declared.schema_table.Key.{Key}
use Rattle.usage_docs.specs.declared.schema_table.ElementKind.{ElementKind}
use Rattle.usage_docs.specs.declared.validation_result.ValidationResult.{ValidationResult}
use Rattle.usage_docs.specs.declared.validation_result.ChildScan.{ChildScan}
use Rattle.usage_docs.specs.UniqueKeys.{IsNotAfter, RepeatsKeyAt, sibling_key_of}
use Rattle.usage_docs.specs.ReferenceForms.{AllReferencesFormed, are_references_formed}
use Rattle.usage_docs.specs.SchemaTable.{Scope, kind_of}
use Rattle.usage_docs.specs.readers.KeyRepeats.{EntersKey}
use Rattle.usage_docs.specs.readers.SiblingElements.{IsFirstInOrder}

-- the references of an element of this kind, and of its descendants, have their form
abbrev pub IsFormedOfKind : ElementKind → Scope → Tree → Type 0
IsFormedOfKind kind c e =
    IsTrue (are_references_formed kind e.attrs e.content) × AllReferencesFormed kind c e.content

-- ---- clashes

-- a clash that was found before stays; else the first one of this relation, its path appended to
-- a base
abbrev pub IsFirstClashAfter : Option Clash → (List ℕ → Key → Type 0) → List ℕ → Option Clash
    → Type 0
IsFirstClashAfter (Some clash) R base new = new ≡ Some clash
IsFirstClashAfter None R base new = IsFirstInOrder R base new

-- a sibling's key is repeated below an element that has this kind; below one without a kind none
-- is
abbrev pub RepeatsKeyIfKnown : Option ElementKind → Scope → Tree → List ℕ → Key → Type 0
RepeatsKeyIfKnown None c e p key = ⊥
RepeatsKeyIfKnown (Some kind) c e p key = RepeatsKeyAt kind c (child_elements_of e) p key

-- a sibling's key is repeated below one of these children
abbrev pub RepeatsKeyBelow : ElementKind → Scope → List Tree → List ℕ → Key → Type 0
RepeatsKeyBelow row c child_elements [] key = ⊥
RepeatsKeyBelow row c child_elements (i ∷ []) key = ⊥
RepeatsKeyBelow row c child_elements (i ∷ n ∷ p) key =
    RepeatsKeyAt row c child_elements (i ∷ n ∷ p) key

-- an element of this kind, in the scope inside it, at this path
pub record ElementPlace : Type 0 where
  pub kind : ElementKind
  pub scope : Scope
  pub path : List ℕ

-- a scan of an element's children: how many were passed, how many of them come before the one that
-- the clash is below, and the first clash
pub record ClashScan : Type 0 where
  pub count : ℕ
  pub clear : ℕ
  pub clash : Option Clash

abbrev pub clash_scan : ChildScan → Option Clash → ClashScan
clash_scan scan clash = record { count = scan.count; clear = scan.clear; clash = clash }

-- the first clash below the first n of these children; `clear` children come before the one that
-- it is below
abbrev pub IsFirstClashBelow : ElementPlace → List Tree → ℕ → ℕ → Option Clash → Type 0
IsFirstClashBelow at child_elements n clear None =
    (clear ≡ n)
    × ((i : ℕ) (p : List ℕ) (key : Key) → i < n
    → RepeatsKeyBelow at.kind at.scope child_elements (i ∷ p) key → ⊥)
IsFirstClashBelow at child_elements n clear (Some clash) =
    (p : List ℕ)
    × ((clash.path ≡ at.path ++ clear ∷ p)
    × RepeatsKeyBelow at.kind at.scope child_elements (clear ∷ p) clash.key
    × ((q : List ℕ) (key : Key) → RepeatsKeyBelow at.kind at.scope child_elements q key
    → IsNotAfter (clear ∷ p) q))

-- a scan has found the first clash below the children that it passed, if none was found before
abbrev pub IsFirstClashSoFar : ElementPlace → List Tree → Option Clash → ClashScan → Type 0
IsFirstClashSoFar at child_elements (Some clash) scan = (scan.clash ≡ Some clash) × (scan.clear ≡ 0)
IsFirstClashSoFar at child_elements None scan =
    IsFirstClashBelow at child_elements scan.count scan.clear scan.clash

-- ---- one more node

-- the key of an element is added to the keys of the earlier children, as long as there is memory
-- for all of them
abbrev pub AddsKey : ElementKind → Scope → Node → ChildScan → ChildScan → Type 0
AddsKey row c (Elem e) old new =
    new.holds_all ≡ true
    → (old.holds_all ≡ true)
    × EntersKey (sibling_key_of row c e) old.count old.keys.items new.keys.items
AddsKey row c (Chars t) old new =
    (new.holds_all ≡ old.holds_all) × (new.keys.items ≡ old.keys.items)
AddsKey row c (Comment t) old new =
    (new.holds_all ≡ old.holds_all) × (new.keys.items ≡ old.keys.items)

-- the first clash below an element is found, if none was found before
abbrev pub FindsFirstClash : ElementPlace → Node → ClashScan → ClashScan → Type 0
FindsFirstClash at (Elem e) old new =
    IsFirstClashAfter old.clash
    (RepeatsKeyIfKnown (kind_of at.kind (inside at.scope e) e.name) (inside at.scope e) e)
    (at.path ++ old.count ∷ []) new.clash
    × (new.clear ≡ (if is_some new.clash then old.clear else suc old.clear))
FindsFirstClash at (Chars t) old new = (new.clash ≡ old.clash) × (new.clear ≡ old.clear)
FindsFirstClash at (Comment t) old new = (new.clash ≡ old.clash) × (new.clear ≡ old.clear)

-- ---- the first fault

-- the first fault by the result of the walk over a root
abbrev pub fault_of_result : ValidationResult → Option Fault
fault_of_result found =
    if found.valid
    then (if found.formed then option_map (λ clash. Repeated clash) found.clash else Some Unformed)
    else Some Invalid

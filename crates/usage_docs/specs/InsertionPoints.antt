-- Where a new element may be inserted in a valid document: between two neighbours, whatever else
-- the document has.
use Rattle.std.specs.Prelude.{◌≡◌, ◌≤◌, ℕ, zero, suc, List, [], ◌∷◌, ◌++◌, length, Option, None}
use Rattle.std.specs.Prelude.{Some, slice_get}
use Rattle.std.specs.Option.{ForSome}
use Rattle.xml_tree.specs.Tree.{Content, Tree, child_elements_of}
use Rattle.usage_docs.specs.declared.schema_table.ElementKind.{ElementKind}
use Rattle.usage_docs.specs.SchemaTable.{Scope, Child, items_in, content_model_of, kind_of}
use Rattle.usage_docs.specs.SchemaTable.{child_class_of, MatchesModel}
use Rattle.usage_docs.specs.Validity.{IsValidChild, children_of}
use Rattle.xml_tree.specs.TreeScopes.{inside}

-- the last of some children, if there are any
abbrev pub last_child : List Child → Option Child
last_child [] = None
last_child (x ∷ []) = Some x
last_child (x ∷ y ∷ xs) = last_child (y ∷ xs)

-- By the content model of an element kind a child may come between two others: some children that
-- match the model have the three in sequence. Where none is given before it, it is the first
-- child; where none is given after it, the last.
pub record MayComeBetween (row : ElementKind) (before : Option Child) (x : Child)
    (behind : Option Child) : Type 0 where
  pub front : List Child
  pub back : List Child
  pub ends : last_child front ≡ before
  pub begins : slice_get back 0 ≡ behind
  pub fits : MatchesModel (items_in (content_model_of row)) (front ++ x ∷ back)

-- the child before a gap, and the one after it, if they exist; gap 0 is before the first child
abbrev pub child_before : ℕ → List Child → Option Child
child_before zero xs = None
child_before (suc j) xs = slice_get xs j

abbrev pub child_after : ℕ → List Child → Option Child
child_after j xs = slice_get xs j

-- the new element is valid by itself, and may come between the two children beside the gap
abbrev pub FitsGap : ElementKind → Scope → Content → Tree → ℕ → Type 0
FitsGap row c content new j =
    IsValidChild row c new
    × MayComeBetween row (child_before j (children_of row c content))
    (child_class_of row (inside c new) new.name) (child_after j (children_of row c content))

-- the new element fits the gap in the element at a path below one of this kind; the content of
-- foreign elements isn't checked
abbrev pub FitsGapBelow : ElementKind → Scope → Tree → List ℕ → Tree → ℕ → Type 0
FitsGapBelow row c e [] new j = FitsGap row c e.content new j
FitsGapBelow row c e (n ∷ q) new j =
    (child_element : Tree)
    × ((slice_get (child_elements_of e) n ≡ Some child_element)
    × ForSome (kind_of row (inside c child_element) child_element.name) (λ kind.
    FitsGapBelow kind (inside c child_element) child_element q new j))

-- the element at the path exists, and has the gap
abbrev pub HasGap : Tree → List ℕ → ℕ → Type 0
HasGap e [] j = j ≤ length (child_elements_of e)
HasGap e (n ∷ q) j =
    (child_element : Tree)
    × ((slice_get (child_elements_of e) n ≡ Some child_element) × HasGap child_element q j)

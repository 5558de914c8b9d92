-- The length of a print after a change.
use Rattle.std.proofs.Common.{◌≡◌, ℕ, zero, suc, ◌+◌, ◌<◌, ◌≤◌, Bool, true, false, cond, List, [], ◌∷◌, ◌++◌, length, flat_map, option_to_list, Some, refl, ap, ◌∙◌, arith}
use Rattle.std.specs.List.{slice_get}
use Rattle.xml_tree.specs.Tree.{Content, last, more, comment_node, Tree, tree_of, at, child_elements, child_elements_of}
use Rattle.xml_names.specs.Attributes.{with_attr, without_attr}
use Rattle.xml_tree.specs.Edits.{cut, cut_child, last_number, put_kid}
use Rattle.xml_tree.specs.Nodes.{nodes_of, text_node}
use Rattle.xml_names.specs.Markup.{byte_len}
use Rattle.xml_tree.specs.Print.{is_empty, print}
use Rattle.xml_tree.specs.declared.tree.Node.{Node}
use Rattle.xml_tree.specs.declared.tree.Node.TheVariants.{Elem, Comment}
use Rattle.xml_names.proofs.PrintLengths.{byte_len-append, byte_len-tag_front}
use Rattle.xml_tree.proofs.PrintEdits.{attrs-dropped, attrs-written, content-cut, content-put, ending_len, full-put, full-there, print-at, print-attrs, print-change_at, print-parts}
use Rattle.edit_ops.specs.declared.change.Change.{Change}
use Rattle.edit_ops.specs.declared.change.Change.TheVariants.{CreateDocument, Insert, Replace, Remove, SetAttr, DropAttr, RemoveDocument}
use Rattle.edit_ops.specs.Changes.{edited}
use Rattle.edit_ops.specs.inner.LengthChanges.{added_len, end_tag_len, removed_len}
use Rattle.edit_ops.specs.ChangeSites.{change_site}
use Rattle.edit_ops.specs.inner.LocalChanges.{FitsLocally, local_result}
use Rattle.edit_ops.proofs.SiteLemmas.{edited_there}

-- ---- an element that gets its first node, or loses its only one

some_nodes : (t : List ℕ) (x : Node) (ns : List Node) → length (text_node t ++ x ∷ ns) ≡ 0 → ⊥
some_nodes [] x ns e = absurd (omega (arith, e))
some_nodes (c ∷ t) x ns e = absurd (omega (arith, e))

nodes_there : (i : ℕ) (c : Content) → i < length (child_elements c) → length (nodes_of c) ≡ 0 → ⊥
nodes_there i (last t) h e = absurd (omega arith)
nodes_there i (more t n ds ats c rest) h e = some_nodes t _ (nodes_of rest) e
nodes_there i (comment_node t x rest) h e = some_nodes t _ (nodes_of rest) e

-- an element without nodes, and one with nodes
pub bare : (c : Content) → length (nodes_of c) ≡ 0 → is_empty c ≡ true
bare (last []) e = refl
bare (last (x ∷ t)) e = absurd (omega (arith, e))
bare (more t n ds ats c rest) e = absurd (some_nodes t _ (nodes_of rest) e)
bare (comment_node t x rest) e = absurd (some_nodes t _ (nodes_of rest) e)

pub full : (c : Content) → (length (nodes_of c) ≡ 0 → ⊥) → is_empty c ≡ false
full (last []) ne = absurd (ne refl)
full (last (x ∷ t)) ne = refl
full (more t n ds ats c rest) ne = refl
full (comment_node t x rest) ne = refl

more_than_one : (t : List ℕ) (x : Node) (ns : List Node) → (length ns ≡ 0 → ⊥) → length (text_node t ++ x ∷ ns) ≡ 1 → ⊥
more_than_one [] x ns some e = some (omega (arith, e))
more_than_one (c ∷ t) x ns some e = absurd (omega (arith, e))

pub alone : (i : ℕ) (c : Content) → i < length (child_elements c) → length (nodes_of c) ≡ 1 → is_empty (cut i c) ≡ true
alone i (last t) h e = absurd (omega arith)
alone zero (more (x ∷ t) n ds ats c rest) h e = absurd (omega (arith, e))
alone zero (more [] n ds ats c (last [])) h e = refl
alone zero (more [] n ds ats c (last (x ∷ t))) h e = absurd (omega (arith, e))
alone zero (more [] n ds ats c (more t m ds' ats' c' rest)) h e = absurd (more_than_one [] (Elem (tree_of n ds ats c)) _ (some_nodes t (Elem (tree_of m ds' ats' c')) (nodes_of rest)) e)
alone zero (more [] n ds ats c (comment_node t x rest)) h e = absurd (more_than_one [] (Elem (tree_of n ds ats c)) _ (some_nodes t (Comment x) (nodes_of rest)) e)
alone (suc i) (more t n ds ats c rest) h e = absurd (more_than_one t _ (nodes_of rest) (nodes_there i rest (omega arith)) e)
alone i (comment_node t x rest) h e = absurd (more_than_one t _ (nodes_of rest) (nodes_there i rest h) e)

pub not_alone : (i : ℕ) (c : Content) → i < length (child_elements c) → (length (nodes_of c) ≡ 1 → ⊥) → is_empty (cut i c) ≡ false
not_alone i (last t) h ne = absurd (omega arith)
not_alone zero (more (x ∷ t) n ds ats c (last u)) h ne = refl
not_alone zero (more (x ∷ t) n ds ats c (more u m ds' ats' c' rest)) h ne = refl
not_alone zero (more (x ∷ t) n ds ats c (comment_node u y rest)) h ne = refl
not_alone zero (more [] n ds ats c (last [])) h ne = absurd (ne refl)
not_alone zero (more [] n ds ats c (last (x ∷ t))) h ne = refl
not_alone zero (more [] n ds ats c (more t m ds' ats' c' rest)) h ne = refl
not_alone zero (more [] n ds ats c (comment_node t x rest)) h ne = refl
not_alone (suc i) (more t n ds ats c rest) h ne = refl
not_alone i (comment_node t x rest) h ne = refl

-- ---- what a change removes and adds

-- an existing part
pub one : {A : Type 0} (f : A → List ℕ) (x : A) → byte_len (flat_map f (option_to_list (Some x))) ≡ byte_len (f x)
one f x = byte_len-append (f x) [] ∙ omega arith

pub ruleset ends = (bare, full, alone, not_alone)

there : (i : ℕ) (xs : List Tree) → i < length xs → (k : Tree) × (slice_get xs i ≡ Some k)
there i [] h = absurd (omega arith)
there zero (x ∷ xs) h = (x, refl)
there (suc i) (x ∷ xs) h = there i xs (omega arith)

-- the print of the element that a change is made in, with what it loses and what it gains
abbrev Balanced : Change → Tree → Type 0
Balanced change e = (byte_len (print (local_result change e)) + removed_len change e ≡ byte_len (print e) + added_len change e) × (removed_len change e ≤ byte_len (print e))

put_here : (gap : ℕ) (k e : Tree) → gap ≤ length (child_elements_of e) → (b : Bool) → is_empty e.content ≡ b
    → byte_len (print (put_kid gap k e)) ≡ byte_len (print e) + (byte_len (print k) + cond (is_empty e.content) (end_tag_len e.name) 0)
put_here gap k e fits true h =
    omega (
      arith,
      print-parts (put_kid gap k e),
      print-parts e,
      content-put gap k e.content fits,
      ap (ending_len e.name) (full-put gap k e.content fits),
      ap (ending_len e.name) h,
      ap (λ (b : Bool). cond b (end_tag_len e.name) 0) h,
    )
put_here gap k e fits false h =
    omega (
      arith,
      print-parts (put_kid gap k e),
      print-parts e,
      content-put gap k e.content fits,
      ap (ending_len e.name) (full-put gap k e.content fits),
      ap (ending_len e.name) h,
      ap (λ (b : Bool). cond b (end_tag_len e.name) 0) h,
    )

cut_here : (i : ℕ) (k e : Tree) → slice_get (child_elements_of e) i ≡ Some k → (b : Bool) → is_empty (cut i e.content) ≡ b
    → byte_len (print (cut_child i e)) + (byte_len (print k) + cond (is_empty (cut i e.content)) (end_tag_len e.name) 0) ≡ byte_len (print e)
cut_here i k e is true h =
    omega (
      arith,
      print-parts (cut_child i e),
      print-parts e,
      content-cut i k e.content is,
      ap (ending_len e.name) (full-there i k e.content is),
      ap (ending_len e.name) h,
      ap (λ (b : Bool). cond b (end_tag_len e.name) 0) h,
    )
cut_here i k e is false h =
    omega (
      arith,
      print-parts (cut_child i e),
      print-parts e,
      content-cut i k e.content is,
      ap (ending_len e.name) (full-there i k e.content is),
      ap (ending_len e.name) h,
      ap (λ (b : Bool). cond b (end_tag_len e.name) 0) h,
    )

balanced : (change : Change) (e : Tree) → FitsLocally change e → Balanced change e
balanced (CreateDocument root) e fits = absurd fits
balanced (Insert parent gap k) e fits = (omega (arith, put_here gap k e fits (is_empty e.content) refl), omega arith)
balanced (Replace p other) e fits = (omega arith, omega arith)
balanced (Remove p) e fits =
    let child_element = there (last_number p) (child_elements_of e) fits.1 in
    let here = cut_here (last_number p) child_element.0 e child_element.1 (is_empty (cut (last_number p) e.content)) refl in
    let len = ap (λ o. byte_len (flat_map print (option_to_list o))) child_element.1 ∙ one print child_element.0 in
    (omega (arith, here, len), omega (arith, here, len))
balanced (SetAttr p name value) e fits =
    let tag = print-attrs e (with_attr name value e.attrs) in
    let gone = attrs-dropped name e.attrs in
    (omega (arith, tag, attrs-written name value e.attrs), omega (arith, gone, print-parts e, byte_len-tag_front e.name e.decls e.attrs))
balanced (DropAttr p name) e fits =
    let tag = print-attrs e (without_attr name e.attrs) in
    let gone = attrs-dropped name e.attrs in
    (omega (arith, tag, gone), omega (arith, gone, print-parts e, byte_len-tag_front e.name e.decls e.attrs))
balanced RemoveDocument e fits = absurd fits

-- ---- the whole tree

pub len_after : (t e : Tree) (change : Change) → at (change_site change) t ≡ Some e → FitsLocally change e
    → (byte_len (print (edited t change)) + removed_len change e ≡ byte_len (print t) + added_len change e) × (removed_len change e ≤ byte_len (print t))
len_after t e change is fits =
    let here = balanced change e fits in
    let whole = print-change_at (change_site change) (local_result change) e t is in
    let within = print-at (change_site change) e t is in
    let same = ap (λ x. byte_len (print x)) (edited_there t change) in
    (omega (arith, here.0, whole, same), omega (arith, here.1, within))

-- Operations declare fewer prefixes than the prints of their trees have bytes.
use Rattle.std.proofs.Common.{◌≡◌, ℕ, zero, suc, ◌+◌, ◌*◌, ◌<◌, ◌≤◌, ◌^◌, Ordering, Less, Equal, Greater, Bool, true, false, List, [], ◌∷◌, ◌++◌, length, filter, flat_map, length-append, Option, Some, None, option_map, slice_get, refl, ap, ◌∙◌, arith}
use Rattle.std.specs.Prelude.{unwrap_or}
use Rattle.xml_tree.specs.Edits.{parent_path, put, put_kid, put_over}
use Rattle.xml_names.specs.Markup.{byte_len, end_tag_text, tag_front, print_decl}
use Rattle.xml_tree.specs.Print.{rest_of_element, is_empty, print, print_content}
use Rattle.xml_names.specs.inner.DeclarationMaps.{with_sorted_decls, with_sorted_decl}
use Rattle.xml_names.specs.Scopes.{in_scope_bindings, binds_prefix, scope_decls}
use Rattle.xml_tree.specs.TreeScopes.{scope_around, scope_at}
use Rattle.xml_tree.specs.Tree.{Content, last, more, comment_node, Tree, tree_of, at, child_elements, child_elements_of}
use Rattle.xml_names.specs.declared.names.Decl.{Decl}
use Rattle.xml_names.proofs.BindingWords.{gathered_are}
use Rattle.xml_names.proofs.ByteOrder.{order}
use Rattle.xml_names.proofs.PrintLengths.{byte_len-append, byte_len-decl, byte_len-tag_front}
use Rattle.xml_tree.proofs.ProperEdits.{at-change_at}
use Rattle.edit_ops.specs.Changes.{FitsTree, edited}
use Rattle.edit_ops.specs.declared.change.Change.{Change}
use Rattle.edit_ops.specs.declared.change.Change.TheVariants.{CreateDocument, Insert, Replace, Remove, SetAttr, DropAttr, RemoveDocument}
use Rattle.edit_ops.specs.Notes.{AreNotesOf, Note, scope_of_place}
use Rattle.patch_rules.specs.Notices.{count_declarations, count_content_declarations, operations}
use Rattle.edit_ops.specs.DiffOperations.{operation, change_operation as told}
use Rattle.patch_laws.specs.Premises.{HasFewNotes, AreDiffableTrees}
use Rattle.patch_laws.proofs.Changes.{there_of}
use Rattle.patch_laws.proofs.Elements.{some_and}
use Rattle.patch_rules.proofs.Lengths.{commented, kid_shorter, opened, parts, place_shorter}
use Rattle.patch_laws.proofs.Wholes.{told_decls}

-- ---- declarations in an element

decls_short : (ds : List Decl) → length ds ≤ byte_len (flat_map print_decl ds)
decls_short [] = omega arith
decls_short (d ∷ ds) = omega (arith, byte_len-append (print_decl d) (flat_map print_decl ds), byte_len-decl d, decls_short ds)

-- the parts of a print
whole_parts : (e : Tree) → byte_len (tag_front e.name e.decls e.attrs) + byte_len (print_content e.content) ≤ byte_len (print e)
whole_parts e = by (is_empty e.content) refl
  where
    nothing : (c : Content) → is_empty c ≡ true → byte_len (print_content c) ≡ 0
    nothing (last []) z = refl
    nothing (last (x ∷ t)) z = cc
    nothing (more t m ds ats c rest) z = cc
    nothing (comment_node t x rest) z = cc

    by : (b : Bool) → is_empty e.content ≡ b → byte_len (tag_front e.name e.decls e.attrs) + byte_len (print_content e.content) ≤ byte_len (print e)
    by true is = omega (arith, opened e, nothing e.content is)
    by false is =
        let end : byte_len (rest_of_element e.name (is_empty e.content) (print_content e.content)) ≡ byte_len (62 ∷ (print_content e.content ++ end_tag_text e.name)) = ap (λ b. byte_len (rest_of_element e.name b (print_content e.content))) is in
        omega (arith, opened e, end, byte_len-append (62 ∷ []) (print_content e.content ++ end_tag_text e.name), byte_len-append (print_content e.content) (end_tag_text e.name))

opening_short : (e : Tree) → length e.decls ≤ byte_len (tag_front e.name e.decls e.attrs)
opening_short e = omega (arith, byte_len-tag_front e.name e.decls e.attrs, decls_short e.decls)

content_short : (c : Content) → count_content_declarations c ≤ byte_len (print_content c)
content_short (last t) = omega arith
content_short (more t n ds ats c rest) =
    let e = tree_of n ds ats c in omega (arith, parts t e rest, whole_parts e, opening_short e, content_short c, content_short rest)
content_short (comment_node t x rest) = omega (arith, commented t x rest, content_short rest)

element_short : (e : Tree) → length e.decls + count_content_declarations e.content ≤ byte_len (print e)
element_short e = omega (arith, whole_parts e, opening_short e, content_short e.content)

-- ---- bindings in a scope

placed_short : (d : Decl) (ds : List Decl) → length (with_sorted_decl d ds) ≤ suc (length ds)
placed_short d [] = omega arith
placed_short d (x ∷ ds) = by (order d.prefix x.prefix) refl (placed_short d ds)
  where
    by : (o : Ordering) → order d.prefix x.prefix ≡ o → length (with_sorted_decl d ds) ≤ suc (length ds) → length (with_sorted_decl d (x ∷ ds)) ≤ suc (suc (length ds))
    by Less is rest = rw is (omega arith)
    by Equal is rest = rw is (omega arith)
    by Greater is rest = rw is (omega arith)

gathered_short : (acc ds : List Decl) → length (with_sorted_decls acc ds) ≤ length acc + length ds
gathered_short acc [] = omega arith
gathered_short acc (d ∷ ds) = omega (arith, gathered_short (with_sorted_decl d acc) ds, placed_short d acc)

filter_short : (f : Decl → Bool) (ds : List Decl) → length (filter f ds) ≤ length ds
filter_short f [] = omega arith
filter_short f (x ∷ ds) = by (f x) refl (filter_short f ds)
  where
    by : (b : Bool) → f x ≡ b → length (filter f ds) ≤ length ds → length (filter f (x ∷ ds)) ≤ suc (length ds)
    by true is rest = rw is (omega arith)
    by false is rest = rw is (omega arith)

bindings_short : (c : List (List Decl)) → length (in_scope_bindings c) ≤ length (scope_decls c)
bindings_short c = omega (arith, ap length (gathered_are c), filter_short binds_prefix (with_sorted_decls [] (scope_decls c)), gathered_short [] (scope_decls c))

scope_short : (p : List ℕ) (t : Tree) → length (scope_decls (scope_at p t)) ≤ byte_len (print t)
scope_short [] t = omega (arith, length-append t.decls [], whole_parts t, opening_short t)
scope_short (n ∷ p) t =
    let below = by (slice_get (child_elements_of t) n) refl (λ k. scope_short p k) in
    omega (arith, length-append t.decls (scope_decls (unwrap_or (option_map (scope_at p) (slice_get (child_elements_of t) n)) [])), whole_parts t, opening_short t, below)
  where
    by : (o : Option Tree) → slice_get (child_elements_of t) n ≡ o → ((k : Tree) → length (scope_decls (scope_at p k)) ≤ byte_len (print k)) → length (scope_decls (unwrap_or (option_map (scope_at p) o) [])) ≤ byte_len (print_content t.content)
    by None is f = omega arith
    by (Some k) is f = omega (arith, f k, kid_shorter t.content n k is)

around_short : (p : List ℕ) (t : Tree) → length (scope_decls (scope_around p t)) ≤ byte_len (print t)
around_short [] t = omega arith
around_short (n ∷ p) t = scope_short (parent_path (n ∷ p)) t

-- ---- operations

put_within : (j : ℕ) (e : Tree) (c : Content) → j ≤ length (child_elements c) → byte_len (print e) ≤ byte_len (print_content (put j e c))
put_within zero e c h = omega (arith, parts [] e c)
put_within (suc j) e (last t) h = absurd (omega arith)
put_within (suc j) e (more t n ds ats c rest) h = omega (arith, parts t (tree_of n ds ats c) (put j e rest), put_within j e rest (omega arith))
put_within (suc j) e (comment_node t x rest) h = omega (arith, commented t x (put (suc j) e rest), put_within (suc j) e rest h)

put_short : (q : List ℕ) (j : ℕ) (e k t : Tree) → at q t ≡ Some k → j ≤ length (child_elements_of k) → byte_len (print e) ≤ byte_len (print (edited t (Insert q j e)))
put_short q j e k t there h =
    let made = put_kid j e k in
    omega (arith, put_within j e k.content h, whole_parts made, place_shorter q (edited t (Insert q j e)) made (at-change_at q (put_kid j e) t k there))

place_short : (t : Tree) (change : Change) → FitsTree t change → length (in_scope_bindings (scope_of_place t change)) ≤ byte_len (print t)
place_short t (CreateDocument root) fits = absurd fits
place_short t (Insert q j e) fits = omega (arith, bindings_short (scope_at q t), scope_short q t)
place_short t (Replace p e) fits = omega (arith, bindings_short (scope_around p t), around_short p t)
place_short t (Remove p) fits = omega (arith, bindings_short (scope_around p t), around_short p t)
place_short t (SetAttr p n v) fits = omega (arith, bindings_short (scope_at p t), scope_short p t)
place_short t (DropAttr p n) fits = omega (arith, bindings_short (scope_at p t), scope_short p t)
place_short t RemoveDocument fits = absurd fits

told_short : (t : Tree) (bs : List Decl) (fresh : Bool) (change : Change) → FitsTree t change → count_content_declarations (told [] bs fresh change).content ≤ byte_len (print (edited t change))
told_short t bs fresh (CreateDocument root) fits = absurd fits
told_short t bs fresh (Insert q j e) fits =
    let k = some_and (at q t) (λ x. j ≤ length (child_elements_of x)) fits in omega (arith, element_short e, put_short q j e k.0 t k.1 k.2)
told_short t bs fresh (Replace p e) fits =
    let k = there_of (at p t) fits in omega (arith, element_short e, place_shorter p (put_over p e t) e (at-change_at p (λ _. e) t k.0 k.1))
told_short t bs fresh (Remove p) fits = omega arith
told_short t bs true (SetAttr p n v) fits = omega arith
told_short t bs false (SetAttr p n v) fits = omega arith
told_short t bs fresh (DropAttr p n) fits = omega arith
told_short t bs fresh RemoveDocument fits = absurd fits

first_short : (t : Tree) (ns : List Note) → AreDiffableTrees t ns → byte_len (print t) ≤ 4294967295
first_short t [] h = h.short
first_short t (n ∷ ns) h = h.0.short

notes_short : (tag : ℕ) (t : Tree) (ns : List Note) → AreNotesOf tag t ns → AreDiffableTrees t ns → count_declarations (operations [] ns) ≤ length ns * 8589934590
notes_short tag t [] h are = omega arith
notes_short tag t (n ∷ ns) h are =
    let decls : length (operation [] n).decls ≡ length (in_scope_bindings (scope_of_place t n.change)) =
    ap length (told_decls [] n.bindings n.fresh n.change ∙ ap (λ (m : Note). m.bindings) h.1) in
    omega (arith, decls, place_short t n.change h.0, told_short t n.bindings n.fresh n.change h.0, are.0.short, first_short (edited t n.change) ns are.1, notes_short n.next (edited t n.change) ns h.2 are.1)

pub few_declarations : (tag : ℕ) (t : Tree) (ns : List Note) → AreNotesOf tag t ns → AreDiffableTrees t ns → HasFewNotes ns → count_declarations (operations [] ns) < 2 ^ 64
few_declarations tag t ns h are few = omega (arith, notes_short tag t ns h are)

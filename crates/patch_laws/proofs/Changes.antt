-- The operation of a change record, applied to the tree before, makes the tree after, whatever the
-- change is; and so do operations in order.
use Rattle.std.proofs.Common.{◌≡◌, ◌≢◌, ℕ, zero, suc, ◌<◌, ◌≤◌, Bool, true, false, List, [], ◌∷◌, ◌++◌, length, Option, Some, None, IsSome, is_some, is_none, option_and_then, slice_get, bytes_eq, Ok, refl, sym, ap, ◌∙◌, subst, append-nil, arith}
use Rattle.std.specs.List.{find}
use Rattle.std.proofs.lemmas.Slice.Eq.{bytes_eq-Decides}
use Rattle.xml_names.specs.Attributes.{with_attr, has_qname as is_named}
use Rattle.xml_tree.specs.Edits.{attr_at, set_attr_at, set_attr_value}
use Rattle.xml_tree.specs.Proper.{IsProperName, IsProperTag, IsProperPart, IsProperTree}
use Rattle.xml_names.specs.Scopes.{in_scope_bindings, bound_uri, xmlns_prefix}
use Rattle.xml_tree.specs.TreeScopes.{scope_at}
use Rattle.xml_tree.specs.Tree.{Tree, at, height, child_elements_of}
use Rattle.xml_names.specs.declared.names.Name.{Name}
use Rattle.xml_names.specs.declared.names.Decl.{Decl}
use Rattle.xml_names.specs.declared.names.Attr.{Attr}
use Rattle.xml_tree.proofs.EverywhereLaws.{inside, scope_at-around}
use Rattle.xml_tree.proofs.ProperEdits.{around-change_at, at-change_at, put-element, put-other}
use Rattle.tree_text.proofs.UnboundScopes.{never_bound}
use Rattle.edit_ops.specs.Changes.{FitsTree, edited}
use Rattle.edit_ops.specs.declared.change.Change.{Change}
use Rattle.edit_ops.specs.declared.change.Change.TheVariants.{CreateDocument, Insert, Replace, Remove, SetAttr, DropAttr, RemoveDocument}
use Rattle.patch_rules.specs.PatchOperations.{attr_of}
use Rattle.patch_rules.specs.readers.AppliedOperations.{apply_operation}
use Rattle.edit_ops.specs.Notes.{AreNotesOf, Note, is_fresh, note_of, scope_of_place, tree_after}
use Rattle.edit_ops.specs.DiffOperations.{operation, change_operation as told}
use Rattle.patch_rules.specs.Replay.{with_operation_number, and_then_replay}
use Rattle.patch_rules.specs.readers.Replay.{apply_operations}
use Rattle.patch_rules.specs.Notices.{operations}
use Rattle.patch_rules.proofs.Lengths.{HasPositions, HasPositions-short, path_positions}
use Rattle.patch_laws.specs.Premises.{AreReadablePositions, AreDiffableTrees, IsDiffableTree, scope_around_operations}
use Rattle.patch_laws.proofs.Attributes.{Sole-distinct, Sole-front, named_there, new_behind}
use Rattle.patch_laws.proofs.AttributeOps.{NameAt, added, dropped, exchanged}
use Rattle.patch_laws.proofs.Prefixes.{both}
use Rattle.patch_laws.proofs.Elements.{inserted_after, inserted_first, removed, replaced, some_and, there_before_gap}

-- ---- places

pub there_of : (o : Option Tree) → IsSome o → (k : Tree) × (o ≡ Some k)
there_of None h = cc
there_of (Some k) h = (k, refl)

pub there_before : {A : Type 0} (f : Tree → Option A) (o : Option Tree) → IsSome (option_and_then f o) → IsSome o
there_before f None h = cc
there_before f (Some k) h = refl

-- ---- the name of an attribute

pub tag_at : (p : List ℕ) (t k : Tree) → at p t ≡ Some k → IsProperTree [] t → IsProperTag (scope_at p t) k.name k.decls k.attrs
tag_at p t k there h = subst (λ c. IsProperTag c k.name k.decls k.attrs) (sym (scope_at-around p t k there)) (inside IsProperPart p [] t k there h).0

-- the scope at a place doesn't depend on attributes
scope_written : (p : List ℕ) (n : Name) (v : List ℕ) (t k : Tree) → at p t ≡ Some k → scope_at p (set_attr_at p n v t) ≡ scope_at p t
scope_written p n v t k there =
    scope_at-around p (set_attr_at p n v t) (set_attr_value n v k) (at-change_at p (set_attr_value n v) t k there)
    ∙ ap (λ c. c ++ k.decls ∷ []) (around-change_at p (set_attr_value n v) t k there) ∙ sym (scope_at-around p t k there)

none_some : (o : Option (List ℕ)) → o ≡ None → IsSome o → ⊥
none_some None e h = cc
none_some (Some u) e h = cc

not_bound : (p : List ℕ) (t : Tree) (n : Name) → IsProperTree [] t → IsProperName (scope_at p t) n → n.prefix ≢ xmlns_prefix
not_bound p t n h named is =
    let none : bound_uri (scope_at p t) n.prefix ≡ None = ap (bound_uri (scope_at p t)) is ∙ never_bound p [] t refl h in
    let some : IsSome (bound_uri (scope_at p t) n.prefix) = named.known (λ z. let w : xmlns_prefix ≡ [] = sym is ∙ z in absurd (cc)) in
    none_some (bound_uri (scope_at p t) n.prefix) none some

name_by : (c : List (List Decl)) (n : Name) (ats more : List Attr) → ((named : IsProperName c n) → n.prefix ≢ xmlns_prefix) → (name : Name) (ds : List Decl) → IsProperTag c name ds (ats ++ more)
    → IsSome (find (is_named n) (ats ++ more)) → NameAt c n ats
name_by c n ats more ok name ds tag there =
    let x = named_there c n (ats ++ more) tag.attributes there in record {
      named = x.0;
      other = x.1;
      bound_prefix = ok x.0;
      sole = Sole-front c n ats more (Sole-distinct c n (ats ++ more) tag.names there);
    }

pub name_before : (p : List ℕ) (n : Name) (t k : Tree) → at p t ≡ Some k → IsProperTree [] t → IsSome (find (is_named n) k.attrs) → NameAt (scope_at p t) n k.attrs
name_before p n t k there h some =
    name_by (scope_at p t) n k.attrs [] (not_bound p t n h) k.name k.decls (subst (λ l. IsProperTag (scope_at p t) k.name k.decls l) (sym (append-nil k.attrs)) (tag_at p t k there h))
    (subst (λ l. IsSome (find (is_named n) l)) (sym (append-nil k.attrs)) some)

same_named : (n : Name) (v : List ℕ) → is_named n (attr_of n v) ≡ true
same_named n v = both (bytes_eq n.prefix n.prefix) (bytes_eq n.local n.local) ((bytes_eq-Decides n.prefix n.prefix).1 refl) ((bytes_eq-Decides n.local n.local).1 refl)

found_behind : (n : Name) (v : List ℕ) (ats : List Attr) → IsSome (find (is_named n) (ats ++ attr_of n v ∷ []))
found_behind n v [] = rw (same_named n v) refl
found_behind n v (a ∷ ats) = by (is_named n a) refl (found_behind n v ats)
  where
    by : (b : Bool) → is_named n a ≡ b → IsSome (find (is_named n) (ats ++ attr_of n v ∷ [])) → IsSome (find (is_named n) (a ∷ (ats ++ attr_of n v ∷ [])))
    by true e h = rw e refl
    by false e h = rw e h

pub name_after : (p : List ℕ) (n : Name) (v : List ℕ) (t k : Tree) → at p t ≡ Some k → IsProperTree [] t → IsProperTree [] (set_attr_at p n v t) → find (is_named n) k.attrs ≡ None → NameAt (scope_at p t) n k.attrs
name_after p n v t k there h after none =
    let tag : IsProperTag (scope_at p t) k.name k.decls (with_attr n v k.attrs) =
    subst (λ c. IsProperTag c k.name k.decls (with_attr n v k.attrs)) (scope_written p n v t k there)
    (tag_at p (set_attr_at p n v t) (set_attr_value n v k) (at-change_at p (set_attr_value n v) t k there) after) in
    name_by (scope_at p t) n k.attrs (attr_of n v ∷ []) (not_bound p t n h) k.name k.decls
    (subst (λ l. IsProperTag (scope_at p t) k.name k.decls l) (sym (new_behind n v k.attrs none)) tag) (found_behind n v k.attrs)

-- ---- one change

module _ (d uri : List ℕ) (ne : d ≢ []) where
  set_by : (p : List ℕ) (n : Name) (v : List ℕ) (t k : Tree) → at p t ≡ Some k → AreReadablePositions p → IsProperTree [] t → IsProperTree [] (set_attr_at p n v t) → height (set_attr_at p n v t) ≤ 64
      → (o : Option Attr) → find (is_named n) k.attrs ≡ o → apply_operation (scope_around_operations d uri) (told d (in_scope_bindings (scope_at p t)) (is_none o) (SetAttr p n v)) t ≡ Ok (set_attr_at p n v t)
  set_by p n v t k there small before after low None e = added d uri ne t p n k there small (name_after p n v t k there before after e) v e low
  set_by p n v t k there small before after low (Some a) e =
      let some : IsSome (find (is_named n) k.attrs) = ap is_some e in exchanged d uri ne t p n k there small (name_before p n t k there before some) v some low

  pub applied_told : (t : Tree) (change : Change) → FitsTree t change → IsProperTree [] t → HasPositions t → IsProperTree [] (edited t change) → height (edited t change) ≤ 64
      → apply_operation (scope_around_operations d uri) (told d (in_scope_bindings (scope_of_place t change)) (is_fresh t change) change) t ≡ Ok (edited t change)
  applied_told t (CreateDocument root) fits before small after low = absurd fits
  applied_told t (Insert q zero e) fits before small after low =
      let k = some_and (at q t) (λ x. 0 ≤ length (child_elements_of x)) fits in
      inserted_first d uri ne t q e false fits (path_positions q t small (ap is_some k.1)) (put-element IsProperPart [] q 0 e t k.0 k.1 k.2 after) low
  applied_told t (Insert q (suc j) e) fits before small after low =
      let k = some_and (at q t) (λ x. suc j ≤ length (child_elements_of x)) fits in
      inserted_after d uri ne t q j e false fits (path_positions (q ++ j ∷ []) t small (there_before_gap q j k.0 t k.1 k.2)) (put-element IsProperPart [] q (suc j) e t k.0 k.1 k.2 after) low
  applied_told t (Replace p e) fits before small after low =
      let k = there_of (at p t) fits in replaced d uri ne t p e false fits (path_positions p t small fits) (put-other IsProperPart [] p e t k.0 k.1 after) low
  applied_told t (Remove p) fits before small after low = removed d uri ne t p false fits (path_positions p t small fits.1) low
  applied_told t (SetAttr p n v) fits before small after low =
      let k = there_of (at p t) fits in
      let found : attr_at p n t ≡ find (is_named n) k.0.attrs = ap (option_and_then (λ (e : Tree). find (is_named n) e.attrs)) k.1 in
      rw found (set_by p n v t k.0 k.1 (path_positions p t small fits) before after low (find (is_named n) k.0.attrs) refl)
  applied_told t (DropAttr p n) fits before small after low =
      let is = there_before (λ (e : Tree). find (is_named n) e.attrs) (at p t) fits in
      let k = there_of (at p t) is in
      let some : IsSome (find (is_named n) k.0.attrs) = subst (λ o. IsSome o) (ap (option_and_then (λ (e : Tree). find (is_named n) e.attrs)) k.1) fits in
      dropped d uri ne t p n k.0 k.1 (path_positions p t small is) (name_before p n t k.0 k.1 before some) false some low
  applied_told t RemoveDocument fits before small after low = absurd fits

  -- ---- changes in order

  pub first_told : (t : Tree) (ns : List Note) → AreDiffableTrees t ns → IsDiffableTree t
  first_told t [] h = h
  first_told t (n ∷ ns) h = h.0

  pub applied_note : (tag : ℕ) (t : Tree) (n : Note) → FitsTree t n.change → n ≡ note_of tag n.next t n.change → IsDiffableTree t → IsDiffableTree (edited t n.change)
      → apply_operation (scope_around_operations d uri) (operation d n) t ≡ Ok (edited t n.change)
  applied_note tag t n fits is before after =
      ap (λ (x : Note). apply_operation (scope_around_operations d uri) (told d x.bindings x.fresh n.change) t) is
      ∙ applied_told t n.change fits before.proper (HasPositions-short t before.short) after.proper after.low

  pub all_applied_notes : (count tag : ℕ) (t : Tree) (ns : List Note) → AreNotesOf tag t ns → AreDiffableTrees t ns → apply_operations count (scope_around_operations d uri) (operations d ns) t ≡ Ok (tree_after t ns)
  all_applied_notes count tag t [] h told = refl
  all_applied_notes count tag t (n ∷ ns) h told =
      let one = applied_note tag t n h.0 h.1 told.0 (first_told (edited t n.change) ns told.1) in
      ap (λ r. and_then_replay (with_operation_number count r) (apply_operations (suc count) (scope_around_operations d uri) (operations d ns))) one
      ∙ all_applied_notes (suc count) n.next (edited t n.change) ns h.2 told.1

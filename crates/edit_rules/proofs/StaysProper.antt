-- A planned change fits the document, and leaves it proper and within the level limit.
use Rattle.std.specs.Str.{bytes_eq}
use Rattle.std.specs.Cmp.Lexicographic.{bytes_decides}
use Rattle.std.specs.List.{AllByRecursion, IsDistinct}
use Rattle.std.specs.Option.{option_or, option_map_or}
use Rattle.std.specs.Prelude.{◌&&◌, unwrap_or}
use Rattle.std.proofs.Common.{◌≡◌, inl, inr, ℕ, suc, ◌≤◌, ◌+◌, Bool, true, false, cond, List, [], ◌∷◌, ◌++◌, length, find, map, Option, Some, None, IsSome, IsSomeAnd, IsTrue, option_map, option_and_then, Result, Ok, Err, refl, sym, ap, ◌∙◌, subst, arith}
use Rattle.std.proofs.lemmas.Option.{same_Some}
use Rattle.node_select.specs.InsertionPoints.{IsInsertionPlan}
use Rattle.doc_names.specs.declared.usages.Usage.{Usage}
use Rattle.xml_names.specs.Characters.{has_only_chars, is_name}
use Rattle.xml_tree.specs.Tree.{Tree, at, height, child_elements_of, tree_of}
use Rattle.xml_names.specs.Attributes.{remove_first, same_name, with_new_value, with_attr, without_attr}
use Rattle.xml_names.specs.Attributes as attributes
use Rattle.xml_tree.specs.Edits.{change_at, drop_attr, last_number, parent_path, put_in, set_attr_value}
use Rattle.xml_names.specs.ExpandedNames.{ExpandedName, attr_name, same_expanded, same_uri}
use Rattle.xml_tree.specs.Proper.{IsProperAttr, IsProperTag, IsProperPart, IsProperTree, is_proper_decl, is_prefix, is_allowed_decl}
use Rattle.xml_names.specs.Scopes.{bound_uri, declared_uri, scope_decls, non_empty_uri, xml_prefix}
use Rattle.xml_tree.specs.TreeScopes.{scope_around, scope_at}
use Rattle.xml_names.specs.declared.names.Name.{Name}
use Rattle.xml_names.specs.declared.names.Attr.{Attr}
use Rattle.xml_names.specs.declared.names.Decl.{Decl}
use Rattle.xml_tree.proofs.EverywhereLaws.{Everywhere-child_element, Throughout-change_at, scope_at-around}
use Rattle.xml_tree.proofs.HeightLaws.{height-bounded, height-put_in, height-put_over, height-take_in}
use Rattle.xml_tree.proofs.PlaceLaws.{at-changed, height-at}
use Rattle.xml_tree.proofs.ProperEdits.{with-element, with-other, without}
use Rattle.node_select.specs.Names.{has_expanded_name, uri_or_empty}
use Rattle.node_select.specs.Selection.{is_attr_named}
use Rattle.node_select.specs.declared.selector.Step.{Step}
use Rattle.node_select.specs.declared.selector.End.{End}
use Rattle.node_select.specs.declared.selector.End.TheVariants as ends
use Rattle.node_select.specs.declared.selector.Selector.{Selector}
use Rattle.node_select.proofs.Along.{path_there}
use Rattle.usage_docs.specs.Validity as usage
use Rattle.edit_ops.specs.Changes.{edited}
use Rattle.edit_ops.specs.declared.change.Change.{Change}
use Rattle.edit_ops.specs.declared.change.Change.TheVariants.{Insert, Replace, Remove, SetAttr, DropAttr}
use Rattle.edit_rules.specs.declared.spot.Spot.{Spot}
use Rattle.edit_rules.specs.declared.spot.Spot.TheVariants.{Over, Under, Beside, Value}
use Rattle.usage_docs.specs.declared.validation.Fault.TheVariants.{Invalid}
use Rattle.edit_rules.specs.declared.edit_refusal.EditRefusal.{EditRefusal}
use Rattle.edit_rules.specs.declared.edit_refusal.EditRefusal.TheVariants.{CannotInsert, CannotDelete, Faulty}
use Rattle.edit_rules.specs.AttributePuts.{IsWritable, new_name, new_prefix, written_name}
use Rattle.edit_rules.specs.Deletions.{FindsNothingAfter, IsDeletePlan, IsDeletePlanFor, IsElementRemoval}
use Rattle.edit_rules.specs.LawfulInsertions.{IsLawfulGap, IsLawfulReplacement}
use Rattle.edit_rules.specs.CheckedChanges.{IsCheckedChange, LeavesProperTree}
use Rattle.edit_rules.specs.ElementPuts.{IsResultOfGap, FitsWithinLevelsAt, IsElementInsertion, IsProperAt, IsPutPlan}
use Rattle.edit_rules.specs.Spots.{IsSpotOf}
use Rattle.edit_rules.proofs.Options.{through_kid}
use Rattle.edit_rules.proofs.StaysSelected.{scope_kept}
use Rattle.edit_rules.proofs.Twice.{Written, alike_named, judged_ok, named_alike, tested_ok}

-- ---- PUT of an element

some_there : (o : Option Tree) → IsSome o → (e : Tree) × (o ≡ Some e)
some_there None h = cc
some_there (Some e) h = (e, refl)

fits_under : (o : Option Tree) (parent : Tree) (gap : ℕ) → o ≡ Some parent → gap ≤ length (child_elements_of parent) → IsSomeAnd o (λ e. gap ≤ length (child_elements_of e))
fits_under o parent gap is le = subst (λ (x : Option Tree). IsSomeAnd x (λ e. gap ≤ length (child_elements_of e))) (sym is) le

over_leaves : (t : Tree) (steps : List Step) (p : List ℕ) (e : Tree) → IsSome (at p t) → IsProperTree [] t → height t ≤ 64 → IsProperTree (scope_around p t) e → length p + height e ≤ 64 → LeavesProperTree t (Replace p e)
over_leaves t steps p e there proper low new room =
    let old = some_there (at p t) there in
    record {
      fits = there;
      proper = with-other IsProperPart [] p e t new proper;
      low = let h = height-put_over p e old.0 t old.1 in omega (arith, h, low, room);
    }

under_leaves : (t : Tree) (q : List ℕ) (gap : ℕ) (e parent : Tree) → at q t ≡ Some parent → gap ≤ length (child_elements_of parent) → IsProperTree [] t → height t ≤ 64 → IsProperTree (scope_at q t) e → length q + suc (height e) ≤ 64 → LeavesProperTree t (Insert q gap e)
under_leaves t q gap e parent there le proper low new room = record {
  fits = fits_under (at q t) parent gap there le;
  proper = with-element IsProperPart [] q gap e t new proper;
  low = let h = height-put_in q gap e parent t there le in omega (arith, h, low, room);
}

under_plan : (u : Usage) (t : Tree) (steps : List Step) (q : List ℕ) (e : Tree) (plan : Change) → IsElementInsertion (record { usage = u; document = t; steps = steps }) q e (Ok plan) → IsProperTree [] t → height t ≤ 64 → IsProperTree (scope_at q t) e → length q + suc (height e) ≤ 64 → LeavesProperTree t plan
under_plan u t steps q e plan h proper low new room = by h.gap h.is_chosen h.then
  where
    by : (g : Result ℕ EditRefusal) → IsInsertionPlan CannotInsert (Faulty Invalid) (IsLawfulGap steps t e q) (λ j. usage.IsValidDocument u (put_in q j e t)) (length (child_elements_of h.parent) + 1) g → IsResultOfGap (λ gap. IsCheckedChange u t (Insert q gap e)) g (Ok plan) → LeavesProperTree t plan
    by (Err why) chosen then = let z = then in cc
    by (Ok gap) chosen then =
        let j = judged_ok u t (Insert q gap e) plan then in
        let lt = chosen.within in
        subst (λ (x : Change). LeavesProperTree t x) (sym j.0) (under_leaves t q gap e h.parent h.there (omega arith) proper low new room)

pub put_leaves : (u : Usage) (t : Tree) (selector : Selector) (spot : Spot) (e : Tree) (plan : Change) → IsPutPlan (record { usage = u; document = t; steps = selector.steps }) spot e (Ok plan) → IsSpotOf t selector spot
    → IsProperTree [] t → height t ≤ 64 → IsProperAt t spot e → FitsWithinLevelsAt spot e → LeavesProperTree t plan
put_leaves u t selector (Over p) e plan h is proper low new room =
    let m = tested_ok CannotInsert (IsLawfulReplacement selector.steps t e p) u t (Replace p e) plan h in
    subst (λ (x : Change). LeavesProperTree t x) (sym m.is) (over_leaves t selector.steps p e (path_there selector.steps t p is.1) proper low new room)
put_leaves u t selector (Under q) e plan h is proper low new room = under_plan u t selector.steps q e plan h proper low new room
put_leaves u t selector Beside e plan h is proper low new room = cc
put_leaves u t selector (Value p) e plan h is proper low new room = absurd h

-- ---- the declarations in a scope

AllDeclared : List Decl → Type 0
AllDeclared ds = AllByRecursion (λ d. IsTrue (is_proper_decl d)) ds

declared_more : (xs ys : List Decl) → AllDeclared xs → AllDeclared ys → AllDeclared (xs ++ ys)
unfolding AllDeclared
declared_more [] ys a b = b
declared_more (x ∷ xs) ys a b = (a.0, declared_more xs ys a.1 b)

scope_declared : (p : List ℕ) (c : List (List Decl)) (t e : Tree) → at p t ≡ Some e → IsProperTree c t → AllDeclared (scope_decls (scope_at p t))
unfolding AllDeclared
scope_declared [] c t e there h = declared_more t.decls [] h.0.declarations tt
scope_declared (n ∷ p) c t e there h =
    let k = through_kid n p t e there in
    let rest = scope_declared p (c ++ t.decls ∷ []) k.0 e k.1.1 (Everywhere-child_element IsProperPart (c ++ t.decls ∷ []) n t.content k.0 k.1.0 h.1) in
    subst (λ (o : Option Tree). AllDeclared (scope_decls (t.decls ∷ unwrap_or (option_map (scope_at p) o) []))) (sym k.1.0) (declared_more t.decls (scope_decls (scope_at p k.0)) h.0.declarations rest)

first_holds : (a b : Bool) → IsTrue (a && b) → IsTrue a
first_holds true b h = refl
first_holds false b h = cc

second_holds : (a b : Bool) → IsTrue (a && b) → IsTrue b
second_holds true b h = h
second_holds false b h = cc

-- a prefix that is declared is an NCName or empty
declared_prefix : (ds : List Decl) (p uri : List ℕ) → AllDeclared ds → declared_uri ds p ≡ Some uri → IsTrue (is_prefix p)
unfolding AllDeclared
declared_prefix [] p uri all h = cc
declared_prefix (d ∷ ds) p uri all h = by (declared_uri ds p) refl (bytes_eq d.prefix p) refl (declared_prefix ds p uri all.1)
  where
    by : (o : Option (List ℕ)) → declared_uri ds p ≡ o → (b : Bool) → bytes_eq d.prefix p ≡ b → (declared_uri ds p ≡ Some uri → IsTrue (is_prefix p)) → IsTrue (is_prefix p)
    by (Some v) e b eq rest = rest (let here : option_or (Some v) (cond b (Some d.uri) None) ≡ Some uri = sym (ap (λ (o : Option (List ℕ)). option_or o (cond b (Some d.uri) None)) e) ∙ sym (ap (λ (x : Bool). option_or (declared_uri ds p) (cond x (Some d.uri) None)) eq) ∙ h in e ∙ here)
    by None e true eq rest =
        let same : d.prefix ≡ p = (bytes_decides d.prefix p).0 eq in
        let good : IsTrue (is_prefix d.prefix) = first_holds (is_prefix d.prefix) (has_only_chars d.uri) (first_holds (is_prefix d.prefix && has_only_chars d.uri) (is_allowed_decl d) all.0) in
        subst (λ (x : List ℕ). IsTrue (is_prefix x)) same good
    by None e false eq rest =
        let here : option_or None (cond false (Some d.uri) None) ≡ Some uri = sym (ap (λ (o : Option (List ℕ)). option_or o (cond false (Some d.uri) None)) e) ∙ sym (ap (λ (x : Bool). option_or (declared_uri ds p) (cond x (Some d.uri) None)) eq) ∙ h in
        let z : None ≡ Some uri = here in cc

some_text_is : (o : Option (List ℕ)) (uri : List ℕ) → non_empty_uri o ≡ Some uri → (v : List ℕ) × (o ≡ Some v)
some_text_is None uri h = cc
some_text_is (Some v) uri h = (v, refl)

xml_is_prefix : IsTrue (is_prefix xml_prefix)
xml_is_prefix = refl

bound_prefix : (c : List (List Decl)) (p uri : List ℕ) → AllDeclared (scope_decls c) → bound_uri c p ≡ Some uri → IsTrue (is_prefix p)
bound_prefix c p uri all h = by (bytes_eq p xml_prefix) refl
  where
    by : (b : Bool) → bytes_eq p xml_prefix ≡ b → IsTrue (is_prefix p)
    by true e = subst (λ (x : List ℕ). IsTrue (is_prefix x)) (sym ((bytes_decides p xml_prefix).0 e)) xml_is_prefix
    by false e =
        let v = some_text_is (declared_uri (scope_decls c) p) uri (rw e at h) in
        declared_prefix (scope_decls c) p v.0 all v.1

-- ---- names of attributes

equal_uris : (a b : Option (List ℕ)) → IsTrue (same_uri a b) → unwrap_or a [] ≡ unwrap_or b []
equal_uris None None h = refl
equal_uris None (Some v) h = cc
equal_uris (Some u) None h = cc
equal_uris (Some u) (Some v) h = (bytes_decides u v).0 h

both_hold : (a b : Bool) → IsTrue a → IsTrue b → IsTrue (a && b)
both_hold true b p q = q
both_hold false b p q = cc

-- a name that is equal to a name with this property has it, too
named_too : (uri local : List ℕ) (a b : ExpandedName) → IsTrue (same_expanded a b) → IsTrue (has_expanded_name uri local b) → IsTrue (has_expanded_name uri local a)
named_too uri local a b same h =
    let uris : uri_or_empty a ≡ uri_or_empty b = equal_uris a.uri b.uri (first_holds (same_uri a.uri b.uri) (bytes_eq a.local b.local) same) in
    let locals : a.local ≡ b.local = (bytes_decides a.local b.local).0 (second_holds (same_uri a.uri b.uri) (bytes_eq a.local b.local) same) in
    both_hold (bytes_eq a.local local) (bytes_eq (uri_or_empty a) uri)
    (subst (λ (x : List ℕ). IsTrue (bytes_eq x local)) (sym locals) (first_holds (bytes_eq b.local local) (bytes_eq (uri_or_empty b) uri) h))
    (subst (λ (x : List ℕ). IsTrue (bytes_eq x uri)) (sym uris) (second_holds (bytes_eq b.local local) (bytes_eq (uri_or_empty b) uri) h))

abbrev attr_of : Name → List ℕ → Attr
attr_of name value = record { name = name; value = value }

abbrev name_in : List (List Decl) → Attr → ExpandedName
name_in c a = attr_name c a.name

distinct_snoc : (xs : List ExpandedName) (y : ExpandedName) → IsDistinct same_expanded xs → AllByRecursion (λ x. same_expanded x y ≡ false) xs → IsDistinct same_expanded (xs ++ y ∷ [])
unfolding IsDistinct
distinct_snoc [] y d a = (tt, tt)
distinct_snoc (x ∷ xs) y d a = (each xs d.0, distinct_snoc xs y d.1 a.1)
  where
    each : (zs : List ExpandedName) → AllByRecursion (λ z. same_expanded x z ≡ false) zs → AllByRecursion (λ z. same_expanded x z ≡ false) (zs ++ y ∷ [])
    each [] h = (a.0, tt)
    each (z ∷ zs) h = (h.0, each zs h.1)

is_false : (b : Bool) → (IsTrue b → ⊥) → b ≡ false
is_false true fails = absurd (fails refl)
is_false false fails = refl

module _ (c : List (List Decl)) (n : Name) (v : List ℕ) where
  -- ---- an existing attribute

  attrs_with : (ats : List Attr) → AllByRecursion (IsProperAttr c) ats → IsProperAttr c (attr_of n v) → AllByRecursion (IsProperAttr c) (with_attr n v ats)
  attrs_with [] all new = (new, tt)
  attrs_with (x ∷ ats) all new = by (attributes.has_qname n x) refl (attrs_with ats all.1 new)
    where
      by : (b : Bool) → attributes.has_qname n x ≡ b → AllByRecursion (IsProperAttr c) (with_attr n v ats) → AllByRecursion (IsProperAttr c) (with_attr n v (x ∷ ats))
      by true e rest = rw e (record { named = all.0.named; other = all.0.other; value = new.value }, all.1)
      by false e rest = rw e (all.0, rest)

  names_kept : (ats : List Attr) (a : Attr) → find (attributes.has_qname n) ats ≡ Some a → map (name_in c) (with_attr n v ats) ≡ map (name_in c) ats
  names_kept [] a h = cc
  names_kept (x ∷ ats) a h = by (attributes.has_qname n x) refl (names_kept ats a)
    where
      by : (b : Bool) → attributes.has_qname n x ≡ b → (find (attributes.has_qname n) ats ≡ Some a → map (name_in c) (with_attr n v ats) ≡ map (name_in c) ats) → map (name_in c) (with_attr n v (x ∷ ats)) ≡ map (name_in c) (x ∷ ats)
      by true e rest = rw e refl
      by false e rest = rw e (ap (λ (l : List ExpandedName). name_in c x ∷ l) (rest (rw e at h)))

  -- ---- a new attribute

  module _ (uri local : List ℕ) (is : IsTrue (is_attr_named c uri local (attr_of n v))) where
    unnamed : (x : Attr) → is_attr_named c uri local x ≡ false → attributes.has_qname n x ≡ false
    unnamed x other = is_false (attributes.has_qname n x) (λ h.
        let same : x.name ≡ n = alike_named x.name n h in
        let z : true ≡ false = sym (subst (λ (m : Name). IsTrue (has_expanded_name uri local (attr_name c m))) (sym same) is) ∙ other in cc)

    apart : (x : Attr) → is_attr_named c uri local x ≡ false → same_expanded (name_in c x) (attr_name c n) ≡ false
    apart x other = is_false (same_expanded (name_in c x) (attr_name c n)) (λ h.
        let z : true ≡ false = sym (named_too uri local (name_in c x) (attr_name c n) h is) ∙ other in cc)

    all_others : (ats : List Attr) → find (is_attr_named c uri local) ats ≡ None → AllByRecursion (λ x. is_attr_named c uri local x ≡ false) ats
    all_others [] h = tt
    all_others (x ∷ ats) h = by (is_attr_named c uri local x) refl (all_others ats)
      where
        by : (b : Bool) → is_attr_named c uri local x ≡ b → (find (is_attr_named c uri local) ats ≡ None → AllByRecursion (λ y. is_attr_named c uri local y ≡ false) ats) → AllByRecursion (λ y. is_attr_named c uri local y ≡ false) (x ∷ ats)
        by true e rest = let z : Some x ≡ None = rw e at h in cc
        by false e rest = (e, rest (rw e at h))

    names_more : (ats : List Attr) → AllByRecursion (λ x. is_attr_named c uri local x ≡ false) ats → map (name_in c) (with_attr n v ats) ≡ map (name_in c) ats ++ attr_name c n ∷ []
    names_more [] h = refl
    names_more (x ∷ ats) h = rw (unnamed x h.0) (ap (λ (l : List ExpandedName). name_in c x ∷ l) (names_more ats h.1))

    names_apart : (ats : List Attr) → AllByRecursion (λ x. is_attr_named c uri local x ≡ false) ats → AllByRecursion (λ x. same_expanded x (attr_name c n) ≡ false) (map (name_in c) ats)
    names_apart [] h = tt
    names_apart (x ∷ ats) h = (apart x h.0, names_apart ats h.1)

    distinct_new : (ats : List Attr) → find (is_attr_named c uri local) ats ≡ None → IsDistinct same_expanded (map (name_in c) ats) → IsDistinct same_expanded (map (name_in c) (with_attr n v ats))
    distinct_new ats none d =
        let others = all_others ats none in
        subst (IsDistinct same_expanded) (sym (names_more ats others)) (distinct_snoc (map (name_in c) ats) (attr_name c n) d (names_apart ats others))

-- the attribute found among allowed attributes
among_good : (c : List (List Decl)) (test : Attr → Bool) (ats : List Attr) (a : Attr) → AllByRecursion (IsProperAttr c) ats → find test ats ≡ Some a → IsProperAttr c a
among_good c test [] a all h = cc
among_good c test (x ∷ ats) a all h = by (test x) refl (among_good c test ats a all.1)
  where
    by : (b : Bool) → test x ≡ b → (find test ats ≡ Some a → IsProperAttr c a) → IsProperAttr c a
    by true e rest = subst (IsProperAttr c) (same_Some x a (rw e at h)) all.0
    by false e rest = rest (rw e at h)

-- the attribute that one test finds is found by its own name
found_by_name : (test : Attr → Bool) (ats : List Attr) (a : Attr) → find test ats ≡ Some a → IsSome (find (attributes.has_qname a.name) ats)
found_by_name test [] a h = cc
found_by_name test (x ∷ ats) a h = by (test x) refl (attributes.has_qname a.name x) refl (found_by_name test ats a)
  where
    by : (b : Bool) → test x ≡ b → (d : Bool) → attributes.has_qname a.name x ≡ d → (find test ats ≡ Some a → IsSome (find (attributes.has_qname a.name) ats)) → IsSome (find (attributes.has_qname a.name) (x ∷ ats))
    by b e true f rest = rw f refl
    by true e false f rest =
        let same : x ≡ a = same_Some x a (rw e at h) in
        let z : true ≡ false = sym (subst (λ (m : Name). IsTrue (same_name x.name m)) (ap (λ (y : Attr). y.name) same) (named_alike x.name)) ∙ f in cc
    by false e false f rest = rw f (rest (rw e at h))

some_attr_is : (o : Option Attr) → IsSome o → (a : Attr) × (o ≡ Some a)
some_attr_is None h = cc
some_attr_is (Some a) h = (a, refl)

-- ---- PUT of an attribute

-- the name of a new attribute has the requested local name, and a prefix only in a namespace
new_is : (c : List (List Decl)) (uri local : List ℕ) (n : Name) → new_name c uri local ≡ Some n → (n.local ≡ local) × (uri ≡ [] → n.prefix ≡ [])
new_is c uri local n h = by (new_prefix c uri) refl
  where
    by : (o : Option (List ℕ)) → new_prefix c uri ≡ o → (n.local ≡ local) × (uri ≡ [] → n.prefix ≡ [])
    by None e = let z : None ≡ Some n = sym (ap (λ (x : Option (List ℕ)). option_map (λ prefix. let m : Name = record { prefix = prefix; local = local } in m) x) e) ∙ h in cc
    by (Some prefix) e =
        let made : Name = record { prefix = prefix; local = local } in
        let same : made ≡ n = same_Some made n (sym (ap (λ (x : Option (List ℕ)). option_map (λ p. let m : Name = record { prefix = p; local = local } in m) x) e) ∙ h) in (
          sym (ap (λ (m : Name). m.local) same),
          λ none.
              (let empty : new_prefix c uri ≡ Some [] = rw ((bytes_decides uri []).1 none) refl in
              sym (ap (λ (m : Name). m.prefix) same) ∙ same_Some prefix [] (sym e ∙ empty)),
        )

-- a new attribute is allowed
new_stands : (c : List (List Decl)) (uri local : List ℕ) (n : Name) (v : List ℕ) → AllDeclared (scope_decls c) → IsWritable uri local → IsTrue (has_only_chars v)
    → new_name c uri local ≡ Some n → IsTrue (is_attr_named c uri local (attr_of n v)) → IsProperAttr c (attr_of n v)
new_stands c uri local n v all may chars is meant =
    let parts = new_is c uri local n is in
    let in_uri : uri_or_empty (attr_name c n) ≡ uri = (bytes_decides (uri_or_empty (attr_name c n)) uri).0 (second_holds (bytes_eq n.local local) (bytes_eq (uri_or_empty (attr_name c n)) uri) meant) in
    by (bytes_eq n.prefix []) refl (bound_uri c n.prefix) refl parts in_uri
  where
    by : (b : Bool) → bytes_eq n.prefix [] ≡ b → (o : Option (List ℕ)) → bound_uri c n.prefix ≡ o → (n.local ≡ local) × (uri ≡ [] → n.prefix ≡ []) → uri_or_empty (attr_name c n) ≡ uri → IsProperAttr c (attr_of n v)
    by true e o f parts in_uri =
        let none : n.prefix ≡ [] = (bytes_decides n.prefix []).0 e in
        let fails : uri ≡ [] = sym in_uri ∙ rw e refl in
        record {
          named = record { prefix = rw e refl; local = subst (λ (x : List ℕ). IsTrue (is_name x)) (sym parts.0) may.is_ncname; known = λ some. absurd (some none) };
          other = λ _ same. may.is_attribute fails (sym parts.0 ∙ same);
          value = chars;
        }
    by false e (Some w) f parts in_uri = record {
      named = record {
        prefix = bound_prefix c n.prefix w all f;
        local = subst (λ (x : List ℕ). IsTrue (is_name x)) (sym parts.0) may.is_ncname;
        known = λ _. subst (λ (x : Option (List ℕ)). IsSome x) (sym f) refl;
      };
      other = λ none. (let z : true ≡ false = sym ((bytes_decides n.prefix []).1 none) ∙ e in cc);
      value = chars;
    }
    by false e None f parts in_uri =
        let fails : uri ≡ [] = sym in_uri ∙ rw e (rw f refl) in
        let z : true ≡ false = sym ((bytes_decides n.prefix []).1 (parts.1 fails)) ∙ e in cc

-- the tag with the written attribute
tag_written : (c : List (List Decl)) (uri local : List ℕ) (n : Name) (v : List ℕ) (e : Tree) → AllDeclared (scope_decls c) → IsWritable uri local → IsTrue (has_only_chars v) → IsProperTag c e.name e.decls e.attrs
    → written_name c uri local e.attrs ≡ Some n → (find (is_attr_named c uri local) e.attrs ≡ None → IsTrue (is_attr_named c uri local (attr_of n v))) → IsProperTag c e.name e.decls (with_attr n v e.attrs)
tag_written c uri local n v e all may chars tag is meant = by (find (is_attr_named c uri local) e.attrs) refl
  where
    by : (o : Option Attr) → find (is_attr_named c uri local) e.attrs ≡ o → IsProperTag c e.name e.decls (with_attr n v e.attrs)
    by (Some a) f =
        let named : a.name ≡ n = same_Some a.name n (sym (ap (λ (o : Option Attr). option_map_or (λ (a : Attr). Some a.name) o (new_name c uri local)) f) ∙ is) in
        let good = among_good c (is_attr_named c uri local) e.attrs a tag.attributes f in
        let new : IsProperAttr c (attr_of n v) = subst (λ (m : Name). IsProperAttr c (attr_of m v)) named (record { named = good.named; other = good.other; value = chars }) in
        let there = some_attr_is _ (subst (λ (m : Name). IsSome (find (attributes.has_qname m) e.attrs)) named (found_by_name (is_attr_named c uri local) e.attrs a f)) in
        record {
          named = tag.named;
          declarations = tag.declarations;
          attributes = attrs_with c n v e.attrs tag.attributes new;
          prefixes = tag.prefixes;
          names = subst (IsDistinct same_expanded) (sym (names_kept c n v e.attrs there.0 there.1)) tag.names;
        }
    by None f =
        let is_new : new_name c uri local ≡ Some n = sym (ap (λ (o : Option Attr). option_map_or (λ (a : Attr). Some a.name) o (new_name c uri local)) f) ∙ is in
        let so = meant f in
        record {
          named = tag.named;
          declarations = tag.declarations;
          attributes = attrs_with c n v e.attrs tag.attributes (new_stands c uri local n v all may chars is_new so);
          prefixes = tag.prefixes;
          names = distinct_new c n v uri local so e.attrs f tag.names;
        }

-- of attributes among which none passed, the one that passes once one is written is that one
last_passes : (c : List (List Decl)) (uri local : List ℕ) (n : Name) (v : List ℕ) (ats : List Attr) (a : Attr) → find (is_attr_named c uri local) ats ≡ None → find (is_attr_named c uri local) (with_attr n v ats) ≡ Some a → IsTrue (is_attr_named c uri local (attr_of n v))
last_passes c uri local n v [] a none h = by (is_attr_named c uri local (attr_of n v)) refl
  where
    by : (b : Bool) → is_attr_named c uri local (attr_of n v) ≡ b → IsTrue (is_attr_named c uri local (attr_of n v))
    by true e = e
    by false e = let z : None ≡ Some a = rw e at h in cc
last_passes c uri local n v (x ∷ ats) a none h = by (is_attr_named c uri local x) refl (attributes.has_qname n x) refl (last_passes c uri local n v ats a)
  where
    by : (b : Bool) → is_attr_named c uri local x ≡ b → (d : Bool) → attributes.has_qname n x ≡ d
        → (find (is_attr_named c uri local) ats ≡ None → find (is_attr_named c uri local) (with_attr n v ats) ≡ Some a → IsTrue (is_attr_named c uri local (attr_of n v))) → IsTrue (is_attr_named c uri local (attr_of n v))
    by true e d f rest = let z : Some x ≡ None = rw e at none in cc
    by false e true f rest =
        let none' : find (is_attr_named c uri local) ats ≡ None = rw e at none in
        let h' : find (is_attr_named c uri local) (with_new_value v x ∷ ats) ≡ Some a = rw f at h in
        let h'' : find (is_attr_named c uri local) ats ≡ Some a = rw e at h' in
        let z : None ≡ Some a = sym none' ∙ h'' in cc
    by false e false f rest =
        let h' : find (is_attr_named c uri local) (x ∷ with_attr n v ats) ≡ Some a = rw f at h in
        rest (rw e at none) (rw e at h')

mapped_from : {A B : Type 0} (f : A → B) (o : Option A) (y : B) → option_map f o ≡ Some y → (x : A) × (o ≡ Some x)
mapped_from f None y h = cc
mapped_from f (Some x) y h = (x, refl)

-- an element with other attributes has as many levels
retagged_low : (p : List ℕ) (f : Tree → Tree) (e t : Tree) → at p t ≡ Some e → height (f e) ≡ height e → height t ≤ 64 → height (change_at p f t) ≤ 64
retagged_low p f e t there same low = let h = height-bounded p (height e) f e t there (omega (arith, same)) in let k = height-at p e t there in omega (arith, h, k, low)

-- an element whose tag is replaced by another one that is allowed there
retagged_proper : (p : List ℕ) (f : Tree → Tree) (ats : List Attr) (e t : Tree) → at p t ≡ Some e → f e ≡ tree_of e.name e.decls ats e.content → IsProperTree [] t
    → (IsProperTag (scope_at p t) e.name e.decls e.attrs → IsProperTag (scope_at p t) e.name e.decls ats) → IsProperTree [] (change_at p f t)
retagged_proper p f ats e t there is proper keeps = Throughout-change_at IsProperPart p f [] t (λ x there_x h. by x (same_Some e x (sym there ∙ there_x)) h) proper
  where
    scope : scope_at p t ≡ scope_around p t ++ e.decls ∷ []
    scope = scope_at-around p t e there

    at_e : IsProperTree (scope_around p t) e → IsProperTree (scope_around p t) (f e)
    at_e h = subst (λ (y : Tree). IsProperTree (scope_around p t) y) (sym is)
        (subst (λ (c : List (List Decl)). IsProperTag c e.name e.decls ats) scope (keeps (subst (λ (c : List (List Decl)). IsProperTag c e.name e.decls e.attrs) (sym scope) h.0)), h.1)

    by : (x : Tree) → e ≡ x → IsProperTree (scope_around p t) x → IsProperTree (scope_around p t) (f x)
    by x same h = subst (λ (y : Tree). IsProperTree (scope_around p t) y → IsProperTree (scope_around p t) (f y)) same at_e h

pub written_leaves : (u : Usage) (t : Tree) (steps : List Step) (uri local p value : List ℕ) (plan : Change) → Written u t steps uri local p value plan
    → IsProperTree [] t → height t ≤ 64 → IsWritable uri local → IsTrue (has_only_chars value) → LeavesProperTree t plan
written_leaves u t steps uri local p value plan h proper low may chars =
    let n = h.name in
    let e = h.element in
    let c = scope_at p t in
    let new = edited t (SetAttr p n value) in
    let made = set_attr_value n value e in
    let there_new : at p new ≡ Some made = at-changed p (set_attr_value n value) t ∙ ap (option_map (set_attr_value n value)) h.there in
    let same_element : h.finds.element ≡ made = same_Some _ _ (sym h.finds.there ∙ there_new) in
    let scope : scope_at p new ≡ c = scope_kept p (set_attr_value n value) (λ x. refl) t in
    let has = subst (λ (x : Tree). option_map (λ (a : Attr). a.value) (find (is_attr_named (scope_at p new) uri local) x.attrs) ≡ Some value) same_element h.finds.has in
    let b = mapped_from (λ (a : Attr). a.value) (find (is_attr_named (scope_at p new) uri local) made.attrs) value has in
    let b_there = subst (λ d. find (is_attr_named d uri local) made.attrs ≡ Some b.0) scope b.1 in
    let leaves : LeavesProperTree t (SetAttr p n value) = record {
      fits = subst (λ (o : Option Tree). IsSome o) (sym h.there) refl;
      proper = retagged_proper p (set_attr_value n value) (with_attr n value e.attrs) e t h.there refl proper (λ tag.
          tag_written c uri local n value e (scope_declared p [] t e h.there proper) may chars tag h.is_name (λ none. last_passes c uri local n value e.attrs b.0 none b_there));
      low = retagged_low p (set_attr_value n value) e t h.there refl low;
    } in
    subst (λ (x : Change). LeavesProperTree t x) (sym h.is) leaves

-- ---- DELETE

front_there : (n : ℕ) (p : List ℕ) (t e : Tree) → at (n ∷ p) t ≡ Some e → (k : Tree) × (at (parent_path (n ∷ p)) t ≡ Some k)
front_there n [] t e there = (t, refl)
front_there n (m ∷ p) t e there =
    let k = through_kid n (m ∷ p) t e there in
    let below = front_there m p k.0 e k.1.1 in
    (below.0, ap (option_and_then (at (parent_path (m ∷ p)))) k.1.0 ∙ below.1)

removal_leaves : (n : ℕ) (p : List ℕ) (t e : Tree) → at (n ∷ p) t ≡ Some e → IsProperTree [] t → height t ≤ 64 → LeavesProperTree t (Remove (n ∷ p))
removal_leaves n p t e there proper low =
    let k = front_there n p t e there in
    record {
      fits = (omega arith, subst (λ (o : Option Tree). IsSome o) (sym there) refl);
      proper = without IsProperPart [] (n ∷ p) t proper;
      low = let h = height-take_in (parent_path (n ∷ p)) (last_number (n ∷ p)) k.0 t k.1 in omega (arith, h, low);
    }

attrs_without : (c : List (List Decl)) (test : Attr → Bool) (ats : List Attr) → AllByRecursion (IsProperAttr c) ats → AllByRecursion (IsProperAttr c) (remove_first test ats)
attrs_without c test [] all = tt
attrs_without c test (x ∷ ats) all = by (test x) refl (attrs_without c test ats all.1)
  where
    by : (b : Bool) → test x ≡ b → AllByRecursion (IsProperAttr c) (remove_first test ats) → AllByRecursion (IsProperAttr c) (remove_first test (x ∷ ats))
    by true e rest = rw e all.1
    by false e rest = rw e (all.0, rest)

others_without : (c : List (List Decl)) (P : ExpandedName → Type 0) (test : Attr → Bool) (ats : List Attr) → AllByRecursion P (map (name_in c) ats) → AllByRecursion P (map (name_in c) (remove_first test ats))
others_without c P test [] all = tt
others_without c P test (x ∷ ats) all = by (test x) refl (others_without c P test ats all.1)
  where
    by : (b : Bool) → test x ≡ b → AllByRecursion P (map (name_in c) (remove_first test ats)) → AllByRecursion P (map (name_in c) (remove_first test (x ∷ ats)))
    by true e rest = rw e all.1
    by false e rest = rw e (all.0, rest)

distinct_without : (c : List (List Decl)) (test : Attr → Bool) (ats : List Attr) → IsDistinct same_expanded (map (name_in c) ats) → IsDistinct same_expanded (map (name_in c) (remove_first test ats))
unfolding IsDistinct
distinct_without c test [] d = tt
distinct_without c test (x ∷ ats) d = by (test x) refl (distinct_without c test ats d.1)
  where
    by : (b : Bool) → test x ≡ b → IsDistinct same_expanded (map (name_in c) (remove_first test ats)) → IsDistinct same_expanded (map (name_in c) (remove_first test (x ∷ ats)))
    by true e rest = rw e d.1
    by false e rest = rw e (others_without c (λ y. same_expanded (name_in c x) y ≡ false) test ats d.0, rest)

drop_leaves : (t e : Tree) (p : List ℕ) (uri local : List ℕ) (a : Attr) → at p t ≡ Some e → find (is_attr_named (scope_at p t) uri local) e.attrs ≡ Some a → IsProperTree [] t → height t ≤ 64 → LeavesProperTree t (DropAttr p a.name)
drop_leaves t e p uri local a there that proper low =
    let c = scope_at p t in
    let test = attributes.has_qname a.name in
    record {
      fits = subst (λ (o : Option Tree). IsSome (option_and_then (λ x. find test x.attrs) o)) (sym there) (found_by_name (is_attr_named c uri local) e.attrs a that);
      proper = retagged_proper p (drop_attr a.name) (without_attr a.name e.attrs) e t there refl proper (λ tag. record {
        named = tag.named;
        declarations = tag.declarations;
        attributes = attrs_without c test e.attrs tag.attributes;
        prefixes = tag.prefixes;
        names = distinct_without c test e.attrs tag.names;
      });
      low = retagged_low p (drop_attr a.name) e t there refl low;
    }

removed_leaves : (u : Usage) (t : Tree) (selector : Selector) (p : List ℕ) (e : Tree) (plan : Change) → at p t ≡ Some e → IsElementRemoval (record { usage = u; document = t; selector = selector }) p (Ok plan) → IsProperTree [] t → height t ≤ 64 → LeavesProperTree t plan
removed_leaves u t selector [] e plan there h proper low = cc
removed_leaves u t selector (n ∷ p) e plan there h proper low =
    let m = tested_ok CannotDelete (FindsNothingAfter selector t (Remove (n ∷ p))) u t (Remove (n ∷ p)) plan h in
    subst (λ (x : Change). LeavesProperTree t x) (sym m.is) (removal_leaves n p t e there proper low)

plan_for_leaves : (u : Usage) (t : Tree) (selector : Selector) (p : List ℕ) (e : Tree) (end : End) (plan : Change) → at p t ≡ Some e → IsDeletePlanFor (record { usage = u; document = t; selector = selector }) p e end (Ok plan) → IsProperTree [] t → height t ≤ 64 → LeavesProperTree t plan
plan_for_leaves u t selector p e ends.Element plan there h proper low = removed_leaves u t selector p e plan there h proper low
plan_for_leaves u t selector p e (ends.Attribute uri local) plan there h proper low =
    let change = DropAttr p h.attr.name in
    let m = tested_ok CannotDelete (FindsNothingAfter selector t change) u t change plan h.then in
    subst (λ (x : Change). LeavesProperTree t x) (sym m.is) (drop_leaves t e p uri local h.attr there h.that proper low)
plan_for_leaves u t selector p e ends.Namespaces plan there h proper low = absurd h

pub delete_leaves : (u : Usage) (t : Tree) (selector : Selector) (plan : Change) → IsDeletePlan u t selector (Ok plan) → IsProperTree [] t → height t ≤ 64 → LeavesProperTree t plan
delete_leaves u t selector plan (inl h) proper low = let z = h.0 in cc
delete_leaves u t selector plan (inr h) proper low = plan_for_leaves u t selector h.0.path h.0.element selector.end plan h.0.there h.1 proper low

-- A change inside an element of a document with unique keys makes no clash except among that
-- element's children and below them.
use Rattle.std.proofs.Common.{◌≡◌, ◌≢◌, ◌⊎◌, inl, inr, ℕ, List, [], ◌∷◌, ◌++◌, map, Option, Some, None, option_map, option_and_then, slice_get, refl, sym, ap, ◌∙◌, subst, append-nil, arith, ◌<◌}
use Rattle.std.specs.Option.{option_flatten}
use Rattle.std.proofs.lemmas.Option.{same_Some, slice_get-map}
use Rattle.std.proofs.lemmas.Bool.{cases_order}
use Rattle.xml_tree.specs.Tree.{Content, Tree, tree_of, child_elements, child_elements_of, at}
use Rattle.xml_tree.specs.Edits.{change_element, change_at}
use Rattle.xml_tree.specs.TreeScopes.{scope_at, scope_below, inside}
use Rattle.xml_tree.proofs.PlaceLaws.{at-changed, other_kid}
use Rattle.xml_tree.proofs.TreeScopeLemmas.{scope_at-below}
use Rattle.doc_names.specs.declared.usages.Usage.{Usage}
use Rattle.usage_docs.specs.declared.schema_table.ElementKind.{ElementKind}
use Rattle.usage_docs.specs.declared.schema_table.Key.{Key}
use Rattle.usage_docs.specs.SchemaTable.{Scope, root_kind}
use Rattle.usage_docs.specs.UniqueKeys.{sibling_key_of, sibling_key_at, RepeatsKeyAt, ClashesAt, HasUniqueKeys}
use Rattle.edit_rules.specs.LawfulInsertions.{KeepsStartTag}
use Rattle.usage_docs.specs.ElementKinds.{kind_of_child, kind_below, kind_at}
use Rattle.edit_rules.proofs.Options.{came_from, through_kid, scope_through}
use Rattle.edit_rules.proofs.StaysSelected.{keeps_at, kid_changed, answers_stay, scope_stays}
use Rattle.edit_rules.proofs.ValidBeside.{kind_through}

-- ---- marks

pub mark_of_tag : (row : ElementKind) (c : Scope) (e : Tree) (x : Content) → sibling_key_of row c (tree_of e.name e.decls e.attrs x) ≡ sibling_key_of row c e
unfolding sibling_key_of
mark_of_tag row c e x = refl

mark_stays : (row : ElementKind) (c : Scope) (g : Tree → Tree) → KeepsStartTag g → (e : Tree) → sibling_key_of row c (g e) ≡ sibling_key_of row c e
mark_stays row c g k e = ap (sibling_key_of row c) (k e) ∙ mark_of_tag row c e (g e).content

flat : {A B : Type 0} (f : A → Option B) (o : Option A) → option_and_then f o ≡ option_flatten (option_map f o)
flat f None = refl
flat f (Some x) = refl

mark_by_map : (row : ElementKind) (c : Scope) (xs : List Tree) (i : ℕ) → sibling_key_at row c xs i ≡ option_flatten (slice_get (map (sibling_key_of row c) xs) i)
mark_by_map row c xs i = flat (sibling_key_of row c) (slice_get xs i) ∙ ap option_flatten (sym (slice_get-map (sibling_key_of row c) xs i))

mark_at_stays : (row : ElementKind) (c : Scope) (g : Tree → Tree) → KeepsStartTag g → (n : ℕ) (content : Content) (i : ℕ) → sibling_key_at row c (child_elements (change_element n g content)) i ≡ sibling_key_at row c (child_elements content) i
mark_at_stays row c g k n content i =
    mark_by_map row c (child_elements (change_element n g content)) i
    ∙ ap (λ ms. option_flatten (slice_get ms i)) (answers_stay (sibling_key_of row c) g (mark_stays row c g k) n content)
    ∙ sym (mark_by_map row c (child_elements content) i)

-- ---- the kinds of the ancestors stay

kind_of_tag : (row : ElementKind) (c : Scope) (g : Tree → Tree) → KeepsStartTag g → (e : Tree) → kind_of_child row c (g e) ≡ kind_of_child row c e
kind_of_tag row c g k e = ap (kind_of_child row c) (k e)

kind_stays_kid : (row : ElementKind) (c : Scope) (q : List ℕ) (f : Tree → Tree) → KeepsStartTag f → (o : Option Tree) → ((kind : ElementKind) (d : Scope) (e : Tree) → kind_below kind d (change_at q f e) q ≡ kind_below kind d e q)
    → option_and_then (λ child_element. option_and_then (λ kind. kind_below kind (inside c child_element) child_element q) (kind_of_child row c child_element)) (option_map (change_at q f) o)
    ≡ option_and_then (λ child_element. option_and_then (λ kind. kind_below kind (inside c child_element) child_element q) (kind_of_child row c child_element)) o
kind_stays_kid row c q f k None h = refl
kind_stays_kid row c q f k (Some e) h =
    let g = change_at q f in
    let keeps = keeps_at q f k in
    ap (option_and_then (λ kind. kind_below kind (inside c (g e)) (g e) q)) (kind_of_tag row c g keeps e) ∙ by (kind_of_child row c e)
  where
    by : (o : Option ElementKind) → option_and_then (λ kind. kind_below kind (inside c (change_at q f e)) (change_at q f e) q) o ≡ option_and_then (λ kind. kind_below kind (inside c e) e q) o
    by None = refl
    by (Some kind) = ap (λ (d : Scope). kind_below kind d (change_at q f e) q) (ap (inside c) (keeps_at q f k e)) ∙ h kind (inside c e) e

pub kind_stays : (q : List ℕ) (f : Tree → Tree) → KeepsStartTag f → (row : ElementKind) (c : Scope) (e : Tree) → kind_below row c (change_at q f e) q ≡ kind_below row c e q
kind_stays [] f k row c e = refl
kind_stays (n ∷ q) f k row c e =
    ap (option_and_then (λ child_element. option_and_then (λ kind. kind_below kind (inside c child_element) child_element q) (kind_of_child row c child_element))) (kid_changed n (change_at q f) e.content)
    ∙ kind_stays_kid row c q f k (slice_get (child_elements_of e) n) (kind_stays q f k)

-- ---- clashes below an element are clashes of the whole document

-- one level up
pub up_one : (row kind : ElementKind) (c : Scope) (xs : List Tree) (n : ℕ) (child_element : Tree) (key : Key) → slice_get xs n ≡ Some child_element → kind_of_child row c child_element ≡ Some kind → (p : List ℕ) → RepeatsKeyAt kind (inside c child_element) (child_elements_of child_element) p key → RepeatsKeyAt row c xs (n ∷ p) key
up_one row kind c xs n child_element key there is [] h = absurd h
up_one row kind c xs n child_element key there is (m ∷ p) h = (child_element, (kind, (there, is, h)))

pub clash_up : (q : List ℕ) (row : ElementKind) (c : Scope) (e parent : Tree) (kind : ElementKind) (r : List ℕ) (key : Key) → at q e ≡ Some parent → kind_below row c e q ≡ Some kind
    → RepeatsKeyAt kind (c ++ scope_below q e) (child_elements_of parent) r key → RepeatsKeyAt row c (child_elements_of e) (q ++ r) key
clash_up [] row c e parent kind r key there is h =
    subst (λ (x : Tree). RepeatsKeyAt row c (child_elements_of x) r key) (sym (same_Some e parent there))
    (subst (λ (d : Scope). RepeatsKeyAt row d (child_elements_of parent) r key) (append-nil c)
    (subst (λ (k : ElementKind). RepeatsKeyAt k (c ++ []) (child_elements_of parent) r key) (sym (same_Some row kind is)) h))
clash_up (n ∷ q) row c e parent kind r key there is h =
    let k = through_kid n q e parent there in
    let child_element = k.0 in
    let s = came_from (λ kd. kind_below kd (inside c child_element) child_element q) (kind_of_child row c child_element) kind (sym (kind_through row c n q e child_element k.1.0) ∙ is) in
    up_one row s.0 c (child_elements_of e) n child_element key k.1.0 s.1.0 (q ++ r)
    (clash_up q s.0 (inside c child_element) child_element parent kind r key k.1.1 s.1.1 (subst (λ (d : Scope). RepeatsKeyAt kind d (child_elements_of parent) r key) (scope_through c n q e child_element k.1.0) h))

-- ---- a clash after the change is one before, or one below the changed element

-- a clash among the children of the element at q, or below them, in this tree
pub record ClashesThere (row : ElementKind) (c : Scope) (e parent : Tree) (q p : List ℕ) (key : Key) : Type 0 where
  pub kind : ElementKind
  pub of_kind : kind_below row c e q ≡ Some kind
  pub rest : List ℕ
  pub goes_on : p ≡ q ++ rest
  pub clash : RepeatsKeyAt kind (c ++ scope_below q e) (child_elements_of parent) rest key

there_below : (row kind : ElementKind) (c : Scope) (n : ℕ) (q p : List ℕ) (key : Key) (e child_element parent : Tree) → slice_get (child_elements_of e) n ≡ Some child_element → kind_of_child row c child_element ≡ Some kind
    → ClashesThere kind (inside c child_element) child_element parent q p key → ClashesThere row c e parent (n ∷ q) (n ∷ p) key
there_below row kind c n q p key e child_element parent there is h = record {
  kind = h.kind;
  of_kind = kind_through row c n q e child_element there ∙ ap (option_and_then (λ kd. kind_below kd (inside c child_element) child_element q)) is ∙ h.of_kind;
  rest = h.rest;
  goes_on = ap (λ (l : List ℕ). n ∷ l) h.goes_on;
  clash = subst (λ (d : Scope). RepeatsKeyAt h.kind d (child_elements_of parent) h.rest key) (sym (scope_through c n q e child_element there)) h.clash;
}

-- such a clash below a child of this scope
abbrev Below : List ℕ → (Tree → Tree) → Scope → Tree → List ℕ → Key → Type 0
Below q f c parent p key = (kd : ElementKind) (child_element : Tree) → at q child_element ≡ Some parent → RepeatsKeyAt kd (inside c child_element) (child_elements_of (change_at q f child_element)) p key
    → RepeatsKeyAt kd (inside c child_element) (child_elements_of child_element) p key ⊎ ClashesThere kd (inside c child_element) child_element (f parent) q p key

pub clash_down : (q : List ℕ) (f : Tree → Tree) → KeepsStartTag f → (row : ElementKind) (c : Scope) (e parent : Tree) (p : List ℕ) (key : Key) → at q e ≡ Some parent
    → RepeatsKeyAt row c (child_elements_of (change_at q f e)) p key → RepeatsKeyAt row c (child_elements_of e) p key ⊎ ClashesThere row c e (f parent) q p key
clash_down [] f k row c e parent p key there h = inr (record {
  kind = row;
  of_kind = refl;
  rest = p;
  goes_on = refl;
  clash = subst (λ (d : Scope). RepeatsKeyAt row d (child_elements_of (f parent)) p key) (sym (append-nil c)) (subst (λ (x : Tree). RepeatsKeyAt row c (child_elements_of (f x)) p key) (same_Some e parent there) h);
})
clash_down (n ∷ q) f k row c e parent [] key there h = absurd h
clash_down (n ∷ q) f k row c e parent (i ∷ []) key there h =
    let g = change_at q f in
    let same = mark_at_stays row c g (keeps_at q f k) n e.content in
    inl (record {
      shared = h.shared;
      earlier = h.earlier;
      comes_first = h.comes_first;
      that = sym (same h.earlier) ∙ h.that;
      this = sym (same i) ∙ h.this;
      by_key = h.by_key;
    })
clash_down (n ∷ q) f k row c e parent (i ∷ m ∷ p) key there h = by (λ kd child_element. clash_down q f k kd (inside c child_element) child_element parent (m ∷ p) key) (cases_order i n)
  where
    other : i ≢ n → RepeatsKeyAt row c (child_elements_of e) (i ∷ m ∷ p) key
    other ne = (h.0, (h.1.0, (sym (other_kid n i (change_at q f) e.content (λ s. ne (sym s))) ∙ h.1.1.0, h.1.1.1, h.1.1.2)))

    this : Below q f c parent (m ∷ p) key → i ≡ n → RepeatsKeyAt row c (child_elements_of e) (i ∷ m ∷ p) key ⊎ ClashesThere row c e (f parent) (n ∷ q) (i ∷ m ∷ p) key
    this ih is =
        let g = change_at q f in
        let keeps = keeps_at q f k in
        let w = through_kid n q e parent there in
        let child_element = w.0 in
        let now : slice_get (child_elements (change_element n g e.content)) n ≡ Some (g child_element) = kid_changed n g e.content ∙ ap (option_map g) w.1.0 in
        let same : h.0 ≡ g child_element = same_Some _ _ (sym h.1.1.0 ∙ ap (slice_get (child_elements (change_element n g e.content))) is ∙ now) in
        let of_kind : kind_of_child row c child_element ≡ Some h.1.0 = sym (kind_of_tag row c g keeps child_element) ∙ ap (kind_of_child row c) (sym same) ∙ h.1.1.1 in
        let below : RepeatsKeyAt h.1.0 (inside c child_element) (child_elements_of (g child_element)) (m ∷ p) key =
        subst (λ (d : Scope). RepeatsKeyAt h.1.0 d (child_elements_of (g child_element)) (m ∷ p) key) (ap (inside c) (keeps child_element)) (subst (λ (x : Tree). RepeatsKeyAt h.1.0 (inside c x) (child_elements_of x) (m ∷ p) key) same h.1.1.2) in
        elim (ih h.1.0 child_element w.1.1 below) [
          | inl old ↦ inl (child_element, (h.1.0, (ap (slice_get (child_elements_of e)) is ∙ w.1.0, of_kind, old)))
          | inr new ↦ inr (subst (λ (z : ℕ). ClashesThere row c e (f parent) (n ∷ q) (z ∷ m ∷ p) key) (sym is) (there_below row h.1.0 c n q (m ∷ p) key e child_element (f parent) w.1.0 of_kind new))
        ]

    by : Below q f c parent (m ∷ p) key → (i ≡ n) ⊎ ((i < n) ⊎ (n < i)) → RepeatsKeyAt row c (child_elements_of e) (i ∷ m ∷ p) key ⊎ ClashesThere row c e (f parent) (n ∷ q) (i ∷ m ∷ p) key
    by ih (inl is) = this ih is
    by ih (inr (inl lt)) = inl (other (λ s. absurd (omega arith)))
    by ih (inr (inr lt)) = inl (other (λ s. absurd (omega arith)))

-- ---- of a document

-- a clash of the changed document is among the children of the changed element, or below them
pub clash_beside : (u : Usage) (t parent : Tree) (q : List ℕ) (f : Tree → Tree) (p : List ℕ) (key : Key) → KeepsStartTag f → at q t ≡ Some parent → HasUniqueKeys u t → ClashesAt u (change_at q f t) p key
    → (kind : ElementKind) × ((kind_at u t q ≡ Some kind) × ((r : List ℕ) × ((p ≡ q ++ r) × RepeatsKeyAt kind (scope_at q t) (child_elements_of (f parent)) r key)))
clash_beside u t parent q f p key k there unique h =
    let same : (change_at q f t).decls ≡ t.decls = ap (λ (x : Tree). x.decls) (keeps_at q f k t) in
    let clash = subst (λ ds. RepeatsKeyAt (root_kind u) (ds ∷ []) (child_elements_of (change_at q f t)) p key) same h in
    elim (clash_down q f k (root_kind u) (t.decls ∷ []) t parent p key there clash) [
      | inl old ↦ absurd (unique p key old)
      | inr n ↦ (n.kind, (n.of_kind, (n.rest, (n.goes_on, subst (λ (d : Scope). RepeatsKeyAt n.kind d (child_elements_of (f parent)) n.rest key) (sym (scope_at-below q t)) n.clash))))
    ]

-- and such clashes are clashes of the document
pub beside_clash : (u : Usage) (t parent : Tree) (q : List ℕ) (f : Tree → Tree) (kind : ElementKind) (r : List ℕ) (key : Key) → KeepsStartTag f → at q t ≡ Some parent → kind_at u t q ≡ Some kind
    → RepeatsKeyAt kind (scope_at q t) (child_elements_of (f parent)) r key → ClashesAt u (change_at q f t) (q ++ r) key
beside_clash u t parent q f kind r key k there is h =
    let new = change_at q f t in
    let same : new.decls ≡ t.decls = ap (λ (x : Tree). x.decls) (keeps_at q f k t) in
    let at_new : at q new ≡ Some (f parent) = at-changed q f t ∙ ap (option_map f) there in
    let of_kind : kind_below (root_kind u) (new.decls ∷ []) new q ≡ Some kind = ap (λ ds. kind_below (root_kind u) (ds ∷ []) new q) same ∙ kind_stays q f k (root_kind u) (t.decls ∷ []) t ∙ is in
    clash_up q (root_kind u) (new.decls ∷ []) new (f parent) kind r key at_new of_kind
    (subst (λ (d : Scope). RepeatsKeyAt kind d (child_elements_of (f parent)) r key) (sym (scope_stays q f k t) ∙ scope_at-below q new) h)

-- the children of an element of a document with unique keys have unique keys
pub unique_there : (u : Usage) (t parent : Tree) (q : List ℕ) (kind : ElementKind) → at q t ≡ Some parent → kind_at u t q ≡ Some kind → HasUniqueKeys u t → (r : List ℕ) (key : Key) → RepeatsKeyAt kind (scope_at q t) (child_elements_of parent) r key → ⊥
unique_there u t parent q kind there is unique r key h =
    unique (q ++ r) key (clash_up q (root_kind u) (t.decls ∷ []) t parent kind r key there is (subst (λ (d : Scope). RepeatsKeyAt kind d (child_elements_of parent) r key) (scope_at-below q t) h))

-- Whether a document stays valid after a change inside an element depends on that element's
-- content; after a removal, on the two neighbours.
use Rattle.std.proofs.Common.{◌≡◌, ◌↔◌, ℕ, zero, suc, List, [], ◌∷◌, ◌++◌, Option, Some, option_and_then, slice_get, IsTrue, refl, sym, ap, ◌∙◌, subst, append-nil}
use Rattle.std.proofs.lemmas.Option.{same_Some}
use Rattle.std.specs.Option.{ForSome}
use Rattle.xml_tree.specs.Tree.{Content, last, more, comment_node, more_of, Tree, tree_of, child_elements, child_elements_of, at}
use Rattle.xml_tree.specs.Edits.{with_text_prepended, change_element, change_at, change_child, cut, cut_child, put_over, take_in}
use Rattle.xml_tree.specs.TreeScopes.{scope_at, scope_below, inside}
use Rattle.xml_tree.proofs.PlaceLaws.{change_at-append}
use Rattle.xml_tree.proofs.TreeScopeLemmas.{scope_at-below}
use Rattle.doc_names.specs.declared.usages.Usage.{Usage}
use Rattle.usage_docs.specs.declared.schema_table.ElementKind.{ElementKind}
use Rattle.usage_docs.specs.SchemaTable.{Scope, root_kind}
use Rattle.usage_docs.specs.readers.ContentParts.{part_of, may_follow}
use Rattle.usage_docs.specs.Validity.{AllMatchKinds, MatchesKind, IsValidDocument, IsValidChild, is_text_allowed}
use Rattle.usage_docs.proofs.ChildWalks.{kept_walked, walk_kept}
use Rattle.usage_docs.specs.readers.ContentWalks.{WalksContent}
use Rattle.usage_docs.specs.readers.NeighbourParts.{part_before, part_after, part_of_child}
use Rattle.usage_docs.proofs.BlankTexts.{passes_append}
use Rattle.edit_rules.specs.LawfulInsertions.{KeepsStartTag}
use Rattle.usage_docs.specs.ElementKinds.{kind_of_child, kind_below, kind_at}
use Rattle.edit_rules.proofs.Options.{came_from, through_kid, scope_through}
use Rattle.edit_rules.proofs.StaysSelected.{keeps_at}
use Rattle.edit_rules.proofs.ValidBeside.{kind_through}

-- ---- a child with another content

-- what has to hold of a child with this content
abbrev KidWith : ElementKind → Scope → Tree → Content → Type 0
KidWith row c child_element x = ForSome (kind_of_child row c child_element) (λ kind. MatchesKind kind (inside c child_element) child_element.attrs x × AllMatchKinds kind (inside c child_element) x)

kid_valid : (row : ElementKind) (c : Scope) (n : ℕ) (content : Content) (child_element : Tree) (b : ℕ) → slice_get (child_elements content) n ≡ Some child_element → WalksContent row c b content → KidWith row c child_element child_element.content
kid_valid row c n (last t) child_element b there v = cc
kid_valid row c zero (more t m ds ats k rest) child_element b there v = subst (λ (x : Tree). KidWith row c x x.content) (same_Some (tree_of m ds ats k) child_element there) v.2
kid_valid row c (suc n) (more t m ds ats k rest) child_element b there v = kid_valid row c n rest child_element (part_of row (c ++ ds ∷ []) m) there v.3
kid_valid row c n (comment_node t x rest) child_element b there v = kid_valid row c n rest child_element b there v.1

module _ (row : ElementKind) (c : Scope) (g : Tree → Tree) (tag : KeepsStartTag g) where
  change_to : (n : ℕ) (content : Content) (child_element : Tree) (b : ℕ) → slice_get (child_elements content) n ≡ Some child_element → WalksContent row c b (change_element n g content) → KidWith row c child_element (g child_element).content
  change_to n (last t) child_element b there v = cc
  change_to zero (more t m ds ats k rest) child_element b there v =
      let w = subst (λ (x : Tree). WalksContent row c b (more_of t x rest)) (tag (tree_of m ds ats k)) v in
      subst (λ (x : Tree). KidWith row c x (g x).content) (same_Some (tree_of m ds ats k) child_element there) w.2
  change_to (suc n) (more t m ds ats k rest) child_element b there v = change_to n rest child_element (part_of row (c ++ ds ∷ []) m) there v.3
  change_to n (comment_node t x rest) child_element b there v = change_to n rest child_element b there v.1

  change_from : (n : ℕ) (content : Content) (child_element : Tree) (b : ℕ) → slice_get (child_elements content) n ≡ Some child_element → WalksContent row c b content → KidWith row c child_element (g child_element).content → WalksContent row c b (change_element n g content)
  change_from n (last t) child_element b there v w = v
  change_from zero (more t m ds ats k rest) child_element b there v w =
      subst (λ (x : Tree). WalksContent row c b (more_of t x rest)) (sym (tag (tree_of m ds ats k))) (v.0, v.1, subst (λ (x : Tree). KidWith row c x (g x).content) (sym (same_Some (tree_of m ds ats k) child_element there)) w, v.3)
  change_from (suc n) (more t m ds ats k rest) child_element b there v w = (v.0, v.1, v.2, change_from n rest child_element (part_of row (c ++ ds ∷ []) m) there v.3 w)
  change_from n (comment_node t x rest) child_element b there v w = (v.0, change_from n rest child_element b there v.1 w)

-- ---- at a path

abbrev ValidThere : Option ElementKind → Scope → Content → Type 0
ValidThere o c content = ForSome o (λ kind. WalksContent kind c 0 content)

valid_to : (q : List ℕ) (f : Tree → Tree) → KeepsStartTag f → (row : ElementKind) (c : Scope) (e parent : Tree) → at q e ≡ Some parent → WalksContent row c 0 (change_at q f e).content → ValidThere (kind_below row c e q) (c ++ scope_below q e) (f parent).content
valid_to [] f tag row c e parent there v kind is =
    subst (λ (d : Scope). WalksContent kind d 0 (f parent).content) (sym (append-nil c))
    (subst (λ (k : ElementKind). WalksContent k c 0 (f parent).content) (same_Some row kind is) (subst (λ (x : Tree). WalksContent row c 0 (f x).content) (same_Some e parent there) v))
valid_to (n ∷ q) f tag row c e parent there v kind is =
    let g = change_at q f in
    let w = through_kid n q e parent there in
    let child_element = w.0 in
    let s = came_from (λ kd. kind_below kd (inside c child_element) child_element q) (kind_of_child row c child_element) kind (sym (kind_through row c n q e child_element w.1.0) ∙ is) in
    let below = walk_kept s.0 (inside c child_element) child_element.attrs (g child_element).content (change_to row c g (keeps_at q f tag) n e.content child_element 0 w.1.0 v s.0 s.1.0) in
    subst (λ (d : Scope). WalksContent kind d 0 (f parent).content) (sym (scope_through c n q e child_element w.1.0)) (valid_to q f tag s.0 (inside c child_element) child_element parent w.1.1 below kind s.1.1)

valid_from : (q : List ℕ) (f : Tree → Tree) → KeepsStartTag f → (row : ElementKind) (c : Scope) (e parent : Tree) → at q e ≡ Some parent → WalksContent row c 0 e.content → ValidThere (kind_below row c e q) (c ++ scope_below q e) (f parent).content → WalksContent row c 0 (change_at q f e).content
valid_from [] f tag row c e parent there old h =
    subst (λ (x : Tree). WalksContent row c 0 (f x).content) (sym (same_Some e parent there)) (subst (λ (d : Scope). WalksContent row d 0 (f parent).content) (append-nil c) (h row refl))
valid_from (n ∷ q) f tag row c e parent there old h =
    let g = change_at q f in
    let w = through_kid n q e parent there in
    let child_element = w.0 in
    let was = kid_valid row c n e.content child_element 0 w.1.0 old in
    change_from row c g (keeps_at q f tag) n e.content child_element 0 w.1.0 old (λ kd is.
    kept_walked kd (inside c child_element) child_element.attrs (g child_element).content (was kd is).0.attributes
    (valid_from q f tag kd (inside c child_element) child_element parent w.1.1 (walk_kept kd (inside c child_element) child_element.attrs child_element.content (was kd is)) (λ kind at_kind.
    subst (λ (d : Scope). WalksContent kind d 0 (f parent).content) (scope_through c n q e child_element w.1.0)
    (h kind (kind_through row c n q e child_element w.1.0 ∙ ap (option_and_then (λ x. kind_below x (inside c child_element) child_element q)) is ∙ at_kind)))))

valid_at : (q : List ℕ) (row : ElementKind) (c : Scope) (e parent : Tree) (kind : ElementKind) → at q e ≡ Some parent → kind_below row c e q ≡ Some kind → WalksContent row c 0 e.content → WalksContent kind (c ++ scope_below q e) 0 parent.content
valid_at [] row c e parent kind there is h =
    subst (λ (d : Scope). WalksContent kind d 0 parent.content) (sym (append-nil c))
    (subst (λ (k : ElementKind). WalksContent k c 0 parent.content) (same_Some row kind is) (subst (λ (x : Tree). WalksContent row c 0 x.content) (same_Some e parent there) h))
valid_at (n ∷ q) row c e parent kind there is h =
    let w = through_kid n q e parent there in
    let child_element = w.0 in
    let s = came_from (λ kd. kind_below kd (inside c child_element) child_element q) (kind_of_child row c child_element) kind (sym (kind_through row c n q e child_element w.1.0) ∙ is) in
    subst (λ (d : Scope). WalksContent kind d 0 parent.content) (sym (scope_through c n q e child_element w.1.0))
    (valid_at q s.0 (inside c child_element) child_element parent kind w.1.1 s.1.1 (walk_kept s.0 (inside c child_element) child_element.attrs child_element.content (kid_valid row c n e.content child_element 0 w.1.0 h s.0 s.1.0)))

-- ---- of a document

root_from : (u : Usage) (t s : Tree) → s ≡ tree_of t.name t.decls t.attrs s.content → IsValidDocument u t → WalksContent (root_kind u) (t.decls ∷ []) 0 s.content → IsValidDocument u s
root_from u t s is k v = subst (λ (x : Tree). IsValidDocument u x) (sym is) (record { root = k.root; valid = kept_walked (root_kind u) (t.decls ∷ []) t.attrs s.content k.valid.0.attributes v })

root_to : (u : Usage) (t s : Tree) → s ≡ tree_of t.name t.decls t.attrs s.content → IsValidDocument u s → WalksContent (root_kind u) (t.decls ∷ []) 0 s.content
root_to u t s is k = let w = subst (λ (x : Tree). IsValidDocument u x) is k in walk_kept (root_kind u) (t.decls ∷ []) t.attrs s.content w.valid

-- the content of a valid document
walks_of : (u : Usage) (t : Tree) → IsValidDocument u t → WalksContent (root_kind u) (t.decls ∷ []) 0 t.content
walks_of u t k = walk_kept (root_kind u) (t.decls ∷ []) t.attrs t.content k.valid

-- a change inside an element that leaves its tag: whether its new content is valid by its kind
pub valid_after : (u : Usage) (t parent : Tree) (q : List ℕ) (f : Tree → Tree) → KeepsStartTag f → at q t ≡ Some parent → IsValidDocument u t
    → IsValidDocument u (change_at q f t) ↔ ForSome (kind_at u t q) (λ kind. WalksContent kind (scope_at q t) 0 (f parent).content)
valid_after u t parent q f tag there old =
    let keeps = keeps_at q f tag t in
    let scope : (t.decls ∷ []) ++ scope_below q t ≡ scope_at q t = sym (scope_at-below q t) in (
      λ s kind is. subst (λ (d : Scope). WalksContent kind d 0 (f parent).content) scope (valid_to q f tag (root_kind u) (t.decls ∷ []) t parent there (root_to u t (change_at q f t) keeps s) kind is),
      λ h. root_from u t (change_at q f t) keeps old (valid_from q f tag (root_kind u) (t.decls ∷ []) t parent there (walks_of u t old) (λ kind is. subst (λ (d : Scope). WalksContent kind d 0 (f parent).content) (sym scope) (h kind is))),
    )

-- ---- without a child

module _ (row : ElementKind) (c : Scope) where
  rebase : (content : Content) (b b' : ℕ) → WalksContent row c b content → IsTrue (may_follow row b' (part_after row c zero content)) → WalksContent row c b' content
  rebase (last t) b b' v f = (v.0, f)
  rebase (more t n ds ats k rest) b b' v f = (v.0, f, v.2, v.3)
  rebase (comment_node t x rest) b b' v f = (v.0, rebase rest b b' v.1 f)

  first_follows : (content : Content) (b : ℕ) → WalksContent row c b content → IsTrue (may_follow row b (part_after row c zero content))
  first_follows (last t) b v = v.1
  first_follows (more t n ds ats k rest) b v = v.1
  first_follows (comment_node t x rest) b v = first_follows rest b v.1

  join_from : (t : List ℕ) (rest : Content) (b : ℕ) → IsTrue (is_text_allowed row t) → WalksContent row c b rest → WalksContent row c b (with_text_prepended t rest)
  join_from t (last u) b p v = ((passes_append row t u).1 (p, v.0), v.1)
  join_from t (more u n ds ats k rest) b p v = ((passes_append row t u).1 (p, v.0), v.1, v.2, v.3)
  join_from t (comment_node u x rest) b p v = ((passes_append row t u).1 (p, v.0), v.1)

  join_to : (t : List ℕ) (rest : Content) (b : ℕ) → WalksContent row c b (with_text_prepended t rest) → WalksContent row c b rest
  join_to t (last u) b v = (((passes_append row t u).0 v.0).1, v.1)
  join_to t (more u n ds ats k rest) b v = (((passes_append row t u).0 v.0).1, v.1, v.2, v.3)
  join_to t (comment_node u x rest) b v = (((passes_append row t u).0 v.0).1, v.1)

  cut_from : (i : ℕ) (content : Content) (child_element : Tree) (b : ℕ) → slice_get (child_elements content) i ≡ Some child_element → WalksContent row c b content → IsTrue (may_follow row (part_before row c b i content) (part_after row c (suc i) content)) → WalksContent row c b (cut i content)
  cut_from i (last t) child_element b there v f = v
  cut_from zero (more t n ds ats k rest) child_element b there v f = join_from t rest b v.0 (rebase rest (part_of row (c ++ ds ∷ []) n) b v.3 f)
  cut_from (suc i) (more t n ds ats k rest) child_element b there v f = (v.0, v.1, v.2, cut_from i rest child_element (part_of row (c ++ ds ∷ []) n) there v.3 f)
  cut_from zero (comment_node t x rest) child_element b there v f = (v.0, cut_from zero rest child_element b there v.1 f)
  cut_from (suc i) (comment_node t x rest) child_element b there v f = (v.0, cut_from (suc i) rest child_element b there v.1 f)

  cut_to : (i : ℕ) (content : Content) (child_element : Tree) (b : ℕ) → slice_get (child_elements content) i ≡ Some child_element → WalksContent row c b (cut i content) → IsTrue (may_follow row (part_before row c b i content) (part_after row c (suc i) content))
  cut_to i (last t) child_element b there v = cc
  cut_to zero (more t n ds ats k rest) child_element b there v = first_follows rest b (join_to t rest b v)
  cut_to (suc i) (more t n ds ats k rest) child_element b there v = cut_to i rest child_element (part_of row (c ++ ds ∷ []) n) there v.3
  cut_to zero (comment_node t x rest) child_element b there v = cut_to zero rest child_element b there v.1
  cut_to (suc i) (comment_node t x rest) child_element b there v = cut_to (suc i) rest child_element b there v.1

-- a valid document without an element is valid exactly when the next sibling may follow the one
-- before; under a foreign parent it always is
pub valid_without : (u : Usage) (t parent child_element : Tree) (q : List ℕ) (i : ℕ) → at q t ≡ Some parent → slice_get (child_elements_of parent) i ≡ Some child_element → IsValidDocument u t
    → IsValidDocument u (take_in q i t) ↔ ForSome (kind_at u t q) (λ kind. IsTrue (may_follow kind (part_before kind (scope_at q t) 0 i parent.content) (part_after kind (scope_at q t) (suc i) parent.content)))
valid_without u t parent child_element q i there is_kid old =
    let a = valid_after u t parent q (cut_child i) (λ e. refl) there old in (
      λ s kind is. cut_to kind (scope_at q t) i parent.content child_element 0 is_kid (a.0 s kind is),
      λ h. a.1 (λ kind is.
          let was = valid_at q (root_kind u) (t.decls ∷ []) t parent kind there is (walks_of u t old) in
          cut_from kind (scope_at q t) i parent.content child_element 0 is_kid (subst (λ (d : Scope). WalksContent kind d 0 parent.content) (sym (scope_at-below q t)) was) (h kind is)),
    )

-- ---- with another child

module _ (row : ElementKind) (c : Scope) (e : Tree) where
  over_from : (i : ℕ) (content : Content) (child_element : Tree) (b : ℕ) → slice_get (child_elements content) i ≡ Some child_element → WalksContent row c b content → IsValidChild row c e → IsTrue (may_follow row (part_before row c b i content) (part_of_child row c e)) → IsTrue (may_follow row (part_of_child row c e) (part_after row c (suc i) content)) → WalksContent row c b (change_element i (λ _. e) content)
  over_from i (last t) child_element b there v w low high = v
  over_from zero (more t n ds ats k rest) child_element b there v w low high = (v.0, low, w, rebase row c rest (part_of row (c ++ ds ∷ []) n) (part_of_child row c e) v.3 high)
  over_from (suc i) (more t n ds ats k rest) child_element b there v w low high = (v.0, v.1, v.2, over_from i rest child_element (part_of row (c ++ ds ∷ []) n) there v.3 w low high)
  over_from zero (comment_node t x rest) child_element b there v w low high = (v.0, over_from zero rest child_element b there v.1 w low high)
  over_from (suc i) (comment_node t x rest) child_element b there v w low high = (v.0, over_from (suc i) rest child_element b there v.1 w low high)

  over_to : (i : ℕ) (content : Content) (child_element : Tree) (b : ℕ) → slice_get (child_elements content) i ≡ Some child_element → WalksContent row c b (change_element i (λ _. e) content)
      → IsValidChild row c e × IsTrue (may_follow row (part_before row c b i content) (part_of_child row c e)) × IsTrue (may_follow row (part_of_child row c e) (part_after row c (suc i) content))
  over_to i (last t) child_element b there v = cc
  over_to zero (more t n ds ats k rest) child_element b there v = (v.2, v.1, first_follows row c rest (part_of_child row c e) v.3)
  over_to (suc i) (more t n ds ats k rest) child_element b there v = over_to i rest child_element (part_of row (c ++ ds ∷ []) n) there v.3
  over_to zero (comment_node t x rest) child_element b there v = over_to zero rest child_element b there v.1
  over_to (suc i) (comment_node t x rest) child_element b there v = over_to (suc i) rest child_element b there v.1

-- a valid document with an element replaced is valid exactly when the new one is valid by itself
-- and may come between the two neighbours
pub valid_over : (u : Usage) (t parent child_element e : Tree) (q : List ℕ) (i : ℕ) → at q t ≡ Some parent → slice_get (child_elements_of parent) i ≡ Some child_element → IsValidDocument u t
    → IsValidDocument u (put_over (q ++ i ∷ []) e t) ↔ ForSome (kind_at u t q) (λ kind. IsValidChild kind (scope_at q t) e
    × IsTrue (may_follow kind (part_before kind (scope_at q t) 0 i parent.content) (part_of_child kind (scope_at q t) e)) × IsTrue (may_follow kind (part_of_child kind (scope_at q t) e) (part_after kind (scope_at q t) (suc i) parent.content)))
valid_over u t parent child_element e q i there is_kid old =
    let a = valid_after u t parent q (change_child i (λ _. e)) (λ x. refl) there old in
    let same : put_over (q ++ i ∷ []) e t ≡ change_at q (change_child i (λ _. e)) t = change_at-append q (i ∷ []) (λ _. e) t in (
      λ s kind is. over_to kind (scope_at q t) e i parent.content child_element 0 is_kid (a.0 (subst (λ (x : Tree). IsValidDocument u x) same s) kind is),
      λ h. subst (λ (x : Tree). IsValidDocument u x) (sym same) (a.1 (λ kind is.
          let was = valid_at q (root_kind u) (t.decls ∷ []) t parent kind there is (walks_of u t old) in
          over_from kind (scope_at q t) e i parent.content child_element 0 is_kid (subst (λ (d : Scope). WalksContent kind d 0 parent.content) (sym (scope_at-below q t)) was) (h kind is).0 (h kind is).1 (h kind is).2)),
    )

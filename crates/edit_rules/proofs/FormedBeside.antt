-- Whether a document stays within the constraints after a change inside an element depends on
-- that element's content; after an insertion, on the new element.
use Rattle.std.proofs.Common.{◌≡◌, ◌↔◌, ℕ, zero, suc, ◌≤◌, List, [], ◌∷◌, ◌++◌, length, Option, Some, option_and_then, slice_get, refl, sym, ap, ◌∙◌, subst, append-nil, arith}
use Rattle.std.proofs.lemmas.Option.{same_Some}
use Rattle.std.specs.Option.{ForSome}
use Rattle.xml_tree.specs.Tree.{Content, last, more, comment_node, Tree, tree_of, child_elements, child_elements_of, at}
use Rattle.xml_tree.specs.Edits.{change_element, change_at, put, put_in, put_kid}
use Rattle.xml_tree.specs.TreeScopes.{scope_at, scope_below, inside}
use Rattle.xml_names.specs.declared.names.Attr.{Attr}
use Rattle.xml_tree.specs.declared.tree.Node.TheVariants.{Elem}
use Rattle.xml_tree.proofs.TreeScopeLemmas.{scope_at-below}
use Rattle.doc_names.specs.declared.usages.Usage.{Usage}
use Rattle.usage_docs.specs.declared.schema_table.ElementKind.{ElementKind}
use Rattle.usage_docs.specs.declared.schema_table.ElementKind.TheVariants.{ResourceList}
use Rattle.usage_docs.specs.SchemaTable.{Scope, root_kind}
use Rattle.usage_docs.specs.ContentTexts.{content_text}
use Rattle.usage_docs.specs.ReferenceForms.{trim_text, is_http_uri, are_references_formed, AllReferencesFormed, MeetsConstraints, IsFormedNode}
use Rattle.edit_rules.specs.LawfulInsertions.{KeepsStartTag}
use Rattle.usage_docs.specs.ElementKinds.{kind_of_child, kind_below, kind_at}
use Rattle.edit_rules.proofs.Options.{came_from, through_kid, scope_through}
use Rattle.edit_rules.proofs.StaysSelected.{keeps_at}
use Rattle.edit_rules.proofs.ValidBeside.{kind_through}

-- ---- the text of an element

-- the change leaves the joined text of the element that it is made in
abbrev pub KeepsText : (Tree → Tree) → Type 0
KeepsText f = (e : Tree) → content_text (f e).content ≡ content_text e.content

pub text_changed : (n : ℕ) (g : Tree → Tree) (content : Content) → content_text (change_element n g content) ≡ content_text content
text_changed n g (last t) = refl
text_changed zero g (more t m ds ats k rest) = refl
text_changed (suc n) g (more t m ds ats k rest) = ap (λ s. t ++ s) (text_changed n g rest)
text_changed n g (comment_node t x rest) = ap (λ s. t ++ s) (text_changed n g rest)

pub text_put : (j : ℕ) (e : Tree) (content : Content) → content_text (put j e content) ≡ content_text content
text_put zero e content = refl
text_put (suc j) e (last t) = refl
text_put (suc j) e (more t m ds ats k rest) = ap (λ s. t ++ s) (text_put j e rest)
text_put (suc j) e (comment_node t x rest) = ap (λ s. t ++ s) (text_put (suc j) e rest)

text_at : (q : List ℕ) (f : Tree → Tree) → KeepsText f → KeepsText (change_at q f)
text_at [] f k e = k e
text_at (n ∷ q) f k e = text_changed n (change_at q f) e.content

-- the form of an element depends on the text of its content alone
formed_by_text : (kind : ElementKind) (ats : List Attr) (k k' : Content) → content_text k ≡ content_text k' → are_references_formed kind ats k ≡ are_references_formed kind ats k'
unfolding are_references_formed
formed_by_text ResourceList ats k k' h = ap (λ (s : List ℕ). is_http_uri (trim_text s)) h
formed_by_text _ ats k k' h = refl

-- ---- in a content

abbrev FormedKid : ElementKind → Scope → Tree → Type 0
FormedKid row c e = IsFormedNode row c (Elem e)

kid_formed : (row : ElementKind) (c : Scope) (n : ℕ) (content : Content) (child_element : Tree) → slice_get (child_elements content) n ≡ Some child_element → AllReferencesFormed row c content → FormedKid row c child_element
kid_formed row c n (last t) child_element there h = cc
kid_formed row c zero (more t m ds ats k rest) child_element there h = subst (λ (x : Tree). FormedKid row c x) (same_Some (tree_of m ds ats k) child_element there) h.0
kid_formed row c (suc n) (more t m ds ats k rest) child_element there h = kid_formed row c n rest child_element there h.1
kid_formed row c n (comment_node t x rest) child_element there h = kid_formed row c n rest child_element there h

pub change_to : (row : ElementKind) (c : Scope) (g : Tree → Tree) (n : ℕ) (content : Content) (child_element : Tree) → slice_get (child_elements content) n ≡ Some child_element → AllReferencesFormed row c (change_element n g content) → FormedKid row c (g child_element)
change_to row c g n (last t) child_element there h = cc
change_to row c g zero (more t m ds ats k rest) child_element there h = subst (λ (x : Tree). FormedKid row c (g x)) (same_Some (tree_of m ds ats k) child_element there) h.0
change_to row c g (suc n) (more t m ds ats k rest) child_element there h = change_to row c g n rest child_element there h.1
change_to row c g n (comment_node t x rest) child_element there h = change_to row c g n rest child_element there h

pub change_from : (row : ElementKind) (c : Scope) (g : Tree → Tree) (n : ℕ) (content : Content) (child_element : Tree) → slice_get (child_elements content) n ≡ Some child_element → AllReferencesFormed row c content → FormedKid row c (g child_element) → AllReferencesFormed row c (change_element n g content)
change_from row c g n (last t) child_element there h w = h
change_from row c g zero (more t m ds ats k rest) child_element there h w = (subst (λ (x : Tree). FormedKid row c (g x)) (sym (same_Some (tree_of m ds ats k) child_element there)) w, h.1)
change_from row c g (suc n) (more t m ds ats k rest) child_element there h w = (h.0, change_from row c g n rest child_element there h.1 w)
change_from row c g n (comment_node t x rest) child_element there h w = change_from row c g n rest child_element there h w

put_to : (row : ElementKind) (c : Scope) (new : Tree) (j : ℕ) (content : Content) → j ≤ length (child_elements content) → AllReferencesFormed row c (put j new content) → FormedKid row c new
put_to row c new zero content le h = h.0
put_to row c new (suc j) (last t) le h = absurd (omega arith)
put_to row c new (suc j) (more t m ds ats k rest) le h = put_to row c new j rest (omega arith) h.1
put_to row c new (suc j) (comment_node t x rest) le h = put_to row c new (suc j) rest le h

put_from : (row : ElementKind) (c : Scope) (new : Tree) (j : ℕ) (content : Content) → AllReferencesFormed row c content → FormedKid row c new → AllReferencesFormed row c (put j new content)
put_from row c new zero content h w = (w, h)
put_from row c new (suc j) (last t) h w = h
put_from row c new (suc j) (more t m ds ats k rest) h w = (h.0, put_from row c new j rest h.1 w)
put_from row c new (suc j) (comment_node t x rest) h w = put_from row c new (suc j) rest h w

-- ---- at a path

FormedThere : Option ElementKind → Scope → Content → Type 0
FormedThere o c content = ForSome o (λ kind. AllReferencesFormed kind c content)

-- a child with its content changed, and its tag and text unchanged
kid_now : (row : ElementKind) (c : Scope) (g : Tree → Tree) → KeepsStartTag g → KeepsText g → (child_element : Tree) → FormedKid row c child_element → ((kind : ElementKind) → kind_of_child row c child_element ≡ Some kind → AllReferencesFormed kind (inside c child_element) (g child_element).content) → FormedKid row c (g child_element)
kid_now row c g tag text child_element old new kind is =
    let is_old : kind_of_child row c child_element ≡ Some kind = sym (ap (kind_of_child row c) (tag child_element)) ∙ is in (
      ap (λ (x : Tree). are_references_formed kind x.attrs (g child_element).content) (tag child_element) ∙ formed_by_text kind child_element.attrs (g child_element).content child_element.content (text child_element) ∙ (old kind is_old).0,
      subst (λ (d : Scope). AllReferencesFormed kind d (g child_element).content) (sym (ap (inside c) (tag child_element))) (new kind is_old),
    )

kid_then : (row : ElementKind) (c : Scope) (g : Tree → Tree) → KeepsStartTag g → (child_element : Tree) → FormedKid row c (g child_element) → (kind : ElementKind) → kind_of_child row c child_element ≡ Some kind → AllReferencesFormed kind (inside c child_element) (g child_element).content
kid_then row c g tag child_element h kind is =
    subst (λ (d : Scope). AllReferencesFormed kind d (g child_element).content) (ap (inside c) (tag child_element)) (h kind (ap (kind_of_child row c) (tag child_element) ∙ is)).1

formed_to : (q : List ℕ) (f : Tree → Tree) → KeepsStartTag f → (row : ElementKind) (c : Scope) (e parent : Tree) → at q e ≡ Some parent → AllReferencesFormed row c (change_at q f e).content → FormedThere (kind_below row c e q) (c ++ scope_below q e) (f parent).content
unfolding FormedThere
formed_to [] f tag row c e parent there h kind is =
    subst (λ (d : Scope). AllReferencesFormed kind d (f parent).content) (sym (append-nil c))
    (subst (λ (k : ElementKind). AllReferencesFormed k c (f parent).content) (same_Some row kind is) (subst (λ (x : Tree). AllReferencesFormed row c (f x).content) (same_Some e parent there) h))
formed_to (n ∷ q) f tag row c e parent there h kind is =
    let g = change_at q f in
    let w = through_kid n q e parent there in
    let child_element = w.0 in
    let s = came_from (λ kd. kind_below kd (inside c child_element) child_element q) (kind_of_child row c child_element) kind (sym (kind_through row c n q e child_element w.1.0) ∙ is) in
    let below = kid_then row c g (keeps_at q f tag) child_element (change_to row c g n e.content child_element w.1.0 h) s.0 s.1.0 in
    subst (λ (d : Scope). AllReferencesFormed kind d (f parent).content) (sym (scope_through c n q e child_element w.1.0)) (formed_to q f tag s.0 (inside c child_element) child_element parent w.1.1 below kind s.1.1)

formed_from : (q : List ℕ) (f : Tree → Tree) → KeepsStartTag f → KeepsText f → (row : ElementKind) (c : Scope) (e parent : Tree) → at q e ≡ Some parent → AllReferencesFormed row c e.content → FormedThere (kind_below row c e q) (c ++ scope_below q e) (f parent).content → AllReferencesFormed row c (change_at q f e).content
unfolding FormedThere
formed_from [] f tag text row c e parent there old h =
    subst (λ (x : Tree). AllReferencesFormed row c (f x).content) (sym (same_Some e parent there)) (subst (λ (d : Scope). AllReferencesFormed row d (f parent).content) (append-nil c) (h row refl))
formed_from (n ∷ q) f tag text row c e parent there old h =
    let g = change_at q f in
    let w = through_kid n q e parent there in
    let child_element = w.0 in
    let before = kid_formed row c n e.content child_element w.1.0 old in
    change_from row c g n e.content child_element w.1.0 old (kid_now row c g (keeps_at q f tag) (text_at q f text) child_element before (λ kd is.
    formed_from q f tag text kd (inside c child_element) child_element parent w.1.1 (before kd is).1 (λ kind at_kind.
    subst (λ (d : Scope). AllReferencesFormed kind d (f parent).content) (scope_through c n q e child_element w.1.0)
    (h kind (kind_through row c n q e child_element w.1.0 ∙ ap (option_and_then (λ x. kind_below x (inside c child_element) child_element q)) is ∙ at_kind)))))

-- each element of a document within the constraints is within them
pub formed_there : (q : List ℕ) (row : ElementKind) (c : Scope) (e parent : Tree) (kind : ElementKind) → at q e ≡ Some parent → kind_below row c e q ≡ Some kind → AllReferencesFormed row c e.content → AllReferencesFormed kind (c ++ scope_below q e) parent.content
formed_there [] row c e parent kind there is h =
    subst (λ (d : Scope). AllReferencesFormed kind d parent.content) (sym (append-nil c))
    (subst (λ (k : ElementKind). AllReferencesFormed k c parent.content) (same_Some row kind is) (subst (λ (x : Tree). AllReferencesFormed row c x.content) (same_Some e parent there) h))
formed_there (n ∷ q) row c e parent kind there is h =
    let w = through_kid n q e parent there in
    let child_element = w.0 in
    let s = came_from (λ kd. kind_below kd (inside c child_element) child_element q) (kind_of_child row c child_element) kind (sym (kind_through row c n q e child_element w.1.0) ∙ is) in
    subst (λ (d : Scope). AllReferencesFormed kind d parent.content) (sym (scope_through c n q e child_element w.1.0))
    (formed_there q s.0 (inside c child_element) child_element parent kind w.1.1 s.1.1 (kid_formed row c n e.content child_element w.1.0 h s.0 s.1.0).1)

-- ---- of a document

-- a change inside an element that leaves its tag and text: the constraints of its new content
pub formed_after : (u : Usage) (t parent : Tree) (q : List ℕ) (f : Tree → Tree) → KeepsStartTag f → KeepsText f → at q t ≡ Some parent → MeetsConstraints u t
    → MeetsConstraints u (change_at q f t) ↔ ForSome (kind_at u t q) (λ kind. AllReferencesFormed kind (scope_at q t) (f parent).content)
unfolding FormedThere
formed_after u t parent q f tag text there old =
    let g = change_at q f in
    let same : (g t).decls ≡ t.decls = ap (λ (x : Tree). x.decls) (keeps_at q f tag t) in
    let scope : (t.decls ∷ []) ++ scope_below q t ≡ scope_at q t = sym (scope_at-below q t) in (
      λ h kind is. subst (λ (d : Scope). AllReferencesFormed kind d (f parent).content) scope (formed_to q f tag (root_kind u) (t.decls ∷ []) t parent there (subst (λ ds. AllReferencesFormed (root_kind u) (ds ∷ []) (g t).content) same h) kind is),
      λ h. subst (λ ds. AllReferencesFormed (root_kind u) (ds ∷ []) (g t).content) (sym same) (formed_from q f tag text (root_kind u) (t.decls ∷ []) t parent there old (λ kind is. subst (λ (d : Scope). AllReferencesFormed kind d (f parent).content) (sym scope) (h kind is))),
    )

-- a document with a new element is within the constraints exactly when the new element is, by the
-- kind of its parent
pub formed_beside : (u : Usage) (t parent new : Tree) (q : List ℕ) (gap : ℕ) → at q t ≡ Some parent → gap ≤ length (child_elements_of parent) → MeetsConstraints u t
    → MeetsConstraints u (put_in q gap new t) ↔ ForSome (kind_at u t q) (λ kind. IsFormedNode kind (scope_at q t) (Elem new))
formed_beside u t parent new q gap there le old =
    let a = formed_after u t parent q (put_kid gap new) (λ e. refl) (λ e. text_put gap new e.content) there old in (
      λ h kind is. put_to kind (scope_at q t) new gap parent.content le (a.0 h kind is),
      λ h. a.1 (λ kind is.
          let here = formed_there q (root_kind u) (t.decls ∷ []) t parent kind there is old in
          put_from kind (scope_at q t) new gap parent.content (subst (λ (d : Scope). AllReferencesFormed kind d parent.content) (sym (scope_at-below q t)) here) (h kind is)),
    )

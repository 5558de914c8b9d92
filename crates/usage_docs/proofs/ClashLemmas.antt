-- Clashes at a place, and clashes found so far.
use Rattle.std.proofs.Common.{◌≡◌, ◌<◌, ◌⊎◌, ℕ, zero, suc, List, [], ◌∷◌, ◌++◌, length, take, get_or, Option, None, Some, slice_get, option_map, option_and_then, refl, ap, sym, ◌∙◌, subst, inl, inr, arith, append_assoc, append-nil}
use Rattle.std.specs.List.{cons_option}
use Rattle.std.proofs.lemmas.Option.{same_Some}
use Rattle.std.proofs.lemmas.Bool.{cases_lt}
use Rattle.xml_tree.specs.Tree.{Content, last, more, comment_node, Tree, child_elements, child_elements_of}
use Rattle.xml_tree.specs.Edits.{with_text_prepended}
use Rattle.xml_tree.specs.Nodes.{content_of}
use Rattle.xml_names.specs.declared.names.Attr.{Attr}
use Rattle.xml_names.specs.declared.names.Decl.{Decl}
use Rattle.xml_names.specs.declared.names.Name.{Name}
use Rattle.xml_tree.specs.declared.tree.Node.{Node}
use Rattle.xml_tree.specs.declared.tree.Node.TheVariants.{Elem, Chars, Comment}
use Rattle.xml_tree.specs.TreeScopes.{inside}
use Rattle.usage_docs.specs.declared.schema_table.ElementKind.{ElementKind}
use Rattle.usage_docs.specs.declared.schema_table.Key.{Key}
use Rattle.usage_docs.specs.declared.key_repeats.Clash.{Clash}
use Rattle.usage_docs.specs.SchemaTable.{Scope, kind_of}
use Rattle.usage_docs.specs.KeyAttributes.{key_of, value_of, key_value}
use Rattle.usage_docs.specs.UniqueKeys.{SiblingKey, sibling_key, sibling_key_of, sibling_key_at, RepeatsKeyAt, IsNotAfter}
use Rattle.usage_docs.specs.readers.SiblingElements.{node_children, count_with_node, IsFirstInOrder}
use Rattle.usage_docs.proofs.EarlierMarks.{marks_of, IsAmong, RepeatsHere, RepeatedKey}

-- ---- an element in the scope inside it

pub scope_is : (c : Scope) (e : Tree) (found : Scope) (own ds : List Decl) → found ≡ c ++ own ∷ [] → own ≡ ds → ds ≡ e.decls → found ≡ inside c e
scope_is c e found own ds is own_is ds_is = is ∙ ap (λ (l : List Decl). c ++ l ∷ []) (own_is ∙ ds_is)

pub kind_is : (row : ElementKind) (c : Scope) (e : Tree) (found : Scope) (n : Name) (o kind : Option ElementKind) → o ≡ kind_of row found n → found ≡ inside c e → n ≡ e.name → o ≡ kind → kind_of row (inside c e) e.name ≡ kind
kind_is row c e found n o kind is scope named was = sym (is ∙ ap (λ (x : Scope). kind_of row x n) scope ∙ ap (kind_of row (inside c e)) named) ∙ was

-- ---- marks

mark_in : (row : ElementKind) (c : Scope) (e : Tree) (kind : ElementKind) (key : Key) (value : List ℕ) → kind_of row (inside c e) e.name ≡ Some kind → key_of kind ≡ Some key → value_of key e.attrs ≡ Some value → sibling_key_of row c e ≡ Some (sibling_key kind value)
unfolding sibling_key_of key_value
mark_in row c e kind key value k w v = rw (k, w, v)

-- the mark of a kind and a value, if there is one
record Given (kind : ElementKind) (o : Option (List ℕ)) (m : SiblingKey) : Type 0 where
  same_kind : kind ≡ m.kind
  is_value : o ≡ Some m.value

given : (kind : ElementKind) (o : Option (List ℕ)) (m : SiblingKey) → option_map (sibling_key kind) o ≡ Some m → Given kind o m
given kind None m h = cc
given kind (Some v) m h =
    let e = same_Some (sibling_key kind v) m h in
    record { same_kind = ap (λ (x : SiblingKey). x.kind) e; is_value = ap (λ (x : SiblingKey). Some x.value) e }

-- the parts of a mark
pub record Marked (o : Option ElementKind) (ats : List Attr) (m : SiblingKey) : Type 0 where
  pub by_kind : o ≡ Some m.kind
  pub by_value : key_value m.kind ats ≡ Some m.value

marked : (o : Option ElementKind) (ats : List Attr) (m : SiblingKey) → option_and_then (λ kind. option_map (sibling_key kind) (key_value kind ats)) o ≡ Some m → Marked o ats m
marked None ats m h = cc
marked (Some kind) ats m h =
    let g = given kind (key_value kind ats) m h in
    record { by_kind = ap Some g.same_kind; by_value = subst (λ k. key_value k ats ≡ Some m.value) g.same_kind g.is_value }

pub mark_parts : (row : ElementKind) (c : Scope) (e : Tree) (m : SiblingKey) → sibling_key_of row c e ≡ Some m → Marked (kind_of row (inside c e) e.name) e.attrs m
unfolding sibling_key_of
mark_parts row c e m h = marked (kind_of row (inside c e) e.name) e.attrs m h

value_in : (kind : ElementKind) (key : Key) (ats : List Attr) → key_of kind ≡ Some key → key_value kind ats ≡ value_of key ats
unfolding key_value
value_in kind key ats k = rw k

pub no_key : (kind : ElementKind) (ats : List Attr) → key_of kind ≡ None → key_value kind ats ≡ None
unfolding key_value
no_key kind ats k = rw k

-- ---- nodes and the elements among them

kids_before : (t : List ℕ) (content : Content) → child_elements (with_text_prepended t content) ≡ child_elements content
kids_before t (last u) = refl
kids_before t (more u n ds ats k rest) = refl
kids_before t (comment_node u x rest) = refl

kids_of_nodes : (ns : List Node) → child_elements (content_of ns) ≡ node_children ns
kids_of_nodes [] = refl
kids_of_nodes (Elem e ∷ ns) = ap (λ ks. e ∷ ks) (kids_of_nodes ns)
kids_of_nodes (Chars t ∷ ns) = kids_before t (content_of ns) ∙ kids_of_nodes ns
kids_of_nodes (Comment x ∷ ns) = kids_of_nodes ns

pub kids_are : (ns : List Node) (content : Content) → content_of ns ≡ content → child_elements content ≡ node_children ns
kids_are ns content e = ap child_elements (sym e) ∙ kids_of_nodes ns

elem_same : (e child_element : Tree) → Elem e ≡ Elem child_element → e ≡ child_element
elem_same e child_element h = cc

pub kid_at : (ns : List Node) (place : ℕ) (node : Node) (child_element : Tree) → place < length ns → node ≡ get_or ns place node → node ≡ Elem child_element → slice_get (node_children ns) (length (node_children (take place ns))) ≡ Some child_element
kid_at [] place node child_element lt is elem = absurd (omega arith)
kid_at (Elem e ∷ ns) zero node child_element lt is elem = ap Some (elem_same e child_element (sym is ∙ elem))
kid_at (Chars t ∷ ns) zero node child_element lt is elem = cc
kid_at (Comment x ∷ ns) zero node child_element lt is elem = cc
kid_at (Elem e ∷ ns) (suc place) node child_element lt is elem = kid_at ns place node child_element (omega arith) is elem
kid_at (Chars t ∷ ns) (suc place) node child_element lt is elem = kid_at ns place node child_element (omega arith) is elem
kid_at (Comment x ∷ ns) (suc place) node child_element lt is elem = kid_at ns place node child_element (omega arith) is elem

pub count_next : (ns : List Node) (place : ℕ) (node : Node) → place < length ns → node ≡ get_or ns place node → length (node_children (take (suc place) ns)) ≡ count_with_node node (length (node_children (take place ns)))
count_next [] place node lt is = absurd (omega arith)
count_next (Elem e ∷ ns) zero node lt is = rw is
count_next (Chars t ∷ ns) zero node lt is = rw is
count_next (Comment x ∷ ns) zero node lt is = rw is
count_next (Elem e ∷ ns) (suc place) (Elem k) lt is = ap suc (count_next ns place (Elem k) (omega arith) is)
count_next (Elem e ∷ ns) (suc place) (Chars t) lt is = ap suc (count_next ns place (Chars t) (omega arith) is)
count_next (Elem e ∷ ns) (suc place) (Comment x) lt is = ap suc (count_next ns place (Comment x) (omega arith) is)
count_next (Chars t ∷ ns) (suc place) node lt is = count_next ns place node (omega arith) is
count_next (Comment x ∷ ns) (suc place) node lt is = count_next ns place node (omega arith) is

-- one of some marks, after the mark that the first sibling may have
among_cons : (o : Option SiblingKey) (ms : List SiblingKey) (m : SiblingKey) → IsAmong (cons_option o ms) m → (o ≡ Some m) ⊎ IsAmong ms m
among_cons None ms m h = inr h
among_cons (Some n) ms m (inl h) = inl (ap Some h)
among_cons (Some n) ms m (inr h) = inr h

among_first : (o : Option SiblingKey) (ms : List SiblingKey) (m : SiblingKey) → o ≡ Some m → IsAmong (cons_option o ms) m
among_first None ms m h = cc
among_first (Some n) ms m h = inl (same_Some n m h)

among_rest : (o : Option SiblingKey) (ms : List SiblingKey) (m : SiblingKey) → IsAmong ms m → IsAmong (cons_option o ms) m
among_rest None ms m h = h
among_rest (Some n) ms m h = inr h

among_to : (row : ElementKind) (c : Scope) (m : SiblingKey) (xs : List Tree) (i : ℕ) → IsAmong (marks_of row c (take i xs)) m → (j : ℕ) × ((j < i) × (sibling_key_at row c xs j ≡ Some m))
among_to row c m [] zero h = absurd h
among_to row c m [] (suc i) h = absurd h
among_to row c m (x ∷ xs) zero h = absurd h
among_to row c m (x ∷ xs) (suc i) h =
    elim (among_cons (sibling_key_of row c x) (marks_of row c (take i xs)) m h) [
      | inl e ↦ (0, (omega arith, e))
      | inr r ↦ (let s = among_to row c m xs i r in (suc s.0, (let lt = s.1.0 in omega arith, s.1.1)))
    ]

among_from : (row : ElementKind) (c : Scope) (m : SiblingKey) (xs : List Tree) (i j : ℕ) → j < i → sibling_key_at row c xs j ≡ Some m → IsAmong (marks_of row c (take i xs)) m
among_from row c m xs zero j lt h = absurd (omega arith)
among_from row c m [] (suc i) j lt h = cc
among_from row c m (x ∷ xs) (suc i) zero lt h = among_first (sibling_key_of row c x) (marks_of row c (take i xs)) m h
among_from row c m (x ∷ xs) (suc i) (suc j) lt h = among_rest (sibling_key_of row c x) (marks_of row c (take i xs)) m (among_from row c m xs i j (omega arith) h)

pub mark_within : (row : ElementKind) (c : Scope) (m : SiblingKey) (ks : List Tree) (j : ℕ) → sibling_key_at row c ks j ≡ Some m → j < length ks
mark_within row c m [] j h = cc
mark_within row c m (k ∷ ks) zero h = omega arith
mark_within row c m (k ∷ ks) (suc j) h = let lt = mark_within row c m ks j h in omega arith

-- ---- the first clash at an element

module _ (row : ElementKind) (c : Scope) (ms : List SiblingKey) (e : Tree) where
  -- an element without a kind
  none_of_kind : kind_of row (inside c e) e.name ≡ None → (p : List ℕ) (key : Key) → RepeatsHere row c ms e p key → ⊥
  none_of_kind none [] key h = let m = mark_parts row c e h.0 h.1.0 in let k = m.by_kind in cc
  none_of_kind none (n ∷ p) key h = let k = h.1.0 in cc

  pub at_none : (here : List ℕ) → kind_of row (inside c e) e.name ≡ None → IsFirstInOrder (RepeatsHere row c ms e) here None
  at_none here none = none_of_kind none

  module _ (kind : ElementKind) (of_kind : kind_of row (inside c e) e.name ≡ Some kind) where
    -- it repeats a key itself
    here_from : (key : Key) → RepeatedKey ms kind e.attrs (Some key) → RepeatsHere row c ms e [] key
    here_from key h = let r = (h key).0 refl in (sibling_key kind r.0, (mark_in row c e kind key r.0 of_kind r.1.0 r.1.1, r.1.2, r.1.0))

    here_to : (o : Option Key) (key : Key) → RepeatedKey ms kind e.attrs o → RepeatsHere row c ms e [] key → o ≡ Some key
    here_to o key h r =
        let parts = mark_parts row c e r.0 r.1.0 in
        let same : kind ≡ r.0.kind = same_Some _ _ (sym of_kind ∙ parts.by_kind) in
        let k : key_of kind ≡ Some key = subst (λ x. key_of x ≡ Some key) (sym same) r.1.2 in
        let v : key_value kind e.attrs ≡ Some r.0.value = subst (λ x. key_value x e.attrs ≡ Some r.0.value) (sym same) parts.by_value in
        let m : IsAmong ms (sibling_key kind r.0.value) = subst (λ x. IsAmong ms (sibling_key x r.0.value)) (sym same) r.1.1 in
        (h key).1 (r.0.value, (k, sym (value_in kind key e.attrs k) ∙ v, m))

    pub at_here : (here : List ℕ) (clash : Clash) → clash.path ≡ here → RepeatedKey ms kind e.attrs (Some clash.key) → IsFirstInOrder (RepeatsHere row c ms e) here (Some clash)
    at_here here clash is h = ([], (is ∙ sym (append-nil here), here_from clash.key h, λ q key r. tt))

    below_to : (n : ℕ) (p : List ℕ) (key : Key) → RepeatsHere row c ms e (n ∷ p) key → RepeatsKeyAt kind (inside c e) (child_elements_of e) (n ∷ p) key
    below_to n p key r = subst (λ x. RepeatsKeyAt x (inside c e) (child_elements_of e) (n ∷ p) key) (same_Some _ _ (sym r.1.0 ∙ of_kind)) r.1.1

    not_here : RepeatedKey ms kind e.attrs None → (key : Key) → RepeatsHere row c ms e [] key → ⊥
    not_here h key r = let k = here_to None key h r in cc

    -- it doesn't, and so the first is the one below it
    later : (p : List ℕ) → RepeatedKey ms kind e.attrs None → ((q : List ℕ) (key : Key) → RepeatsKeyAt kind (inside c e) (child_elements_of e) q key → IsNotAfter p q) → (q : List ℕ) (key : Key) → RepeatsHere row c ms e q key → IsNotAfter p q
    later p h first [] key r = absurd (not_here h key r)
    later p h first (m ∷ q) key r = first (m ∷ q) key (below_to m q key r)

    nothing : RepeatedKey ms kind e.attrs None → ((q : List ℕ) (key : Key) → RepeatsKeyAt kind (inside c e) (child_elements_of e) q key → ⊥) → (q : List ℕ) (key : Key) → RepeatsHere row c ms e q key → ⊥
    nothing h none [] key r = not_here h key r
    nothing h none (m ∷ q) key r = none (m ∷ q) key (below_to m q key r)

    below_from : (p : List ℕ) (key : Key) → RepeatsKeyAt kind (inside c e) (child_elements_of e) p key → RepeatsHere row c ms e p key
    below_from [] key r = absurd r
    below_from (n ∷ p) key r = (kind, (of_kind, r))

    pub at_below : (here : List ℕ) (r : Option Clash) → RepeatedKey ms kind e.attrs None → IsFirstInOrder (RepeatsKeyAt kind (inside c e) (child_elements_of e)) here r → IsFirstInOrder (RepeatsHere row c ms e) here r
    at_below here None h f = nothing h f
    at_below here (Some clash) h f = (f.0, (f.1.0, below_from f.0 clash.key f.1.1, later f.0 h f.1.2))

-- ---- the first clash among the children of an element

abbrev pub NoneBefore : ElementKind → Scope → List Tree → ℕ → Type 0
NoneBefore row c xs i = (n : ℕ) (p : List ℕ) (key : Key) → n < i → RepeatsKeyAt row c xs (n ∷ p) key → ⊥

-- the i-th child is this one
module _ (row : ElementKind) (c : Scope) (xs : List Tree) (child_element : Tree) (i : ℕ) (there : slice_get xs i ≡ Some child_element) where
  -- the marks of the earlier siblings
  abbrev earlier : List SiblingKey
  earlier = marks_of row c (take i xs)

  here_to_kid : (p : List ℕ) (key : Key) → RepeatsKeyAt row c xs (i ∷ p) key → RepeatsHere row c earlier child_element p key
  here_to_kid [] key r =
      (r.shared, (sym (ap (option_and_then (sibling_key_of row c)) there) ∙ r.this, among_from row c r.shared xs i r.earlier r.comes_first r.that, r.by_key))
  here_to_kid (n ∷ p) key r =
      let same = same_Some _ _ (sym r.1.1.0 ∙ there) in
      (r.1.0, (subst (λ x. kind_of row (inside c x) x.name ≡ Some r.1.0) same r.1.1.1, subst (λ x. RepeatsKeyAt r.1.0 (inside c x) (child_elements_of x) (n ∷ p) key) same r.1.1.2))

  kid_to_here : (p : List ℕ) (key : Key) → RepeatsHere row c earlier child_element p key → RepeatsKeyAt row c xs (i ∷ p) key
  kid_to_here [] key r =
      let m = among_to row c r.0 xs i r.1.1 in
      record { shared = r.0; earlier = m.0; comes_first = m.1.0; that = m.1.1; this = ap (option_and_then (sibling_key_of row c)) there ∙ r.1.0; by_key = r.1.2 }
  kid_to_here (n ∷ p) key r = (child_element, (r.0, (there, r.1.0, r.1.1)))

  no_later : (p : List ℕ) → NoneBefore row c xs i → ((q : List ℕ) (key : Key) → RepeatsHere row c earlier child_element q key → IsNotAfter p q) → (q : List ℕ) (key : Key) → RepeatsKeyAt row c xs q key → IsNotAfter (i ∷ p) q
  no_later p none first [] key r = r
  no_later p none first (n ∷ q) key r =
      elim (cases_lt n i) [
        | inl lt ↦ absurd (none n q key lt r)
        | inr ge ↦ elim (cases_lt i n) [
          | inl lt ↦ inl lt
          | inr le ↦ (let e : n ≡ i = omega arith in inr (sym e, first q key (here_to_kid q key (subst (λ m. RepeatsKeyAt row c xs (m ∷ q) key) e r))))
        ]
      ]

  pub found : (path here : List ℕ) (clash : Clash) → here ≡ path ++ i ∷ [] → NoneBefore row c xs i → IsFirstInOrder (RepeatsHere row c earlier child_element) here (Some clash) → IsFirstInOrder (RepeatsKeyAt row c xs) path (Some clash)
  found path here clash is none f = (i ∷ f.0, (f.1.0 ∙ ap (λ x. x ++ f.0) is ∙ append_assoc path (i ∷ []) f.0, kid_to_here f.0 clash.key f.1.1, no_later f.0 none f.1.2))

  pub passed : NoneBefore row c xs i → ((p : List ℕ) (key : Key) → RepeatsHere row c earlier child_element p key → ⊥) → (next : ℕ) → next ≡ suc i → NoneBefore row c xs next
  passed none not_it next is n p key lt r =
      elim (cases_lt n i) [
        | inl less ↦ none n p key less r
        | inr ge ↦ (let e : n ≡ i = omega arith in not_it p key (here_to_kid p key (subst (λ m. RepeatsKeyAt row c xs (m ∷ p) key) e r)))
      ]

there_within : (xs : List Tree) (n : ℕ) (child_element : Tree) → slice_get xs n ≡ Some child_element → n < length xs
there_within [] n child_element h = cc
there_within (x ∷ xs) zero child_element h = omega arith
there_within (x ∷ xs) (suc n) child_element h = let lt = there_within xs n child_element h in omega arith

pub repeats_within : (row : ElementKind) (c : Scope) (xs : List Tree) (n : ℕ) (p : List ℕ) (key : Key) → RepeatsKeyAt row c xs (n ∷ p) key → n < length xs
repeats_within row c xs n [] key r = mark_within row c r.shared xs n r.this
repeats_within row c xs n (m ∷ p) key r = there_within xs n r.0 r.1.1.0

pub none_at_end : (row : ElementKind) (c : Scope) (xs : List Tree) (i : ℕ) → i ≡ length xs → NoneBefore row c xs i → (p : List ℕ) (key : Key) → RepeatsKeyAt row c xs p key → ⊥
none_at_end row c xs i is none [] key r = r
none_at_end row c xs i is none (n ∷ p) key r = none n p key (subst (λ m. n < m) (sym is) (repeats_within row c xs n p key r)) r

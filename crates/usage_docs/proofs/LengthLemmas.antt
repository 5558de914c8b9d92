-- The printed length of the bindings inside an element, by the length of the bindings around it
-- and of its own; and of services as the index lists them.
use Rattle.std.proofs.Common.{◌≡◌, Ordering, Less, Equal, Greater, ℕ, ◌+◌, ◌<◌, min, Bool, true, false, cond, List, [], ◌∷◌, ◌++◌, length, get_or, drop, filter, flat_map, Option, Some, None, is_none, bytes_eq, refl, sym, ap, ◌∙◌, append-nil, arith}
use Rattle.std.proofs.lemmas.List.Concat.{flat_map-append}
use Rattle.std.proofs.lemmas.List.Elements.{filter-append}
use Rattle.std.specs.Cmp.Lexicographic.{bytes_decides}
use Rattle.std.specs.Option.{option_or}
use Rattle.std.specs.Ordering.{match_ordering}
use Rattle.xml_tree.specs.Tree.{Content, Tree, tree_of}
use Rattle.xml_names.specs.Markup.{print_decl, tag_front, byte_len}
use Rattle.xml_tree.specs.Print.{print, print_content, rest_of_element, is_empty}
use Rattle.xml_names.specs.inner.DeclarationMaps.{with_sorted_decls, sorted_bindings, with_sorted_decl}
use Rattle.xml_names.specs.Scopes.{AreSortedByPrefix, binds_prefix, in_scope_bindings, declared_uri}
use Rattle.xml_names.specs.declared.names.Attr.{Attr}
use Rattle.xml_names.specs.declared.names.Decl.{Decl}
use Rattle.xml_names.specs.declared.names.Name.{Name}
use Rattle.xml_tree.specs.declared.tree.Node.{Node}
use Rattle.xml_names.proofs.BindingLaws.{Behind, AreInOrder-with_sorted_decl, AreInOrder-with_sorted_decls}
use Rattle.xml_names.proofs.BindingWords.{gathered_are}
use Rattle.xml_names.proofs.ByteOrder.{order, order_same, order_equal}
use Rattle.xml_names.proofs.GatheringLemmas.{with_sorted_decls-append}
use Rattle.xml_names.proofs.PrintLengths.{byte_len-append, byte_len-tag_front}
use Rattle.xml_names.proofs.ScopeLemmas.{drop_item, option_or-none}
use Rattle.usage_docs.specs.SchemaTable.{Scope}
use Rattle.usage_docs.specs.Services.{listed_service}
use Rattle.usage_docs.specs.readers.ServiceNodes.{elems_len, listed_nodes}
use Rattle.usage_docs.specs.readers.ServiceLengths.{decls_len}
use Rattle.usage_docs.proofs.ListingLemmas.{listed_step}

-- ---- sums
zero_behind : (n : ℕ) → n ≡ n + 0
zero_behind n = omega arith

zero_before : (n : ℕ) → 0 + n ≡ n
zero_before n = omega arith

turned : (a b : ℕ) → a + b ≡ b + a
turned a b = omega arith

grouped : (a b c : ℕ) → a + (b + c) ≡ (a + b) + c
grouped a b c = omega arith

-- sums capped at the greatest number
module _ (m : ℕ) where
  pub two_capped : (a b p q r w : ℕ) → p ≡ min a m → q ≡ min b m → r ≡ min (p + q) m → w ≡ a + b → r ≡ min w m
  two_capped a b p q r w first second made whole = omega arith

  pub next_capped : (t x y z w r n : ℕ) → min (t + w) m ≡ z → n ≡ min x m → r ≡ min (t + n) m → w ≡ x + y → min (r + y) m ≡ z
  next_capped t x y z w r n before one made parts = omega arith

-- ---- the length of declarations
decls_two : (a b : List Decl) → decls_len (a ++ b) ≡ decls_len a + decls_len b
decls_two a b = ap byte_len (flat_map-append print_decl a b) ∙ byte_len-append (flat_map print_decl a) (flat_map print_decl b)

pub first_more : (d : Decl) (ds : List Decl) → decls_len (d ∷ ds) ≡ byte_len (print_decl d) + decls_len ds
first_more d ds = byte_len-append (print_decl d) (flat_map print_decl ds)

pub only_one : (d : Decl) → decls_len (d ∷ []) ≡ byte_len (print_decl d)
only_one d = first_more d [] ∙ sym (zero_behind (byte_len (print_decl d)))

-- the length of an element without its declarations, and of its declarations
whole_opening : (w b o p e d x y : ℕ) → w ≡ o + e → b ≡ p + e → o ≡ x + (d + y) + 1 → p ≡ x + (0 + y) + 1 → w ≡ b + d
whole_opening w b o p e d x y whole bare begins alone = omega arith

pub with_decls : (n : Name) (ds : List Decl) (ats : List Attr) (k : Content) → byte_len (print (tree_of n ds ats k)) ≡ byte_len (print (tree_of n [] ats k)) + decls_len ds
with_decls n ds ats k =
    let end = rest_of_element n (is_empty k) (print_content k) in
    whole_opening _ _ _ _ _ _ _ _ (byte_len-append (tag_front n ds ats) end) (byte_len-append (tag_front n [] ats) end) (byte_len-tag_front n ds ats) (byte_len-tag_front n [] ats)

-- ---- the bindings whose prefixes declarations don't redeclare
abbrev pub kept : List Decl → List Decl → List Decl
kept own bs = filter (λ b. is_none (declared_uri own b.prefix)) bs

-- no declarations hide nothing
all_kept : (bs : List Decl) → kept [] bs ≡ bs
all_kept [] = refl
all_kept (b ∷ bs) = ap (λ (ds : List Decl). b ∷ ds) (all_kept bs)

-- ---- what is left of a list of declarations: the ones that bind, and whose prefixes others
-- don't redeclare
abbrev left : List Decl → List Decl → ℕ
left own g = decls_len (kept own (filter binds_prefix g))

two : (own a b : List Decl) → left own (a ++ b) ≡ left own a + left own b
two own a b =
    ap (λ (ds : List Decl). decls_len (kept own ds)) (filter-append binds_prefix a b)
    ∙ ap decls_len (filter-append (λ (x : Decl). is_none (declared_uri own x.prefix)) (filter binds_prefix a) (filter binds_prefix b)) ∙ decls_two (kept own (filter binds_prefix a)) (kept own (filter binds_prefix b))

-- one declaration, by whether others redeclare it
module _ (x : Decl) where
  same_test : (f g : Decl → Bool) → f x ≡ g x → decls_len (filter f (filter binds_prefix (x ∷ []))) ≡ decls_len (filter g (filter binds_prefix (x ∷ [])))
  same_test f g e = by (binds_prefix x)
    where
      by : (b : Bool) → decls_len (filter f (cond b (x ∷ []) [])) ≡ decls_len (filter g (cond b (x ∷ []) []))
      by true = ap (λ (t : Bool). decls_len (cond t (x ∷ []) [])) e
      by false = refl

  failed_test : (f : Decl → Bool) → f x ≡ false → decls_len (filter f (filter binds_prefix (x ∷ []))) ≡ 0
  failed_test f e = by (binds_prefix x)
    where
      by : (b : Bool) → decls_len (filter f (cond b (x ∷ []) [])) ≡ 0
      by true = ap (λ (t : Bool). decls_len (cond t (x ∷ []) [])) e
      by false = refl

-- one more declaration of another prefix, and of the same prefix
module _ (d : Decl) (ds : List Decl) where
  tested : (x : Decl) (b : Bool) → bytes_eq d.prefix x.prefix ≡ b → is_none (declared_uri (d ∷ ds) x.prefix) ≡ is_none (option_or (declared_uri ds x.prefix) (cond b (Some d.uri) None))
  tested x b e = ap (λ (t : Bool). is_none (option_or (declared_uri ds x.prefix) (cond t (Some d.uri) None))) e

  hidden : (o : Option (List ℕ)) → is_none (option_or o (Some d.uri)) ≡ false
  hidden None = refl
  hidden (Some u) = refl

  other_left : (x : Decl) → bytes_eq d.prefix x.prefix ≡ false → left (d ∷ ds) (x ∷ []) ≡ left ds (x ∷ [])
  other_left x e =
      same_test x (λ (y : Decl). is_none (declared_uri (d ∷ ds) y.prefix)) (λ (y : Decl). is_none (declared_uri ds y.prefix)) (tested x false e ∙ ap is_none (option_or-none (declared_uri ds x.prefix)))

  none_left : (x : Decl) → bytes_eq d.prefix x.prefix ≡ true → left (d ∷ ds) (x ∷ []) ≡ 0
  none_left x e = failed_test x (λ (y : Decl). is_none (declared_uri (d ∷ ds) y.prefix)) (tested x true e ∙ hidden (declared_uri ds x.prefix))

pub unlike : (p q : List ℕ) → (order p q ≡ Equal → ⊥) → bytes_eq p q ≡ false
unlike p q apart = by (bytes_eq p q) refl
  where
    by : (b : Bool) → bytes_eq p q ≡ b → b ≡ false
    by false e = refl
    by true e = let same : p ≡ q = (bytes_decides p q).0 e in absurd (apart (ap (order p) (sym same) ∙ order_same p))

-- a declaration of a prefix doesn't change the ones after it
all_left : (d : Decl) (ds g : List Decl) → Behind d.prefix g → left (d ∷ ds) g ≡ left ds g
all_left d ds [] h = refl
all_left d ds (x ∷ g) h =
    let first = other_left d ds x (unlike d.prefix x.prefix (λ e. let both : Less ≡ Equal = sym h.0 ∙ e in cc)) in
    let others = all_left d ds g h.1 in
    two (d ∷ ds) (x ∷ []) g ∙ (λ i. first i + others i) ∙ sym (two ds (x ∷ []) g)

-- one more declaration around others
one_more : (d : Decl) (ds g : List Decl) → AreSortedByPrefix g → left ds (with_sorted_decl d g) ≡ left (d ∷ ds) g + left ds (d ∷ [])
one_more d ds [] h = sym (zero_before (left ds (d ∷ [])))
one_more d ds (x ∷ g) h = by (order d.prefix x.prefix) refl (AreInOrder-with_sorted_decl d (x ∷ g) h) (one_more d ds g h.1)
  where
    by : (o : Ordering) → order d.prefix x.prefix ≡ o → AreSortedByPrefix (match_ordering o (d ∷ x ∷ g) (d ∷ g) (x ∷ with_sorted_decl d g)) → left ds (with_sorted_decl d g) ≡ left (d ∷ ds) g + left ds (d ∷ [])
        → left ds (match_ordering o (d ∷ x ∷ g) (d ∷ g) (x ∷ with_sorted_decl d g)) ≡ left (d ∷ ds) (x ∷ g) + left ds (d ∷ [])
    by Less is all rest =
        two ds (d ∷ []) (x ∷ g) ∙ ap (λ (n : ℕ). left ds (d ∷ []) + n) (sym (all_left d ds (x ∷ g) all.0)) ∙ turned (left ds (d ∷ [])) (left (d ∷ ds) (x ∷ g))
    by Equal is all rest =
        let first = none_left d ds x ((bytes_decides d.prefix x.prefix).1 (order_equal d.prefix x.prefix is)) in
        let others = all_left d ds g all.0 in
        let after : left (d ∷ ds) (x ∷ g) ≡ left ds g = two (d ∷ ds) (x ∷ []) g ∙ (λ i. first i + others i) ∙ zero_before (left ds g) in
        two ds (d ∷ []) g ∙ ap (λ (n : ℕ). left ds (d ∷ []) + n) (sym after) ∙ turned (left ds (d ∷ [])) (left (d ∷ ds) (x ∷ g))
    by Greater is all rest =
        let first = sym (other_left d ds x (unlike d.prefix x.prefix (λ e. let both : Greater ≡ Equal = sym is ∙ e in cc))) in
        two ds (x ∷ []) (with_sorted_decl d g) ∙ (λ i. first i + rest i) ∙ grouped (left (d ∷ ds) (x ∷ [])) (left (d ∷ ds) g) (left ds (d ∷ []))
        ∙ ap (λ (n : ℕ). n + left ds (d ∷ [])) (sym (two (d ∷ ds) (x ∷ []) g))

-- declarations around others: what they leave of the others, and what they bind themselves
all_more : (own g : List Decl) → AreSortedByPrefix g → decls_len (filter binds_prefix (with_sorted_decls g own)) ≡ left own g + decls_len (filter binds_prefix (with_sorted_decls [] own))
all_more [] g h = ap decls_len (sym (all_kept (filter binds_prefix g))) ∙ zero_behind (left [] g)
all_more (d ∷ ds) g h =
    let inner = decls_len (filter binds_prefix (with_sorted_decls [] ds)) in
    all_more ds (with_sorted_decl d g) (AreInOrder-with_sorted_decl d g h) ∙ ap (λ (n : ℕ). n + inner) (one_more d ds g h) ∙ sym (grouped (left (d ∷ ds) g) (left ds (d ∷ [])) inner)
    ∙ ap (λ (n : ℕ). left (d ∷ ds) g + n) (sym (all_more ds (d ∷ []) (tt, tt)))

-- the declarations collected inside a child of a root
gathered_inside : (root own : List Decl) → decls_len (sorted_bindings (root ∷ own ∷ [])) ≡ decls_len (kept own (sorted_bindings (root ∷ []))) + decls_len (sorted_bindings (own ∷ []))
gathered_inside root own =
    let inner = decls_len (sorted_bindings (own ∷ [])) in
    ap (λ (ds : List Decl). decls_len (filter binds_prefix ds)) (with_sorted_decls-append [] root (own ++ []))
    ∙ all_more (own ++ []) (with_sorted_decls [] root) (AreInOrder-with_sorted_decls [] root tt)
    ∙ ap (λ (ds : List Decl). left ds (with_sorted_decls [] root) + inner) (append-nil own)
    ∙ ap (λ (ds : List Decl). left own (with_sorted_decls [] ds) + inner) (sym (append-nil root))

-- the bindings there
pub bound_inside : (root own : List Decl) → decls_len (in_scope_bindings (root ∷ own ∷ [])) ≡ decls_len (kept own (in_scope_bindings (root ∷ []))) + decls_len (in_scope_bindings (own ∷ []))
bound_inside root own =
    ap decls_len (sym (gathered_are (root ∷ own ∷ []))) ∙ gathered_inside root own
    ∙ ap (λ (ds : List Decl). decls_len (kept own ds) + decls_len (sorted_bindings (own ∷ []))) (gathered_are (root ∷ []))
    ∙ ap (λ (ds : List Decl). decls_len (kept own (in_scope_bindings (root ∷ []))) + decls_len ds) (gathered_are (own ∷ []))

-- ---- a service as the index lists it
no_decls : (ds : List Decl) → length ds ≡ 0 → ds ≡ []
no_decls [] h = refl
no_decls (d ∷ ds) h = absurd (omega (arith, h))

-- a service without declarations
pub plain_service : (root : List Decl) (e : Tree) → length e.decls ≡ 0 → byte_len (print (listed_service (root ∷ []) e)) ≡ byte_len (print e) + decls_len (in_scope_bindings (root ∷ []))
plain_service root e h =
    let none = no_decls e.decls h in
    ap (λ (ds : List Decl). byte_len (print (tree_of e.name (in_scope_bindings (root ∷ ds ∷ [])) e.attrs e.content))) none
    ∙ with_decls e.name (in_scope_bindings (root ∷ [])) e.attrs e.content
    ∙ ap (λ (ds : List Decl). byte_len (print (tree_of e.name ds e.attrs e.content)) + decls_len (in_scope_bindings (root ∷ []))) (sym none)

-- a service with declarations, by its length without them
pub own_service : (root : List Decl) (e : Tree)
    → byte_len (print (listed_service (root ∷ []) e))
    ≡ byte_len (print (tree_of e.name [] e.attrs e.content)) + (decls_len (kept e.decls (in_scope_bindings (root ∷ []))) + decls_len (in_scope_bindings (e.decls ∷ [])))
own_service root e =
    with_decls e.name (in_scope_bindings (root ∷ e.decls ∷ [])) e.attrs e.content
    ∙ ap (λ (n : ℕ). byte_len (print (tree_of e.name [] e.attrs e.content)) + n) (bound_inside root e.decls)

-- ---- the services among nodes
elems_append : (ms ns : List Node) → elems_len (ms ++ ns) ≡ elems_len ms + elems_len ns
elems_append [] ns = omega arith
elems_append (m ∷ ms) ns = let e = elems_append ms ns in omega arith

module _ (c : Scope) where
  pub next_listed : (ns : List Node) (i : ℕ) (n : Node) → i < length ns → n ≡ get_or ns i n
      → elems_len (listed_nodes c (drop i ns)) ≡ elems_len (listed_nodes c (n ∷ [])) + elems_len (listed_nodes c (drop (i + 1) ns))
  next_listed ns i n within is =
      ap (λ (ms : List Node). elems_len (listed_nodes c ms)) (drop_item ns i n within is) ∙ ap elems_len (listed_step c n (drop (i + 1) ns))
      ∙ elems_append (listed_nodes c (n ∷ [])) (listed_nodes c (drop (i + 1) ns))

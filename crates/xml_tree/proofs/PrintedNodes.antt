-- The print of a content, node by node.
use Rattle.std.proofs.Common.{◌≡◌, ℕ, ◌+◌, ◌<◌, ◌≤◌, min, true, false, List, [], ◌∷◌, ◌++◌, length, drop, get_or, refl, sym, ap, ◌∙◌, append_assoc, arith}
use Rattle.std.proofs.lemmas.Grind.{flat_map-append}
use Rattle.xml_tree.specs.Tree.{Content, last, more, comment_node, Tree}
use Rattle.xml_tree.specs.Edits.{with_text_prepended}
use Rattle.xml_tree.specs.Nodes.{content_of, AreNormalized}
use Rattle.xml_tree.specs.declared.tree.Node.{Node}
use Rattle.xml_tree.specs.declared.tree.Node.TheVariants.{Elem, Chars, Comment}
use Rattle.xml_names.specs.Markup.{byte_len, end_tag_text, tag_front, print_comment, print_text, text_escape}
use Rattle.xml_tree.specs.Print.{rest_of_element, is_empty, print, print_content}
use Rattle.xml_tree.specs.inner.Print.{print_node}
use Rattle.xml_names.proofs.ScopeLemmas.{drop_item}
use Rattle.xml_names.proofs.PrintLengths.{byte_len-append, ascii}

pub print-before : (t : List ℕ) (c : Content) → print_content (with_text_prepended t c) ≡ print_text t ++ print_content c
print-before t (last u) = flat_map-append text_escape t u
print-before t (more u n ds ats c rest) =
    let after = (tag_front n ds ats ++ rest_of_element n (is_empty c) (print_content c)) ++ print_content rest in
    ap (λ l. l ++ after) (flat_map-append text_escape t u) ∙ append_assoc (print_text t) (print_text u) after
print-before t (comment_node u x rest) =
    let after = print_comment x ++ print_content rest in
    ap (λ l. l ++ after) (flat_map-append text_escape t u) ∙ append_assoc (print_text t) (print_text u) after

-- a node, and what follows
pub print-nodes : (n : Node) (ns : List Node) → print_content (content_of (n ∷ ns)) ≡ print_node n ++ print_content (content_of ns)
print-nodes (Elem e) ns = refl
print-nodes (Chars t) ns = print-before t (content_of ns)
print-nodes (Comment x) ns = refl

pub byte_len-nodes : (ns : List Node) (i : ℕ) (n : Node) → i < length ns → n ≡ get_or ns i n
    → byte_len (print_content (content_of (drop i ns))) ≡ byte_len (print_node n) + byte_len (print_content (content_of (drop (i + 1) ns)))
byte_len-nodes ns i n within is =
    ap (λ l. byte_len (print_content (content_of l))) (drop_item ns i n within is) ∙ ap byte_len (print-nodes n (drop (i + 1) ns))
    ∙ byte_len-append (print_node n) (print_content (content_of (drop (i + 1) ns)))

-- a content has no nodes where it is the content of no nodes
before-full : (c : ℕ) (cs : List ℕ) (k : Content) → is_empty (with_text_prepended (c ∷ cs) k) ≡ false
before-full c cs (last u) = refl
before-full c cs (more u n ds ats k rest) = refl
before-full c cs (comment_node u x rest) = refl

pub no_nodes : (ns : List Node) (k : Content) → content_of ns ≡ k → length ns ≡ 0 → is_empty k ≡ true
no_nodes [] k is h = ap is_empty (sym is)
no_nodes (n ∷ ns) k is h = absurd (omega (arith, h))

first : (n : Node) (ns : List Node) → AreNormalized (n ∷ ns) → is_empty (content_of (n ∷ ns)) ≡ false
first (Elem e) ns h = refl
first (Chars []) ns h = absurd h.0
first (Chars (c ∷ cs)) ns h = before-full c cs (content_of ns)
first (Comment x) ns h = refl

pub some_nodes : (ns : List Node) (k : Content) → AreNormalized ns → content_of ns ≡ k → (length ns ≡ 0 → ⊥) → is_empty k ≡ false
some_nodes [] k normal is h = absurd (h refl)
some_nodes (n ∷ ns) k normal is h = ap is_empty (sym is) ∙ first n ns normal

-- ---- an element without nodes, and one with nodes
pub byte_len-bare : (e : Tree) → is_empty e.content ≡ true → byte_len (print e) ≡ byte_len (tag_front e.name e.decls e.attrs) + 2
byte_len-bare e h =
    byte_len-append (tag_front e.name e.decls e.attrs) (rest_of_element e.name (is_empty e.content) (print_content e.content))
    ∙ ap (λ b. byte_len (tag_front e.name e.decls e.attrs) + byte_len (rest_of_element e.name b (print_content e.content))) h ∙ ap (λ n. byte_len (tag_front e.name e.decls e.attrs) + n) slash
  where
    slash : byte_len (rest_of_element e.name true (print_content e.content)) ≡ 2
    slash = ascii 47 (62 ∷ []) (omega arith) ∙ ap (λ n. n + 1) (ascii 62 [] (omega arith))

pub byte_len-whole : (e : Tree) → is_empty e.content ≡ false
    → byte_len (print e) ≡ byte_len (tag_front e.name e.decls e.attrs) + byte_len (print_content e.content) + byte_len (end_tag_text e.name) + 1
byte_len-whole e h =
    let parts = byte_len-append (tag_front e.name e.decls e.attrs) (rest_of_element e.name (is_empty e.content) (print_content e.content)) in
    let rest = ap (λ b. byte_len (rest_of_element e.name b (print_content e.content))) h in
    let mark = ascii 62 (print_content e.content ++ end_tag_text e.name) (omega arith) in
    let inside = byte_len-append (print_content e.content) (end_tag_text e.name) in
    omega (arith, parts, rest, mark, inside)

-- ---- sums capped at the greatest number
module _ (m : ℕ) where
  pub bare_sum : (a o r p : ℕ) → o ≡ min a m → r ≡ min (o + 2) m → p ≡ a + 2 → r ≡ min p m
  bare_sum a o r p begins made whole = omega arith

  pub next_sum : (t x y z w r n : ℕ) → min (t + w) m ≡ z → n ≡ min x m → r ≡ min (t + n) m → w ≡ x + y → min (r + y) m ≡ z
  next_sum t x y z w r n with_text_prepended one made parts = omega arith

  pub whole_sum : (a b c n o i r s u p k : ℕ) → o ≡ min a m → min (i + k) m ≡ min b m → i ≤ m → k ≡ 0 → n ≡ min c m
      → r ≡ min (o + i) m → s ≡ min (r + n) m → u ≡ min (s + 4) m → p ≡ a + b + (c + 3) + 1 → u ≡ min p m
  whole_sum a b c n o i r s u p k begins inside fits end name one two three whole = omega arith

-- Prints composed from left to right.
use Rattle.std.proofs.Common.{◌≡◌, ℕ, ◌+◌, ◌<◌, ◌≤◌, Bool, true, false, List, [], ◌∷◌, ◌++◌, length, drop, get_or, refl, sym, ap, ◌∙◌, append_assoc}
use Rattle.std.proofs.lemmas.List.{append-nil, drop_all}
use Rattle.xml_tree.specs.Nodes.{content_of, AreNormalized}
use Rattle.xml_names.specs.Markup.{end_tag_text, xmlns_name}
use Rattle.xml_tree.specs.Print.{rest_of_element, is_empty, print_content}
use Rattle.xml_tree.specs.inner.Print.{print_node}
use Rattle.xml_tree.specs.Tree.{Tree}
use Rattle.xml_names.specs.declared.names.Name.{Name}
use Rattle.xml_tree.specs.declared.tree.Node.{Node}
use Rattle.xml_tree.proofs.PrintedNodes.{print-nodes, no_nodes, some_nodes}
use Rattle.xml_names.proofs.ScopeLemmas.{drop_item}
use Rattle.std.specs.Prelude.{codes}
use Rattle.std.specs.Str.{bytes_eq, chars}

pub three : (a x y z : List ℕ) → ((a ++ x) ++ y) ++ z ≡ a ++ (x ++ (y ++ z))
three a x y z = append_assoc (a ++ x) y z ∙ append_assoc a x (y ++ z)

pub set_value : (a v : List ℕ) (c d : ℕ) → ((a ++ c ∷ (d ∷ [])) ++ v) ++ d ∷ [] ≡ a ++ c ∷ (d ∷ (v ++ d ∷ []))
set_value a v c d = three a (c ∷ (d ∷ [])) v (d ∷ [])

-- texts of the code, read as characters

pub letters_apos : chars (38 ∷ 97 ∷ 112 ∷ 111 ∷ 115 ∷ 59 ∷ []) ≡ 38 ∷ 97 ∷ 112 ∷ 111 ∷ 115 ∷ 59 ∷ []
unfolding chars
letters_apos = refl

pub letters_xmlns : chars (120 ∷ 109 ∷ 108 ∷ 110 ∷ 115 ∷ []) ≡ 120 ∷ 109 ∷ 108 ∷ 110 ∷ 115 ∷ []
unfolding chars
letters_xmlns = refl

pub letters_xmlns_colon : chars (120 ∷ 109 ∷ 108 ∷ 110 ∷ 115 ∷ 58 ∷ []) ≡ 120 ∷ 109 ∷ 108 ∷ 110 ∷ 115 ∷ 58 ∷ []
unfolding chars
letters_xmlns_colon = refl

pub letters_empty_end : chars (47 ∷ 62 ∷ []) ≡ 47 ∷ 62 ∷ []
unfolding chars
letters_empty_end = refl

pub letters_end_start : chars (60 ∷ 47 ∷ []) ≡ 60 ∷ 47 ∷ []
unfolding chars
letters_end_start = refl

pub letters_value_start : chars (61 ∷ 34 ∷ []) ≡ 61 ∷ 34 ∷ []
unfolding chars
letters_value_start = refl

pub letters_comment_start : chars (60 ∷ 33 ∷ 45 ∷ 45 ∷ []) ≡ 60 ∷ 33 ∷ 45 ∷ 45 ∷ []
unfolding chars
letters_comment_start = refl

pub letters_comment_end : chars (45 ∷ 45 ∷ 62 ∷ []) ≡ 45 ∷ 45 ∷ 62 ∷ []
unfolding chars
letters_comment_end = refl

pub letters_header : chars (codes "<?xml version=\"1.0\" encoding=\"UTF-8\"?>\n") ≡ codes "<?xml version=\"1.0\" encoding=\"UTF-8\"?>" ++ 10 ∷ []
unfolding chars
letters_header = refl

pub ruleset literals = (letters_apos, letters_xmlns, letters_xmlns_colon, letters_empty_end, letters_end_start, letters_value_start, letters_comment_start, letters_comment_end, letters_header)

-- ---- nodes and elements

pub node_next : (out old : List ℕ) (nodes : List Node) (i : ℕ) (n : Node) → i < length nodes → n ≡ get_or nodes i n → out ++ print_content (content_of (drop i nodes)) ≡ old → (out ++ print_node n) ++ print_content (content_of (drop (i + 1) nodes)) ≡ old
node_next out old nodes i n lt is so_far =
    let next : print_content (content_of (drop i nodes)) ≡ print_node n ++ print_content (content_of (drop (i + 1) nodes)) = ap (λ l. print_content (content_of l)) (drop_item nodes i n lt is) ∙ print-nodes n (drop (i + 1) nodes) in
    append_assoc out (print_node n) (print_content (content_of (drop (i + 1) nodes))) ∙ ap (λ (z : List ℕ). out ++ z) (sym next) ∙ so_far

pub node_end : (out old : List ℕ) (nodes : List Node) (i : ℕ) → length nodes ≤ i → out ++ print_content (content_of (drop i nodes)) ≡ old → out ≡ old
node_end out old nodes i le so_far = sym (append-nil out) ∙ ap (λ (z : List Node). out ++ print_content (content_of z)) (sym (drop_all i nodes le)) ∙ so_far

pub ending_bare : (n : Name) (empty : Bool) (inside : List ℕ) → empty ≡ true → rest_of_element n empty inside ≡ 47 ∷ 62 ∷ []
ending_bare n empty inside h = rw h refl

pub ending_filled : (n : Name) (empty : Bool) (inside : List ℕ) → empty ≡ false → rest_of_element n empty inside ≡ 62 ∷ (inside ++ end_tag_text n)
ending_filled n empty inside h = rw h refl

pub bare_end : (old out : List ℕ) (e : Tree) (nodes : List Node) → content_of nodes ≡ e.content → length nodes ≡ 0 → out ≡ old ++ chars (47 ∷ 62 ∷ []) → out ≡ old ++ rest_of_element e.name (is_empty e.content) (print_content e.content)
bare_end old out e nodes same none h = h ∙ ap (λ (z : List ℕ). old ++ z) (letters_empty_end ∙ sym (ending_bare e.name (is_empty e.content) (print_content e.content) (no_nodes nodes e.content same none)))

pub filled_end : (old begun inside out : List ℕ) (e : Tree) (nodes : List Node) (i : ℕ) → content_of nodes ≡ e.content → AreNormalized nodes → (length nodes ≡ 0 → ⊥) → length nodes ≤ i → begun ≡ old ++ 62 ∷ []
    → inside ++ print_content (content_of (drop i nodes)) ≡ begun ++ print_content (content_of nodes) → out ≡ inside ++ end_tag_text e.name → out ≡ old ++ rest_of_element e.name (is_empty e.content) (print_content e.content)
filled_end old begun inside out e nodes i same normal some le b so_far h =
    let all : inside ≡ begun ++ print_content e.content = node_end inside (begun ++ print_content (content_of nodes)) nodes i le so_far ∙ ap (λ z. begun ++ print_content z) same in
    let filled : rest_of_element e.name (is_empty e.content) (print_content e.content) ≡ 62 ∷ (print_content e.content ++ end_tag_text e.name) = ending_filled e.name (is_empty e.content) (print_content e.content) (some_nodes nodes e.content normal same some) in
    h ∙ ap (λ (z : List ℕ). z ++ end_tag_text e.name) (all ∙ ap (λ (z : List ℕ). z ++ print_content e.content) b) ∙ three old (62 ∷ []) (print_content e.content) (end_tag_text e.name) ∙ ap (λ (z : List ℕ). old ++ z) (sym filled)

pub prefixed_end : (old begun out prefix text : List ℕ) → bytes_eq prefix [] ≡ false → begun ≡ old ++ chars (120 ∷ 109 ∷ 108 ∷ 110 ∷ 115 ∷ 58 ∷ []) → chars text ≡ prefix → out ≡ begun ++ chars text → out ≡ old ++ xmlns_name prefix
prefixed_end old begun out prefix text n b t h =
    let word : begun ≡ old ++ (120 ∷ 109 ∷ 108 ∷ 110 ∷ 115 ∷ 58 ∷ []) = b ∙ ap (λ (z : List ℕ). old ++ z) letters_xmlns_colon in
    let named : xmlns_name prefix ≡ (120 ∷ 109 ∷ 108 ∷ 110 ∷ 115 ∷ 58 ∷ []) ++ prefix = rw n refl in
    h ∙ ap (λ (z : List ℕ). begun ++ z) t ∙ ap (λ (z : List ℕ). z ++ prefix) word ∙ append_assoc old (120 ∷ 109 ∷ 108 ∷ 110 ∷ 115 ∷ 58 ∷ []) prefix ∙ ap (λ (z : List ℕ). old ++ z) (sym named)

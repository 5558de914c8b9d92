-- Parts that are opened: a piece is in front, and the rest of the print is pushed.
use Rattle.std.proofs.Common.{◌≡◌, ℕ, ◌+◌, ◌*◌, ◌<◌, ◌≤◌, max, suc, Bool, true, false, codes, List, [], ◌∷◌, ◌++◌, length, flat_map, encode_utf8_all, IsUtf8, refl, sym, ap, ◌∙◌, subst, arith, append_assoc, append-nil}
use Rattle.std.specs.Str.{bytes_eq, chars}
use Rattle.std.proofs.lemmas.Str.{chars-nil, encodes-append, encodes-chars}
use Rattle.xml_names.specs.Markup.{byte_len, end_tag_text, print_attr, print_comment, print_decl, print_name, quoted_value, tag_front, value_escape, xmlns_name}
use Rattle.xml_names.specs.declared.names.Attr.{Attr}
use Rattle.xml_names.specs.declared.names.Decl.{Decl}
use Rattle.xml_names.specs.declared.names.Name.{Name}
use Rattle.xml_tree.specs.Nodes.{content_of, nodes_of, text_node, node_height, AreNormalized}
use Rattle.xml_tree.specs.Print.{header, is_empty, print, print_content}
use Rattle.xml_tree.specs.Tree.{Content, last, more, comment_node, Tree, tree_of, content_height}
use Rattle.xml_tree.specs.declared.tree.Node.{Node}
use Rattle.xml_tree.specs.declared.tree.Node.TheVariants.{Elem, Chars, Comment}
use Rattle.xml_tree.specs.inner.Heights.{content_height-before}
use Rattle.xml_tree.specs.inner.Print.{print_node}
use Rattle.xml_tree.proofs.PrintedNodes.{print-nodes, no_nodes, some_nodes}
use Rattle.tree_print.specs.declared.parts.Part.{Part}
use Rattle.tree_print.specs.declared.parts.TheConstants.{CAPACITY}
use Rattle.tree_print.specs.inner.Parts.{Opens, Pending, attr_pieces, content_pieces, decl_pieces, ending_print, node_pieces, part_pieces, part_print, text_pieces, total}
use Rattle.tree_print.proofs.PrintLemmas.{ending_bare, ending_filled, letters_comment_end, letters_comment_start, letters_empty_end, letters_end_start, letters_header, letters_value_start}

-- ---- a part that is opened

-- a piece, and what is pushed after it, are the print
pub opens_by : (text : List ℕ) (pieces : ℕ) (old new : Pending) (piece rest : List ℕ) (after : ℕ) → text ≡ chars piece ++ rest → new.text ≡ rest ++ old.text → new.pieces ≡ after + old.pieces → after < pieces → Opens text pieces old piece new
opens_by text pieces old new piece rest after is pushed counted less = record {
  splits = ap (λ (l : List ℕ). l ++ old.text) is ∙ append_assoc (chars piece) rest old.text ∙ ap (λ (l : List ℕ). chars piece ++ l) (sym pushed);
  fewer = omega (arith, counted, less);
}

-- a piece is the whole print
pub opens_whole : (text : List ℕ) (pieces : ℕ) (old : Pending) (piece : List ℕ) → text ≡ chars piece → 0 < pieces → Opens text pieces old piece old
opens_whole text pieces old piece is some = record {
  splits = ap (λ (l : List ℕ). l ++ old.text) is;
  fewer = omega (arith, some);
}

-- the second of two that are pushed is in front
pub two_pushed : (new mid old second first : List ℕ) → new ≡ second ++ mid → mid ≡ first ++ old → new ≡ (second ++ first) ++ old
two_pushed new mid old second first a b = a ∙ ap (λ (l : List ℕ). second ++ l) b ∙ sym (append_assoc second first old)

-- a part is opened with the rest of its print behind it
pub opens_in_front : (text rest : List ℕ) (pieces after : ℕ) (old mid new : Pending) (piece : List ℕ) → mid.text ≡ rest ++ old.text → mid.pieces ≡ after + old.pieces → Opens text pieces mid piece new → Opens (text ++ rest) (pieces + after) old piece new
opens_in_front text rest pieces after old mid new piece pushed counted opens = record {
  splits = append_assoc text rest old.text ∙ ap (λ (l : List ℕ). text ++ l) (sym pushed) ∙ opens.splits;
  fewer = omega (arith, counted, opens.fewer);
}

-- the same print in as many pieces
pub opens_same : (text text' : List ℕ) (pieces pieces' : ℕ) (old new : Pending) (piece : List ℕ) → text' ≡ text → pieces' ≡ pieces → Opens text pieces old piece new → Opens text' pieces' old piece new
opens_same text text' pieces pieces' old new piece same equal opens = record {
  splits = ap (λ (l : List ℕ). l ++ old.text) same ∙ opens.splits;
  fewer = omega (arith, equal, opens.fewer);
}

-- the same part
pub opens_part : (p q : Part) (old new : Pending) (piece : List ℕ) → p ≡ q → Opens (part_print q) (part_pieces q) old piece new → Opens (part_print p) (part_pieces p) old piece new
opens_part p q old new piece same opens = subst (λ (x : Part). Opens (part_print x) (part_pieces x) old piece new) (sym same) opens

-- ---- literals of the code

letters_colon : chars (58 ∷ []) ≡ 58 ∷ []
unfolding chars
letters_colon = refl

letters_close : chars (62 ∷ []) ≡ 62 ∷ []
unfolding chars
letters_close = refl

letters_quote : chars (34 ∷ []) ≡ 34 ∷ []
unfolding chars
letters_quote = refl

letters_space : chars (32 ∷ []) ≡ 32 ∷ []
unfolding chars
letters_space = refl

letters_open : chars (60 ∷ []) ≡ 60 ∷ []
unfolding chars
letters_open = refl

letters_decl : chars (codes " xmlns") ≡ codes " xmlns"
unfolding chars
letters_decl = refl

letters_prefix_decl : chars (codes " xmlns:") ≡ codes " xmlns:"
unfolding chars
letters_prefix_decl = refl

-- ---- names

pub name_bare : (n : Name) (l : List ℕ) → bytes_eq n.prefix [] ≡ true → chars l ≡ n.local → print_name n ≡ chars l
name_bare n l h same =
    let bare : print_name n ≡ n.local = rw h refl in
    bare ∙ sym same

pub name_split : (n : Name) (p l : List ℕ) → bytes_eq n.prefix [] ≡ false → chars p ≡ n.prefix → chars l ≡ n.local → print_name n ≡ chars p ++ (chars (58 ∷ []) ++ chars l)
name_split n p l h prefix local =
    let whole : print_name n ≡ n.prefix ++ 58 ∷ n.local = rw h refl in
    whole ∙ ap (λ (x : List ℕ). x ++ 58 ∷ n.local) (sym prefix) ∙ ap (λ (x : List ℕ). chars p ++ 58 ∷ x) (sym local)
    ∙ ap (λ (x : List ℕ). chars p ++ (x ++ chars l)) (sym letters_colon)

pub tag_split : (n : Name) → end_tag_text n ≡ chars (60 ∷ 47 ∷ []) ++ (print_name n ++ chars (62 ∷ []))
tag_split n =
    ap (λ (x : List ℕ). 60 ∷ 47 ∷ (print_name n ++ x)) (sym letters_close) ∙ ap (λ (x : List ℕ). x ++ (print_name n ++ chars (62 ∷ []))) (sym letters_end_start)

-- ---- declarations and attributes

pub set_pushed : (old one two three v value : List ℕ) → chars v ≡ value → one ≡ chars (34 ∷ []) ++ old → two ≡ flat_map value_escape (chars v) ++ one → three ≡ chars (61 ∷ 34 ∷ []) ++ two → three ≡ (61 ∷ quoted_value value) ++ old
set_pushed old one two three v value same a b c =
    let escaped = flat_map value_escape value in
    let inside : two ≡ escaped ++ (34 ∷ old) = b ∙ ap (λ (x : List ℕ). flat_map value_escape x ++ one) same ∙ ap (λ (x : List ℕ). escaped ++ x) (a ∙ ap (λ (x : List ℕ). x ++ old) letters_quote) in
    c ∙ ap (λ (x : List ℕ). x ++ two) letters_value_start ∙ ap (λ (x : List ℕ). 61 ∷ 34 ∷ x) (inside ∙ sym (append_assoc escaped (34 ∷ []) old))

pub decl_bare : (d : Decl) → bytes_eq d.prefix [] ≡ true → print_decl d ≡ chars (codes " xmlns") ++ (61 ∷ quoted_value d.uri)
decl_bare d h =
    let named : xmlns_name d.prefix ≡ codes "xmlns" = rw h refl in
    ap (λ (x : List ℕ). 32 ∷ (x ++ 61 ∷ quoted_value d.uri)) named ∙ ap (λ (x : List ℕ). x ++ (61 ∷ quoted_value d.uri)) (sym letters_decl)

pub decl_split : (d : Decl) (p : List ℕ) → bytes_eq d.prefix [] ≡ false → chars p ≡ d.prefix → print_decl d ≡ chars (codes " xmlns:") ++ (chars p ++ (61 ∷ quoted_value d.uri))
decl_split d p h same =
    let named : xmlns_name d.prefix ≡ codes "xmlns:" ++ d.prefix = rw h refl in
    ap (λ (x : List ℕ). 32 ∷ (x ++ 61 ∷ quoted_value d.uri)) (named ∙ ap (λ (x : List ℕ). codes "xmlns:" ++ x) (sym same)) ∙ ap (λ (x : List ℕ). x ++ (chars p ++ (61 ∷ quoted_value d.uri))) (sym letters_prefix_decl)

pub attr_split : (a : Attr) → print_attr a ≡ chars (32 ∷ []) ++ (print_name a.name ++ (61 ∷ quoted_value a.value))
attr_split a = ap (λ (x : List ℕ). x ++ (print_name a.name ++ (61 ∷ quoted_value a.value))) (sym letters_space)

-- ---- elements

pub ending_empty : (e : Tree) (nodes : List Node) → content_of nodes ≡ e.content → length nodes ≡ 0 → ending_print e ≡ chars (47 ∷ 62 ∷ [])
ending_empty e nodes same none = ending_bare e.name (is_empty e.content) (print_content e.content) (no_nodes nodes e.content same none) ∙ sym letters_empty_end

pub ending_split : (e : Tree) (nodes : List Node) (n : Name) → content_of nodes ≡ e.content → n ≡ e.name → AreNormalized nodes → (length nodes ≡ 0 → ⊥)
    → ending_print e ≡ chars (62 ∷ []) ++ (print_content (content_of nodes) ++ end_tag_text n)
ending_split e nodes n same named normal some =
    ending_filled e.name (is_empty e.content) (print_content e.content) (some_nodes nodes e.content normal same some)
    ∙ ap (λ (c : Content). 62 ∷ (print_content c ++ end_tag_text e.name)) (sym same) ∙ ap (λ (m : Name). 62 ∷ (print_content (content_of nodes) ++ end_tag_text m)) (sym named)
    ∙ ap (λ (x : List ℕ). x ++ (print_content (content_of nodes) ++ end_tag_text n)) (sym letters_close)

pub element_split : (e : Tree) (n : Name) (ds : List Decl) → n ≡ e.name → ds ≡ e.decls → print e ≡ chars (60 ∷ []) ++ (print_name n ++ (flat_map print_decl ds ++ (flat_map print_attr e.attrs ++ ending_print e)))
element_split e n ds named declared =
    let name = print_name e.name in
    let decls = flat_map print_decl e.decls in
    let attrs = flat_map print_attr e.attrs in
    let grouped : print e ≡ 60 ∷ (name ++ (decls ++ (attrs ++ ending_print e))) =
    ap (λ (x : List ℕ). 60 ∷ x) (append_assoc name (decls ++ attrs) (ending_print e) ∙ ap (λ (x : List ℕ). name ++ x) (append_assoc decls attrs (ending_print e))) in
    grouped ∙ ap (λ (m : Name). 60 ∷ (print_name m ++ (decls ++ (attrs ++ ending_print e)))) (sym named)
    ∙ ap (λ (l : List Decl). 60 ∷ (print_name n ++ (flat_map print_decl l ++ (attrs ++ ending_print e)))) (sym declared)
    ∙ ap (λ (x : List ℕ). x ++ (print_name n ++ (flat_map print_decl ds ++ (attrs ++ ending_print e)))) (sym letters_open)

pub comment_split : (x t : List ℕ) → chars t ≡ x → print_comment x ≡ chars (60 ∷ 33 ∷ 45 ∷ 45 ∷ []) ++ (chars t ++ chars (45 ∷ 45 ∷ 62 ∷ []))
comment_split x t same =
    ap (λ (l : List ℕ). codes "<!--" ++ (l ++ codes "-->")) (sym same) ∙ ap (λ (l : List ℕ). codes "<!--" ++ (chars t ++ l)) (sym letters_comment_end)
    ∙ ap (λ (l : List ℕ). l ++ (chars t ++ chars (45 ∷ 45 ∷ 62 ∷ []))) (sym letters_comment_start)

-- ---- lists of declarations, attributes and nodes

module _ {A : Type 0} (f : A → List ℕ) (count : A → ℕ) (xs : List A) (behind : List ℕ) (more : ℕ) where
  pub none_text : length xs ≡ 0 → flat_map f xs ++ behind ≡ behind
  none_text h = nil xs h
    where
      nil : (ys : List A) → length ys ≡ 0 → flat_map f ys ++ behind ≡ behind
      nil [] h = refl
      nil (y ∷ ys) h = absurd (omega (arith, h))

  pub none_count : length xs ≡ 0 → total count xs + more ≡ more
  none_count h = nil xs h
    where
      nil : (ys : List A) → length ys ≡ 0 → total count ys + more ≡ more
      nil [] h = omega arith
      nil (y ∷ ys) h = absurd (omega (arith, h))

  pub next_text : (x : A) (others : List A) → xs ≡ x ∷ others → flat_map f xs ++ behind ≡ f x ++ (flat_map f others ++ behind)
  next_text x others is = ap (λ (l : List A). flat_map f l ++ behind) is ∙ append_assoc (f x) (flat_map f others) behind

  pub next_count : (x : A) (others : List A) → xs ≡ x ∷ others → total count xs + more ≡ count x + (total count others + more)
  next_count x others is = let e = ap (total count) is in omega (arith, e)

pub no_content : (nodes : List Node) → length nodes ≡ 0 → print_content (content_of nodes) ≡ chars []
no_content [] h = sym chars-nil
no_content (n ∷ ns) h = absurd (omega (arith, h))

pub next_content : (nodes others : List Node) (n : Node) → nodes ≡ n ∷ others → print_content (content_of nodes) ≡ print_node n ++ print_content (content_of others)
next_content nodes others n is = ap (λ (l : List Node). print_content (content_of l)) is ∙ print-nodes n others

pub next_nodes : (nodes others : List Node) (n : Node) → nodes ≡ n ∷ others → 1 + total node_pieces nodes ≡ node_pieces n + (1 + total node_pieces others)
next_nodes nodes others n is = let e = ap (total node_pieces) is in omega (arith, e)

one_text : (t : List ℕ) (ns : List Node) → total node_pieces (text_node t ++ ns) ≤ text_pieces (byte_len t) + total node_pieces ns
one_text [] ns = omega arith
one_text (c ∷ cs) ns = omega arith

-- the nodes of a content give no more pieces than it
pub pieces_of_nodes : (c : Content) → 1 + total node_pieces (nodes_of c) ≤ content_pieces c
pieces_of_nodes (last []) = omega arith
pieces_of_nodes (last (x ∷ t)) = omega arith
pieces_of_nodes (more t n ds ats c rest) =
    let texts = one_text t (Elem (tree_of n ds ats c) ∷ nodes_of rest) in
    let behind = pieces_of_nodes rest in
    omega (arith, texts, behind)
pieces_of_nodes (comment_node t x rest) =
    let texts = one_text t (Comment x ∷ nodes_of rest) in
    let behind = pieces_of_nodes rest in
    omega (arith, texts, behind)

-- the levels of nodes
levels_of_others : (n : Node) (ns : List Node) → content_height (content_of ns) ≤ content_height (content_of (n ∷ ns))
levels_of_others (Elem e) ns = omega arith
levels_of_others (Chars t) ns = omega (arith, content_height-before t (content_of ns))
levels_of_others (Comment x) ns = omega arith

levels_of_first : (n : Node) (ns : List Node) → node_height n ≤ content_height (content_of (n ∷ ns))
levels_of_first (Elem e) ns = omega arith
levels_of_first (Chars t) ns = omega arith
levels_of_first (Comment x) ns = omega arith

pub room_of_others : (nodes others : List Node) (n : Node) (taken : ℕ) → nodes ≡ n ∷ others → taken + (8 + 2 * content_height (content_of nodes)) ≤ CAPACITY → taken + (8 + 2 * content_height (content_of others)) ≤ CAPACITY
room_of_others nodes others n taken is fits =
    let same = ap (λ (l : List Node). content_height (content_of l)) is in
    omega (arith, fits, same, levels_of_others n others)

pub room_of_first : (nodes others : List Node) (n : Node) (taken mid : ℕ) → nodes ≡ n ∷ others → mid ≡ taken + 1 → taken + (8 + 2 * content_height (content_of nodes)) ≤ CAPACITY → mid + 7 + 2 * node_height n ≤ CAPACITY
room_of_first nodes others n taken mid is one fits =
    let same = ap (λ (l : List Node). content_height (content_of l)) is in
    omega (arith, fits, same, one, levels_of_first n others)

-- ---- whole prints

pub print_alone : (p now : List ℕ) → now ≡ p ++ [] → now ≡ p
print_alone p now is = is ∙ append-nil p

pub print_headed : (p one two : List ℕ) → one ≡ p ++ [] → two ≡ chars header ++ one → two ≡ header ++ p
print_headed p one two is headed = headed ∙ ap (λ (l : List ℕ). l ++ one) letters_header ∙ ap (λ (l : List ℕ). header ++ l) (print_alone p one is)

-- ---- bytes

-- the bytes of a print are those of a piece and of the rest
pub bytes_split : (text rest piece bytes : List ℕ) → IsUtf8 bytes → bytes ≡ piece → text ≡ chars piece ++ rest → encode_utf8_all text ≡ bytes ++ encode_utf8_all rest
bytes_split text rest piece bytes utf8 same is =
    ap encode_utf8_all (is ∙ ap (λ (l : List ℕ). chars l ++ rest) (sym same)) ∙ encodes-append (chars bytes) rest ∙ ap (λ (l : List ℕ). l ++ encode_utf8_all rest) (encodes-chars bytes utf8)

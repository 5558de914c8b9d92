-- Printed elements are read as what was printed.
use Rattle.std.proofs.Common.{◌≡◌, ℕ, zero, suc, ◌+◌, ◌<◌, ◌≤◌, Bool, true, false, cond, List, [], ◌∷◌, ◌++◌, length, None, refl, sym, ap, subst, ◌∙◌, append_assoc, append-nil, flat_map, length-append, arith}
use Rattle.xml_grammar.specs.TextReading.{Reader}
use Rattle.xml_names.specs.Characters.{is_name_start}
use Rattle.xml_tree.specs.Edits.{with_text_prepended}
use Rattle.xml_names.specs.Markup.{tag_front, end_tag_text, print_attr, print_decl, print_name, print_text, print_comment}
use Rattle.xml_tree.specs.Print.{rest_of_element, is_empty, print, print_content}
use Rattle.xml_tree.specs.Proper.{IsProperTag, IsProperTree}
use Rattle.xml_tree.specs.inner.Proper.{IsProperContent}
use Rattle.xml_names.specs.Scopes.{bound_uri, xmlns_prefix}
use Rattle.xml_tree.specs.Tree.{Content, last, more, comment_node, Tree, tree_of, height, content_height}
use Rattle.xml_names.specs.declared.names.Name.{Name}
use Rattle.xml_names.specs.declared.names.Decl.{Decl}
use Rattle.xml_names.specs.declared.names.Attr.{Attr}
use Rattle.xml_tokens.specs.declared.fault_kind.FaultKind.{FaultKind}
use Rattle.tree_text.specs.Names.{decls_of, attrs_of, element_of, scope_inside_tag as inside}
use Rattle.xml_tokens.specs.Values.{qname_text, qname_text_of}
use Rattle.tree_text.specs.ContentPieces.{StartTag}
use Rattle.tree_text.specs.readers.Texts.{read_element_rest, read_element}
use Rattle.xml_tokens.proofs.ReadFronts.{Reads, reads_sequence, reads_valued, reads_before}
use Rattle.tree_text.proofs.PrintedNames.{printed_head}
use Rattle.tree_text.proofs.PrintedTags.{still_unbound, tag_from, tag_mark, tag_read}
use Rattle.tree_text.proofs.PrintedContent.{IsContent, content_none, content_text, content_note, content_elem, reads_content}
use Rattle.xml_tokens.proofs.NameFronts.{end_read}

-- ---- end tags

written_is : (p l : List ℕ) → print_name (record { prefix = p; local = l }) ≡ qname_text_of p l
written_is [] l = refl
written_is (c ∷ cs) l = refl

closing_is : (n : Name) (rest : List ℕ) → end_tag_text n ++ rest ≡ 60 ∷ 47 ∷ (qname_text n ++ 62 ∷ rest)
closing_is n rest = ap (λ (z : List ℕ). 60 ∷ 47 ∷ z) (append_assoc (print_name n) (62 ∷ []) rest ∙ ap (λ (z : List ℕ). z ++ 62 ∷ rest) (written_is n.prefix n.local))

-- ---- one element, whose content is read

no_content : (k : Content) → is_empty k ≡ true → k ≡ last []
no_content (last []) h = refl
no_content (last (c ∷ cs)) h = absurd cc
no_content (more t n ds ats k rest) h = absurd cc
no_content (comment_node t x rest) h = absurd cc

module _ (levels depth : ℕ) (scope : List (List Decl)) (n : Name) (ds : List Decl) (ats : List Attr) (k : Content) (unbound : bound_uri (scope ++ ds ∷ []) xmlns_prefix ≡ None) (start_tag : IsProperTag (scope ++ ds ∷ []) n ds ats)
    (inside_read : (rest : List ℕ) → IsContent (read_element levels (scope ++ ds ∷ []) (depth + 1)) (print_content k ++ 60 ∷ 47 ∷ rest) k (60 ∷ 47 ∷ rest)) where
  abbrev inner : List Decl → Reader FaultKind Tree
  inner decls = read_element levels (scope ++ decls ∷ []) (depth + 1)

  -- what follows the tag
  abbrev behind : Bool → List ℕ → List ℕ
  behind empty rest = cond empty rest ((print_content k ++ end_tag_text n) ++ rest)

  behind_read : (empty : Bool) (rest : List ℕ) → is_empty k ≡ empty → Reads (read_element_rest (inner ds) n empty) (behind empty rest) k rest
  behind_read true rest e = subst (λ (z : Content). Reads (read_element_rest (inner ds) n true) rest z rest) (sym (no_content k e)) (record { read = refl })
  behind_read false rest e =
      let end = qname_text n ++ 62 ∷ rest in
      let text : (print_content k ++ end_tag_text n) ++ rest ≡ print_content k ++ 60 ∷ 47 ∷ end = append_assoc (print_content k) (end_tag_text n) rest ∙ ap (λ (z : List ℕ). print_content k ++ z) (closing_is n rest) in
      subst (λ (z : List ℕ). Reads (read_element_rest (inner ds) n false) z k rest) (sym text)
      (reads_before (reads_content (inner ds) (print_content k ++ 60 ∷ 47 ∷ end) k (60 ∷ 47 ∷ end) (inside_read end)) (end_read n rest))

  by_empty : (empty : Bool) (rest : List ℕ) → is_empty k ≡ empty → Reads (read_element (suc levels) scope depth) (tag_front n ds ats ++ (tag_mark empty ++ behind empty rest)) (tree_of n ds ats k) rest
  by_empty empty rest e =
      let t = tag_read scope n ds ats empty (behind empty rest) unbound start_tag in
      let raw_attribute = (tag_from n ds ats empty t.size).raw_attribute in
      let after = subst (λ (z : List Decl). Reads (read_element_rest (inner z) n empty) (behind empty rest) k rest) (sym t.decls) (behind_read empty rest e) in
      let whole = reads_valued element_of (reads_sequence (λ (x : StartTag). read_element_rest (read_element levels (inside scope x) (depth + 1)) x.name x.is_empty) t.read after) in
      let same : tree_of n (decls_of raw_attribute) (attrs_of raw_attribute) k ≡ tree_of n ds ats k = ap (λ (z : List Decl). tree_of n z (attrs_of raw_attribute) k) t.decls ∙ ap (λ (z : List Attr). tree_of n ds z k) t.attrs in
      subst (λ (z : Tree). Reads (read_element (suc levels) scope depth) (tag_front n ds ats ++ (tag_mark empty ++ behind empty rest)) z rest) same whole

  ending_is : (empty : Bool) (rest : List ℕ) → (tag_front n ds ats ++ rest_of_element n empty (print_content k)) ++ rest ≡ tag_front n ds ats ++ (tag_mark empty ++ behind empty rest)
  ending_is true rest = append_assoc (tag_front n ds ats) (47 ∷ 62 ∷ []) rest
  ending_is false rest = append_assoc (tag_front n ds ats) (62 ∷ (print_content k ++ end_tag_text n)) rest

  pub element_read : (rest : List ℕ) → Reads (read_element (suc levels) scope depth) ((tag_front n ds ats ++ rest_of_element n (is_empty k) (print_content k)) ++ rest) (tree_of n ds ats k) rest
  element_read rest = subst (λ (z : List ℕ). Reads (read_element (suc levels) scope depth) z (tree_of n ds ats k) rest) (sym (ending_is (is_empty k) rest)) (by_empty (is_empty k) rest refl)

-- where the print of an element begins
pub element_head : (here : List (List Decl)) (n : Name) (ds : List Decl) (ats : List Attr) (end rest : List ℕ) → IsProperTag here n ds ats → (d : ℕ) × (y : List ℕ) × ((tag_front n ds ats ++ end) ++ rest ≡ 60 ∷ d ∷ y) × (is_name_start d ≡ true)
element_head here n ds ats end rest h =
    let attrs = flat_map print_decl ds ++ flat_map print_attr ats in
    let m = printed_head n (attrs ++ (end ++ rest)) (record { prefix = h.named.prefix; local = h.named.local }) in
    (m.0, m.1, append_assoc (tag_front n ds ats) end rest ∙ ap (λ (z : List ℕ). 60 ∷ z) (append_assoc (print_name n) attrs (end ++ rest) ∙ m.2), m.3)

-- ---- all content

pub content_read : (k : Content) (scope : List (List Decl)) (levels depth : ℕ) (rest : List ℕ) → bound_uri scope xmlns_prefix ≡ None → IsProperContent scope k → content_height k ≤ levels
    → IsContent (read_element levels scope depth) (print_content k ++ 60 ∷ 47 ∷ rest) k (60 ∷ 47 ∷ rest)
content_read (last t) scope levels depth rest u h le =
    subst (λ (z : List ℕ). IsContent (read_element levels scope depth) (print_text t ++ 60 ∷ 47 ∷ rest) (last z) (60 ∷ 47 ∷ rest)) (append-nil t)
    (content_text (read_element levels scope depth) t (60 ∷ 47 ∷ rest) (last []) (60 ∷ 47 ∷ rest) h (content_none (read_element levels scope depth) rest))
content_read (more t n ds ats k others) scope zero depth rest u h le = absurd (omega (arith, le))
content_read (more t n ds ats k others) scope (suc levels) depth rest u h le =
    let inner = read_element (suc levels) scope depth in
    let tail = 60 ∷ 47 ∷ rest in
    let unbound = still_unbound scope ds u h.1.declarations in
    let elem = tag_front n ds ats ++ rest_of_element n (is_empty k) (print_content k) in
    let after = print_content others ++ tail in
    let read = element_read levels depth scope n ds ats k unbound h.1 (λ r. content_read k (scope ++ ds ∷ []) levels (depth + 1) r unbound h.2 (omega (arith, le))) after in
    let begins = element_head (scope ++ ds ∷ []) n ds ats (rest_of_element n (is_empty k) (print_content k)) after h.1 in
    let later = content_read others scope (suc levels) depth rest u h.3 (omega (arith, le)) in
    let shorter : length after < length (elem ++ after) = (let m = ap length begins.2 in let l = length-append elem after in let f = filled n ds ats (rest_of_element n (is_empty k) (print_content k)) in omega (arith, l, f)) in
    let all = content_text inner t (elem ++ after) _ tail h.0 (content_elem inner (elem ++ after) begins.0 begins.1 (tree_of n ds ats k) after others tail begins.2 begins.3 read shorter later) in
    let whole : print_content (more t n ds ats k others) ++ tail ≡ print_text t ++ (elem ++ after) = append_assoc (print_text t) (elem ++ print_content others) tail ∙ ap (λ (z : List ℕ). print_text t ++ z) (append_assoc elem (print_content others) tail) in
    let joined : with_text_prepended t (more [] n ds ats k others) ≡ more t n ds ats k others = ap (λ (z : List ℕ). more z n ds ats k others) (append-nil t) in
    subst (λ (z : List ℕ). IsContent inner z (more t n ds ats k others) tail) (sym whole) (subst (λ (z : Content). IsContent inner (print_text t ++ (elem ++ after)) z tail) joined all)
  where
    filled : (n : Name) (ds : List Decl) (ats : List Attr) (rest : List ℕ) → 0 < length (tag_front n ds ats ++ rest)
    filled n ds ats rest = omega arith
content_read (comment_node t x others) scope levels depth rest u h le =
    let inner = read_element levels scope depth in
    let tail = 60 ∷ 47 ∷ rest in
    let after = print_content others ++ tail in
    let all = content_text inner t (print_comment x ++ after) (comment_node [] x others) tail h.0 (content_note inner x after others tail h.1 (content_read others scope levels depth rest u h.2 le)) in
    let whole : print_content (comment_node t x others) ++ tail ≡ print_text t ++ (print_comment x ++ after) = append_assoc (print_text t) (print_comment x ++ print_content others) tail ∙ ap (λ (z : List ℕ). print_text t ++ z) (append_assoc (print_comment x) (print_content others) tail) in
    let joined : with_text_prepended t (comment_node [] x others) ≡ comment_node t x others = ap (λ (z : List ℕ). comment_node z x others) (append-nil t) in
    subst (λ (z : List ℕ). IsContent inner z (comment_node t x others) tail) (sym whole) (subst (λ (z : Content). IsContent inner (print_text t ++ (print_comment x ++ after)) z tail) joined all)

-- a proper element within the level limit, whatever follows it
pub print_read : (e : Tree) (scope : List (List Decl)) (levels depth : ℕ) (rest : List ℕ) → bound_uri scope xmlns_prefix ≡ None → IsProperTree scope e → height e ≤ levels → Reads (read_element levels scope depth) (print e ++ rest) e rest
print_read e scope zero depth rest u h le = absurd (omega (arith, le))
print_read e scope (suc levels) depth rest u h le =
    let unbound = still_unbound scope e.decls u h.0.declarations in
    element_read levels depth scope e.name e.decls e.attrs e.content unbound h.0 (λ r. content_read e.content (scope ++ e.decls ∷ []) levels (depth + 1) r unbound h.1 (omega (arith, le))) rest

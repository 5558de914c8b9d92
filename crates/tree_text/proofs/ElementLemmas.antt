-- Reading an element: its tag, and what follows it.
use Rattle.std.proofs.Common.{◌≡◌, ℕ, suc, ◌+◌, Bool, true, false, cond, ◌||◌, List, [], ◌∷◌, ◌++◌, length, chars, encode_utf8_all, Result, Ok, Err, refl, sym, subst, ap, ◌∙◌, arith}
use Rattle.std.proofs.lemmas.List.{same_from_push}
use Rattle.std.specs.Prelude.{nat_eq, ◌==◌}
use Rattle.xml_grammar.specs.TextReading.{Reader, Stop, Syntax, Faulty, ◌>>=◌, first_char_is, starts_with_word, read_mapped}
use Rattle.xml_grammar.specs.readers.RuleReaders.{value_or_fault, read_with_value_marks, read_at_most, read_many}
use Rattle.xml_tree.specs.Edits.{with_text}
use Rattle.xml_tree.specs.Tree.{Content, last, Tree, tree_of}
use Rattle.xml_names.specs.declared.names.Decl.{Decl}
use Rattle.tree_text.specs.readers.Bindings.{HasSameOpenElements, AreOpenNamespaces, lists}
use Rattle.tree_text.specs.declared.bindings.Bindings.{Bindings}
use Rattle.xml_tokens.specs.declared.fault_kind.FaultKind.{FaultKind}
use Rattle.xml_tokens.specs.declared.parse_error.ParseError.{ParseError as CodeStop}
use Rattle.xml_tokens.specs.declared.parse_error.ParseError.TheVariants as stops
use Rattle.xml_tokens.specs.readers.ReadResults.{IsSameStop}
use Rattle.tree_text.specs.readers.ContentReaders.{tree_with_content, tree_with_pieces, tree_with_chars, tree_with_markup, read_chars_onto, read_markup_piece, read_child, read_markup_onto, read_tree_content, read_tree_after_tag}
use Rattle.tree_text.specs.Names.{decls_of, attrs_of, element_of}
use Rattle.tree_text.specs.readers.TagNameFaults.{counted_from_end, first_tag_fault, tag_fault}
use Rattle.tree_text.specs.ContentPieces.{Markup, Inner, StartTag, with_pieces}
use Rattle.xml_tokens.specs.readers.Tokens.{read_chars}
use Rattle.tree_text.specs.readers.Texts.{markup_follows, non_element_follows, read_markup, read_tag, read_element_rest, read_element}
use Rattle.xml_markup.specs.readers.Literals.{bang, pi_start}
use Rattle.xml_tokens.proofs.Loops.{finish, start, valued_ok, valued_err, valued_stops}

abbrev dressed_read : StartTag → Result (Content × List ℕ) (Stop FaultKind) → Result (Tree × List ℕ) (Stop FaultKind)
dressed_read t out = out >>= λ y. Ok (element_of (t, y.0), y.1)

-- # Content of an element that has none

module _ (inner : Reader FaultKind Tree) (e : Tree) (empty : e.content ≡ last []) where
  pieces_onto : (cs : List ℕ) (out : Result (List (Markup × List ℕ) × List ℕ) (Stop FaultKind)) → (finish (λ a xs. with_pieces (last a) xs) cs out >>= λ x. let z : Tree × List ℕ = (tree_with_content e x.0, x.1) in Ok z) ≡ finish tree_with_pieces (record e { content = with_text cs e.content }) out
  pieces_onto cs (Ok y) = ap (λ (z : Content). let w : Tree × List ℕ = (tree_with_content e (with_pieces (with_text cs z) y.0), y.1) in Ok w) (sym empty)
  pieces_onto cs (Err s) = refl

  -- after the first characters, with at most as many pieces as there are characters
  pub begins : (text left : List ℕ) (made : Tree) (most : ℕ) → most ≡ length (encode_utf8_all left) → read_chars_onto e text ≡ Ok (made, left) → read_tree_content e inner text ≡ finish tree_with_pieces made (read_at_most markup_follows (read_markup_piece inner) most left)
  begins text left made most all h =
      let v = valued_ok (tree_with_chars e) (read_chars text) made left h in
      ap (λ (r : Result (Content × List ℕ) (Stop FaultKind)). r >>= λ x. let z : Tree × List ℕ = (tree_with_content e x.0, x.1) in Ok z) (start markup_follows read_chars (read_markup inner) (λ x. with_pieces (last x.0) x.1) text left v.value v.read)
      ∙ pieces_onto v.value (read_many markup_follows (read_markup_piece inner) left)
      ∙ ap (λ (n : ℕ). finish tree_with_pieces (tree_with_chars e v.value) (read_at_most markup_follows (read_markup_piece inner) n left)) (sym all)
      ∙ ap (λ (z : Tree). finish tree_with_pieces z (read_at_most markup_follows (read_markup_piece inner) most left)) v.made

-- one more piece of it
pub piece_more : (e made : Tree) (m : Markup) (run : List ℕ) (xs : List (Markup × List ℕ)) → tree_with_markup e m ≡ made → tree_with_pieces e ((m, run) ∷ xs) ≡ tree_with_pieces (record made { content = with_text run made.content }) xs
piece_more e made m run xs h = ap (λ (z : Tree). record z { content = with_pieces (with_text run z.content) xs }) h

-- # Children

pub child_ok : (tree : Tree) (inner : Reader FaultKind Tree) (text rest : List ℕ) (e : Tree) → inner text ≡ Ok (e, rest) → read_child tree inner text ≡ Ok (tree_with_markup tree (Inner e), rest)
child_ok tree inner text rest e h = ap (λ (r : Result (Tree × List ℕ) (Stop FaultKind)). (r >>= λ x. let z : Markup × List ℕ = (Inner x.0, x.1) in Ok z) >>= λ x. let z : Tree × List ℕ = (tree_with_markup tree x.0, x.1) in Ok z) h

pub child_stops : (tree : Tree) (inner : Reader FaultKind Tree) (text : List ℕ) (s : CodeStop) → IsSameStop s (inner text) → IsSameStop s (read_child tree inner text)
child_stops tree inner text s h = valued_stops (tree_with_markup tree) (read_mapped Inner inner) text s (valued_stops Inner inner text s h)

-- # Markup that is an element

starts_longer : (w v text : List ℕ) → starts_with_word w text ≡ false → starts_with_word (w ++ v) text ≡ false
starts_longer [] v text h = absurd cc
starts_longer (c ∷ w) v [] h = refl
starts_longer (c ∷ w) v (d ∷ text) h = by (nat_eq c d) (starts_longer w v text) h
  where
    by : (b : Bool) → (starts_with_word w text ≡ false → starts_with_word (w ++ v) text ≡ false) → cond b (starts_with_word w text) false ≡ false → cond b (starts_with_word (w ++ v) text) false ≡ false
    by true more k = more k
    by false more k = refl

neither : (a b : Bool) → (a || b) ≡ false → (a ≡ false) × (b ≡ false)
neither true b h = absurd cc
neither false b h = (refl, h)

pub child_onto : (tree : Tree) (inner : Reader FaultKind Tree) (text : List ℕ) → non_element_follows text ≡ false → read_markup_onto tree inner text ≡ read_child tree inner text
child_onto tree inner text h =
    let one = neither (first_char_is (λ c. c == 38) text || starts_with_word bang text) (starts_with_word pi_start text) h in
    let two = neither (first_char_is (λ c. c == 38) text) (starts_with_word bang text) one.0 in
    rw (two.0, starts_longer bang (91 ∷ []) text two.1, two.1, one.1) refl

-- # Elements

-- the names of a tag are judged in the scope inside it
module _ (scope here : List (List Decl)) (decls : List Decl) (text left : List ℕ) (t : StartTag)
    (read : read_tag text ≡ Ok (t, left)) (declared : decls ≡ decls_of t.raw_attribute) (inner : here ≡ scope ++ decls ∷ []) where
  abbrev judged : List (List Decl) → Result (StartTag × List ℕ) (Stop FaultKind)
  judged z = value_or_fault text (t, left) (counted_from_end t.size (first_tag_fault z t))

  pub judged_is : read_with_value_marks (tag_fault scope) read_tag text ≡ judged here
  judged_is =
      let scopes : scope ++ decls_of t.raw_attribute ∷ [] ≡ here = ap (λ (z : List Decl). scope ++ z ∷ []) (sym declared) ∙ sym inner in
      ap (λ (r : Result (StartTag × List ℕ) (Stop FaultKind)). r >>= λ x. value_or_fault text x (tag_fault scope x.0)) read ∙ ap judged scopes

  pub misjudged : (s : CodeStop) → IsSameStop s (judged here) → IsSameStop s (read_with_value_marks (tag_fault scope) read_tag text)
  misjudged s h = subst (IsSameStop s) (sym judged_is) h

module _ (levels i depth : ℕ) (scope here : List (List Decl)) (decls : List Decl) (text left : List ℕ) (t : StartTag) (level : levels ≡ i + 1)
    (tagged : read_with_value_marks (tag_fault scope) read_tag text ≡ Ok (t, left)) (declared : decls ≡ decls_of t.raw_attribute) (inner : here ≡ scope ++ decls ∷ []) where
  abbrev behind : Result (Content × List ℕ) (Stop FaultKind)
  behind = read_element_rest (read_element i here (depth + 1)) t.name t.is_empty left

  step : (out : Result (Content × List ℕ) (Stop FaultKind)) → behind ≡ out → read_element levels scope depth text ≡ dressed_read t out
  step out h =
      let up : levels ≡ suc i = omega arith in
      let scopes : here ≡ scope ++ decls_of t.raw_attribute ∷ [] = inner ∙ ap (λ (z : List Decl). scope ++ z ∷ []) declared in
      let inside : read_element_rest (read_element i (scope ++ decls_of t.raw_attribute ∷ []) (depth + 1)) t.name t.is_empty left ≡ out = ap (λ (z : List (List Decl)). read_element_rest (read_element i z (depth + 1)) t.name t.is_empty left) (sym scopes) ∙ h in
      rw up (rw tagged (rw inside (by_out out)))
    where
      by_out : (out : Result (Content × List ℕ) (Stop FaultKind)) → (out >>= λ y. let z : (StartTag × Content) × List ℕ = ((t, y.0), y.1) in Ok z) >>= (λ x. let z : Tree × List ℕ = (element_of x.0, x.1) in Ok z) ≡ dressed_read t out
      by_out (Ok y) = refl
      by_out (Err e) = refl

  dressed_is : (k : Content) (e : Tree) → tree_of t.name [] (attrs_of t.raw_attribute) k ≡ e → element_of (t, k) ≡ record e { decls = e.decls ++ decls }
  dressed_is k e h = ap (λ (z : List Decl). tree_of t.name z (attrs_of t.raw_attribute) k) (sym declared) ∙ ap (λ (z : Tree). record z { decls = z.decls ++ decls }) h

  pub element_ok : (e0 e : Tree) (rest : List ℕ) → e0 ≡ tree_of t.name [] (attrs_of t.raw_attribute) (last []) → read_tree_after_tag e0 (read_element i here (depth + 1)) t.name t.is_empty left ≡ Ok (e, rest) → read_element levels scope depth text ≡ Ok (record e { decls = e.decls ++ decls }, rest)
  element_ok e0 e rest first h =
      let v = valued_ok (tree_with_content e0) behind e rest h in
      let is_dressed : tree_of t.name [] (attrs_of t.raw_attribute) v.value ≡ e = ap (λ (z : Tree). tree_with_content z v.value) (sym first) ∙ v.made in
      step (Ok (v.value, rest)) v.read ∙ ap (λ (z : Tree). let w : Tree × List ℕ = (z, rest) in Ok w) (dressed_is v.value e is_dressed)

  pub element_err : (e0 : Tree) (s : CodeStop) → IsSameStop s (read_tree_after_tag e0 (read_element i here (depth + 1)) t.name t.is_empty left) → IsSameStop s (read_element levels scope depth text)
  element_err e0 stops.Memory h = tt
  element_err e0 (stops.Syntax rest) h = step (Err (Syntax (chars rest.now))) (valued_err (tree_with_content e0) behind (Syntax (chars rest.now)) h)
  element_err e0 (stops.Faulty kind rest) h = step (Err (Faulty kind (chars rest.now))) (valued_err (tree_with_content e0) behind (Faulty kind (chars rest.now)) h)

tag_by : (levels i depth : ℕ) (scope : List (List Decl)) (text : List ℕ) (s : Stop FaultKind) → levels ≡ i + 1 → read_with_value_marks (tag_fault scope) read_tag text ≡ Err s → read_element levels scope depth text ≡ Err s
tag_by levels i depth scope text s level h = let up : levels ≡ suc i = omega arith in rw up (rw h refl)

pub tag_err : (levels i depth : ℕ) (scope : List (List Decl)) (text : List ℕ) (s : CodeStop) → levels ≡ i + 1 → IsSameStop s (read_with_value_marks (tag_fault scope) read_tag text) → IsSameStop s (read_element levels scope depth text)
tag_err levels i depth scope text stops.Memory level h = tt
tag_err levels i depth scope text (stops.Syntax rest) level h = tag_by levels i depth scope text (Syntax (chars rest.now)) level h
tag_err levels i depth scope text (stops.Faulty kind rest) level h = tag_by levels i depth scope text (Faulty kind (chars rest.now)) level h

untagged_by : (levels i depth : ℕ) (scope : List (List Decl)) (text : List ℕ) (s : Stop FaultKind) → levels ≡ i + 1 → read_tag text ≡ Err s → read_element levels scope depth text ≡ Err s
untagged_by levels i depth scope text s level h = tag_by levels i depth scope text s level (ap (λ (r : Result (StartTag × List ℕ) (Stop FaultKind)). r >>= λ x. value_or_fault text x (tag_fault scope x.0)) h)

pub untagged : (levels i depth : ℕ) (scope : List (List Decl)) (text : List ℕ) (s : CodeStop) → levels ≡ i + 1 → IsSameStop s (read_tag text) → IsSameStop s (read_element levels scope depth text)
untagged levels i depth scope text stops.Memory level h = tt
untagged levels i depth scope text (stops.Syntax rest) level h = untagged_by levels i depth scope text (Syntax (chars rest.now)) level h
untagged levels i depth scope text (stops.Faulty kind rest) level h = untagged_by levels i depth scope text (Faulty kind (chars rest.now)) level h

-- where there is a level left
pub level_ok : (levels i depth : ℕ) (scope : List (List Decl)) (text rest : List ℕ) (e : Tree) → levels ≡ i + 1 → read_element (i + 1) scope depth text ≡ Ok (e, rest) → read_element levels scope depth text ≡ Ok (e, rest)
level_ok levels i depth scope text rest e level h = ap (λ (n : ℕ). read_element n scope depth text) level ∙ h

pub level_stops : (levels i depth : ℕ) (scope : List (List Decl)) (text : List ℕ) (s : CodeStop) → levels ≡ i + 1 → IsSameStop s (read_element (i + 1) scope depth text) → IsSameStop s (read_element levels scope depth text)
level_stops levels i depth scope text s level h = rw level h

-- # Markup in an equal scope

pub onto_ok : (levels depth : ℕ) (tree made : Tree) (text rest : List ℕ) (a b : List (List Decl)) → a ≡ b → read_markup_onto tree (read_element levels a depth) text ≡ Ok (made, rest) → read_markup_onto tree (read_element levels b depth) text ≡ Ok (made, rest)
onto_ok levels depth tree made text rest a b same h = ap (λ (z : List (List Decl)). read_markup_onto tree (read_element levels z depth) text) (sym same) ∙ h

pub onto_stops : (levels depth : ℕ) (tree : Tree) (text : List ℕ) (s : CodeStop) (a b : List (List Decl)) → a ≡ b → IsSameStop s (read_markup_onto tree (read_element levels a depth) text) → IsSameStop s (read_markup_onto tree (read_element levels b depth) text)
onto_stops levels depth tree text s a b same h = subst (λ (z : List (List Decl)). IsSameStop s (read_markup_onto tree (read_element levels z depth) text)) same h

-- # The declarations around a place

pub still : (b : Bindings) → AreOpenNamespaces b → HasSameOpenElements b b
still b kept = record { same = refl; kept = kept }

pub back_again : (a b c : Bindings) → HasSameOpenElements a b → HasSameOpenElements b c → HasSameOpenElements a c
back_again a b c h i = record { same = i.same ∙ h.same; kept = i.kept }

-- an element was opened, and closed
pub closed : (before opened behind after : Bindings) (decls out : List Decl) → lists opened ≡ lists before ++ decls ∷ [] → HasSameOpenElements opened behind → lists behind ≡ lists after ++ out ∷ [] → AreOpenNamespaces after → (out ≡ decls) × HasSameOpenElements before after
closed before opened behind after decls out inside back outside kept =
    let p = same_from_push (lists after) (lists before) out decls (sym outside ∙ back.same ∙ inside) in
    (p.1, record { same = p.0; kept = kept })

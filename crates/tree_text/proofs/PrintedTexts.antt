-- Printed documents, elements and bodies are read as what was printed, so by the grammar they
-- spell it.
use Rattle.std.proofs.Common.{◌≡◌, ℕ, ◌+◌, ◌<◌, ◌≤◌, Bool, true, false, List, [], ◌∷◌, ◌++◌, inl, inr, Result, Ok, Err, Option, None, encode_utf8_all, refl, sym, ap, subst, ◌∙◌, append-nil, arith}
use Rattle.std.specs.Prelude.{◌==◌, unwrap_or}
use Rattle.std.specs.List.{list_all}
use Rattle.std.specs.Str.{chars, is_utf8}
use Rattle.std.proofs.lemmas.Str.{chars-encodes, is_utf8-from_IsUtf8}
use lib.Utf8.{scalars}
use Rattle.xml_grammar.specs.TextReading.{Stop, Syntax, Faulty, Reader}
use Rattle.xml_grammar.specs.readers.RuleReaders.{read_whole_text}
use Rattle.xml_grammar.specs.ParseResults.{IsParseResult, IsParsedAs}
use Rattle.xml_names.specs.Characters.{is_char, is_space, is_name_start}
use Rattle.xml_tree.specs.Print.{print, rest_of_element, is_empty, print_content, header, document_print}
use Rattle.xml_tree.specs.Proper.{IsProperTree}
use Rattle.xml_names.specs.Scopes.{bound_uri, xmlns_prefix}
use Rattle.xml_tree.specs.Tree.{Tree, height}
use Rattle.xml_names.specs.declared.names.Decl.{Decl}
use Rattle.tree_text.specs.declared.fault.TextFault.{TextFault}
use Rattle.tree_text.specs.declared.fault.ValueFault.{ValueFault}
use Rattle.xml_tokens.specs.declared.fault_kind.FaultKind.{FaultKind}
use Rattle.tree_text.specs.Faults.{body_result, strip_quotes, unquoted_body, IsTextResult, IsBodyResult, text_result as told}
use Rattle.tree_text.specs.Grammar.{document, unquoted_value}
use Rattle.tree_text.specs.FaultKinds.{fault_ranking}
use Rattle.tree_print.specs.AttributeBodyPrints.{body_escape, body_print}
use Rattle.xml_tokens.specs.readers.Tokens.{read_spaces}
use Rattle.xml_markup.specs.readers.Markup.{read_optional_bom, read_optional_declaration, read_without_value, misc_follows, read_prolog_misc, read_prolog, read_epilog}
use Rattle.tree_text.specs.readers.Texts.{read_element, read_text, read_unquoted_value}
use Rattle.tree_text.specs.readers.WholeTexts.{read_document_text, read_body_text}
use Rattle.tree_text.proofs.ReadAnswers.{text_answer, body_answer}
use Rattle.xml_tokens.proofs.ReadFronts.{Reads, reads_valued, reads_before, reads_behind, reads_none, reads_more, AreBetween, reads_between}
use Rattle.tree_text.proofs.PrintedValues.{reads_spelling}
use Rattle.tree_text.proofs.PrintedContent.{no_mark}
use Rattle.tree_text.proofs.PrintedElements.{element_head, print_read}
use Rattle.tree_text.proofs.PrintedScalars.{print_scalars, document_scalars, body_print_scalars}

-- ---- what comes before the root element, which begins with these characters

module _ (d : ℕ) (y : List ℕ) (start : is_name_start d ≡ true) where
  no_misc : misc_follows (60 ∷ d ∷ y) ≡ false
  no_misc = rw (no_mark 33 d refl start) (rw (no_mark 63 d refl start) refl)

  no_declaration : Reads read_optional_declaration (60 ∷ d ∷ y) tt (60 ∷ d ∷ y)
  no_declaration = record { read = rw (no_mark 63 d refl start) refl }

  no_prolog : Reads read_prolog (60 ∷ d ∷ y) tt (60 ∷ d ∷ y)
  no_prolog =
      let gap = reads_valued (λ _. tt) (reads_none is_space (60 ∷ d ∷ y) refl) in
      let between : AreBetween misc_follows (read_without_value read_spaces) read_prolog_misc (60 ∷ d ∷ y) tt [] (60 ∷ d ∷ y) = record { next = 60 ∷ d ∷ y; first = gap; shorter = omega arith; members = (refl, no_misc) } in
      reads_valued (λ _. tt) (reads_between between)

  line_prolog : Reads read_prolog (10 ∷ 60 ∷ d ∷ y) tt (60 ∷ d ∷ y)
  line_prolog =
      let gap = reads_valued (λ _. tt) (reads_more is_space 10 refl (reads_none is_space (60 ∷ d ∷ y) refl)) in
      let between : AreBetween misc_follows (read_without_value read_spaces) read_prolog_misc (10 ∷ 60 ∷ d ∷ y) tt [] (60 ∷ d ∷ y) = record { next = 60 ∷ d ∷ y; first = gap; shorter = omega arith; members = (refl, no_misc) } in
      reads_valued (λ _. tt) (reads_between between)

-- the declaration of a printed document, up to its line feed
declaration_read : (rest : List ℕ) → Reads read_optional_declaration (header ++ rest) tt (10 ∷ rest)
declaration_read rest = record { read = refl }

-- ---- elements and documents, as characters

whole : {A : Type 0} {p : Reader FaultKind A} {text : List ℕ} {a : A} → Reads p text a [] → read_whole_text p text ≡ Ok a
whole h = rw h.read refl

module _ (limit : ℕ) (scope : List (List Decl)) (e : Tree) (unbound : bound_uri scope xmlns_prefix ≡ None) (proper : IsProperTree scope e) (fits : height e ≤ limit) where
  root_read : Reads (read_element limit scope 1) (print e) e []
  root_read = subst (λ (z : List ℕ). Reads (read_element limit scope 1) z e []) (append-nil (print e)) (print_read e scope limit 1 [] unbound proper fits)

  head : (d : ℕ) × (y : List ℕ) × (print e ≡ 60 ∷ d ∷ y) × (is_name_start d ≡ true)
  head =
      let m = element_head (scope ++ e.decls ∷ []) e.name e.decls e.attrs (rest_of_element e.name (is_empty e.content) (print_content e.content)) [] proper.0 in
      (m.0, m.1, sym (append-nil (print e)) ∙ m.2, m.3)

  end : Reads read_epilog [] tt []
  end = record { read = refl }

  element_text : Reads (read_text limit scope) (print e) e []
  element_text =
      let d = head.0 in
      let y = head.1 in
      let root = subst (λ (z : List ℕ). Reads (read_element limit scope 1) z e []) head.2 root_read in
      let mark : Reads read_optional_bom (60 ∷ d ∷ y) tt (60 ∷ d ∷ y) = record { read = refl } in
      subst (λ (z : List ℕ). Reads (read_text limit scope) z e []) (sym head.2) (reads_behind mark (reads_behind (no_declaration d y head.3) (reads_behind (no_prolog d y head.3) (reads_before root end))))

  document_text : Reads (read_text limit scope) (document_print e) e []
  document_text =
      let d = head.0 in
      let y = head.1 in
      let root = subst (λ (z : List ℕ). Reads (read_element limit scope 1) z e []) head.2 root_read in
      let mark : Reads read_optional_bom (header ++ 60 ∷ d ∷ y) tt (header ++ 60 ∷ d ∷ y) = record { read = refl } in
      subst (λ (z : List ℕ). Reads (read_text limit scope) (header ++ z) e []) (sym head.2) (reads_behind mark (reads_behind (declaration_read (60 ∷ d ∷ y)) (reads_behind (line_prolog d y head.3) (reads_before root end))))

-- ---- as bytes

module _ (limit : ℕ) (scope : List (List Decl)) (text : List ℕ) (e : Tree) (valid : scalars text ≡ true) (read : Reads (read_text limit scope) text e []) where
  decoded : chars (encode_utf8_all text) ≡ text
  decoded = chars-encodes text valid

  bytes_read : read_document_text limit scope (encode_utf8_all text) ≡ Ok e
  bytes_read =
      let utf8 : is_utf8 (encode_utf8_all text) ≡ true = is_utf8-from_IsUtf8 (encode_utf8_all text) (text, (valid, refl)) in
      rw utf8 (ap (told (encode_utf8_all text)) (ap (read_whole_text (read_text limit scope)) decoded ∙ whole read))

  stated_spelled : (n : ℕ) (stated : Result Tree (Stop FaultKind)) → limit + 1 < n → ((m : ℕ) → limit + 1 < m → IsParseResult (fault_ranking limit) (document m scope) (chars (encode_utf8_all text)) stated)
      → (let answer : Result Tree TextFault = Ok e in answer ≡ told (encode_utf8_all text) stated) → IsParsedAs (fault_ranking limit) (document n scope) text e
  stated_spelled n (Ok t) larger h s =
      let same : e ≡ t = cc in
      subst (λ (z : List ℕ). IsParsedAs (fault_ranking limit) (document n scope) z e) decoded (subst (λ (z : Tree). IsParsedAs (fault_ranking limit) (document n scope) (chars (encode_utf8_all text)) z) (sym same) (h n larger))
  stated_spelled n (Err stop) larger h s = absurd cc

  answer_spelled : (n : ℕ) → limit + 1 < n → IsTextResult limit scope (encode_utf8_all text) (Ok e) → IsParsedAs (fault_ranking limit) (document n scope) text e
  answer_spelled n larger (inl a) = stated_spelled n a.1.stated larger a.1.by_grammar a.1.is_told
  answer_spelled n larger (inr a) = let i = a.1 in absurd cc

  bytes_spelled : (n : ℕ) → limit + 1 < n → IsParsedAs (fault_ranking limit) (document n scope) text e
  bytes_spelled n larger = answer_spelled n larger (subst (IsTextResult limit scope (encode_utf8_all text)) bytes_read (text_answer limit scope (encode_utf8_all text)))

-- the result for a text that is read
pub record IsRead (limit : ℕ) (scope : List (List Decl)) (text : List ℕ) (e : Tree) : Type 0 where
  pub read : read_document_text limit scope (encode_utf8_all text) ≡ Ok e
  pub spelled : (n : ℕ) → limit + 1 < n → IsParsedAs (fault_ranking limit) (document n scope) text e

pub element_is_read : (limit : ℕ) (scope : List (List Decl)) (e : Tree) → bound_uri scope xmlns_prefix ≡ None → IsProperTree scope e → height e ≤ limit → IsRead limit scope (print e) e
element_is_read limit scope e u h le =
    let valid = print_scalars scope e h in
    let read = element_text limit scope e u h le in
    record { read = bytes_read limit scope (print e) e valid read; spelled = bytes_spelled limit scope (print e) e valid read }

pub document_is_read : (limit : ℕ) (scope : List (List Decl)) (e : Tree) → bound_uri scope xmlns_prefix ≡ None → IsProperTree scope e → height e ≤ limit → IsRead limit scope (document_print e) e
document_is_read limit scope e u h le =
    let valid = document_scalars scope e h in
    let read = document_text limit scope e u h le in
    record { read = bytes_read limit scope (document_print e) e valid read; spelled = bytes_spelled limit scope (document_print e) e valid read }

-- ---- bodies

-- no printed body begins with a quote
escape_quotes : (c : ℕ) (rest : List ℕ) → strip_quotes (body_escape c ++ rest) ≡ None
escape_quotes c rest = by (c == 38) refl (c == 60) refl (c == 34) refl (c == 39) refl (c == 9) refl (c == 10) refl (c == 13) refl
  where
    by : (b38 : Bool) → c == 38 ≡ b38 → (b60 : Bool) → c == 60 ≡ b60 → (b34 : Bool) → c == 34 ≡ b34 → (b39 : Bool) → c == 39 ≡ b39 → (b9 : Bool) → c == 9 ≡ b9 → (b10 : Bool) → c == 10 ≡ b10 → (b13 : Bool) → c == 13 ≡ b13 → strip_quotes (body_escape c ++ rest) ≡ None
    by true e b60 f b34 g b39 h b9 i b10 j b13 k = rw e refl
    by false e true f b34 g b39 h b9 i b10 j b13 k = rw (e, f) refl
    by false e false f true g b39 h b9 i b10 j b13 k = rw (e, f, g) refl
    by false e false f false g true h b9 i b10 j b13 k = rw (e, f, g, h) refl
    by false e false f false g false h true i b10 j b13 k = rw (e, f, g, h, i) refl
    by false e false f false g false h false i true j b13 k = rw (e, f, g, h, i, j) refl
    by false e false f false g false h false i false j true k = rw (e, f, g, h, i, j, k) refl
    by false e false f false g false h false i false j false k = rw (e, f, g, h, i, j, k) (rw (g, h) refl)

no_quotes : (value : List ℕ) → strip_quotes (body_print value) ≡ None
no_quotes [] = refl
no_quotes (c ∷ cs) = escape_quotes c (body_print cs)

body_whole : (value : List ℕ) → list_all is_char value ≡ true → read_whole_text read_unquoted_value (body_print value) ≡ Ok value
body_whole value h = whole (subst (λ (z : List ℕ). Reads read_unquoted_value z value []) (append-nil (body_print value)) (reads_spelling value h))

pub body_is_read : (value : List ℕ) → list_all is_char value ≡ true → read_body_text (encode_utf8_all (body_print value)) ≡ Ok value
body_is_read value h =
    let text = body_print value in
    let valid = body_print_scalars value h in
    let utf8 : is_utf8 (encode_utf8_all text) ≡ true = is_utf8-from_IsUtf8 (encode_utf8_all text) (text, (valid, refl)) in
    let decoded : chars (encode_utf8_all text) ≡ text = chars-encodes text valid in
    let part : unquoted_body (chars (encode_utf8_all text)) ≡ text = ap unquoted_body decoded ∙ ap (λ (z : Option (List ℕ)). unwrap_or z text) (no_quotes value) in
    rw utf8 (ap (body_result (chars (encode_utf8_all text)) (encode_utf8_all text)) (ap (read_whole_text read_unquoted_value) part ∙ body_whole value h))

body_by : (value : List ℕ) (stated : Result (List ℕ) (Stop FaultKind)) → IsParseResult (fault_ranking 0) unquoted_value (unquoted_body (chars (encode_utf8_all (body_print value)))) stated
    → (let answer : Result (List ℕ) ValueFault = Ok value in answer ≡ body_result (chars (encode_utf8_all (body_print value))) (encode_utf8_all (body_print value)) stated) → scalars (body_print value) ≡ true → IsParsedAs (fault_ranking 0) unquoted_value (body_print value) value
body_by value (Ok v) h s valid =
    let same : value ≡ v = cc in
    let text = body_print value in
    let decoded : chars (encode_utf8_all text) ≡ text = chars-encodes text valid in
    let part : unquoted_body (chars (encode_utf8_all text)) ≡ text = ap unquoted_body decoded ∙ ap (λ (z : Option (List ℕ)). unwrap_or z text) (no_quotes value) in
    subst (λ (z : List ℕ). IsParsedAs (fault_ranking 0) unquoted_value z value) part (subst (λ (z : List ℕ). IsParsedAs (fault_ranking 0) unquoted_value (unquoted_body (chars (encode_utf8_all text))) z) (sym same) h)
body_by value (Err stop) h s valid = absurd (no_value stop s)
  where
    no_value : (stop : Stop FaultKind) → (let answer : Result (List ℕ) ValueFault = Ok value in answer ≡ body_result (chars (encode_utf8_all (body_print value))) (encode_utf8_all (body_print value)) (Err stop)) → ⊥
    no_value (Syntax left) s = absurd cc
    no_value (Faulty kind left) s = absurd cc

answer_by : (value : List ℕ) → list_all is_char value ≡ true → IsBodyResult (encode_utf8_all (body_print value)) (Ok value) → IsParsedAs (fault_ranking 0) unquoted_value (body_print value) value
answer_by value h (inl a) = body_by value a.1.stated a.1.by_grammar a.1.is_told (body_print_scalars value h)
answer_by value h (inr a) = let i = a.1 in absurd cc

pub body_is_spelled : (value : List ℕ) → list_all is_char value ≡ true → IsParsedAs (fault_ranking 0) unquoted_value (body_print value) value
body_is_spelled value h = answer_by value h (subst (IsBodyResult (encode_utf8_all (body_print value))) (body_is_read value h) (body_answer (encode_utf8_all (body_print value))))

-- A tree that is spelled without a fault is proper and within the depth limit.
use Rattle.std.proofs.Common.{◌≡◌, ℕ, zero, suc, ◌+◌, ◌-◌, ◌<◌, ◌≤◌, Bool, true, false, List, [], ◌∷◌, ◌++◌, length, take, drop, inl, inr, refl, sym, ap, subst, ◌∙◌, append_assoc, arith}
use Rattle.std.specs.Prelude.{nat_lt}
use Rattle.std.proofs.lemmas.Bool.Decides.{nat_tests}
use Rattle.std.proofs.lemmas.List.{append-nil, take-append-drop, length-drop}
use Rattle.xml_names.specs.Characters.{is_char}
use Rattle.xml_names.specs.Comments.{is_comment}
use Rattle.xml_tree.specs.Tree.{Content, last, more, comment_node, Tree, height, content_height}
use Rattle.xml_tree.specs.Edits.{with_text, with_elem, with_comment}
use Rattle.xml_tree.specs.Proper.{HoldsOfChars, IsProperPart, IsProperTree}
use Rattle.xml_tree.specs.inner.Proper.{IsProperContent}
use Rattle.xml_names.specs.declared.names.Name.{Name}
use Rattle.xml_names.specs.declared.names.Decl.{Decl}
use Rattle.xml_tree.proofs.EverywhereLaws.{Letters-append}
use Rattle.xml_grammar.specs.Rules.{Mark, Rule, Split, AllPass, SpellsEach, word, sequence, many, with_value_marks, optional, keep_first, keep_second}
use Rattle.xml_grammar.specs.ParseResults.{HasNoFault, IsParsedAs}
use Rattle.xml_grammar.proofs.Laws.{Lawful}
use Rattle.xml_markup.specs.readers.Literals.{byte_order_mark}
use Rattle.xml_tokens.specs.declared.fault_kind.FaultKind.{FaultKind}
use Rattle.xml_tokens.specs.declared.fault_kind.FaultKind.TheVariants.{Depth}
use Rattle.tree_text.specs.ContentPieces.{Markup, Reference, Section, Comment, Instruction, Inner, with_markup, with_pieces}
use Rattle.tree_text.specs.FaultKinds.{is_fault, fault_ranking}
use Rattle.tree_text.specs.Names.{IsTagFault, scope_inside_tag as inside}
use Rattle.xml_tokens.specs.Tokens.{is_raw_char, char_data}
use Rattle.xml_markup.specs.Grammar.{without_value, MarksUnsupportedEncoding, xml_declaration, cdata_section, prolog, epilog}
use Rattle.tree_text.specs.Grammar.{markup, content, start_tag, end_tag, element_rest, element, document}
use Rattle.tree_text.proofs.JudgeTags.{is_wrong_fault}
use Rattle.tree_text.proofs.ReadParts.{led_tag}
use Rattle.tree_text.proofs.ReadDocuments.{lawful_document}
use Rattle.tree_text.proofs.ProperTags.{weaker, raw_char, lines_chars, reference_char, tag_proper}
use Rattle.tree_text.proofs.ProperComments.{comment_proper}

-- # No marked faults

module _ (limit : ℕ) where
  abbrev Calm : {A : Type 0} → Rule FaultKind A → List ℕ → Type 0
  Calm r u = (k : FaultKind) (b : ℕ) (v w : List ℕ) → u ≡ v ++ w → r.Meets (Mark k b) v → is_fault limit k ≡ true → ⊥

  calm_of : {A : Type 0} (r : Rule FaultKind A) (u : List ℕ) → Lawful r → HasNoFault (fault_ranking limit) r u → Calm r u
  calm_of {A} r u lawful calm k b v w j m f =
      let le : b ≤ length v = lawful.within k b v m in
      let parts : v ≡ take (length v - b) v ++ drop (length v - b) v = sym (take-append-drop (length v - b) v) in
      let n : b ≡ length (drop (length v - b) v) = omega (arith, length-drop (length v - b) v, le) in
      calm k (drop (length v - b) v ++ w) f (record {
        before = take (length v - b) v;
        seen = drop (length v - b) v;
        unseen = w;
        joined = j ∙ ap (λ (z : List ℕ). z ++ w) parts ∙ append_assoc (take (length v - b) v) (drop (length v - b) v) w;
        left_is = refl;
        met = subst (λ (z : List ℕ). r.Meets (Mark k (length (drop (length v - b) v))) z) parts (subst (λ (z : ℕ). r.Meets (Mark k z) v) n m);
      })

  calm_first : {A B : Type 0} (r : Rule FaultKind A) (s : A → Rule FaultKind B) (u : List ℕ) (P Q : List ℕ → Type 0) → (m : Split u P Q) → Calm (sequence r s) u → Calm r m.front
  calm_first {A} {B} r s u P Q m calm = λ k b v w j e f. calm k b v (w ++ m.back) (m.joined ∙ ap (λ (z : List ℕ). z ++ m.back) j ∙ append_assoc v w m.back) (inl e) f

  calm_second : {A B : Type 0} (r : Rule FaultKind A) (s : A → Rule FaultKind B) (a : A) (u : List ℕ) (Q : List ℕ → Type 0) → (m : Split u (λ x. r.Spells x a) Q) → Calm (sequence r s) u → Calm (s a) m.back
  calm_second {A} {B} r s a u Q m calm = λ k b v w j e f. calm k b (m.front ++ v) w (m.joined ∙ ap (λ (z : List ℕ). m.front ++ z) j ∙ sym (append_assoc m.front v w)) (inr (a, record { front = m.front; back = v; joined = refl; front_is = m.front_is; back_is = e })) f

  calm_head : {A : Type 0} (r : Rule FaultKind A) (u : List ℕ) (P Q : List ℕ → Type 0) → (m : Split u P Q) → Calm (many r) u → Calm r m.front
  calm_head {A} r u P Q m calm = λ k b v w j e f. calm k b v (w ++ m.back) (m.joined ∙ ap (λ (z : List ℕ). z ++ m.back) j ∙ append_assoc v w m.back) ([], record { front = []; back = v; joined = refl; front_is = refl; back_is = e }) f

  calm_tail : {A : Type 0} (r : Rule FaultKind A) (x : A) (u : List ℕ) (Q : List ℕ → Type 0) → (m : Split u (λ z. r.Spells z x) Q) → Calm (many r) u → Calm (many r) m.back
  calm_tail {A} r x u Q m calm = λ k b v w j e f. calm k b (m.front ++ v) w (m.joined ∙ ap (λ (z : List ℕ). m.front ++ z) j ∙ sym (append_assoc m.front v w))
      (x ∷ e.0, record { front = m.front ++ e.1.front; back = e.1.back; joined = ap (λ (z : List ℕ). m.front ++ z) e.1.joined ∙ sym (append_assoc m.front e.1.front e.1.back); front_is = record { front = m.front; back = e.1.front; joined = refl; front_is = m.front_is; back_is = e.1.front_is }; back_is = e.1.back_is }) f

-- # Content

letters : (c : List (List Decl)) (cs : List ℕ) → AllPass is_char cs → HoldsOfChars IsProperPart c cs
letters c [] h = tt
letters c (x ∷ cs) h = (h.0, letters c cs h.1)

chars_letters : (c : List (List Decl)) (u cs : List ℕ) → char_data.Spells u cs → HoldsOfChars IsProperPart c cs
chars_letters c u cs m = letters c cs (subst (AllPass is_char) (sym m.2) (lines_chars m.0 (weaker is_raw_char is_char raw_char m.0 (subst (AllPass is_raw_char) (sym m.1.2) m.1.0))))

pass_front : (p : ℕ → Bool) (u v : List ℕ) → AllPass p (u ++ v) → AllPass p u
pass_front p [] v h = tt
pass_front p (c ∷ u) v h = (h.0, pass_front p u v h.1)

section_letters : (c : List (List Decl)) (u cs : List ℕ) → cdata_section.Spells u cs → HoldsOfChars IsProperPart c cs
section_letters c u cs m =
    let b = m.1.1.back_is in
    let k : AllPass is_char m.0 = subst (AllPass is_char) (sym m.1.2) (pass_front is_char m.1.0.1 _ (subst (AllPass is_char) b.0 b.1)) in
    letters c cs (subst (AllPass is_char) (sym m.2) (lines_chars m.0 k))

module _ (c : List (List Decl)) (room : ℕ) where
  abbrev Fits : Content → Type 0
  Fits k = IsProperContent c k × (content_height k ≤ room)

  -- a piece of markup
  abbrev MayStand : Markup → Type 0
  MayStand (Reference x) = is_char x ≡ true
  MayStand (Section cs) = HoldsOfChars IsProperPart c cs
  MayStand (Comment cs) = is_comment cs ≡ true
  MayStand Instruction = Unit {0}
  MayStand (Inner t) = IsProperTree c t × (height t ≤ room)

  fits_text : (s : List ℕ) (k : Content) → HoldsOfChars IsProperPart c s → Fits k → Fits (with_text s k)
  fits_text s (last t) h f = (Letters-append IsProperPart c t s f.0 h, f.1)
  fits_text s (more t n ds ats k rest) h f = let r = fits_text s rest h (f.0.3, omega (arith, f.1)) in ((f.0.0, f.0.1, f.0.2, r.0), omega (arith, f.1, r.1))
  fits_text s (comment_node t x rest) h f = let r = fits_text s rest h (f.0.2, f.1) in ((f.0.0, f.0.1, r.0), r.1)

  fits_elem : (e : Tree) (k : Content) → IsProperTree c e → height e ≤ room → Fits k → Fits (with_elem e k)
  fits_elem e (last t) h l f = ((f.0, h.0, h.1, tt), omega (arith, l))
  fits_elem e (more t n ds ats k rest) h l f = let r = fits_elem e rest h l (f.0.3, omega (arith, f.1)) in ((f.0.0, f.0.1, f.0.2, r.0), omega (arith, f.1, r.1))
  fits_elem e (comment_node t x rest) h l f = let r = fits_elem e rest h l (f.0.2, f.1) in ((f.0.0, f.0.1, r.0), r.1)

  fits_comment : (s : List ℕ) (k : Content) → is_comment s ≡ true → Fits k → Fits (with_comment s k)
  fits_comment s (last t) h f = ((f.0, h, tt), omega arith)
  fits_comment s (more t n ds ats k rest) h f = let r = fits_comment s rest h (f.0.3, omega (arith, f.1)) in ((f.0.0, f.0.1, f.0.2, r.0), omega (arith, f.1, r.1))
  fits_comment s (comment_node t x rest) h f = let r = fits_comment s rest h (f.0.2, f.1) in ((f.0.0, f.0.1, r.0), r.1)

  fits_markup : (m : Markup) (k : Content) → MayStand m → Fits k → Fits (with_markup m k)
  fits_markup (Reference x) k h f = fits_text (x ∷ []) k (h, tt) f
  fits_markup (Section cs) k h f = fits_text cs k h f
  fits_markup (Comment cs) k h f = fits_comment cs k h f
  fits_markup Instruction k h f = f
  fits_markup (Inner t) k h f = fits_elem t k h.0 h.1 f

  abbrev AllMayStand : List (Markup × List ℕ) → Type 0
  AllMayStand [] = Unit {0}
  AllMayStand (x ∷ xs) = MayStand x.0 × HoldsOfChars IsProperPart c x.1 × AllMayStand xs

  fits_pieces : (xs : List (Markup × List ℕ)) (k : Content) → AllMayStand xs → Fits k → Fits (with_pieces k xs)
  fits_pieces [] k h f = f
  fits_pieces ((m, cs) ∷ xs) k h f = fits_pieces xs (with_text cs (with_markup m k)) h.2 (fits_text cs (with_markup m k) h.1 (fits_markup m k h.0 f))

  module _ (limit : ℕ) (inner : Rule FaultKind Tree) (proper : (u : List ℕ) (t : Tree) → inner.Spells u t → Calm limit inner u → IsProperTree c t × (height t ≤ room)) where
    markup_stands : (u : List ℕ) (m : Markup) → (markup inner).Spells u m → Calm limit (markup inner) u → MayStand m
    markup_stands u m (inl h) calm = subst MayStand (sym h.2) (reference_char u h.0 h.1)
    markup_stands u m (inr (inl h)) calm = subst MayStand (sym h.2) (section_letters c u h.0 h.1)
    markup_stands u m (inr (inr (inl h))) calm = subst MayStand (sym h.2) (comment_proper u h.0 h.1)
    markup_stands u m (inr (inr (inr (inl h)))) calm = subst MayStand (sym h.2) tt
    markup_stands u m (inr (inr (inr (inr h)))) calm = subst MayStand (sym h.2) (proper u h.0 h.1 (λ k b v w j e f. calm k b v w j (inr (inr (inr (inr e)))) f))

    pieces_stand : (xs : List (Markup × List ℕ)) (u : List ℕ) → SpellsEach (sequence (markup inner) (λ _. char_data)) xs u → Calm limit (many (sequence (markup inner) (λ _. char_data))) u → AllMayStand xs
    pieces_stand [] u m calm = tt
    pieces_stand (x ∷ xs) u m calm =
        let r : Rule FaultKind (Markup × List ℕ) = sequence (markup inner) (λ _. char_data) in
        let h = m.front_is in
        let first : Calm limit (sequence (markup inner) (λ _. char_data)) m.front = calm_head limit (sequence (markup inner) (λ _. char_data)) u _ _ m calm in (
          markup_stands h.front x.0 h.front_is (calm_first limit (markup inner) (λ _. char_data) m.front _ _ h first),
          chars_letters c h.back x.1 h.back_is,
          pieces_stand xs m.back m.back_is (calm_tail limit (sequence (markup inner) (λ _. char_data)) x u _ m calm),
        )

    content_fits : (u : List ℕ) (k : Content) → (content inner).Spells u k → Calm limit (content inner) u → Fits k
    content_fits u k m calm = subst Fits (sym m.2) (fits_pieces m.0.1 (last m.0.0)
        (pieces_stand m.0.1 m.1.back m.1.back_is (calm_second limit char_data (λ _. many (sequence (markup inner) (λ _. char_data))) m.0.0 u _ m.1 calm))
        (chars_letters c m.1.front m.0.0 m.1.front_is, omega arith))

    behind_fits : (n : Name) (b : Bool) (u : List ℕ) (k : Content) → (element_rest inner n b).Spells u k → Calm limit (element_rest inner n b) u → Fits k
    behind_fits n true u k m calm = subst Fits (sym m.1) (tt, omega arith)
    behind_fits n false u k m calm = subst Fits (sym m.2) (content_fits m.1.front m.0.0 m.1.front_is (calm_first limit (content inner) (λ _. end_tag n) u _ _ m.1 calm))

-- # Elements

within_limit : (limit depth : ℕ) → (nat_lt limit depth ≡ true → ⊥) → depth ≤ limit
within_limit limit depth h = by (nat_lt limit depth) refl h
  where
    by : (b : Bool) → nat_lt limit depth ≡ b → (b ≡ true → ⊥) → depth ≤ limit
    by true e f = absurd (f refl)
    by false e f = grind (arith, nat_tests)

module _ (limit : ℕ) where
  element_proper : (n : ℕ) (scope : List (List Decl)) (depth : ℕ) (u : List ℕ) (t : Tree) → (element n scope depth).Spells u t → Calm limit (element n scope depth) u → IsProperTree scope t × (height t + depth ≤ limit + 1)
  element_proper zero scope depth u t m calm = absurd m
  element_proper (suc n) scope depth u t m calm =
      let x = m.0.0 in
      let inner : Rule FaultKind Tree = element n (inside scope x) (depth + 1) in
      let unmarked : Calm limit (sequence (with_value_marks (IsTagFault scope) start_tag) (λ t. element_rest (element n (inside scope t) (depth + 1)) t.name t.is_empty)) u = λ k b v w j e f. calm k b v w j (inr e) f in
      let past = (led_tag (fault_ranking limit)).spells m.1.front x m.1.front_is in
      let shallow : depth ≤ limit = within_limit limit depth (λ f. calm (Depth depth) 2 (60 ∷ past.next ∷ []) (past.rest ++ m.1.back) (m.1.joined ∙ ap (λ (z : List ℕ). z ++ m.1.back) past.joined) (inl (refl, refl, (past.next, refl, past.is))) f) in
      let first = calm_first limit (with_value_marks (IsTagFault scope) start_tag) (λ t. element_rest (element n (inside scope t) (depth + 1)) t.name t.is_empty) u _ _ m.1 unmarked in
      let second = calm_second limit (with_value_marks (IsTagFault scope) start_tag) (λ t. element_rest (element n (inside scope t) (depth + 1)) t.name t.is_empty) x u _ m.1 unmarked in
      let tagged = tag_proper scope m.1.front x m.1.front_is (λ k b s. first k b m.1.front [] (sym (append-nil m.1.front)) (inl (x, m.1.front_is, s)) (is_wrong_fault limit scope x k b s)) in
      let fits = behind_fits (inside scope x) (limit - depth) limit (element n (inside scope x) (depth + 1))
      (λ v e s d. let r = element_proper n (inside scope x) (depth + 1) v e s d in (r.0, omega (arith, r.1))) x.name x.is_empty m.1.back m.0.1 m.1.back_is second in
      subst (λ (z : Tree). IsProperTree scope z × (height z + depth ≤ limit + 1)) (sym m.2) ((tagged, fits.0), omega (arith, fits.1, shallow))

-- # Documents

-- A tree that a text spells without a fault is proper in its scope, and within the depth limit.
pub document_proper : (limit n : ℕ) (scope : List (List Decl)) (u : List ℕ) (t : Tree) → limit + 1 < suc n → IsParsedAs (fault_ranking limit) (document (suc n) scope) u t → IsProperTree scope t × (height t ≤ limit)
document_proper limit n scope u t larger h =
    let calm = calm_of limit (document (suc n) scope) u (lawful_document limit n scope larger) h.calm in
    let a = h.spelled in
    let b = a.1.back_is in
    let c = b.1.back_is in
    let d = c.1.back_is in
    let calm_b = calm_second limit (without_value (optional (word byte_order_mark))) (λ _. keep_second (without_value (optional (with_value_marks MarksUnsupportedEncoding xml_declaration))) (keep_second prolog (keep_first (element (suc n) scope 1) epilog))) a.0.0 u _ a.1 calm in
    let calm_c = calm_second limit (without_value (optional (with_value_marks MarksUnsupportedEncoding xml_declaration))) (λ _. keep_second prolog (keep_first (element (suc n) scope 1) epilog)) b.0.0 a.1.back _ b.1 calm_b in
    let calm_d = calm_second limit prolog (λ _. keep_first (element (suc n) scope 1) epilog) c.0.0 b.1.back _ c.1 calm_c in
    let r = element_proper limit (suc n) scope 1 d.1.front d.0.0 d.1.front_is (calm_first limit (element (suc n) scope 1) (λ _. epilog) c.1.back _ _ d.1 calm_d) in
    subst (λ (z : Tree). IsProperTree scope z × (height z ≤ limit)) (sym (a.2 ∙ b.2 ∙ c.2 ∙ d.2)) (r.0, omega (arith, r.1))

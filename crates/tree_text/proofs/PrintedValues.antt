-- Printed values are read as what was printed: each character as it is, or as a reference.
use Rattle.std.proofs.Common.{◌≡◌, ℕ, ◌<◌, Bool, true, false, List, [], ◌∷◌, ◌++◌, length, refl, sym, ap, subst, ◌∙◌, append_assoc, flat_map, eqb-true, length-append, arith}
use Rattle.std.specs.Prelude.{◌&&◌, ◌||◌, ◌==◌, not}
use Rattle.std.specs.List.{list_all}
use Rattle.xml_grammar.specs.TextReading.{Reader, first_char_is, read_run}
use Rattle.xml_names.specs.Characters.{is_char}
use Rattle.xml_names.specs.Markup.{text_escape, value_escape}
use Rattle.xml_tokens.specs.declared.fault_kind.FaultKind.{FaultKind}
use Rattle.tree_print.specs.AttributeBodyPrints.{body_escape}
use Rattle.xml_tokens.specs.Tokens.{is_raw_char, is_raw_value_char}
use Rattle.xml_tokens.specs.readers.Tokens.{read_reference, reference_follows, read_value}
use Rattle.tree_text.specs.readers.Texts.{read_whole_reference, read_unquoted_value}
use Rattle.xml_tokens.proofs.ReadFronts.{Reads, reads_none, reads_more, reads_valued, reads_atomic, AreBetween, between_none, between_more, reads_between}
use Rattle.xml_tokens.specs.Values.{normalized_value as value_of}

pub both : (a b : Bool) → a && b ≡ true → (a ≡ true) × (b ≡ true)
both true true h = (refl, refl)
both true false h = absurd cc
both false b h = absurd cc

pub not_true : (b : Bool) → not b ≡ true → b ≡ false
not_true true h = absurd cc
not_true false h = refl

-- ---- the print of a character: itself, where it is allowed raw, or a reference
pub data Stands (plain : ℕ → Bool) (c : ℕ) (w : List ℕ) : Type 0 where
  as_it_is : w ≡ c ∷ [] → plain c ≡ true → Stands plain c w
  as_reference : (after : List ℕ) → w ≡ 38 ∷ after → ((rest : List ℕ) → Reads read_reference (w ++ rest) c rest) → Stands plain c w

-- raw in a text, and neither read as another character nor part of what a text can't contain
abbrev pub plain_text : ℕ → Bool
plain_text c = is_raw_char c && (not (c == 13) && not (c == 62))

-- raw in a value, and not read as another character
abbrev pub plain_value : (ℕ → Bool) → ℕ → Bool
plain_value stands c = stands c && (not (c == 13) && not (c == 9 || c == 10))

-- in a text
pub text_stands : (c : ℕ) → is_char c ≡ true → Stands (plain_text) c (text_escape c)
text_stands c k = by (c == 38) refl (c == 60) refl (c == 62) refl (c == 13) refl
  where
    by : (b38 : Bool) → c == 38 ≡ b38 → (b60 : Bool) → c == 60 ≡ b60 → (b62 : Bool) → c == 62 ≡ b62 → (b13 : Bool) → c == 13 ≡ b13 → Stands (plain_text) c (text_escape c)
    by true e b60 f b62 g b13 h = subst (λ (z : ℕ). Stands (plain_text) z (text_escape z)) (sym (eqb-true c 38 e)) (as_reference (97 ∷ 109 ∷ 112 ∷ 59 ∷ []) refl (λ rest. record { read = refl }))
    by false e true f b62 g b13 h = subst (λ (z : ℕ). Stands (plain_text) z (text_escape z)) (sym (eqb-true c 60 f)) (as_reference (108 ∷ 116 ∷ 59 ∷ []) refl (λ rest. record { read = refl }))
    by false e false f true g b13 h = subst (λ (z : ℕ). Stands (plain_text) z (text_escape z)) (sym (eqb-true c 62 g)) (as_reference (103 ∷ 116 ∷ 59 ∷ []) refl (λ rest. record { read = refl }))
    by false e false f false g true h = subst (λ (z : ℕ). Stands (plain_text) z (text_escape z)) (sym (eqb-true c 13 h)) (as_reference (35 ∷ 120 ∷ 68 ∷ 59 ∷ []) refl (λ rest. record { read = refl }))
    by false e false f false g false h = as_it_is (rw (e, f, g, h) refl) (rw (k, e, f, g, h) refl)

-- in a value between quotes
pub value_stands : (c : ℕ) → is_char c ≡ true → Stands (plain_value (is_raw_value_char 34)) c (value_escape c)
value_stands c k = by (c == 38) refl (c == 60) refl (c == 34) refl (c == 9) refl (c == 10) refl (c == 13) refl
  where
    by : (b38 : Bool) → c == 38 ≡ b38 → (b60 : Bool) → c == 60 ≡ b60 → (b34 : Bool) → c == 34 ≡ b34 → (b9 : Bool) → c == 9 ≡ b9 → (b10 : Bool) → c == 10 ≡ b10 → (b13 : Bool) → c == 13 ≡ b13 → Stands (plain_value (is_raw_value_char 34)) c (value_escape c)
    by true e b60 f b34 g b9 h b10 i b13 j = subst (λ (z : ℕ). Stands (plain_value (is_raw_value_char 34)) z (value_escape z)) (sym (eqb-true c 38 e)) (as_reference (97 ∷ 109 ∷ 112 ∷ 59 ∷ []) refl (λ rest. record { read = refl }))
    by false e true f b34 g b9 h b10 i b13 j = subst (λ (z : ℕ). Stands (plain_value (is_raw_value_char 34)) z (value_escape z)) (sym (eqb-true c 60 f)) (as_reference (108 ∷ 116 ∷ 59 ∷ []) refl (λ rest. record { read = refl }))
    by false e false f true g b9 h b10 i b13 j = subst (λ (z : ℕ). Stands (plain_value (is_raw_value_char 34)) z (value_escape z)) (sym (eqb-true c 34 g)) (as_reference (113 ∷ 117 ∷ 111 ∷ 116 ∷ 59 ∷ []) refl (λ rest. record { read = refl }))
    by false e false f false g true h b10 i b13 j = subst (λ (z : ℕ). Stands (plain_value (is_raw_value_char 34)) z (value_escape z)) (sym (eqb-true c 9 h)) (as_reference (35 ∷ 120 ∷ 57 ∷ 59 ∷ []) refl (λ rest. record { read = refl }))
    by false e false f false g false h true i b13 j = subst (λ (z : ℕ). Stands (plain_value (is_raw_value_char 34)) z (value_escape z)) (sym (eqb-true c 10 i)) (as_reference (35 ∷ 120 ∷ 65 ∷ 59 ∷ []) refl (λ rest. record { read = refl }))
    by false e false f false g false h false i true j = subst (λ (z : ℕ). Stands (plain_value (is_raw_value_char 34)) z (value_escape z)) (sym (eqb-true c 13 j)) (as_reference (35 ∷ 120 ∷ 68 ∷ 59 ∷ []) refl (λ rest. record { read = refl }))
    by false e false f false g false h false i false j = as_it_is (rw (e, f, g, h, i, j) refl) (rw (k, e, f, g, h, i, j) refl)

-- in a body
pub body_stands : (c : ℕ) → is_char c ≡ true → Stands (plain_value is_raw_char) c (body_escape c)
body_stands c char = by (c == 38) refl (c == 60) refl (c == 34) refl (c == 39) refl (c == 9) refl (c == 10) refl (c == 13) refl
  where
    by : (b38 : Bool) → c == 38 ≡ b38 → (b60 : Bool) → c == 60 ≡ b60 → (b34 : Bool) → c == 34 ≡ b34 → (b39 : Bool) → c == 39 ≡ b39 → (b9 : Bool) → c == 9 ≡ b9 → (b10 : Bool) → c == 10 ≡ b10 → (b13 : Bool) → c == 13 ≡ b13 → Stands (plain_value is_raw_char) c (body_escape c)
    by true e b60 f b34 g b39 h b9 i b10 j b13 k = subst (λ (z : ℕ). Stands (plain_value is_raw_char) z (body_escape z)) (sym (eqb-true c 38 e)) (as_reference (97 ∷ 109 ∷ 112 ∷ 59 ∷ []) refl (λ rest. record { read = refl }))
    by false e true f b34 g b39 h b9 i b10 j b13 k = subst (λ (z : ℕ). Stands (plain_value is_raw_char) z (body_escape z)) (sym (eqb-true c 60 f)) (as_reference (108 ∷ 116 ∷ 59 ∷ []) refl (λ rest. record { read = refl }))
    by false e false f true g b39 h b9 i b10 j b13 k = subst (λ (z : ℕ). Stands (plain_value is_raw_char) z (body_escape z)) (sym (eqb-true c 34 g)) (as_reference (113 ∷ 117 ∷ 111 ∷ 116 ∷ 59 ∷ []) refl (λ rest. record { read = refl }))
    by false e false f false g true h b9 i b10 j b13 k = subst (λ (z : ℕ). Stands (plain_value is_raw_char) z (body_escape z)) (sym (eqb-true c 39 h)) (as_reference (97 ∷ 112 ∷ 111 ∷ 115 ∷ 59 ∷ []) refl (λ rest. record { read = refl }))
    by false e false f false g false h true i b10 j b13 k = subst (λ (z : ℕ). Stands (plain_value is_raw_char) z (body_escape z)) (sym (eqb-true c 9 i)) (as_reference (35 ∷ 120 ∷ 57 ∷ 59 ∷ []) refl (λ rest. record { read = refl }))
    by false e false f false g false h false i true j b13 k = subst (λ (z : ℕ). Stands (plain_value is_raw_char) z (body_escape z)) (sym (eqb-true c 10 j)) (as_reference (35 ∷ 120 ∷ 65 ∷ 59 ∷ []) refl (λ rest. record { read = refl }))
    by false e false f false g false h false i false j true k = subst (λ (z : ℕ). Stands (plain_value is_raw_char) z (body_escape z)) (sym (eqb-true c 13 k)) (as_reference (35 ∷ 120 ∷ 68 ∷ 59 ∷ []) refl (λ rest. record { read = refl }))
    by false e false f false g false h false i false j false k = as_it_is (rw (e, f, g, h, i, j, k) refl) (rw (char, e, f, i, j, k) refl)

-- ---- values

pub longer : (text after next : List ℕ) (c : ℕ) → text ≡ (c ∷ after) ++ next → length next < length text
longer text after next c e = let n = ap length e in let m = length-append after next in omega (arith, n, m)

module _ (stands : ℕ → Bool) (reference : Reader FaultKind ℕ) where
  -- a text is read as this value, up to a tail
  pub record IsValue (text value tail : List ℕ) : Type 0 where
    pub first : List ℕ
    pub pieces : List (ℕ × List ℕ)
    pub between : AreBetween reference_follows (read_run stands) reference text first pieces tail
    pub spelled : value_of (first, pieces) ≡ value

  pub value_none : (tail : List ℕ) → first_char_is stands tail ≡ false → reference_follows tail ≡ false → IsValue tail [] tail
  value_none tail h f = record { first = []; pieces = []; between = between_none tail (reads_none stands tail h) f; spelled = refl }

  value_raw : (c : ℕ) (text value tail : List ℕ) → stands c ≡ true → c == 13 ≡ false → c == 9 || c == 10 ≡ false → IsValue text value tail → IsValue (c ∷ text) (c ∷ value) tail
  value_raw c text value tail h r b v =
      let k = v.between in record {
        first = c ∷ v.first;
        pieces = v.pieces;
        between = record { next = k.next; first = reads_more stands c h k.first; shorter = (let le = k.shorter in omega (arith, le)); members = k.members };
        spelled = rw r (rw b (ap (λ (z : List ℕ). c ∷ z) v.spelled));
      }

  value_reference : (c : ℕ) (text next value tail : List ℕ) → first_char_is stands text ≡ false → reference_follows text ≡ true → Reads reference text c next → length next < length text → IsValue next value tail → IsValue text (c ∷ value) tail
  value_reference c text next value tail h f r lt v = record { first = []; pieces = (c, v.first) ∷ v.pieces; between = between_more (reads_none stands text h) f r lt v.between; spelled = ap (λ (z : List ℕ). c ∷ z) v.spelled }

  module _ (opens : stands 38 ≡ false) (reads : (text rest : List ℕ) (c : ℕ) → Reads read_reference text c rest → Reads reference text c rest) where
    value_char : (c : ℕ) (w next value tail : List ℕ) → Stands (plain_value stands) c w → IsValue next value tail → IsValue (w ++ next) (c ∷ value) tail
    value_char c w next value tail (as_it_is e p) v =
        let k = both (stands c) (not (c == 13) && not (c == 9 || c == 10)) p in
        let m = both (not (c == 13)) (not (c == 9 || c == 10)) k.1 in
        subst (λ (z : List ℕ). IsValue (z ++ next) (c ∷ value) tail) (sym e) (value_raw c next value tail k.0 (not_true (c == 13) m.0) (not_true (c == 9 || c == 10) m.1) v)
    value_char c w next value tail (as_reference after e r) v =
        let at = ap (λ (z : List ℕ). z ++ next) e in
        value_reference c (w ++ next) next value tail (ap (first_char_is stands) at ∙ opens) (ap reference_follows at) (reads (w ++ next) next c (r next)) (longer (w ++ next) after next 38 at) v

    module _ (escape : ℕ → List ℕ) (escaped : (c : ℕ) → is_char c ≡ true → Stands (plain_value stands) c (escape c)) where
      pub printed_value : (value tail : List ℕ) → list_all is_char value ≡ true → IsValue tail [] tail → IsValue (flat_map escape value ++ tail) value tail
      printed_value [] tail h e = e
      printed_value (c ∷ cs) tail h e =
          let k = both (is_char c) (list_all is_char cs) h in
          subst (λ (z : List ℕ). IsValue z (c ∷ cs) tail) (sym (append_assoc (escape c) (flat_map escape cs) tail))
          (value_char c (escape c) (flat_map escape cs ++ tail) cs tail (escaped c k.0) (printed_value cs tail k.1 e))

-- a value, up to its quote
pub reads_value : (value rest : List ℕ) → list_all is_char value ≡ true → Reads (read_value 34) (flat_map value_escape value ++ 34 ∷ rest) value (34 ∷ rest)
reads_value value rest h =
    let v = printed_value (is_raw_value_char 34) read_reference refl (λ text rest c k. k) value_escape value_stands value (34 ∷ rest) h (value_none (is_raw_value_char 34) read_reference (34 ∷ rest) refl refl) in
    subst (λ (z : List ℕ). Reads (read_value 34) (flat_map value_escape value ++ 34 ∷ rest) z (34 ∷ rest)) v.spelled (reads_valued value_of (reads_between v.between))

-- a whole body
pub reads_spelling : (value : List ℕ) → list_all is_char value ≡ true → Reads read_unquoted_value (flat_map body_escape value ++ []) value []
reads_spelling value h =
    let v = printed_value is_raw_char read_whole_reference refl (λ text rest c k. reads_atomic k) body_escape body_stands value [] h (value_none is_raw_char read_whole_reference [] refl refl) in
    subst (λ (z : List ℕ). Reads read_unquoted_value (flat_map body_escape value ++ []) z []) v.spelled (reads_valued value_of (reads_between v.between))

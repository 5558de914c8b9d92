-- Words in lower case, as characters and as bytes.
use Rattle.std.proofs.Common.{◌≡◌, ℕ, ◌+◌, ◌/◌, ◌≤◌, Bool, true, List, [], ◌∷◌, ◌++◌, map, encode_utf8_all, refl, sym, ap, ◌∙◌, arith, ◌↔◌, IsTrue}
use Rattle.std.proofs.lemmas.List.{map-append}
use Rattle.std.proofs.lemmas.Str.{encodes_same, encodes-IsAscii, encode_ascii}
use Rattle.std.proofs.lemmas.Bool.{and_parts, ltb-true}
use Rattle.std.proofs.lemmas.Str.Ascii.{IsAscii-nil, IsAscii-cons, IsAscii-map, lowercase_ascii, lowercase_is}
use Rattle.std.specs.Char.{is_ascii, to_ascii_lowercase}
use Rattle.std.specs.Cmp.{both_ways}
use Rattle.std.specs.Cmp.Lexicographic.{bytes_decides}
use Rattle.std.specs.List.{list_all}
use Rattle.std.specs.Str.{IsAscii, bytes_eq}
use lib.Utf8.{encode}
use Rattle.http_wire.specs.Fields.{same_ignoring_case}
use Rattle.xml_names.proofs.ByteOrder.{next, width, of_one, of_two, of_three, of_four, encode_two, encode_three, encode_four}

-- what a test of each byte means
are_ascii : (word : List ℕ) → list_all is_ascii word ≡ true → IsAscii word
are_ascii [] h = IsAscii-nil
are_ascii (b ∷ bs) h = let both_conditions = and_parts (is_ascii b) (list_all is_ascii bs) h in IsAscii-cons b bs (ltb-true b 128 both_conditions.0) (are_ascii bs both_conditions.1)

-- bytes that are not ASCII are unchanged
stays : (c : ℕ) → 128 ≤ c → to_ascii_lowercase c ≡ c
stays c high = (lowercase_is c).2 (omega arith)

kept : (c : ℕ) (bs : List ℕ) → 128 ≤ c → encode c ≡ bs → map to_ascii_lowercase bs ≡ bs → map to_ascii_lowercase (encode c) ≡ encode (to_ascii_lowercase c)
kept c bs high are same = ap (map to_ascii_lowercase) are ∙ same ∙ sym are ∙ ap encode (sym (stays c high))

lower_encode : (c : ℕ) → map to_ascii_lowercase (encode c) ≡ encode (to_ascii_lowercase c)
lower_encode c =
    elim (width c) [
      | of_one low ↦ ap (map to_ascii_lowercase) (encode_ascii c low) ∙ sym (encode_ascii (to_ascii_lowercase c) (lowercase_ascii c low))
      | of_two low high ↦ kept c _ low (encode_two c low high) (λ i. stays (192 + c / 64) (omega arith) i ∷ stays (next c) (omega arith) i ∷ [])
      | of_three low high ↦
          kept c _ (omega arith) (encode_three c low high) (λ i. stays (224 + c / 4096) (omega arith) i ∷ stays (next (c / 64)) (omega arith) i ∷ stays (next c) (omega arith) i ∷ [])
      | of_four low ↦
          kept c _ (omega arith) (encode_four c low)
          (λ i. stays (240 + c / 262144) (omega arith) i ∷ stays (next (c / 4096)) (omega arith) i ∷ stays (next (c / 64)) (omega arith) i ∷ stays (next c) (omega arith) i ∷ [])
    ]

pub lower_bytes : (cs : List ℕ) → map to_ascii_lowercase (encode_utf8_all cs) ≡ encode_utf8_all (map to_ascii_lowercase cs)
lower_bytes [] = refl
lower_bytes (c ∷ cs) =
    map-append to_ascii_lowercase (encode c) (encode_utf8_all cs)
    ∙ (λ i. lower_encode c i ++ lower_bytes cs i)

-- the bytes of a text are an ASCII word, ignoring case, exactly where its characters are
pub word_test : (text word octets : List ℕ) (same : Bool) → octets ≡ encode_utf8_all text → list_all is_ascii word ≡ true
    → (IsTrue same ↔ (map to_ascii_lowercase octets ≡ map to_ascii_lowercase word)) → same ≡ same_ignoring_case text word
word_test text word octets same are ascii test =
    let lowered : List ℕ = map to_ascii_lowercase text in
    let wanted : List ℕ = map to_ascii_lowercase word in
    let spelled : map to_ascii_lowercase octets ≡ encode_utf8_all lowered = ap (map to_ascii_lowercase) are ∙ lower_bytes text in
    let plain : encode_utf8_all wanted ≡ wanted = encodes-IsAscii wanted (IsAscii-map to_ascii_lowercase word lowercase_ascii (are_ascii word ascii)) in
    both_ways same (bytes_eq lowered wanted)
    (λ h. (bytes_decides lowered wanted).1 (encodes_same lowered wanted (sym spelled ∙ test.0 h ∙ sym plain)))
    (λ h. test.1 (spelled ∙ ap encode_utf8_all ((bytes_decides lowered wanted).0 h) ∙ plain))

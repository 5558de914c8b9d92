-- The length of a value as written, part by part.
use Rattle.std.proofs.Common.{◌≡◌, ◌≢◌, if◌then◌else◌, ℕ, zero, suc, ◌+◌, ◌*◌, ◌/◌, ◌%◌, ◌^◌, ◌<◌, ◌≤◌, Bool, true, false, codes, List, [], ◌∷◌, ◌++◌, length, flat_map, encode_utf8_all, bytes_eq, refl, sym, ap, ◌∙◌, add-one, drop, drop-cons, get_or, arith}
use lib.Utf8.{encode}
use Rattle.std.proofs.lemmas.Bool.Decides.{nat_tests}
use Rattle.std.proofs.lemmas.Fmt.{decimal_step_wide, decimal_digit}
use Rattle.std.proofs.lemmas.Grind.{flat_map-append}
use Rattle.std.specs.Cmp.Lexicographic.{bytes_decides}
use Rattle.std.specs.Fmt.{decimal}
use Rattle.xml_names.specs.declared.names.Name.{Name}
use Rattle.xml_names.specs.Markup.{byte_len, print_name, value_escape, quoted_value as quoted}
use Rattle.xml_names.proofs.Escapes.{encode-value}
use Rattle.xml_names.proofs.PrintLengths.{ascii, byte_len-append, byte_len-quoted}
use Rattle.xml_tree.specs.PathTexts.{path_text, steps_text}
use Rattle.edit_ops.specs.inner.OperationLengths.{value_text_len}

pub written-append : (u v : List ℕ) → value_text_len (u ++ v) ≡ value_text_len u + value_text_len v
written-append u v = ap byte_len (flat_map-append value_escape u v) ∙ byte_len-append (flat_map value_escape u) (flat_map value_escape v)

pub written-bytes : (v : List ℕ) → value_text_len v ≡ length (flat_map value_escape (encode_utf8_all v))
written-bytes v = ap length (encode-value v)

pub written-quoted : (v : List ℕ) → byte_len (quoted v) ≡ value_text_len v + 2
written-quoted v = byte_len-quoted v ∙ ap (λ n. n + 2) (sym (written-bytes v))

-- ---- names

colon : (t : List ℕ) → value_text_len (58 ∷ t) ≡ value_text_len t + 1
unfolding encode
colon t = ascii 58 (flat_map value_escape t) (omega arith)

pub written-prefixed : (n : Name) → n.prefix ≢ [] → value_text_len (print_name n) ≡ value_text_len n.prefix + value_text_len n.local + 1
written-prefixed n apart =
    ap (λ b. value_text_len (if b then n.local else (n.prefix ++ 58 ∷ n.local))) (unequal (bytes_eq n.prefix []) (λ e. apart ((bytes_decides n.prefix []).0 e)))
    ∙ omega (arith, written-append n.prefix (58 ∷ n.local), colon n.local)
  where
    unequal : (b : Bool) → (b ≡ true → ⊥) → b ≡ false
    unequal true f = absurd (f refl)
    unequal false f = refl

pub ruleset written = (written-append, written-bytes, written-quoted)

-- ---- numbers

plain_digit : (c : ℕ) → 48 ≤ c → c < 58 → value_escape c ≡ c ∷ []
plain_digit c low high = grind (arith, nat_tests)

digit : (m : ℕ) → m < 10 → value_text_len ((48 + m) ∷ []) ≡ 1
digit m h = ap (λ l. byte_len (l ++ [])) (plain_digit (48 + m) (omega arith) (omega arith)) ∙ ascii (48 + m) [] (omega arith)

pub written-decimal : (k n : ℕ) → 10 ^ k ≤ n → n < 10 * 10 ^ k → n < 10 ^ 64 → value_text_len (decimal n) ≡ k + 1
written-decimal zero n low high small = ap value_text_len (decimal_digit n (omega arith)) ∙ digit n (omega arith)
written-decimal (suc k) n low high small =
    let front = written-decimal k (n / 10) (omega arith) (omega arith) (omega arith) in
    ap value_text_len (decimal_step_wide n (omega arith) small) ∙ omega (arith, written-append (decimal (n / 10)) ((48 + n % 10) ∷ []), front, digit (n % 10) (omega arith))

-- ---- paths

pub written-step : (n : ℕ) (p : List ℕ) → value_text_len (steps_text (n ∷ p)) ≡ value_text_len (decimal (suc n)) + value_text_len (steps_text p) + 4
unfolding encode
written-step n p =
    let begins : value_text_len (codes "/*[") ≡ 3 = refl in
    let ends : value_text_len (codes "]") ≡ 1 = refl in
    let one = written-append (codes "/*[") (decimal (suc n) ++ (codes "]" ++ steps_text p)) in
    let two = written-append (decimal (suc n)) (codes "]" ++ steps_text p) in
    let three = written-append (codes "]") (steps_text p) in
    omega (arith, begins, ends, one, two, three)

pub no_steps : value_text_len (steps_text []) ≡ 0
no_steps = refl

pub written-next : (n : ℕ) (p : List ℕ) → value_text_len (steps_text (n ∷ p)) ≡ value_text_len (steps_text (n ∷ [])) + value_text_len (steps_text p)
written-next n p = omega (arith, written-step n p, written-step n [], no_steps)

-- from the i-th step on
pub written-at : (p : List ℕ) (i : ℕ) → i < length p → value_text_len (steps_text (drop i p)) ≡ value_text_len (steps_text (get_or p i 0 ∷ [])) + value_text_len (steps_text (drop (i + 1) p))
written-at p i within =
    ap (λ q. value_text_len (steps_text q)) (drop-cons p i 0 within ∙ ap (λ j. get_or p i 0 ∷ drop j p) (sym (add-one i))) ∙ written-next (get_or p i 0) (drop (i + 1) p)

pub written-steps : (p q : List ℕ) → value_text_len (steps_text (p ++ q)) ≡ value_text_len (steps_text p) + value_text_len (steps_text q)
written-steps [] q = omega (arith, no_steps)
written-steps (n ∷ p) q = omega (arith, written-next n (p ++ q), written-next n p, written-steps p q)

pub written-path : (p : List ℕ) → value_text_len (path_text p) ≡ value_text_len (steps_text p) + 1
unfolding encode
written-path p =
    let begins : value_text_len (codes "*") ≡ 1 = refl in
    omega (arith, begins, written-append (codes "*") (steps_text p))

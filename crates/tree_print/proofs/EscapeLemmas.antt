-- The print of a text with references, part by part.
use Rattle.std.proofs.Common.{◌≡◌, ℕ, ◌+◌, ◌<◌, ◌≤◌, List, [], ◌∷◌, ◌++◌, length, take, drop, get_or, flat_map, chars, encode_utf8_all, IsUtf8, sym, ap, ◌∙◌, arith, add-one, take-append-drop}
use lib.Utf8.{encode}
use Rattle.std.proofs.Math.Seq.{drop-cons}
use Rattle.std.proofs.lemmas.Str.{IsUtf8-take, IsUtf8-drop, IsCharBoundary-before_ascii, encode_ascii, encodes_same, encodes-chars, chars-append, chars_past_char}
use Rattle.std.proofs.lemmas.Grind.{flat_map-append}
use Rattle.std.proofs.lemmas.List.{take_more}
use Rattle.std.proofs.lemmas.Bool.Decides.{nat_tests}
use Rattle.xml_names.proofs.Escapes.{encode-text, encode-value}
use Rattle.tree_print.specs.declared.escapes.EscapeContext.{EscapeContext}
use Rattle.tree_print.specs.declared.escapes.EscapeContext.TheVariants.{Content, Quotes}
use Rattle.tree_print.specs.inner.Escapes.{escaped_char}
use Rattle.tree_print.proofs.PrintLemmas.{three}

-- what is not ASCII is plain
pub escape_high : (p : EscapeContext) (c : ℕ) → 128 ≤ c → escaped_char p c ≡ c ∷ []
escape_high Content c h = grind (arith, nat_tests)
escape_high Quotes c h = grind (arith, nat_tests)

encode-in : (p : EscapeContext) (cs : List ℕ) → encode_utf8_all (flat_map (escaped_char p) cs) ≡ flat_map (escaped_char p) (encode_utf8_all cs)
encode-in Content cs = encode-text cs
encode-in Quotes cs = encode-value cs

-- a text whose bytes are plain
pub plain_chars : (p : EscapeContext) (bs : List ℕ) → IsUtf8 bs → flat_map (escaped_char p) bs ≡ bs → flat_map (escaped_char p) (chars bs) ≡ chars bs
plain_chars p bs u plain = encodes_same _ _ (encode-in p (chars bs) ∙ ap (flat_map (escaped_char p)) (encodes-chars bs u) ∙ plain ∙ sym (encodes-chars bs u))

-- one more plain byte
pub plain_more : (p : EscapeContext) (bs : List ℕ) (i : ℕ) → i < length bs → flat_map (escaped_char p) (take i bs) ≡ take i bs → escaped_char p (get_or bs i 0) ≡ get_or bs i 0 ∷ [] → flat_map (escaped_char p) (take (i + 1) bs) ≡ take (i + 1) bs
plain_more p bs i within so_far one =
    let more = take_more bs i 0 within in
    ap (flat_map (escaped_char p)) more ∙ flat_map-append (escaped_char p) (take i bs) (get_or bs i 0 ∷ []) ∙ ap (λ l. l ++ (escaped_char p (get_or bs i 0) ++ [])) so_far ∙ ap (λ l. take i bs ++ (l ++ [])) one ∙ sym more

-- what follows the plain bytes of a text: a reference, and a text that is shorter
pub escaped_next : (p : EscapeContext) (bs reference : List ℕ) (i : ℕ) → IsUtf8 bs → i < length bs → get_or bs i 0 < 128 → flat_map (escaped_char p) (take i bs) ≡ take i bs → reference ≡ escaped_char p (get_or bs i 0)
    → chars (take i bs) ++ (reference ++ flat_map (escaped_char p) (chars (drop (i + 1) bs))) ≡ flat_map (escaped_char p) (chars bs)
escaped_next p bs reference i u within low plain is =
    let f = escaped_char p in
    let c = get_or bs i 0 in
    let behind = drop (i + 1) bs in
    let bound = IsCharBoundary-before_ascii bs i within low in
    let front = IsUtf8-take bs i u bound in
    let one : drop i bs ≡ encode c ++ behind = rw add-one (drop-cons bs i 0 within) ∙ ap (λ l. l ++ behind) (sym (encode_ascii c low)) in
    let whole : chars bs ≡ chars (take i bs) ++ (c ∷ chars behind) =
    ap chars (sym (take-append-drop i bs)) ∙ chars-append (take i bs) (drop i bs) front ∙ ap (λ l. chars (take i bs) ++ l) (chars_past_char (drop i bs) behind c (IsUtf8-drop bs i u bound) one) in
    sym (ap (flat_map f) whole ∙ flat_map-append f (chars (take i bs)) (c ∷ chars behind) ∙ ap (λ l. l ++ (f c ++ flat_map f (chars behind))) (plain_chars p (take i bs) front plain)
    ∙ ap (λ r. chars (take i bs) ++ (r ++ flat_map f (chars behind))) (sym is))

-- the print so far, with one more run of plain bytes and the reference after it
pub escaped_more : (p : EscapeContext) (old out begun made rest bytes plain reference after : List ℕ) (i : ℕ) → IsUtf8 bytes → bytes ≡ rest → i < length bytes → get_or bytes i 0 < 128
    → flat_map (escaped_char p) (take i bytes) ≡ take i bytes → chars reference ≡ escaped_char p (get_or bytes i 0) → plain ≡ take i rest → after ≡ drop (i + 1) rest → begun ≡ out ++ chars plain → made ≡ begun ++ chars reference
    → out ++ flat_map (escaped_char p) (chars rest) ≡ old → made ++ flat_map (escaped_char p) (chars after) ≡ old
escaped_more p old out begun made rest bytes plain reference after i u same within low front is cut left one two so_far =
    let f = flat_map (escaped_char p) in
    ap (λ l. l ++ f (chars after)) (two ∙ ap (λ l. l ++ chars reference) one) ∙ three out (chars plain) (chars reference) (f (chars after))
    ∙ ap (λ l. out ++ (chars l ++ (chars reference ++ f (chars after)))) (cut ∙ ap (take i) (sym same))
    ∙ ap (λ l. out ++ (chars (take i bytes) ++ (chars reference ++ f (chars l)))) (left ∙ ap (drop (i + 1)) (sym same))
    ∙ ap (λ l. out ++ l) (escaped_next p bytes (chars reference) i u within low front is ∙ ap (λ l. f (chars l)) same) ∙ so_far

-- and with the plain bytes at the end
pub escaped_all : (p : EscapeContext) (old out rest bytes : List ℕ) → IsUtf8 bytes → bytes ≡ rest → flat_map (escaped_char p) bytes ≡ bytes → out ++ flat_map (escaped_char p) (chars rest) ≡ old → out ++ chars rest ≡ old
escaped_all p old out rest bytes u same plain so_far =
    let f = flat_map (escaped_char p) in
    ap (λ l. out ++ l) (ap chars (sym same) ∙ sym (plain_chars p bytes u plain) ∙ ap (λ l. f (chars l)) same) ∙ so_far

-- The print of octets.
use Rattle.std.proofs.Common.{◌≡◌, ℕ, ◌<◌, Bool, List, [], ◌∷◌, true, false, not, All, refl, subst, arith}
use Rattle.std.proofs.lemmas.Bool.{agree_below, agree_below_at}
use Rattle.std.specs.Char.{is_ascii}
use Rattle.std.specs.List.{flat_map}
use Rattle.percent_encoding.specs.declared.ascii_set.AsciiSet.{AsciiSet}
use Rattle.percent_encoding.specs.AsciiSet.{should_percent_encode}
use Rattle.percent_encoding.proofs.PercentLemmas.{round_trip}
use Rattle.percent_encoding.specs.Percent.{percent_decode, percent_encode, encode_byte}
use Rattle.doc_names.specs.declared.escapes.TheConstants.{ESCAPED_IN_PARTS, INVISIBLE}
use Rattle.doc_names.specs.PercentEscapes.{escape_octets, escape_octet, is_pchar, is_visible}

-- octets outside the set are the unescaped ones
same_octet : (set : AsciiSet) (plain : ℕ → Bool) (b : ℕ) (t : Bool) → should_percent_encode set b ≡ not t → plain b ≡ t → encode_byte set b ≡ escape_octet plain b
same_octet set plain b true e h = rw (e, h) refl
same_octet set plain b false e h = rw (e, h) refl

same_octets : (set : AsciiSet) (plain : ℕ → Bool) → ((b : ℕ) → should_percent_encode set b ≡ not (plain b)) → (bs : List ℕ) → flat_map (encode_byte set) bs ≡ escape_octets plain bs
same_octets set plain h [] = refl
same_octets set plain h (b ∷ bs) = rw (same_octet set plain b (plain b) (h b) refl, same_octets set plain h bs) refl

pub escaped_by : (set : AsciiSet) (plain : ℕ → Bool) → ((b : ℕ) → should_percent_encode set b ≡ not (plain b)) → (bs : List ℕ) → percent_encode set bs ≡ escape_octets plain bs
unfolding percent_encode
escaped_by set plain h bs = same_octets set plain h bs

-- beyond ASCII everything is escaped
beyond : (set : AsciiSet) (b : ℕ) → is_ascii b ≡ false → should_percent_encode set b ≡ true
unfolding should_percent_encode
beyond set b e = rw e refl

in_parts : agree_below (λ b. should_percent_encode ESCAPED_IN_PARTS b) (λ b. not (is_pchar b)) 128 ≡ true
unfolding should_percent_encode
in_parts = refl

visible : agree_below (λ b. should_percent_encode INVISIBLE b) (λ b. not (is_visible b)) 128 ≡ true
unfolding should_percent_encode
visible = refl

ascii_is_small : (b : ℕ) → is_ascii b ≡ true → b < 128
ascii_is_small b e = grind arith

parts_at : (b : ℕ) (t : Bool) → is_ascii b ≡ t → should_percent_encode ESCAPED_IN_PARTS b ≡ not (is_pchar b)
parts_at b true e = agree_below_at (λ c. should_percent_encode ESCAPED_IN_PARTS c) (λ c. not (is_pchar c)) 128 b in_parts (ascii_is_small b e)
parts_at b false e = rw (beyond ESCAPED_IN_PARTS b e, e) refl

visible_at : (b : ℕ) (t : Bool) → is_ascii b ≡ t → should_percent_encode INVISIBLE b ≡ not (is_visible b)
visible_at b true e = agree_below_at (λ c. should_percent_encode INVISIBLE c) (λ c. not (is_visible c)) 128 b visible (ascii_is_small b e)
visible_at b false e = rw (beyond INVISIBLE b e, e) refl

-- the print of a part, and of the selector in an element's xcap-diff document
pub parts_escaped : (bs : List ℕ) → percent_encode ESCAPED_IN_PARTS bs ≡ escape_octets is_pchar bs
parts_escaped bs = escaped_by ESCAPED_IN_PARTS is_pchar (λ b. parts_at b (is_ascii b) refl) bs

pub visible_escaped : (bs : List ℕ) → percent_encode INVISIBLE bs ≡ escape_octets is_visible bs
visible_escaped bs = escaped_by INVISIBLE is_visible (λ b. visible_at b (is_ascii b) refl) bs

-- a printed part decodes to its octets
pub parts_decoded : (bs : List ℕ) → All (λ b. b < 256) bs → percent_decode (escape_octets is_pchar bs) ≡ bs
parts_decoded bs small = subst (λ x. percent_decode x ≡ bs) (parts_escaped bs) (round_trip ESCAPED_IN_PARTS bs refl small)

-- What the fields of a reply's head say: its tag, the length of its body, and whether it closes.
use Rattle.std.proofs.Common.{◌≡◌, ℕ, ◌+◌, ◌<◌, ◌≤◌, ◌^◌, ◌==◌, min, nat_lt, Bool, true, false, not, List, [], ◌∷◌, ◌++◌, length, map, codes, chars, Option, None, Some, Result, Ok, Err, refl, sym, ap, subst, ◌∙◌, arith, append-nil, length-append}
use Rattle.std.specs.Prelude.{decimal, option_map, if◌then◌else◌}
use Rattle.std.specs.Option.{option_map_or}
use Rattle.std.specs.List.{list_all, AllByRecursion}
use Rattle.std.specs.Char.{is_ascii_digit}
use Rattle.std.proofs.lemmas.Bool.{and_parts, and_from, true≢false, le-ltb}
use Rattle.std.proofs.lemmas.Bool.Decides.{nat_tests}
use Rattle.std.proofs.lemmas.Fmt.{decimal_is_IsNumeral, decimal_nonempty}
use Rattle.std.proofs.lemmas.Str.{chars-IsAscii, IsUtf8-from_ascii}
use Rattle.httparse.specs.Grammar.{Field, IsField, IsToken, is_token_byte, is_value_byte, AllPass, trim_ows, crlf}
use Rattle.httparse.specs.Spans.{name_and_value}
use Rattle.http_wire.specs.Fields.{is_number, same_ignoring_case, field_values}
use Rattle.reply_text.specs.ReplyHeads.{HeadFields}
use Rattle.reply_text.specs.MediaTypes.{media_type}
use Rattle.reply_text.specs.declared.media_types.MediaType.{MediaType}
use Rattle.reply_text.specs.declared.media_types.MediaType.TheVariants as medias
use Rattle.request_checks.specs.Tags.{AllBytesPass, is_tag_byte}
use Rattle.xcap_client.proofs.QuoteLemmas.{all_pass}
use Rattle.xcap_client.proofs.Visible.{is_visible, each_true, passes, visible_in_value, visible_trims, visible-append}
use Rattle.xcap_client.specs.BodyLengths.{body_length_of, length_by_field, exact_body_length}
use Rattle.xcap_client.specs.ResponseTags.{HasTag, IsTagOf}
use Rattle.xcap_client.specs.declared.body_length.BodyLength.{BodyLength}
use Rattle.xcap_client.specs.declared.body_length.BodyLength.TheVariants.{Empty}
use Rattle.xcap_client.specs.declared.response_fault.ResponseFault.{ResponseFault}
use Rattle.xcap_laws.proofs.DecimalDigits.{all_digits, few_digits, ascii_digits}
use Rattle.xcap_laws.proofs.ReplyLines.{Line, tree, tag_value, tag_lines, allow_lines, media_lines, size_lines, close_lines, lines_of}

-- # Each line is a field, and its value is parsed as it was written

abbrev IsSent : Line → Type 0
IsSent line = IsField (tree line) × (trim_ows (32 ∷ line.1) ≡ line.1)

sent_by : (name value : List ℕ) → 0 < length name → list_all is_token_byte name ≡ true → list_all is_value_byte (32 ∷ value) ≡ true → trim_ows (32 ∷ value) ≡ value → IsSent (name, value)
sent_by name value some token lawful trims = (record { name = (some, passes is_token_byte name token); raw = passes is_value_byte (32 ∷ value) lawful }, trims)

visibly_sent : (name value : List ℕ) → 0 < length name → list_all is_token_byte name ≡ true → list_all is_visible value ≡ true → IsSent (name, value)
visibly_sent name value some token seen = (record { name = (some, passes is_token_byte name token); raw = visible_in_value value seen }, visible_trims value seen)

seen_digit : (b : ℕ) → is_ascii_digit b ≡ true → is_visible b ≡ true
seen_digit b is = grind (arith, nat_tests)

seen_digits : (n : ℕ) → list_all is_visible (decimal n) ≡ true
seen_digits n = each_true is_ascii_digit is_visible seen_digit (decimal n) (all_digits n)

both : (xs ys : List Line) → AllByRecursion IsSent xs → AllByRecursion IsSent ys → AllByRecursion IsSent (xs ++ ys)
both [] ys one two = two
both (x ∷ xs) ys one two = (one.0, both xs ys one.1 two)

tag_sent : (tag : Option ℕ) → AllByRecursion IsSent (tag_lines tag)
unfolding is_token_byte
tag_sent None = tt
tag_sent (Some n) = (visibly_sent (codes "ETag") (tag_value n) (omega arith) refl (visible-append (codes "\"") (decimal n ++ codes "\"") refl (visible-append (decimal n) (codes "\"") (seen_digits n) refl)), tt)

allow_sent : (read_only : Option Bool) → AllByRecursion IsSent (allow_lines read_only)
unfolding is_token_byte trim_ows
allow_sent None = tt
allow_sent (Some true) = (sent_by (codes "Allow") (codes "GET, HEAD") (omega arith) refl refl refl, tt)
allow_sent (Some false) = (sent_by (codes "Allow") (codes "GET, HEAD, PUT, DELETE") (omega arith) refl refl refl, tt)

seen_media : (m : MediaType) → list_all is_visible (media_type m) ≡ true
unfolding media_type
seen_media medias.ResourceLists = refl
seen_media medias.RlsServices = refl
seen_media medias.XcapCaps = refl
seen_media medias.Element = refl
seen_media medias.Attribute = refl
seen_media medias.Namespaces = refl
seen_media medias.Error = refl
seen_media medias.Diff = refl
seen_media medias.PlainText = refl

media_sent : (media : Option MediaType) → AllByRecursion IsSent (media_lines media)
unfolding is_token_byte
media_sent None = tt
media_sent (Some m) = (visibly_sent (codes "Content-Type") (media_type m) (omega arith) refl (seen_media m), tt)

size_sent : (bodiless : Bool) (size : ℕ) → AllByRecursion IsSent (size_lines bodiless size)
unfolding is_token_byte
size_sent true size = tt
size_sent false size = (visibly_sent (codes "Content-Length") (decimal size) (omega arith) refl (seen_digits size), tt)

close_sent : (closes : Bool) → AllByRecursion IsSent (close_lines closes)
unfolding is_token_byte
close_sent true = (visibly_sent (codes "Connection") (codes "close") (omega arith) refl refl, tt)
close_sent false = tt

pub all_sent : (f : HeadFields) → AllByRecursion IsSent (lines_of f)
all_sent f =
    let e : List Line = tag_lines f.tag in
    let a : List Line = allow_lines f.read_only in
    let m : List Line = media_lines f.media in
    let l : List Line = size_lines (f.status == 304) f.size in
    let c : List Line = close_lines f.closes in
    both e (a ++ (m ++ (l ++ c))) (tag_sent f.tag) (both a (m ++ (l ++ c)) (allow_sent f.read_only) (both m (l ++ c) (media_sent f.media) (both l c (size_sent (f.status == 304) f.size) (close_sent f.closes))))

are_fields : (lines : List Line) → AllByRecursion IsSent lines → AllByRecursion IsField (map tree lines)
are_fields [] all = tt
are_fields (line ∷ lines) all = (all.0.0, are_fields lines all.1)

pub fields_of : (f : HeadFields) → AllByRecursion IsField (map tree (lines_of f))
fields_of f = are_fields (lines_of f) (all_sent f)

come_back : (lines : List Line) → AllByRecursion IsSent lines → map name_and_value (map tree lines) ≡ lines
come_back [] all = refl
come_back (line ∷ lines) all = ap (λ (v : List ℕ). (line.0, v) ∷ map name_and_value (map tree lines)) all.0.1 ∙ ap (λ (l : List Line). line ∷ l) (come_back lines all.1)

-- the fields are parsed as they were written
pub parsed : (f : HeadFields) → map name_and_value (map tree (lines_of f)) ≡ lines_of f
parsed f = come_back (lines_of f) (all_sent f)

-- # The values of fields

values-append : (name : List ℕ) (xs ys : List Line) → field_values name (xs ++ ys) ≡ field_values name xs ++ field_values name ys
values-append name [] ys = refl
values-append name (x ∷ xs) ys = on (same_ignoring_case x.0 name) (values-append name xs ys)
  where
    on : (b : Bool) → field_values name (xs ++ ys) ≡ field_values name xs ++ field_values name ys
        → (if b then x.1 ∷ field_values name (xs ++ ys) else field_values name (xs ++ ys)) ≡ (if b then x.1 ∷ field_values name xs else field_values name xs) ++ field_values name ys
    on true later = ap (λ l. x.1 ∷ l) later
    on false later = later

-- the values of a name, line by line
values : (name : List ℕ) (f : HeadFields) → field_values name (lines_of f)
    ≡ field_values name (tag_lines f.tag) ++ (field_values name (allow_lines f.read_only) ++ (field_values name (media_lines f.media) ++ (field_values name (size_lines (f.status == 304) f.size) ++ field_values name (close_lines f.closes))))
values name f =
    let e : List Line = tag_lines f.tag in
    let a : List Line = allow_lines f.read_only in
    let m : List Line = media_lines f.media in
    let l : List Line = size_lines (f.status == 304) f.size in
    let c : List Line = close_lines f.closes in
    values-append name e (a ++ (m ++ (l ++ c)))
    ∙ ap (λ x. field_values name e ++ x) (values-append name a (m ++ (l ++ c))
    ∙ ap (λ x. field_values name a ++ x) (values-append name m (l ++ c)
    ∙ ap (λ x. field_values name m ++ x) (values-append name l c)))

-- the lines of a head have no value of a name that none of them has
module _ (name : List ℕ) where
  no_tag : same_ignoring_case (codes "ETag") name ≡ false → (tag : Option ℕ) → field_values name (tag_lines tag) ≡ []
  no_tag other None = refl
  no_tag other (Some n) = rw other refl

  no_allow : same_ignoring_case (codes "Allow") name ≡ false → (read_only : Option Bool) → field_values name (allow_lines read_only) ≡ []
  no_allow other None = refl
  no_allow other (Some r) = rw other refl

  no_media : same_ignoring_case (codes "Content-Type") name ≡ false → (media : Option MediaType) → field_values name (media_lines media) ≡ []
  no_media other None = refl
  no_media other (Some m) = rw other refl

  no_size : same_ignoring_case (codes "Content-Length") name ≡ false → (bodiless : Bool) (size : ℕ) → field_values name (size_lines bodiless size) ≡ []
  no_size other true size = refl
  no_size other false size = rw other refl

  no_close : same_ignoring_case (codes "Connection") name ≡ false → (closes : Bool) → field_values name (close_lines closes) ≡ []
  no_close other true = rw other refl
  no_close other false = refl

pub no_coding : (f : HeadFields) → field_values (codes "transfer-encoding") (lines_of f) ≡ []
no_coding f =
    let name : List ℕ = codes "transfer-encoding" in
    values name f ∙ rw (no_tag name refl f.tag, no_allow name refl f.read_only, no_media name refl f.media, no_size name refl (f.status == 304) f.size, no_close name refl f.closes) refl

abbrev pub lengths : Bool → ℕ → List (List ℕ)
lengths bodiless size = if bodiless then [] else decimal size ∷ []

pub length_values : (f : HeadFields) → field_values (codes "content-length") (lines_of f) ≡ lengths (f.status == 304) f.size
length_values f =
    let name : List ℕ = codes "content-length" in
    values name f ∙ rw (no_tag name refl f.tag, no_allow name refl f.read_only, no_media name refl f.media, no_close name refl f.closes) (at (f.status == 304) f.size)
  where
    at : (bodiless : Bool) (size : ℕ) → field_values (codes "content-length") (size_lines bodiless size) ++ [] ≡ lengths bodiless size
    at true size = refl
    at false size = refl

abbrev pub tags : Option ℕ → List (List ℕ)
tags tag = option_map_or (λ n. tag_value n ∷ []) tag []

pub tag_values : (f : HeadFields) → field_values (codes "etag") (lines_of f) ≡ tags f.tag
tag_values f =
    let name : List ℕ = codes "etag" in
    values name f ∙ rw (no_allow name refl f.read_only, no_media name refl f.media, no_size name refl (f.status == 304) f.size, no_close name refl f.closes) (at f.tag)
  where
    at : (tag : Option ℕ) → field_values (codes "etag") (tag_lines tag) ++ [] ≡ tags tag
    at None = refl
    at (Some n) = refl

abbrev pub closings : Bool → List (List ℕ)
closings closes = if closes then codes "close" ∷ [] else []

pub close_values : (f : HeadFields) → field_values (codes "connection") (lines_of f) ≡ closings f.closes
close_values f =
    let name : List ℕ = codes "connection" in
    values name f ∙ rw (no_tag name refl f.tag, no_allow name refl f.read_only, no_media name refl f.media, no_size name refl (f.status == 304) f.size) (at f.closes)
  where
    at : (closes : Bool) → field_values (codes "connection") (close_lines closes) ≡ closings closes
    at true = refl
    at false = refl

-- # The tag, and the length of the body

tag_digit : (b : ℕ) → is_ascii_digit b ≡ true → is_tag_byte b ≡ true
tag_digit b is = grind (arith, nat_tests)

by_values : (fields : List Line) (tag : Option ℕ) → field_values (codes "etag") fields ≡ tags tag → IsTagOf fields (option_map decimal tag)
by_values fields None none = λ tag gives. let z : gives.value ∷ [] ≡ [] = sym gives.once ∙ none in absurd cc
by_values fields (Some n) once =
    let ascii = ascii_digits (decimal n) (all_digits n) in
    record {
      value = tag_value n;
      opaque = decimal n;
      once = once;
      quoted = (false, all_pass is_tag_byte (decimal n) (each_true is_ascii_digit is_tag_byte tag_digit (decimal n) (all_digits n)), refl);
      utf8 = IsUtf8-from_ascii (decimal n) ascii;
      text = sym (chars-IsAscii (decimal n) ascii);
    }

pub tag_is : (f : HeadFields) → IsTagOf (lines_of f) (option_map decimal f.tag)
tag_is f = by_values (lines_of f) f.tag (tag_values f)

a_number : (n : ℕ) → n < 2 ^ 64 → is_number (decimal n) ≡ true
a_number n small = and_from _ _ (some (length (decimal n)) (decimal_nonempty n small)) (all_digits n)
  where
    some : (k : ℕ) → 0 < k → nat_lt 0 k ≡ true
    some k less = grind (arith, nat_tests)

-- the length of the body by the head of a reply: none at 304, and else the size
abbrev pub body_length_for : Bool → ℕ → Result BodyLength ResponseFault
body_length_for bodiless size = if bodiless then Ok Empty else exact_body_length size

pub body_length_is : (f : HeadFields) → (f.status == 204) ≡ false → f.size < 2 ^ 64 → body_length_of f.status (lines_of f) ≡ body_length_for (f.status == 304) f.size
unfolding body_length_of length_by_field
body_length_is f other small = rw (no_coding f, length_values f, other) (at (f.status == 304))
  where
    at : (b : Bool) → length_by_field b (lengths b f.size) ≡ body_length_for b f.size
    at true = refl
    at false =
        let value = (decimal_is_IsNumeral f.size small).1 in
        let same : min f.size 18446744073709551615 ≡ f.size = omega (arith, small) in
        rw (a_number f.size small, value, same) refl

-- A reply is read back as the response with its status, its tag and its body.
use Rattle.std.proofs.Common.{◌≡◌, ℕ, ◌+◌, ◌<◌, ◌≤◌, ◌^◌, ◌==◌, nat_le, nat_lt, Bool, true, false, not, ◌&&◌, List, [], ◌∷◌, ◌++◌, length, map, take, drop, codes, Option, None, Some, Result, Ok, Err, refl, sym, ap, subst, ◌∙◌, arith, append_assoc, length-append}
use Rattle.std.specs.Prelude.{decimal, option_map, if◌then◌else◌}
use Rattle.std.specs.Option.{option_map_or}
use Rattle.std.specs.Str.Parse.{digits_value}
use Rattle.std.specs.Char.{is_ascii_digit}
use Rattle.std.proofs.lemmas.Bool.{and_parts, le-ltb, lt-ltb, leb-true, ltb-true, not-true}
use Rattle.std.proofs.lemmas.Fmt.{decimal_is_IsNumeral}
use Rattle.std.proofs.lemmas.List.{length-map, take_at}
use Rattle.std.proofs.lemmas.List.Elements.{All-from_recursion}
use Rattle.httparse.specs.Grammar.{ResponseHead, IsResponseHead, IsField, is_value_byte, print_response, status_code}
use Rattle.httparse.specs.Spans.{name_and_value}
use Rattle.reply_text.specs.ReplyHeads.{HeadFields, SentReply, reply_bytes, head_of, sent_reply, status_line, etag_line, allow_line, media_line, length_line, close_line, line_end}
use Rattle.reply_text.specs.MediaTypes.{media_type}
use Rattle.reply_text.specs.Statuses.{is_status, reason}
use Rattle.reply_text.specs.declared.media_types.MediaType.{MediaType}
use Rattle.reply_text.specs.declared.media_types.MediaType.TheVariants as medias
use Rattle.xcap_client.proofs.Visible.{passes}
use Rattle.xcap_client.specs.BodyLengths.{body_result, body_length_of, exact_body_length}
use Rattle.xcap_client.specs.ResponseHeads.{BeginsWithHead}
use Rattle.xcap_client.specs.declared.body_length.TheConstants.{MAX_RESPONSE_BODY_BYTES}
use Rattle.xcap_client.specs.Responses.{IsResponseOf, body_length_of_head, refused, responds, response_of}
use Rattle.xcap_client.specs.ResponseTags.{IsTagOf}
use Rattle.xcap_client.specs.declared.body_length.BodyLength.{BodyLength}
use Rattle.xcap_client.specs.declared.body_length.BodyLength.TheVariants.{Empty, Exactly}
use Rattle.xcap_client.specs.declared.response_fault.ResponseFault.{ResponseFault}
use Rattle.xcap_client.specs.declared.response_fault.ResponseFault.TheVariants.{TooLong}
use Rattle.xcap_laws.proofs.DecimalDigits.{all_digits, few_digits, three_digits}
use Rattle.xcap_laws.proofs.ReplyFields.{body_length_for, body_length_is, fields_of, parsed, tag_is}
use Rattle.xcap_laws.proofs.ReplyLines.{IsPhrase, Line, a_phrase, allow_lines, close_lines, framed_status, lines_of, media_lines, printed, size_lines, tag_lines, tree, tree_of}
use Rattle.xcap_laws.specs.ReadReplies.{IsReadBackReply, response_of_reply}

-- # The status

record HasThreeDigits (n : ℕ) : Type 0 where
  low : 100 ≤ n
  high : n < 1000
  other : (n == 204) ≡ false

digits_of_status : (n : ℕ) → is_status n ≡ true → HasThreeDigits n
digits_of_status n is =
    let one = and_parts (nat_le 100 n) (nat_lt n 1000 && not (n == 204)) (framed_status n is) in
    let two = and_parts (nat_lt n 1000) (not (n == 204)) one.1 in
    record { low = leb-true 100 n one.0; high = ltb-true n 1000 two.0; other = not-true (n == 204) two.1 }

-- # The limits of heads

tag_short : (tag : Option ℕ) → length (option_map_or etag_line tag []) ≤ 100
unfolding etag_line
tag_short None = omega arith
tag_short (Some n) = omega (arith, few_digits n, length-append (codes "ETag: \"" ++ decimal n ++ codes "\"") line_end, length-append (codes "ETag: \"" ++ decimal n) (codes "\""), length-append (codes "ETag: \"") (decimal n))

allow_short : (read_only : Option Bool) → length (option_map_or allow_line read_only []) ≤ 100
unfolding allow_line
allow_short None = omega arith
allow_short (Some true) = omega arith
allow_short (Some false) = omega arith

media_short : (media : Option MediaType) → length (option_map_or media_line media []) ≤ 100
unfolding media_line media_type
media_short None = omega arith
media_short (Some medias.ResourceLists) = omega arith
media_short (Some medias.RlsServices) = omega arith
media_short (Some medias.XcapCaps) = omega arith
media_short (Some medias.Element) = omega arith
media_short (Some medias.Attribute) = omega arith
media_short (Some medias.Namespaces) = omega arith
media_short (Some medias.Error) = omega arith
media_short (Some medias.Diff) = omega arith
media_short (Some medias.PlainText) = omega arith

size_short : (bodiless : Bool) (size : ℕ) → length (if bodiless then [] else length_line size) ≤ 100
unfolding length_line
size_short true size = omega arith
size_short false size = omega (arith, few_digits size, length-append (codes "Content-Length: " ++ decimal size) line_end, length-append (codes "Content-Length: ") (decimal size))

close_short : (closes : Bool) → length (if closes then close_line else []) ≤ 100
unfolding close_line
close_short true = omega arith
close_short false = omega arith

status_short : (n : ℕ) → length (status_line n) ≤ 200
unfolding status_line
status_short n =
    let d : List ℕ = decimal n in
    let r : List ℕ = reason n in
    let start : List ℕ = codes "HTTP/1.1 " in
    omega (arith, few_digits n, (a_phrase n).short, length-append (start ++ d ++ codes " " ++ r) line_end, length-append (start ++ d ++ codes " ") r, length-append (start ++ d) (codes " "), length-append start d)

head_short : (f : HeadFields) → length (head_of f) ≤ 16_384
head_short f =
    let s : List ℕ = status_line f.status in
    let e : List ℕ = option_map_or etag_line f.tag [] in
    let a : List ℕ = option_map_or allow_line f.read_only [] in
    let m : List ℕ = option_map_or media_line f.media [] in
    let l : List ℕ = if f.status == 304 then [] else length_line f.size in
    let c : List ℕ = if f.closes then close_line else [] in
    omega (
      arith,
      status_short f.status,
      tag_short f.tag,
      allow_short f.read_only,
      media_short f.media,
      size_short (f.status == 304) f.size,
      close_short f.closes,
      length-append (s ++ e ++ a ++ m ++ l ++ c) line_end,
      length-append (s ++ e ++ a ++ m ++ l) c,
      length-append (s ++ e ++ a ++ m) l,
      length-append (s ++ e ++ a) m,
      length-append (s ++ e) a,
      length-append s e,
    )

few_tags : (tag : Option ℕ) → length (tag_lines tag) ≤ 1
few_tags None = omega arith
few_tags (Some n) = omega arith

few_allows : (read_only : Option Bool) → length (allow_lines read_only) ≤ 1
few_allows None = omega arith
few_allows (Some r) = omega arith

few_medias : (media : Option MediaType) → length (media_lines media) ≤ 1
few_medias None = omega arith
few_medias (Some m) = omega arith

few_sizes : (bodiless : Bool) (size : ℕ) → length (size_lines bodiless size) ≤ 1
few_sizes true size = omega arith
few_sizes false size = omega arith

few_closes : (closes : Bool) → length (close_lines closes) ≤ 1
few_closes true = omega arith
few_closes false = omega arith

few_lines : (f : HeadFields) → length (lines_of f) ≤ 64
few_lines f =
    let e : List Line = tag_lines f.tag in
    let a : List Line = allow_lines f.read_only in
    let m : List Line = media_lines f.media in
    let l : List Line = size_lines (f.status == 304) f.size in
    let c : List Line = close_lines f.closes in
    omega (
      arith,
      few_tags f.tag,
      few_allows f.read_only,
      few_medias f.media,
      few_sizes (f.status == 304) f.size,
      few_closes f.closes,
      length-append e (a ++ (m ++ (l ++ c))),
      length-append a (m ++ (l ++ c)),
      length-append m (l ++ c),
      length-append l c,
    )

-- # The head

pub is_head : (f : HeadFields) → is_status f.status ≡ true → IsResponseHead (tree_of f)
is_head f lawful =
    let three = digits_of_status f.status lawful in
    record {
      minor = omega arith;
      digits = (three_digits f.status three.low three.high, passes is_ascii_digit (decimal f.status) (all_digits f.status));
      reason = passes is_value_byte (reason f.status) (a_phrase f.status).lawful;
      fields = All-from_recursion IsField (map tree (lines_of f)) (fields_of f);
    }

-- whatever follows its bytes, they begin with the head
pub begins : (f : HeadFields) (rest : List ℕ) → is_status f.status ≡ true → BeginsWithHead (head_of f ++ rest) (tree_of f) rest
begins f rest lawful = record {
  reads = (is_head f lawful, ap (λ (l : List ℕ). l ++ rest) (sym (printed f)));
  short = subst (λ (l : List ℕ). length l ≤ 16_384) (sym (printed f)) (head_short f);
  few = omega (arith, length-map (lines_of f) tree, few_lines f);
}

-- and with the reply's body after it
pub begins_reply : (f : HeadFields) (body more : List ℕ) → is_status f.status ≡ true → BeginsWithHead (reply_bytes (sent_reply f body) ++ more) (tree_of f) (body ++ more)
begins_reply f body more lawful = subst (λ (l : List ℕ). BeginsWithHead l (tree_of f) (body ++ more)) (sym (append_assoc (head_of f) body more)) (begins f (body ++ more) lawful)

pub code_is : (f : HeadFields) → is_status f.status ≡ true → status_code (tree_of f) ≡ f.status
code_is f lawful =
    let three = digits_of_status f.status lawful in
    (decimal_is_IsNumeral f.status (omega (arith, three.high))).1

pub length_is_exact : (f : HeadFields) → is_status f.status ≡ true → f.size < 2 ^ 64 → body_length_of_head (tree_of f) ≡ body_length_for (f.status == 304) f.size
length_is_exact f lawful small =
    let three = digits_of_status f.status lawful in
    ap (λ (n : ℕ). body_length_of n (map name_and_value (tree_of f).fields)) (code_is f lawful)
    ∙ ap (body_length_of f.status) (parsed f)
    ∙ body_length_is f three.other small

-- # The body

-- a reply with these fields and this body: the size is the body's length, and a 304 has no body
pub record IsFramedBy (f : HeadFields) (body : List ℕ) : Type 0 where
  pub lawful : is_status f.status ≡ true
  pub size : f.size ≡ length body
  pub bodiless : (f.status == 304) ≡ true → body ≡ []

pub body_read : (size : ℕ) (body more : List ℕ) (bodiless : Bool) → size ≡ length body → (bodiless ≡ true → body ≡ []) → length body ≤ MAX_RESPONSE_BODY_BYTES → body_result (body_length_for bodiless size) (body ++ more) ≡ Ok body
body_read size body more true same none short = ap Ok (sym (none refl))
body_read size body more false same none short =
    rw (le-ltb MAX_RESPONSE_BODY_BYTES size (omega (arith, same, short)), le-ltb (length (body ++ more)) size (omega (arith, same, length-append body more)))
    (ap Ok (take_at body more size (sym same)))

pub tag_read : (f : HeadFields) → IsTagOf (map name_and_value (tree_of f).fields) (option_map decimal f.tag)
tag_read f = subst (λ (l : List Line). IsTagOf l (option_map decimal f.tag)) (sym (parsed f)) (tag_is f)

pub says_back : (f : HeadFields) (body more : List ℕ) → IsFramedBy f body → length body ≤ MAX_RESPONSE_BODY_BYTES → IsResponseOf (reply_bytes (sent_reply f body) ++ more) (Ok (response_of_reply (sent_reply f body) f.tag))
says_back f body more framed short =
    let small : f.size < 2 ^ 64 = omega (arith, framed.size, short) in
    responds (tree_of f) (body ++ more) (option_map decimal f.tag) body (begins_reply f body more framed.lawful) (tag_read f)
    (ap (λ (e : Result BodyLength ResponseFault). body_result e (body ++ more)) (length_is_exact f framed.lawful small) ∙ body_read f.size body more (f.status == 304) framed.size framed.bodiless short)
    (ap (λ (n : ℕ). Ok (record { status = n; tag = option_map decimal f.tag; body = body })) (sym (code_is f framed.lawful)))

pub read_back : (f : HeadFields) (body : List ℕ) → IsFramedBy f body → length body ≤ MAX_RESPONSE_BODY_BYTES → IsReadBackReply (sent_reply f body)
read_back f body framed short = record {
  fields = f;
  is_sent = refl;
  head = tree_of f;
  begins = λ more. begins_reply f body more framed.lawful;
  says = λ more. says_back f body more framed short;
}

too_long : (size : ℕ) (rest : List ℕ) → MAX_RESPONSE_BODY_BYTES < size → body_result (exact_body_length size) rest ≡ Err (TooLong size)
too_long size rest long = rw (lt-ltb MAX_RESPONSE_BODY_BYTES size long) refl

-- a body beyond the limit, which is no 304's
pub longer : (f : HeadFields) (body more : List ℕ) → IsFramedBy f body → MAX_RESPONSE_BODY_BYTES < length body → length body < 2 ^ 64 → IsResponseOf (reply_bytes (sent_reply f body) ++ more) (Err (TooLong (length body)))
longer f body more framed long countable = by (f.status == 304) refl
  where
    by : (b : Bool) → (f.status == 304) ≡ b → IsResponseOf (reply_bytes (sent_reply f body) ++ more) (Err (TooLong (length body)))
    by true is = absurd (omega (arith, long, ap length (framed.bodiless is)))
    by false is =
        let small : f.size < 2 ^ 64 = omega (arith, framed.size, countable) in
        let reads : body_length_of_head (tree_of f) ≡ exact_body_length f.size = length_is_exact f framed.lawful small ∙ ap (λ (b : Bool). body_length_for b f.size) is in
        refused (tree_of f) (body ++ more) (TooLong f.size) (begins_reply f body more framed.lawful)
        (ap (λ (e : Result BodyLength ResponseFault). body_result e (body ++ more)) reads ∙ too_long f.size (body ++ more) (omega (arith, framed.size, long)))
        (ap (λ (n : ℕ). Err (TooLong n)) (sym framed.size))

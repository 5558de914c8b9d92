-- The head of a reply as a tree of the grammar of responses, and what its fields say.
use Rattle.std.proofs.Common.{◌≡◌, ℕ, ◌+◌, ◌<◌, ◌≤◌, ◌==◌, nat_le, nat_lt, Bool, true, false, not, ◌&&◌, ◌||◌, List, [], ◌∷◌, ◌++◌, length, map, flat_map, codes, Option, None, Some, refl, sym, ap, subst, ◌∙◌, arith, append_assoc, append-nil, length-append}
use Rattle.std.specs.Prelude.{decimal, if◌then◌else◌}
use Rattle.std.specs.Option.{option_map_or}
use Rattle.std.specs.List.{list_all, list_any, AllByRecursion}
use Rattle.std.specs.Char.{is_ascii_digit}
use Rattle.std.proofs.lemmas.Bool.{and_parts, and_from, true≢false, eqb-true}
use Rattle.std.proofs.lemmas.Bool.Decides.{nat_tests}
use Rattle.httparse.specs.Grammar.{ResponseHead, print_response, Field, IsField, print_field, crlf, IsToken, is_token_byte, is_value_byte, AllPass, trim_ows}
use Rattle.httparse.specs.Spans.{name_and_value}
use Rattle.http_wire.specs.Fields.{same_ignoring_case, field_values}
use Rattle.reply_text.specs.ReplyHeads.{HeadFields, head_of, status_line, etag_line, allow_line, media_line, length_line, close_line, line_end}
use Rattle.reply_text.specs.MediaTypes.{media_type}
use Rattle.reply_text.specs.Statuses.{is_status, reason, statuses}
use Rattle.reply_text.specs.declared.media_types.MediaType.{MediaType}
use Rattle.reply_text.specs.declared.media_types.MediaType.TheVariants as medias
use Rattle.xcap_client.proofs.Visible.{is_visible, each_true, passes, visible_in_value, visible_trims, visible-append}
use Rattle.xcap_laws.proofs.DecimalDigits.{all_digits, few_digits}

-- # Statuses and their phrases

-- what holds of each of some numbers holds of any that is among them
of_one : (test : ℕ → Bool) (n : ℕ) (ss : List ℕ) → list_all test ss ≡ true → list_any (λ s. n == s) ss ≡ true → test n ≡ true
of_one test n [] all is = absurd (true≢false (sym is))
of_one test n (s ∷ ss) all is =
    let parts = and_parts (test s) (list_all test ss) all in
    by (n == s) refl parts.0 (λ among. of_one test n ss parts.1 among) is
  where
    by : (b : Bool) → (n == s) ≡ b → test s ≡ true → (list_any (λ s. n == s) ss ≡ true → test n ≡ true) → (b || list_any (λ s. n == s) ss) ≡ true → test n ≡ true
    by true same passes later is = ap test (eqb-true n s same) ∙ passes
    by false other passes later is = later is

-- three digits, and not 204
abbrev is_framed_status : ℕ → Bool
is_framed_status n = nat_le 100 n && (nat_lt n 1000 && not (n == 204))

pub framed_status : (n : ℕ) → is_status n ≡ true → is_framed_status n ≡ true
framed_status n is = of_one is_framed_status n statuses refl is

pub record IsPhrase (text : List ℕ) : Type 0 where
  pub lawful : list_all is_value_byte text ≡ true
  pub short : length text ≤ 22

pub a_phrase : (n : ℕ) → IsPhrase (reason n)
unfolding reason
a_phrase n =
    next (n == 200) (codes "OK") refl (omega arith) (next (n == 201) (codes "Created") refl (omega arith) (next (n == 304) (codes "Not Modified") refl (omega arith) (next (n == 400) (codes "Bad Request") refl (omega arith)
    (next (n == 403) (codes "Forbidden") refl (omega arith) (next (n == 404) (codes "Not Found") refl (omega arith) (next (n == 405) (codes "Method Not Allowed") refl (omega arith) (next (n == 409) (codes "Conflict") refl (omega arith)
    (next (n == 410) (codes "Gone") refl (omega arith) (next (n == 412) (codes "Precondition Failed") refl (omega arith) (next (n == 413) (codes "Content Too Large") refl (omega arith) (next (n == 415) (codes "Unsupported Media Type") refl (omega arith)
    (next (n == 500) (codes "Internal Server Error") refl (omega arith) (next (n == 501) (codes "Not Implemented") refl (omega arith) (next (n == 503) (codes "Service Unavailable") refl (omega arith) (record { lawful = refl; short = omega arith }))))))))))))))
    )
  where
    next : (b : Bool) (text : List ℕ) {other : List ℕ} → list_all is_value_byte text ≡ true → length text ≤ 22 → IsPhrase other → IsPhrase (if b then text else other)
    next true text lawful short rest = record { lawful = lawful; short = short }
    next false text lawful short rest = rest

-- # Field lines

abbrev pub Line : Type 0
Line = List ℕ × List ℕ

-- the value of an ETag field: the number in quotes
abbrev pub tag_value : ℕ → List ℕ
tag_value n = codes "\"" ++ (decimal n ++ codes "\"")

abbrev pub tag_lines : Option ℕ → List Line
tag_lines tag = option_map_or (λ n. (codes "ETag", tag_value n) ∷ []) tag []

abbrev pub allow_lines : Option Bool → List Line
allow_lines read_only =
    option_map_or (λ r. (codes "Allow", if r then codes "GET, HEAD" else codes "GET, HEAD, PUT, DELETE") ∷ []) read_only []

abbrev pub media_lines : Option MediaType → List Line
media_lines media = option_map_or (λ m. (codes "Content-Type", media_type m) ∷ []) media []

abbrev pub size_lines : Bool → ℕ → List Line
size_lines bodiless size = if bodiless then [] else (codes "Content-Length", decimal size) ∷ []

abbrev pub close_lines : Bool → List Line
close_lines closes = if closes then (codes "Connection", codes "close") ∷ [] else []

abbrev pub lines_of : HeadFields → List Line
lines_of f =
    tag_lines f.tag
    ++ (allow_lines f.read_only ++ (media_lines f.media ++ (size_lines (f.status == 304) f.size ++ close_lines f.closes)))

-- the field line of the grammar
abbrev pub tree : Line → Field
tree line = record { name = line.0; raw = 32 ∷ line.1; end = crlf }

abbrev pub tree_of : HeadFields → ResponseHead
tree_of f = record {
  blank = [];
  minor = 1;
  digits = decimal f.status;
  reason = Some (reason f.status);
  line_end = crlf;
  fields = map tree (lines_of f);
  last = crlf;
}

-- # The head that is printed

abbrev prints : List Line → List ℕ
prints lines = flat_map print_field (map tree lines)

prints-append : (xs ys : List Line) → prints (xs ++ ys) ≡ prints xs ++ prints ys
prints-append [] ys = refl
prints-append (x ∷ xs) ys = ap (λ l. print_field (tree x) ++ l) (prints-append xs ys) ∙ sym (append_assoc (print_field (tree x)) (prints xs) (prints ys))

prints_tag : (tag : Option ℕ) → prints (tag_lines tag) ≡ option_map_or etag_line tag []
unfolding etag_line
prints_tag None = refl
prints_tag (Some n) = append-nil (print_field (tree (codes "ETag", tag_value n)))

prints_allow : (read_only : Option Bool) → prints (allow_lines read_only) ≡ option_map_or allow_line read_only []
unfolding allow_line
prints_allow None = refl
prints_allow (Some true) = refl
prints_allow (Some false) = refl

prints_media : (media : Option MediaType) → prints (media_lines media) ≡ option_map_or media_line media []
unfolding media_line
prints_media None = refl
prints_media (Some m) = append-nil (print_field (tree (codes "Content-Type", media_type m)))

prints_size : (bodiless : Bool) (size : ℕ) → prints (size_lines bodiless size) ≡ (if bodiless then [] else length_line size)
unfolding length_line
prints_size true size = refl
prints_size false size = append-nil (print_field (tree (codes "Content-Length", decimal size)))

prints_close : (closes : Bool) → prints (close_lines closes) ≡ (if closes then close_line else [])
unfolding close_line
prints_close true = refl
prints_close false = refl

regroup : (s e a m l c end : List ℕ) → s ++ ((e ++ (a ++ (m ++ (l ++ c)))) ++ end) ≡ (((((s ++ e) ++ a) ++ m) ++ l) ++ c) ++ end
regroup s e a m l c end = simp append_assoc

-- the lines as they are printed one after the other
prints_all : (f : HeadFields) → prints (lines_of f)
    ≡ option_map_or etag_line f.tag [] ++ (option_map_or allow_line f.read_only [] ++ (option_map_or media_line f.media [] ++ ((if f.status == 304 then [] else length_line f.size) ++ (if f.closes then close_line else []))))
prints_all f =
    let e : List Line = tag_lines f.tag in
    let a : List Line = allow_lines f.read_only in
    let m : List Line = media_lines f.media in
    let l : List Line = size_lines (f.status == 304) f.size in
    let c : List Line = close_lines f.closes in
    let one = prints-append e (a ++ (m ++ (l ++ c))) in
    let two = prints-append a (m ++ (l ++ c)) in
    let three = prints-append m (l ++ c) in
    let four = prints-append l c in
    rw (one, two, three, four, prints_tag f.tag, prints_allow f.read_only, prints_media f.media, prints_size (f.status == 304) f.size, prints_close f.closes) refl

starts : (digits phrase : List ℕ) → ((codes "HTTP/1." ++ 49 ∷ []) ++ 32 ∷ digits ++ 32 ∷ phrase) ++ line_end ≡ (codes "HTTP/1.1 " ++ digits ++ codes " " ++ phrase) ++ line_end
starts digits phrase = ap (λ l. (codes "HTTP/1.1 " ++ l) ++ line_end) (sym (append_assoc digits (32 ∷ []) phrase))

pub printed : (f : HeadFields) → print_response (tree_of f) ≡ head_of f
unfolding print_response status_line
printed f =
    ap (λ l. l ++ (prints (lines_of f) ++ line_end)) (starts (decimal f.status) (reason f.status))
    ∙ ap (λ l. status_line f.status ++ (l ++ line_end)) (prints_all f)
    ∙ regroup (status_line f.status) (option_map_or etag_line f.tag []) (option_map_or allow_line f.read_only []) (option_map_or media_line f.media []) (if f.status == 304 then [] else length_line f.size) (if f.closes then close_line else []) line_end

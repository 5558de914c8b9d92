-- A printed id reads back as itself.
use Rattle.std.proofs.Common.{◌≡◌, ◌≢◌, ℕ, ◌<◌, ◌/◌, ◌%◌, Bool, true, false, not, ◌&&◌, ◌==◌, List, [], ◌∷◌, ◌++◌, None, Some, Result, Ok, All, codes, encode_utf8_all, drop, refl, ap, ◌∙◌, sym, subst, append_assoc, arith}
use Rattle.std.proofs.lemmas.Bool.{and_parts, agree_below, agree_below_at, ltb-true}
use Rattle.std.proofs.lemmas.Str.{IsUtf8-from_ascii}
use Rattle.std.specs.Char.{is_ascii, is_ascii_hexdigit}
use Rattle.std.specs.Cmp.Lexicographic.{bytes_decides}
use Rattle.std.specs.Fmt.{digit_glyph}
use Rattle.std.specs.List.{list_all}
use Rattle.std.specs.Str.{bytes_eq, chars, IsUtf8, IsAscii}
use Rattle.xml_tokens.specs.Tokens.{is_different_char}
use Rattle.xml_grammar.specs.Rules.{AllPass}
use Rattle.percent_encoding.specs.Percent.{percent_decode, percent_encode_byte}
use Rattle.doc_names.specs.declared.doc_id.Auid.{Auid}
use Rattle.doc_names.specs.declared.doc_id.Auid.TheVariants.{ResourceLists, RlsServices, XcapCaps}
use Rattle.doc_names.specs.declared.doc_id.Home.{Home}
use Rattle.doc_names.specs.declared.doc_id.Home.TheVariants.{Global, User}
use Rattle.doc_names.specs.declared.doc_id.DocId.{DocId}
use Rattle.xcap_uri.specs.readers.Steps.{UriError}
use Rattle.xcap_uri.specs.declared.shape.Shape.TheVariants as shapes
use Rattle.xcap_uri.specs.declared.target.Target.TheVariants.{Document}
use Rattle.xcap_uri.specs.Delimiters.{pieces}
use Rattle.xcap_uri.specs.Escapes.{has_complete_escapes}
use Rattle.xcap_uri.specs.readers.Escapes.{parsed_text}
use Rattle.doc_names.specs.PercentEscapes.{escape_octets, escape_octet, is_pchar, escape_part as part_text}
use Rattle.doc_names.specs.DocIds.{IsDocumentSegment, IsAddressable, IsAddressableHome, home_text, id_text}
use Rattle.doc_names.specs.Usages.{auid_text}
use Rattle.xcap_uri.specs.Roots.{slash, path_of_segments, path_of, is_root_text as is_root}
use Rattle.xcap_uri.specs.readers.Shapes.{is_empty, shape_of}
use Rattle.xcap_uri.specs.inner.OctetTexts.{IsOctet, IsDecodedText, IsDecodedHome}
use Rattle.xcap_uri.specs.Targets.{rest_under, rest_under_root, question}
use Rattle.xcap_uri.specs.readers.Targets.{parsed_target, parsed_rest, parsed_segments, parsed_path}
use Rattle.doc_names.specs.DocIds.{selector_separator}
use Rattle.xcap_uri.proofs.EscapeLemmas.{read_as_text}
use Rattle.xcap_uri.proofs.Pieces.{before_all, behind_all, pieces_one, pieces_more, after_append}
use Rattle.xcap_uri.proofs.RootAnswers.{root_begins}
use Rattle.doc_names.proofs.OctetPrints.{parts_decoded}
use Rattle.doc_names.proofs.Words.{word_letters}
use Rattle.doc_names.proofs.AsciiPrints.{auid_letters}

-- ---- parts

pass_append : (p : ℕ → Bool) (u v : List ℕ) → AllPass p u → AllPass p v → AllPass p (u ++ v)
pass_append p [] v a b = b
pass_append p (c ∷ u) v a b = (a.0, pass_append p u v a.1 b)

-- what every plain octet, `%` and every digit pass
record Passes (p : ℕ → Bool) : Type 0 where
  plain : agree_below (λ b. is_pchar b && not (p b)) (λ b. false) 128 ≡ true
  percent : p 37 ≡ true
  digits : agree_below (λ n. p (digit_glyph true n)) (λ n. true) 16 ≡ true

not_false : (t : Bool) → (true && not t) ≡ false → t ≡ true
not_false true h = refl
not_false false h = sym h

plain_passes : (p : ℕ → Bool) → Passes p → (b : ℕ) → is_pchar b ≡ true → p b ≡ true
plain_passes p passes b h =
    let small = ltb-true b 128 (and_parts (is_ascii b) _ h).0 in
    not_false (p b) (rw h at (agree_below_at (λ c. is_pchar c && not (p c)) (λ c. false) 128 b passes.plain small))

digit_passes : (p : ℕ → Bool) → Passes p → (n : ℕ) → n < 16 → p (digit_glyph true n) ≡ true
digit_passes p passes n small = agree_below_at (λ k. p (digit_glyph true k)) (λ k. true) 16 n passes.digits small

octet_passes : (p : ℕ → Bool) → Passes p → (b : ℕ) (t : Bool) → is_pchar b ≡ t → AllPass p (escape_octet is_pchar b)
unfolding percent_encode_byte
octet_passes p passes b true h = rw h (plain_passes p passes b h, tt)
octet_passes p passes b false h = rw h (passes.percent, (digit_passes p passes (b / 16 % 16) (omega arith), (digit_passes p passes (b % 16) (omega arith), tt)))

octets_pass : (p : ℕ → Bool) → Passes p → (bs : List ℕ) → AllPass p (escape_octets is_pchar bs)
octets_pass p passes [] = tt
octets_pass p passes (b ∷ bs) = pass_append p (escape_octet is_pchar b) (escape_octets is_pchar bs) (octet_passes p passes b (is_pchar b) refl) (octets_pass p passes bs)

slashes : Passes (is_different_char slash)
slashes = record { plain = refl; percent = refl; digits = refl }

questions : Passes (is_different_char question)
questions = record { plain = refl; percent = refl; digits = refl }

-- ---- what a part reads as

skip : (b : ℕ) (rest : List ℕ) → (b == 37) ≡ false → has_complete_escapes (b ∷ rest) ≡ has_complete_escapes rest
skip b [] h = rw h refl
skip b (c ∷ []) h = rw h refl
skip b (c ∷ d ∷ rest) h = rw h refl

no_percent : agree_below (λ c. is_pchar c && (c == 37)) (λ c. false) 128 ≡ true
no_percent = refl

plain_is_no_percent : (b : ℕ) → is_pchar b ≡ true → (b == 37) ≡ false
plain_is_no_percent b h =
    let small = ltb-true b 128 (and_parts (is_ascii b) _ h).0 in
    rw h at (agree_below_at (λ c. is_pchar c && (c == 37)) (λ c. false) 128 b no_percent small)

hexadecimals : agree_below (λ n. is_ascii_hexdigit (digit_glyph true n)) (λ n. true) 16 ≡ true
hexadecimals = refl

is_hexadecimal : (n : ℕ) → n < 16 → is_ascii_hexdigit (digit_glyph true n) ≡ true
is_hexadecimal n small = agree_below_at (λ k. is_ascii_hexdigit (digit_glyph true k)) (λ k. true) 16 n hexadecimals small

whole_octet : (b : ℕ) (rest : List ℕ) (t : Bool) → is_pchar b ≡ t → has_complete_escapes rest ≡ true → has_complete_escapes (escape_octet is_pchar b ++ rest) ≡ true
unfolding percent_encode_byte
whole_octet b rest true h e = rw h (skip b rest (plain_is_no_percent b h) ∙ e)
whole_octet b rest false h e = rw h (rw (is_hexadecimal (b / 16 % 16) (omega arith), is_hexadecimal (b % 16) (omega arith)) e)

whole : (bs : List ℕ) → has_complete_escapes (escape_octets is_pchar bs) ≡ true
whole [] = refl
whole (b ∷ bs) = whole_octet b (escape_octets is_pchar bs) (is_pchar b) refl (whole bs)

decoded : (bs : List ℕ) → All IsOctet bs → percent_decode (escape_octets is_pchar bs) ≡ bs
decoded bs small = parts_decoded bs small

parsed_part : (text : List ℕ) → IsDecodedText text → parsed_text (part_text text) ≡ Ok text
parsed_part text spells =
    let back = decoded (encode_utf8_all text) spells.octets in
    read_as_text (part_text text) (whole (encode_utf8_all text)) (subst IsUtf8 (sym back) spells.utf8)
    ∙ ap (λ (x : List ℕ). let r : Result (List ℕ) UriError = Ok (chars x) in r) back
    ∙ ap (λ (x : List ℕ). let r : Result (List ℕ) UriError = Ok x in r) spells.letters

-- ---- words

pass_word : (p : ℕ → Bool) (cs : List ℕ) → list_all p cs ≡ true → AllPass p cs
pass_word p [] h = tt
pass_word p (c ∷ cs) h = let both = and_parts (p c) (list_all p cs) h in (both.0, pass_word p cs both.1)

word_read : (w : List ℕ) → IsAscii w → has_complete_escapes w ≡ true → percent_decode w ≡ w → parsed_text w ≡ Ok (chars w)
word_read w ascii whole same = read_as_text w whole (subst IsUtf8 (sym same) (IsUtf8-from_ascii w ascii)) ∙ ap (λ (x : List ℕ). let r : Result (List ℕ) UriError = Ok (chars x) in r) same

auid_passes : (stop : ℕ) (auid : Auid) → list_all (is_different_char stop) (auid_text ResourceLists) ≡ true → list_all (is_different_char stop) (auid_text RlsServices) ≡ true → list_all (is_different_char stop) (auid_text XcapCaps) ≡ true → AllPass (is_different_char stop) (auid_text auid)
auid_passes stop ResourceLists a b c = pass_word (is_different_char stop) (auid_text ResourceLists) a
auid_passes stop RlsServices a b c = pass_word (is_different_char stop) (auid_text RlsServices) b
auid_passes stop XcapCaps a b c = pass_word (is_different_char stop) (auid_text XcapCaps) c

auid_read : (auid : Auid) → parsed_text (auid_text auid) ≡ Ok (chars (auid_text auid))
unfolding percent_decode
auid_read ResourceLists = word_read (auid_text ResourceLists) (auid_letters ResourceLists) refl refl
auid_read RlsServices = word_read (auid_text RlsServices) (auid_letters RlsServices) refl refl
auid_read XcapCaps = word_read (auid_text XcapCaps) (auid_letters XcapCaps) refl refl

users_read : parsed_text (codes "users") ≡ Ok (chars (codes "users"))
unfolding percent_decode
users_read = word_read (codes "users") (word_letters (codes "users") refl) refl refl

global_read : parsed_text (codes "global") ≡ Ok (chars (codes "global"))
unfolding percent_decode
global_read = word_read (codes "global") (word_letters (codes "global") refl) refl refl

-- ---- segments

one_more : (s text : List ℕ) (ss texts : List (List ℕ)) → parsed_text s ≡ Ok text → bytes_eq text selector_separator ≡ false → parsed_segments ss ≡ Ok (texts, None) → parsed_segments (s ∷ ss) ≡ Ok (text ∷ texts, None)
one_more s text ss texts h e k = rw (h, e, k) refl

differs : (text : List ℕ) (t : Bool) → bytes_eq text selector_separator ≡ t → text ≢ selector_separator → bytes_eq text selector_separator ≡ false
differs text true h never = absurd (never ((bytes_decides text selector_separator).0 h))
differs text false h never = h

has_some : (text : List ℕ) → text ≢ [] → is_empty text ≡ false
has_some [] never = absurd (never refl)
has_some (c ∷ cs) never = refl

auid_differs : (auid : Auid) → bytes_eq (chars (auid_text auid)) selector_separator ≡ false
unfolding chars
auid_differs ResourceLists = refl
auid_differs RlsServices = refl
auid_differs XcapCaps = refl

users_differ : bytes_eq (chars (codes "users")) selector_separator ≡ false
unfolding chars
users_differ = refl

global_differs : bytes_eq (chars (codes "global")) selector_separator ≡ false
unfolding chars
global_differs = refl

user_pieces : (auid : Auid) (xui name : List ℕ) → pieces slash (auid_text auid ++ ((codes "/users/" ++ (part_text xui ++ codes "/")) ++ part_text name)) ≡ auid_text auid ∷ codes "users" ∷ part_text xui ∷ part_text name ∷ []
user_pieces auid xui name =
    pieces_more slash (auid_text auid) (codes "users/" ++ ((part_text xui ++ codes "/") ++ part_text name)) (auid_passes slash auid refl refl refl)
    ∙ ap (λ (l : List (List ℕ)). auid_text auid ∷ l) (pieces_more slash (codes "users") ((part_text xui ++ codes "/") ++ part_text name) (pass_word (is_different_char slash) (codes "users") refl)
    ∙ ap (λ (l : List (List ℕ)). codes "users" ∷ l) (ap (pieces slash) (append_assoc (part_text xui) (codes "/") (part_text name))
    ∙ pieces_more slash (part_text xui) (part_text name) (octets_pass (is_different_char slash) slashes (encode_utf8_all xui))
    ∙ ap (λ (l : List (List ℕ)). part_text xui ∷ l) (pieces_one slash (part_text name) (octets_pass (is_different_char slash) slashes (encode_utf8_all name)))))

global_pieces : (auid : Auid) (name : List ℕ) → pieces slash (auid_text auid ++ (codes "/global/" ++ part_text name)) ≡ auid_text auid ∷ codes "global" ∷ part_text name ∷ []
global_pieces auid name =
    pieces_more slash (auid_text auid) (codes "global/" ++ part_text name) (auid_passes slash auid refl refl refl)
    ∙ ap (λ (l : List (List ℕ)). auid_text auid ∷ l) (pieces_more slash (codes "global") (part_text name) (pass_word (is_different_char slash) (codes "global") refl)
    ∙ ap (λ (l : List (List ℕ)). codes "global" ∷ l) (pieces_one slash (part_text name) (octets_pass (is_different_char slash) slashes (encode_utf8_all name))))

name_last : (name : List ℕ) → IsDecodedText name → IsDocumentSegment name → parsed_segments (part_text name ∷ []) ≡ Ok (name ∷ [], None)
name_last name spells good = one_more (part_text name) name [] [] (parsed_part name spells) (differs name (bytes_eq name selector_separator) refl good.1) refl

user_path : (auid : Auid) (xui name : List ℕ) → IsDecodedText xui → IsDecodedText name → IsDocumentSegment xui → IsDocumentSegment name → parsed_path (id_text (record { auid = auid; home = User xui; name = name })) ≡ Ok (chars (auid_text auid) ∷ chars (codes "users") ∷ xui ∷ name ∷ [], None)
user_path auid xui name x n good_xui good_name =
    ap parsed_segments (user_pieces auid xui name)
    ∙ one_more (auid_text auid) (chars (auid_text auid)) (codes "users" ∷ part_text xui ∷ part_text name ∷ []) (chars (codes "users") ∷ xui ∷ name ∷ []) (auid_read auid) (auid_differs auid)
    (one_more (codes "users") (chars (codes "users")) (part_text xui ∷ part_text name ∷ []) (xui ∷ name ∷ []) users_read users_differ
    (one_more (part_text xui) xui (part_text name ∷ []) (name ∷ []) (parsed_part xui x) (differs xui (bytes_eq xui selector_separator) refl good_xui.1)
    (name_last name n good_name)))

global_path : (auid : Auid) (name : List ℕ) → IsDecodedText name → IsDocumentSegment name → parsed_path (id_text (record { auid = auid; home = Global; name = name })) ≡ Ok (chars (auid_text auid) ∷ chars (codes "global") ∷ name ∷ [], None)
global_path auid name n good_name =
    ap parsed_segments (global_pieces auid name)
    ∙ one_more (auid_text auid) (chars (auid_text auid)) (codes "global" ∷ part_text name ∷ []) (chars (codes "global") ∷ name ∷ []) (auid_read auid) (auid_differs auid)
    (one_more (codes "global") (chars (codes "global")) (part_text name ∷ []) (name ∷ []) global_read global_differs
    (name_last name n good_name))

-- ---- shapes

user_shape : (auid : Auid) (xui name : List ℕ) → is_empty xui ≡ false → is_empty name ≡ false → shape_of (chars (auid_text auid) ∷ chars (codes "users") ∷ xui ∷ name ∷ []) None ≡ Ok (shapes.Document (record { auid = auid; home = User xui; name = name }))
unfolding chars
user_shape ResourceLists xui name e f = rw (e, f) refl
user_shape RlsServices xui name e f = rw (e, f) refl
user_shape XcapCaps xui name e f = rw (e, f) refl

global_shape : (auid : Auid) (name : List ℕ) → is_empty name ≡ false → shape_of (chars (auid_text auid) ∷ chars (codes "global") ∷ name ∷ []) None ≡ Ok (shapes.Document (record { auid = auid; home = Global; name = name }))
unfolding chars
global_shape ResourceLists name f = rw f refl
global_shape RlsServices name f = rw f refl
global_shape XcapCaps name f = rw f refl

-- ---- under the root

home_passes : (home : Home) → AllPass (is_different_char question) (home_text home)
home_passes Global = pass_word (is_different_char question) (codes "/global/") refl
home_passes (User xui) =
    pass_append (is_different_char question) (codes "/users/") (part_text xui ++ codes "/") (pass_word (is_different_char question) (codes "/users/") refl)
    (pass_append (is_different_char question) (part_text xui) (codes "/") (octets_pass (is_different_char question) questions (encode_utf8_all xui)) (pass_word (is_different_char question) (codes "/") refl))

id_passes : (doc : DocId) → AllPass (is_different_char question) (id_text doc)
id_passes doc =
    pass_append (is_different_char question) (auid_text doc.auid) (home_text doc.home ++ part_text doc.name) (auid_passes question doc.auid refl refl refl)
    (pass_append (is_different_char question) (home_text doc.home) (part_text doc.name) (home_passes doc.home) (octets_pass (is_different_char question) questions (encode_utf8_all doc.name)))

rest_is : (doc : DocId) (texts : List (List ℕ)) → parsed_path (id_text doc) ≡ Ok (texts, None) → shape_of texts None ≡ Ok (shapes.Document doc) → parsed_rest (id_text doc) ≡ Ok (Document doc)
rest_is doc texts path shape = rw (before_all question (id_text doc) (id_passes doc), behind_all question (id_text doc) (id_passes doc), path, shape) refl

path_begins : (segments : List (List ℕ)) (ys : List ℕ) → (zs : List ℕ) × (path_of_segments segments ++ (slash ∷ ys) ≡ slash ∷ zs)
path_begins [] ys = (ys, refl)
path_begins (s ∷ ss) ys = ((s ++ path_of_segments ss) ++ (slash ∷ ys), refl)

outside : (root target cs zs : List ℕ) → root ≡ 104 ∷ cs → target ≡ slash ∷ zs → rest_under root target ≡ None
outside root target cs zs e h = rw (e, h) refl

inside : (path rest : List ℕ) → rest_under path (path ++ (slash ∷ rest)) ≡ Some rest
inside path rest = rw (after_append path (slash ∷ rest)) refl

stands_under : (root rest : List ℕ) → is_root root ≡ true → rest_under_root root (path_of root ++ (slash ∷ rest)) ≡ Some rest
stands_under root rest is =
    let first = root_begins root is in
    let begins = path_begins (drop 3 (pieces slash root)) rest in
    rw (outside root (path_of root ++ (slash ∷ rest)) first.0 begins.0 first.1 begins.1, inside (path_of root) rest) refl

stands_behind : (root rest : List ℕ) → rest_under_root root (root ++ (slash ∷ rest)) ≡ Some rest
stands_behind root rest = rw (inside root rest) refl

-- ---- the whole

-- what comes after the root reads as the document
document_read : (doc : DocId) → IsDecodedHome doc.home → IsDecodedText doc.name → IsAddressable doc → parsed_rest (id_text doc) ≡ Ok (Document doc)
document_read doc h n readable = by_home doc.home h readable.0
  where
    by_home : (home : Home) → IsDecodedHome home → IsAddressableHome home → let doc : DocId = record { auid = doc.auid; home = home; name = doc.name } in parsed_rest (id_text doc) ≡ Ok (Document doc)
    by_home Global h good = rest_is (record { auid = doc.auid; home = Global; name = doc.name }) (chars (auid_text doc.auid) ∷ chars (codes "global") ∷ doc.name ∷ []) (global_path doc.auid doc.name n readable.1) (global_shape doc.auid doc.name (has_some doc.name readable.1.0))
    by_home (User xui) h good = rest_is (record { auid = doc.auid; home = User xui; name = doc.name }) (chars (auid_text doc.auid) ∷ chars (codes "users") ∷ xui ∷ doc.name ∷ []) (user_path doc.auid xui doc.name h n good readable.1) (user_shape doc.auid xui doc.name (has_some xui good.0) (has_some doc.name readable.1.0))

-- after the root's path
pub reads_back : (root : List ℕ) (doc : DocId) → is_root root ≡ true → IsDecodedHome doc.home → IsDecodedText doc.name → IsAddressable doc → parsed_target root (path_of root ++ (slash ∷ id_text doc)) ≡ Ok (Document doc)
reads_back root doc is h n readable = rw (stands_under root (id_text doc) is) (document_read doc h n readable)

-- after the whole root
pub reads_back_whole : (root : List ℕ) (doc : DocId) → IsDecodedHome doc.home → IsDecodedText doc.name → IsAddressable doc → parsed_target root (root ++ (slash ∷ id_text doc)) ≡ Ok (Document doc)
reads_back_whole root doc h n readable = rw (stands_behind root (id_text doc)) (document_read doc h n readable)

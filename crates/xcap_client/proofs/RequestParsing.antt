-- The bytes of a request are parsed as exactly the request that is meant.
use Rattle.std.proofs.Common.{◌≡◌, ℕ, ◌+◌, ◌%◌, ◌≤◌, ◌<◌, ◌^◌, ◌⊎◌, inl, inr, Bool, true, nat_lt, nat_le, List, [], ◌∷◌, ◌++◌, map, length, flat_map, codes, Option, None, Some, IfSome, refl, sym, ap, subst, ◌∙◌, arith, append_assoc, append-nil, length-append}
use Rattle.std.specs.Prelude.{decimal, encode_utf8_all, IsSome}
use Rattle.std.specs.Option.{option_map_or}
use Rattle.std.specs.List.{list_all, AllByRecursion}
use Rattle.std.specs.Char.{is_ascii_digit}
use Rattle.std.proofs.lemmas.Bool.{and_from, true≢false}
use Rattle.std.proofs.lemmas.Bool.Decides.{nat_tests}
use Rattle.std.proofs.lemmas.Fmt.{decimal_is_IsNumeral, decimal_by_steps, decimal_nonempty}
use Rattle.std.proofs.lemmas.List.{length-map}
use Rattle.std.proofs.lemmas.List.Folds.{list_all-append}
use Rattle.std.proofs.lemmas.List.Elements.{All-from_recursion}
use Rattle.httparse.specs.Ascii.{space, crlf_bytes}
use Rattle.httparse.specs.Grammar.{RequestHead, print_request, Field, IsField, print_field, crlf, IsToken, is_token_byte, is_value_byte, AllPass, trim_ows}
use Rattle.httparse.specs.Spans.{name_and_value}
use Rattle.http_wire.specs.declared.framing.Framing.TheVariants.{Length}
use Rattle.http_wire.specs.declared.request.Request.{Request}
use Rattle.http_wire.specs.Fields.{is_number, has_close_option, asks_to_close}
use Rattle.http_wire.specs.Framing.{framing, lacks_host, framing_of_codings, framing_of_lengths}
use Rattle.http_wire.specs.ConnectionItems.{AsksFor, BeginsWithFramedHead, field_of, request_of, with_length}
use Rattle.xcap_uri.specs.Roots.{IsRoot, path_of, authority_of, slash}
use Rattle.xcap_client.specs.declared.request.Ask.{Ask}
use Rattle.xcap_client.specs.Requests.{IsLawfulAsk, user_field, content_fields, fields_of, field_line, request_line, target_of, head_bytes}
use Rattle.xcap_client.specs.ParsedRequests.{is_plain_char, IsPlainText, IsSendable, request_of_ask, IsParsedAsMeant}
use Rattle.xcap_client.proofs.Visible.{is_visible, passes, each_true, visible_utf8, visible_is_utf8, visible_in_target, visible_in_value, visible_trims, visible-append}
use Rattle.xcap_client.proofs.RootLetters.{root_path_visible, root_authority_visible}

-- # The head that is printed

-- the field line of the grammar
abbrev tree : List ℕ × List ℕ → Field
tree f = record { name = f.0; raw = 32 ∷ f.1; end = crlf }

abbrev head_of : List ℕ → List ℕ → List (List ℕ × List ℕ) → RequestHead
head_of method target fields = record {
  blank = [];
  method = method;
  target = target;
  minor = 1;
  line_end = crlf;
  fields = map tree fields;
  last = crlf;
}

one_line : (name value : List ℕ) → print_field (tree (name, value)) ≡ field_line (name, value)
one_line name value = simp append_assoc

prints : (fields : List (List ℕ × List ℕ)) → flat_map print_field (map tree fields) ≡ flat_map field_line fields
prints [] = refl
prints (f ∷ fields) =
    ap (λ (l : List ℕ). l ++ flat_map print_field (map tree fields)) (one_line f.0 f.1)
    ∙ ap (λ (l : List ℕ). field_line f ++ l) (prints fields)

regroup : (m sp t http end rest : List ℕ) → (((m ++ (sp ++ t)) ++ (sp ++ http)) ++ end) ++ rest ≡ (m ++ (sp ++ (t ++ (sp ++ (http ++ end))))) ++ rest
regroup m sp t http end rest = simp append_assoc

prints_head : (method target : List ℕ) (fields : List (List ℕ × List ℕ)) → print_request (head_of method target fields) ≡ request_line method target ++ (flat_map field_line fields ++ crlf_bytes)
unfolding print_request
prints_head method target fields =
    let lines : List ℕ = flat_map print_field (map tree fields) in
    let line : print_request (head_of method target fields) ≡ request_line method target ++ (lines ++ crlf_bytes) =
    regroup method (space ∷ []) target (codes "HTTP/1.1") crlf_bytes (lines ++ crlf_bytes) in
    line ∙ ap (λ (l : List ℕ). request_line method target ++ (l ++ crlf_bytes)) (prints fields)

-- # Fields

-- a field that is parsed as it was written
abbrev IsSent : List ℕ × List ℕ → Type 0
IsSent f = (IsToken f.0 × AllPass is_value_byte (32 ∷ f.1)) × (trim_ows (32 ∷ f.1) ≡ f.1)

sent : (name value : List ℕ) → 0 < length name → list_all is_token_byte name ≡ true → list_all is_visible value ≡ true → IsSent (name, value)
sent name value some token seen = (((some, passes is_token_byte name token), visible_in_value value seen), visible_trims value seen)

are_fields : (fields : List (List ℕ × List ℕ)) → AllByRecursion IsSent fields → AllByRecursion IsField (map tree fields)
are_fields [] all = tt
are_fields (f ∷ fields) all = (record { name = all.0.0.0; raw = all.0.0.1 }, are_fields fields all.1)

come_back : (fields : List (List ℕ × List ℕ)) → AllByRecursion IsSent fields → map name_and_value (map tree fields) ≡ fields
come_back [] all = refl
come_back (f ∷ fields) all = ap (λ (v : List ℕ). (f.0, v) ∷ map name_and_value (map tree fields)) all.0.1 ∙ ap (λ (l : List (List ℕ × List ℕ)). f ∷ l) (come_back fields all.1)

-- # Numbers

digit : (b : ℕ) → is_ascii_digit b ≡ true → is_visible b ≡ true
digit b is = grind (arith, nat_tests)

are_digits : (n : ℕ) → n < 2 ^ 64 → list_all is_ascii_digit (decimal n) ≡ true
are_digits n small = decimal_by_steps (λ _ ds. list_all is_ascii_digit ds ≡ true) one more n small
  where
    last : (d : ℕ) → d < 10 → is_ascii_digit (48 + d) ≡ true
    last d low = grind (arith, nat_tests)

    one : (n : ℕ) → n < 10 → list_all is_ascii_digit ((48 + n) ∷ []) ≡ true
    one n low = and_from _ _ (last n low) refl

    more : (n : ℕ) (ds : List ℕ) → 10 ≤ n → list_all is_ascii_digit ds ≡ true → list_all is_ascii_digit (ds ++ ((48 + n % 10) ∷ [])) ≡ true
    more n ds big all = list_all-append is_ascii_digit ds ((48 + n % 10) ∷ []) ∙ and_from _ _ all (and_from _ _ (last (n % 10) (omega arith)) refl)

a_number : (n : ℕ) → n < 2 ^ 64 → is_number (decimal n) ≡ true
a_number n small = and_from _ _ (ltb-true-from 0 (length (decimal n)) (decimal_nonempty n small)) (are_digits n small)
  where
    ltb-true-from : (a b : ℕ) → a < b → nat_lt a b ≡ true
    ltb-true-from a b less = grind (arith, nat_tests)

-- # The meaning of the fields

abbrev fields_from : List ℕ → Option (List ℕ) → Option (List ℕ) → List ℕ → List (List ℕ × List ℕ)
fields_from host user media body =
    (codes "Host", host) ∷ (option_map_or user_field user [] ++ (option_map_or (content_fields body) media [] ++ (codes "Connection", codes "close") ∷ []))

framed_none : (host : List ℕ) (user : Option (List ℕ)) → framing 1 (fields_from host user None []) ≡ Length 0
unfolding framing lacks_host framing_of_codings framing_of_lengths
framed_none host None = refl
framed_none host (Some user) = refl

framed_some : (host media body : List ℕ) (user : Option (List ℕ)) → framing 1 (fields_from host user (Some media) body) ≡ framing_of_lengths (decimal (length body) ∷ [])
unfolding framing lacks_host framing_of_codings
framed_some host media body None = refl
framed_some host media body (Some user) = refl

by_length : (n : ℕ) → n ≤ 262_144 → framing_of_lengths (decimal n ∷ []) ≡ Length n
unfolding framing_of_lengths
by_length n short =
    let value = (decimal_is_IsNumeral n (omega (arith, short))).1 in
    let fits : nat_le n 262_144 ≡ true = grind (arith, nat_tests) in
    rw (a_number n (omega (arith, short)), value, fits) refl

framed : (host body : List ℕ) (user media : Option (List ℕ)) → (media ≡ None → body ≡ []) → length body ≤ 262_144 → framing 1 (fields_from host user media body) ≡ Length (length body)
framed host body user None empty short = rw (empty refl) (framed_none host user)
framed host body user (Some media) empty short = framed_some host media body user ∙ by_length (length body) short

closes : (host body : List ℕ) (user media : Option (List ℕ)) → asks_to_close (fields_from host user media body) ≡ true
unfolding asks_to_close has_close_option trim_ows
closes host body None None = refl
closes host body None (Some media) = refl
closes host body (Some user) None = refl
closes host body (Some user) (Some media) = refl

-- # Texts

plain_visible : (b : ℕ) → is_plain_char b ≡ true → is_visible b ≡ true
plain_visible b is = grind (arith, nat_tests)

visible : (text : List ℕ) → IsPlainText text → list_all is_visible text ≡ true
visible text plain = each_true is_plain_char is_visible plain_visible text plain

in_utf8 : (text : List ℕ) → list_all is_visible text ≡ true → list_all is_visible (encode_utf8_all text) ≡ true
in_utf8 text seen = ap (list_all is_visible) (visible_utf8 text seen) ∙ seen

are_sent : (host body : List ℕ) (user media : Option (List ℕ)) → list_all is_visible host ≡ true → IfSome user IsPlainText → IfSome media IsPlainText → length body ≤ 262_144 → AllByRecursion IsSent (fields_from host user media body)
unfolding is_token_byte
are_sent host body user media seen users medias short = (sent (codes "Host") host (omega arith) refl seen, by_user user users)
  where
    ends : AllByRecursion IsSent ((codes "Connection", codes "close") ∷ [])
    ends = (sent (codes "Connection") (codes "close") (omega arith) refl refl, tt)

    by_media : (m : Option (List ℕ)) → IfSome m IsPlainText → AllByRecursion IsSent (option_map_or (content_fields body) m [] ++ (codes "Connection", codes "close") ∷ [])
    by_media None is = ends
    by_media (Some m) is = (
      sent (codes "Content-Type") (encode_utf8_all m) (omega arith) refl (in_utf8 m (visible m is)),
      (
        sent (codes "Content-Length") (decimal (length body)) (omega arith) refl (each_true is_ascii_digit is_visible digit (decimal (length body)) (are_digits (length body) (omega (arith, short)))),
        ends,
      ),
    )

    by_user : (u : Option (List ℕ)) → IfSome u IsPlainText → AllByRecursion IsSent (option_map_or user_field u [] ++ (option_map_or (content_fields body) media [] ++ (codes "Connection", codes "close") ∷ []))
    by_user None is = by_media media medias
    by_user (Some u) is = (sent (codes "X-XCAP-User") (encode_utf8_all u) (omega arith) refl (in_utf8 u (visible u is)), by_media media medias)

-- each of the three methods is a token, in ASCII
a_word : (method word : List ℕ) → method ≡ word → 0 < length word → list_all is_token_byte word ≡ true → list_all is_visible word ≡ true → (encode_utf8_all method ≡ method) × IsToken (encode_utf8_all method)
a_word method word is some token seen =
    let same : encode_utf8_all method ≡ method = visible_utf8 method (ap (list_all is_visible) is ∙ seen) in
    (same, subst IsToken (sym is ∙ sym same) (some, passes is_token_byte word token))

by_method : (method : List ℕ) → (method ≡ codes "GET") ⊎ ((method ≡ codes "PUT") ⊎ (method ≡ codes "DELETE")) → (encode_utf8_all method ≡ method) × IsToken (encode_utf8_all method)
unfolding is_token_byte
by_method method (inl is) = a_word method (codes "GET") is (omega arith) refl refl
by_method method (inr (inl is)) = a_word method (codes "PUT") is (omega arith) refl refl
by_method method (inr (inr is)) = a_word method (codes "DELETE") is (omega arith) refl refl

-- # The request

some_target : (under path : List ℕ) → 0 < length (under ++ slash ∷ path)
some_target under path = omega (arith, length-append under (slash ∷ path))

few_fields : (host body : List ℕ) (user media : Option (List ℕ)) → length (fields_from host user media body) ≤ 64
few_fields host body None None = omega arith
few_fields host body None (Some media) = omega arith
few_fields host body (Some user) None = omega arith
few_fields host body (Some user) (Some media) = omega arith

abbrev request : List ℕ → List ℕ → Bool → List (List ℕ × List ℕ) → List ℕ → Request
request method target closes fields body = record { method = method; target = target; closes = closes; fields = map field_of fields; body = body }

same_request : (m m' target body : List ℕ) (c : Bool) (fs gs : List (List ℕ × List ℕ)) → m' ≡ m → c ≡ true → gs ≡ fs → request m target true fs body ≡ request m' target c gs body
same_request m m' target body c fs gs method closes fields = rw (method, closes, fields) refl

no_body : (ask : Ask) → IsLawfulAsk ask → ask.media ≡ None → ask.body ≡ []
no_body ask lawful none = lawful.body (λ put. true≢false (sym (subst IsSome none (lawful.media.1 put))))

pub understood : (root : List ℕ) (ask : Ask) → IsRoot root (authority_of root) (path_of root) → IsLawfulAsk ask → IsSendable root ask → IsParsedAsMeant root ask
understood root ask is lawful sendable =
    let host : List ℕ = encode_utf8_all (authority_of root) in
    let fields : List (List ℕ × List ℕ) = fields_of root ask in
    let target : List ℕ = target_of root ask in
    let head : RequestHead = head_of (encode_utf8_all ask.method) target fields in
    let method = by_method ask.method sendable.method in
    let seen : list_all is_visible target ≡ true = visible-append (encode_utf8_all (path_of root)) (slash ∷ encode_utf8_all ask.path) (in_utf8 (path_of root) (root_path_visible root _ _ is)) (in_utf8 ask.path (visible ask.path sendable.path)) in
    let all = are_sent host ask.body ask.user ask.media (in_utf8 (authority_of root) (root_authority_visible root _ _ is)) sendable.user sendable.media sendable.short_body in
    let back : map name_and_value head.fields ≡ fields = come_back fields all in
    let printed : print_request head ≡ head_bytes root ask = prints_head (encode_utf8_all ask.method) target fields in
    let opens : BeginsWithFramedHead (head_bytes root ask ++ ask.body) head (Length (length ask.body)) (ask.body ++ []) = record {
      begins = record {
        reads = (
          record {
            method = method.1;
            target = (some_target (encode_utf8_all (path_of root)) (encode_utf8_all ask.path), visible_in_target target seen);
            target_text = visible_is_utf8 target seen;
            minor = omega arith;
            fields = All-from_recursion IsField head.fields (are_fields fields all);
          },
          ap (λ (l : List ℕ). l ++ ask.body) (sym printed) ∙ ap (λ (l : List ℕ). print_request head ++ l) (sym (append-nil ask.body)),
        );
        short = subst (λ (l : List ℕ). length l ≤ 16_384) (sym printed) sendable.short_head;
        few = omega (arith, length-map fields tree, few_fields host ask.body ask.user ask.media);
      };
      framed = ap (framing 1) back ∙ framed host ask.body ask.user ask.media (no_body ask lawful) sendable.short_body;
    } in
    let asked : request_of_ask root ask ≡ request_of 0 head ask.body =
    same_request ask.method (encode_utf8_all ask.method) target ask.body (asks_to_close (map name_and_value head.fields)) fields (map name_and_value head.fields) method.0 (ap asks_to_close back ∙ closes host ask.body ask.user ask.media) back in
    let first : AsksFor 0 (head_bytes root ask ++ ask.body) (request_of_ask root ask) [] = with_length head ask.body opens asked in
    ([], first, refl)

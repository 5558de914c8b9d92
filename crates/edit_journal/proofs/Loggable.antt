-- A request that was read on a connection is within the bounds of a record.
use Rattle.std.proofs.Common.{◌≡◌, ℕ, ◌+◌, ◌*◌, ◌<◌, ◌≤◌, Bool, true, false, not, nat_le, List, [], ◌∷◌, ◌++◌, length, map, reverse, All, if◌then◌else◌, refl, sym, subst, ◌∙◌, arith, length-append}
use Rattle.std.proofs.lemmas.Bool.Decides.{nat_tests}
use Rattle.std.proofs.lemmas.List.{length-map, length-reverse}
use Rattle.std.proofs.lemmas.List.Elements.{All-cons, All-head, All-nil, All-tail}
use Rattle.std.specs.List.{flat_map}
use Rattle.std.specs.Str.Parse.{digits_value}
use Rattle.httparse.specs.Grammar.{Field, IsField, IsToken, RequestHead, is_ows, print_blank, print_end, print_field, print_request, print_section, print_version, skip_ows, trim_ows}
use Rattle.httparse.specs.Ascii.{colon, space}
use Rattle.httparse.specs.Spans.{name_and_value}
use Rattle.http_wire.specs.declared.framing.Framing.{Framing}
use Rattle.http_wire.specs.declared.framing.Framing.TheVariants.{Bad, Coded, TooLong, Length, Chunked}
use Rattle.http_wire.specs.declared.request.Field.{Field as SentField}
use Rattle.http_wire.specs.declared.request.Request.{Request}
use Rattle.http_wire.specs.Fields.{is_number}
use Rattle.http_wire.specs.Framing.{framing_of_codings, framing, framing_of_lengths}
use Rattle.http_wire.specs.Heads.{BeginsWithHead}
use Rattle.http_wire.specs.ChunkedBodies.{chunk_data}
use Rattle.http_wire.specs.ConnectionItems.{AsksFor, field_of, in_chunks, request_of, with_length}
use Rattle.edit_journal.specs.Records.{IsRecordable, field_text, method_number}
use Rattle.edit_journal.proofs.Lengths.{content_length, field_length}
use Rattle.http_serve.specs.ReadRequests.{IsReadRequest}
use Rattle.edit_journal.specs.LoggedRequests.{IsLoggable}

-- ---- values are no longer than the sent bytes

either_shorter : (test : Bool) (b : ℕ) (bytes rest : List ℕ) → length rest ≤ length bytes → length (if test then rest else b ∷ bytes) ≤ length (b ∷ bytes)
either_shorter true b bytes rest le = omega (arith, le)
either_shorter false b bytes rest le = omega arith

skip_shorter : (bytes : List ℕ) → length (skip_ows bytes) ≤ length bytes
skip_shorter [] = omega arith
skip_shorter (b ∷ bytes) = either_shorter (is_ows b) b bytes (skip_ows bytes) (skip_shorter bytes)

trim_shorter : (bytes : List ℕ) → length (trim_ows bytes) ≤ length bytes
unfolding trim_ows
trim_shorter bytes =
    omega (arith, length-reverse (skip_ows (reverse (skip_ows bytes))), skip_shorter (reverse (skip_ows bytes)), length-reverse (skip_ows bytes), skip_shorter bytes)

-- ---- the fields

abbrev sent_fields : List Field → List SentField
sent_fields fields = map field_of (map name_and_value fields)

line_size : (name raw end : List ℕ) (b : ℕ) → length ((name ++ b ∷ raw) ++ end) ≡ length name + (1 + (length raw + length end))
line_size name raw end b = omega (arith, length-append (name ++ b ∷ raw) end, length-append name (b ∷ raw))

fields_size : (fields : List Field) → length (flat_map field_text (sent_fields fields)) ≤ 8 * length fields + length (flat_map print_field fields)
fields_size [] = omega arith
fields_size (f ∷ fields) =
    let here : SentField = field_of (name_and_value f) in
    let text : length (flat_map field_text (sent_fields (f ∷ fields))) ≡ length (field_text here) + length (flat_map field_text (sent_fields fields)) = length-append (field_text here) (flat_map field_text (sent_fields fields)) in
    let field : length (field_text here) ≡ 8 + (length f.name + length (trim_ows f.raw)) = field_length here in
    let sent : length (flat_map print_field (f ∷ fields)) ≡ length (print_field f) + length (flat_map print_field fields) = length-append (print_field f) (flat_map print_field fields) in
    omega (arith, text, field, sent, line_size f.name f.raw (print_end f.end) colon, trim_shorter f.raw, fields_size fields)

tokens : (fields : List Field) → All IsField fields → All (λ (field : SentField). IsToken field.name) (sent_fields fields)
tokens [] are = All-nil (λ (field : SentField). IsToken field.name)
tokens (f ∷ fields) are =
    All-cons (λ (field : SentField). IsToken field.name) (field_of (name_and_value f)) (sent_fields fields) (All-head IsField f fields are).name (tokens fields (All-tail IsField f fields are))

-- ---- the head

-- of parts one after the other, two are no longer than all
sizes : (a b c d e f : List ℕ) (x y : ℕ) → length c + length f ≤ length (a ++ b ++ x ∷ c ++ y ∷ d ++ e ++ f)
sizes a b c d e f x y =
    omega (
      arith,
      length-append (a ++ b ++ x ∷ c ++ y ∷ d ++ e) f,
      length-append (a ++ b ++ x ∷ c ++ y ∷ d) e,
      length-append (a ++ b ++ x ∷ c) (y ∷ d),
      length-append (a ++ b) (x ∷ c),
    )

head_size : (head : RequestHead) → length head.target + length (flat_map print_field head.fields) ≤ length (print_request head)
unfolding print_request
head_size head =
    let parts = sizes (print_blank head.blank) head.method head.target (print_version head.minor) (print_end head.line_end) (print_section head.fields head.last) space space in
    omega (arith, parts, length-append (flat_map print_field head.fields) (print_end head.last))

-- ---- the body

by_value : (bad short : Bool) (value n : ℕ) → (short ≡ true → value ≤ 262_144) → (if bad then Bad else if short then Length value else TooLong) ≡ Length n → n ≤ 262_144
by_value true short value n le e = let no : ⊥ = cc in absurd no
by_value false true value n le e = let is : value ≡ n = cc in omega (arith, le refl, is)
by_value false false value n le e = let no : ⊥ = cc in absurd no

length_bounded : (values : List (List ℕ)) (n : ℕ) → framing_of_lengths values ≡ Length n → n ≤ 262_144
unfolding framing_of_lengths
length_bounded [] n e = let is : 0 ≡ n = cc in omega (arith, is)
length_bounded (value ∷ []) n e = by_value (not (is_number value)) (nat_le (digits_value 10 value) 262_144) (digits_value 10 value) n (λ h. grind (arith, nat_tests)) e
length_bounded (value ∷ other ∷ more) n e = let no : ⊥ = cc in absurd no

by_coding : (other bad : Bool) (n : ℕ) → (if other then Coded else if bad then Bad else Chunked) ≡ Length n → n ≤ 262_144
by_coding true bad n e = let no : ⊥ = cc in absurd no
by_coding false true n e = let no : ⊥ = cc in absurd no
by_coding false false n e = let no : ⊥ = cc in absurd no

coded_bounded : (minor : ℕ) (codings lengths : List (List ℕ)) (n : ℕ) → framing_of_codings minor codings lengths ≡ Length n → n ≤ 262_144
unfolding framing_of_codings
coded_bounded minor [] lengths n e = length_bounded lengths n e
coded_bounded minor (coding ∷ []) lengths n e = by_coding _ _ n e
coded_bounded minor (coding ∷ other ∷ more) lengths n e = let no : ⊥ = cc in absurd no

by_host : (lacks : Bool) (what : Framing) (n : ℕ) → (what ≡ Length n → n ≤ 262_144) → (if lacks then Bad else what) ≡ Length n → n ≤ 262_144
by_host true what n so e = let no : ⊥ = cc in absurd no
by_host false what n so e = so e

framed_bounded : (minor : ℕ) (fields : List (List ℕ × List ℕ)) (n : ℕ) → framing minor fields ≡ Length n → n ≤ 262_144
unfolding framing
framed_bounded minor fields n e = by_host _ _ n (coded_bounded minor _ _ n) e

-- ---- all together

recordable : (before : ℕ) (bytes rest : List ℕ) (head : RequestHead) (body : List ℕ) → BeginsWithHead bytes head rest → length body ≤ 262_144
    → 0 < method_number head.method → IsRecordable (request_of before head body)
recordable before bytes rest head body begins short method =
    let request : Request = request_of before head body in
    let count : length request.fields ≡ length head.fields = length-map (map name_and_value head.fields) field_of ∙ length-map head.fields name_and_value in
    record {
      method = method;
      names = tokens head.fields begins.reads.0.fields;
      few = omega (arith, count, begins.few);
      body = short;
      short = omega (arith, content_length request, fields_size head.fields, head_size head, begins.short, begins.few, short);
    }

by_kind : (before : ℕ) (bytes : List ℕ) (request : Request) (rest : List ℕ) → AsksFor before bytes request rest → IsLoggable request
by_kind before bytes request rest (with_length head body opens is) =
    subst IsLoggable (sym is) (recordable before bytes (body ++ rest) head body opens.begins (framed_bounded head.minor (map name_and_value head.fields) (length body) opens.framed))
by_kind before bytes request rest (in_chunks head behind body opens reads short is) = subst IsLoggable (sym is) (recordable before bytes behind head (chunk_data body.chunks) opens.begins short)

pub loggable : (request : Request) → IsReadRequest request → IsLoggable request
loggable request read = by_kind read.before read.bytes request read.rest read.asked

-- The requests complete at the front of some bytes are one list.
use Rattle.std.proofs.Common.{◌≡◌, ℕ, ◌<◌, ◌≤◌, ◌^◌, inl, inr, false, List, [], ◌∷◌, ◌++◌, length, take, drop, All, refl, sym, ap, ◌∙◌, arith, append-nil, append_assoc, length-append, flat_map}
use Rattle.std.proofs.lemmas.List.Elements.{All-head, All-tail, All-nil, All-cons}
use Rattle.std.proofs.lemmas.Bool.{cases_lt}
use Rattle.std.specs.Int.{w16, to_be_bytes}
use Rattle.http_wire.specs.declared.request.Field.{Field}
use Rattle.http_wire.specs.declared.request.Request.{Request}
use Rattle.edit_journal.specs.Records.{method_number, length_prefixed, field_text, record_content, record_of}
use Rattle.edit_journal.specs.JournalTexts.{journal_text, IsRecordedRequest, HasNoRecord, IsTorn, RecordsAreUnique, HasCompleteRecords}
use Rattle.edit_journal.specs.Journals.{IsPrefixOf}
use Rattle.httparse.specs.Grammar.{IsToken}
use Rattle.edit_journal.proofs.Blocks.{first_part, second_part, one_block}
use Rattle.edit_journal.proofs.Lengths.{content_length, record_length, field_length}
use Rattle.edit_journal.proofs.Rests.{one_short}
use Rattle.edit_journal.proofs.Contents.{one_or_two, put_number}
use Rattle.std.specs.Str.{chars}
use Rattle.std.proofs.Common.{codes, take-append-drop}
use Rattle.std.proofs.lemmas.List.{length-take-le}
use Rattle.std.proofs.lemmas.Slice.Eq.{bytes_eq-Decides}

put_is : (method : List ℕ) → method_number method ≡ 1 → method ≡ chars (codes "PUT")
unfolding method_number
put_is method is = grind (arith, bytes_eq-Decides)

delete_is : (method : List ℕ) → method_number method ≡ 2 → method ≡ chars (codes "DELETE")
unfolding method_number
delete_is method is = grind (arith, bytes_eq-Decides)

one_method : (a b : List ℕ) → 0 < method_number a → method_number a ≡ method_number b → a ≡ b
one_method a b some same = elim (one_or_two a some) [
  | inl one ↦ put_is a one ∙ sym (put_is b (sym same ∙ one))
  | inr two ↦ delete_is a two ∙ sym (delete_is b (sym same ∙ two))
]

one_fields : (fs gs : List Field) (x y : List ℕ) → length fs ≡ length gs → length (flat_map field_text fs) < 2 ^ 32 → length (flat_map field_text gs) < 2 ^ 32 → flat_map field_text fs ++ x ≡ flat_map field_text gs ++ y → (fs ≡ gs) × (x ≡ y)
one_fields [] [] x y same a b e = (refl, e)
one_fields [] (g ∷ gs) x y same a b e = absurd (omega arith)
one_fields (f ∷ fs) [] x y same a b e = absurd (omega arith)
one_fields (f ∷ fs) (g ∷ gs) x y same a b e =
    let long = length-append (field_text f) (flat_map field_text fs) in
    let long' = length-append (field_text g) (flat_map field_text gs) in
    let size = field_length f in
    let size' = field_length g in
    let first = one_block f.name g.name (length_prefixed f.value ++ (flat_map field_text fs ++ x)) (length_prefixed g.value ++ (flat_map field_text gs ++ y)) (omega arith) (omega arith)
    (sym (append_assoc (length_prefixed f.name) (length_prefixed f.value) (flat_map field_text fs ++ x)) ∙ sym (append_assoc (field_text f) (flat_map field_text fs) x) ∙ e ∙ append_assoc (field_text g) (flat_map field_text gs) y ∙ append_assoc (length_prefixed g.name) (length_prefixed g.value) (flat_map field_text gs ++ y)) in
    let next = one_block f.value g.value (flat_map field_text fs ++ x) (flat_map field_text gs ++ y) (omega arith) (omega arith) first.1 in
    let rest = one_fields fs gs x y (omega arith) (omega arith) (omega arith) next.1 in
    ((λ i. record { name = first.0 i; value = next.0 i } ∷ rest.0 i), rest.1)

one_content : (a b : Request) → IsRecordedRequest a → IsRecordedRequest b → record_content a ≡ record_content b → a ≡ b
one_content a b recorded recorded' e =
    let size = content_length a in
    let size' = content_length b in
    let number : method_number a.method ≡ method_number b.method = cc in
    let behind : length_prefixed a.target ++ (to_be_bytes w16 (length a.fields) ++ (flat_map field_text a.fields ++ length_prefixed a.body)) ≡ length_prefixed b.target ++ (to_be_bytes w16 (length b.fields) ++ (flat_map field_text b.fields ++ length_prefixed b.body)) = cc in
    let target = one_block a.target b.target (to_be_bytes w16 (length a.fields) ++ (flat_map field_text a.fields ++ length_prefixed a.body)) (to_be_bytes w16 (length b.fields) ++ (flat_map field_text b.fields ++ length_prefixed b.body))
    (omega (arith, recorded.0.short)) (omega (arith, recorded'.0.short)) behind in
    let count : length a.fields ≡ length b.fields = one_short (length a.fields) (length b.fields) (omega (arith, recorded.0.few)) (omega (arith, recorded'.0.few))
    (first_part (to_be_bytes w16 (length b.fields)) (flat_map field_text b.fields ++ length_prefixed b.body) (to_be_bytes w16 (length a.fields)) (flat_map field_text a.fields ++ length_prefixed a.body) refl target.1) in
    let rest = second_part (to_be_bytes w16 (length b.fields)) (flat_map field_text b.fields ++ length_prefixed b.body) (to_be_bytes w16 (length a.fields)) (flat_map field_text a.fields ++ length_prefixed a.body) refl target.1 in
    let fields = one_fields a.fields b.fields (length_prefixed a.body) (length_prefixed b.body) count (omega (arith, recorded.0.short)) (omega (arith, recorded'.0.short)) rest in
    let body = one_block a.body b.body [] [] (omega (arith, recorded.0.body)) (omega (arith, recorded'.0.body)) (ap (λ l. l ++ []) fields.1) in
    λ i. record { method = one_method a.method b.method recorded.0.method number i; target = target.0 i; closes = (recorded.1 ∙ sym recorded'.1) i; fields = fields.0 i; body = body.0 i }

-- the bytes of a record determine the request
pub one_record : (a b : Request) (x y : List ℕ) → IsRecordedRequest a → IsRecordedRequest b → record_of a ++ x ≡ record_of b ++ y → (a ≡ b) × (x ≡ y)
one_record a b x y recorded recorded' e =
    let same = one_block (record_content a) (record_content b) x y (omega (arith, recorded.0.short)) (omega (arith, recorded'.0.short)) e in
    (one_content a b recorded recorded' same.0, same.1)

one_list : (bytes : List ℕ) (requests requests' : List Request) (rest rest' : List ℕ) → All IsRecordedRequest requests → All IsRecordedRequest requests' → HasNoRecord rest → HasNoRecord rest'
    → bytes ≡ journal_text requests ++ rest → bytes ≡ journal_text requests' ++ rest' → (requests ≡ requests') × (rest ≡ rest')
one_list bytes [] [] rest rest' recorded recorded' none none' e e' = (refl, sym e ∙ e')
one_list bytes [] (b ∷ ys) rest rest' recorded recorded' none none' e e' =
    absurd (none b (journal_text ys ++ rest') (All-head IsRecordedRequest b ys recorded', sym e ∙ e' ∙ append_assoc (record_of b) (journal_text ys) rest'))
one_list bytes (a ∷ xs) [] rest rest' recorded recorded' none none' e e' =
    absurd (none' a (journal_text xs ++ rest) (All-head IsRecordedRequest a xs recorded, sym e' ∙ e ∙ append_assoc (record_of a) (journal_text xs) rest))
one_list bytes (a ∷ xs) (b ∷ ys) rest rest' recorded recorded' none none' e e' =
    let one = one_record a b (journal_text xs ++ rest) (journal_text ys ++ rest') (All-head IsRecordedRequest a xs recorded) (All-head IsRecordedRequest b ys recorded') (sym (append_assoc (record_of a) (journal_text xs) rest) ∙ sym e ∙ e' ∙ append_assoc (record_of b) (journal_text ys) rest') in
    let more = one_list (journal_text xs ++ rest) xs ys rest rest' (All-tail IsRecordedRequest a xs recorded) (All-tail IsRecordedRequest b ys recorded') none none' refl one.1 in
    ((λ i. one.0 i ∷ more.0 i), more.1)

pub one_whole : RecordsAreUnique
one_whole bytes requests requests' rest rest' whole whole' =
    one_list bytes requests requests' rest rest' whole.recorded whole'.recorded whole.no_more whole'.no_more whole.split whole'.split

-- no record is complete in fewer bytes than its own
pub no_record_in : (bytes more : List ℕ) (request : Request) → IsRecordedRequest request → record_of request ≡ bytes ++ more → length bytes < length (record_of request) → HasNoRecord bytes
no_record_in bytes more request recorded e short = λ other rest begins.
    let one = one_record request other [] (rest ++ more) recorded begins.0 (append-nil (record_of request) ∙ e ∙ ap (λ l. l ++ more) begins.1 ∙ append_assoc (record_of other) rest more) in
    omega (arith, ap length e, length-append bytes more, ap length one.1, length-append rest more)

-- a request that has a record
some_request : Request
some_request = record { method = chars (codes "PUT"); target = []; closes = false; fields = []; body = [] }

some_told : IsRecordedRequest some_request
unfolding some_request
some_told = (
  record {
    method = omega (arith, put_number);
    names = All-nil (λ (field : Field). IsToken field.name);
    few = omega arith;
    body = omega arith;
    short = omega (arith, content_length some_request);
  },
  refl,
)

-- nothing is a prefix of a record
pub nothing_torn : IsTorn []
nothing_torn = (some_request, some_told, omega (arith, record_length some_request, content_length some_request), (record_of some_request, refl))

pub nothing_in : HasNoRecord []
nothing_in = λ request rest begins. omega (arith, ap length begins.1, length-append (record_of request) rest, record_length request)

first_here : (request : Request) (requests : List Request) (bytes more : List ℕ) → All IsRecordedRequest (request ∷ requests) → record_of request ++ journal_text requests ≡ bytes ++ more → length bytes < length (record_of request)
    → (more' : List ℕ) × (record_of request ≡ bytes ++ more')
first_here request requests bytes more recorded e short =
    let parts : bytes ++ more ≡ take (length bytes) (record_of request) ++ (drop (length bytes) (record_of request) ++ journal_text requests) =
    sym e ∙ ap (λ l. l ++ journal_text requests) (sym (take-append-drop (length bytes) (record_of request))) ∙ append_assoc (take (length bytes) (record_of request)) (drop (length bytes) (record_of request)) (journal_text requests) in
    let front : bytes ≡ take (length bytes) (record_of request) = first_part (take (length bytes) (record_of request)) (drop (length bytes) (record_of request) ++ journal_text requests) bytes more
    (sym (length-take-le (length bytes) (record_of request) (omega arith))) parts in
    (drop (length bytes) (record_of request), sym (take-append-drop (length bytes) (record_of request)) ∙ ap (λ l. l ++ drop (length bytes) (record_of request)) (sym front))

behind_it : (whole bytes rest more : List ℕ) → length whole ≤ length bytes → whole ++ rest ≡ bytes ++ more → (behind : List ℕ) × (bytes ≡ whole ++ behind) × (rest ≡ behind ++ more)
behind_it whole bytes rest more long e =
    let parts : whole ++ rest ≡ take (length whole) bytes ++ (drop (length whole) bytes ++ more) =
    e ∙ ap (λ l. l ++ more) (sym (take-append-drop (length whole) bytes)) ∙ append_assoc (take (length whole) bytes) (drop (length whole) bytes) more in
    let size : length whole ≡ length (take (length whole) bytes) = sym (length-take-le (length whole) bytes long) in
    let front : whole ≡ take (length whole) bytes = first_part (take (length whole) bytes) (drop (length whole) bytes ++ more) whole rest size parts in (
      drop (length whole) bytes,
      sym (take-append-drop (length whole) bytes) ∙ ap (λ l. l ++ drop (length whole) bytes) (sym front),
      second_part (take (length whole) bytes) (drop (length whole) bytes ++ more) whole rest size parts,
    )

nothing_before : (bytes more : List ℕ) → [] ≡ bytes ++ more → bytes ≡ []
nothing_before [] more e = refl
nothing_before (b ∷ bytes) more e = absurd (omega (arith, ap length e))

-- in a prefix of a text the records of its first requests are complete, and after them comes a torn
-- rest
pub first_ones : (requests : List Request) (bytes : List ℕ) → All IsRecordedRequest requests → IsPrefixOf bytes (journal_text requests)
    → (first more : List Request) × (rest : List ℕ) × (requests ≡ first ++ more) × HasCompleteRecords bytes first rest × IsTorn rest
first_ones [] bytes recorded (more, e) =
    let none : bytes ≡ [] = nothing_before bytes more e in
    ([], [], [], refl, record { recorded = All-nil IsRecordedRequest; split = none; no_more = nothing_in }, nothing_torn)
first_ones (request ∷ requests) bytes recorded (more, e) = elim (cases_lt (length bytes) (length (record_of request))) [
  | inl short ↦
      let here = first_here request requests bytes more recorded e short in
      let one = All-head IsRecordedRequest request requests recorded in
      ([], request ∷ requests, bytes, refl, record { recorded = All-nil IsRecordedRequest; split = refl; no_more = no_record_in bytes here.0 request one here.1 short }, (request, one, short, (here.0, here.1)))
  | inr long ↦
      let parts = behind_it (record_of request) bytes (journal_text requests) more long e in
      let one = All-head IsRecordedRequest request requests recorded in
      let rest = first_ones requests parts.0 (All-tail IsRecordedRequest request requests recorded) (more, parts.2) in (
        request ∷ rest.0,
        rest.1,
        rest.2,
        ap (λ l. request ∷ l) rest.3,
        record {
          recorded = All-cons IsRecordedRequest request rest.0 one rest.4.recorded;
          split = parts.1 ∙ ap (λ l. record_of request ++ l) rest.4.split ∙ sym (append_assoc (record_of request) (journal_text rest.0) rest.2);
          no_more = rest.4.no_more;
        },
        rest.5,
      )
]

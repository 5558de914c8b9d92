-- What comes after the target of a record, where bytes may break off.
use Rattle.std.proofs.Common.{◌≡◌, ℕ, ◌-◌, ◌/◌, ◌<◌, ◌≤◌, ◌^◌, nat_lt, min, true, false, Bool, if◌then◌else◌, List, ◌++◌, length, Result, Err, refl, sym, ap, ◌∙◌, subst, arith, append_assoc, length-append, flat_map}
use Rattle.std.specs.Int.{w16, to_be_bytes, from_be_bytes}
use Rattle.std.proofs.lemmas.Nat.{from_be_bytes-to_be_bytes_2}
use Rattle.http_wire.specs.declared.request.Field.{Field}
use Rattle.edit_journal.specs.Records.{length_prefixed, field_text}
use Rattle.edit_journal.specs.declared.field_parsers.FieldError.{FieldError}
use Rattle.edit_journal.specs.declared.field_parsers.FieldError.TheVariants.{Open, Wrong, NoMemory}
use Rattle.edit_journal.specs.inner.RecordParts.{ReadsPart, IsU16Between, IsFieldsAndBody, HasRoomForFields, IsRestOfContent}
use Rattle.edit_journal.proofs.Blocks.{first_part, second_part}
use Rattle.edit_journal.proofs.Fields.{fields_there, fields_room}

abbrev pub min_field_count : ℕ → ℕ
min_field_count left = if nat_lt 262150 left then 1 else 0

abbrev pub most_count : ℕ → ℕ
most_count left = min ((left - 6) / 9) 64

-- a number of fields between the bounds fits, and one that fits is between them
pub count_room : (count left : ℕ) → 6 ≤ left → min_field_count left ≤ count → count ≤ most_count left → HasRoomForFields count (left - 2)
count_room count left some low high = (omega arith, λ none. grind arith)

pub room_count : (count left : ℕ) → 6 ≤ left → count ≤ 64 → HasRoomForFields count (left - 2) → (min_field_count left ≤ count) × (count ≤ most_count left)
room_count count left some few room = (grind arith, omega (arith, room.0))

rest_of : (left : ℕ) (bytes front tail : List ℕ) (value : List Field × List ℕ) (count : ℕ) → 6 ≤ left → count ≤ 64 → bytes ≡ front ++ tail → front ≡ to_be_bytes w16 count → IsFieldsAndBody count (left - 2) tail value → IsRestOfContent left bytes value
rest_of left bytes front tail value count some few split is fields = record {
  is = split ∙ ap (λ l. l ++ tail) is ∙ ap (λ n. to_be_bytes w16 n ++ tail) (sym fields.fields) ∙ ap (λ l. to_be_bytes w16 (length value.0) ++ l) fields.is;
  few = omega (arith, fields.fields);
  names = fields.names;
  body = fields.body;
  size = omega (arith, ap length split, length-append front tail, ap length is, fields.size);
}

fields_of : (left : ℕ) (bytes : List ℕ) (value : List Field × List ℕ) → IsRestOfContent left bytes value → IsFieldsAndBody (length value.0) (left - 2) (flat_map field_text value.0 ++ length_prefixed value.1) value
fields_of left bytes value rest = record {
  is = refl;
  fields = refl;
  names = rest.names;
  body = rest.body;
  size = omega (arith, ap length rest.is, rest.size);
}

pub one_short : (a b : ℕ) → a < 2 ^ 16 → b < 2 ^ 16 → to_be_bytes w16 a ≡ to_be_bytes w16 b → a ≡ b
one_short a b fits fits' e = sym (from_be_bytes-to_be_bytes_2 a fits) ∙ ap (from_be_bytes w16) e ∙ from_be_bytes-to_be_bytes_2 b fits'

pub rest_no_count : {B : Type 0} (seen : B → List Field × List ℕ) (bytes : List ℕ) (left : ℕ) (stop : FieldError) → 6 ≤ left → ReadsPart (λ n. n) (IsU16Between (min_field_count left) (most_count left)) bytes (Err stop)
    → ReadsPart seen (IsRestOfContent left) bytes (Err stop)
rest_no_count seen bytes left Open some (more, count, longer, (is, low, high)) =
    let rest = fields_there count (left - 2) (count_room count left some low high) in (
      more ++ rest.0,
      rest.1,
      omega (arith, length-append more rest.0),
      rest_of left (bytes ++ (more ++ rest.0)) (bytes ++ more) rest.0 rest.1 count some (omega arith) (sym (append_assoc bytes more rest.0)) is rest.2,
    )
rest_no_count seen bytes left Wrong some wrong = λ all value more behind is e.
    let fields = fields_of left all value is in
    let bounds = room_count (length value.0) left some is.few (fields_room (length value.0) (left - 2) (flat_map field_text value.0 ++ length_prefixed value.1) value fields) in
    wrong (to_be_bytes w16 (length value.0)) (length value.0) more ((flat_map field_text value.0 ++ length_prefixed value.1) ++ behind) (refl, bounds.0, bounds.1)
    (e ∙ ap (λ l. l ++ behind) is.is ∙ append_assoc (to_be_bytes w16 (length value.0)) (flat_map field_text value.0 ++ length_prefixed value.1) behind)
rest_no_count seen bytes left NoMemory some none = tt

pub rest_stops : {B C : Type 0} (seen : B → List Field × List ℕ) (seen' : C → List Field × List ℕ) (bytes front tail : List ℕ) (count left : ℕ) (stop : FieldError) → 6 ≤ left → bytes ≡ front ++ tail
    → IsU16Between (min_field_count left) (most_count left) front count → ReadsPart seen' (IsFieldsAndBody count (left - 2)) tail (Err stop) → ReadsPart seen (IsRestOfContent left) bytes (Err stop)
rest_stops seen seen' bytes front tail count left Open some split is (more, value, longer, fields) =
    (more, value, longer, rest_of left (bytes ++ more) front (tail ++ more) value count some (omega (arith, is.2)) (ap (λ l. l ++ more) split ∙ append_assoc front tail more) is.0 fields)
rest_stops seen seen' bytes front tail count left Wrong some split is wrong = λ all value more behind rest e.
    let joined : front ++ (tail ++ more) ≡ to_be_bytes w16 (length value.0) ++ ((flat_map field_text value.0 ++ length_prefixed value.1) ++ behind) =
    sym (append_assoc front tail more) ∙ ap (λ l. l ++ more) (sym split) ∙ e ∙ ap (λ l. l ++ behind) rest.is ∙ append_assoc (to_be_bytes w16 (length value.0)) (flat_map field_text value.0 ++ length_prefixed value.1) behind in
    let two : length front ≡ 2 = ap length is.0 in
    let number : count ≡ length value.0 = one_short count (length value.0) (omega (arith, is.2)) (omega (arith, rest.few))
    (sym is.0 ∙ first_part (to_be_bytes w16 (length value.0)) ((flat_map field_text value.0 ++ length_prefixed value.1) ++ behind) front (tail ++ more) (omega arith) joined) in
    wrong (flat_map field_text value.0 ++ length_prefixed value.1) value more behind
    (subst (λ n. IsFieldsAndBody n (left - 2) (flat_map field_text value.0 ++ length_prefixed value.1) value) (sym number) (fields_of left all value rest))
    (second_part (to_be_bytes w16 (length value.0)) ((flat_map field_text value.0 ++ length_prefixed value.1) ++ behind) front (tail ++ more) (omega arith) joined)
rest_stops seen seen' bytes front tail count left NoMemory some split is none = tt

-- such a rest is complete, where it fits
rest_with : (left count : ℕ) → 6 ≤ left → count ≤ 64 → HasRoomForFields count (left - 2) → (bytes : List ℕ) × (value : List Field × List ℕ) × IsRestOfContent left bytes value
rest_with left count some few room =
    let fields = fields_there count (left - 2) room in
    (to_be_bytes w16 count ++ fields.0, fields.1, rest_of left (to_be_bytes w16 count ++ fields.0) (to_be_bytes w16 count) fields.0 fields.1 count some few refl refl fields.2)

not_long : (left : ℕ) → nat_lt 262150 left ≡ false → left ≤ 262150
not_long left is = grind arith

is_long : (left : ℕ) → nat_lt 262150 left ≡ true → 262150 < left
is_long left is = grind arith

rest_by : (long : Bool) (left : ℕ) → nat_lt 262150 left ≡ long → 6 ≤ left → (bytes : List ℕ) × (value : List Field × List ℕ) × IsRestOfContent left bytes value
rest_by true left is some = let long = is_long left is in rest_with left 1 some (omega arith) (omega arith, λ none. absurd (omega arith))
rest_by false left is some = let short = not_long left is in rest_with left 0 some (omega arith) (omega arith, λ none. omega arith)

pub rest_there : (left : ℕ) → 6 ≤ left → (bytes : List ℕ) × (value : List Field × List ℕ) × IsRestOfContent left bytes value
rest_there left some = rest_by (nat_lt 262150 left) left refl some

-- the bounds as the code computes them
pub bounds_are : (bytes : List ℕ) (left least most : ℕ) (result : Result ℕ FieldError) → least ≡ min_field_count left → most ≡ most_count left → ReadsPart (λ n. n) (IsU16Between least most) bytes result
    → ReadsPart (λ n. n) (IsU16Between (min_field_count left) (most_count left)) bytes result
bounds_are bytes left least most result is is' reads =
    subst (λ n. ReadsPart (λ n. n) (IsU16Between (min_field_count left) n) bytes result) is' (subst (λ n. ReadsPart (λ n. n) (IsU16Between n most) bytes result) is reads)

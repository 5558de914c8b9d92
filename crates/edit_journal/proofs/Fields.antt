-- Fields whose bytes may break off.
use Rattle.std.proofs.Common.{◌≡◌, ℕ, zero, suc, ◌+◌, ◌*◌, ◌-◌, ◌<◌, ◌≤◌, ◌^◌, true, List, [], ◌∷◌, ◌++◌, length, take, drop, All, OnOk, Result, Ok, Err, refl, sym, ap, ◌∙◌, subst, arith, append_assoc, length-append, flat_map}
use Rattle.std.specs.Borrow.{Bor}
use Rattle.http_wire.specs.declared.request.Field.{Field}
use Rattle.edit_journal.specs.Records.{length_prefixed, field_text}
use Rattle.edit_journal.specs.declared.field_parsers.FieldError.{FieldError}
use Rattle.edit_journal.specs.declared.field_parsers.FieldError.TheVariants.{Open, Wrong, NoMemory}
use Rattle.std.specs.Prelude.{replicate}
use Rattle.std.proofs.lemmas.List.{length-replicate, drop-append-le, drop_all}
use Rattle.std.proofs.lemmas.Result.{MatchResult-at_ok, err_from_is_err_and}
use Rattle.std.specs.Result.{IsErrAnd}
use Rattle.std.proofs.lemmas.List.Elements.{All-head, All-tail, All-nil, All-cons}
use Rattle.httparse.specs.Grammar.{IsToken, is_token_byte}
use Rattle.httparse.proofs.OpenLemmas.{letter_is_token}
use Rattle.std.proofs.Common.{take-append-drop}
use Rattle.std.proofs.Math.Seq.{take-append_seam}
use Rattle.edit_journal.proofs.Blocks.{one_block}
use Rattle.edit_journal.proofs.Lengths.{block_length, field_length}
use Rattle.edit_journal.specs.inner.RecordParts.{ReadsPart, IsBlockOfLength, IsTokenBlock, IsFieldValue, IsFieldPart, IsFieldsAndBody, HasRoomForFields}

-- a field whose name is missing
pub field_no_name : (bytes : List ℕ) (others left : ℕ) (stop : FieldError) → 9 * others + 13 ≤ left → ReadsPart (λ (piece : Bor (List ℕ)). piece.now) (IsTokenBlock 1 (left - 12 - 9 * others)) bytes (Err stop)
    → ReadsPart (λ (f : Field). f) (IsFieldPart others left) bytes (Err stop)
field_no_name bytes others left Open room (more, name, some, ((is, low, high), token)) =
    let value = replicate (left - 12 - 9 * others - length name) 0 in
    let size : length value ≡ left - 12 - 9 * others - length name = length-replicate (left - 12 - 9 * others - length name) 0 in
    let field : Field = record { name = name; value = value } in
    let joined : bytes ++ (more ++ length_prefixed value) ≡ field_text field = sym (append_assoc bytes more (length_prefixed value)) ∙ ap (λ l. l ++ length_prefixed value) is in
    let long : length (bytes ++ (more ++ length_prefixed value)) ≡ 8 + (length name + length value) = ap length joined ∙ field_length field in
    (more ++ length_prefixed value, field, omega (arith, length-append more (length_prefixed value)), (joined, token, omega arith, (omega arith, λ none. omega arith)))
field_no_name bytes others left Wrong room wrong = λ all field more rest is e.
    let long : length all ≡ 8 + (length field.name + length field.value) = ap length is.0 ∙ field_length field in
    wrong (length_prefixed field.name) field.name more (length_prefixed field.value ++ rest) ((refl, omega (arith, is.1.0), omega (arith, is.2, is.3.0)), is.1)
    (e ∙ ap (λ l. l ++ rest) is.0 ∙ append_assoc (length_prefixed field.name) (length_prefixed field.value) rest)
field_no_name bytes others left NoMemory room none = tt

-- a field whose value is missing
pub field_no_value : (bytes front rest name : List ℕ) (others left : ℕ) (stop : FieldError) → left ≤ 300000 → bytes ≡ front ++ rest → IsTokenBlock 1 (left - 12 - 9 * others) front name
    → ReadsPart (λ (piece : Bor (List ℕ)). piece.now) (IsFieldValue others (left - 4 - length name)) rest (Err stop) → ReadsPart (λ (f : Field). f) (IsFieldPart others left) bytes (Err stop)
field_no_value bytes front rest name others left Open fits split named (more, value, some, (is, within, room)) =
    let field : Field = record { name = name; value = value } in
    let joined : bytes ++ more ≡ field_text field = ap (λ l. l ++ more) split ∙ append_assoc front rest more ∙ ap (λ l. l ++ (rest ++ more)) named.0.0 ∙ ap (λ l. length_prefixed name ++ l) is in
    let long : length (bytes ++ more) ≡ 8 + (length name + length value) = ap length joined ∙ field_length field in
    let same : left - 4 - length name - (4 + length value) ≡ left - length (bytes ++ more) = omega arith in
    (more, field, some, (joined, named.1, omega (arith, named.0.1, within), subst (HasRoomForFields others) same room))
field_no_value bytes front rest name others left Wrong fits split named wrong = λ all field more behind is e.
    let long : length all ≡ 8 + (length field.name + length field.value) = ap length is.0 ∙ field_length field in
    let joined : length_prefixed name ++ (rest ++ more) ≡ length_prefixed field.name ++ (length_prefixed field.value ++ behind) =
    ap (λ l. l ++ (rest ++ more)) (sym named.0.0) ∙ sym (append_assoc front rest more) ∙ ap (λ l. l ++ more) (sym split) ∙ e ∙ ap (λ l. l ++ behind) is.0 ∙ append_assoc (length_prefixed field.name) (length_prefixed field.value) behind in
    let one = one_block name field.name (rest ++ more) (length_prefixed field.value ++ behind) (omega (arith, named.0.2)) (omega (arith, is.2)) joined in
    let same : left - length all ≡ left - 4 - length name - (4 + length field.value) = omega (arith, ap length one.0) in
    wrong (length_prefixed field.value) field.value more behind (refl, omega (arith, is.2, ap length one.0), subst (HasRoomForFields others) same is.3) one.1
field_no_value bytes front rest name others left NoMemory fits split named none = tt

-- a field that is complete
pub field_whole : (bytes front rest name front' rest' value : List ℕ) (others left : ℕ) → bytes ≡ front ++ rest → IsTokenBlock 1 (left - 12 - 9 * others) front name
    → rest ≡ front' ++ rest' → IsFieldValue others (left - 4 - length name) front' value → ReadsPart (λ (f : Field). f) (IsFieldPart others left) bytes (Ok (record { name = name; value = value }))
field_whole bytes front rest name front' rest' value others left split named split' is =
    let field : Field = record { name = name; value = value } in
    let joined : front ++ front' ≡ field_text field = ap (λ l. l ++ front') named.0.0 ∙ ap (λ l. length_prefixed name ++ l) is.0 in
    let long : length (front ++ front') ≡ 8 + (length name + length value) = ap length joined ∙ field_length field in
    let same : left - 4 - length name - (4 + length value) ≡ left - length (front ++ front') = omega arith in
    (front ++ front', rest', split ∙ ap (λ l. front ++ l) split' ∙ sym (append_assoc front front' rest'), (joined, named.1, omega (arith, named.0.1, is.1), subst (HasRoomForFields others) same is.2))

-- fields and a body that fill `left` bytes, where they fit
pub fields_there : (count left : ℕ) → HasRoomForFields count left → (bytes : List ℕ) × (value : List Field × List ℕ) × IsFieldsAndBody count left bytes value
fields_there zero left room =
    let body = replicate (left - 4) 0 in
    let size : length body ≡ left - 4 = length-replicate (left - 4) 0 in
    let most = room.1 refl in
    (length_prefixed body, ([], body), record { is = refl; fields = refl; names = All-nil (λ (f : Field). IsToken f.name); body = omega arith; size = omega (arith, block_length body, room.0) })
fields_there (suc count) left room =
    let name = 65 ∷ [] in
    let token : IsToken name = (omega arith, All-cons (λ b. is_token_byte b ≡ true) 65 [] letter_is_token (All-nil (λ b. is_token_byte b ≡ true))) in
    let value = replicate (left - 13 - 9 * count) 0 in
    let size : length value ≡ left - 13 - 9 * count = length-replicate (left - 13 - 9 * count) 0 in
    let rest = fields_there count (9 * count + 4) (omega arith, λ none. omega arith) in
    let field : Field = record { name = name; value = value } in
    let long : length (field_text field) ≡ 8 + (1 + length value) = field_length field in (
      field_text field ++ rest.0,
      (field ∷ rest.1.0, rest.1.1),
      record {
        is = ap (λ l. field_text field ++ l) rest.2.is ∙ sym (append_assoc (field_text field) (flat_map field_text rest.1.0) (length_prefixed rest.1.1));
        fields = omega (arith, rest.2.fields);
        names = All-cons (λ (f : Field). IsToken f.name) field rest.1.0 token rest.2.names;
        body = rest.2.body;
        size = omega (arith, length-append (field_text field) rest.0, rest.2.size, long, room.0);
      },
    )

-- the fields and a body fit their bytes
pub fields_least : (fields : List Field) → All (λ (f : Field). IsToken f.name) fields → 9 * length fields ≤ length (flat_map field_text fields)
fields_least [] names = omega arith
fields_least (field ∷ fields) names =
    let first = All-head (λ (f : Field). IsToken f.name) field fields names in
    omega (arith, fields_least fields (All-tail (λ (f : Field). IsToken f.name) field fields names), length-append (field_text field) (flat_map field_text fields), field_length field, first.0)

body_only : (left : ℕ) (bytes : List ℕ) (fields : List Field) (body : List ℕ) → length fields ≡ 0 → bytes ≡ flat_map field_text fields ++ length_prefixed body → length bytes ≡ left → length body ≤ 262144 → left ≤ 262148
body_only left bytes [] body none is size short = omega (arith, ap length is, block_length body)
body_only left bytes (f ∷ fields) body none is size short = absurd (omega arith)

pub fields_room : (count left : ℕ) (bytes : List ℕ) (value : List Field × List ℕ) → IsFieldsAndBody count left bytes value → HasRoomForFields count left
fields_room count left bytes value is = (
  omega (arith, fields_least value.0 is.names, is.fields, ap length is.is, length-append (flat_map field_text value.0) (length_prefixed value.1), block_length value.1, is.size),
  λ none. body_only left bytes value.0 value.1 (is.fields ∙ none) is.is is.size is.body,
)

body_is : (bytes : List ℕ) (left : ℕ) (fields : List Field) (body : List ℕ) → length fields ≡ 0 → bytes ≡ flat_map field_text fields ++ length_prefixed body → bytes ≡ length_prefixed body
body_is bytes left [] body none is = is
body_is bytes left (f ∷ fields) body none is = absurd (omega arith)

-- the first of the fields, and what comes after it
first_field : (others left : ℕ) (all : List ℕ) (fields : List Field) (body : List ℕ) → length fields ≡ suc others → all ≡ flat_map field_text fields ++ length_prefixed body
    → All (λ (f : Field). IsToken f.name) fields → length body ≤ 262144 → length all ≡ left → (field : Field) × (behind : List ℕ) × (all ≡ field_text field ++ behind) × IsFieldPart others left (field_text field) field
first_field others left all [] body some is names short size = absurd (omega arith)
first_field others left all (field ∷ fields) body some is names short size =
    let behind = flat_map field_text fields ++ length_prefixed body in
    let split : all ≡ field_text field ++ behind = is ∙ append_assoc (field_text field) (flat_map field_text fields) (length_prefixed body) in
    let long = ap length split ∙ length-append (field_text field) behind in
    let count : length fields ≡ others = omega arith in
    let part : IsFieldsAndBody others (left - length (field_text field)) behind (fields, body) =
    record { is = refl; fields = count; names = All-tail (λ (f : Field). IsToken f.name) field fields names; body = short; size = omega arith } in
    (field, behind, split, (refl, All-head (λ (f : Field). IsToken f.name) field fields names, omega arith, fields_room others (left - length (field_text field)) behind (fields, body) part))

-- no fields: the body fills the bytes
pub body_reads : (bytes : List ℕ) (left : ℕ) (stop : FieldError) → HasRoomForFields 0 left → ReadsPart (λ (piece : Bor (List ℕ)). piece.now) (IsBlockOfLength (left - 4) (left - 4)) bytes (Err stop)
    → {B : Type 0} (seen : B → List Field × List ℕ) → ReadsPart seen (IsFieldsAndBody 0 left) bytes (Err stop)
body_reads bytes left Open room (more, body, some, (is, low, high)) seen =
    let most = room.1 refl in
    (more, ([], body), some, record { is = is; fields = refl; names = All-nil (λ (f : Field). IsToken f.name); body = omega arith; size = omega (arith, ap length is, block_length body, room.0) })
body_reads bytes left Wrong room wrong seen = λ all value more rest is e.
    let only = body_is all left value.0 value.1 is.fields is.is in
    wrong all value.1 more rest (only, omega (arith, ap length only, block_length value.1, is.size), omega (arith, ap length only, block_length value.1, is.size)) e
body_reads bytes left NoMemory room none seen = tt

-- a first field that is missing
pub fields_no_field : {B : Type 0} (seen : B → List Field × List ℕ) (bytes : List ℕ) (others left : ℕ) (stop : FieldError) → ReadsPart (λ (f : Field). f) (IsFieldPart others left) bytes (Err stop)
    → ReadsPart seen (IsFieldsAndBody (suc others) left) bytes (Err stop)
fields_no_field seen bytes others left Open (more, field, some, (is, token, within, room)) =
    let rest = fields_there others (left - length (bytes ++ more)) room in (
      more ++ rest.0,
      (field ∷ rest.1.0, rest.1.1),
      omega (arith, length-append more rest.0),
      record {
        is = sym (append_assoc bytes more rest.0) ∙ ap (λ l. l ++ rest.0) is ∙ ap (λ l. field_text field ++ l) rest.2.is ∙ sym (append_assoc (field_text field) (flat_map field_text rest.1.0) (length_prefixed rest.1.1));
        fields = omega (arith, rest.2.fields);
        names = All-cons (λ (f : Field). IsToken f.name) field rest.1.0 token rest.2.names;
        body = rest.2.body;
        size = ap length (sym (append_assoc bytes more rest.0)) ∙ length-append (bytes ++ more) rest.0 ∙ omega (arith, rest.2.size, within);
      },
    )
fields_no_field seen bytes others left Wrong wrong = λ all value more rest is e.
    let one = first_field others left all value.0 value.1 is.fields is.is is.names is.body is.size in
    wrong (field_text one.0) one.0 more (one.1 ++ rest) one.3 (e ∙ ap (λ l. l ++ rest) one.2 ∙ append_assoc (field_text one.0) one.1 rest)
fields_no_field seen bytes others left NoMemory none = tt

fields_both : (front front' : List ℕ) (field : Field) (value : List Field × List ℕ) (others left : ℕ) → IsFieldPart others left front field → IsFieldsAndBody others (left - length front) front' value
    → IsFieldsAndBody (suc others) left (front ++ front') (field ∷ value.0, value.1)
fields_both front front' field value others left part is = record {
  is = ap (λ l. l ++ front') part.0 ∙ ap (λ l. field_text field ++ l) is.is ∙ sym (append_assoc (field_text field) (flat_map field_text value.0) (length_prefixed value.1));
  fields = omega (arith, is.fields);
  names = All-cons (λ (f : Field). IsToken f.name) field value.0 part.1 is.names;
  body = is.body;
  size = omega (arith, length-append front front', is.size, part.2);
}

-- a field is determined by the bytes that it begins
one_field : (f g : Field) (x y : List ℕ) → length f.name < 2 ^ 32 → length f.value < 2 ^ 32 → length g.name < 2 ^ 32 → length g.value < 2 ^ 32
    → field_text f ++ x ≡ field_text g ++ y → (length (field_text f) ≡ length (field_text g)) × (x ≡ y)
one_field f g x y a b c d e =
    let first = one_block f.name g.name (length_prefixed f.value ++ x) (length_prefixed g.value ++ y) a c (sym (append_assoc (length_prefixed f.name) (length_prefixed f.value) x) ∙ e ∙ append_assoc (length_prefixed g.name) (length_prefixed g.value) y) in
    let next = one_block f.value g.value x y b d first.1 in
    (omega (arith, field_length f, field_length g, ap length first.0, ap length next.0), next.1)

fields_apart : (front rest : List ℕ) (field : Field) (others left : ℕ) → IsFieldPart others left front field
    → ((all : List ℕ) (value : List Field × List ℕ) (more behind : List ℕ) → IsFieldsAndBody others (left - length front) all value → ¬ (rest ++ more ≡ all ++ behind))
    → (all : List ℕ) (fields : List Field) (body more behind : List ℕ) → length fields ≡ suc others → all ≡ flat_map field_text fields ++ length_prefixed body
    → All (λ (f : Field). IsToken f.name) fields → length body ≤ 262144 → length all ≡ left → left ≤ 300000 → front ++ (rest ++ more) ≡ all ++ behind → ⊥
fields_apart front rest field others left part wrong all [] body more behind some is names short size fits e = absurd (omega arith)
fields_apart front rest field others left part wrong all (f ∷ fields) body more behind some is names short size fits e =
    let tail = flat_map field_text fields ++ length_prefixed body in
    let split : all ≡ field_text f ++ tail = is ∙ append_assoc (field_text f) (flat_map field_text fields) (length_prefixed body) in
    let long = ap length split ∙ length-append (field_text f) tail in
    let mine = ap length part.0 ∙ field_length field in
    let its = field_length f in
    let one = one_field field f (rest ++ more) (tail ++ behind) (omega (arith, mine, part.2)) (omega (arith, mine, part.2)) (omega (arith, long, its)) (omega (arith, long, its))
    (ap (λ l. l ++ (rest ++ more)) (sym part.0) ∙ e ∙ ap (λ l. l ++ behind) split ∙ append_assoc (field_text f) tail behind) in
    wrong tail (fields, body) more behind
    (record { is = refl; fields = omega arith; names = All-tail (λ (g : Field). IsToken g.name) f fields names; body = short; size = omega (arith, one.0, long, ap length part.0) }) one.1

-- a first field, and what comes after it
pub fields_on : {B : Type 0} (seen seen' : B → List Field × List ℕ) (bytes front rest : List ℕ) (field : Field) (others left : ℕ) (result : Result B FieldError) → bytes ≡ front ++ rest → IsFieldPart others left front field
    → ((v : B) → result ≡ Ok v → seen v ≡ (field ∷ (seen' v).0, (seen' v).1)) → left ≤ 300000
    → ReadsPart seen' (IsFieldsAndBody others (left - length front)) rest result → ReadsPart seen (IsFieldsAndBody (suc others) left) bytes result
fields_on seen seen' bytes front rest field others left (Ok v) split part same fits (front', rest', split', is) = (
  front ++ front',
  rest',
  split ∙ ap (λ l. front ++ l) split' ∙ sym (append_assoc front front' rest'),
  subst (IsFieldsAndBody (suc others) left (front ++ front')) (sym (same v refl)) (fields_both front front' field (seen' v) others left part is),
)
fields_on seen seen' bytes front rest field others left (Err Open) split part same fits (more, value, some, is) = (
  more,
  (field ∷ value.0, value.1),
  some,
  subst (λ l. IsFieldsAndBody (suc others) left l (field ∷ value.0, value.1)) (sym (append_assoc front rest more) ∙ ap (λ l. l ++ more) (sym split)) (fields_both front (rest ++ more) field value others left part is),
)
fields_on seen seen' bytes front rest field others left (Err Wrong) split part same fits wrong = λ all value more behind is e.
    fields_apart front rest field others left part wrong all value.0 value.1 more behind is.fields is.is is.names is.body is.size fits
    (sym (append_assoc front rest more) ∙ ap (λ l. l ++ more) (sym split) ∙ e)
fields_on seen seen' bytes front rest field others left (Err NoMemory) split part same fits none = tt

behind_fields : (all front rest : List Field) (n : ℕ) → all ≡ front ++ rest → length front ≡ n → drop n all ≡ rest
behind_fields all front rest n split size =
    ap (drop n) split ∙ drop-append-le n front rest (omega arith) ∙ ap (λ l. l ++ rest) (drop_all n front (omega arith))

-- one more item at the end of a list that then grew
pub grown : (old new : List Field) (x : Field) → take (length (old ++ x ∷ [])) new ≡ old ++ x ∷ [] → (drop (length old) new ≡ x ∷ drop (length (old ++ x ∷ [])) new) × (take (length old) new ≡ old)
grown old new x same =
    let more = drop (length (old ++ x ∷ [])) new in
    let split : new ≡ old ++ x ∷ more = sym (take-append-drop (length (old ++ x ∷ [])) new) ∙ ap (λ l. l ++ more) same ∙ append_assoc old (x ∷ []) more in
    (behind_fields new old (x ∷ more) (length old) split refl, ap (take (length old)) split ∙ take-append_seam old (x ∷ more))

-- one more item, at a number of fields that may be 0
pub body_stops : {B : Type 0} (seen : B → List Field × List ℕ) (bytes : List ℕ) (count left : ℕ) (stop : FieldError) → count ≡ 0 → HasRoomForFields count left
    → ReadsPart (λ (piece : Bor (List ℕ)). piece.now) (IsBlockOfLength (left - 4) (left - 4)) bytes (Err stop) → ReadsPart seen (IsFieldsAndBody count left) bytes (Err stop)
body_stops seen bytes zero left stop none room reads = body_reads bytes left stop room reads seen
body_stops seen bytes (suc count) left stop none room reads = absurd (omega arith)

pub body_whole : (fields : List Field) (count left : ℕ) (front piece body : List ℕ) → count ≡ 0 → HasRoomForFields count left → IsBlockOfLength (left - 4) (left - 4) front piece → body ≡ piece
    → IsFieldsAndBody count left front (drop (length fields) fields, body)
body_whole fields count left front piece body none room is same =
    let nothing : drop (length fields) fields ≡ [] = drop_all (length fields) fields (omega arith) in
    let most = room.1 none in
    record {
      is = is.0 ∙ ap length_prefixed (sym same) ∙ ap (λ l. flat_map field_text l ++ length_prefixed body) (sym nothing);
      fields = ap length nothing ∙ sym none;
      names = subst (All (λ (f : Field). IsToken f.name)) (sym nothing) (All-nil (λ (f : Field). IsToken f.name));
      body = omega (arith, ap length same, is.2);
      size = omega (arith, ap length is.0, block_length piece, is.1, is.2, room.0);
    }

pub field_stops : {B : Type 0} (seen : B → List Field × List ℕ) (bytes : List ℕ) (count left : ℕ) (stop : FieldError) → 0 < count
    → ReadsPart (λ (f : Field). f) (IsFieldPart (count - 1) left) bytes (Err stop) → ReadsPart seen (IsFieldsAndBody count left) bytes (Err stop)
field_stops seen bytes zero left stop some reads = absurd (omega arith)
field_stops seen bytes (suc others) left stop some reads =
    let same : suc others - 1 ≡ others = omega arith in
    fields_no_field seen bytes others left stop (subst (λ n. ReadsPart (λ (f : Field). f) (IsFieldPart n left) bytes (Err stop)) same reads)

pub fields_go_on : (old mid new : List Field) (bytes front rest : List ℕ) (field : Field) (count left used : ℕ) (result : Result (List ℕ) FieldError) → 0 < count → left ≤ 300000
    → bytes ≡ front ++ rest → IsFieldPart (count - 1) left front field → used ≡ length front → mid ≡ old ++ field ∷ [] → OnOk result (take (length mid) new ≡ mid)
    → ReadsPart (λ (body : List ℕ). (drop (length mid) new, body)) (IsFieldsAndBody (count - 1) (left - used)) rest result
    → ReadsPart (λ (body : List ℕ). (drop (length old) new, body)) (IsFieldsAndBody count left) bytes result
fields_go_on old mid new bytes front rest field zero left used result some fits split part size pushed grows reads = absurd (omega arith)
fields_go_on old mid new bytes front rest field (suc others) left used result some fits split part size pushed grows reads =
    let less : suc others - 1 ≡ others = omega arith in
    fields_on (λ body. (drop (length old) new, body)) (λ body. (drop (length mid) new, body)) bytes front rest field others left result split
    (subst (λ n. IsFieldPart n left front field) less part)
    (λ v is. ap (λ (l : List Field). (l, v)) (
    let kept : take (length mid) new ≡ mid = MatchResult-at_ok (λ x. take (length mid) new ≡ mid) (λ e. Unit {0}) v is grows in
    (grown old new field (subst (λ (l : List Field). take (length l) new ≡ l) pushed kept)).0 ∙ ap (λ (l : List Field). field ∷ drop (length l) new) (sym pushed)))
    fits
    (subst (λ n. ReadsPart (λ (body : List ℕ). (drop (length mid) new, body)) (IsFieldsAndBody n (left - length front)) rest result) less
    (subst (λ n. ReadsPart (λ (body : List ℕ). (drop (length mid) new, body)) (IsFieldsAndBody (suc others - 1) (left - n)) rest result) size reads))

pub fields_grow : (old mid new : List Field) (field : Field) (result : Result (List ℕ) FieldError) → mid ≡ old ++ field ∷ [] → OnOk result (take (length mid) new ≡ mid) → OnOk result (take (length old) new ≡ old)
fields_grow old mid new field (Ok v) pushed kept = (grown old new field (subst (λ (l : List Field). take (length l) new ≡ l) pushed kept)).1
fields_grow old mid new field (Err e) pushed kept = tt

-- what the exit of a `?` returns
pub stops_with : {A B : Type 0} (seen : B → A) (P : List ℕ → A → Type 0) (bytes : List ℕ) (result : Result B FieldError) (stop : FieldError) → IsErrAnd result (λ e. e ≡ stop) → ReadsPart seen P bytes (Err stop) → ReadsPart seen P bytes result
stops_with seen P bytes result stop is reads =
    let p = err_from_is_err_and result is in
    subst (λ r. ReadsPart seen P bytes r) (sym (p.1 ∙ ap (λ e. Err e) p.2)) reads

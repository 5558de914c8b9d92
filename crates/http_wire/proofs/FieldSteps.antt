-- The fields of a head, one more at a time, and the digits of a number, one more at a time.
use Rattle.std.proofs.Common.{◌≡◌, ℕ, ◌+◌, ◌-◌, ◌*◌, ◌<◌, min, Bool, true, false, ◌||◌, if◌then◌else◌, List, [], ◌∷◌, ◌++◌, length, get_or, take, drop, map, take-append-drop, refl, sym, ap, ◌∙◌, arith}
use Rattle.std.proofs.lemmas.List.{take_more, map-append, append-nil}
use Rattle.std.proofs.lemmas.Bool.{or_left}
use Rattle.std.proofs.lemmas.Str.{digit_value_digit}
use Rattle.std.specs.List.{list_any}
use Rattle.std.specs.Char.{digit_value}
use Rattle.std.specs.Int.{IsInRange}
use Rattle.std.specs.Str.Parse.{digits_value, digits_value_after}
use Rattle.httparse.specs.Spans.{header_bytes}
use Rattle.httparse.specs.declared.spans.HeaderSpan.{HeaderSpan}
use Rattle.http_wire.specs.Fields.{same_ignoring_case, field_values}

-- one more field
pub fields_more : (buf : List ℕ) (headers : List HeaderSpan) (i : ℕ) (d : HeaderSpan) → i < length headers → map (header_bytes buf) (take (i + 1) headers) ≡ map (header_bytes buf) (take i headers) ++ header_bytes buf (get_or headers i d) ∷ []
fields_more buf headers i d inside = ap (map (header_bytes buf)) (take_more headers i d inside) ∙ map-append (header_bytes buf) (take i headers) (get_or headers i d ∷ [])

-- its value, where it has the name
abbrev pub value_if : Bool → List ℕ → List (List ℕ)
value_if named value = if named then value ∷ [] else []

field_values-push : (name : List ℕ) (fields : List (List ℕ × List ℕ)) (field : List ℕ × List ℕ) → field_values name (fields ++ field ∷ []) ≡ field_values name fields ++ value_if (same_ignoring_case field.0 name) field.1
field_values-push name [] field = refl
field_values-push name (first ∷ fields) field = on (same_ignoring_case first.0 name) (field_values-push name fields field)
  where
    on : (named : Bool) → field_values name (fields ++ field ∷ []) ≡ field_values name fields ++ value_if (same_ignoring_case field.0 name) field.1
        → (if named then first.1 ∷ field_values name (fields ++ field ∷ []) else field_values name (fields ++ field ∷ []))
        ≡ (if named then first.1 ∷ field_values name fields else field_values name fields) ++ value_if (same_ignoring_case field.0 name) field.1
    on true same = ap (λ (l : List (List ℕ)). first.1 ∷ l) same
    on false same = same

field_values-append : (name : List ℕ) (xs ys : List (List ℕ × List ℕ)) → field_values name (xs ++ ys) ≡ field_values name xs ++ field_values name ys
field_values-append name [] ys = refl
field_values-append name (x ∷ xs) ys = on (same_ignoring_case x.0 name) (field_values-append name xs ys)
  where
    on : (named : Bool) → field_values name (xs ++ ys) ≡ field_values name xs ++ field_values name ys → (if named then x.1 ∷ field_values name (xs ++ ys) else field_values name (xs ++ ys)) ≡ (if named then x.1 ∷ field_values name xs else field_values name xs) ++ field_values name ys
    on true same = ap (λ (l : List (List ℕ)). x.1 ∷ l) same
    on false same = same

pub values_more : (buf name : List ℕ) (headers : List HeaderSpan) (i : ℕ) (d : HeaderSpan) → i < length headers
    → field_values name (map (header_bytes buf) (take (i + 1) headers)) ≡ field_values name (map (header_bytes buf) (take i headers)) ++ value_if (same_ignoring_case (header_bytes buf (get_or headers i d)).0 name) (header_bytes buf (get_or headers i d)).1
values_more buf name headers i d inside = ap (field_values name) (fields_more buf headers i d inside) ∙ field_values-push name (map (header_bytes buf) (take i headers)) (header_bytes buf (get_or headers i d))

-- the digits read so far and one more, capped at a limit
digits_value-push : (n : ℕ) (xs : List ℕ) (b : ℕ) → digits_value_after 10 n (xs ++ b ∷ []) ≡ digits_value_after 10 n xs * 10 + digit_value b
digits_value-push n [] b = refl
digits_value-push n (x ∷ xs) b = digits_value-push (n * 10 + digit_value x) xs b

pub number_more : (digits : List ℕ) (i value : ℕ) → i < length digits → IsInRange 48 57 (get_or digits i 0) → value ≡ min (digits_value 10 (take i digits)) 262_145
    → min (value * 10 + (get_or digits i 0 - 48)) 262_145 ≡ min (digits_value 10 (take (i + 1) digits)) 262_145
number_more digits i value inside is same =
    let b : ℕ = get_or digits i 0 in
    let more : digits_value 10 (take (i + 1) digits) ≡ digits_value 10 (take i digits) * 10 + digit_value b = ap (digits_value 10) (take_more digits i 0 inside) ∙ digits_value-push 0 (take i digits) b in
    let low : digit_value b + 48 ≡ b = digit_value_digit b is in
    omega (arith, more, low, same)

list_any-append : {A : Type 0} (p : A → Bool) (xs ys : List A) → list_any p (xs ++ ys) ≡ (list_any p xs || list_any p ys)
list_any-append p [] ys = refl
list_any-append p (x ∷ xs) ys = on (p x) (list_any-append p xs ys)
  where
    on : (b : Bool) → list_any p (xs ++ ys) ≡ (list_any p xs || list_any p ys) → (b || list_any p (xs ++ ys)) ≡ ((b || list_any p xs) || list_any p ys)
    on true same = refl
    on false same = same

-- a field that has the name, and one that has another
pub value_named : (buf name : List ℕ) (headers : List HeaderSpan) (i : ℕ) (d : HeaderSpan) → i < length headers → same_ignoring_case (header_bytes buf (get_or headers i d)).0 name ≡ true
    → field_values name (map (header_bytes buf) (take (i + 1) headers)) ≡ field_values name (map (header_bytes buf) (take i headers)) ++ (header_bytes buf (get_or headers i d)).1 ∷ []
value_named buf name headers i d inside is = values_more buf name headers i d inside ∙ ap (λ (t : Bool). field_values name (map (header_bytes buf) (take i headers)) ++ value_if t (header_bytes buf (get_or headers i d)).1) is

pub value_other : (buf name : List ℕ) (headers : List HeaderSpan) (i : ℕ) (d : HeaderSpan) → i < length headers → same_ignoring_case (header_bytes buf (get_or headers i d)).0 name ≡ false
    → field_values name (map (header_bytes buf) (take (i + 1) headers)) ≡ field_values name (map (header_bytes buf) (take i headers))
value_other buf name headers i d inside is = values_more buf name headers i d inside ∙ ap (λ (t : Bool). field_values name (map (header_bytes buf) (take i headers)) ++ value_if t (header_bytes buf (get_or headers i d)).1) is ∙ append-nil (field_values name (map (header_bytes buf) (take i headers)))

-- whether one of the values passes a test, one field further
pub any_named : (p : List ℕ → Bool) (buf name : List ℕ) (headers : List HeaderSpan) (i : ℕ) (d : HeaderSpan) → i < length headers → list_any p (field_values name (map (header_bytes buf) (take i headers))) ≡ false → same_ignoring_case (header_bytes buf (get_or headers i d)).0 name ≡ true
    → list_any p (field_values name (map (header_bytes buf) (take (i + 1) headers))) ≡ p (header_bytes buf (get_or headers i d)).1
any_named p buf name headers i d inside none is =
    let values : List (List ℕ) = field_values name (map (header_bytes buf) (take i headers)) in
    let value : List ℕ = (header_bytes buf (get_or headers i d)).1 in
    ap (list_any p) (value_named buf name headers i d inside is) ∙ list_any-append p values (value ∷ []) ∙ ap (λ (t : Bool). t || (p value || false)) none ∙ or_false (p value)
  where
    or_false : (b : Bool) → (false || (b || false)) ≡ b
    or_false true = refl
    or_false false = refl

pub any_other : (p : List ℕ → Bool) (buf name : List ℕ) (headers : List HeaderSpan) (i : ℕ) (d : HeaderSpan) → i < length headers → list_any p (field_values name (map (header_bytes buf) (take i headers))) ≡ false → same_ignoring_case (header_bytes buf (get_or headers i d)).0 name ≡ false
    → list_any p (field_values name (map (header_bytes buf) (take (i + 1) headers))) ≡ false
any_other p buf name headers i d inside none is = ap (list_any p) (value_other buf name headers i d inside is) ∙ none

-- a value that passes among the first ones is among all
pub any_from_front : (p : List ℕ → Bool) (buf name : List ℕ) (headers : List HeaderSpan) (n : ℕ) → list_any p (field_values name (map (header_bytes buf) (take n headers))) ≡ true → list_any p (field_values name (map (header_bytes buf) headers)) ≡ true
any_from_front p buf name headers n is =
    let front : List (List ℕ × List ℕ) = map (header_bytes buf) (take n headers) in
    let back : List (List ℕ × List ℕ) = map (header_bytes buf) (drop n headers) in
    let split : map (header_bytes buf) headers ≡ front ++ back = ap (map (header_bytes buf)) (sym (take-append-drop n headers)) ∙ map-append (header_bytes buf) (take n headers) (drop n headers) in
    ap (λ (l : List (List ℕ × List ℕ)). list_any p (field_values name l)) split ∙ ap (list_any p) (field_values-append name front back) ∙ list_any-append p (field_values name front) (field_values name back) ∙ or_left (list_any p (field_values name front)) (list_any p (field_values name back)) is

-- Which fields of a request are kept.
use Rattle.std.proofs.Common.{◌≡◌, ℕ, suc, Bool, true, false, List, [], ◌∷◌, length, map, cond, Option, None, Some, is_some, All, codes, option_map, refl, sym, ap, subst, ◌∙◌}
use Rattle.std.specs.Char.{to_ascii_lowercase}
use Rattle.std.specs.List.{filter, cons_option}
use Rattle.std.specs.Str.{bytes_eq, chars}
use Rattle.std.proofs.lemmas.List.Elements.{All-nil, All-cons}
use Rattle.std.proofs.lemmas.Slice.Eq.{bytes_eq-Decides}
use Rattle.http_wire.specs.Fields.{same_ignoring_case}
use Rattle.http_wire.specs.declared.request.Field.{Field}
use Rattle.request_checks.specs.Rights.{fields_named}
use Rattle.change_records.specs.ReadFields.{is_named, kept_field, kept_fields, name_of, read_field_of}
use Rattle.change_records.specs.inner.WritableFields.{is_kept}
use Rattle.change_records.specs.declared.read_fields.ReadField.{ReadField}
use Rattle.change_records.specs.declared.read_fields.ReadField.TheVariants.{User, IfMatch, IfNoneMatch, ContentType, ContentEncoding}

abbrev lower : List ℕ → List ℕ
lower name = map to_ascii_lowercase name

same_lower : (a b : List ℕ) → same_ignoring_case a b ≡ true → lower a ≡ lower b
same_lower a b h = (bytes_eq-Decides (lower a) (lower b)).0 h

-- the first test that holds decides
abbrev first_of : Bool → Bool → Bool → Bool → Bool → Option ReadField
first_of a b c d e = cond a (Some User) (cond b (Some IfMatch) (cond c (Some IfNoneMatch) (cond d (Some ContentType) (cond e (Some ContentEncoding) None))))

is_first : (name : List ℕ) → read_field_of name ≡ first_of (is_named name User) (is_named name IfMatch) (is_named name IfNoneMatch) (is_named name ContentType) (is_named name ContentEncoding)
unfolding read_field_of
is_first name = refl

-- what has a name is named so
abbrev Chosen : (ReadField → Bool) → Option ReadField → Type 0
Chosen test None = (known : ReadField) → test known ≡ false
Chosen test (Some known) = test known ≡ true

abbrev tests : Bool → Bool → Bool → Bool → Bool → ReadField → Bool
tests a b c d e User = a
tests a b c d e IfMatch = b
tests a b c d e IfNoneMatch = c
tests a b c d e ContentType = d
tests a b c d e ContentEncoding = e

no_test : (known : ReadField) → tests false false false false false known ≡ false
no_test User = refl
no_test IfMatch = refl
no_test IfNoneMatch = refl
no_test ContentType = refl
no_test ContentEncoding = refl

chosen_of : (a b c d e : Bool) → Chosen (tests a b c d e) (first_of a b c d e)
chosen_of true b c d e = refl
chosen_of false true c d e = refl
chosen_of false false true d e = refl
chosen_of false false false true e = refl
chosen_of false false false false true = refl
chosen_of false false false false false = no_test

like_tests : (name : List ℕ) (known : ReadField) → is_named name known ≡ tests (is_named name User) (is_named name IfMatch) (is_named name IfNoneMatch) (is_named name ContentType) (is_named name ContentEncoding) known
like_tests name User = refl
like_tests name IfMatch = refl
like_tests name IfNoneMatch = refl
like_tests name ContentType = refl
like_tests name ContentEncoding = refl

-- a name that is known is that field's, ignoring case
pub named_so : (name : List ℕ) (known : ReadField) → read_field_of name ≡ Some known → is_named name known ≡ true
named_so name known e =
    let c = chosen_of (is_named name User) (is_named name IfMatch) (is_named name IfNoneMatch) (is_named name ContentType) (is_named name ContentEncoding) in
    like_tests name known ∙ subst (Chosen (tests (is_named name User) (is_named name IfMatch) (is_named name IfNoneMatch) (is_named name ContentType) (is_named name ContentEncoding))) (sym (is_first name) ∙ e) c

pub named_none : (name : List ℕ) → read_field_of name ≡ None → (known : ReadField) → is_named name known ≡ false
named_none name e known =
    let c = chosen_of (is_named name User) (is_named name IfMatch) (is_named name IfNoneMatch) (is_named name ContentType) (is_named name ContentEncoding) in
    like_tests name known ∙ subst (Chosen (tests (is_named name User) (is_named name IfMatch) (is_named name IfNoneMatch) (is_named name ContentType) (is_named name ContentEncoding))) (sym (is_first name) ∙ e) c known

-- the names are told apart
pub own_name : (known : ReadField) → read_field_of (name_of known) ≡ Some known
unfolding read_field_of
own_name User = refl
own_name IfMatch = refl
own_name IfNoneMatch = refl
own_name ContentType = refl
own_name ContentEncoding = refl

pub name_chars : (known : ReadField) → chars (name_of known) ≡ name_of known
unfolding chars
name_chars User = refl
name_chars IfMatch = refl
name_chars IfNoneMatch = refl
name_chars ContentType = refl
name_chars ContentEncoding = refl

abbrev pub field_with : Field → ReadField → Field
field_with field known = record { name = name_of known; value = field.value }

pub kept_is : (field : Field) → kept_field field ≡ option_map (field_with field) (read_field_of field.name)
unfolding kept_field
kept_is field = refl

-- ---- the values of a name

module _ (known : ReadField) where
  same_test : (name : List ℕ) (own : ReadField) → read_field_of name ≡ Some own → same_ignoring_case name (name_of known) ≡ same_ignoring_case (name_of own) (name_of known)
  same_test name own e = ap (λ (l : List ℕ). bytes_eq l (lower (name_of known))) (same_lower name (name_of own) (named_so name own e))

  abbrev with_value : Bool → List ℕ → List (List ℕ) → List (List ℕ)
  with_value test value values = cond test (value ∷ values) values

  one_more : (field : Field) (others : List Field) (o : Option ReadField) → read_field_of field.name ≡ o
      → fields_named (name_of known) (cons_option (option_map (field_with field) o) others) ≡ with_value (same_ignoring_case field.name (name_of known)) field.value (fields_named (name_of known) others)
  one_more field others None e = ap (λ (b : Bool). with_value b field.value (fields_named (name_of known) others)) (sym (named_none field.name e known))
  one_more field others (Some own) e = ap (λ (b : Bool). with_value b field.value (fields_named (name_of known) others)) (sym (same_test field.name own e))

  pub same_values : (fields : List Field) → fields_named (name_of known) (kept_fields fields) ≡ fields_named (name_of known) fields
  same_values [] = refl
  same_values (field ∷ fields) =
      ap (λ (o : Option Field). fields_named (name_of known) (cons_option o (kept_fields fields))) (kept_is field)
      ∙ one_more field (kept_fields fields) (read_field_of field.name) refl
      ∙ ap (λ (values : List (List ℕ)). with_value (same_ignoring_case field.name (name_of known)) field.value values) (same_values fields)

-- ---- all that is kept is known

abbrev IsKnown : Field → Type 0
IsKnown field = (known : ReadField) × (field.name ≡ name_of known)

known_more : (field : Field) (others : List Field) (o : Option ReadField) → All IsKnown others → All IsKnown (cons_option (option_map (field_with field) o) others)
known_more field others None all = all
known_more field others (Some known) all = All-cons IsKnown (field_with field known) others (known, refl) all

pub all_known : (fields : List Field) → All IsKnown (kept_fields fields)
all_known [] = All-nil IsKnown
all_known (field ∷ fields) = subst (λ (o : Option Field). All IsKnown (cons_option o (kept_fields fields))) (sym (kept_is field)) (known_more field (kept_fields fields) (read_field_of field.name) (all_known fields))

-- ---- how many are kept

count_more : (field : Field) (others : List Field) (o : Option ReadField) (counted : List Field) → length counted ≡ length others → length (cond (is_some o) (field ∷ counted) counted) ≡ length (cons_option (option_map (field_with field) o) others)
count_more field others None counted e = e
count_more field others (Some known) counted e = ap suc e

pub kept_count : (fields : List Field) → length (filter is_kept fields) ≡ length (kept_fields fields)
kept_count [] = refl
kept_count (field ∷ fields) =
    count_more field (kept_fields fields) (read_field_of field.name) (filter is_kept fields) (kept_count fields)
    ∙ ap (λ (o : Option Field). length (cons_option o (kept_fields fields))) (sym (kept_is field))

-- ---- what isn't kept

lower_none : (name other : List ℕ) → same_ignoring_case name other ≡ true → ((known : ReadField) → bytes_eq (lower other) (lower (name_of known)) ≡ false) → read_field_of name ≡ None
lower_none name other same none = by_option (read_field_of name) refl
  where
    by_option : (o : Option ReadField) → read_field_of name ≡ o → o ≡ None
    by_option None e = refl
    by_option (Some known) e = absurd (never known (sym (none known) ∙ ap (λ (l : List ℕ). bytes_eq l (lower (name_of known))) (sym (same_lower name other same)) ∙ named_so name known e))
      where
        never : (known : ReadField) → false ≡ true → ⊥
        never known h = cc

other_authorization : (known : ReadField) → bytes_eq (lower (codes "authorization")) (lower (name_of known)) ≡ false
other_authorization User = refl
other_authorization IfMatch = refl
other_authorization IfNoneMatch = refl
other_authorization ContentType = refl
other_authorization ContentEncoding = refl

other_cookie : (known : ReadField) → bytes_eq (lower (codes "cookie")) (lower (name_of known)) ≡ false
other_cookie User = refl
other_cookie IfMatch = refl
other_cookie IfNoneMatch = refl
other_cookie ContentType = refl
other_cookie ContentEncoding = refl

pub no_authorization : (name : List ℕ) → same_ignoring_case name (codes "authorization") ≡ true → read_field_of name ≡ None
no_authorization name same = lower_none name (codes "authorization") same other_authorization

pub no_cookie : (name : List ℕ) → same_ignoring_case name (codes "cookie") ≡ true → read_field_of name ≡ None
no_cookie name same = lower_none name (codes "cookie") same other_cookie

-- How long the parts of a record are.
use Rattle.std.proofs.Common.{◌≡◌, ℕ, suc, ◌+◌, ◌<◌, ◌^◌, true, List, [], ◌∷◌, ◌++◌, length, take, get_or, flat_map, All, ap, ◌∙◌, arith, append-nil, length-append}
use Rattle.std.proofs.Math.Seq.{take-suc}
use Rattle.std.proofs.lemmas.Bool.Decides.{nat_tests}
use Rattle.std.proofs.lemmas.List.Concat.{flat_map-append}
use Rattle.std.proofs.lemmas.List.Elements.{All-head, All-tail, All-nil, All-cons}
use Rattle.std.proofs.lemmas.Str.Ascii.{IsAscii-from_all}
use Rattle.std.specs.Int.{w16, to_be_bytes}
use Rattle.std.specs.Str.{IsAscii}
use Rattle.httparse.specs.Grammar.{IsToken, is_token_byte, AllPass}
use Rattle.http_wire.specs.declared.request.Field.{Field}
use Rattle.http_wire.specs.declared.request.Request.{Request}
use Rattle.edit_journal.specs.Records.{length_prefixed, field_text, record_content, record_of}
use Rattle.edit_journal.specs.inner.WritableFields.{IsWritableField}

pub block_length : (bytes : List ℕ) → length (length_prefixed bytes) ≡ 4 + length bytes
unfolding length_prefixed
block_length bytes = grind arith

pub field_length : (field : Field) → length (field_text field) ≡ 8 + (length field.name + length field.value)
field_length field =
    omega (arith, length-append (length_prefixed field.name) (length_prefixed field.value), block_length field.name, block_length field.value)

pub content_length : (request : Request) → length (record_content request) ≡ 11 + (length request.target + (length (flat_map field_text request.fields) + length request.body))
content_length request =
    omega (
      arith,
      length-append (length_prefixed request.target) (to_be_bytes w16 (length request.fields) ++ (flat_map field_text request.fields ++ length_prefixed request.body)),
      length-append (flat_map field_text request.fields) (length_prefixed request.body),
      block_length request.target,
      block_length request.body,
    )

pub record_length : (request : Request) → length (record_of request) ≡ 4 + length (record_content request)
record_length request = block_length (record_content request)

-- one more field
pub fields_more : (fields : List Field) (i : ℕ) (d : Field) → i < length fields → flat_map field_text (take (i + 1) fields) ≡ flat_map field_text (take i fields) ++ field_text (get_or fields i d)
fields_more fields i d within =
    let on : i + 1 ≡ suc i = omega arith in
    ap (λ n. flat_map field_text (take n fields)) on ∙ ap (flat_map field_text) (take-suc fields i d within) ∙ flat_map-append field_text (take i fields) (get_or fields i d ∷ []) ∙ ap (λ l. flat_map field_text (take i fields) ++ l) (append-nil (field_text (get_or fields i d)))

-- a byte of a token is ASCII
token_ascii : (b : ℕ) → is_token_byte b ≡ true → b < 128
unfolding is_token_byte
token_ascii b h = grind (arith, nat_tests)

name_ascii : (name : List ℕ) → AllPass is_token_byte name → IsAscii name
name_ascii name h = IsAscii-from_all name (λ k d within. token_ascii (get_or name k d) (h k d within))

-- fields of a record can be written
pub fields_writable : (fields : List Field) → All (λ (field : Field). IsToken field.name) fields → length (flat_map field_text fields) < 2 ^ 32 → All IsWritableField fields
fields_writable [] tokens short = All-nil IsWritableField
fields_writable (field ∷ fields) tokens short =
    let here : length (flat_map field_text (field ∷ fields)) ≡ length (field_text field) + length (flat_map field_text fields) = length-append (field_text field) (flat_map field_text fields) in
    let size = field_length field in
    All-cons IsWritableField field fields
    (record {
      ascii = name_ascii field.name (All-head (λ (field : Field). IsToken field.name) field fields tokens).1;
      name = omega arith;
      value = omega arith;
    })
    (fields_writable fields (All-tail (λ (field : Field). IsToken field.name) field fields tokens) (omega arith))

-- Escapes: when octets are read as a text.
use Rattle.std.proofs.Common.{◌≡◌, ℕ, List, true, false, Ok, Err, ⊎_elim}
use Rattle.std.proofs.lemmas.Bool.{and_from, and_parts, and_left, cond-true, cond-false, cases_Bool}
use Rattle.std.proofs.lemmas.Str.{IsUtf8-from_is_utf8, is_utf8-from_IsUtf8}
use Rattle.std.specs.Str.{IsUtf8, chars}
use Rattle.percent_encoding.specs.Percent.{percent_decode}
use Rattle.xml_names.specs.declared.read_error.ReadError.TheVariants.{Fault}
use Rattle.xcap_uri.specs.declared.fault.UriFault.TheVariants.{BadEscape}
use Rattle.xcap_uri.specs.Escapes.{has_complete_escapes}
use Rattle.xcap_uri.specs.readers.Escapes.{parsed_text, decodes_to_text}

pub read_as_text : (part : List ℕ) → has_complete_escapes part ≡ true → IsUtf8 (percent_decode part) → parsed_text part ≡ Ok (chars (percent_decode part))
read_as_text part whole utf8 = cond-true _ _ _ (and_from _ _ whole (is_utf8-from_IsUtf8 _ utf8))

pub read_as_no_text : (part : List ℕ) → ¬ (IsUtf8 (percent_decode part)) → parsed_text part ≡ Err (Fault BadEscape)
read_as_no_text part never =
    ⊎_elim
    (λ e. absurd (never (IsUtf8-from_is_utf8 _ (and_parts (has_complete_escapes part) _ e).1)))
    (λ e. cond-false _ _ _ e)
    (cases_Bool (decodes_to_text part))

pub read_as_no_escapes : (part : List ℕ) → has_complete_escapes part ≡ false → parsed_text part ≡ Err (Fault BadEscape)
read_as_no_escapes part e = cond-false _ _ _ (and_left (has_complete_escapes part) _ e)

-- The place of a clash as text.
use Rattle.std.proofs.Common.{◌≡◌, ℕ, List, [], ◌∷◌, ◌++◌, IsTrue, refl, ap, ◌∙◌}
use Rattle.std.proofs.lemmas.List.{append_assoc}
use Rattle.std.specs.Str.{chars}
use Rattle.usage_docs.specs.KeyAttributes.{attribute_name}
use Rattle.usage_docs.specs.AsciiTexts.{is_ascii}
use Rattle.usage_docs.specs.declared.schema_table.Key.{Key}
use Rattle.usage_docs.proofs.Words.{chars_ascii}

key_letters : (key : Key) (text : List ℕ) → text ≡ attribute_name key → IsTrue (is_ascii text) → chars text ≡ attribute_name key
key_letters key text is ascii = chars_ascii text ascii ∙ is

-- a path, `/@` and a key, written one after the other
pub field_is : (path field first second text : List ℕ) (key : Key) → field ≡ path → first ≡ field ++ chars (47 ∷ 64 ∷ []) → second ≡ first ++ chars text → text ≡ attribute_name key → IsTrue (is_ascii text)
    → second ≡ path ++ (47 ∷ 64 ∷ attribute_name key)
field_is path field first second text key begun more most is ascii =
    most
    ∙ ap (λ x. x ++ chars text) (more ∙ ap (λ x. field ++ x) (chars_ascii (47 ∷ 64 ∷ []) refl))
    ∙ ap (λ x. (field ++ 47 ∷ 64 ∷ []) ++ x) (key_letters key text is ascii)
    ∙ append_assoc field (47 ∷ 64 ∷ []) (attribute_name key)
    ∙ ap (λ x. x ++ (47 ∷ 64 ∷ attribute_name key)) begun

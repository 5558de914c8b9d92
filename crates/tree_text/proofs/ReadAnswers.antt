-- The results of the reading functions for bytes are what the grammar says of them.
use Rattle.std.proofs.Common.{◌≡◌, ℕ, zero, suc, ◌+◌, ◌<◌, Bool, true, false, cond, List, Err, inl, inr, refl, arith}
use Rattle.std.specs.Str.{is_utf8, chars}
use Rattle.std.proofs.lemmas.Str.{IsUtf8-from_is_utf8, is_utf8-from_IsUtf8}
use Rattle.xml_grammar.specs.readers.RuleReaders.{read_whole_text}
use Rattle.xml_grammar.specs.ParseResults.{IsParseResult}
use Rattle.xml_names.specs.declared.names.Decl.{Decl}
use Rattle.tree_text.specs.declared.fault.TextFault.TheVariants as texts
use Rattle.tree_text.specs.declared.fault.ValueFault.TheVariants as bodies
use Rattle.tree_text.specs.FaultKinds.{fault_ranking}
use Rattle.tree_text.specs.Grammar.{document}
use Rattle.tree_text.specs.readers.Texts.{read_text, read_unquoted_value}
use Rattle.tree_text.specs.Faults.{IsTextResult, unquoted_body, body_result, IsBodyResult, text_result as told}
use Rattle.tree_text.specs.readers.WholeTexts.{read_document_text, read_body_text}
use Rattle.tree_text.proofs.ReadDocuments.{answers_document}
use Rattle.tree_text.proofs.ReadBodies.{answers_spelling}

-- with any number of levels beyond the limit
answers_text : (limit n : ℕ) (scope : List (List Decl)) → limit + 1 < n → (text : List ℕ) → IsParseResult (fault_ranking limit) (document n scope) text (read_whole_text (read_text limit scope) text)
answers_text limit zero scope more text = absurd (omega (arith, more))
answers_text limit (suc n) scope more text = answers_document limit n scope more text

text_by : (limit : ℕ) (scope : List (List Decl)) (bytes : List ℕ) (b : Bool) → is_utf8 bytes ≡ b → IsTextResult limit scope bytes (cond b (told bytes (read_whole_text (read_text limit scope) (chars bytes))) (Err texts.NotUtf8))
text_by limit scope bytes true e = inl (IsUtf8-from_is_utf8 bytes e, record { stated = read_whole_text (read_text limit scope) (chars bytes); by_grammar = λ n more. answers_text limit n scope more (chars bytes); is_told = refl })
text_by limit scope bytes false e = inr (λ u. (let t = is_utf8-from_IsUtf8 bytes u in absurd cc), refl)

-- A document or a fragment is read as the grammar says.
pub text_answer : (limit : ℕ) (scope : List (List Decl)) (bytes : List ℕ) → IsTextResult limit scope bytes (read_document_text limit scope bytes)
text_answer limit scope bytes = text_by limit scope bytes (is_utf8 bytes) refl

body_by : (bytes : List ℕ) (b : Bool) → is_utf8 bytes ≡ b → IsBodyResult bytes (cond b (body_result (chars bytes) bytes (read_whole_text read_unquoted_value (unquoted_body (chars bytes)))) (Err bodies.NotUtf8))
body_by bytes true e = inl (IsUtf8-from_is_utf8 bytes e, record { stated = read_whole_text read_unquoted_value (unquoted_body (chars bytes)); by_grammar = answers_spelling (fault_ranking 0) (unquoted_body (chars bytes)); is_told = refl })
body_by bytes false e = inr (λ u. (let t = is_utf8-from_IsUtf8 bytes u in absurd cc), refl)

-- A body is read as the grammar says.
pub body_answer : (bytes : List ℕ) → IsBodyResult bytes (read_body_text bytes)
body_answer bytes = body_by bytes (is_utf8 bytes) refl

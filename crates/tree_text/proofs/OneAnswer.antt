-- Bytes have one answer by the grammar.
use Rattle.std.proofs.Common.{◌≡◌, ℕ, suc, ◌+◌, List, Result, Err, inl, inr, refl, sym, ap, ◌∙◌, arith}
use Rattle.std.specs.Prelude.{◌==◌, if◌then◌else◌}
use Rattle.std.specs.Str.{chars}
use Rattle.xml_grammar.specs.TextReading.{Faulty}
use Rattle.xml_grammar.proofs.Whole.{told_alike}
use Rattle.xml_tree.specs.Tree.{Tree}
use Rattle.xml_names.specs.declared.names.Decl.{Decl}
use Rattle.tree_text.specs.declared.fault.TextFault.{TextFault}
use Rattle.tree_text.specs.declared.fault.TextFault.TheVariants as texts
use Rattle.tree_text.specs.declared.fault.ValueFault.{ValueFault}
use Rattle.xml_tokens.specs.declared.fault_kind.FaultKind.{FaultKind}
use Rattle.xml_tokens.specs.declared.fault_kind.FaultKind.TheVariants.{Encoded, Doctyped, Depth, Unbound, Repeated}
use Rattle.tree_text.specs.FaultKinds.{fault_ranking, rank}
use Rattle.tree_text.specs.Grammar.{document, unquoted_value}
use Rattle.xml_tokens.specs.ByteOffsets.{byte_offset}
use Rattle.tree_text.specs.Faults.{stop_fault, IsTextResult, unquoted_body, body_result, IsBodyResult, text_result as told}

-- the fault of a rank
by_rank : List ℕ → List ℕ → ℕ → TextFault
by_rank bytes left n =
    if n == 0 then texts.TooDeep (byte_offset bytes left)
    else if n == 1 then texts.Namespace (byte_offset bytes left)
    else if n == 2 then texts.RepeatedAttribute (byte_offset bytes left)
    else if n == 3 then texts.NotUtf8
    else texts.Doctype (byte_offset bytes left)

ranked : (bytes left : List ℕ) (kind : FaultKind) → stop_fault bytes (Faulty kind left) ≡ by_rank bytes left (rank kind)
unfolding by_rank
ranked bytes left Encoded = refl
ranked bytes left Doctyped = refl
ranked bytes left (Depth depth) = refl
ranked bytes left Unbound = refl
ranked bytes left Repeated = refl

-- kinds of the same rank are the same fault
alike : (bytes : List ℕ) (kind other : FaultKind) (left : List ℕ) → rank kind ≡ rank other → told bytes (Err (Faulty kind left)) ≡ told bytes (Err (Faulty other left))
alike bytes kind other left same = ap (λ (z : TextFault). let r : Result Tree TextFault = Err z in r) (ranked bytes left kind ∙ ap (by_rank bytes left) same ∙ sym (ranked bytes left other))

pub one_text : (limit : ℕ) (scope : List (List Decl)) (bytes : List ℕ) (a b : Result Tree TextFault) → IsTextResult limit scope bytes a → IsTextResult limit scope bytes b → a ≡ b
one_text limit scope bytes a b (inl x) (inl y) =
    x.1.is_told
    ∙ told_alike (fault_ranking limit) (document (suc (limit + 1)) scope) (chars bytes) (told bytes) (λ kind other left k o same. alike bytes kind other left same) x.1.stated y.1.stated
    (x.1.by_grammar (suc (limit + 1)) (omega arith)) (y.1.by_grammar (suc (limit + 1)) (omega arith))
    ∙ sym y.1.is_told
one_text limit scope bytes a b (inl x) (inr y) = absurd (y.0 x.0)
one_text limit scope bytes a b (inr x) (inl y) = absurd (x.0 y.0)
one_text limit scope bytes a b (inr x) (inr y) = x.1 ∙ sym y.1

pub one_body : (bytes : List ℕ) (a b : Result (List ℕ) ValueFault) → IsBodyResult bytes a → IsBodyResult bytes b → a ≡ b
one_body bytes a b (inl x) (inl y) =
    x.1.is_told
    ∙ told_alike (fault_ranking 0) unquoted_value (unquoted_body (chars bytes)) (body_result (chars bytes) bytes) (λ kind other left k o same. refl) x.1.stated y.1.stated x.1.by_grammar y.1.by_grammar
    ∙ sym y.1.is_told
one_body bytes a b (inl x) (inr y) = absurd (y.0 x.0)
one_body bytes a b (inr x) (inl y) = absurd (x.0 y.0)
one_body bytes a b (inr x) (inr y) = x.1 ∙ sym y.1

-- The results of reading, in the form in which contracts state them.
use Rattle.std.proofs.Common.{◌≡◌, ℕ, suc, ◌+◌, ◌≤◌, List, Result, Ok, Err, inl, inr, sym, subst, arith}
use Rattle.std.specs.Prelude.{IfOk}
use Rattle.std.specs.Str.{chars}
use Rattle.xml_grammar.specs.TextReading.{Stop}
use Rattle.xml_grammar.specs.ParseResults.{IsParseResult}
use Rattle.xml_tree.specs.Tree.{Tree, height}
use Rattle.xml_tree.specs.Proper.{IsProperTree}
use Rattle.xml_names.specs.declared.names.Decl.{Decl}
use Rattle.xml_tokens.specs.declared.fault_kind.FaultKind.{FaultKind}
use Rattle.tree_text.specs.declared.fault.TextFault.{TextFault}
use Rattle.tree_text.specs.declared.fault.ValueFault.{ValueFault}
use Rattle.xml_names.specs.declared.read_error.ReadError.{ReadError}
use Rattle.tree_text.specs.FaultKinds.{fault_ranking}
use Rattle.tree_text.specs.Grammar.{document}
use Rattle.tree_text.specs.Faults.{IsTextResult, IsBodyResult, text_result as told}
use Rattle.xml_names.specs.ReadErrors.{ResultSatisfies}
use Rattle.tree_text.specs.readers.WholeTexts.{read_document_text, read_body_text}
use Rattle.xml_tokens.proofs.MemoryAnswers.{answered_so}
use Rattle.tree_text.proofs.ReadAnswers.{text_answer, body_answer}
use Rattle.tree_text.proofs.ProperTrees.{document_proper}

-- A document or a fragment is read as the grammar says, unless memory ran out.
pub text_answers : (limit : ℕ) (scope : List (List Decl)) (bytes : List ℕ) (r : Result Tree (ReadError TextFault)) → ResultSatisfies (λ answer. answer ≡ read_document_text limit scope bytes) r → ResultSatisfies (IsTextResult limit scope bytes) r
text_answers limit scope bytes = answered_so (λ answer. answer ≡ read_document_text limit scope bytes) (IsTextResult limit scope bytes) (λ answer e. subst (IsTextResult limit scope bytes) (sym e) (text_answer limit scope bytes))

-- A body is, too.
pub body_answers : (bytes : List ℕ) (r : Result (List ℕ) (ReadError ValueFault)) → ResultSatisfies (λ answer. answer ≡ read_body_text bytes) r → ResultSatisfies (IsBodyResult bytes) r
body_answers bytes = answered_so (λ answer. answer ≡ read_body_text bytes) (IsBodyResult bytes) (λ answer e. subst (IsBodyResult bytes) (sym e) (body_answer bytes))

stated_proper : (limit : ℕ) (scope : List (List Decl)) (bytes : List ℕ) (tree : Tree) (stated : Result Tree (Stop FaultKind)) → IsParseResult (fault_ranking limit) (document (suc (limit + 1)) scope) (chars bytes) stated → (let answer : Result Tree TextFault = Ok tree in answer ≡ told bytes stated) → IsProperTree scope tree × (height tree ≤ limit)
stated_proper limit scope bytes tree (Ok t) h e =
    let i : tree ≡ t = cc in
    subst (λ (z : Tree). IsProperTree scope z × (height z ≤ limit)) (sym i) (document_proper limit (limit + 1) scope (chars bytes) t (omega arith) h)
stated_proper limit scope bytes tree (Err stop) h e = absurd cc

-- A tree that is spelled is proper in its scope, and within the depth limit.
pub answer_proper : (limit : ℕ) (scope : List (List Decl)) (bytes : List ℕ) (tree : Tree) → IsTextResult limit scope bytes (Ok tree) → IsProperTree scope tree × (height tree ≤ limit)
answer_proper limit scope bytes tree (inl a) = stated_proper limit scope bytes tree a.1.stated (a.1.by_grammar (suc (limit + 1)) (omega arith)) a.1.is_told
answer_proper limit scope bytes tree (inr a) = let e = a.1 in absurd cc

-- So is the tree of an answer that may be a fault.
pub text_good : (limit : ℕ) (scope : List (List Decl)) (bytes : List ℕ) (r : Result Tree (ReadError TextFault)) → ResultSatisfies (IsTextResult limit scope bytes) r → IfOk r (λ tree. IsProperTree scope tree × (height tree ≤ limit))
text_good limit scope bytes (Ok tree) h = answer_proper limit scope bytes tree h
text_good limit scope bytes (Err e) h = tt

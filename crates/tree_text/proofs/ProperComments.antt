-- The inside of a comment, as spelled, may occur in a tree.
use Rattle.std.proofs.Common.{◌≡◌, ℕ, true, List, [], Result, Ok, Err, refl, sym, ap, ◌∙◌}
use Rattle.std.proofs.lemmas.List.{append-nil}
use Rattle.xml_names.specs.Characters.{is_char}
use Rattle.xml_names.specs.Comments.{is_comment}
use Rattle.xml_grammar.specs.Rules.{up_to}
use Rattle.xml_grammar.specs.TextReading.{Stop, Syntax, Faulty}
use Rattle.xml_grammar.specs.readers.RuleReaders.{read_up_to}
use Rattle.xml_grammar.proofs.Exact.{Outcome, Exact}
use Rattle.xml_grammar.proofs.ClosedRules.{anything}
use Rattle.xml_grammar.proofs.UpTo.{exact_up_to}
use Rattle.xml_markup.specs.readers.Literals.{dashes}
use Rattle.xml_tokens.specs.declared.fault_kind.FaultKind.{FaultKind}
use Rattle.tree_text.specs.FaultKinds.{fault_ranking}
use Rattle.xml_tokens.specs.Values.{normalize_line_ends}
use Rattle.xml_markup.specs.Grammar.{comment}
use Rattle.xml_markup.proofs.CommentLemmas.{read_is_comment}
use Rattle.tree_text.proofs.ReadTexts.{some_dashes, dashes_chars}

-- what is spelled up to the hyphens is read
by_reading : (text cs : List ℕ) → (up_to {Kind = FaultKind} is_char dashes).Spells text cs → (out : Result (List ℕ × List ℕ) (Stop FaultKind)) → read_up_to {Kind = FaultKind} is_char dashes text ≡ out
    → Outcome (fault_ranking 0) (up_to is_char dashes) (λ _. anything) text out → is_comment (normalize_line_ends cs) ≡ true
by_reading text cs m (Ok x) e h = let o = h.unique text [] cs (sym (append-nil text)) m tt in ap (λ (z : List ℕ). is_comment (normalize_line_ends z)) o.1 ∙ read_is_comment text x e
by_reading text cs m (Err (Syntax left)) e h = absurd (h.none text [] cs (sym (append-nil text)) m tt)
by_reading text cs m (Err (Faulty kind left)) e h = absurd h.met

pub comment_proper : (u cs : List ℕ) → comment.Spells u cs → is_comment cs ≡ true
comment_proper u cs m =
    let b = m.1 in
    let k = b.1.back_is in
    let exact : Exact (fault_ranking 0) (up_to is_char dashes) (λ _. anything) (read_up_to is_char dashes) = exact_up_to dashes some_dashes dashes_chars in
    ap is_comment (m.2 ∙ ap normalize_line_ends (b.2 ∙ k.2)) ∙ by_reading k.1.front k.0.0 k.1.front_is (read_up_to is_char dashes k.1.front) refl (exact.by k.1.front)

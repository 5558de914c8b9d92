-- The spelling of a body is read exactly.
use Rattle.std.proofs.Common.{◌≡◌, ℕ, List, inl, refl, arith}
use Rattle.std.specs.Prelude.{◌==◌}
use Rattle.std.proofs.lemmas.Bool.Decides.{nat_tests}
use Rattle.xml_grammar.specs.readers.RuleReaders.{read_whole_text}
use Rattle.xml_grammar.specs.ParseResults.{FaultRanking, IsParseResult}
use Rattle.xml_grammar.proofs.Exact.{Exact}
use Rattle.xml_grammar.proofs.Carry.{exact_valued}
use Rattle.xml_grammar.proofs.Heads.{starts_atomic}
use Rattle.xml_grammar.proofs.Laws.{Lawful, lawful_run, lawful_atomic, lawful_valued, lawful_between}
use Rattle.xml_grammar.proofs.ClosedRules.{exact_atomic}
use Rattle.xml_grammar.proofs.Tests.{exact_between_run_head}
use Rattle.xml_grammar.proofs.Whole.{ends, heads_ends, answers_whole}
use Rattle.xml_tokens.specs.declared.fault_kind.FaultKind.{FaultKind}
use Rattle.xml_tokens.specs.Tokens.{reference}
use Rattle.tree_text.specs.Grammar.{unquoted_value}
use Rattle.tree_text.specs.readers.Texts.{read_unquoted_value}
use Rattle.tree_text.proofs.ReadParts.{closed_reference, starts_reference, quiet_reference, same}
use Rattle.xml_tokens.specs.Values.{normalized_value as value_of}

module _ (faults : FaultRanking FaultKind) where
  pub exact_spelling : Exact faults unquoted_value (λ _. ends) read_unquoted_value
  exact_spelling = exact_valued value_of (exact_between_run_head (λ c. c == 38) (starts_atomic (starts_reference faults {P = λ c. c ≡ 38} refl))
      (λ c e. (same 38 c e, grind (arith, nat_tests)))
      (heads_ends {P = λ c. ⊥}) (λ c n. absurd n) (λ c t n. n)
      (exact_atomic (quiet_reference faults) (closed_reference faults)))

  pub lawful_spelling : Lawful unquoted_value
  lawful_spelling = lawful_valued value_of (lawful_between lawful_run (lawful_atomic reference) (inl refl))

  -- A spelling is read as the grammar says.
  pub answers_spelling : (text : List ℕ) → IsParseResult faults unquoted_value text (read_whole_text read_unquoted_value text)
  answers_spelling text = answers_whole lawful_spelling exact_spelling text

use Rattle.std.proofs.Common.{◌≡◌, ℕ, ◌==◌, false, List, [], ◌∷◌, length, chars, Ok, Err, refl, sym}
use Rattle.xml_grammar.specs.TextReading.{Reader, Syntax}
use Rattle.xml_grammar.specs.readers.RuleReaders.{read_whole_text}
use Rattle.xml_tokens.specs.declared.fault_kind.FaultKind.{FaultKind}
use Rattle.xml_markup.specs.readers.Markup.{read_optional_bom, read_optional_declaration, read_prolog, read_epilog}
use Rattle.tree_text.specs.readers.Texts.{read_element, read_text}
use Rattle.xml_tokens.proofs.ReadFronts.{Reads, reads_before, reads_behind}
use Rattle.tree_text.proofs.document_reader.root.Goals as goal

-- a non-empty rest stops the reading of a whole text
left_over : {A : Type 0} (p : Reader FaultKind A) (text rest : List ℕ) (a : A) → Reads p text a rest → (length rest == 0) ≡ false → read_whole_text p text ≡ Err (Syntax rest)
left_over p text [] a h some = absurd cc
left_over p text (c ∷ cs) a h some = rw h.read refl

pub returns-then-not-is_at_end : goal.returns-then-not-is_at_end
returns-then-not-is_at_end c = record {
  grammar_answer =
      let tree = c.in_ok-root.root in
      left_over (read_text c.args.depth c.args.scope.now) (chars c.args.text.now) (chars c.in_ok-rest-3.rest.now) tree
      (reads_behind {p = read_optional_bom} (record { read = c.skip_bom-rest.ensures.reads_rule })
      (reads_behind {p = read_optional_declaration} (record { read = c.in_ok-rest.ensures.reads_rule })
      (reads_behind {p = read_prolog} (record { read = c.in_ok-rest-2.ensures.reads_rule })
      (reads_before {p = read_element c.args.depth c.args.scope.now 1} {q = read_epilog} (record { read = c.in_ok-root.ensures.reads_rule }) (record { read = c.in_ok-rest-3.ensures.reads_rule })))))
      (sym c.if-not-is_at_end.ensures.exact);
}

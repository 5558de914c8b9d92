-- Comments, sections, instructions, content, elements and documents are read exactly.
use Rattle.std.proofs.Common.{◌≡◌, ℕ, ◌<◌, true, false, List, [], ◌∷◌, length, refl, arith}
use Rattle.std.specs.Prelude.{◌==◌}
use Rattle.std.proofs.lemmas.Bool.Decides.{nat_tests}
use Rattle.xml_names.specs.Characters.{is_char, is_space, is_name_start, is_name_char}
use Rattle.xml_tree.specs.Tree.{Tree}
use Rattle.xml_grammar.specs.Rules.{Rule, AllPass, either, map_rule}
use Rattle.xml_grammar.specs.TextReading.{Reader, starts_with_word, read_mapped}
use Rattle.xml_grammar.specs.readers.RuleReaders.{read_either}
use Rattle.xml_grammar.specs.ParseResults.{FaultRanking}
use Rattle.xml_grammar.proofs.Exact.{ahead, Exact}
use Rattle.xml_grammar.proofs.Leaves.{exact_one, exact_word}
use Rattle.xml_grammar.proofs.Carry.{Covers, exact_valued, exact_either, covers_either}
use Rattle.xml_grammar.proofs.Heads.{heads_starts, Starts, starts_one, starts_word, starts_either, starts_valued}
use Rattle.xml_grammar.proofs.UpTo.{exact_up_to}
use Rattle.xml_grammar.proofs.Laws.{Lawful, lawful_one, lawful_word, lawful_up_to, lawful_either, lawful_valued, lawful_only, lawful_name_of, lawful_before, lawful_behind}
use Rattle.xml_grammar.proofs.ClosedRules.{anything, heads_unless, exact_only}
use Rattle.xml_grammar.proofs.Shapes.{exact_before, exact_behind, exact_name_of, covered_first, starts_behind}
use Rattle.xml_grammar.proofs.LedRules.{Led, led_word, led_valued, led_behind, led_either, led_weaker, led_shorter, starts_led, led_covers, next_true, next_is}
use Rattle.xml_grammar.proofs.Tests.{exact_either_head, exact_either_next, next_covers, other_covers}
use Rattle.xml_tokens.specs.readers.Literals.{greater, cdata_end}
use Rattle.xml_markup.specs.readers.Literals.{comment_start, dashes, cdata_start, pi_start, pi_end, bang_bracket}
use Rattle.xml_tokens.specs.declared.fault_kind.FaultKind.{FaultKind}
use Rattle.xml_tokens.specs.Values.{normalize_line_ends}
use Rattle.tree_text.specs.ContentPieces.{Markup, Reference, Section, Comment, Instruction, Inner}
use Rattle.xml_tokens.specs.Tokens.{is_raw_char}
use Rattle.tree_text.specs.Grammar.{markup}
use Rattle.xml_markup.specs.Grammar.{comment, cdata_section, is_pi_target, pi_rest, processing_instruction}
use Rattle.tree_text.specs.readers.Texts.{read_markup}
use Rattle.xml_markup.specs.readers.Markup.{read_comment, read_cdata_section, read_pi_rest, read_processing_instruction}
use Rattle.xml_tokens.proofs.NameFronts.{NoName, space_no_name}
use Rattle.tree_text.proofs.ReadParts.{NoSpace, exact_name, closed_reference, starts_reference, same, apart}

pub some_dashes : 0 < length dashes
some_dashes = omega arith

pub some_section_end : 0 < length cdata_end
some_section_end = omega arith

some_instruction_end : 0 < length pi_end
some_instruction_end = omega arith

-- the characters of these words are Chars, and raw
pub dashes_chars : AllPass is_char dashes
dashes_chars = (refl, (refl, tt))

section_chars : AllPass is_char cdata_end
section_chars = (refl, (refl, (refl, tt)))

pub section_raw : AllPass is_raw_char cdata_end
section_raw = (refl, (refl, (refl, tt)))

instruction_chars : AllPass is_char pi_end
instruction_chars = (refl, (refl, tt))

module _ (faults : FaultRanking FaultKind) where
  -- # Comments, sections and instructions are closed

  pub closed_comment : Exact faults comment (λ _. anything) read_comment
  closed_comment = exact_valued normalize_line_ends (exact_behind exact_word (exact_before (exact_up_to dashes some_dashes dashes_chars) (λ _. exact_word)))

  pub lawful_comment : Lawful comment
  lawful_comment = lawful_valued normalize_line_ends (lawful_behind (lawful_word comment_start) (lawful_before (lawful_up_to dashes) (lawful_word greater)))

  pub led_comment : Led (60 ∷ 33 ∷ []) (λ c. c ≡ 45) comment
  led_comment = led_valued normalize_line_ends (led_behind _ (led_word (60 ∷ 33 ∷ []) 45 (45 ∷ []) refl))

  pub closed_section : Exact faults cdata_section (λ _. anything) read_cdata_section
  closed_section = exact_valued normalize_line_ends (exact_behind exact_word (exact_up_to cdata_end some_section_end section_chars))

  pub lawful_section : Lawful cdata_section
  lawful_section = lawful_valued normalize_line_ends (lawful_behind (lawful_word cdata_start) (lawful_up_to cdata_end))

  pub led_section : Led (60 ∷ 33 ∷ []) (λ c. c ≡ 91) cdata_section
  led_section = led_valued normalize_line_ends (led_behind _ (led_word (60 ∷ 33 ∷ []) 91 (67 ∷ 68 ∷ 65 ∷ 84 ∷ 65 ∷ 91 ∷ []) refl))

  closed_instructed : Exact faults pi_rest (λ _. anything) read_pi_rest
  closed_instructed = exact_either_head is_space (starts_valued _ (starts_behind _ (starts_one {P = λ c. is_space c ≡ true} (λ c h. h)))) (λ c h. h)
      (heads_starts (starts_word {P = NoSpace} refl)) (λ c s n. absurd cc)
      (exact_valued (λ _. tt) (exact_behind exact_one (exact_up_to pi_end some_instruction_end instruction_chars)))
      exact_word

  starts_instructed : Starts NoName pi_rest
  starts_instructed = starts_either (starts_valued _ (starts_behind _ (starts_one space_no_name))) (starts_word refl)

  lawful_instructed : Lawful pi_rest
  lawful_instructed = lawful_either (lawful_valued _ (lawful_behind lawful_one (lawful_up_to pi_end))) (lawful_word pi_end)

  pub closed_instruction : Exact faults processing_instruction (λ _. anything) read_processing_instruction
  closed_instruction = exact_behind exact_word (exact_behind
      (exact_only is_pi_target is_name_char lawful_name_of (λ _. heads_starts starts_instructed) (exact_name_of (λ _. heads_unless)) (exact_name faults (heads_starts starts_instructed)))
      closed_instructed)

  pub lawful_instruction : Lawful processing_instruction
  lawful_instruction = lawful_behind (lawful_word pi_start) (lawful_behind (lawful_only is_pi_target lawful_name_of) lawful_instructed)

  pub led_instruction : Led (60 ∷ []) (λ c. c ≡ 63) processing_instruction
  led_instruction = led_behind _ (led_word (60 ∷ []) 63 [] refl)

  -- # Content

  -- `<`, and `!`
  pub led_bang_comment : Led (60 ∷ []) (λ c. c ≡ 33) comment
  led_bang_comment = led_shorter (60 ∷ []) 33 led_comment

  led_bang_section : Led (60 ∷ []) (λ c. c ≡ 33) cdata_section
  led_bang_section = led_shorter (60 ∷ []) 33 led_section

  module _ (inner : Rule FaultKind Tree) (led : Led (60 ∷ []) (λ c. is_name_start c ≡ true) inner) (lawful : Lawful inner) (p : Reader FaultKind Tree) (exact : Exact faults inner (λ _. anything) p) where
    -- `<`, and no `!`
    led_others : Led (60 ∷ []) (λ c. (c == 33) ≡ false) (either (map_rule (λ _. Instruction) processing_instruction) (map_rule Inner inner))
    led_others = led_either (led_valued _ (led_weaker (λ c e. grind (arith, nat_tests)) led_instruction)) (led_valued Inner (led_weaker (λ c t. grind (arith, nat_tests)) led))

    closed_others : Exact faults (either (map_rule (λ _. Instruction) processing_instruction) (map_rule Inner inner)) (λ _. anything) (read_either (starts_with_word pi_start) (read_mapped (λ _. Instruction) read_processing_instruction) (read_mapped Inner p))
    closed_others = exact_either_next (60 ∷ []) 63 (led_valued _ led_instruction) (led_valued Inner led) (λ f. absurd cc) (exact_valued (λ _. Instruction) closed_instruction) (exact_valued Inner exact)

    abbrev Others : Rule FaultKind Markup
    Others = either (map_rule (λ _. Instruction) processing_instruction) (map_rule Inner inner)

    abbrev Noted : Rule FaultKind Markup
    Noted = either (map_rule Comment comment) Others

    abbrev Bracketed : Rule FaultKind Markup
    Bracketed = either (map_rule Section cdata_section) Noted

    -- where `<![` comes, only a section can be there
    bracket_covers : (text : List ℕ) → starts_with_word bang_bracket text ≡ true → Covers faults text (ahead Noted (λ _. anything)) (ahead (map_rule Section cdata_section) (λ _. anything))
    bracket_covers text t =
        let n = next_true (60 ∷ 33 ∷ []) 91 text t in
        covers_either
        (next_covers (60 ∷ 33 ∷ []) 91 (led_valued Comment led_comment) (led_valued Section led_section) (λ e. absurd (omega (arith, e))) t)
        (led_covers led_others (led_valued Section led_bang_section) (λ d x j f. absurd (let e = next_is (60 ∷ []) 33 (91 ∷ n.0) d x n.1 j in grind (arith, nat_tests))))

    no_bracket_covers : (text : List ℕ) → starts_with_word bang_bracket text ≡ false → Covers faults text (ahead (map_rule Section cdata_section) (λ _. anything)) (ahead Noted (λ _. anything))
    no_bracket_covers text f = covered_first Others (λ _. anything) (other_covers (60 ∷ 33 ∷ []) 91 (led_valued Section led_section) (led_valued Comment led_comment) f)

    pub led_markup : Led (60 ∷ []) (λ c. (c == 47) ≡ false) Bracketed
    led_markup = led_either (led_valued Section (led_weaker (λ c e. grind (arith, nat_tests)) led_bang_section)) (led_either (led_valued Comment (led_weaker (λ c e. grind (arith, nat_tests)) led_bang_comment)) (led_either (led_valued _ (led_weaker (λ c e. grind (arith, nat_tests)) led_instruction)) (led_valued Inner (led_weaker (λ c t. grind (arith, nat_tests)) led))))

    pub closed_markup : Exact faults (markup inner) (λ _. anything) (read_markup p)
    closed_markup = exact_either_head (λ c. c == 38) (starts_valued Reference (starts_reference faults {P = λ c. c ≡ 38} refl)) (same 38) (heads_starts (starts_led refl led_markup)) (apart 38)
        (exact_valued Reference (closed_reference faults))
        (exact_either (starts_with_word bang_bracket) (exact_valued Section closed_section)
        (exact_either_next (60 ∷ []) 33 (led_valued Comment led_bang_comment) led_others (λ f. absurd cc) (exact_valued Comment closed_comment) closed_others)
        bracket_covers no_bracket_covers)

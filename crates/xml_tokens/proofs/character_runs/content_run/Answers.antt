use Rattle.std.proofs.Common.{◌≡◌, ◌++◌, ℕ, List, chars, refl, sym, ap, ◌∙◌}
use Rattle.xml_grammar.specs.readers.RuleReaders.{take_while_without, drop_while_without}
use Rattle.xml_tokens.specs.Tokens.{is_raw_char}
use Rattle.xml_tokens.specs.readers.Literals.{cdata_end}
use Rattle.xml_tokens.proofs.RunLemmas.{without_whole}
use Rattle.xml_tokens.proofs.TextBytes.{front_by_rest}
use Rattle.xml_tokens.proofs.character_runs.content_run.Goals as goal

-- the text, with the rest as the code has it
whole : (text rest : List ℕ) → rest ≡ drop_while_without is_raw_char cdata_end text → text ≡ take_while_without is_raw_char cdata_end text ++ rest
whole text rest is = without_whole is_raw_char cdata_end text ∙ ap (λ (z : List ℕ). take_while_without is_raw_char cdata_end text ++ z) (sym is)

pub text_before-requires : goal.text_before-requires
text_before-requires c = (take_while_without is_raw_char cdata_end (chars c.args.text.now), whole (chars c.args.text.now) (chars c.skip_raw-rest.result.now) c.skip_raw-rest.ensures.exact)

pub returns : goal.returns
returns c =
    let text = chars c.args.text.now in
    let rest = chars c.skip_raw-rest.result.now in
    let left = c.skip_raw-rest.ensures.exact in
    let front = front_by_rest text (chars c.text_before.result.now) (take_while_without is_raw_char cdata_end text) rest c.text_before.ensures.parts_of_text (whole text rest left) in
    record { reads_rule = rw (front, left) refl }

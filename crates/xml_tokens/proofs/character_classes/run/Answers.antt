use Rattle.std.proofs.Common.{◌≡◌, ◌++◌, ℕ, Bool, List, chars, sym, ap, ◌∙◌}
use Rattle.xml_grammar.specs.TextReading.{take_while, drop_while}
use Rattle.xml_tokens.specs.readers.Classes.{class_contains}
use Rattle.xml_tokens.proofs.TextBytes.{front_whole, front_by_rest}
use Rattle.xml_tokens.proofs.character_classes.run.Goals as goal

-- the text, with the rest as the code has it
whole : (p : ℕ → Bool) (text rest : List ℕ) → rest ≡ drop_while p text → text ≡ take_while p text ++ rest
whole p text rest is = front_whole p text ∙ ap (λ (z : List ℕ). take_while p text ++ z) (sym is)

pub text_before-requires : goal.text_before-requires
text_before-requires c = (take_while (class_contains c.args.class) (chars c.args.text.now), whole (class_contains c.args.class) (chars c.args.text.now) (chars c.skip_class-rest.result.now) c.skip_class-rest.ensures.exact)

pub returns-clause-front_of_run : goal.returns-clause-front_of_run
returns-clause-front_of_run c =
    let p = class_contains c.args.class in
    let text = chars c.args.text.now in
    let rest = chars c.skip_class-rest.result.now in
    front_by_rest text (chars c.text_before.result.now) (take_while p text) rest c.text_before.ensures.parts_of_text (whole p text rest c.skip_class-rest.ensures.exact)

use Rattle.std.proofs.Common.{◌≡◌, ℕ, true, chars, refl, sym}
use Rattle.std.specs.Char.{is_ascii_alphabetic}
use Rattle.xml_tokens.specs.Tokens.{is_encoding_char}
use Rattle.xml_tokens.proofs.FirstRuns.{run_read, run_unread}
use Rattle.xml_markup.proofs.xml_declaration.encoding_name.Goals as goal

letter_in_encoding : (c : ℕ) → is_ascii_alphabetic c ≡ true → is_encoding_char c ≡ true
letter_in_encoding c h = rw h refl

pub returns-then-not-starts_with_letter : goal.returns-then-not-starts_with_letter
returns-then-not-starts_with_letter c = record { reads_rule = run_unread is_ascii_alphabetic is_encoding_char (chars c.args.text.now) (sym c.if-not-starts_with_letter.ensures.exact) }

pub returns : goal.returns
returns c = record { reads_rule = rw (c.run.ensures.front_of_run, c.run.ensures.rest_after_run) (run_read is_ascii_alphabetic is_encoding_char letter_in_encoding (chars c.args.text.now) (sym c.if-not-starts_with_letter.ensures.exact)) }

use Rattle.std.proofs.Common.{sym, ◌∙◌}
use Rattle.xcap_uri.proofs.DigitByDigit.{numeral_is}
use Rattle.xcap_uri.proofs.numerals.parse_numeral.Goals as goal

pub returns : goal.returns
returns c = record { exact = c.parse_digits.ensures.exact ∙ numeral_is c.args.octets.now (sym c.if-not-begins_with_digit.ensures.exact) }

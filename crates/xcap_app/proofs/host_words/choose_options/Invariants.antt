use Rattle.std.proofs.Common.{◌≡◌, length, map}
use Rattle.std.specs.Prelude.{string_bytes}
use Rattle.xcap_app.specs.HostWords.{choices_of_words, no_choices}
use Rattle.xcap_app.proofs.host_words.choose_options.Given as goal

abbrev pub invariant-words : goal.invariant-words
invariant-words l = choices_of_words l.choices (map string_bytes l.rest) ≡ choices_of_words no_choices (map string_bytes l.fn.words)

abbrev pub decreases-words : goal.decreases-words
decreases-words l = length l.rest

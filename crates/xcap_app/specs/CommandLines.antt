-- What the words of a command line spell. The commands are the project's own.
use Rattle.std.specs.Prelude.{ℕ, List, [], ◌∷◌, codes, Option, None, Some, if◌then◌else◌}
use Rattle.std.specs.Option.{option_map_or}
use Rattle.std.specs.Str.{bytes_eq}
use Rattle.xcap_app.specs.Commands.{parse_command}
use Rattle.xcap_app.specs.HostWords.{host_of_words}
use Rattle.xcap_app.specs.declared.command_line.CommandLine.{CommandLine}
use Rattle.xcap_app.specs.declared.command_line.CommandLine.TheVariants.{Runs, NoCommand}

-- the words after the first, where that is `host`
abbrev pub words_after_host : List (List ℕ) → Option (List (List ℕ))
words_after_host [] = None
words_after_host (name ∷ words) = if bytes_eq name (codes "host") then Some words else None

-- the command of words of which the first isn't `host`
abbrev pub other_command : List (List ℕ) → CommandLine
other_command words = option_map_or (λ command. Runs command) (parse_command words) NoCommand

-- what words spell
abbrev pub parse_words : List (List ℕ) → CommandLine
parse_words words =
    option_map_or host_of_words (words_after_host words) (other_command words)

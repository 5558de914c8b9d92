-- Which words spell the command `host`, and why others don't. The command is the project's own; a
-- ROOT follows RFC 4825, section 6.1.
use Rattle.std.specs.Prelude.{ℕ, ◌==◌, List, [], ◌∷◌, ◌++◌, chars, codes, encode_utf8_all, length}
use Rattle.std.specs.Prelude.{Option, None, Some, Result, Ok, Err, if◌then◌else◌}
use Rattle.std.specs.Prelude.{option_and_then, option_map, unwrap_or}
use Rattle.std.specs.Option.{option_map_or}
use Rattle.std.specs.Str.{bytes_eq}
use Rattle.store_core.specs.State.{default_limits}
use Rattle.store_core.specs.declared.limits.TheConstants.{MAX_BYTE_LIMIT, MAX_DOCUMENT_LIMIT}
use Rattle.xcap_uri.specs.Delimiters.{front_before, rest_after}
use Rattle.xcap_uri.specs.Roots.{root_of}
use Rattle.xcap_app.specs.ClientArguments.{numeral_up_to}
use Rattle.xcap_app.specs.declared.command.Command.TheVariants.{Host}
use Rattle.xcap_app.specs.declared.command_line.CommandLine.{CommandLine}
use Rattle.xcap_app.specs.declared.command_line.CommandLine.TheVariants.{Runs, BadHost}
use Rattle.xcap_app.specs.declared.host_options.HostFault.{HostFault}
use Rattle.xcap_app.specs.declared.host_options.HostFault.TheVariants.{Missing, BadWord}
use Rattle.xcap_app.specs.declared.host_options.HostOptions.{HostOptions}
use Rattle.xcap_app.specs.declared.host_words.HostChoices.{HostChoices}
use Rattle.xcap_app.specs.declared.host_words.TheConstants.{DEFAULT_CONNECTIONS, MAX_CONNECTIONS}

-- ---- the options

-- no word has chosen an option
abbrev pub no_choices : HostChoices
no_choices =
    record {
      connections = None;
      documents = None;
      bytes = None;
      home_documents = None;
      home_bytes = None;
    }

-- the value of an option, where no word chose one before
abbrev pub choose_once : {A : Type 0} → Option A → Option A → Option A
choose_once None value = value
choose_once (Some before) value = None

-- `connections=N`, where N is a numeral of at most `MAX_CONNECTIONS`
abbrev pub with_connections : HostChoices → List ℕ → Option HostChoices
with_connections choices value =
    option_map (λ n. record choices { connections = Some n })
    (choose_once choices.connections (numeral_up_to MAX_CONNECTIONS value))

-- `documents=N`, where N is a numeral of at most `MAX_DOCUMENT_LIMIT`
abbrev pub with_documents : HostChoices → List ℕ → Option HostChoices
with_documents choices value =
    option_map (λ n. record choices { documents = Some n })
    (choose_once choices.documents (numeral_up_to MAX_DOCUMENT_LIMIT value))

-- `bytes=N`, where N is a numeral of at most `MAX_BYTE_LIMIT`
abbrev pub with_bytes : HostChoices → List ℕ → Option HostChoices
with_bytes choices value =
    option_map (λ n. record choices { bytes = Some n })
    (choose_once choices.bytes (numeral_up_to MAX_BYTE_LIMIT value))

-- `home-documents=N`, likewise
abbrev pub with_home_documents : HostChoices → List ℕ → Option HostChoices
with_home_documents choices value =
    option_map (λ n. record choices { home_documents = Some n })
    (choose_once choices.home_documents (numeral_up_to MAX_DOCUMENT_LIMIT value))

-- `home-bytes=N`, likewise
abbrev pub with_home_bytes : HostChoices → List ℕ → Option HostChoices
with_home_bytes choices value =
    option_map (λ n. record choices { home_bytes = Some n })
    (choose_once choices.home_bytes (numeral_up_to MAX_BYTE_LIMIT value))

-- the option of this name
unfoldable pub with_value : HostChoices → List ℕ → List ℕ → Option HostChoices
with_value choices name value =
    if bytes_eq name (codes "connections") then with_connections choices value
    else if bytes_eq name (codes "documents") then with_documents choices value
    else if bytes_eq name (codes "bytes") then with_bytes choices value
    else if bytes_eq name (codes "home-documents") then with_home_documents choices value
    else if bytes_eq name (codes "home-bytes") then with_home_bytes choices value
    else None

-- `NAME=VALUE`, where NAME is what comes before the first `=` (61)
abbrev pub with_word : HostChoices → List ℕ → Option HostChoices
with_word choices word =
    option_and_then (λ value. with_value choices (front_before 61 word) value) (rest_after 61 word)

-- the choices of all these words, or the first of them that is no option or chooses one again
abbrev pub choices_of_words : HostChoices → List (List ℕ) → Result HostChoices (List ℕ)
choices_of_words choices [] = Ok choices
choices_of_words choices (word ∷ words) =
    option_map_or (λ more. choices_of_words more words) (with_word choices word) (Err word)

-- the options, with the usual value where no word chose one; a home has no usual limits
abbrev pub options_of_choices : HostChoices → HostOptions
options_of_choices choices =
    record {
      connections = unwrap_or choices.connections DEFAULT_CONNECTIONS;
      limits = record {
        documents = unwrap_or choices.documents default_limits.documents;
        bytes = unwrap_or choices.bytes default_limits.bytes;
        home_documents = choices.home_documents;
        home_bytes = choices.home_bytes;
      };
    }

-- ---- the command

-- this word is wrong
abbrev pub bad_word : List ℕ → CommandLine
bad_word word = BadHost (BadWord (chars word))

-- `ADDR ROOT` and options
abbrev pub host_of_choices : List ℕ → List ℕ → Result HostChoices (List ℕ) → CommandLine
host_of_choices address root (Ok choices) =
    Runs (Host (chars address) root (options_of_choices choices))
host_of_choices address root (Err word) = bad_word word

-- ROOT is a root
abbrev pub host_of_root : List ℕ → List ℕ → List (List ℕ) → CommandLine
host_of_root address root words =
    option_map_or (λ r. host_of_choices address r (choices_of_words no_choices words))
    (root_of root) (bad_word root)

-- `ADDR ROOT [NAME=VALUE ..]`, where ADDR is any word of one or more octets: the command, or the
-- first word that is wrong
abbrev pub host_of_words : List (List ℕ) → CommandLine
host_of_words (address ∷ root ∷ words) =
    if length address == 0 then bad_word address else host_of_root address root words
host_of_words _ = BadHost Missing

-- ---- the messages

unfoldable pub host_usage : List ℕ
host_usage =
    codes "usage: xcapd host ADDR ROOT [connections=N] [documents=N] [bytes=N] [home-documents=N] [home-bytes=N]\n"

abbrev pub bad_word_message : List ℕ → List ℕ
bad_word_message word = codes "host: bad word: " ++ (word ++ codes "\n")

-- why words after `host` spell no command, on one line
abbrev pub host_message : HostFault → List ℕ
host_message Missing = host_usage
host_message (BadWord word) = bad_word_message (encode_utf8_all word)

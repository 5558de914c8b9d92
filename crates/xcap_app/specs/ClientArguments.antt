-- Which words spell a command of the client. The commands are the project's own; a ROOT follows
-- RFC 4825, section 6.1.
use Rattle.std.specs.Prelude.{ℕ, Bool, ◌&&◌, ◌==◌, not, nat_le, List, chars, codes, encode_utf8_all}
use Rattle.std.specs.Prelude.{length, Option, None, Some, if◌then◌else◌, option_and_then}
use Rattle.std.specs.Prelude.{option_map}
use Rattle.std.specs.List.{list_all}
use Rattle.std.specs.Str.{bytes_eq}
use Rattle.xcap_uri.specs.Delimiters.{front_before}
use Rattle.xcap_uri.specs.Numerals.{numeral_of}
use Rattle.xcap_uri.specs.Roots.{root_of}
use Rattle.client_commands.specs.declared.requester.Requester.{Requester}
use Rattle.xcap_app.specs.declared.client_arguments.TheConstants.{MAX_ROUNDS}
use Rattle.xcap_app.specs.declared.command.Command.{Command}
use Rattle.xcap_app.specs.declared.command.Command.TheVariants.{Fetch, Put, Delete, Follow}

-- a visible character of ASCII, from `!` (33) to `~` (126)
abbrev pub is_word_octet : ℕ → Bool
is_word_octet b = nat_le 33 b && nat_le b 126

-- USER, PATH, TYPE and DOCUMENT: one or more such characters
abbrev pub is_word : List ℕ → Bool
is_word word = not (length word == 0) && list_all is_word_octet word

-- such a word, as a text
abbrev pub word_text : List ℕ → Option (List ℕ)
word_text word = if is_word word then Some (chars word) else None

-- USER, where `-` is none
abbrev pub parse_user : List ℕ → Option (List ℕ)
parse_user word = if bytes_eq word (codes "-") then None else Some (chars word)

-- the scheme of a root, the text before its first colon (58), is `http`
abbrev pub has_scheme_http : List ℕ → Bool
has_scheme_http root = bytes_eq (front_before 58 (encode_utf8_all root)) (codes "http")

-- ROOT, where its scheme is `http`
abbrev pub parse_http_root : List ℕ → Option (List ℕ)
parse_http_root word =
    option_and_then (λ r. if has_scheme_http r then Some r else None) (root_of word)

-- `USER ROOT`
abbrev pub parse_requester : List ℕ → List ℕ → Option Requester
parse_requester user root =
    if is_word user
    then option_map (λ r. record { user = parse_user user; root = r }) (parse_http_root root)
    else None

-- a numeral of at most this number
unfoldable pub numeral_up_to : ℕ → List ℕ → Option ℕ
numeral_up_to most word =
    option_and_then (λ n. if nat_le n most then Some n else None) (numeral_of word)

-- `USER ROOT` and a word after them
abbrev pub parse_requester_and_word : List ℕ → List ℕ → List ℕ → Option (Requester × List ℕ)
parse_requester_and_word user root word =
    option_and_then (λ w. option_map (λ requester. (requester, w)) (parse_requester user root))
    (word_text word)

-- `fetch USER ROOT PATH`
abbrev pub parse_fetch : List ℕ → List ℕ → List ℕ → Option Command
parse_fetch user root path =
    option_map (λ asked. Fetch asked.0 asked.1) (parse_requester_and_word user root path)

-- `delete USER ROOT PATH`
abbrev pub parse_delete : List ℕ → List ℕ → List ℕ → Option Command
parse_delete user root path =
    option_map (λ asked. Delete asked.0 asked.1) (parse_requester_and_word user root path)

-- `put USER ROOT PATH TYPE`
abbrev pub parse_put : List ℕ → List ℕ → List ℕ → List ℕ → Option Command
parse_put user root path media =
    option_and_then
    (λ m. option_map (λ asked. Put asked.0 asked.1 m) (parse_requester_and_word user root path))
    (word_text media)

-- `follow USER ROOT DOCUMENT ROUNDS`, where ROUNDS is a numeral of at most `MAX_ROUNDS`
abbrev pub parse_follow : List ℕ → List ℕ → List ℕ → List ℕ → Option Command
parse_follow user root document rounds =
    option_and_then
    (λ n. option_map (λ asked. Follow asked.0 asked.1 n)
    (parse_requester_and_word user root document))
    (numeral_up_to MAX_ROUNDS rounds)

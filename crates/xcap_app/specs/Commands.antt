-- Which words spell which command. The commands are the project's own; a ROOT follows RFC 4825,
-- section 6.1.
use Rattle.std.specs.Prelude.{ℕ, List, [], ◌∷◌, chars, codes, Option, None, Some, if◌then◌else◌}
use Rattle.std.specs.Prelude.{option_and_then, option_map}
use Rattle.std.specs.Str.{bytes_eq}
use Rattle.doc_names.specs.Usages.{auid_text}
use Rattle.doc_names.specs.declared.doc_id.Auid.TheVariants as auids
use Rattle.doc_names.specs.declared.usages.Usage.{Usage}
use Rattle.doc_names.specs.declared.usages.Usage.TheVariants.{ResourceLists, RlsServices}
use Rattle.xcap_uri.specs.Roots.{root_of}
use Rattle.xcap_app.specs.ClientArguments.{parse_delete, parse_fetch, parse_follow, numeral_up_to}
use Rattle.xcap_app.specs.ClientArguments.{parse_put}
use Rattle.xcap_app.specs.declared.command.Command.{Command}
use Rattle.xcap_app.specs.declared.command.Command.TheVariants.{Replay, Serve, Keep, Check, Sample}
use Rattle.xcap_app.specs.declared.arguments.ServiceOptions.{ServiceOptions}
use Rattle.xcap_app.specs.declared.arguments.TheConstants.{MAX_COUNT, MAX_SAMPLE}

-- AUID: the usage that a word names
unfoldable pub usage_named : List ℕ → Option Usage
usage_named word =
    if bytes_eq word (auid_text auids.ResourceLists) then Some ResourceLists
    else if bytes_eq word (auid_text auids.RlsServices) then Some RlsServices
    else None

-- `ADDR ROOT COUNT`: ADDR is any word of one or more octets, ROOT a root, and COUNT a numeral of
-- at most `MAX_COUNT`
abbrev pub service_of_words : List ℕ → List ℕ → List ℕ → Option ServiceOptions
service_of_words [] root count = None
service_of_words (c ∷ cs) root count =
    option_and_then (λ r.
    option_map (λ n. record { address = chars (c ∷ cs); root = r; count = n })
    (numeral_up_to MAX_COUNT count))
    (root_of root)

-- `replay ROOT`, `check AUID`, or `sample N`, where N is a numeral of at most `MAX_SAMPLE`
unfoldable pub parse_two_words : List ℕ → List ℕ → Option Command
parse_two_words name word =
    if bytes_eq name (codes "replay") then option_map (λ r. Replay r) (root_of word)
    else if bytes_eq name (codes "check") then option_map (λ usage. Check usage) (usage_named word)
    else if bytes_eq name (codes "sample")
    then option_map (λ n. Sample n) (numeral_up_to MAX_SAMPLE word)
    else None

-- `serve ADDR ROOT COUNT`, `keep ADDR ROOT COUNT`, `fetch USER ROOT PATH` or `delete USER ROOT
-- PATH`
unfoldable pub parse_four_words : List ℕ → List ℕ → List ℕ → List ℕ → Option Command
parse_four_words name first root last =
    if bytes_eq name (codes "serve")
    then option_map (λ s. Serve s.address s.root s.count) (service_of_words first root last)
    else if bytes_eq name (codes "keep")
    then option_map (λ s. Keep s.address s.root s.count) (service_of_words first root last)
    else if bytes_eq name (codes "fetch") then parse_fetch first root last
    else if bytes_eq name (codes "delete") then parse_delete first root last
    else None

-- `put USER ROOT PATH TYPE`, or `follow USER ROOT DOCUMENT ROUNDS`
unfoldable pub parse_five_words : List ℕ → List ℕ → List ℕ → List ℕ → List ℕ → Option Command
parse_five_words name user root path last =
    if bytes_eq name (codes "put") then parse_put user root path last
    else if bytes_eq name (codes "follow") then parse_follow user root path last
    else None

-- the command that words spell, if they spell one
abbrev pub parse_command : List (List ℕ) → Option Command
parse_command (name ∷ word ∷ []) = parse_two_words name word
parse_command (name ∷ first ∷ root ∷ last ∷ []) = parse_four_words name first root last
parse_command (name ∷ user ∷ root ∷ path ∷ last ∷ []) = parse_five_words name user root path last
parse_command _ = None

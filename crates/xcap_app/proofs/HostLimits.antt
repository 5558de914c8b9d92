-- The limits that the words of `host` give can be counted by a store.
use Rattle.std.proofs.Common.{◌≡◌, ℕ, ◌≤◌, ◌==◌, Bool, true, false, List, [], ◌∷◌, length, Option, None, Some, Result, Ok, Err, IfSome, IfOk, refl, sym, subst, arith, cond, option_map, option_and_then, unwrap_or, codes, bytes_eq, nat_le}
use Rattle.std.specs.Option.{option_map_or}
use Rattle.std.proofs.lemmas.Bool.Decides.{nat_tests}
use Rattle.xcap_uri.specs.Delimiters.{front_before, rest_after}
use Rattle.xcap_uri.specs.Numerals.{numeral_of}
use Rattle.xcap_uri.specs.Roots.{root_of}
use Rattle.store_core.specs.ValidStates.{AreCountable}
use Rattle.xcap_app.specs.ClientArguments.{numeral_up_to, parse_delete, parse_fetch, parse_follow, parse_put, parse_requester_and_word}
use Rattle.xcap_app.specs.CommandLines.{other_command, parse_words, words_after_host}
use Rattle.xcap_app.specs.Commands.{parse_command, parse_five_words, parse_four_words, parse_two_words, service_of_words, usage_named}
use Rattle.xcap_app.specs.HostWords.{bad_word, choices_of_words, choose_once, host_of_choices, host_of_root, host_of_words, no_choices, with_bytes, with_connections, with_documents, with_home_bytes, with_home_documents, with_value, with_word}
use Rattle.xcap_app.specs.declared.arguments.TheConstants.{MAX_SAMPLE}
use Rattle.xcap_app.specs.declared.command.Command.{Command}
use Rattle.xcap_app.specs.declared.command.Command.TheVariants.{Replay, Serve, Keep, Host, Check, Sample, Fetch, Put, Delete, Follow}
use Rattle.xcap_app.specs.declared.command_line.CommandLine.{CommandLine}
use Rattle.xcap_app.specs.declared.command_line.CommandLine.TheVariants.{Runs, NoCommand}
use Rattle.xcap_app.specs.declared.host_options.HostOptions.{HostOptions}
use Rattle.xcap_app.specs.declared.host_words.HostChoices.{HostChoices}

-- ---- what holds of the value of an option, if it has one

module _ {A : Type 0} (P : A → Type 0) where
  either : (b : Bool) (x y : Option A) → IfSome x P → IfSome y P → IfSome (cond b x y) P
  either true x y p q = p
  either false x y p q = q

  once : (before value : Option A) → IfSome value P → IfSome (choose_once before value) P
  once None value p = p
  once (Some x) value p = tt

  mapped : {B : Type 0} (f : B → A) (o : Option B) (Q : B → Type 0) → ((x : B) → Q x → P (f x)) → IfSome o Q → IfSome (option_map f o) P
  mapped f None Q g p = tt
  mapped f (Some x) Q g p = g x p

  always : {B : Type 0} (f : B → A) (o : Option B) → ((x : B) → P (f x)) → IfSome (option_map f o) P
  always f None g = tt
  always f (Some x) g = g x

  then : {B : Type 0} (f : B → Option A) (o : Option B) → ((x : B) → IfSome (f x) P) → IfSome (option_and_then f o) P
  then f None g = tt
  then f (Some x) g = g x

-- ---- the choices

numeral_small : (most : ℕ) (word : List ℕ) → IfSome (numeral_up_to most word) (λ n. n ≤ most)
unfolding numeral_up_to
numeral_small most word = then (λ n. n ≤ most) (λ n. cond (nat_le n most) (Some n) None) (numeral_of word) small
  where
    small : (n : ℕ) → IfSome (cond (nat_le n most) (Some n) None) (λ n. n ≤ most)
    small n = by (nat_le n most) refl
      where
        by : (b : Bool) → nat_le n most ≡ b → IfSome (cond b (Some n) None) (λ n. n ≤ most)
        by true is = grind (arith, nat_tests)
        by false is = tt

-- the documents and the bytes that were chosen can be counted
record AreCounted (choices : HostChoices) : Type 0 where
  documents : IfSome choices.documents (λ n. n ≤ 4294967296)
  bytes : IfSome choices.bytes (λ n. n ≤ 1152921504606846976)

with_countable : (choices : HostChoices) (name value : List ℕ) → AreCounted choices → IfSome (with_value choices name value) AreCounted
unfolding with_value
with_countable choices name value p =
    either AreCounted (bytes_eq name (codes "connections")) _ _ connections
    (either AreCounted (bytes_eq name (codes "documents")) _ _ documents
    (either AreCounted (bytes_eq name (codes "bytes")) _ _ bytes
    (either AreCounted (bytes_eq name (codes "home-documents")) _ _ home_documents
    (either AreCounted (bytes_eq name (codes "home-bytes")) _ _ home_bytes tt))))
  where
    connections : IfSome (with_connections choices value) AreCounted
    connections = mapped AreCounted _ _ (λ n. n ≤ 65536) (λ n few. record { documents = p.documents; bytes = p.bytes }) (once (λ n. n ≤ 65536) choices.connections _ (numeral_small 65536 value))

    documents : IfSome (with_documents choices value) AreCounted
    documents = mapped AreCounted _ _ (λ n. n ≤ 4294967296) (λ n few. record { documents = few; bytes = p.bytes }) (once (λ n. n ≤ 4294967296) choices.documents _ (numeral_small 4294967296 value))

    bytes : IfSome (with_bytes choices value) AreCounted
    bytes = mapped AreCounted _ _ (λ n. n ≤ 1152921504606846976) (λ n few. record { documents = p.documents; bytes = few }) (once (λ n. n ≤ 1152921504606846976) choices.bytes _ (numeral_small 1152921504606846976 value))

    home_documents : IfSome (with_home_documents choices value) AreCounted
    home_documents = mapped AreCounted _ _ (λ n. n ≤ 4294967296) (λ n few. record { documents = p.documents; bytes = p.bytes }) (once (λ n. n ≤ 4294967296) choices.home_documents _ (numeral_small 4294967296 value))

    home_bytes : IfSome (with_home_bytes choices value) AreCounted
    home_bytes = mapped AreCounted _ _ (λ n. n ≤ 1152921504606846976) (λ n few. record { documents = p.documents; bytes = p.bytes }) (once (λ n. n ≤ 1152921504606846976) choices.home_bytes _ (numeral_small 1152921504606846976 value))

word_countable : (choices : HostChoices) (word : List ℕ) → AreCounted choices → IfSome (with_word choices word) AreCounted
word_countable choices word p = then AreCounted (λ value. with_value choices (front_before 61 word) value) (rest_after 61 word) (λ value. with_countable choices (front_before 61 word) value p)

choices_countable : (choices : HostChoices) (words : List (List ℕ)) → AreCounted choices → IfOk (choices_of_words choices words) AreCounted
choices_countable choices [] p = p
choices_countable choices (word ∷ words) p = by (with_word choices word) (word_countable choices word p) (λ more. choices_countable more words)
  where
    by : (o : Option HostChoices) → IfSome o AreCounted → ((more : HostChoices) → AreCounted more → IfOk (choices_of_words more words) AreCounted) → IfOk (option_map_or (λ more. choices_of_words more words) o (Err word)) AreCounted
    by None q later = tt
    by (Some more) q later = later more q

-- ---- the command

-- the limits of the command can be counted, if it is `host`
abbrev IsCountable : Command → Type 0
IsCountable (Host address root options) = AreCountable options.limits
IsCountable _ = Unit {0}

abbrev IsCountableLine : CommandLine → Type 0
IsCountableLine (Runs command) = IsCountable command
IsCountableLine _ = Unit {0}

at_most : (o : Option ℕ) (most usual : ℕ) → usual ≤ most → IfSome o (λ n. n ≤ most) → unwrap_or o usual ≤ most
at_most None most usual few p = few
at_most (Some n) most usual few p = p

host_countable : (words : List (List ℕ)) → IsCountableLine (host_of_words words)
host_countable [] = tt
host_countable (address ∷ []) = tt
host_countable (address ∷ root ∷ words) = empty (length address == 0)
  where
    chosen : (r : List ℕ) (made : Result HostChoices (List ℕ)) → IfOk made AreCounted → IsCountableLine (host_of_choices address r made)
    chosen r (Ok choices) p = (at_most choices.documents 4294967296 1000 (omega arith) p.documents, at_most choices.bytes 1152921504606846976 33554432 (omega arith) p.bytes)
    chosen r (Err word) p = tt

    rooted : (o : Option (List ℕ)) → IsCountableLine (option_map_or (λ r. host_of_choices address r (choices_of_words no_choices words)) o (bad_word root))
    rooted None = tt
    rooted (Some r) = chosen r (choices_of_words no_choices words) (choices_countable no_choices words (record { documents = tt; bytes = tt }))

    empty : (b : Bool) → IsCountableLine (cond b (bad_word address) (host_of_root address root words))
    empty true = tt
    empty false = rooted (root_of root)

serve_countable : (first root last : List ℕ) → IfSome (option_map (λ s. Serve s.address s.root s.count) (service_of_words first root last)) IsCountable
serve_countable first root last = always IsCountable (λ s. Serve s.address s.root s.count) (service_of_words first root last) (λ s. tt)

keep_countable : (first root last : List ℕ) → IfSome (option_map (λ s. Keep s.address s.root s.count) (service_of_words first root last)) IsCountable
keep_countable first root last = always IsCountable (λ s. Keep s.address s.root s.count) (service_of_words first root last) (λ s. tt)

fetch_countable : (first root last : List ℕ) → IfSome (parse_fetch first root last) IsCountable
fetch_countable first root last = always IsCountable (λ asked. Fetch asked.0 asked.1) (parse_requester_and_word first root last) (λ asked. tt)

delete_countable : (first root last : List ℕ) → IfSome (parse_delete first root last) IsCountable
delete_countable first root last = always IsCountable (λ asked. Delete asked.0 asked.1) (parse_requester_and_word first root last) (λ asked. tt)

put_countable : (user root path media : List ℕ) → IfSome (parse_put user root path media) IsCountable
put_countable user root path media = then IsCountable _ _ (λ m. always IsCountable (λ asked. Put asked.0 asked.1 m) (parse_requester_and_word user root path) (λ asked. tt))

follow_countable : (user root document rounds : List ℕ) → IfSome (parse_follow user root document rounds) IsCountable
follow_countable user root document rounds = then IsCountable _ _ (λ n. always IsCountable (λ asked. Follow asked.0 asked.1 n) (parse_requester_and_word user root document) (λ asked. tt))

replay_countable : (word : List ℕ) → IfSome (option_map (λ r. Replay r) (root_of word)) IsCountable
replay_countable word = always IsCountable (λ r. Replay r) (root_of word) (λ r. tt)

check_countable : (word : List ℕ) → IfSome (option_map (λ usage. Check usage) (usage_named word)) IsCountable
check_countable word = always IsCountable (λ usage. Check usage) (usage_named word) (λ usage. tt)

sample_countable : (word : List ℕ) → IfSome (option_map (λ n. Sample n) (numeral_up_to MAX_SAMPLE word)) IsCountable
sample_countable word = always IsCountable (λ n. Sample n) (numeral_up_to MAX_SAMPLE word) (λ n. tt)

two_words : (name word : List ℕ) → IfSome (parse_two_words name word) IsCountable
unfolding parse_two_words
two_words name word =
    either IsCountable (bytes_eq name (codes "replay")) _ _ (replay_countable word)
    (either IsCountable (bytes_eq name (codes "check")) _ _ (check_countable word)
    (either IsCountable (bytes_eq name (codes "sample")) _ _ (sample_countable word) tt))

four_words : (name first root last : List ℕ) → IfSome (parse_four_words name first root last) IsCountable
unfolding parse_four_words
four_words name first root last =
    either IsCountable (bytes_eq name (codes "serve")) _ _ (serve_countable first root last)
    (either IsCountable (bytes_eq name (codes "keep")) _ _ (keep_countable first root last)
    (either IsCountable (bytes_eq name (codes "fetch")) _ _ (fetch_countable first root last)
    (either IsCountable (bytes_eq name (codes "delete")) _ _ (delete_countable first root last) tt)))

five_words : (name user root path last : List ℕ) → IfSome (parse_five_words name user root path last) IsCountable
unfolding parse_five_words
five_words name user root path last =
    either IsCountable (bytes_eq name (codes "put")) _ _ (put_countable user root path last)
    (either IsCountable (bytes_eq name (codes "follow")) _ _ (follow_countable user root path last) tt)

other_countable : (words : List (List ℕ)) → IfSome (parse_command words) IsCountable
other_countable [] = tt
other_countable (a ∷ []) = tt
other_countable (a ∷ b ∷ []) = two_words a b
other_countable (a ∷ b ∷ c ∷ []) = tt
other_countable (a ∷ b ∷ c ∷ d ∷ []) = four_words a b c d
other_countable (a ∷ b ∷ c ∷ d ∷ e ∷ []) = five_words a b c d e
other_countable (a ∷ b ∷ c ∷ d ∷ e ∷ f ∷ rest) = tt

words_countable : (words : List (List ℕ)) → IsCountableLine (parse_words words)
words_countable words = by (words_after_host words)
  where
    other : (o : Option Command) → IfSome o IsCountable → IsCountableLine (option_map_or (λ command. Runs command) o NoCommand)
    other None p = tt
    other (Some command) p = p

    by : (o : Option (List (List ℕ))) → IsCountableLine (option_map_or host_of_words o (other_command words))
    by None = other (parse_command words) (other_countable words)
    by (Some later) = host_countable later

-- the limits of the command `host` that words spell can be counted
pub countable_host : (words : List (List ℕ)) (line : CommandLine) (address root : List ℕ) (options : HostOptions) → line ≡ parse_words words → line ≡ Runs (Host address root options) → AreCountable options.limits
countable_host words line address root options spelled is = subst IsCountableLine is (subst IsCountableLine (sym spelled) (words_countable words))

-- What the code finds next in the URI of an item.
use Rattle.std.specs.Prelude.{◌≡◌, ◌<◌, ◌≤◌, ℕ, ◌+◌, List, [], ◌++◌, length, Result, Ok, Err}
use Rattle.xml_names.specs.declared.names.Decl.{Decl}
use Rattle.xml_names.specs.declared.read_error.ReadError.TheVariants.{Fault}
use Rattle.xcap_uri.specs.readers.Steps.{UriError, ◌>>=◌}
use Rattle.xcap_uri.specs.readers.Queries.{ReadResult, parse_uri_chars, with_char}
use Rattle.xcap_uri.specs.declared.fault.UriFault.TheVariants.{BadQuery}
use Rattle.xcap_uri.specs.declared.query.UriStep.{UriStep}
use Rattle.xcap_uri.specs.declared.query.UriStep.TheVariants.{Ends, Goes, Breaks}
use Rattle.xcap_uri.specs.declared.query.Item.{Item}

abbrev pub StepsTo : UriStep → ReadResult (List ℕ) → Type 0
StepsTo (Ends rest) read = read ≡ Ok ([], rest.now)
StepsTo (Goes c open_count rest) read = read ≡ with_char c (parse_uri_chars open_count rest.now)
StepsTo Breaks read = read ≡ Err (Fault BadQuery)

-- what comes after a character is shorter, by at least the number of newly opened brackets
abbrev pub IsShorter : ℕ → List ℕ → UriStep → Type 0
IsShorter open_count text (Ends rest) = Unit {0}
IsShorter open_count text (Goes c more rest) =
    (length rest.now < length text) × (more + length rest.now ≤ open_count + length text)
IsShorter open_count text Breaks = Unit {0}

-- characters before those that are read
abbrev pub with_chars : List ℕ → ReadResult (List ℕ) → ReadResult (List ℕ)
with_chars front read = read >>= λ x. Ok (front ++ x.0, x.1)

-- the binding that the code has read, and what comes after it
abbrev pub item_view : Item → Decl × List ℕ
item_view item = (record { prefix = item.prefix; uri = item.uri }, item.rest.now)

-- bindings before those that are read
abbrev pub with_items : List Decl → Result (List Decl) UriError → Result (List Decl) UriError
with_items front read = read >>= λ items. Ok (front ++ items)

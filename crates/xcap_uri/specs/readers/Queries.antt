-- Queries read from left to right, as code and proofs read them. That the bindings are those of
-- the rules is a law (`queries_have_one_reading`).
use Rattle.std.specs.Prelude.{ℕ, zero, suc, ◌+◌, ◌-◌, Bool, ◌&&◌, ◌||◌, ◌==◌, List, [], ◌∷◌, codes}
use Rattle.std.specs.Prelude.{length, Option, None, Some, Result, Ok, Err, if◌then◌else◌}
use Rattle.std.specs.Str.{bytes_eq}
use Rattle.xml_grammar.specs.TextReading.{take_while, drop_while, first_char_is}
use Rattle.xml_names.specs.Characters.{is_name_start, is_name_char, is_space}
use Rattle.xml_names.specs.declared.names.Decl.{Decl}
use Rattle.xml_names.specs.declared.read_error.ReadError.TheVariants.{Fault}
use Rattle.xcap_uri.specs.Delimiters.{rest_after_front}
use Rattle.xcap_uri.specs.readers.Steps.{UriError, ◌>>=◌}
use Rattle.xcap_uri.specs.Queries.{is_bracket_or_caret, is_blank}
use Rattle.xcap_uri.specs.declared.fault.UriFault.TheVariants.{BadQuery}

-- a value, and what comes after it in the text
abbrev pub ReadResult : Type 0 → Type 0
ReadResult A = Result (A × List ℕ) UriError

-- a character before those that are read
abbrev pub with_char : ℕ → ReadResult (List ℕ) → ReadResult (List ℕ)
with_char c read = read >>= λ x. Ok (c ∷ x.0, x.1)

-- the characters up to the `)` that ends the item, where n earlier `(` are open
abbrev pub parse_uri_chars : ℕ → List ℕ → ReadResult (List ℕ)
parse_uri_chars open_count [] = Err (Fault BadQuery)
parse_uri_chars open_count (c ∷ []) =
    if c == 41 && open_count == 0 then Ok ([], []) else Err (Fault BadQuery)
parse_uri_chars open_count (c ∷ d ∷ rest) =
    if c == 94
    then (if is_bracket_or_caret d then with_char d (parse_uri_chars open_count rest)
    else Err (Fault BadQuery))
    else if c == 40 then with_char c (parse_uri_chars (open_count + 1) (d ∷ rest))
    else if c == 41
    then (if open_count == 0 then Ok ([], d ∷ rest)
    else with_char c (parse_uri_chars (open_count - 1) (d ∷ rest)))
    else with_char c (parse_uri_chars open_count (d ∷ rest))

-- at least one of them, and the `)` that ends the item
abbrev pub non_empty_uri : List ℕ × List ℕ → ReadResult (List ℕ)
non_empty_uri ([], rest) = Err (Fault BadQuery)
non_empty_uri (c ∷ cs, rest) = Ok (c ∷ cs, rest)

abbrev pub parsed_uri : List ℕ → ReadResult (List ℕ)
parsed_uri text = parse_uri_chars 0 text >>= non_empty_uri

-- the text after a leading word
abbrev pub rest_or_fault : Option (List ℕ) → Result (List ℕ) UriError
rest_or_fault None = Err (Fault BadQuery)
rest_or_fault (Some rest) = Ok rest

-- the text after `=` and the optional white space around it
abbrev pub after_equals : List ℕ → Result (List ℕ) UriError
after_equals text =
    rest_or_fault (rest_after_front (codes "=") (drop_while is_space text)) >>= λ rest.
    Ok (drop_while is_space rest)

-- an NCName
abbrev pub parsed_prefix : List ℕ → ReadResult (List ℕ)
parsed_prefix text =
    if first_char_is is_name_start text
    then Ok (take_while is_name_char text, drop_while is_name_char text)
    else Err (Fault BadQuery)

-- a prefix that a query may not bind
abbrev pub is_reserved : List ℕ → Bool
is_reserved p = bytes_eq p (codes "xml") || bytes_eq p (codes "xmlns")

abbrev pub reject_reserved : List ℕ × List ℕ → ReadResult (List ℕ)
reject_reserved x = if is_reserved x.0 then Err (Fault BadQuery) else Ok x

abbrev pub parsed_free_prefix : List ℕ → ReadResult (List ℕ)
parsed_free_prefix text = parsed_prefix text >>= reject_reserved

-- an item, and what comes after it
abbrev pub parsed_item : List ℕ → ReadResult Decl
parsed_item text =
    rest_or_fault (rest_after_front (codes "xmlns(") text) >>= λ inner.
    parsed_free_prefix inner >>= λ p.
    after_equals p.1 >>= parsed_uri >>= λ u.
    Ok (record { prefix = p.0; uri = u.0 }, u.1)

-- at most n items, each with the spaces after it, and nothing else
abbrev pub parsed_items : ℕ → List ℕ → Result (List Decl) UriError
parsed_items n [] = Ok []
parsed_items zero (c ∷ text) = Err (Fault BadQuery)
parsed_items (suc n) (c ∷ text) =
    parsed_item (c ∷ text) >>= λ x.
    parsed_items n (drop_while is_blank x.1) >>= λ items. Ok (x.0 ∷ items)

-- the bindings of a query: an item has more than one character, so there are fewer items than
-- characters
abbrev pub parsed_bindings : List ℕ → Result (List Decl) UriError
parsed_bindings text = parsed_items (length text) (drop_while is_blank text)

-- an absent query has none
abbrev pub parsed_optional_bindings : Option (List ℕ) → Result (List Decl) UriError
parsed_optional_bindings None = Ok []
parsed_optional_bindings (Some text) = parsed_bindings text

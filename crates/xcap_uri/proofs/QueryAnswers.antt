-- Reading a query finds bindings, or reports `BadQuery`.
use Rattle.std.proofs.Common.{◌≡◌, ℕ, zero, suc, ◌+◌, ◌-◌, Bool, true, false, cond, List, [], ◌∷◌, ◌&&◌, ◌==◌, codes, length, Option, None, Some, Result, Ok, Err, refl, subst, ◌↔◌}
use Rattle.xml_grammar.specs.TextReading.{first_char_is, drop_while}
use Rattle.xml_names.specs.Characters.{is_name_start, is_space}
use Rattle.xml_names.specs.declared.names.Decl.{Decl}
use Rattle.xml_names.specs.declared.read_error.ReadError.TheVariants.{Fault}
use Rattle.xcap_uri.specs.Delimiters.{rest_after_front}
use Rattle.xcap_uri.specs.readers.Steps.{UriError, ◌>>=◌}
use Rattle.xcap_uri.specs.Queries.{is_bracket_or_caret, is_blank, IsQuery}
use Rattle.xcap_uri.specs.readers.Queries
use Rattle.xcap_uri.specs.declared.fault.UriFault.TheVariants.{BadQuery}
use Rattle.xcap_uri.proofs.FaultOrder.{Decides, same_ok}
use Rattle.xcap_uri.proofs.QueryItems.{query_found, query_read}

-- if the result is a fault, it is this one
OnlyBad : {A : Type 0} → Result A UriError → Type 0
OnlyBad (Ok value) = Unit {0}
OnlyBad (Err e) = e ≡ Fault BadQuery

bind_bad : {A B : Type 0} (r : Result A UriError) (f : A → Result B UriError) → OnlyBad r → ((x : A) → OnlyBad (f x)) → OnlyBad (r >>= f)
unfolding OnlyBad
bind_bad (Ok x) f p h = h x
bind_bad (Err e) f p h = p

if_bad : {A : Type 0} (b : Bool) (x y : Result A UriError) → OnlyBad x → OnlyBad y → OnlyBad (cond b x y)
if_bad true x y p q = p
if_bad false x y p q = q

bad : (A : Type 0) → (let r : Result A UriError = Err (Fault BadQuery) in OnlyBad r)
unfolding OnlyBad
bad A = refl

good : {A : Type 0} (x : A) → (let r : Result A UriError = Ok x in OnlyBad r)
unfolding OnlyBad
good x = tt

with_char_bad : (c : ℕ) (read : Queries.ReadResult (List ℕ)) → OnlyBad read → OnlyBad (Queries.with_char c read)
with_char_bad c read p = bind_bad read (λ x. let r : Queries.ReadResult (List ℕ) = Ok (c ∷ x.0, x.1) in r) p (λ x. good (c ∷ x.0, x.1))

uri_chars_bad : (n : ℕ) (text : List ℕ) → OnlyBad (Queries.parse_uri_chars n text)
uri_chars_bad n [] = bad _
uri_chars_bad n (c ∷ []) = if_bad (c == 41 && n == 0) _ _ (good _) (bad _)
uri_chars_bad n (c ∷ d ∷ rest) =
    if_bad (c == 94) _ _ (if_bad (is_bracket_or_caret d) _ _ (with_char_bad d _ (uri_chars_bad n rest)) (bad _))
    (if_bad (c == 40) _ _ (with_char_bad c _ (uri_chars_bad (n + 1) (d ∷ rest)))
    (if_bad (c == 41) _ _ (if_bad (n == 0) _ _ (good _) (with_char_bad c _ (uri_chars_bad (n - 1) (d ∷ rest))))
    (with_char_bad c _ (uri_chars_bad n (d ∷ rest)))))

some_uri_bad : (x : List ℕ × List ℕ) → OnlyBad (Queries.non_empty_uri x)
some_uri_bad ([], rest) = bad _
some_uri_bad (c ∷ cs, rest) = good _

uri_bad : (text : List ℕ) → OnlyBad (Queries.parsed_uri text)
uri_bad text = bind_bad (Queries.parse_uri_chars 0 text) Queries.non_empty_uri (uri_chars_bad 0 text) some_uri_bad

past_bad : (rest : Option (List ℕ)) → OnlyBad (Queries.rest_or_fault rest)
past_bad None = bad _
past_bad (Some rest) = good rest

equals_bad : (text : List ℕ) → OnlyBad (Queries.after_equals text)
equals_bad text = bind_bad (Queries.rest_or_fault (rest_after_front (codes "=") (drop_while is_space text))) (λ rest. Ok (drop_while is_space rest)) (past_bad _) (λ rest. good _)

prefix_bad : (text : List ℕ) → OnlyBad (Queries.parsed_prefix text)
prefix_bad text = if_bad (first_char_is is_name_start text) _ _ (good _) (bad _)

unreserved_bad : (x : List ℕ × List ℕ) → OnlyBad (Queries.reject_reserved x)
unreserved_bad x = if_bad (Queries.is_reserved x.0) _ _ (bad _) (good x)

free_prefix_bad : (text : List ℕ) → OnlyBad (Queries.parsed_free_prefix text)
free_prefix_bad text = bind_bad (Queries.parsed_prefix text) Queries.reject_reserved (prefix_bad text) unreserved_bad

item_of : (List ℕ × List ℕ) → (List ℕ × List ℕ) → Queries.ReadResult Decl
item_of p u = Ok (record { prefix = p.0; uri = u.0 }, u.1)

item_bad : (text : List ℕ) → OnlyBad (Queries.parsed_item text)
unfolding item_of
item_bad text =
    bind_bad (Queries.rest_or_fault (rest_after_front (codes "xmlns(") text)) _ (past_bad _)
    (λ inner. bind_bad (Queries.parsed_free_prefix inner) _ (free_prefix_bad inner)
    (λ p. bind_bad (Queries.after_equals p.1 >>= Queries.parsed_uri) (item_of p) (bind_bad (Queries.after_equals p.1) Queries.parsed_uri (equals_bad p.1) uri_bad)
    (λ u. good _)))

items_bad : (n : ℕ) (text : List ℕ) → OnlyBad (Queries.parsed_items n text)
items_bad n [] = good _
items_bad zero (c ∷ text) = bad _
items_bad (suc n) (c ∷ text) =
    bind_bad (Queries.parsed_item (c ∷ text)) _ (item_bad (c ∷ text))
    (λ x. bind_bad (Queries.parsed_items n (drop_while is_blank x.1)) (λ items. Ok (x.0 ∷ items)) (items_bad n (drop_while is_blank x.1)) (λ items. good _))

optional_bad : (query : Option (List ℕ)) → OnlyBad (Queries.parsed_optional_bindings query)
optional_bad None = good _
optional_bad (Some text) = items_bad (length text) (drop_while is_blank text)

refused : (r : Result (List Decl) UriError) (e : UriError) → OnlyBad r → r ≡ Err e → e ≡ Fault BadQuery
unfolding OnlyBad
refused (Ok x) e p h = absurd cc
refused (Err x) e p h = subst (λ (z : UriError). z ≡ Fault BadQuery) (let i : x ≡ e = cc in i) p

pub query_decided : (query : Option (List ℕ)) → Decides (IsQuery query) BadQuery (Queries.parsed_optional_bindings query)
query_decided query = record {
  sound = query_found query;
  complete = query_read query;
  refused = λ e h. refused (Queries.parsed_optional_bindings query) e (optional_bad query) h;
}

-- the bindings that are found are those of the rules, and there are no others
pub query_is_read : (query : Option (List ℕ)) (bindings : List Decl) → IsQuery query bindings ↔ (Queries.parsed_optional_bindings query ≡ Ok bindings)
query_is_read query bindings = (query_read query bindings, query_found query bindings)

pub one_query : (query : Option (List ℕ)) (a b : List Decl) → IsQuery query a → IsQuery query b → a ≡ b
one_query query a b p q = same_ok (Queries.parsed_optional_bindings query) a b (query_read query a p) (query_read query b q)

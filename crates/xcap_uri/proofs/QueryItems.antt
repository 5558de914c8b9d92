-- The bindings of a query are those of its items.
use Rattle.std.proofs.Common.{◌≡◌, ◌≢◌, ℕ, zero, suc, ◌≤◌, ◌<◌, Bool, true, false, cond, ◌||◌, List, [], ◌∷◌, ◌++◌, codes, length, Option, None, Some, Result, Ok, Err, refl, ap, ◌∙◌, sym, subst, append_assoc, arith}
use Rattle.std.proofs.lemmas.Bool.{and_parts, and_from, true≢false}
use Rattle.std.proofs.lemmas.Bool.Decides.{nat_tests}
use Rattle.std.proofs.lemmas.List.{append-nil, length-append}
use Rattle.std.specs.Cmp.Lexicographic.{bytes_decides}
use Rattle.std.specs.List.{list_all}
use Rattle.std.specs.Str.{bytes_eq}
use Rattle.xml_grammar.specs.TextReading.{first_char_is, take_while, drop_while}
use Rattle.xml_grammar.specs.Rules.{AllPass}
use Rattle.xml_names.specs.Characters.{is_name, is_name_start, is_name_char, is_space}
use Rattle.xml_names.specs.declared.names.Decl.{Decl}
use Rattle.xml_names.specs.declared.read_error.ReadError.TheVariants.{Fault}
use Rattle.xml_tokens.proofs.NameFronts.{space_no_name}
use Rattle.xcap_uri.specs.Delimiters.{rest_after_front}
use Rattle.xcap_uri.specs.readers.Steps.{UriError, ◌>>=◌}
use Rattle.xcap_uri.specs.Queries.{is_bracket_or_caret, is_blank, SpellsUri, ends, plain, escaped, nested, IsBindingItem, AreBindingItems, IsQuery}
use Rattle.xcap_uri.specs.readers.Queries.{ReadResult, rest_or_fault, after_equals, parsed_prefix, is_reserved, reject_reserved, parsed_free_prefix, non_empty_uri, parse_uri_chars, parsed_uri, parsed_item, parsed_items, parsed_optional_bindings}
use Rattle.xcap_uri.specs.readers.UriSteps.{with_chars}
use Rattle.xcap_uri.specs.declared.fault.UriFault.TheVariants.{BadQuery}
use Rattle.xcap_uri.proofs.Pieces.{on_test, front_there}
use Rattle.xcap_uri.proofs.QueryUris.{same_read, no_fault, read_on, spelled}
use Rattle.xcap_uri.proofs.UriChars as chars

abbrev Bound : Type 0
Bound = Result (List Decl) UriError

-- ---- steps, one after the other

record Steps {A B : Type 0} (r : Result A UriError) (next : A → Result B UriError) (value : B) : Type 0 where
  pub first : A
  pub first_is : r ≡ Ok first
  pub then_is : next first ≡ Ok value

steps : {A B : Type 0} (r : Result A UriError) (next : A → Result B UriError) (value : B) → r >>= next ≡ Ok value → Steps r next value
steps (Ok x) next value e = record { first = x; first_is = refl; then_is = e }
steps (Err x) next value e = absurd (no_fault x value e)

-- where it isn't refused, the test holds
passed : {A : Type 0} (b : Bool) (fault : UriError) (x y : A) → (let r : Result A UriError = cond b (Ok x) (Err fault) in r ≡ Ok y) → (b ≡ true) × (x ≡ y)
passed true fault x y e = (refl, cc)
passed false fault x y e = absurd (no_fault fault y e)

freed : {A : Type 0} (b : Bool) (fault : UriError) (x y : A) → (let r : Result A UriError = cond b (Err fault) (Ok x) in r ≡ Ok y) → (b ≡ false) × (x ≡ y)
freed true fault x y e = absurd (no_fault fault y e)
freed false fault x y e = (refl, cc)

-- ---- leading characters of a class

module _ (p : ℕ → Bool) where
  all_in_front : (u v : List ℕ) → AllPass p u → first_char_is p v ≡ false → (take_while p (u ++ v) ≡ u) × (drop_while p (u ++ v) ≡ v)
  all_in_front [] [] h f = (refl, refl)
  all_in_front [] (c ∷ v) h f = (rw f refl, rw f refl)
  all_in_front (c ∷ u) v h f = let more = all_in_front u v h.1 f in (rw h.0 (ap (λ (l : List ℕ). c ∷ l) more.0), rw h.0 more.1)

  parted : (text : List ℕ) → text ≡ take_while p text ++ drop_while p text
  parted [] = refl
  parted (c ∷ cs) = on_test (p c) (λ t. rw t (ap (λ (l : List ℕ). c ∷ l) (parted cs))) (λ f. rw f refl)

  front_passes : (text : List ℕ) → AllPass p (take_while p text)
  front_passes [] = tt
  front_passes (c ∷ cs) = on_test (p c) (λ t. rw t (t, front_passes cs)) (λ f. rw f tt)

  none_behind : (text : List ℕ) → first_char_is p (drop_while p text) ≡ false
  none_behind [] = refl
  none_behind (c ∷ cs) = on_test (p c) (λ t. rw t (none_behind cs)) (λ f. rw f f)

  listed : (u : List ℕ) → AllPass p u → list_all p u ≡ true
  listed [] h = refl
  listed (c ∷ u) h = and_from _ _ h.0 (listed u h.1)

  each : (u : List ℕ) → list_all p u ≡ true → AllPass p u
  each [] h = tt
  each (c ∷ u) h = let both = and_parts (p c) (list_all p u) h in (both.0, each u both.1)

-- ---- a leading word

past_there : (o : Option (List ℕ)) (rest : List ℕ) → rest_or_fault o ≡ Ok rest → o ≡ Some rest
past_there None rest e = absurd (no_fault (Fault BadQuery) rest e)
past_there (Some x) rest e = let i : x ≡ rest = cc in ap (λ (l : List ℕ). Some l) i

-- ---- prefixes

starts_in_name : (c : ℕ) → is_name_start c ≡ true → is_name_char c ≡ true
starts_in_name c h = rw h refl

name_passes : (name : List ℕ) → is_name name ≡ true → AllPass is_name_char name
name_passes [] h = absurd cc
name_passes (c ∷ cs) h = let both = and_parts (is_name_start c) (list_all is_name_char cs) h in (starts_in_name c both.0, each is_name_char cs both.1)

name_begins : (name rest : List ℕ) → is_name name ≡ true → first_char_is is_name_start (name ++ rest) ≡ true
name_begins [] rest h = absurd cc
name_begins (c ∷ cs) rest h = (and_parts (is_name_start c) (list_all is_name_char cs) h).0

is_named : (text : List ℕ) → first_char_is is_name_start text ≡ true → is_name (take_while is_name_char text) ≡ true
is_named [] h = absurd cc
is_named (c ∷ cs) h = rw (starts_in_name c h) (and_from _ _ h (listed is_name_char (take_while is_name_char cs) (front_passes is_name_char cs)))

unlike : (a b : List ℕ) → a ≢ b → bytes_eq a b ≡ false
unlike a b h = on_test (bytes_eq a b) (λ t. absurd (h ((bytes_decides a b).0 t))) (λ f. f)

like : (a b : List ℕ) → bytes_eq a b ≡ false → a ≢ b
like a b f e = true≢false (sym ((bytes_decides a b).1 e) ∙ f)

is_free : (p : List ℕ) → p ≢ codes "xml" → p ≢ codes "xmlns" → is_reserved p ≡ false
is_free p a b = rw (unlike p (codes "xml") a, unlike p (codes "xmlns") b) refl

neither : (a b : Bool) → a || b ≡ false → (a ≡ false) × (b ≡ false)
neither true b h = absurd cc
neither false b h = (refl, h)

free_of : (p : List ℕ) → is_reserved p ≡ false → (p ≢ codes "xml") × (p ≢ codes "xmlns")
free_of p h = let both = neither (bytes_eq p (codes "xml")) (bytes_eq p (codes "xmlns")) h in (like p (codes "xml") both.0, like p (codes "xmlns") both.1)

-- what comes after a prefix is no name character
ends_name : (before rest : List ℕ) → AllPass is_space before → first_char_is is_name_char (before ++ (61 ∷ rest)) ≡ false
ends_name [] rest h = refl
ends_name (c ∷ cs) rest h = space_no_name c h.0

prefix_there : (p rest : List ℕ) → is_name p ≡ true → (p ≢ codes "xml") × (p ≢ codes "xmlns") → first_char_is is_name_char rest ≡ false → parsed_free_prefix (p ++ rest) ≡ Ok (p, rest)
prefix_there p rest named free ended =
    let cut = all_in_front is_name_char p rest (name_passes p named) ended in
    rw (name_begins p rest named, cut.0, cut.1, is_free p free.0 free.1) refl

record IsPrefix (text prefix rest : List ℕ) : Type 0 where
  pub joined : text ≡ prefix ++ rest
  pub named : is_name prefix ≡ true
  pub free : (prefix ≢ codes "xml") × (prefix ≢ codes "xmlns")

prefix_found : (text prefix rest : List ℕ) → parsed_free_prefix text ≡ Ok (prefix, rest) → IsPrefix text prefix rest
prefix_found text prefix rest e =
    let s = steps (parsed_prefix text) reject_reserved (prefix, rest) e in
    let front = take_while is_name_char text in
    let back = drop_while is_name_char text in
    let begun = passed (first_char_is is_name_start text) (Fault BadQuery) (front, back) s.first s.first_is in
    let freed_so = freed (is_reserved s.first.0) (Fault BadQuery) s.first (prefix, rest) s.then_is in
    let same : (front, back) ≡ (prefix, rest) = begun.1 ∙ freed_so.1 in
    record {
      joined = parted is_name_char text ∙ ap (λ (x : List ℕ × List ℕ). x.0 ++ x.1) same;
      named = ap is_name (ap (λ (x : List ℕ × List ℕ). x.0) (sym same)) ∙ is_named text begun.0;
      free = free_of prefix (ap (λ (x : List ℕ × List ℕ). is_reserved x.0) (sym freed_so.1) ∙ freed_so.0);
    }

-- ---- `=`, with white space around it

equals_there : (s t rest : List ℕ) → AllPass is_space s → AllPass is_space t → first_char_is is_space rest ≡ false → after_equals (s ++ (61 ∷ (t ++ rest))) ≡ Ok rest
equals_there s t rest a b ended = rw ((all_in_front is_space s (61 ∷ (t ++ rest)) a refl).1, (all_in_front is_space t rest b ended).1) refl

record IsEquals (text rest : List ℕ) : Type 0 where
  pub before : List ℕ
  pub behind : List ℕ
  pub joined : text ≡ before ++ (61 ∷ (behind ++ rest))
  pub before_is : AllPass is_space before
  pub behind_is : AllPass is_space behind
  pub ended : first_char_is is_space rest ≡ false

equals_found : (text rest : List ℕ) → after_equals text ≡ Ok rest → IsEquals text rest
equals_found text rest e =
    let s = steps (rest_or_fault (rest_after_front (codes "=") (drop_while is_space text))) (λ x. let r : Result (List ℕ) UriError = Ok (drop_while is_space x) in r) rest e in
    let word = front_there (codes "=") (drop_while is_space text) s.first (past_there (rest_after_front (codes "=") (drop_while is_space text)) s.first s.first_is) in
    let same : drop_while is_space s.first ≡ rest = cc (s.then_is) in
    record {
      before = take_while is_space text;
      behind = take_while is_space s.first;
      joined =
          parted is_space text
          ∙ ap (λ (l : List ℕ). take_while is_space text ++ l) (word ∙ ap (λ (l : List ℕ). 61 ∷ l) (parted is_space s.first ∙ ap (λ (l : List ℕ). take_while is_space s.first ++ l) same));
      before_is = front_passes is_space text;
      behind_is = front_passes is_space s.first;
      ended = ap (first_char_is is_space) (sym same) ∙ none_behind is_space s.first;
    }

-- ---- URIs

special_no_space : (c : ℕ) → is_bracket_or_caret c ≡ true → is_space c ≡ false
special_no_space c h = grind (arith, nat_tests)

spelling_begins : (d u : List ℕ) → SpellsUri d u → (first : ℕ) (rest w : List ℕ) → u ≡ first ∷ rest → is_space first ≡ false → first_char_is is_space (d ++ w) ≡ false
spelling_begins d u ends first rest w e h = absurd cc
spelling_begins d u (plain c t v is s) first rest w e h = let same : c ≡ first = cc in ap is_space same ∙ h
spelling_begins d u (escaped c t v is s) first rest w e h = refl
spelling_begins d u (nested inner inside t v s r) first rest w e h = refl

uri_begins : (d u : List ℕ) → SpellsUri d u → (first : ℕ) (rest w : List ℕ) → u ≡ first ∷ rest → first_char_is is_space (d ++ w) ≡ false → is_space first ≡ false
uri_begins d u ends first rest w e h = absurd cc
uri_begins d u (plain c t v is s) first rest w e h = let same : c ≡ first = cc in ap is_space (sym same) ∙ h
uri_begins d u (escaped c t v is s) first rest w e h = let same : c ≡ first = cc in ap is_space (sym same) ∙ special_no_space c is
uri_begins d u (nested inner inside t v s r) first rest w e h = let same : 40 ≡ first = cc in ap is_space (sym same)

some_there : (u rest : List ℕ) (first : ℕ) (more : List ℕ) → u ≡ first ∷ more → non_empty_uri (u, rest) ≡ Ok (u, rest)
some_there u rest first more e = rw e refl

uri_there : (d u rest : List ℕ) → SpellsUri d u → (first : ℕ) (more : List ℕ) → u ≡ first ∷ more → parsed_uri (d ++ (41 ∷ rest)) ≡ Ok (u, rest)
uri_there d u rest s first more e =
    ap (λ (r : ReadResult (List ℕ)). r >>= non_empty_uri) (read_on d u s 0 (41 ∷ rest) ∙ ap (with_chars u) (chars.ends 0 rest refl) ∙ ap (λ (l : List ℕ). let z : List ℕ × List ℕ = (l, rest) in let r : ReadResult (List ℕ) = Ok z in r) (append-nil u))
    ∙ some_there u rest first more e

some_found : (x y : List ℕ × List ℕ) → non_empty_uri x ≡ Ok y → (x ≡ y) × ((first : ℕ) × (more : List ℕ) × (x.0 ≡ first ∷ more))
some_found ([], rest) y e = absurd (no_fault (Fault BadQuery) y e)
some_found (c ∷ cs, rest) y e = (same_read (c ∷ cs, rest) y e, (c, cs, refl))

record IsUri (text uri rest : List ℕ) : Type 0 where
  pub spelling : List ℕ
  pub joined : text ≡ spelling ++ (41 ∷ rest)
  pub spells : SpellsUri spelling uri
  pub first : ℕ
  pub more : List ℕ
  pub begun : uri ≡ first ∷ more

uri_found : (text uri rest : List ℕ) → parsed_uri text ≡ Ok (uri, rest) → IsUri text uri rest
uri_found text uri rest e =
    let s = steps (parse_uri_chars 0 text) non_empty_uri (uri, rest) e in
    let some = some_found s.first (uri, rest) s.then_is in
    let found = spelled text uri rest (s.first_is ∙ ap (λ (x : List ℕ × List ℕ). let r : ReadResult (List ℕ) = Ok x in r) some.0) in
    record {
      spelling = found.0;
      joined = found.1;
      spells = found.2;
      first = some.1.0;
      more = some.1.1;
      begun = ap (λ (x : List ℕ × List ℕ). x.0) (sym some.0) ∙ some.1.2;
    }

-- ---- items

regroup : (a p s e t d z tail : List ℕ) → (a ++ (p ++ (s ++ (e ++ (t ++ (d ++ z)))))) ++ tail ≡ a ++ (p ++ (s ++ (e ++ (t ++ (d ++ (z ++ tail))))))
regroup a p s e t d z tail = simp append_assoc

abbrev bound_in : List ℕ × List ℕ → List ℕ × List ℕ → ReadResult Decl
bound_in p u = Ok (record { prefix = p.0; uri = u.0 }, u.1)

abbrev behind_prefix : List ℕ × List ℕ → ReadResult Decl
behind_prefix p = after_equals p.1 >>= parsed_uri >>= bound_in p

abbrev behind_word : List ℕ → ReadResult Decl
behind_word inner = parsed_free_prefix inner >>= behind_prefix

item_there : (text : List ℕ) (binding : Decl) (tail : List ℕ) → IsBindingItem text binding → parsed_item (text ++ tail) ≡ Ok (binding, tail)
item_there text binding tail is =
    let uri = is.spelling ++ (41 ∷ tail) in
    let equals = is.before ++ (61 ∷ (is.behind ++ uri)) in
    let begins = spelling_begins is.spelling binding.uri is.spelled is.begins.0 is.begins.1 (41 ∷ tail) is.begins.2 is.begins.3 in
    ap (λ (l : List ℕ). parsed_item (l ++ tail)) is.joined
    ∙ ap parsed_item (regroup (codes "xmlns(") binding.prefix is.before (codes "=") is.behind is.spelling (codes ")") tail)
    ∙ ap (λ (r : ReadResult (List ℕ)). r >>= behind_prefix) (prefix_there binding.prefix equals is.named is.free (ends_name is.before (is.behind ++ uri) is.before_is))
    ∙ ap (λ (r : Result (List ℕ) UriError). r >>= parsed_uri >>= bound_in (binding.prefix, equals)) (equals_there is.before is.behind uri is.before_is is.behind_is begins)
    ∙ ap (λ (r : ReadResult (List ℕ)). r >>= bound_in (binding.prefix, equals)) (uri_there is.spelling binding.uri tail is.spelled is.begins.0 is.begins.1 is.begins.2)

record FoundItem (text : List ℕ) (binding : Decl) (tail : List ℕ) : Type 0 where
  pub item : List ℕ
  pub joined : text ≡ item ++ tail
  pub is_item : IsBindingItem item binding

found_by : (text inner equals y tail : List ℕ) (binding : Decl) → text ≡ codes "xmlns(" ++ inner → IsPrefix inner binding.prefix equals → IsEquals equals y → IsUri y binding.uri tail → FoundItem text binding tail
found_by text inner equals y tail binding word p q u = record {
  item = codes "xmlns(" ++ (binding.prefix ++ (q.before ++ (codes "=" ++ (q.behind ++ (u.spelling ++ codes ")")))));
  joined =
      word
      ∙ ap (λ (l : List ℕ). codes "xmlns(" ++ l) (p.joined ∙ ap (λ (l : List ℕ). binding.prefix ++ l) (q.joined ∙ ap (λ (l : List ℕ). q.before ++ (61 ∷ (q.behind ++ l))) u.joined))
      ∙ sym (regroup (codes "xmlns(") binding.prefix q.before (codes "=") q.behind u.spelling (codes ")") tail);
  is_item = record {
    before = q.before;
    behind = q.behind;
    spelling = u.spelling;
    joined = refl;
    named = p.named;
    free = p.free;
    before_is = q.before_is;
    behind_is = q.behind_is;
    spelled = u.spells;
    begins = (u.first, u.more, u.begun, uri_begins u.spelling binding.uri u.spells u.first u.more (41 ∷ tail) u.begun (ap (first_char_is is_space) (sym u.joined) ∙ q.ended));
  };
}

item_found : (text : List ℕ) (binding : Decl) (tail : List ℕ) → parsed_item text ≡ Ok (binding, tail) → FoundItem text binding tail
item_found text binding tail e =
    let a = steps (rest_or_fault (rest_after_front (codes "xmlns(") text)) behind_word (binding, tail) e in
    let b = steps (parsed_free_prefix a.first) behind_prefix (binding, tail) a.then_is in
    let c = steps (after_equals b.first.1 >>= parsed_uri) (bound_in b.first) (binding, tail) b.then_is in
    let d = steps (after_equals b.first.1) parsed_uri c.first c.first_is in
    let made : Decl = record { prefix = b.first.0; uri = c.first.0 } in
    let same = same_read (made, c.first.1) (binding, tail) c.then_is in
    let word = front_there (codes "xmlns(") text a.first (past_there (rest_after_front (codes "xmlns(") text) a.first a.first_is) in
    let found = found_by text a.first b.first.1 d.first c.first.1 made word (prefix_found a.first b.first.0 b.first.1 b.first_is) (equals_found b.first.1 d.first d.first_is) (uri_found d.first c.first.0 c.first.1 d.then_is) in
    subst (λ (x : Decl × List ℕ). FoundItem text x.0 x.1) same found

-- ---- sequences of items

item_begins : (text : List ℕ) (binding : Decl) → IsBindingItem text binding → (rest : List ℕ) × (text ≡ 120 ∷ rest)
item_begins text binding is = (codes "mlns(" ++ (binding.prefix ++ (is.before ++ (codes "=" ++ (is.behind ++ (is.spelling ++ codes ")"))))), is.joined)

items_begin : (text : List ℕ) (bindings : List Decl) → AreBindingItems text bindings → first_char_is is_blank text ≡ false
items_begin text [] are = ap (first_char_is is_blank) are
items_begin text (b ∷ bs) (item, spaces, rest, joined, is, blank, more) =
    let first = item_begins item b is in
    ap (first_char_is is_blank) (joined ∙ ap (λ (l : List ℕ). l ++ (spaces ++ rest)) first.1)

counted : (n c : ℕ) (text tail : List ℕ) (binding : Decl) (bindings : List Decl) → length tail < n → parsed_item (c ∷ text) ≡ Ok (binding, tail)
    → ((m : ℕ) → length tail ≤ m → parsed_items m (drop_while is_blank tail) ≡ Ok bindings) → parsed_items n (c ∷ text) ≡ Ok (binding ∷ bindings)
counted zero c text tail binding bindings fits is more = absurd (omega (arith, fits))
counted (suc n) c text tail binding bindings fits is more = rw (is, more n (omega (arith, fits))) refl

one_item : (n : ℕ) (text item tail : List ℕ) (binding : Decl) (bindings : List Decl) → IsBindingItem item binding → text ≡ item ++ tail → length text ≤ n
    → ((m : ℕ) → length tail ≤ m → parsed_items m (drop_while is_blank tail) ≡ Ok bindings) → parsed_items n text ≡ Ok (binding ∷ bindings)
one_item n text item tail binding bindings is joined fits more =
    let first = item_begins item binding is in
    let whole : text ≡ 120 ∷ (first.0 ++ tail) = joined ∙ ap (λ (l : List ℕ). l ++ tail) first.1 in
    let size : length text ≡ suc (length (first.0 ++ tail)) = ap length whole in
    subst (λ (l : List ℕ). parsed_items n l ≡ Ok (binding ∷ bindings)) (sym whole)
    (counted n 120 (first.0 ++ tail) tail binding bindings (omega (arith, size, length-append first.0 tail, fits)) (ap parsed_item (sym whole ∙ joined) ∙ item_there item binding tail is) more)

items_there : (text : List ℕ) (bindings : List Decl) → AreBindingItems text bindings → (n : ℕ) → length text ≤ n → parsed_items n text ≡ Ok bindings
items_there text [] are n fits = ap (parsed_items n) are
items_there text (b ∷ bs) (item, spaces, rest, joined, is, blank, more) n fits =
    one_item n text item (spaces ++ rest) b bs is joined fits (λ m h.
    ap (parsed_items m) (all_in_front is_blank spaces rest blank (items_begin rest bs more)).1 ∙ items_there rest bs more m (omega (arith, h, length-append spaces rest)))

same_bindings : (x y : List Decl) → (let r : Bound = Ok x in r ≡ Ok y) → x ≡ y
same_bindings x y e = cc

items_found : (n : ℕ) (text : List ℕ) (bindings : List Decl) → parsed_items n text ≡ Ok bindings → AreBindingItems text bindings
items_found n [] bindings e = subst (AreBindingItems []) (same_bindings [] bindings e) refl
items_found zero (c ∷ text) bindings e = absurd (no_fault (Fault BadQuery) bindings e)
items_found (suc n) (c ∷ text) bindings e =
    let one = steps (parsed_item (c ∷ text)) (λ x. parsed_items n (drop_while is_blank x.1) >>= λ items. let r : Bound = Ok (x.0 ∷ items) in r) bindings e in
    let others = steps (parsed_items n (drop_while is_blank one.first.1)) (λ items. let r : Bound = Ok (one.first.0 ∷ items) in r) bindings one.then_is in
    let found = item_found (c ∷ text) one.first.0 one.first.1 one.first_is in
    let spaces = take_while is_blank one.first.1 in
    let rest = drop_while is_blank one.first.1 in
    subst (AreBindingItems (c ∷ text)) (same_bindings (one.first.0 ∷ others.first) bindings others.then_is)
    (found.item, spaces, rest, found.joined ∙ ap (λ (l : List ℕ). found.item ++ l) (parted is_blank one.first.1), found.is_item, front_passes is_blank one.first.1, items_found n rest others.first others.first_is)

-- ---- the query

pub query_read : (query : Option (List ℕ)) (bindings : List Decl) → IsQuery query bindings → parsed_optional_bindings query ≡ Ok bindings
query_read None bindings is = ap (λ (l : List Decl). let r : Bound = Ok l in r) (sym is)
query_read (Some text) bindings (spaces, rest, joined, blank, are) =
    ap (λ (l : List ℕ). parsed_items (length text) (drop_while is_blank l)) joined
    ∙ ap (parsed_items (length text)) (all_in_front is_blank spaces rest blank (items_begin rest bindings are)).1
    ∙ items_there rest bindings are (length text) (omega (arith, ap length joined, length-append spaces rest))

pub query_found : (query : Option (List ℕ)) (bindings : List Decl) → parsed_optional_bindings query ≡ Ok bindings → IsQuery query bindings
query_found None bindings e = sym (same_bindings [] bindings e)
query_found (Some text) bindings e =
    (take_while is_blank text, drop_while is_blank text, parted is_blank text, front_passes is_blank text, items_found (length text) (drop_while is_blank text) bindings e)

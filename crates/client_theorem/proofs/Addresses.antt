-- The address of a feed means the feed: after the root and the first segments, its parts are those
-- of the document's printed id, which is read back.
use Rattle.std.proofs.Common.{◌≡◌, ◌≢◌, ℕ, Bool, true, false, not, ◌==◌, List, [], ◌∷◌, ◌++◌, Option, None, Some, Result, Ok, Err, codes, encode_utf8_all, inl, refl, sym, ap, ◌∙◌, subst, append_assoc}
use Rattle.std.proofs.lemmas.Bool.{and_parts, eq-eqb}
use Rattle.std.proofs.lemmas.Str.{chars-IsAscii, encodes-IsAscii, encodes_same}
use Rattle.std.specs.Char.{is_ascii_digit}
use Rattle.std.specs.Cmp.Lexicographic.{bytes_decides}
use Rattle.std.specs.List.{list_all, onto_first}
use Rattle.std.specs.Prelude.{if◌then◌else◌}
use Rattle.std.specs.Str.{IsAscii, bytes_eq, chars}
use Rattle.xml_grammar.specs.TextReading.{drop_while}
use Rattle.xml_grammar.specs.Rules.{AllPass}
use Rattle.xml_names.specs.declared.names.Decl.{Decl}
use Rattle.xml_tokens.specs.Tokens.{is_different_char}
use Rattle.node_select.specs.declared.fault.SelectorFault.{SelectorFault}
use Rattle.node_select.specs.declared.selector.End.{End}
use Rattle.node_select.specs.declared.selector.End.TheVariants as ends
use Rattle.node_select.specs.declared.selector.Selector.{Selector}
use Rattle.doc_names.proofs.Words.{word_letters}
use Rattle.doc_names.specs.DocIds.{id_text, selector_separator}
use Rattle.doc_names.specs.Usages.{usage_of}
use Rattle.doc_names.specs.declared.doc_id.Auid.{Auid}
use Rattle.doc_names.specs.declared.doc_id.DocId.{DocId}
use Rattle.doc_names.specs.declared.doc_id.Home.{Home}
use Rattle.doc_names.specs.declared.doc_id.Home.TheVariants.{Global, User}
use Rattle.xcap_uri.specs.Delimiters.{rest_after_front, front_before, rest_after, after_first, pieces}
use Rattle.xcap_uri.specs.Escapes.{DecodesTo, DecodesToOptional}
use Rattle.xcap_uri.specs.Numerals.{numeral_of}
use Rattle.xcap_uri.specs.Roots.{slash}
use Rattle.xcap_uri.specs.Shapes.{NamesShape, doc_of, segments_in_home, mode_name, names_deep, names_document, names_element_feed, names_feed, names_flat, names_node, parse_tag}
use Rattle.xcap_uri.specs.Targets.{AreSegments, IsSplitPath, ShapeMeans, IsSegmentsAnswer, IsRestAnswer, IsTargetResult, element_feed_target, is_element_end, node_target, question, raw_text, rest_under, rest_under_root}
use Rattle.xcap_uri.specs.Words.{feed}
use Rattle.xcap_uri.proofs.AddressedDocuments.{there}
use Rattle.xcap_uri.specs.FaultOrder.{FirstOrFault}
use Rattle.xcap_uri.specs.declared.fault.UriFault.{UriFault}
use Rattle.xcap_uri.specs.declared.fault.UriFault.TheVariants.{BadEscape, BadSelector}
use Rattle.xcap_uri.specs.declared.shape.Shape.{Shape}
use Rattle.xcap_uri.specs.declared.shape.Shape.TheVariants as shapes
use Rattle.xcap_uri.specs.declared.target.Mode.{Mode}
use Rattle.xcap_uri.specs.declared.target.Mode.TheVariants.{NoPatching, XcapPatching, Aggregate}
use Rattle.xcap_uri.specs.declared.target.Target.{Target}
use Rattle.xcap_uri.specs.declared.target.Target.TheVariants.{Document, ElementFeed, Feed}
use Rattle.client_theorem.specs.FeedRequests.{HasFeed, feed_address, mode_text}
use Rattle.client_theorem.proofs.Numerals.{digits_pass, numeral_ascii, numeral_digits, numeral_stands}
use Rattle.client_theorem.proofs.Words.{feed_stands, mode_stands}

-- ---- cuts after a front in which nothing is cut

not_true : (t : Bool) → not t ≡ true → t ≡ false
not_true true h = sym h
not_true false h = refl

before_append : (stop : ℕ) (u v : List ℕ) → AllPass (is_different_char stop) u → front_before stop (u ++ v) ≡ u ++ front_before stop v
before_append stop [] v all = refl
before_append stop (b ∷ u) v all = rw (not_true (b == stop) all.0) (ap (λ (l : List ℕ). b ∷ l) (before_append stop u v all.1))

behind_append : (stop : ℕ) (u v : List ℕ) → AllPass (is_different_char stop) u → drop_while (is_different_char stop) (u ++ v) ≡ drop_while (is_different_char stop) v
behind_append stop [] v all = refl
behind_append stop (b ∷ u) v all = rw (not_true (b == stop) all.0) (behind_append stop u v all.1)

pieces_more : (stop : ℕ) (u v : List ℕ) → AllPass (is_different_char stop) u → pieces stop (u ++ (stop ∷ v)) ≡ u ∷ pieces stop v
pieces_more stop [] v all = rw (eq-eqb stop stop refl) refl
pieces_more stop (b ∷ u) v all = rw (not_true (b == stop) all.0) (ap (onto_first b) (pieces_more stop u v all.1))

after_append : (u v : List ℕ) → rest_after_front u (u ++ v) ≡ Some v
after_append [] v = refl
after_append (b ∷ u) v = rw (eq-eqb b b refl) (after_append u v)

pass_word : (p : ℕ → Bool) (cs : List ℕ) → list_all p cs ≡ true → AllPass p cs
pass_word p [] h = tt
pass_word p (c ∷ cs) h = let both = and_parts (p c) (list_all p cs) h in (both.0, pass_word p cs both.1)

mode_passes : (stop : ℕ) (mode : Mode) → list_all (is_different_char stop) (codes "no-patching") ≡ true → list_all (is_different_char stop) (codes "xcap-patching") ≡ true → list_all (is_different_char stop) (codes "aggregate") ≡ true
    → AllPass (is_different_char stop) (mode_text mode)
mode_passes stop NoPatching a b c = pass_word (is_different_char stop) (codes "no-patching") a
mode_passes stop XcapPatching a b c = pass_word (is_different_char stop) (codes "xcap-patching") b
mode_passes stop Aggregate a b c = pass_word (is_different_char stop) (codes "aggregate") c

-- ---- the text after the root and its slash

abbrev behind_root : Mode → List ℕ → List ℕ → List ℕ
behind_root mode digits id = codes "~feed" ++ (slash ∷ (mode_text mode ++ (slash ∷ (digits ++ (slash ∷ id)))))

pub regrouped : (r a m s d i : List ℕ) → r ++ a ++ m ++ s ++ d ++ s ++ i ≡ r ++ (a ++ (m ++ (s ++ (d ++ (s ++ i)))))
regrouped r a m s d i =
    append_assoc (r ++ a ++ m ++ s ++ d) s i ∙ append_assoc (r ++ a ++ m ++ s) d (s ++ i) ∙ append_assoc (r ++ a ++ m) s (d ++ (s ++ i))
    ∙ append_assoc (r ++ a) m (s ++ (d ++ (s ++ i))) ∙ append_assoc r a (m ++ (s ++ (d ++ (s ++ i))))

module _ (mode : Mode) (digits : List ℕ) (are : list_all is_ascii_digit digits ≡ true) where
  cut_before : (id : List ℕ) → front_before question (behind_root mode digits id) ≡ behind_root mode digits (front_before question id)
  cut_before id =
      before_append question (codes "~feed") (slash ∷ (mode_text mode ++ (slash ∷ (digits ++ (slash ∷ id))))) (pass_word (is_different_char question) (codes "~feed") refl)
      ∙ ap (λ (l : List ℕ). codes "~feed" ++ (slash ∷ l))
      (before_append question (mode_text mode) (slash ∷ (digits ++ (slash ∷ id))) (mode_passes question mode refl refl refl)
      ∙ ap (λ (l : List ℕ). mode_text mode ++ (slash ∷ l)) (before_append question digits (slash ∷ id) (digits_pass question refl digits are)))

  cut_behind : (id : List ℕ) → rest_after question (behind_root mode digits id) ≡ rest_after question id
  cut_behind id =
      ap after_first
      (behind_append question (codes "~feed") (slash ∷ (mode_text mode ++ (slash ∷ (digits ++ (slash ∷ id))))) (pass_word (is_different_char question) (codes "~feed") refl)
      ∙ behind_append question (mode_text mode) (slash ∷ (digits ++ (slash ∷ id))) (mode_passes question mode refl refl refl)
      ∙ behind_append question digits (slash ∷ id) (digits_pass question refl digits are))

  parts : (id : List ℕ) → pieces slash (behind_root mode digits id) ≡ codes "~feed" ∷ mode_text mode ∷ digits ∷ pieces slash id
  parts id =
      pieces_more slash (codes "~feed") (mode_text mode ++ (slash ∷ (digits ++ (slash ∷ id)))) (pass_word (is_different_char slash) (codes "~feed") refl)
      ∙ ap (λ (l : List (List ℕ)). codes "~feed" ∷ l)
      (pieces_more slash (mode_text mode) (digits ++ (slash ∷ id)) (mode_passes slash mode refl refl refl)
      ∙ ap (λ (l : List (List ℕ)). mode_text mode ∷ l) (pieces_more slash digits id (digits_pass slash refl digits are)))

-- ---- the first three segments

differs : (a b : List ℕ) → bytes_eq a b ≡ false → a ≢ b
differs a b other same = let never : true ≡ false = sym ((bytes_decides a b).1 same) ∙ other in absurd cc

feed_some : feed ≢ []
unfolding chars
feed_some same = differs feed [] refl same

feed_differs : feed ≢ selector_separator
unfolding chars
feed_differs same = differs feed selector_separator refl same

mode_some : (mode : Mode) → mode_name mode ≢ []
unfolding chars
mode_some NoPatching same = differs (mode_name NoPatching) [] refl same
mode_some XcapPatching same = differs (mode_name XcapPatching) [] refl same
mode_some Aggregate same = differs (mode_name Aggregate) [] refl same

mode_differs : (mode : Mode) → mode_name mode ≢ selector_separator
unfolding chars
mode_differs NoPatching same = differs (mode_name NoPatching) selector_separator refl same
mode_differs XcapPatching same = differs (mode_name XcapPatching) selector_separator refl same
mode_differs Aggregate same = differs (mode_name Aggregate) selector_separator refl same

-- a word that is no numeral is no tag
no_tag : (word tag : List ℕ) (n : ℕ) → IsAscii word → numeral_of word ≡ None → parse_tag tag ≡ Some n → tag ≢ chars word
no_tag word tag n ascii none is same =
    let octets : encode_utf8_all tag ≡ word = ap encode_utf8_all (same ∙ chars-IsAscii word ascii) ∙ encodes-IsAscii word ascii in
    let never : None ≡ Some n = sym none ∙ sym (ap numeral_of octets) ∙ is in
    absurd cc

tag_some : (tag : List ℕ) (n : ℕ) → parse_tag tag ≡ Some n → tag ≢ []
tag_some tag n is same = let never : None ≡ Some n = ap parse_tag (sym same) ∙ is in absurd cc

-- ---- the meaning of the parts

module _ (mode : Mode) (n : ℕ) (tag : List ℕ) (doc : DocId) (has : HasFeed doc) (is_tag : parse_tag tag ≡ Some n) where
  abbrev named : Result Target UriFault
  named = Ok (Document doc)

  abbrev asked : Result Target UriFault
  asked = Ok (Feed mode n doc)

  abbrev with_front : List (List ℕ) → List (List ℕ)
  with_front segments = feed ∷ mode_name mode ∷ tag ∷ segments

  no_part : (other : DocId) (read : Result Selector SelectorFault) → named ≡ node_target other read → ⊥
  no_part other (Ok selector) e = cc
  no_part other (Err fault) e = cc

  no_end : (number : ℕ) (other : DocId) (raw : List ℕ) (selector : Selector) (end : End) → named ≡ (if is_element_end end then Ok (ElementFeed number other selector raw) else Err BadSelector) → ⊥
  no_end number other raw selector ends.Element e = cc
  no_end number other raw selector (ends.Attribute uri local) e = cc
  no_end number other raw selector ends.Namespaces e = cc

  no_element : (number : ℕ) (other : DocId) (raw : List ℕ) (read : Result Selector SelectorFault) → named ≡ element_feed_target number other raw read → ⊥
  no_element number other raw (Ok selector) e = no_end number other raw selector selector.end e
  no_element number other raw (Err fault) e = cc

  by_home : (segments : List (List ℕ)) (selector : Option (List ℕ)) (auid : Auid) (home : Home) (name : List ℕ) → segments ≡ segments_in_home auid home (name ∷ []) → selector ≡ None → doc_of auid home name ≡ doc
      → NamesShape (with_front segments) selector (shapes.Feed mode n doc)
  by_home segments selector auid Global name e f same =
      let never : Global ≡ User has.xui = ap (λ (d : DocId). d.home) same ∙ has.users in absurd cc
  by_home segments selector auid (User xui) name e f same =
      subst (λ (d : DocId). NamesShape (with_front segments) selector (shapes.Feed mode n d)) same
      (names_feed mode n tag auid has.usage xui name (ap with_front e) is_tag (ap (λ (d : DocId). usage_of d.auid) same ∙ has.stored) f)

  by_shape : (segments : List (List ℕ)) (selector : Option (List ℕ)) (bindings : List Decl) (raw : List ℕ) (shape : Shape) → NamesShape segments selector shape → ShapeMeans bindings raw shape named
      → NamesShape (with_front segments) selector (shapes.Feed mode n doc)
  by_shape segments selector bindings raw _ (names_document auid home name e f) is =
      let same : doc_of auid home name ≡ doc = cc in
      by_home segments selector auid home name e f same
  by_shape segments selector bindings raw _ (names_node auid home name text e f some) is = absurd (no_part _ is.0 is.2)
  by_shape segments selector bindings raw _ (names_deep auid home name next more e) is = absurd cc
  by_shape segments selector bindings raw _ (names_feed other number digits auid usage xui name e spelled stored f) is = absurd cc
  by_shape segments selector bindings raw _ (names_element_feed number digits auid usage xui name text e spelled stored f some) is = absurd (no_element number _ raw is.0 is.2)
  by_shape segments selector bindings raw _ (names_flat xui name service e f) is = absurd cc

  by_names : (segments : List (List ℕ)) (selector query : Option (List ℕ)) (raw : List ℕ) → IsSegmentsAnswer segments selector query raw named → IsSegmentsAnswer (with_front segments) selector query raw asked
  by_names segments selector query raw is =
      let some = there (Document doc) is in
      let begun = there (Document doc) some.1 in
      let shape = there (Document doc) begun.1 in
      let bindings = there (Document doc) shape.2 in
      inl (
        (feed_some, (mode_some mode, (tag_some tag n is_tag, some.0))),
        inl (
          inl refl,
          inl (
            shapes.Feed mode n doc,
            by_shape segments selector bindings.0 raw shape.0 shape.1 bindings.2,
            inl (bindings.0, bindings.1, refl),
          ),
        ),
      )

  digits_are : list_all is_ascii_digit (encode_utf8_all tag) ≡ true
  digits_are = numeral_digits (encode_utf8_all tag) n is_tag

  tag_stands : DecodesTo (encode_utf8_all tag) tag
  tag_stands =
      let ascii = numeral_ascii (encode_utf8_all tag) n is_tag in
      let same : encode_utf8_all tag ≡ tag = encodes_same (encode_utf8_all tag) tag (encodes-IsAscii (encode_utf8_all tag) ascii) in
      subst (DecodesTo (encode_utf8_all tag)) (chars-IsAscii (encode_utf8_all tag) ascii ∙ same) (numeral_stands (encode_utf8_all tag) n is_tag)

  segments_in_front : (segments texts : List (List ℕ)) (selector : Option (List ℕ)) → AreSegments segments texts selector
      → AreSegments (codes "~feed" ∷ mode_text mode ∷ encode_utf8_all tag ∷ segments) (with_front texts) selector
  segments_in_front segments texts selector are =
      (feed_stands, feed_differs, (mode_stands mode, mode_differs mode, (tag_stands, no_tag (codes "~~") tag n (word_letters (codes "~~") refl) refl is_tag, are)))

  path_in_front : (id : List ℕ) (texts : List (List ℕ)) (selector : Option (List ℕ)) → IsSplitPath (front_before question id) (texts, selector)
      → IsSplitPath (front_before question (behind_root mode (encode_utf8_all tag) id)) (with_front texts, selector)
  path_in_front id texts selector are =
      let cut : pieces slash (front_before question (behind_root mode (encode_utf8_all tag) id)) ≡ codes "~feed" ∷ mode_text mode ∷ encode_utf8_all tag ∷ pieces slash (front_before question id) =
      ap (pieces slash) (cut_before mode (encode_utf8_all tag) digits_are id) ∙ parts mode (encode_utf8_all tag) digits_are (front_before question id) in
      subst (λ (l : List (List ℕ)). AreSegments l (with_front texts) selector) (sym cut) (segments_in_front (pieces slash (front_before question id)) texts selector are)

  -- the parts after the path, by the query's text
  abbrev BehindPath : Option (List ℕ) → List (List ℕ) → Option (List ℕ) → Result Target UriFault → Type 0
  BehindPath query segments selector answer =
      FirstOrFault (DecodesToOptional selector) BadEscape (λ s. FirstOrFault (DecodesToOptional query) BadEscape (λ q. IsSegmentsAnswer segments s q (raw_text selector query))) answer

  by_path : (query : Option (List ℕ)) (segments : List (List ℕ)) (selector : Option (List ℕ)) → BehindPath query segments selector named → BehindPath query (with_front segments) selector asked
  by_path query segments selector is =
      let s = there (Document doc) is in
      let q = there (Document doc) s.2 in
      inl (s.0, s.1, inl (q.0, q.1, by_names segments s.0 q.0 (raw_text selector query) q.2))

  by_rest : (id : List ℕ) → IsRestAnswer id named → IsRestAnswer (behind_root mode (encode_utf8_all tag) id) asked
  by_rest id is =
      let path = there (Document doc) is in
      inl (
        (with_front path.0.0, path.0.1),
        path_in_front id path.0.0 path.0.1 path.1,
        subst (λ (q : Option (List ℕ)). BehindPath q (with_front path.0.0) path.0.1 asked) (sym (cut_behind mode (encode_utf8_all tag) digits_are id))
            (by_path (rest_after question id) path.0.0 path.0.1 path.2),
      )

-- ---- the whole address

pub rest_inside : (path rest : List ℕ) → rest_under path (path ++ (slash ∷ rest)) ≡ Some rest
rest_inside path rest = rw (after_append path (slash ∷ rest)) refl

pub under_itself : (root rest : List ℕ) → rest_under_root root (root ++ (slash ∷ rest)) ≡ Some rest
under_itself root rest = rw (rest_inside root rest) refl

pub same_rest : (o : Option (List ℕ)) (a b : List ℕ) → o ≡ Some a → o ≡ Some b → a ≡ b
same_rest o a b e f = let both : Some a ≡ Some b = sym e ∙ f in cc

pub means_feed : (root : List ℕ) (mode : Mode) (n : ℕ) (tag : List ℕ) (doc : DocId) → HasFeed doc → parse_tag tag ≡ Some n
    → IsTargetResult root (root ++ (slash ∷ id_text doc)) (Ok (Document doc)) → IsTargetResult root (feed_address root mode tag doc) (Ok (Feed mode n doc))
means_feed root mode n tag doc has is_tag is =
    let rest = there (Document doc) is in
    let same : rest.0 ≡ id_text doc = same_rest (rest_under_root root (root ++ (slash ∷ id_text doc))) rest.0 (id_text doc) rest.1 (under_itself root (id_text doc)) in
    let here : IsRestAnswer (id_text doc) (Ok (Document doc)) = subst (λ (r : List ℕ). IsRestAnswer r (Ok (Document doc))) same rest.2 in
    let digits = encode_utf8_all tag in
    subst (λ (target : List ℕ). IsTargetResult root target (Ok (Feed mode n doc))) (sym (regrouped root (codes "/~feed/") (mode_text mode) (codes "/") digits (id_text doc)))
    (inl (behind_root mode digits (id_text doc), under_itself root (behind_root mode digits (id_text doc)), by_rest mode n tag doc has is_tag (id_text doc) here))

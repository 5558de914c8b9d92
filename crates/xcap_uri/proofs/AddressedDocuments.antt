-- The document whose feed an address asks for has a name that UTF-8 can write.
use Rattle.std.proofs.Common.{◌≡◌, ◌⊎◌, ℕ, true, ◌&&◌, if◌then◌else◌, List, [], ◌∷◌, Option, Result, Ok, Err, inl, inr, refl, sym, ap, ◌∙◌}
use Rattle.std.proofs.lemmas.Bool.{and_from, and_parts}
use Rattle.std.proofs.lemmas.Str.{IsUtf8-from_is_utf8, scalars-chars}
use Rattle.std.specs.List.{list_all}
use Rattle.std.specs.Str.{all_scalars, chars, is_utf8}
use Rattle.percent_encoding.specs.Percent.{percent_decode}
use Rattle.xml_names.specs.declared.names.Decl.{Decl}
use Rattle.doc_names.specs.declared.doc_id.DocId.{DocId}
use Rattle.doc_names.specs.declared.doc_id.Home.TheVariants.{User}
use Rattle.doc_names.specs.Usages.{auid_text}
use Rattle.node_select.specs.declared.fault.SelectorFault.{SelectorFault}
use Rattle.node_select.specs.declared.selector.End.{End}
use Rattle.node_select.specs.declared.selector.End.TheVariants as ends
use Rattle.node_select.specs.declared.selector.Selector.{Selector}
use Rattle.xcap_uri.specs.Delimiters.{front_before, rest_after, pieces}
use Rattle.xcap_uri.specs.Escapes.{DecodesTo, has_complete_escapes}
use Rattle.xcap_uri.specs.Roots.{slash}
use Rattle.xcap_uri.specs.Shapes.{NamesShape, doc_of, mode_name, names_deep, names_document, names_element_feed, names_feed, names_flat, names_node}
use Rattle.xcap_uri.specs.Targets.{AreSegments, ShapeMeans, IsSegmentsAnswer, IsRestAnswer, IsTargetResult, element_feed_target, is_element_end, node_target, question, raw_text}
use Rattle.xcap_uri.specs.Words.{feed, users}
use Rattle.xcap_uri.specs.declared.fault.UriFault.{UriFault}
use Rattle.xcap_uri.specs.declared.fault.UriFault.TheVariants.{BadSelector}
use Rattle.xcap_uri.specs.declared.shape.Shape.{Shape}
use Rattle.xcap_uri.specs.declared.target.Mode.{Mode}
use Rattle.xcap_uri.specs.declared.target.Target.{Target}
use Rattle.xcap_uri.specs.declared.target.Target.TheVariants.{Feed, ElementFeed}
use Rattle.xcap_uri.specs.PrintedNames.{is_encodable}

-- ---- the texts of segments

text_encodable : (segment text : List ℕ) → DecodesTo segment text → all_scalars text ≡ true
text_encodable segment text s =
    let utf8 = (and_parts (has_complete_escapes segment) (is_utf8 (percent_decode segment)) s.stands).1 in
    ap all_scalars s.decoded ∙ scalars-chars (percent_decode segment) (IsUtf8-from_is_utf8 (percent_decode segment) utf8)

texts_encodable : (segments texts : List (List ℕ)) (selector : Option (List ℕ)) → AreSegments segments texts selector → list_all all_scalars texts ≡ true
texts_encodable [] texts selector h = ap (list_all all_scalars) h.0
texts_encodable (segment ∷ segments) [] selector h = refl
texts_encodable (segment ∷ segments) (text ∷ texts) selector h =
    and_from (all_scalars text) (list_all all_scalars texts) (text_encodable segment text h.0) (texts_encodable segments texts selector h.2)

behind_one : (text : List ℕ) (texts : List (List ℕ)) → list_all all_scalars (text ∷ texts) ≡ true → list_all all_scalars texts ≡ true
behind_one text texts h = (and_parts (all_scalars text) (list_all all_scalars texts) h).1

-- the last two of the seven that name a feed
in_feed_encodable : (a b c d e xui name : List ℕ) → list_all all_scalars (a ∷ b ∷ c ∷ d ∷ e ∷ xui ∷ name ∷ []) ≡ true → (all_scalars xui && all_scalars name) ≡ true
in_feed_encodable a b c d e xui name h =
    let two = behind_one e (xui ∷ name ∷ []) (behind_one d (e ∷ xui ∷ name ∷ []) (behind_one c (d ∷ e ∷ xui ∷ name ∷ []) (behind_one b (c ∷ d ∷ e ∷ xui ∷ name ∷ []) (behind_one a (b ∷ c ∷ d ∷ e ∷ xui ∷ name ∷ []) h)))) in
    let user = and_parts (all_scalars xui) (list_all all_scalars (name ∷ [])) two in
    and_from (all_scalars xui) (all_scalars name) user.0 (and_parts (all_scalars name) true user.1).0

-- ---- what an address means that asks for a feed

-- a result that is no fault comes from the first of the two ways
pub there : {Found Missing : Type 0} {fault : UriFault} (t : Target) → Found ⊎ (Missing × ◌≡◌ {A = Result Target UriFault} (Ok t) (Err fault)) → Found
there t (inl found) = found
there t (inr none) = absurd (no none.1)
  where
    no : {fault : UriFault} → ◌≡◌ {A = Result Target UriFault} (Ok t) (Err fault) → ⊥
    no e = cc

module _ (mode : Mode) (tag : ℕ) (doc : DocId) where
  abbrev asked : Result Target UriFault
  asked = Ok (Feed mode tag doc)

  no_part : (other : DocId) (read : Result Selector SelectorFault) → asked ≡ node_target other read → ⊥
  no_part other (Ok selector) e = cc
  no_part other (Err fault) e = cc

  no_end : (number : ℕ) (other : DocId) (raw : List ℕ) (selector : Selector) (end : End) → asked ≡ (if is_element_end end then Ok (ElementFeed number other selector raw) else Err BadSelector) → ⊥
  no_end number other raw selector ends.Element e = cc
  no_end number other raw selector (ends.Attribute uri local) e = cc
  no_end number other raw selector ends.Namespaces e = cc

  no_element : (number : ℕ) (other : DocId) (raw : List ℕ) (read : Result Selector SelectorFault) → asked ≡ element_feed_target number other raw read → ⊥
  no_element number other raw (Ok selector) e = no_end number other raw selector selector.end e
  no_element number other raw (Err fault) e = cc

  by_shape : (segments : List (List ℕ)) (selector : Option (List ℕ)) (bindings : List Decl) (raw : List ℕ) (shape : Shape) → NamesShape segments selector shape → list_all all_scalars segments ≡ true → ShapeMeans bindings raw shape asked → is_encodable doc ≡ true
  by_shape segments selector bindings raw _ (names_document auid home name e f) h is = absurd cc
  by_shape segments selector bindings raw _ (names_node auid home name text e f some) h is = absurd (no_part _ is.0 is.2)
  by_shape segments selector bindings raw _ (names_deep auid home name next more e) h is = absurd cc
  by_shape segments selector bindings raw _ (names_feed other number digits auid usage xui name e is_tag stored f) h is =
      let same : doc_of auid (User xui) name ≡ doc = cc in
      ap is_encodable (sym same) ∙ in_feed_encodable feed (mode_name other) digits (chars (auid_text auid)) users xui name (ap (list_all all_scalars) (sym e) ∙ h)
  by_shape segments selector bindings raw _ (names_element_feed number digits auid usage xui name text e is_tag stored f some) h is = absurd (no_element number _ raw is.0 is.2)
  by_shape segments selector bindings raw _ (names_flat xui name service e f) h is = absurd cc

  by_names : (segments : List (List ℕ)) (selector query : Option (List ℕ)) (raw : List ℕ) → list_all all_scalars segments ≡ true → IsSegmentsAnswer segments selector query raw asked → is_encodable doc ≡ true
  by_names segments selector query raw h is =
      let named = there (Feed mode tag doc) is in
      let begun = there (Feed mode tag doc) named.1 in
      let shape = there (Feed mode tag doc) begun.1 in
      let bindings = there (Feed mode tag doc) shape.2 in
      by_shape segments selector bindings.0 raw shape.0 shape.1 h bindings.2

  by_rest : (rest : List ℕ) → IsRestAnswer rest asked → is_encodable doc ≡ true
  by_rest rest is =
      let path = there (Feed mode tag doc) is in
      let selector = there (Feed mode tag doc) path.2 in
      let query = there (Feed mode tag doc) selector.2 in
      by_names path.0.0 selector.0 query.0 (raw_text path.0.1 (rest_after question rest)) (texts_encodable (pieces slash (front_before question rest)) path.0.0 path.0.1 path.1) query.2

pub addressed : (root target : List ℕ) (mode : Mode) (tag : ℕ) (doc : DocId) → IsTargetResult root target (Ok (Feed mode tag doc)) → is_encodable doc ≡ true
addressed root target mode tag doc is =
    let rest = there (Feed mode tag doc) is in
    by_rest mode tag doc rest.0 rest.2

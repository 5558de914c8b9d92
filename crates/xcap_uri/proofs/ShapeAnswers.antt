-- What segments name is found exactly.
use Rattle.std.proofs.Common.{◌≡◌, ◌≢◌, ℕ, Bool, true, false, cond, List, [], ◌∷◌, Option, None, Some, option_map, Result, Ok, Err, ◌⊎◌, inl, inr, refl, sym, ap, subst, ◌∙◌, true≢false}
use Rattle.std.proofs.lemmas.Bool.{or_parts}
use Rattle.std.specs.Cmp.Lexicographic.{bytes_decides}
use Rattle.std.specs.List.{list_any}
use Rattle.std.specs.Str.{bytes_eq, chars}
use Rattle.doc_names.specs.declared.doc_id.Auid.{Auid}
use Rattle.doc_names.specs.declared.doc_id.Auid.TheVariants.{ResourceLists, RlsServices, XcapCaps}
use Rattle.doc_names.specs.declared.doc_id.Home.{Home}
use Rattle.doc_names.specs.declared.doc_id.Home.TheVariants.{Global, User}
use Rattle.doc_names.specs.declared.doc_id.DocId.{DocId}
use Rattle.doc_names.specs.declared.usages.Usage.{Usage}
use Rattle.doc_names.specs.declared.usages.Usage.TheVariants as usages
use Rattle.doc_names.specs.Usages.{auid_text, usage_of}
use Rattle.xml_names.specs.declared.read_error.ReadError.TheVariants.{Fault}
use Rattle.xcap_uri.specs.readers.Steps.{UriError}
use Rattle.xcap_uri.specs.Shapes.{mode_name, doc_of, segments_in_home, feed_segments, NamesShape, names_document, names_node, names_deep, names_feed, names_element_feed, names_flat, HasKnownFirstSegment, AreNonEmpty, parse_tag as tag_of}
use Rattle.xcap_uri.specs.readers.Shapes as reader
use Rattle.xcap_uri.specs.Words.{global, users, feed, flat, element_word as element}
use Rattle.xcap_uri.specs.readers.Words.{resource_lists, rls_services, xcap_caps, no_patching, xcap_patching, aggregate}
use Rattle.xcap_uri.specs.declared.fault.UriFault.TheVariants.{BadShape, UnknownAuid}
use Rattle.xcap_uri.specs.declared.shape.Shape.{Shape}
use Rattle.xcap_uri.specs.declared.shape.Shape.TheVariants.{Document, Node, Deep, Feed, ElementFeed, Flat}
use Rattle.xcap_uri.specs.declared.target.Mode.{Mode}
use Rattle.xcap_uri.specs.declared.target.Mode.TheVariants.{NoPatching, XcapPatching, Aggregate}
use Rattle.xcap_uri.proofs.FaultOrder.{Decides}

-- ---- words

is_word : (text word : List ℕ) → bytes_eq text word ≡ true → text ≡ word
is_word text word e = (bytes_decides text word).0 e

no_word : (text word : List ℕ) → bytes_eq text word ≡ false → text ≡ word → ⊥
no_word text word e same = true≢false (sym ((bytes_decides text word).1 same) ∙ e)

-- ---- what is read is named

module _ (segments : List (List ℕ)) (selector : Option (List ℕ)) where
  -- a shape that the segments name, or the fault that there is none
  abbrev pub Good : Result Shape UriError → Type 0
  Good (Ok shape) = NamesShape segments selector shape
  Good (Err e) = e ≡ Fault BadShape

  document_good : (auid : Auid) (home : Home) (name : List ℕ) (s : Option (List ℕ)) → selector ≡ s → segments ≡ segments_in_home auid home (name ∷ []) → Good (reader.document_shape (doc_of auid home name) s)
  document_good auid home name None e h = names_document auid home name h e
  document_good auid home name (Some []) e h = refl
  document_good auid home name (Some (c ∷ cs)) e h = names_node auid home name (c ∷ cs) h e (λ same. absurd cc)

  home_good : (auid : Auid) (home : Home) (rest : List (List ℕ)) (s : Option (List ℕ)) → selector ≡ s → segments ≡ segments_in_home auid home rest → Good (reader.home_shape auid home rest s)
  home_good auid home [] s e h = refl
  home_good auid home (name ∷ []) s e h = document_good auid home name s e h
  home_good auid home (name ∷ next ∷ more) s e h = names_deep auid home name next more h

  user_good : (auid : Auid) (rest : List (List ℕ)) (s : Option (List ℕ)) → selector ≡ s → segments ≡ chars (auid_text auid) ∷ users ∷ rest → Good (reader.user_shape auid rest s)
  user_good auid [] s e h = refl
  user_good auid (xui ∷ rest) s e h = home_good auid (User xui) rest s e h

  tree_good : (auid : Auid) (tree : List ℕ) (rest : List (List ℕ)) (s : Option (List ℕ)) → selector ≡ s → segments ≡ chars (auid_text auid) ∷ tree ∷ rest
      → (x : Bool) → bytes_eq tree global ≡ x → (y : Bool) → bytes_eq tree users ≡ y → Good (cond x (reader.home_shape auid Global rest s) (cond y (reader.user_shape auid rest s) (Err (Fault BadShape))))
  tree_good auid tree rest s e h true i y j = home_good auid Global rest s e (h ∙ ap (λ (z : List ℕ). chars (auid_text auid) ∷ z ∷ rest) (is_word tree global i))
  tree_good auid tree rest s e h false i true j = user_good auid rest s e (h ∙ ap (λ (z : List ℕ). chars (auid_text auid) ∷ z ∷ rest) (is_word tree users j))
  tree_good auid tree rest s e h false i false j = refl

  usage_good : (auid : Auid) (rest : List (List ℕ)) (s : Option (List ℕ)) → selector ≡ s → segments ≡ chars (auid_text auid) ∷ rest → Good (reader.usage_shape auid rest s)
  usage_good auid [] s e h = refl
  usage_good auid (tree ∷ rest) s e h = tree_good auid tree rest s e h (bytes_eq tree global) refl (bytes_eq tree users) refl

  -- ---- feeds

  module _ (digits xui name : List ℕ) (auid : Auid) (usage : Usage) (stored : usage_of auid ≡ Some usage) (tag : ℕ) (is_tag : tag_of digits ≡ Some tag) where
    abbrev Doc : DocId
    Doc = doc_of auid (User xui) name

    element_good : (s : Option (List ℕ)) → selector ≡ s → segments ≡ feed_segments element digits auid xui name → Good (reader.element_feed_shape tag Doc s)
    element_good None e h = refl
    element_good (Some []) e h = refl
    element_good (Some (c ∷ cs)) e h = names_element_feed tag digits auid usage xui name (c ∷ cs) h is_tag stored e (λ same. absurd cc)

    mode_good : (mode : Mode) (s : Option (List ℕ)) → selector ≡ s → segments ≡ feed_segments (mode_name mode) digits auid xui name → Good (reader.document_feed_shape (Some mode) tag Doc s)
    mode_good mode None e h = names_feed mode tag digits auid usage xui name h is_tag stored e
    mode_good mode (Some text) e h = refl

    no_mode : (s : Option (List ℕ)) → Good (reader.document_feed_shape None tag Doc s)
    no_mode s = refl

    feed_with : List ℕ → List (List ℕ)
    feed_with mode = feed_segments mode digits auid xui name

    modes_good : (mode : List ℕ) (s : Option (List ℕ)) → selector ≡ s → segments ≡ feed_segments mode digits auid xui name → (x : Bool) → bytes_eq mode no_patching ≡ x → (y : Bool) → bytes_eq mode xcap_patching ≡ y
        → (z : Bool) → bytes_eq mode aggregate ≡ z → Good (reader.document_feed_shape (cond x (Some NoPatching) (cond y (Some XcapPatching) (cond z (Some Aggregate) None))) tag Doc s)
    unfolding feed_with
    modes_good mode s e h true i y j z k = mode_good NoPatching s e (h ∙ ap feed_with (is_word mode no_patching i))
    modes_good mode s e h false i true j z k = mode_good XcapPatching s e (h ∙ ap feed_with (is_word mode xcap_patching j))
    modes_good mode s e h false i false j true k = mode_good Aggregate s e (h ∙ ap feed_with (is_word mode aggregate k))
    modes_good mode s e h false i false j false k = no_mode s

    either_good : (mode : List ℕ) (s : Option (List ℕ)) → selector ≡ s → segments ≡ feed_segments mode digits auid xui name → (x : Bool) → bytes_eq mode element ≡ x
        → Good (cond x (reader.element_feed_shape tag Doc s) (reader.document_feed_shape (reader.mode_of mode) tag Doc s))
    unfolding feed_with
    either_good mode s e h true i = element_good s e (h ∙ ap feed_with (is_word mode element i))
    either_good mode s e h false i = modes_good mode s e h (bytes_eq mode no_patching) refl (bytes_eq mode xcap_patching) refl (bytes_eq mode aggregate) refl

  feed_by : (mode digits auid tree xui name : List ℕ) (s : Option (List ℕ)) → selector ≡ s → segments ≡ feed ∷ mode ∷ digits ∷ auid ∷ tree ∷ xui ∷ name ∷ []
      → (t : Option ℕ) → tag_of digits ≡ t → (u : Bool) → bytes_eq tree users ≡ u → (x : Bool) → bytes_eq auid resource_lists ≡ x → (y : Bool) → bytes_eq auid rls_services ≡ y
      → Good (reader.feed_shape_by_mode mode t (cond u (option_map (λ a. doc_of a (User xui) name) (cond x (Some ResourceLists) (cond y (Some RlsServices) None))) None) s)
  feed_by mode digits auid tree xui name s e h None f u g x i y j = refl
  feed_by mode digits auid tree xui name s e h (Some tag) f false g x i y j = refl
  feed_by mode digits auid tree xui name s e h (Some tag) f true g true i y j =
      either_good digits xui name ResourceLists usages.ResourceLists refl tag f mode s e
      (h ∙ ap (λ (z : List ℕ). feed ∷ mode ∷ digits ∷ auid ∷ z ∷ xui ∷ name ∷ []) (is_word tree users g) ∙ ap (λ (z : List ℕ). feed ∷ mode ∷ digits ∷ z ∷ users ∷ xui ∷ name ∷ []) (is_word auid resource_lists i)) (bytes_eq mode element) refl
  feed_by mode digits auid tree xui name s e h (Some tag) f true g false i true j =
      either_good digits xui name RlsServices usages.RlsServices refl tag f mode s e
      (h ∙ ap (λ (z : List ℕ). feed ∷ mode ∷ digits ∷ auid ∷ z ∷ xui ∷ name ∷ []) (is_word tree users g) ∙ ap (λ (z : List ℕ). feed ∷ mode ∷ digits ∷ z ∷ users ∷ xui ∷ name ∷ []) (is_word auid rls_services j)) (bytes_eq mode element) refl
  feed_by mode digits auid tree xui name s e h (Some tag) f true g false i false j = refl

  feed_good : (rest : List (List ℕ)) (s : Option (List ℕ)) → selector ≡ s → segments ≡ feed ∷ rest → Good (reader.feed_shape rest s)
  feed_good (mode ∷ digits ∷ auid ∷ tree ∷ xui ∷ name ∷ []) s e h =
      feed_by mode digits auid tree xui name s e h (tag_of digits) refl (bytes_eq tree users) refl (bytes_eq auid resource_lists) refl (bytes_eq auid rls_services) refl
  feed_good _ s e h = refl

  flat_good : (rest : List (List ℕ)) (s : Option (List ℕ)) → selector ≡ s → segments ≡ flat ∷ rest → Good (reader.flat_shape rest s)
  flat_good (xui ∷ name ∷ service ∷ []) None e h = names_flat xui name service h e
  flat_good _ s e h = refl

  -- ---- all

  no_usage : (first : List ℕ) (rest : List (List ℕ)) → bytes_eq first feed ≡ false → bytes_eq first flat ≡ false → bytes_eq first resource_lists ≡ false → bytes_eq first rls_services ≡ false → bytes_eq first xcap_caps ≡ false
      → HasKnownFirstSegment (first ∷ rest) → ⊥
  no_usage first rest a b c d f (inl e) = no_word first feed a e
  no_usage first rest a b c d f (inr (inl e)) = no_word first flat b e
  no_usage first rest a b c d f (inr (inr (ResourceLists, e))) = no_word first resource_lists c e
  no_usage first rest a b c d f (inr (inr (RlsServices, e))) = no_word first rls_services d e
  no_usage first rest a b c d f (inr (inr (XcapCaps, e))) = no_word first xcap_caps f e

  -- they begin rightly, and what is read is good; or they don't, and no AUID is known
  abbrev Judged : List (List ℕ) → Result Shape UriError → Type 0
  Judged all r = (HasKnownFirstSegment all × Good r) ⊎ ((HasKnownFirstSegment all → ⊥) × (r ≡ Err (Fault UnknownAuid)))

  first_judged : (first : List ℕ) (rest : List (List ℕ)) → segments ≡ first ∷ rest → (a : Bool) → bytes_eq first feed ≡ a → (b : Bool) → bytes_eq first flat ≡ b → (x : Bool) → bytes_eq first resource_lists ≡ x
      → (y : Bool) → bytes_eq first rls_services ≡ y → (z : Bool) → bytes_eq first xcap_caps ≡ z
      → Judged (first ∷ rest) (cond a (reader.feed_shape rest selector) (cond b (reader.flat_shape rest selector) (reader.usage_shape_if_known (cond x (Some ResourceLists) (cond y (Some RlsServices) (cond z (Some XcapCaps) None))) rest selector)))
  first_judged first rest h true i b j x k y l z m = inl (inl (is_word first feed i), feed_good rest selector refl (h ∙ ap (λ (w : List ℕ). w ∷ rest) (is_word first feed i)))
  first_judged first rest h false i true j x k y l z m = inl (inr (inl (is_word first flat j)), flat_good rest selector refl (h ∙ ap (λ (w : List ℕ). w ∷ rest) (is_word first flat j)))
  first_judged first rest h false i false j true k y l z m =
      inl (inr (inr (ResourceLists, is_word first resource_lists k)), usage_good ResourceLists rest selector refl (h ∙ ap (λ (w : List ℕ). w ∷ rest) (is_word first resource_lists k)))
  first_judged first rest h false i false j false k true l z m =
      inl (inr (inr (RlsServices, is_word first rls_services l)), usage_good RlsServices rest selector refl (h ∙ ap (λ (w : List ℕ). w ∷ rest) (is_word first rls_services l)))
  first_judged first rest h false i false j false k false l true m =
      inl (inr (inr (XcapCaps, is_word first xcap_caps m)), usage_good XcapCaps rest selector refl (h ∙ ap (λ (w : List ℕ). w ∷ rest) (is_word first xcap_caps m)))
  first_judged first rest h false i false j false k false l false m = inr (no_usage first rest i j k l m, refl)

  all_judged : (all : List (List ℕ)) → segments ≡ all → Judged all (reader.shape_of_segments all selector)
  all_judged [] h = inr (λ b. b, refl)
  all_judged (first ∷ rest) h =
      first_judged first rest h (bytes_eq first feed) refl (bytes_eq first flat) refl (bytes_eq first resource_lists) refl (bytes_eq first rls_services) refl (bytes_eq first xcap_caps) refl

pub judged : (segments : List (List ℕ)) (selector : Option (List ℕ)) → (HasKnownFirstSegment segments × Good segments selector (reader.shape_of_segments segments selector)) ⊎ ((HasKnownFirstSegment segments → ⊥) × (reader.shape_of_segments segments selector ≡ Err (Fault UnknownAuid)))
judged segments selector = all_judged segments selector segments refl

-- ---- what is named is read

abbrev Read : Type 0
Read = Result Shape UriError

document_is : (auid : Auid) (home : Home) (name : List ℕ) → reader.shape_of_segments (segments_in_home auid home (name ∷ [])) None ≡ Ok (Document (doc_of auid home name))
unfolding chars
document_is ResourceLists Global name = refl
document_is ResourceLists (User xui) name = refl
document_is RlsServices Global name = refl
document_is RlsServices (User xui) name = refl
document_is XcapCaps Global name = refl
document_is XcapCaps (User xui) name = refl

node_is : (auid : Auid) (home : Home) (name : List ℕ) (c : ℕ) (cs : List ℕ) → reader.shape_of_segments (segments_in_home auid home (name ∷ [])) (Some (c ∷ cs)) ≡ Ok (Node (doc_of auid home name) (c ∷ cs))
unfolding chars
node_is ResourceLists Global name c cs = refl
node_is ResourceLists (User xui) name c cs = refl
node_is RlsServices Global name c cs = refl
node_is RlsServices (User xui) name c cs = refl
node_is XcapCaps Global name c cs = refl
node_is XcapCaps (User xui) name c cs = refl

deep_is : (auid : Auid) (home : Home) (name next : List ℕ) (more : List (List ℕ)) (selector : Option (List ℕ)) → reader.shape_of_segments (segments_in_home auid home (name ∷ next ∷ more)) selector ≡ Ok (Deep auid home)
unfolding chars
deep_is ResourceLists Global name next more selector = refl
deep_is ResourceLists (User xui) name next more selector = refl
deep_is RlsServices Global name next more selector = refl
deep_is RlsServices (User xui) name next more selector = refl
deep_is XcapCaps Global name next more selector = refl
deep_is XcapCaps (User xui) name next more selector = refl

feed_is : (mode digits : List ℕ) (auid : Auid) (usage : Usage) (xui name : List ℕ) (selector : Option (List ℕ)) → usage_of auid ≡ Some usage
    → reader.shape_of_segments (feed_segments mode digits auid xui name) selector ≡ reader.feed_shape_by_mode mode (tag_of digits) (Some (doc_of auid (User xui) name)) selector
unfolding chars
feed_is mode digits ResourceLists usage xui name selector e = refl
feed_is mode digits RlsServices usage xui name selector e = refl
feed_is mode digits XcapCaps usage xui name selector e = absurd cc

mode_is : (mode : Mode) (tag : ℕ) (doc : DocId) → reader.feed_shape_by_mode (mode_name mode) (Some tag) (Some doc) None ≡ Ok (Feed mode tag doc)
unfolding chars
mode_is NoPatching tag doc = refl
mode_is XcapPatching tag doc = refl
mode_is Aggregate tag doc = refl

element_is : (tag : ℕ) (doc : DocId) (c : ℕ) (cs : List ℕ) → reader.feed_shape_by_mode element (Some tag) (Some doc) (Some (c ∷ cs)) ≡ Ok (ElementFeed tag doc (c ∷ cs))
unfolding chars
element_is tag doc c cs = refl

flat_is : (xui name service : List ℕ) → reader.shape_of_segments (flat ∷ xui ∷ name ∷ service ∷ []) None ≡ Ok (Flat (doc_of RlsServices (User xui) name) service)
unfolding chars
flat_is xui name service = refl

-- of equal segments and selectors
moved : (segments all : List (List ℕ)) (selector s : Option (List ℕ)) (r : Read) → segments ≡ all → selector ≡ s → reader.shape_of_segments all s ≡ r → reader.shape_of_segments segments selector ≡ r
moved segments all selector s r e f h = ap (λ (z : List (List ℕ)). reader.shape_of_segments z selector) e ∙ ap (reader.shape_of_segments all) f ∙ h

node_read : (auid : Auid) (home : Home) (name text : List ℕ) → text ≢ [] → reader.shape_of_segments (segments_in_home auid home (name ∷ [])) (Some text) ≡ Ok (Node (doc_of auid home name) text)
node_read auid home name [] some = absurd (some refl)
node_read auid home name (c ∷ cs) some = node_is auid home name c cs

element_read : (tag : ℕ) (doc : DocId) (text : List ℕ) → text ≢ [] → reader.feed_shape_by_mode element (Some tag) (Some doc) (Some text) ≡ Ok (ElementFeed tag doc text)
element_read tag doc [] some = absurd (some refl)
element_read tag doc (c ∷ cs) some = element_is tag doc c cs

feed_read : (mode digits : List ℕ) (auid : Auid) (usage : Usage) (xui name : List ℕ) (selector : Option (List ℕ)) (tag : ℕ) (r : Read) → usage_of auid ≡ Some usage → tag_of digits ≡ Some tag
    → reader.feed_shape_by_mode mode (Some tag) (Some (doc_of auid (User xui) name)) selector ≡ r → reader.shape_of_segments (feed_segments mode digits auid xui name) selector ≡ r
feed_read mode digits auid usage xui name selector tag r stored is_tag h =
    feed_is mode digits auid usage xui name selector stored ∙ ap (λ (z : Option ℕ). reader.feed_shape_by_mode mode z (Some (doc_of auid (User xui) name)) selector) is_tag ∙ h

complete : (segments : List (List ℕ)) (selector : Option (List ℕ)) (shape : Shape) → NamesShape segments selector shape → reader.shape_of_segments segments selector ≡ Ok shape
complete segments selector _ (names_document auid home name e f) = moved segments (segments_in_home auid home (name ∷ [])) selector None (Ok (Document (doc_of auid home name))) e f (document_is auid home name)
complete segments selector _ (names_node auid home name text e f some) =
    moved segments (segments_in_home auid home (name ∷ [])) selector (Some text) (Ok (Node (doc_of auid home name) text)) e f (node_read auid home name text some)
complete segments selector _ (names_deep auid home name next more e) =
    moved segments (segments_in_home auid home (name ∷ next ∷ more)) selector selector (Ok (Deep auid home)) e refl (deep_is auid home name next more selector)
complete segments selector _ (names_feed mode tag digits auid usage xui name e is_tag stored f) =
    moved segments (feed_segments (mode_name mode) digits auid xui name) selector None (Ok (Feed mode tag (doc_of auid (User xui) name))) e f
    (feed_read (mode_name mode) digits auid usage xui name None tag (Ok (Feed mode tag (doc_of auid (User xui) name))) stored is_tag (mode_is mode tag (doc_of auid (User xui) name)))
complete segments selector _ (names_element_feed tag digits auid usage xui name text e is_tag stored f some) =
    moved segments (feed_segments element digits auid xui name) selector (Some text) (Ok (ElementFeed tag (doc_of auid (User xui) name) text)) e f
    (feed_read element digits auid usage xui name (Some text) tag (Ok (ElementFeed tag (doc_of auid (User xui) name) text)) stored is_tag (element_read tag (doc_of auid (User xui) name) text some))
complete segments selector _ (names_flat xui name service e f) =
    moved segments (flat ∷ xui ∷ name ∷ service ∷ []) selector None (Ok (Flat (doc_of RlsServices (User xui) name) service)) e f (flat_is xui name service)

-- ---- segments that begin rightly

sound_of : (segments : List (List ℕ)) (selector : Option (List ℕ)) (r : Read) → Good segments selector r → (shape : Shape) → r ≡ Ok shape → NamesShape segments selector shape
sound_of segments selector (Ok x) g shape e = subst (NamesShape segments selector) (let i : x ≡ shape = cc in i) g
sound_of segments selector (Err x) g shape e = absurd cc

refused_of : (segments : List (List ℕ)) (selector : Option (List ℕ)) (r : Read) → Good segments selector r → (e : UriError) → r ≡ Err e → e ≡ Fault BadShape
refused_of segments selector (Ok x) g e h = absurd cc
refused_of segments selector (Err x) g e h = let i : x ≡ e = cc in sym i ∙ g

pub good_decided : (segments : List (List ℕ)) (selector : Option (List ℕ)) → Good segments selector (reader.shape_of_segments segments selector) → Decides (NamesShape segments selector) BadShape (reader.shape_of_segments segments selector)
good_decided segments selector g = record {
  sound = sound_of segments selector (reader.shape_of_segments segments selector) g;
  complete = complete segments selector;
  refused = refused_of segments selector (reader.shape_of_segments segments selector) g;
}

-- ---- names that are empty

some_named : (segment : List ℕ) → reader.is_empty segment ≡ false → segment ≢ []
some_named [] e = absurd (true≢false e)
some_named (c ∷ cs) e = λ same. absurd cc

pub all_named : (segments : List (List ℕ)) → list_any reader.is_empty segments ≡ false → AreNonEmpty segments
all_named [] e = tt
all_named (segment ∷ segments) e = let both = or_parts (reader.is_empty segment) (list_any reader.is_empty segments) e in (some_named segment both.0, all_named segments both.1)

is_named : (segment : List ℕ) → segment ≢ [] → reader.is_empty segment ≡ false
is_named [] some = absurd (some refl)
is_named (c ∷ cs) some = refl

none_empty : (segments : List (List ℕ)) → AreNonEmpty segments → list_any reader.is_empty segments ≡ false
none_empty [] all = refl
none_empty (segment ∷ segments) all = rw (is_named segment all.0) (none_empty segments all.1)

pub one_empty : (segments : List (List ℕ)) → list_any reader.is_empty segments ≡ true → AreNonEmpty segments → ⊥
one_empty segments e all = true≢false (sym e ∙ none_empty segments all)

-- An address can name every id in a target.
use Rattle.std.proofs.Common.{◌≡◌, ◌≢◌, ℕ, Bool, true, false, List, [], ◌∷◌, Option, None, Some, ap, IfSome, option_map, Result, Ok, Err, IfOk, refl, sym, ◌∙◌, true≢false, subst, ◌⊎◌, ⊎_elim, if◌then◌else◌}
use Rattle.std.proofs.lemmas.Bool.{or_parts}
use Rattle.std.specs.Cmp.Lexicographic.{bytes_decides}
use Rattle.std.specs.List.{list_any, join_with_byte as joined}
use Rattle.std.specs.Str.{bytes_eq}
use Rattle.xml_names.specs.declared.names.Decl.{Decl}
use Rattle.doc_names.specs.declared.doc_id.Auid.{Auid}
use Rattle.doc_names.specs.declared.doc_id.Home.{Home}
use Rattle.doc_names.specs.declared.doc_id.Home.TheVariants.{Global, User}
use Rattle.doc_names.specs.declared.doc_id.DocId.{DocId}
use Rattle.xml_names.specs.declared.read_error.ReadError.TheVariants.{Fault, NoMemory}
use Rattle.xcap_uri.specs.declared.fault.UriFault.TheVariants.{BadShape}
use Rattle.xcap_uri.specs.declared.shape.Shape.{Shape}
use Rattle.xcap_uri.specs.declared.shape.Shape.TheVariants.{Document, Node, Deep, Feed, ElementFeed, Flat}
use Rattle.xcap_uri.specs.declared.target.Mode.{Mode}
use Rattle.xcap_uri.specs.declared.target.Target.{Target}
use Rattle.xcap_uri.specs.Delimiters.{front_before, rest_after, pieces}
use Rattle.xcap_uri.specs.readers.Escapes.{parsed_text, parsed_optional_text}
use Rattle.xcap_uri.specs.readers.Steps.{UriError, ◌>>=◌}
use Rattle.doc_names.specs.DocIds.{IsDocumentSegment, IsAddressable, IsAddressableHome}
use Rattle.xcap_uri.specs.readers.Queries.{parsed_optional_bindings}
use Rattle.xcap_uri.specs.Roots.{slash}
use Rattle.xcap_uri.specs.Shapes.{doc_of, parse_tag as tag_of}
use Rattle.xcap_uri.specs.readers.Shapes as Shapes
use Rattle.xcap_uri.specs.Targets.{raw_text, question, IsReadableTarget, rest_under_root}
use Rattle.xcap_uri.specs.readers.Targets.{parsed_segments, parsed_path, target_of, parsed_target_selector, require_element, parsed_rest, parsed_under_root, parsed_target}
use Rattle.xcap_uri.specs.Words.{users, global, feed, flat}
use Rattle.doc_names.specs.DocIds.{selector_separator}

-- a step after another, and a choice between two
bind_ok : {A B : Type 0} (r : Result A UriError) (f : A → Result B UriError) (P : A → Type 0) (Q : B → Type 0) → IfOk r P → ((x : A) → P x → IfOk (f x) Q) → IfOk (r >>= f) Q
bind_ok (Ok x) f P Q p g = g x p
bind_ok (Err e) f P Q p g = tt

if_ok : {A : Type 0} (b : Bool) (x y : Result A UriError) (P : A → Type 0) → IfOk x P → IfOk y P → IfOk (if b then x else y) P
if_ok true x y P p q = p
if_ok false x y P p q = q

always : {A : Type 0} (r : Result A UriError) → IfOk r (λ _. Unit {0})
always (Ok x) = tt
always (Err e) = tt

-- ---- segments

AreFree : List (List ℕ) → Type 0
AreFree [] = Unit {0}
AreFree (t ∷ ts) = (t ≢ selector_separator) × AreFree ts

differ : (text : List ℕ) → bytes_eq text selector_separator ≡ false → text ≢ selector_separator
differ text e same = true≢false (sym ((bytes_decides text selector_separator).1 same) ∙ e)

abbrev Segments : Type 0
Segments = Result (List (List ℕ) × Option (List ℕ)) UriError

separate : (text : List ℕ) (ss : List (List ℕ)) (b : Bool) → bytes_eq text selector_separator ≡ b → IfOk (parsed_segments ss) (λ x. AreFree x.0) → let read : Segments = if b then Ok ([], Some (joined slash ss)) else (parsed_segments ss >>= λ x. Ok (text ∷ x.0, x.1)) in IfOk read (λ x. AreFree x.0)
unfolding AreFree
separate text ss true e h = tt
separate text ss false e h = bind_ok (parsed_segments ss) (λ x. Ok (text ∷ x.0, x.1)) (λ x. AreFree x.0) (λ x. AreFree x.0) h (λ x free. (differ text e, free))

free : (ss : List (List ℕ)) → IfOk (parsed_segments ss) (λ x. AreFree x.0)
unfolding AreFree
free [] = tt
free (s ∷ ss) = bind_ok (parsed_text s) _ (λ _. Unit {0}) (λ x. AreFree x.0) (always (parsed_text s)) (λ text _. separate text ss (bytes_eq text selector_separator) refl (free ss))

AreNameable : List (List ℕ) → Type 0
AreNameable [] = Unit {0}
AreNameable (t ∷ ts) = IsDocumentSegment t × AreNameable ts

filled : (t : List ℕ) → Shapes.is_empty t ≡ false → t ≢ []
filled [] e = absurd (true≢false e)
filled (c ∷ cs) e = λ same. true≢false (sym (ap Shapes.is_empty same) ∙ e)

nameable : (ts : List (List ℕ)) → AreFree ts → list_any Shapes.is_empty ts ≡ false → AreNameable ts
unfolding AreFree AreNameable
nameable [] free e = tt
nameable (t ∷ ts) free e = let both = or_parts (Shapes.is_empty t) (list_any Shapes.is_empty ts) e in ((filled t both.0, free.0), nameable ts free.1 both.1)

-- ---- shapes

ReadableShape : Shape → Type 0
ReadableShape (Document doc) = IsAddressable doc
ReadableShape (Node doc text) = IsAddressable doc
ReadableShape (Deep auid home) = IsAddressableHome home
ReadableShape (Feed mode tag doc) = IsAddressable doc
ReadableShape (ElementFeed tag doc text) = IsAddressable doc
ReadableShape (Flat doc service) = IsAddressable doc

document_ok : (doc : DocId) (selector : Option (List ℕ)) → IsAddressable doc → IfOk (Shapes.document_shape doc selector) ReadableShape
unfolding ReadableShape
document_ok doc None good = good
document_ok doc (Some []) good = tt
document_ok doc (Some (c ∷ cs)) good = good

home_ok : (auid : Auid) (home : Home) (ts : List (List ℕ)) (selector : Option (List ℕ)) → IsAddressableHome home → AreNameable ts → IfOk (Shapes.home_shape auid home ts selector) ReadableShape
unfolding AreNameable ReadableShape
home_ok auid home [] selector good names = tt
home_ok auid home (name ∷ []) selector good names = document_ok (doc_of auid home name) selector (good, names.0)
home_ok auid home (name ∷ next ∷ more) selector good names = good

user_ok : (auid : Auid) (ts : List (List ℕ)) (selector : Option (List ℕ)) → AreNameable ts → IfOk (Shapes.user_shape auid ts selector) ReadableShape
unfolding AreNameable
user_ok auid [] selector names = tt
user_ok auid (xui ∷ rest) selector names = home_ok auid (User xui) rest selector names.0 names.1

usage_ok : (auid : Auid) (ts : List (List ℕ)) (selector : Option (List ℕ)) → AreNameable ts → IfOk (Shapes.usage_shape auid ts selector) ReadableShape
unfolding AreNameable
usage_ok auid [] selector names = tt
usage_ok auid (tree ∷ rest) selector names =
    if_ok (bytes_eq tree global) (Shapes.home_shape auid Global rest selector) (if bytes_eq tree users then Shapes.user_shape auid rest selector else Err (Fault BadShape)) ReadableShape (home_ok auid Global rest selector (tt {0}) names.1)
    (if_ok (bytes_eq tree users) (Shapes.user_shape auid rest selector) (Err (Fault BadShape)) ReadableShape (user_ok auid rest selector names.1) (tt {0}))

mapped_ok : (auid : Option Auid) (f : Auid → DocId) → ((a : Auid) → IsAddressable (f a)) → IfSome (option_map f auid) IsAddressable
mapped_ok None f good = tt
mapped_ok (Some a) f good = good a

chosen_ok : (b : Bool) (x : Option DocId) → IfSome x IsAddressable → IfSome (if b then x else None) IsAddressable
chosen_ok true x good = good
chosen_ok false x good = tt

element_feed_ok : (tag : ℕ) (doc : DocId) (selector : Option (List ℕ)) → IsAddressable doc → IfOk (Shapes.element_feed_shape tag doc selector) ReadableShape
unfolding ReadableShape
element_feed_ok tag doc None good = tt
element_feed_ok tag doc (Some []) good = tt
element_feed_ok tag doc (Some (c ∷ cs)) good = good

document_feed_ok : (mode : Option Mode) (tag : ℕ) (doc : DocId) (selector : Option (List ℕ)) → IsAddressable doc → IfOk (Shapes.document_feed_shape mode tag doc selector) ReadableShape
unfolding ReadableShape
document_feed_ok None tag doc selector good = tt
document_feed_ok (Some mode) tag doc None good = good
document_feed_ok (Some mode) tag doc (Some text) good = tt

either_ok : (mode : List ℕ) (tag : Option ℕ) (doc : Option DocId) (selector : Option (List ℕ)) → IfSome doc IsAddressable → IfOk (Shapes.feed_shape_by_mode mode tag doc selector) ReadableShape
either_ok mode None doc selector good = tt
either_ok mode (Some tag) None selector good = tt
either_ok mode (Some tag) (Some doc) selector good = if_ok _ _ _ ReadableShape (element_feed_ok tag doc selector good) (document_feed_ok (Shapes.mode_of mode) tag doc selector good)

feed_ok : (ts : List (List ℕ)) (selector : Option (List ℕ)) → AreNameable ts → IfOk (Shapes.feed_shape ts selector) ReadableShape
unfolding AreNameable
feed_ok (mode ∷ tag ∷ auid ∷ tree ∷ xui ∷ name ∷ []) selector names =
    either_ok mode (tag_of tag) (Shapes.stored_doc auid tree xui name) selector
    (chosen_ok (bytes_eq tree users) _ (mapped_ok (Shapes.stored_auid_of auid) (λ a. doc_of a (User xui) name) (λ a. (names.1.1.1.1.0, names.1.1.1.1.1.0))))
feed_ok _ selector names = tt

flat_ok : (ts : List (List ℕ)) (selector : Option (List ℕ)) → AreNameable ts → IfOk (Shapes.flat_shape ts selector) ReadableShape
unfolding AreNameable ReadableShape
flat_ok (xui ∷ name ∷ service ∷ []) None names = (names.0, names.1.0)
flat_ok _ selector names = tt

known_ok : (auid : Option Auid) (ts : List (List ℕ)) (selector : Option (List ℕ)) → AreNameable ts → IfOk (Shapes.usage_shape_if_known auid ts selector) ReadableShape
known_ok None ts selector names = tt
known_ok (Some auid) ts selector names = usage_ok auid ts selector names

named_ok : (ts : List (List ℕ)) (selector : Option (List ℕ)) → AreNameable ts → IfOk (Shapes.shape_of_segments ts selector) ReadableShape
unfolding AreNameable
named_ok [] selector names = tt
named_ok (first ∷ rest) selector names =
    let others = if bytes_eq first flat then Shapes.flat_shape rest selector else Shapes.usage_shape_if_known (Shapes.auid_of first) rest selector in
    if_ok (bytes_eq first feed) (Shapes.feed_shape rest selector) others ReadableShape (feed_ok rest selector names.1)
    (if_ok (bytes_eq first flat) (Shapes.flat_shape rest selector) (Shapes.usage_shape_if_known (Shapes.auid_of first) rest selector) ReadableShape (flat_ok rest selector names.1) (known_ok (Shapes.auid_of first) rest selector names.1))

unless_empty : (ts : List (List ℕ)) (selector : Option (List ℕ)) (b : Bool) → list_any Shapes.is_empty ts ≡ b → AreFree ts → IfOk (if b then Err (Fault BadShape) else Shapes.shape_of_segments ts selector) ReadableShape
unless_empty ts selector true e free = tt
unless_empty ts selector false e free = named_ok ts selector (nameable ts free e)

-- ---- targets

target_ok : (shape : Shape) (bindings : List Decl) (raw : List ℕ) → ReadableShape shape → IfOk (target_of shape bindings raw) IsReadableTarget
unfolding ReadableShape
target_ok (Document doc) bindings raw good = good
target_ok (Node doc text) bindings raw good = bind_ok (parsed_target_selector bindings doc.auid text) _ (λ _. Unit {0}) IsReadableTarget (always _) (λ selector _. good)
target_ok (Deep auid home) bindings raw good = good
target_ok (Feed mode tag doc) bindings raw good = good
target_ok (ElementFeed tag doc text) bindings raw good = bind_ok (parsed_target_selector bindings doc.auid text >>= require_element) _ (λ _. Unit {0}) IsReadableTarget (always _) (λ selector _. good)
target_ok (Flat doc service) bindings raw good = good

-- what comes after the root
rest_ok : (rest : List ℕ) → IfOk (parsed_rest rest) IsReadableTarget
rest_ok rest =
    bind_ok (parsed_path (front_before question rest)) _ (λ x. AreFree x.0) IsReadableTarget (free (pieces slash (front_before question rest))) (λ path names.
    bind_ok (parsed_optional_text path.1) _ (λ _. Unit {0}) IsReadableTarget (always _) (λ selector _.
    bind_ok (parsed_optional_text (rest_after question rest)) _ (λ _. Unit {0}) IsReadableTarget (always _) (λ query _.
    bind_ok (Shapes.shape_of path.0 selector) _ ReadableShape IsReadableTarget (unless_empty path.0 selector (list_any Shapes.is_empty path.0) refl names) (λ shape good.
    bind_ok (parsed_optional_bindings query) _ (λ _. Unit {0}) IsReadableTarget (always _) (λ bindings _.
    target_ok shape bindings (raw_text path.1 (rest_after question rest)) good)))))

-- and where the target is outside the root
under_ok : (rest : Option (List ℕ)) → IfOk (parsed_under_root rest) IsReadableTarget
under_ok None = tt
under_ok (Some rest) = rest_ok rest

pub target_readable : (root target : List ℕ) → IfOk (parsed_target root target) IsReadableTarget
target_readable root target = under_ok (rest_under_root root target)

-- what the code returns
pub answer_nameable : (stated r : Result Target UriError) → IfOk stated IsReadableTarget → (r ≡ stated) ⊎ (r ≡ Err NoMemory) → IfOk r IsReadableTarget
answer_nameable stated r good which = ⊎_elim (λ e. subst (λ x. IfOk x IsReadableTarget) (sym e) good) (λ e. subst (λ x. IfOk x IsReadableTarget) (sym e) tt) which

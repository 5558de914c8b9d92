-- The attribute that the address of a request ends in is writable.
use Rattle.std.proofs.Common.{◌≡◌, ℕ, Bool, true, false, cond, List, Option, Result, Ok, Err, IfOk, inl, inr, subst, sym, encode_utf8_all}
use Rattle.std.specs.Str.{chars}
use Rattle.xml_names.specs.declared.names.Decl.{Decl}
use Rattle.doc_names.specs.Usages.{namespace_of}
use Rattle.doc_names.specs.declared.doc_id.DocId.{DocId}
use Rattle.node_select.specs.declared.fault.SelectorFault.{SelectorFault}
use Rattle.node_select.specs.declared.selector.Selector.{Selector}
use Rattle.edit_rules.proofs.Writable.{attribute_writable}
use Rattle.xcap_uri.specs.Delimiters.{rest_after}
use Rattle.xcap_uri.specs.Targets.{IsTargetSelectorAnswer, ShapeMeans, IsSegmentsAnswer, IsShapeAnswer, IsRestAnswer, IsTargetResult, element_feed_target, is_element_end, node_target, question, raw_text}
use Rattle.xcap_uri.specs.declared.fault.UriFault.{UriFault}
use Rattle.xcap_uri.specs.declared.fault.UriFault.TheVariants.{BadEscape, BadQuery, BadSelector, BadShape, OutsideRoot, UnknownAuid}
use Rattle.xcap_uri.specs.declared.shape.Shape.{Shape}
use Rattle.xcap_uri.specs.declared.shape.Shape.TheVariants as shapes
use Rattle.xcap_uri.specs.declared.target.Target.{Target}
use Rattle.xcap_uri.specs.declared.target.Target.TheVariants.{Document, Node, Deep, Feed, ElementFeed, Flat}
use Rattle.xcap_machine.specs.StandardRequests.{IsWritableTarget}

abbrev Answer : Type 0
Answer = Result Target UriFault

ok_is : (a b : Target) → ◌≡◌ {A = Answer} (Ok a) (Ok b) → a ≡ b
ok_is a b h = cc

never : {X : Type 0} (t : Target) (fault : UriFault) → ◌≡◌ {A = Answer} (Ok t) (Err fault) → X
never t fault h = cc

module _ (bindings : List Decl) (doc : DocId) (text : List ℕ) (t : Target) where
  of_part : (read : Result Selector SelectorFault) → IsTargetSelectorAnswer bindings doc.auid text read → ◌≡◌ {A = Answer} (Ok t) (node_target doc read) → IsWritableTarget t
  of_part (Err fault) is same = cc
  of_part (Ok selector) is same =
      subst IsWritableTarget (sym (ok_is t (Node doc selector) same)) (λ uri local. attribute_writable bindings (chars (namespace_of doc.auid)) (encode_utf8_all text) selector uri local is)

  of_feed : (tag : ℕ) (raw : List ℕ) (read : Result Selector SelectorFault) → ◌≡◌ {A = Answer} (Ok t) (element_feed_target tag doc raw read) → IsWritableTarget t
  of_feed tag raw (Err fault) same = cc
  of_feed tag raw (Ok selector) same = by (is_element_end selector.end) same
    where
      by : (b : Bool) → ◌≡◌ {A = Answer} (Ok t) (cond b (Ok (ElementFeed tag doc selector raw)) (Err BadSelector)) → IsWritableTarget t
      by true is = subst IsWritableTarget (sym (ok_is t (ElementFeed tag doc selector raw) is)) tt
      by false is = cc

of_shape : (bindings : List Decl) (raw : List ℕ) (shape : Shape) (t : Target) → ShapeMeans bindings raw shape (Ok t) → IsWritableTarget t
of_shape bindings raw (shapes.Document doc) t is = subst IsWritableTarget (sym (ok_is t (Document doc) is)) tt
of_shape bindings raw (shapes.Node doc text) t is = of_part bindings doc text t is.0 is.1 is.2
of_shape bindings raw (shapes.Deep auid home) t is = subst IsWritableTarget (sym (ok_is t (Deep auid home) is)) tt
of_shape bindings raw (shapes.Feed mode tag doc) t is = subst IsWritableTarget (sym (ok_is t (Feed mode tag doc) is)) tt
of_shape bindings raw (shapes.ElementFeed tag doc text) t is = of_feed bindings doc text t tag raw is.0 is.2
of_shape bindings raw (shapes.Flat doc service) t is = subst IsWritableTarget (sym (ok_is t (Flat doc service) is)) tt

-- the text under the root, line by line
of_query : (t : Target) (raw : List ℕ) (query : Option (List ℕ)) (shape : Shape) → IsShapeAnswer query raw shape (Ok t) → IsWritableTarget t
of_query t raw query shape (inr h) = never t BadQuery h.1
of_query t raw query shape (inl h) = of_shape h.0 raw shape t h.2

of_names : (t : Target) (segments : List (List ℕ)) (selector query : Option (List ℕ)) (raw : List ℕ) → IsSegmentsAnswer segments selector query raw (Ok t) → IsWritableTarget t
of_names t segments selector query raw (inr h) = never t BadShape h.1
of_names t segments selector query raw (inl (named, inr h)) = never t UnknownAuid h.1
of_names t segments selector query raw (inl (named, inl (begun, inr h))) = never t BadShape h.1
of_names t segments selector query raw (inl (named, inl (begun, inl h))) = of_query t raw query h.0 h.2

of_rest : (t : Target) (rest : List ℕ) → IsRestAnswer rest (Ok t) → IsWritableTarget t
of_rest t rest (inr h) = never t BadEscape h.1
of_rest t rest (inl (path, p, inr h)) = never t BadEscape h.1
of_rest t rest (inl (path, p, inl (selector, s, inr h))) = never t BadEscape h.1
of_rest t rest (inl (path, p, inl (selector, s, inl h))) = of_names t path.0 selector h.0 (raw_text path.1 (rest_after question rest)) h.2

pub writable : (root target : List ℕ) (t : Target) → IsTargetResult root target (Ok t) → IsWritableTarget t
writable root target t (inr h) = never t OutsideRoot h.1
writable root target t (inl h) = of_rest t h.0 h.2

pub writable_target : (root target : List ℕ) (read : Result Target UriFault) → IsTargetResult root target read → IfOk read IsWritableTarget
writable_target root target (Ok t) is = writable root target t is
writable_target root target (Err fault) is = tt

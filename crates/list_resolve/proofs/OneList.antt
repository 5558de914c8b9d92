-- A service address has exactly one result in a document.
use Rattle.std.proofs.Common.{◌≡◌, ℕ, List, Option, None, Some, Result, Ok, Err, option_and_then, refl, sym, ap, ◌∙◌}
use Rattle.std.specs.Option.{option_map_or}
use Rattle.doc_names.specs.declared.doc_id.DocId.{DocId}
use Rattle.store_core.specs.Contents.{StoreContents}
use Rattle.list_resolve.specs.declared.fault.FlatFault.{FlatFault}
use Rattle.list_resolve.specs.declared.fault.FlatFault.TheVariants.{NoService}
use Rattle.xml_names.specs.declared.read_error.ReadError.TheVariants.{Fault, NoMemory}
use Rattle.xml_names.specs.ReadErrors.{ResultSatisfies}
use Rattle.list_resolve.specs.inner.WalkStates.{FlatError}
use Rattle.list_resolve.specs.ScopedElements.{ScopedElement}
use Rattle.list_resolve.specs.Walks.{walk}
use Rattle.list_resolve.specs.declared.reference.Reference.{Reference}
use Rattle.list_resolve.specs.Resolution.{ResolutionContext, ResolvedReference, stored_tree}
use Rattle.list_resolve.specs.FlatLists.{IsFlatList, flat_list_of, service_of}
use Rattle.list_resolve.specs.inner.SkippedElements.{resolve_in_context}
use Rattle.list_resolve.proofs.ReferenceTargets.{are_leads, one_map}

-- the context in which the references of a service are resolved
abbrev ground : StoreContents → List ℕ → DocId → ResolutionContext
ground c root doc = record { documents = c.documents; root = root; home = doc.home }

-- the flat list of the walk of a service, if there is one
abbrev flat_if : (Reference → Option ResolvedReference) → List ℕ → Option ScopedElement → Result (List (List ℕ)) FlatFault
flat_if resolve_reference root found = option_map_or (λ service. flat_list_of (walk resolve_reference root service)) found (Err NoService)

-- what the code computes is a result
pub answer_is : (c : StoreContents) (root : List ℕ) (doc : DocId) (uri : List ℕ) (answer : Result (List (List ℕ)) FlatFault)
    → answer ≡ flat_if (resolve_in_context (ground c root doc)) root (option_and_then (service_of uri) (stored_tree c.documents doc)) → IsFlatList c root doc uri answer
answer_is c root doc uri answer e = (resolve_in_context (ground c root doc), are_leads (ground c root doc), e)

pub some_list : (c : StoreContents) (root : List ℕ) (doc : DocId) (uri : List ℕ) → (answer : Result (List (List ℕ)) FlatFault) × IsFlatList c root doc uri answer
some_list c root doc uri =
    let answer = flat_if (resolve_in_context (ground c root doc)) root (option_and_then (service_of uri) (stored_tree c.documents doc)) in
    (answer, answer_is c root doc uri answer refl)

by_leads : (c : StoreContents) (root : List ℕ) (doc : DocId) (uri : List ℕ) (a : Result (List (List ℕ)) FlatFault) → IsFlatList c root doc uri a
    → a ≡ flat_if (resolve_in_context (ground c root doc)) root (option_and_then (service_of uri) (stored_tree c.documents doc))
by_leads c root doc uri a (resolve_reference, are, e) =
    e ∙ ap (λ (l : Reference → Option ResolvedReference). flat_if l root (option_and_then (service_of uri) (stored_tree c.documents doc))) (one_map (ground c root doc) resolve_reference are)

pub one_list : (c : StoreContents) (root : List ℕ) (doc : DocId) (uri : List ℕ) (a b : Result (List (List ℕ)) FlatFault) → IsFlatList c root doc uri a → IsFlatList c root doc uri b → a ≡ b
one_list c root doc uri a b is other = by_leads c root doc uri a is ∙ sym (by_leads c root doc uri b other)

-- ---- what the code returns, by the service that it finds

module _ (c : StoreContents) (root : List ℕ) (doc : DocId) (uri : List ℕ) where
  abbrev found : Option ScopedElement
  found = option_and_then (service_of uri) (stored_tree c.documents doc)

  by_found : (s : Option ScopedElement) (answer : Result (List (List ℕ)) FlatFault) → s ≡ found → answer ≡ flat_if (resolve_in_context (ground c root doc)) root s → IsFlatList c root doc uri answer
  by_found s answer at e = answer_is c root doc uri answer (e ∙ ap (flat_if (resolve_in_context (ground c root doc)) root) at)

  pub no_service : None ≡ found → IsFlatList c root doc uri (Err NoService)
  no_service at = by_found None (Err NoService) at refl

  pub of_service : (s : ScopedElement) (r : Result (List (List ℕ)) FlatError) → Some s ≡ found
      → ResultSatisfies (λ answer. answer ≡ flat_list_of (walk (resolve_in_context (ground c root doc)) root s)) r → ResultSatisfies (IsFlatList c root doc uri) r
  of_service s (Ok uris) at e = by_found (Some s) (Ok uris) at e
  of_service s (Err (Fault fault)) at e = by_found (Some s) (Err fault) at e
  of_service s (Err NoMemory) at e = tt

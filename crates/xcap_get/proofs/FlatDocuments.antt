-- The document of a service's flat list, or why there is none, from the list and the document that
-- were made.
use Rattle.std.proofs.Common.{◌≡◌, ℕ, List, Result, Ok, Err, IsErrAnd, refl, sym, subst}
use Rattle.xml_tree.specs.Tree.{Tree}
use Rattle.xml_names.specs.ReadErrors.{ResultSatisfies}
use Rattle.xml_names.specs.declared.read_error.ReadError.{ReadError}
use Rattle.xml_names.specs.declared.read_error.ReadError.TheVariants.{Fault, NoMemory}
use Rattle.doc_names.specs.declared.doc_id.DocId.{DocId}
use Rattle.store_core.specs.Contents.{StoreContents}
use Rattle.list_resolve.specs.Documents.{flat_document}
use Rattle.list_resolve.specs.FlatLists.{IsFlatList}
use Rattle.list_resolve.specs.declared.fault.FlatFault.{FlatFault}
use Rattle.xcap_machine.specs.FlatLists.{IsFlatDocument}

module _ (root : List ℕ) (c : StoreContents) (id : DocId) (uri service : List ℕ) (same : uri ≡ service) where
  abbrev IsList : Result (List (List ℕ)) FlatFault → Type 0
  IsList list = IsFlatList c root id uri list

  abbrev Shows : Result Tree (ReadError FlatFault) → Type 0
  Shows r = ResultSatisfies (IsFlatDocument root c id service) r

  listed : (list : Result (List (List ℕ)) FlatFault) → IsList list → IsFlatList c root id service list
  listed list is = subst (λ (u : List ℕ). IsFlatList c root id u list) same is

  no_list : (error : ReadError FlatFault) → ResultSatisfies {A = List (List ℕ)} IsList (Err error) → Shows (Err error)
  no_list (Fault fault) is = (Err fault, listed (Err fault) is, refl)
  no_list NoMemory is = tt

  handed : (r : Result Tree (ReadError FlatFault)) (error : ReadError FlatFault) → IsErrAnd r (λ e. e ≡ error) → Shows (Err error) → Shows r
  handed (Ok t) error h shows = absurd h
  handed (Err e) error h shows = subst (λ (x : ReadError FlatFault). Shows (Err x)) (sym h) shows

  -- where there is no list
  pub without_list : (r : Result Tree (ReadError FlatFault)) (error : ReadError FlatFault) → IsErrAnd r (λ e. e ≡ error) → ResultSatisfies {A = List (List ℕ)} IsList (Err error) → Shows r
  without_list r error h is = handed r error h (no_list error is)

  too_long : (uris : List (List ℕ)) (error : ReadError FlatFault) → IsList (Ok uris) → ResultSatisfies {A = Tree} (λ answer. answer ≡ flat_document uris) (Err error) → Shows (Err error)
  too_long uris (Fault fault) is e = (Ok uris, listed (Ok uris) is, e)
  too_long uris NoMemory is e = tt

  -- where there is a list and no document
  pub without_document : (r : Result Tree (ReadError FlatFault)) (uris shown : List (List ℕ)) (error : ReadError FlatFault) → IsErrAnd r (λ e. e ≡ error) → shown ≡ uris → IsList (Ok uris)
      → ResultSatisfies {A = Tree} (λ answer. answer ≡ flat_document shown) (Err error) → Shows r
  without_document r uris shown error h at is stated =
      handed r error h (too_long uris error is (subst (λ (xs : List (List ℕ)). ResultSatisfies {A = Tree} (λ answer. answer ≡ flat_document xs) (Err error)) at stated))

  -- where there are both
  pub flat_list_reply : (uris shown : List (List ℕ)) (t : Tree) → shown ≡ uris → IsList (Ok uris) → Ok t ≡ flat_document shown → Shows (Ok t)
  flat_list_reply uris shown t at is e = (Ok uris, listed (Ok uris) is, subst (λ (xs : List (List ℕ)). Ok t ≡ flat_document xs) at e)

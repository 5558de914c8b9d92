-- The resource of the index's name, by the length of the index.
use Rattle.std.proofs.Common.{true, ◌≡◌, ◌+◌, ◌-◌, ◌<◌, ◌≤◌, ℕ, Bool, cond, sym, ap, subst, arith}
use Rattle.std.proofs.lemmas.Bool.{le-ltb, lt-ltb}
use Rattle.store_core.specs.Contents.{StoreContents as Content}
use Rattle.xml_tree.specs.Tree.{Tree}
use Rattle.usage_docs.specs.Services.{document_len}
use Rattle.usage_docs.specs.declared.service_index.TheConstants.{INDEX_LIMIT}
use Rattle.usage_docs.specs.declared.service_index.IndexFault.{IndexFault}
use Rattle.xml_names.specs.ReadErrors.{FaultSatisfies}
use Rattle.xml_names.specs.declared.read_error.ReadError.{ReadError}
use Rattle.xml_names.specs.declared.read_error.ReadError.TheVariants.{Fault, NoMemory}
use Rattle.doc_names.specs.declared.doc_id.Auid.TheVariants.{RlsServices}
use Rattle.xcap_get.specs.inner.FoundResources.{HasLongIndex}
use Rattle.xcap_machine.specs.Resources.{IsIndexOfServices, IsGlobalResource, beyond_limit, there}

pub leads_index : (c : Content) (root : Tree) (tag : ℕ) → IsIndexOfServices c root → document_len root ≤ INDEX_LIMIT → tag + 1 ≡ c.next → IsGlobalResource c RlsServices true (there root tag)
leads_index c root tag is fits next =
    let same : c.next - 1 ≡ tag = omega (arith, next) in
    subst (λ (n : ℕ). IsGlobalResource c RlsServices true (there root n)) same
    (root, is, sym (ap (λ (b : Bool). cond b beyond_limit (there root (c.next - 1))) (le-ltb INDEX_LIMIT (document_len root) fits)))

pub leads_beyond : (c : Content) (root : Tree) → IsIndexOfServices c root → INDEX_LIMIT < document_len root → IsGlobalResource c RlsServices true beyond_limit
leads_beyond c root is over =
    (root, is, sym (ap (λ (b : Bool). cond b beyond_limit (there root (c.next - 1))) (lt-ltb INDEX_LIMIT (document_len root) over)))

pub refused_so : (c : Content) (root : Tree) (error : ReadError IndexFault) → IsIndexOfServices c root → FaultSatisfies (λ (fault : IndexFault). INDEX_LIMIT < document_len root) error
    → FaultSatisfies (λ (fault : IndexFault). HasLongIndex c) error
refused_so c root (Fault fault) is over = (root, is, over)
refused_so c root NoMemory is over = tt

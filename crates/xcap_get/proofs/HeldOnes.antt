-- The resource of a stored document's name.
use Rattle.std.proofs.Common.{◌≡◌, ℕ, List, Option, None, Some, option_map, encode_utf8_all, sym, ap, subst}
use Rattle.std.proofs.lemmas.Option.{same_Some}
use Rattle.std.specs.Option.{option_map_or}
use Rattle.xml_tree.specs.Tree.{Tree}
use Rattle.xml_tree.specs.Print.{document_print}
use Rattle.doc_names.specs.declared.doc_id.DocId.{DocId}
use Rattle.doc_names.specs.declared.doc_id.Home.{Home}
use Rattle.doc_names.specs.declared.doc_id.Home.TheVariants.{User}
use Rattle.store_core.specs.Contents.{StoredDocument, StoreContents}
use Rattle.xcap_machine.specs.Resources.{IsResourceInHome, IsResourceOf, absent, there, version_of}

-- the name of a user's document leads to the stored version
pub led : (c : StoreContents) (id : DocId) (xui : List ℕ) (t : Tree) (tag : ℕ) → id.home ≡ User xui → version_of c id ≡ Some (t, tag) → IsResourceOf c id (there t tag)
led c id xui t tag home is = subst (λ (home : Home). IsResourceInHome c id home (there t tag)) (sym home) (sym (ap (λ (version : Option (Tree × ℕ)). option_map_or (λ held. there held.0 held.1) version absent) is))

-- the print of a stored document, by its tree
pub printed : (o : Option StoredDocument) (t : Tree) (tag : ℕ) → option_map {U = Tree × ℕ} (λ (h : StoredDocument). (h.tree, h.tag)) o ≡ Some (t, tag)
    → option_map {U = List ℕ} (λ (h : StoredDocument). encode_utf8_all (document_print h.tree)) o ≡ Some (encode_utf8_all (document_print t))
printed None t tag is = cc
printed (Some h) t tag is =
    let one : Tree × ℕ = (h.tree, h.tag) in
    let other : Tree × ℕ = (t, tag) in
    ap (λ (x : Tree × ℕ). Some (encode_utf8_all (document_print x.0))) (same_Some one other is)

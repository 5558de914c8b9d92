-- An answer by the tree and tag of a stored document is the answer for the document; and its tree
-- is sound.
use Rattle.std.proofs.Common.{◌≡◌, ℕ, Bor, Option, Some, IfSome, subst}
use Rattle.xml_tree.specs.Tree.{Tree}
use Rattle.doc_names.specs.declared.doc_id.DocId.{DocId}
use Rattle.doc_names.specs.declared.usages.Usage.{Usage}
use Rattle.store_core.specs.ValidStates.{IsSoundDocument, IsSoundDocumentFor}
use Rattle.store_core.specs.Contents.{StoreContents as Content}
use Rattle.xcap_machine.specs.Resources.{version_of}

-- where the document is of this usage
pub sound_one : (known : Option Usage) (usage : Usage) → known ≡ Some usage → (r : Option (Bor Tree × ℕ)) → IfSome r (λ v. IsSoundDocumentFor known v.0.now) → IfSome r (λ v. IsSoundDocument usage v.0.now)
sound_one known usage is r sound = subst (λ (u : Option Usage). IfSome r (λ v. IsSoundDocumentFor u v.0.now)) is sound

-- by tree and tag
pub of_version : (c : Content) (id : DocId) (v : Option (Tree × ℕ)) (P : Option (Tree × ℕ) → Type 0) → v ≡ version_of c id → P v → P (version_of c id)
of_version c id v P is p = subst P is p

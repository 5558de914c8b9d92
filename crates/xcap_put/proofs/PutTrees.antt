-- A tree that is put is a change that may be asked for, and its answer is the one for a new
-- document or for a stored one.
use Rattle.std.proofs.Common.{◌≡◌, ℕ, Bool, is_some, Option, Some, Result, IfOk, sym, ap, subst, ◌∙◌}
use Rattle.edit_ops.specs.declared.change.Change.{Change}
use Rattle.doc_names.specs.DocIds.{IsAddressable}
use Rattle.doc_names.specs.Usages.{usage_of}
use Rattle.doc_names.specs.declared.doc_id.DocId.{DocId}
use Rattle.doc_names.specs.declared.usages.Usage.{Usage}
use Rattle.xml_tree.specs.Tree.{Tree}
use Rattle.store_core.specs.ChangePreconditions.{MayRequest, MayBeDocument, MayBeDocumentFor}
use Rattle.store_core.specs.ValidStates.{IsUserHome}
use Rattle.store_core.specs.StoreViews.{StoreView}
use Rattle.store_core.specs.Contents.{StoreContents as Content}
use Rattle.xcap_machine.specs.Resources.{version_of}
use Rattle.xcap_machine.specs.DocumentWrites.{change_answer, put_answer, put_change, put_reply}
use Rattle.xcap_machine.specs.inner.AnswerCases.{version_tag as tag_of}
use Rattle.xcap_machine.proofs.PutPremises.{asks_to_put}
use Rattle.xcap_put.specs.Decisions.{DecidesAnswer}
use Rattle.xcap_put.specs.declared.decision.Decision.{Decision}
use Rattle.xcap_put.proofs.Conditions.{tagged_where_held}
use Rattle.xcap_put.proofs.DecisionAnswers.{all_so}

-- a document is there where it has a tag
pub there_if_tagged : (c : Content) (id : DocId) (tag : Option ℕ) (exists : Bool) → tag ≡ tag_of (version_of c id) → exists ≡ is_some tag → exists ≡ is_some (version_of c id)
there_if_tagged c id tag exists tag_is known = known ∙ ap (λ (x : Option ℕ). is_some x) tag_is ∙ tagged_where_held (version_of c id)

module _ (c : Content) (id : DocId) (t : Tree) (closes : Bool) (exists : Bool) (node_exists : exists ≡ is_some (version_of c id)) where
  abbrev there : Bool
  there = is_some (version_of c id)

  module _ (change : Change) (is : change ≡ put_change exists t) where
    is_put : change ≡ put_change there t
    is_put = is ∙ ap (λ (b : Bool). put_change b t) node_exists

    pub asks_put : IsAddressable id → IsUserHome id.home → (usage : Usage) → usage_of id.auid ≡ Some usage → MayBeDocument usage t → MayRequest c id change
    asks_put readable users usage of_usage may =
        subst (λ (x : Change). MayRequest c id x) (sym is_put) (asks_to_put c id t readable users (subst (λ (u : Option Usage). MayBeDocumentFor u t) (sym of_usage) may))

    -- the answer to such a change is the answer to the PUT
    pub put_so : {E : Type 0} (s : StoreView) (r : Result Decision E) → IfOk r (λ d. DecidesAnswer (λ a. a ≡ change_answer c id change closes (put_reply exists closes)) s d) → IfOk r (λ d. DecidesAnswer (λ a. a ≡ put_answer c id closes t) s d)
    put_so s r decides =
        let same : change_answer c id change closes (put_reply exists closes) ≡ put_answer c id closes t =
        ap (λ (x : Change). change_answer c id x closes (put_reply exists closes)) is_put ∙ ap (λ (b : Bool). change_answer c id (put_change there t) closes (put_reply b closes)) node_exists in
        all_so (λ a. a ≡ change_answer c id change closes (put_reply exists closes)) s (λ a. a ≡ put_answer c id closes t) (λ a is_so. is_so ∙ same) r decides

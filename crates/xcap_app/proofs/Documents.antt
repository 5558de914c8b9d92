-- The document of a target.
use Rattle.std.proofs.Common.{◌≡◌, List, ℕ, Option, Result, Ok, Err, IfOk, encode_utf8_all, subst, ◌∙◌}
use Rattle.doc_names.specs.declared.doc_id.DocId.{DocId}
use Rattle.xcap_uri.specs.Targets.{IsTargetResult}
use Rattle.xcap_uri.specs.declared.target.Target.{Target}
use Rattle.xcap_app.specs.ClientCommands.{MeansDocument, document_to_follow}

-- a copy of the document in a target that was read
pub meant_by : {E : Type 0} → (root target bytes : List ℕ) (t : Target) (found : Option DocId) (r : Result (Option DocId) E) → bytes ≡ encode_utf8_all target
    → IsTargetResult root bytes (Ok t) → found ≡ document_to_follow t → IfOk r (λ made. made ≡ found) → IfOk r (λ doc. MeansDocument root target doc)
meant_by root target bytes t found (Ok made) same answer is copied = record {
  answer = Ok t;
  by_rules = subst (λ (b : List ℕ). IsTargetResult root b (Ok t)) same answer;
  is = copied ∙ is;
}
meant_by root target bytes t found (Err e) same answer is copied = copied

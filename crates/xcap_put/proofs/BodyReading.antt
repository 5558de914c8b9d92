-- Reading a body, step by step.
use Rattle.std.proofs.Common.{◌≡◌, ◌≤◌, ℕ, Bool, List, [], None, Result, Ok, Err, IfOk, refl, sym, subst}
use Rattle.tree_text.specs.Faults.{IsTextResult}
use Rattle.tree_text.specs.Spellings.{ReadsTree}
use Rattle.tree_text.proofs.SpellingLemmas.{reads_tree}
use Rattle.tree_text.specs.declared.fault.TextFault.{TextFault}
use Rattle.xml_names.specs.ReadErrors.{ResultSatisfies}
use Rattle.xml_names.specs.declared.read_error.ReadError.{ReadError}
use Rattle.xml_names.specs.declared.read_error.ReadError.TheVariants.{Fault}
use Rattle.reply_bodies.specs.declared.conflicts.ErrorBody.TheVariants as conflicts
use Rattle.xcap_machine.specs.Answers.{error_reply}
use Rattle.doc_names.specs.declared.usages.Usage.{Usage}
use Rattle.usage_docs.specs.Validation.{HasFirstFault}
use Rattle.xml_tree.specs.Proper.{IsProperTree}
use Rattle.xml_tree.specs.Tree.{Tree, height}
use Rattle.http_wire.specs.declared.request.Request.{Request}
use Rattle.reply_text.specs.declared.media_types.MediaType.{MediaType}
use Rattle.xcap_machine.specs.DocumentWrites.{PutsBody, PutsParsedBody, text_conflict}
use Rattle.xcap_machine.specs.inner.AnswerCases.{PutsParsedText}
use Rattle.xcap_put.specs.inner.ReadBodies.{IsReadBody}
use Rattle.xcap_put.specs.declared.request_bodies.Body.{Body}
use Rattle.xcap_put.specs.declared.request_bodies.Body.TheVariants.{Document, Refused}

module _ (usage : Usage) (closes : Bool) where
  -- ---- a tree

  pub tree_comes : (t : Tree) → IsProperTree [] t → height t ≤ 64 → HasFirstFault usage t None → IsReadBody (λ answer a. PutsParsedText usage (Ok t) closes answer a) usage (Document t)
  tree_comes t proper low check_document = (record { proper = proper; low = low; faultless = check_document }, λ answer. (None, check_document, refl))

-- ---- a text, by how it is parsed

read_so : (request : Request) (t : Tree) (read : List ℕ) → read ≡ request.body → IsTextResult 64 [] read (Ok t) → ReadsTree 64 [] request.body (Ok t)
read_so request t read same spelled = reads_tree 64 [] request.body (Ok t) (subst (λ (bytes : List ℕ). IsTextResult 64 [] bytes (Ok t)) same spelled)

pub text_comes : {E : Type 0} (usage : Usage) (request : Request) (r : Result Body E) (t : Tree) (read : List ℕ) → read ≡ request.body → IsTextResult 64 [] read (Ok t)
    → IfOk r (λ came. IsReadBody (λ answer a. PutsParsedText usage (Ok t) request.closes answer a) usage came) → IfOk r (λ came. IsReadBody (λ answer a. PutsParsedBody usage request answer a) usage came)
text_comes usage request (Ok (Refused reply)) t read same spelled h = λ answer. (Ok t, read_so request t read same spelled, h answer)
text_comes usage request (Ok (Document tree)) t read same spelled h =
    (h.0, λ answer. (Ok t, read_so request t read same spelled, h.1 answer))
text_comes usage request (Err e) t read same spelled h = tt

-- a text that is refused
pub text_refused : {E : Type 0} (usage : Usage) (request : Request) (r : Result Body E) (fault : TextFault) (error : ReadError TextFault) (read : List ℕ) → read ≡ request.body → error ≡ Fault fault → ResultSatisfies (IsTextResult 64 [] read) (Err error)
    → IfOk r (λ came. came ≡ Refused (error_reply (text_conflict conflicts.NotWellFormed fault) request.closes)) → IfOk r (λ came. IsReadBody (λ answer a. PutsParsedBody usage request answer a) usage came)
text_refused usage request (Ok came) fault error read same is answered told =
    let spelled : IsTextResult 64 [] read (Err fault) = subst (λ (e : ReadError TextFault). ResultSatisfies (IsTextResult 64 [] read) (Err e)) is answered in
    let reads : ReadsTree 64 [] request.body (Err fault) = reads_tree 64 [] request.body (Err fault) (subst (λ (bytes : List ℕ). IsTextResult 64 [] bytes (Err fault)) same spelled) in
    subst (λ (b : Body). IsReadBody (λ answer a. PutsParsedBody usage request answer a) usage b) (sym told) (λ answer. (Err fault, reads, refl))
text_refused usage request (Err e) fault error read same is answered told = tt

-- ---- a body of the media type

pub body_comes : (usage : Usage) (m media : MediaType) (request : Request) (came body : Body) → m ≡ media → came ≡ body → IsReadBody (λ answer a. PutsBody usage m request answer a) usage came → IsReadBody (λ answer a. PutsBody usage media request answer a) usage body
body_comes usage m media request came body same is h =
    subst (λ (b : Body). IsReadBody (λ answer a. PutsBody usage media request answer a) usage b) is (subst (λ (x : MediaType). IsReadBody (λ answer a. PutsBody usage x request answer a) usage came) same h)

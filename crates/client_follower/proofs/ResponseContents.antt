-- What is taken from a response, by the result of reading it.
use Rattle.std.proofs.Common.{◌≡◌, ℕ, Bool, true, false, List, [], ◌∷◌, Option, None, Some, Result, Ok, Err, refl, sym, ap, subst}
use Rattle.std.specs.Prelude.{if◌then◌else◌}
use Rattle.std.specs.Result.{result_map_both}
use Rattle.std.proofs.lemmas.Bool.{false≢true}
use Rattle.xml_tree.specs.Tree.{Tree}
use Rattle.tree_text.specs.Faults.{IsTextResult}
use Rattle.xml_names.specs.ReadErrors.{ResultSatisfies}
use Rattle.xml_names.specs.declared.read_error.ReadError.{ReadError}
use Rattle.xml_names.specs.declared.read_error.ReadError.TheVariants as errors
use Rattle.tree_text.specs.declared.fault.TextFault.{TextFault}
use Rattle.doc_names.specs.declared.doc_id.DocId.{DocId}
use Rattle.xcap_client.specs.declared.response.Response.{Response}
use Rattle.xcap_uri.specs.PrintedNames.{is_name_of}
use Rattle.patch_rules.specs.Replay.{ReplayAnswer, ReplicaContents, ReplayFault, IsReplayOutcome, Same, Patched, Removed, Fetch, WrongDocument, outcome_of_documents, replay_answer, documents, are_all_mine, and_then_replay}
use Rattle.patch_laws.specs.ReplayLaws.{HasReplicaTree}
use Rattle.patch_apply.specs.ApplyAnswers.{IsApplyAnswer}
use Rattle.patch_apply.specs.DiffTexts.{NoticeAnswer}
use Rattle.patch_apply.specs.Views.{IsWithinLevels}
use Rattle.patch_apply.specs.declared.fault.ApplyFault.{ApplyFault}
use Rattle.patch_apply.specs.declared.fault.NoticeFault.{NoticeFault}
use Rattle.patch_apply.specs.declared.replica.Applied.{Applied}
use Rattle.patch_apply.specs.declared.replica.Applied.TheVariants as answers
use Rattle.patch_apply.specs.declared.replica.ReplicaVersion.{ReplicaVersion as Version}
use Rattle.xcap_client.specs.declared.client_fault.ClientFault.{ClientFault}
use Rattle.client_follower.specs.FetchedDocuments.{BringsVersion, TakesDocument, spells_a_document, spells_none, lacks_memory as reading_lacks_memory}
use Rattle.client_follower.specs.FollowerFaults.{of_notice, fault_of_text}
use Rattle.client_follower.specs.FeedResults.{TakesFeed, TakesNotice, applies, is_none, lacks_memory, round_outcome}
use Rattle.client_follower.specs.inner.ReplicaChanges.{KeepsReplicaUnlessDecided}
use Rattle.client_follower.specs.declared.follower_fault.FollowerFault.{FollowerFault}
use Rattle.client_follower.specs.declared.feed_rounds.Round.{Round}

-- ---- documents

pub text_refused : (response : Response) (tag bytes : List ℕ) (error : ReadError TextFault) (result : Result Version FollowerFault) → response.tag ≡ Some tag → bytes ≡ response.body
    → ResultSatisfies (IsTextResult 64 [] bytes) (Err error) → result ≡ Err (fault_of_text error) → BringsVersion response result
text_refused response tag bytes (errors.Fault fault) result tagged same answer is =
    spells_none tag fault tagged (subst (λ (b : List ℕ). IsTextResult 64 [] b (Err fault)) same answer) is
text_refused response tag bytes errors.NoMemory result tagged same answer is = reading_lacks_memory tag tagged is

pub text_taken : (response : Response) (tag bytes : List ℕ) (root : Tree) → response.tag ≡ Some tag → bytes ≡ response.body → IsTextResult 64 [] bytes (Ok root)
    → BringsVersion response (Ok (record { tag = tag; root = root }))
text_taken response tag bytes root tagged same answer =
    spells_a_document tag root tagged (subst (λ (b : List ℕ). IsTextResult 64 [] b (Ok root)) same answer) refl

pub document_taken : (given : Result Response ClientFault) (response : Response) (version : Result Version FollowerFault) (result : Result (Option Version) FollowerFault)
    → given ≡ Ok response → BringsVersion response version → result ≡ result_map_both (λ held. Some held) (λ fault. fault) version → TakesDocument given result
document_taken given response version result is brings told =
    subst (λ (g : Result Response ClientFault). TakesDocument g result) (sym is) (version, brings, told)

-- ---- diff documents

pub sound_is_low : (held : ReplicaContents) → HasReplicaTree held → IsWithinLevels held
sound_is_low None sound = tt
sound_is_low (Some h) sound = sound.1

pub notice_refused : (doc : DocId) (body : List ℕ) (held : ReplicaContents) (error : ReadError NoticeFault) (result : Result (Option Round) FollowerFault)
    → ResultSatisfies (NoticeAnswer body) (Err error) → result ≡ Err (of_notice error) → TakesNotice doc body held held result
notice_refused doc body held (errors.Fault fault) result answer is = is_none fault answer refl is
notice_refused doc body held errors.NoMemory result answer is = lacks_memory refl is

-- the replica afterwards by a result, and whether the document has to be fetched
abbrev held_after : Result (ReplayAnswer × ReplicaContents) ReplayFault → ReplicaContents
held_after (Ok x) = x.1
held_after (Err fault) = None

abbrev is_fetch_answer : ReplayAnswer → Bool
is_fetch_answer Same = false
is_fetch_answer Patched = false
is_fetch_answer Removed = false
is_fetch_answer (Fetch tag) = true

abbrev is_fetch : Result (ReplayAnswer × ReplicaContents) ReplayFault → Bool
is_fetch (Ok x) = is_fetch_answer x.0
is_fetch (Err fault) = false

-- the replica is unchanged where the document has to be fetched
by_outcome : (outcome : Result (Option ReplicaContents) ReplayFault) (ds : List Tree) (held held' : ReplicaContents) (tag : List ℕ)
    → and_then_replay outcome (λ end. Ok (replay_answer ds held end)) ≡ Ok (Fetch tag, held') → held' ≡ held
by_outcome (Err fault) ds held held' tag same = absurd (false≢true (ap is_fetch same))
by_outcome (Ok None) ds held held' tag same = sym (ap held_after same)
by_outcome (Ok (Some new)) [] held held' tag same = absurd (false≢true (ap is_fetch same))
by_outcome (Ok (Some None)) (d ∷ ds) held held' tag same = absurd (false≢true (ap is_fetch same))
by_outcome (Ok (Some (Some h))) (d ∷ ds) held held' tag same = absurd (false≢true (ap is_fetch same))

by_mine : (mine : Bool) (outcome : Result (Option ReplicaContents) ReplayFault) (ds : List Tree) (held held' : ReplicaContents) (tag : List ℕ)
    → (if mine then and_then_replay outcome (λ end. Ok (replay_answer ds held end)) else Err WrongDocument) ≡ Ok (Fetch tag, held') → held' ≡ held
by_mine true outcome ds held held' tag same = by_outcome outcome ds held held' tag same
by_mine false outcome ds held held' tag same = absurd (false≢true (ap is_fetch same))

fetch_keeps : (is_mine : List ℕ → Bool) (notice : Tree) (held held' : ReplicaContents) (tag : List ℕ) → IsReplayOutcome is_mine notice held (Ok (Fetch tag, held')) → held' ≡ held
fetch_keeps is_mine notice held held' tag h =
    by_mine (are_all_mine is_mine (documents notice)) (outcome_of_documents h.0 0 (notice.decls ∷ []) (documents notice) held) (documents notice) held held' tag (sym h.2)

applied_keeps : (is_mine : List ℕ → Bool) (notice : Tree) (held held' : ReplicaContents) (applied : Result Applied (ReadError ApplyFault))
    → IsApplyAnswer is_mine notice held applied held' → KeepsReplicaUnlessDecided held held' (round_outcome applied)
applied_keeps is_mine notice held held' (Ok answers.Same) a = tt
applied_keeps is_mine notice held held' (Ok answers.Patched) a = tt
applied_keeps is_mine notice held held' (Ok answers.Removed) a = tt
applied_keeps is_mine notice held held' (Ok (answers.Fetch tag)) a = fetch_keeps is_mine notice held held' tag a
applied_keeps is_mine notice held held' (Err (errors.Fault fault)) a = a.3
applied_keeps is_mine notice held held' (Err errors.NoMemory) a = a

pub notice_keeps : (doc : DocId) (body : List ℕ) (held held' : ReplicaContents) (result : Result (Option Round) FollowerFault) → TakesNotice doc body held held' result → KeepsReplicaUnlessDecided held held' result
notice_keeps doc body held held' result (applies notice applied spelled by_words is) =
    subst (λ (r : Result (Option Round) FollowerFault). KeepsReplicaUnlessDecided held held' r) (sym is) (applied_keeps (is_name_of doc) notice held held' applied by_words)
notice_keeps doc body held held' result (is_none fault spelled same is) =
    subst (λ (r : Result (Option Round) FollowerFault). KeepsReplicaUnlessDecided held held' r) (sym is) same
notice_keeps doc body held held' result (lacks_memory same is) =
    subst (λ (r : Result (Option Round) FollowerFault). KeepsReplicaUnlessDecided held held' r) (sym is) same

pub feed_taken : (doc : DocId) (given : Result Response ClientFault) (response : Response) (bytes : List ℕ) (held held' : ReplicaContents) (result : Result (Option Round) FollowerFault)
    → given ≡ Ok response → bytes ≡ response.body → TakesNotice doc bytes held held' result → TakesFeed doc given held held' result
feed_taken doc given response bytes held held' result is same taken =
    subst (λ (g : Result Response ClientFault). TakesFeed doc g held held' result) (sym is)
    (subst (λ (b : List ℕ). TakesNotice doc b held held' result) same taken)

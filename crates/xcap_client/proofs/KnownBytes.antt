-- Over a stream whose bytes are all known, the result is the meaning of them all.
use Rattle.std.proofs.Common.{◌≡◌, ℕ, inl, inr, Bool, true, List, [], ◌++◌, Option, None, Some, Result, Ok, Err, refl, sym, ap, subst, ◌∙◌, append-nil}
use Rattle.std.specs.Io.KnownBytes.{Consumes, IsAtEnd}
use Rattle.xcap_io.specs.StreamStates.{InputState}
use Rattle.xcap_io.specs.StreamTraffic.{HasNothingAfterEnd}
use Rattle.xcap_client.specs.declared.response_fault.ResponseFault.{ResponseFault}
use Rattle.xcap_client.specs.declared.response.Response.{Response}
use Rattle.xcap_client.specs.ReadFaults.{HoldsByCause}
use Rattle.xcap_client.specs.Responses.{ReadsAnswer, IsDecidedResponse, DecidesNothing, IsResponseOf}
use Rattle.xcap_client.proofs.CallResults.{by_cause}

-- the bytes left after those that were read
left_behind : (left : Option (List ℕ)) (bytes read : List ℕ) → Consumes (Some bytes) left read → (more : List ℕ) × (left ≡ Some more) × (bytes ≡ read ++ more)
left_behind None bytes read consumed = absurd consumed
left_behind (Some more) bytes read consumed = (more, refl, consumed)

-- the meaning of the bytes read is the meaning of all
said_of_all : (bytes read more : List ℕ) (ended : Bool) → bytes ≡ read ++ more → (ended ≡ true → more ≡ []) → (answer : Result Response ResponseFault) → IsDecidedResponse read ended answer → IsResponseOf bytes answer
said_of_all bytes read more ended is none answer (inl all) = subst (λ (b : List ℕ). IsResponseOf b answer) (sym is) (all more)
said_of_all bytes read more ended is none answer (inr (at_end, says)) =
    subst (λ (b : List ℕ). IsResponseOf b answer) (sym (is ∙ ap (λ (l : List ℕ). read ++ l) (none at_end) ∙ append-nil read)) says

by_answer : (result : Result Response ResponseFault) (Lacks Lacks' : Type 0) (Said Said' : Result Response ResponseFault → Type 0) → (Lacks → Lacks') → ((a : Result Response ResponseFault) → Said a → Said' a) → HoldsByCause result Lacks Said → HoldsByCause result Lacks' Said'
by_answer (Ok response) L L' S S' lacks said is = said (Ok response) is
by_answer (Err fault) L L' S S' lacks said is = by_cause fault L L' S S' lacks (λ e. said (Err e)) is

-- the bytes given before a read failed didn't decide
abbrev Undecided : List ℕ → Type 0
Undecided bytes = (given : List ℕ) × (left : List ℕ) × (bytes ≡ given ++ left) × DecidesNothing given

pub known : (source source' : InputState) (bytes : List ℕ) (result : Result Response ResponseFault) → source.left ≡ Some bytes → HasNothingAfterEnd source → ReadsAnswer source source' result
    → HoldsByCause result (Undecided bytes) (IsResponseOf bytes)
known source source' bytes result tells truthful a =
    let behind = left_behind source'.left bytes a.read (subst (λ (l : Option (List ℕ)). Consumes l source'.left a.read) tells a.given.consumed) in
    let none : source'.ended ≡ true → behind.0 ≡ [] = λ ended. subst IsAtEnd behind.1 (a.given.truthful truthful ended) in
    by_answer result (DecidesNothing a.read) (Undecided bytes) (IsDecidedResponse a.read source'.ended) (IsResponseOf bytes)
    (λ unfinished. (a.read, behind.0, behind.2, unfinished))
    (said_of_all bytes a.read behind.0 source'.ended behind.2 none)
    a.answer

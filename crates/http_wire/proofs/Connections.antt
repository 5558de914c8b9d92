-- How the results of a request reader, one after the other, serve a connection.
use Rattle.std.proofs.Common.{◌≡◌, ℕ, ◌+◌, false, List, [], ◌∷◌, ◌++◌, length, Option, refl, sym, ap, subst, ◌∙◌, arith, append_assoc}
use Rattle.std.proofs.lemmas.List.{append-nil}
use Rattle.std.specs.Prelude.{option_to_list as told}
use Rattle.http_wire.specs.declared.request.Request.{Request}
use Rattle.http_wire.specs.ConnectionItems.{AsksFor}
use Rattle.http_wire.specs.ServedConnections.{AnswersRequests, RequestsAnswer}
use Rattle.http_wire.proofs.WholeItems.{asks-append}

-- Requests, one after the other.

module _ {M E : Type 0} (Step : M → Request → List ℕ → M → Option E → Type 0) (fixed : ℕ → List ℕ) where
  -- no requests yet
  pub run_none : (before : ℕ) (machine : M) (bytes : List ℕ) → AnswersRequests Step fixed before machine bytes [] (record { written = []; edits = []; next = machine; rest = bytes })
  run_none before machine bytes = (refl, refl, refl, refl)

  -- one more request
  pub run_more : (before : ℕ) (machine next : M) (bytes rest reply : List ℕ) (requests : List Request) (answer : RequestsAnswer M E) (request : Request) (edit : Option E)
      → AnswersRequests Step fixed before machine bytes requests answer → AsksFor (before + length requests) answer.rest request rest → request.closes ≡ false → Step answer.next request reply next edit
      → AnswersRequests Step fixed before machine bytes (requests ++ request ∷ []) (record { written = answer.written ++ reply; edits = answer.edits ++ told edit; next = next; rest = rest })
  run_more before machine next bytes rest reply [] answer request edit run asked stays step =
      let here : before + 0 ≡ before = omega arith in (
        rest,
        reply,
        next,
        edit,
        [],
        [],
        subst (λ (b : List ℕ). AsksFor before b request rest) (sym run.3) (subst (λ (n : ℕ). AsksFor n answer.rest request rest) here asked),
        stays,
        subst (λ (m : M). Step m request reply next edit) run.2 step,
        ap (λ (l : List ℕ). l ++ reply) run.0 ∙ sym (append-nil reply),
        ap (λ (l : List E). l ++ told edit) run.1 ∙ sym (append-nil (told edit)),
        (refl, refl, refl, refl),
      )
  run_more before machine next bytes rest reply (r ∷ requests) answer request edit (b, w, m, e, more, later, first, kept, stepped, wrote, told_first, run) asked stays step =
      let here : before + length (r ∷ requests) ≡ before + 1 + length requests = omega arith in (
        b,
        w,
        m,
        e,
        more ++ reply,
        later ++ told edit,
        first,
        kept,
        stepped,
        ap (λ (l : List ℕ). l ++ reply) wrote ∙ append_assoc w more reply,
        ap (λ (l : List E). l ++ told edit) told_first ∙ append_assoc (told e) later (told edit),
        run_more (before + 1) m next b rest reply requests (record answer { written = more; edits = later }) request edit run (subst (λ (n : ℕ). AsksFor n answer.rest request rest) here asked) stays step,
      )

  -- the requests are the first ones however the bytes go on
  pub run-append : (before : ℕ) (machine : M) (bytes more : List ℕ) (requests : List Request) (answer : RequestsAnswer M E)
      → AnswersRequests Step fixed before machine bytes requests answer → AnswersRequests Step fixed before machine (bytes ++ more) requests (record answer { rest = answer.rest ++ more })
  run-append before machine bytes more [] answer run = (run.0, run.1, run.2, ap (λ (l : List ℕ). l ++ more) run.3)
  run-append before machine bytes more (r ∷ requests) answer (b, w, m, e, others, later, first, kept, stepped, wrote, told_first, run) = (
    b ++ more,
    w,
    m,
    e,
    others,
    later,
    asks-append before bytes more r b first,
    kept,
    stepped,
    wrote,
    told_first,
    run-append (before + 1) m b more requests (record answer { written = others; edits = later }) run,
  )

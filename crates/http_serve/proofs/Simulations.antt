-- Simulation: where each step of one machine is a step of the other on related states, so is what
-- either does on connections.
use Rattle.std.proofs.Common.{◌≡◌, ℕ, ◌+◌, inl, inr, List, [], ◌∷◌, length, Option, refl, sym, subst}
use Rattle.xcap_io.specs.StreamStates.{StreamState}
use Rattle.xcap_io.specs.ConnectionHistories.{Traffic}
use Rattle.http_wire.specs.declared.request.Request.{Request}
use Rattle.http_wire.specs.ConnectionItems.{Item, asks, bad, too_long, coded}
use Rattle.http_wire.specs.ServedConnections.{PendingInput, ItemAnswer, RequestsAnswer, ClosesConnection, no_more, last_item, no_memory, EndsConnection, KeepsConnectionOpen, AnswersRequests, ServesConnection, ServesEach, AnswersItem as Answers}
use Rattle.http_wire.specs.declared.close_reason.CloseReason.TheVariants.{Closed, ReadFailed, WriteFailed}
use Rattle.http_wire.specs.declared.close_reason.CloseReason.{CloseReason}
use Rattle.http_serve.specs.declared.accept_loop.ServeSummary.{ServeSummary}
use Rattle.http_serve.specs.ServedStreams.{ServesStream}
use Rattle.http_serve.specs.FixedReplies.{fixed_reply}
use Rattle.http_serve.specs.ServedPorts.{ServesPort}

module _ {S M E : Type 0} (Steps : S → Request → List ℕ → S → Option E → Type 0) (Step : M → Request → List ℕ → M → Option E → Type 0) (fixed_reply : ℕ → List ℕ) (Stands : S → M → Type 0)
    (step : (s s' : S) (m : M) (request : Request) (reply : List ℕ) (edit : Option E) → Stands s m → Steps s request reply s' edit → (m' : M) × Stands s' m' × Step m request reply m' edit) where
  stays : (s s' : S) (m : M) → Stands s m → s' ≡ s → Stands s' m
  stays s s' m stands same = subst (λ (t : S). Stands t m) (sym same) stands

  answers : (item : Item) (s s' : S) (m : M) (reply : List ℕ) (edit : Option E) → Stands s m → Answers Steps fixed_reply s item reply s' edit → (m' : M) × Stands s' m' × Answers Step fixed_reply m item reply m' edit
  answers (asks request) s s' m reply edit stands a = step s s' m request reply edit stands a
  answers bad s s' m reply edit stands a = (m, stays s s' m stands a.1, (a.0, refl, a.2))
  answers too_long s s' m reply edit stands a = (m, stays s s' m stands a.1, (a.0, refl, a.2))
  answers coded s s' m reply edit stands a = (m, stays s s' m stands a.1, (a.0, refl, a.2))

  -- what was done, with the next state of the other machine
  abbrev item_answer : ItemAnswer S E → M → ItemAnswer M E
  item_answer a m = record { written = a.written; next = m; edit = a.edit }

  abbrev run_answer : RequestsAnswer S E → M → RequestsAnswer M E
  run_answer a m = record { written = a.written; edits = a.edits; next = m; rest = a.rest }

  runs : (before : ℕ) (requests : List Request) (s : S) (m : M) (bytes : List ℕ) (a : RequestsAnswer S E) → Stands s m → AnswersRequests Steps fixed_reply before s bytes requests a
      → (m' : M) × Stands a.next m' × AnswersRequests Step fixed_reply before m bytes requests (run_answer a m')
  runs before [] s m bytes a stands run = (m, stays s a.next m stands run.2, (run.0, run.1, refl, run.3))
  runs before (request ∷ requests) s m bytes a stands (behind, reply, mid, edit, more, later, asked, kept, stepped, wrote, all_told, run) =
      let one = step s mid m request reply edit stands stepped in
      let others = runs (before + 1) requests mid one.0 behind (record a { written = more; edits = later }) one.1 run in
      (others.0, others.1, (behind, reply, one.0, edit, more, later, asked, kept, one.2, wrote, all_told, others.2))

  closes : (input : PendingInput) (s : S) (m : M) (a : ItemAnswer S E) → Stands s m → ClosesConnection Steps fixed_reply input s a → (m' : M) × Stands a.next m' × ClosesConnection Step fixed_reply input m (item_answer a m')
  closes input s m a stands (no_more none end wrote same unchanged) = (m, stays s a.next m stands same, no_more none end wrote refl unchanged)
  closes input s m a stands (last_item item first ends answer) =
      let o = answers item s a.next m a.written a.edit stands answer in (o.0, o.1, last_item item first ends o.2)
  closes input s m a stands (no_memory request rest asked wrote same unchanged) = (m, stays s a.next m stands same, no_memory request rest asked wrote refl unchanged)

  goes_on : (input : PendingInput) (s : S) (m : M) (a : ItemAnswer S E) (rest : List ℕ) → Stands s m → KeepsConnectionOpen Steps fixed_reply input s a rest → (m' : M) × Stands a.next m' × KeepsConnectionOpen Step fixed_reply input m (item_answer a m') rest
  goes_on input s m a rest stands g =
      let one = step s a.next m g.request a.written a.edit stands g.step in (one.0, one.1, record { request = g.request; asked = g.asked; stays = g.stays; step = one.2 })

  ends : (ending : CloseReason) (input : PendingInput) (s : S) (m : M) (a : ItemAnswer S E) → Stands s m → EndsConnection Steps fixed_reply ending input s a → (m' : M) × Stands a.next m' × EndsConnection Step fixed_reply ending input m (item_answer a m')
  ends Closed input s m a stands e = closes input s m a stands e
  ends ReadFailed input s m a stands e = (m, stays s a.next m stands e.2, (e.0, e.1, refl, e.3))
  ends WriteFailed input s m a stands (reply, n, cut, wrote, inl e) =
      let c = closes input s m (record a { written = reply }) stands e in (c.0, c.1, (reply, n, cut, wrote, inl c.2))
  ends WriteFailed input s m a stands (reply, n, cut, wrote, inr (rest, e)) =
      let g = goes_on input s m (record a { written = reply }) rest stands e in (g.0, g.1, (reply, n, cut, wrote, inr (rest, g.2)))

  -- one connection
  pub serves : (ending : CloseReason) (s s' : S) (m : M) (passed : Traffic) (edits : List E) → Stands s m → ServesConnection Steps fixed_reply ending s passed s' edits
      → (m' : M) × Stands s' m' × ServesConnection Step fixed_reply ending m passed m' edits
  serves ending s s' m passed edits stands v =
      let r = runs 0 v.requests s m passed.given (record { written = v.replies; edits = v.early; next = v.mid; rest = v.behind }) stands v.run in
      let e = ends ending (record { before = length v.requests; given = v.behind; ended = passed.ended }) v.mid r.0 (record { written = v.last; next = s'; edit = v.edit }) r.1 v.ends in
      (e.0, e.1, record { requests = v.requests; replies = v.replies; early = v.early; mid = r.0; behind = v.behind; last = v.last; edit = v.edit; run = r.2; ends = e.2; wrote = v.wrote; all_told = v.all_told })

  -- connections, one after the other
  pub serves_each : (connections : List Traffic) (s s' : S) (m : M) (endings : List CloseReason) (edits : List E) → Stands s m → ServesEach Steps fixed_reply s connections endings s' edits
      → (m' : M) × Stands s' m' × ServesEach Step fixed_reply m connections endings m' edits
  serves_each [] s s' m endings edits stands v = (m, stays s s' m stands v.1, (v.0, refl, v.2))
  serves_each (passed ∷ connections) s s' m endings edits stands (ending, others, mid, first, later, all_endings, all_told, one, rest) =
      let o = serves ending s mid m passed first stands one in
      let r = serves_each connections mid s' o.0 others later o.1 rest in
      (r.0, r.1, (ending, others, o.0, first, later, all_endings, all_told, o.2, r.2))

module _ {S M W E : Type 0} (Steps : S → Request → List ℕ → S → Option E → Type 0) (Step : M → Request → List ℕ → M → Option E → Type 0) (Stands : S → M → Type 0)
    (step : (s s' : S) (m : M) (request : Request) (reply : List ℕ) (edit : Option E) → Stands s m → Steps s request reply s' edit → (m' : M) × Stands s' m' × Step m request reply m' edit)
    (Keeps : List E → W → W → Type 0) where
  -- a connection
  pub line_by : (ended : CloseReason) (s s' : S) (m : M) (old new : StreamState) (watchers watchers' : W) → Stands s m → ServesStream Steps Keeps ended (record { machine = s; stream = old; watchers = watchers }) (record { machine = s'; stream = new; watchers = watchers' })
      → (m' : M) × Stands s' m' × ServesStream Step Keeps ended (record { machine = m; stream = old; watchers = watchers }) (record { machine = m'; stream = new; watchers = watchers' })
  line_by ended s s' m old new watchers watchers' stands v =
      let o = serves Steps Step fixed_reply Stands step ended s s' m v.passed v.edits stands v.serves in (
        o.0,
        o.1,
        record {
          passed = v.passed;
          edits = v.edits;
          gave = v.gave;
          found_end = v.found_end;
          took = v.took;
          serves = o.2;
          kept = v.kept;
          faults = v.faults;
          exchanges = v.exchanges;
        },
      )

  -- the connections of a port
  pub port_by : (most : ℕ) (served : ServeSummary) (s s' : S) (m : M) (old new : StreamState) (watchers watchers' : W) → Stands s m → ServesPort Steps Keeps (record { most = most; served = served }) (record { machine = s; stream = old; watchers = watchers }) (record { machine = s'; stream = new; watchers = watchers' })
      → (m' : M) × Stands s' m' × ServesPort Step Keeps (record { most = most; served = served }) (record { machine = m; stream = old; watchers = watchers }) (record { machine = m'; stream = new; watchers = watchers' })
  port_by most served s s' m old new watchers watchers' stands v =
      let e = serves_each Steps Step fixed_reply Stands step v.connections s s' m v.serves.endings v.edits stands v.serves.each in (
        e.0,
        e.1,
        record {
          connections = v.connections;
          edits = v.edits;
          count = v.count;
          came = v.came;
          all_carried = v.all_carried;
          serves = record { endings = v.serves.endings; each = e.2; read_bound = v.serves.read_bound; write_bound = v.serves.write_bound };
          last = v.last;
          stop = v.stop;
          kept = v.kept;
          same_listening = v.same_listening;
          same_holds = v.same_holds;
          same_aside = v.same_aside;
          same_peer = v.same_peer;
        },
      )

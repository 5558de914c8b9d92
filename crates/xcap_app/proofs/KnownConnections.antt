-- Connections whose bytes are known, served by a port that never fails, are served to their end.
use Rattle.std.proofs.Common.{◌≡◌, ℕ, suc, Bool, true, List, [], ◌∷◌, ◌++◌, length, map, Option, Some, IfSome, refl, sym, ap, subst, ◌∙◌, arith, length-append, append-nil}
use Rattle.xcap_io.specs.StreamStates.{StreamState, CountRisesBy}
use Rattle.xcap_io.specs.ConnectionHistories.{Traffic}
use Rattle.http_wire.specs.declared.request.Request.{Request}
use Rattle.http_wire.specs.ServedConnections.{AreAllBytesOfEach, ServesAll, ServesEach, counted_traffics, read_failures, machine_without_faults, write_failures}
use Rattle.http_wire.specs.declared.close_reason.CloseReason.{CloseReason}
use Rattle.http_wire.specs.declared.close_reason.CloseReason.TheVariants.{Closed, ReadFailed, WriteFailed}
use Rattle.http_wire.proofs.KnownTraffic.{counts_each}
use Rattle.http_serve.specs.FixedReplies.{fixed_reply}
use Rattle.http_serve.specs.ServedPorts.{TakesNextConnections, ServesPort, HasStopReason}
use Rattle.http_serve.specs.declared.accept_loop.ServeSummary.{ServeSummary}
use Rattle.http_serve.specs.declared.accept_loop.StopReason.{StopReason}
use Rattle.http_serve.specs.declared.accept_loop.StopReason.TheVariants.{Count, NoMore, PortFailed}

-- there are as many lists of bytes as connections
same_number : (all : List (List ℕ)) (connections : List Traffic) → AreAllBytesOfEach all connections → length all ≡ length connections
same_number [] [] have = refl
same_number [] (passed ∷ connections) have = absurd have
same_number (bytes ∷ all) [] have = absurd have
same_number (bytes ∷ all) (passed ∷ connections) have = ap suc (same_number all connections have.1)

-- as many connections came as were wanted, if the port didn't fail: so all of them came
none_left : (stop : StopReason) (all came rest : List (List ℕ)) (connections : List Traffic) (count : ℕ) (old new : StreamState) → old.port.faults ≡ 0 → new.port.faults ≡ 0 → new.port.to_come ≡ Some rest
    → all ≡ came ++ rest → AreAllBytesOfEach came connections → length connections ≡ count → HasStopReason stop (length all) count old new → rest ≡ []
none_left Count all [] [] connections count old new f g t is have many stops = refl
none_left Count all came rest connections count old new f g t is have many stops = is_none rest (omega (arith, ap length is, length-append came rest, same_number came connections have, many, stops.0))
  where
    is_none : (xs : List (List ℕ)) → length xs ≡ 0 → xs ≡ []
    is_none [] none = refl
    is_none (x ∷ xs) none = absurd (omega (arith, none))
none_left NoMore all came rest connections count old new f g t is have many stops = subst (λ (o : Option (List (List ℕ))). IfSome o (λ l. l ≡ [])) (sym stops.1 ∙ t) refl
none_left PortFailed all came rest connections count old new f g t is have many stops = absurd (omega (arith, f, g, stops.1))

-- no read failed
no_failure : (n : ℕ) → CountRisesBy n 0 0 → n ≡ 0
no_failure n few = omega (arith, few)

-- all bytes of all connections count, and the end of each was found
abbrev AllGiven : List Traffic → List (List ℕ) → List CloseReason → Type 0
AllGiven connections all endings =
    (map (λ c. c.given) (counted_traffics connections all endings) ≡ all)
    × (map (λ c. c.ended) (counted_traffics connections all endings) ≡ map (λ c. true) (counted_traffics connections all endings))

one_more : (passed : Traffic) (connections : List Traffic) (bytes : List ℕ) (all : List (List ℕ)) (ending : CloseReason) (others : List CloseReason)
    → (read_failures others ≡ 0 → AllGiven connections all others) → read_failures (ending ∷ others) ≡ 0 → AllGiven (passed ∷ connections) (bytes ∷ all) (ending ∷ others)
one_more passed connections bytes all Closed others rest none =
    let t = rest none in (ap (λ (l : List (List ℕ)). bytes ∷ l) t.0, ap (λ (l : List Bool). true ∷ l) t.1)
one_more passed connections bytes all ReadFailed others rest none = absurd (omega (arith, none))
one_more passed connections bytes all WriteFailed others rest none =
    let t = rest none in (ap (λ (l : List (List ℕ)). bytes ∷ l) t.0, ap (λ (l : List Bool). true ∷ l) t.1)

module _ {M E : Type 0} (Step : M → Request → List ℕ → M → Option E → Type 0) where
  -- where no read failed
  all_given : (machine next : M) (edits : List E) (all : List (List ℕ)) (connections : List Traffic) (endings : List CloseReason) → AreAllBytesOfEach all connections → ServesEach Step fixed_reply machine connections endings next edits → read_failures endings ≡ 0
      → AllGiven connections all endings
  all_given machine next edits [] [] endings have each none = (refl, refl)
  all_given machine next edits (bytes ∷ all) [] endings have each none = absurd have
  all_given machine next edits [] (passed ∷ connections) endings have each none = absurd have
  all_given machine next edits (bytes ∷ all) (passed ∷ connections) endings have (ending, others, mid, first, later, are, told, serves, rest) none =
      subst (λ (l : List CloseReason). AllGiven (passed ∷ connections) (bytes ∷ all) l) (sym are)
      (one_more passed connections bytes all ending others (all_given mid next later all connections others have.1 rest) (subst (λ (l : List CloseReason). read_failures l ≡ 0) are none))

  -- What a port that never fails served, which had these connections to come, as many as were
  -- wanted.
  pub all_served : {W : Type 0} (Keeps : List E → W → W → Type 0) (served : ServeSummary) (machine next : M) (all : List (List ℕ)) (old new : StreamState) (w w' : W)
      → old.port.to_come ≡ Some all → old.port.faults ≡ 0 → new.port.faults ≡ 0 → old.read_faults ≡ 0 → new.read_faults ≡ 0 → old.write_faults ≡ 0 → new.write_faults ≡ 0
      → ServesPort Step Keeps (record { most = length all; served = served }) (record { machine = machine; stream = old; watchers = w }) (record { machine = next; stream = new; watchers = w' })
      → (connections : List Traffic) × (map (λ c. c.given) connections ≡ all) × (map (λ c. c.ended) connections ≡ map (λ c. true) connections) × (edits : List E) × ServesAll Step fixed_reply (machine_without_faults machine) (machine_without_faults next) connections edits
  all_served Keeps served machine next all old new w w' told f g r r' t t' v =
      let came : TakesNextConnections (Some all) new.port.to_come v.connections = subst (λ (o : Option (List (List ℕ))). TakesNextConnections o new.port.to_come v.connections) told v.came in
      let none : came.1 ≡ [] = none_left served.stop all came.0 came.1 v.connections served.connections old new f g came.3 came.2 came.4 v.count v.stop in
      let are : came.0 ≡ all = sym (append-nil came.0) ∙ ap (λ (l : List (List ℕ)). came.0 ++ l) (sym none) ∙ sym came.2 in
      let have : AreAllBytesOfEach all v.connections = subst (λ (l : List (List ℕ)). AreAllBytesOfEach l v.connections) are came.4 in
      let reads : CountRisesBy (read_failures v.serves.endings) 0 0 = subst (λ (n : ℕ). CountRisesBy (read_failures v.serves.endings) 0 n) r' (subst (λ (n : ℕ). CountRisesBy (read_failures v.serves.endings) n new.read_faults) r v.serves.read_bound) in
      let writes : CountRisesBy (write_failures v.serves.endings) 0 0 = subst (λ (n : ℕ). CountRisesBy (write_failures v.serves.endings) 0 n) t' (subst (λ (n : ℕ). CountRisesBy (write_failures v.serves.endings) n new.write_faults) t v.serves.write_bound) in
      let given = all_given machine next v.edits all v.connections v.serves.endings have v.serves.each (no_failure (read_failures v.serves.endings) reads) in (
        counted_traffics v.connections all v.serves.endings,
        given.0,
        given.1,
        v.edits,
        record {
          endings = v.serves.endings;
          each = counts_each Step fixed_reply machine next v.edits all v.connections v.serves.endings have v.serves.each;
          read_bound = reads;
          write_bound = writes;
        },
      )

-- Connections of a port, served one after the other.
use Rattle.std.proofs.Common.{◌≡◌, ℕ, ◌+◌, ◌<◌, Bool, true, false, true≢false, List, [], ◌∷◌, ◌++◌, length, Option, None, Some, Ok, refl, sym, ap, subst, ◌∙◌, arith, append_assoc, append-nil}
use Rattle.std.proofs.lemmas.List.{length_push}
use Rattle.std.specs.Io.KnownBytes.{Consumes, IsAtEnd}
use Rattle.xcap_io.specs.StreamStates.{BegunConnections, InputState, StreamState, PortState, CountRises, CountRisesBy}
use Rattle.xcap_io.specs.Connections.{BringsNextConnection, AcceptsNext, NextFailed, OnlyAcceptsNext, port_traffic, traffic}
use Rattle.xcap_io.specs.ConnectionHistories.{Traffic, all_traffic}
use Rattle.xcap_io.specs.StreamTraffic.{GivesBytes, HasNothingAfterEnd, TakesBytes}
use Rattle.http_wire.specs.declared.request.Request.{Request}
use Rattle.http_wire.specs.ServedConnections.{AreAllBytesOf, AreAllBytesOfEach, ServesConnection, ServesEach, read_failures, write_failures}
use Rattle.http_wire.specs.declared.close_reason.CloseReason.{CloseReason}
use Rattle.http_wire.specs.declared.close_reason.CloseReason.TheVariants.{Closed, ReadFailed, WriteFailed}
use Rattle.http_serve.specs.declared.accept_loop.ServeSummary.{ServeSummary}
use Rattle.http_serve.specs.declared.accept_loop.StopReason.{StopReason}
use Rattle.http_serve.specs.declared.accept_loop.StopReason.TheVariants.{Count, NoMore, PortFailed}
use Rattle.http_serve.specs.FaultCounts.{CountsFaultOfReason}
use Rattle.http_serve.specs.FixedReplies.{fixed_reply}
use Rattle.http_serve.specs.ServedStreams.{ServesStream}
use Rattle.http_serve.proofs.Faults.{faults_on}
use Rattle.http_serve.specs.ServedPorts.{TakesNextConnections, ServesPort, HasStopReason, last_ending}

-- ---- one connection after others

-- how the last one ended
last_added : (endings : List CloseReason) (ending : CloseReason) → ending ≡ last_ending (endings ++ ending ∷ [])
last_added [] ending = refl
last_added (e ∷ []) ending = refl
last_added (e ∷ f ∷ endings) ending = last_added (f ∷ endings) ending

-- how many failed
reads_added : (endings : List CloseReason) (ending : CloseReason) → read_failures (endings ++ ending ∷ []) ≡ read_failures endings + read_failures (ending ∷ [])
reads_added [] ending = omega arith
reads_added (Closed ∷ endings) ending = reads_added endings ending
reads_added (ReadFailed ∷ endings) ending = omega (arith, reads_added endings ending)
reads_added (WriteFailed ∷ endings) ending = reads_added endings ending

writes_added : (endings : List CloseReason) (ending : CloseReason) → write_failures (endings ++ ending ∷ []) ≡ write_failures endings + write_failures (ending ∷ [])
writes_added [] ending = omega arith
writes_added (Closed ∷ endings) ending = writes_added endings ending
writes_added (ReadFailed ∷ endings) ending = writes_added endings ending
writes_added (WriteFailed ∷ endings) ending = omega (arith, writes_added endings ending)

-- a bound where the counter is unchanged, and where it rose
bound_stays : (n k before mid now : ℕ) → k ≡ n + 0 → now ≡ mid → CountRisesBy n before mid → CountRisesBy k before now
bound_stays n k before mid now e same b = omega (arith, e, same, b)

bound_rises : (n k before mid now : ℕ) → k ≡ n + 1 → CountRises mid now → CountRisesBy n before mid → CountRisesBy k before now
bound_rises n k before mid now e rose b = omega (arith, e, rose, b)

reads_bound : (ended : CloseReason) (endings : List CloseReason) (first : ℕ) (mid new : StreamState) → CountsFaultOfReason ended mid.read_faults new.read_faults mid.write_faults new.write_faults → CountRisesBy (read_failures endings) first mid.read_faults → CountRisesBy (read_failures (endings ++ ended ∷ [])) first new.read_faults
reads_bound Closed endings first mid new f b = bound_stays (read_failures endings) _ first mid.read_faults new.read_faults (reads_added endings Closed) f.0 b
reads_bound ReadFailed endings first mid new f b = bound_rises (read_failures endings) _ first mid.read_faults new.read_faults (reads_added endings ReadFailed) f.0 b
reads_bound WriteFailed endings first mid new f b = bound_stays (read_failures endings) _ first mid.read_faults new.read_faults (reads_added endings WriteFailed) f.0 b

writes_bound : (ended : CloseReason) (endings : List CloseReason) (first : ℕ) (mid new : StreamState) → CountsFaultOfReason ended mid.read_faults new.read_faults mid.write_faults new.write_faults → CountRisesBy (write_failures endings) first mid.write_faults → CountRisesBy (write_failures (endings ++ ended ∷ [])) first new.write_faults
writes_bound Closed endings first mid new f b = bound_stays (write_failures endings) _ first mid.write_faults new.write_faults (writes_added endings Closed) f.1 b
writes_bound ReadFailed endings first mid new f b = bound_stays (write_failures endings) _ first mid.write_faults new.write_faults (writes_added endings ReadFailed) f.1 b
writes_bound WriteFailed endings first mid new f b = bound_rises (write_failures endings) _ first mid.write_faults new.write_faults (writes_added endings WriteFailed) f.1 b

module _ {M E : Type 0} (Step : M → Request → List ℕ → M → Option E → Type 0) where
  each_more : (connections : List Traffic) (machine mid next : M) (endings : List CloseReason) (edits : List E) (ending : CloseReason) (passed : Traffic) (later : List E)
      → ServesEach Step fixed_reply machine connections endings mid edits → ServesConnection Step fixed_reply ending mid passed next later
      → ServesEach Step fixed_reply machine (connections ++ passed ∷ []) (endings ++ ending ∷ []) next (edits ++ later)
  each_more [] machine mid next endings edits ending passed later h one = (
    ending,
    [],
    next,
    later,
    [],
    ap (λ (l : List CloseReason). l ++ ending ∷ []) h.0,
    ap (λ (l : List E). l ++ later) h.2 ∙ sym (append-nil later),
    subst (λ (m : M). ServesConnection Step fixed_reply ending m passed next later) h.1 one,
    (refl, refl, refl),
  )
  each_more (p ∷ connections) machine mid next endings edits ending passed later (e, others, m, first, rest, all_endings, all_told, served, each) one = (
    e,
    others ++ ending ∷ [],
    m,
    first,
    rest ++ later,
    ap (λ (l : List CloseReason). l ++ ending ∷ []) all_endings,
    ap (λ (l : List E). l ++ later) all_told ∙ append_assoc first rest later,
    served,
    each_more connections m mid next others rest ending passed later each one,
  )

-- ---- what the port shows

-- bytes of connections, and of one after them
have_more : (came : List (List ℕ)) (connections : List Traffic) (bytes : List ℕ) (passed : Traffic) → AreAllBytesOfEach came connections → AreAllBytesOf bytes passed → AreAllBytesOfEach (came ++ bytes ∷ []) (connections ++ passed ∷ [])
have_more [] [] bytes passed have has = (has, tt)
have_more [] (p ∷ connections) bytes passed have has = absurd have
have_more (b ∷ came) [] bytes passed have has = absurd have
have_more (b ∷ came) (p ∷ connections) bytes passed have has = (have.0, have_more came connections bytes passed have.1 has)

-- what was left of a connection that began, and what was given on it
pub has_bytes : (start now : InputState) (bytes : List ℕ) (passed : Traffic) → start.left ≡ Some bytes → HasNothingAfterEnd start → GivesBytes start now passed.given → passed.ended ≡ now.ended → AreAllBytesOf bytes passed
has_bytes start now bytes passed told truthful gave found =
    by_left now.left (subst (λ (l : Option (List ℕ)). Consumes l now.left passed.given) told gave.consumed) (λ ended. gave.truthful truthful (sym found ∙ ended))
  where
    by_left : (left : Option (List ℕ)) → Consumes (Some bytes) left passed.given → (passed.ended ≡ true → IsAtEnd left) → AreAllBytesOf bytes passed
    by_left None consumed at_end = absurd consumed
    by_left (Some left) consumed at_end = (left, consumed, at_end)

-- the connection that began was the next one to come
came_more : (old mid begun : Option (List (List ℕ))) (start now : InputState) (connections : List Traffic) (passed : Traffic) → TakesNextConnections old mid connections → BringsNextConnection mid begun start.left
    → HasNothingAfterEnd start → GivesBytes start now passed.given → passed.ended ≡ now.ended → TakesNextConnections old begun (connections ++ passed ∷ [])
came_more None mid begun start now connections passed came comes truthful gave found = tt
came_more (Some all) mid begun start now connections passed (came, rest, is, here, have) comes truthful gave found =
    let next : BringsNextConnection (Some rest) begun start.left = subst (λ (m : Option (List (List ℕ))). BringsNextConnection m begun start.left) here comes in (
      came ++ next.0 ∷ [],
      next.1,
      is ∙ ap (λ (l : List (List ℕ)). came ++ l) next.2 ∙ sym (append_assoc came (next.0 ∷ []) next.1),
      next.3,
      have_more came connections next.0 passed have (has_bytes start now next.0 passed next.4 truthful gave found),
    )

-- a connection that begins has found no end
begins_truthful : (mid begun : StreamState) → AcceptsNext mid begun → HasNothingAfterEnd begun.inward
begins_truthful mid begun n = λ ended. absurd (true≢false (sym ended ∙ ap (λ (t : Traffic). t.ended) n.nothing_passed))

-- what passed is one connection more
carried_more : (old mid begun new : StreamState) (connections : List Traffic) (passed : Traffic) → port_traffic mid ≡ port_traffic old ++ connections → AcceptsNext mid begun → new.port ≡ begun.port
    → GivesBytes begun.inward new.inward passed.given → passed.ended ≡ new.inward.ended → TakesBytes begun.taken new.taken passed.taken → port_traffic new ≡ port_traffic old ++ (connections ++ passed ∷ [])
carried_more old mid begun new connections passed before n same gave found took =
    let given : new.inward.given ≡ passed.given = gave.behind ∙ ap (λ (t : Traffic). t.given ++ passed.given) n.nothing_passed in
    let taken : new.taken ≡ passed.taken = took ∙ ap (λ (t : Traffic). t.taken ++ passed.taken) n.nothing_passed in
    let now : traffic new ≡ passed = λ i. record { given = given i; ended = sym found i; taken = taken i } in
    ap (λ (b : BegunConnections). all_traffic b.earlier b.is_present (traffic new)) (ap (λ (p : PortState). p.begun) same ∙ n.begins)
    ∙ ap (λ (t : Traffic). port_traffic mid ++ t ∷ []) now
    ∙ ap (λ (l : List Traffic). l ++ passed ∷ []) before
    ∙ append_assoc (port_traffic old) connections (passed ∷ [])

came_none : (to_come : Option (List (List ℕ))) → TakesNextConnections to_come to_come []
came_none None = tt
came_none (Some all) = ([], all, refl, refl, tt)

-- ---- the result of `next`

pub has_begun : (E : Type 0) (old new : StreamState) (begun : Bool) → OnlyAcceptsNext {E = E} old new (Ok begun) → begun ≡ true → AcceptsNext old new
has_begun E old new true n is = n
has_begun E old new false n is = let no : ⊥ = cc in absurd no

pub has_ended : (E : Type 0) (old new : StreamState) (begun : Bool) → OnlyAcceptsNext {E = E} old new (Ok begun) → begun ≡ false → (new ≡ old) × (old.port.to_come ≡ Some [])
has_ended E old new true n is = let no : ⊥ = cc in absurd no
has_ended E old new false n is = n

-- ---- the loop over connections

module _ {M W E : Type 0} (Step : M → Request → List ℕ → M → Option E → Type 0) (Keeps : List E → W → W → Type 0) where
  -- n connections were served, the last of which ended so.
  pub record PortSoFar (count : ℕ) (last : CloseReason) (machine now : M) (old mid : StreamState) (watchers watchers' : W) : Type 0 where
    pub connections : List Traffic
    pub edits : List E
    pub endings : List CloseReason
    pub many : length connections ≡ count
    pub came : TakesNextConnections old.port.to_come mid.port.to_come connections
    pub all_carried : port_traffic mid ≡ port_traffic old ++ connections
    pub each : ServesEach Step fixed_reply machine connections endings now edits
    pub read_bound : CountRisesBy (read_failures endings) old.read_faults mid.read_faults
    pub write_bound : CountRisesBy (write_failures endings) old.write_faults mid.write_faults
    pub ended : last ≡ last_ending endings
    pub same_faults : mid.port.faults ≡ old.port.faults
    pub kept : Keeps edits watchers watchers'
    pub same_listening : mid.port.listening ≡ old.port.listening
    pub same_holds : mid.holds ≡ old.holds
    pub same_aside : mid.aside ≡ old.aside
    pub same_peer : mid.peer ≡ old.peer

  pub no_connection : (machine : M) (port : StreamState) (watchers : W) → Keeps [] watchers watchers → PortSoFar 0 Closed machine machine port port watchers watchers
  no_connection machine port watchers none = record {
    connections = [];
    edits = [];
    endings = [];
    many = refl;
    came = came_none port.port.to_come;
    all_carried = sym (append-nil (port_traffic port));
    each = (refl, refl, refl);
    read_bound = omega arith;
    write_bound = omega arith;
    ended = refl;
    same_faults = refl;
    kept = none;
    same_listening = refl;
    same_holds = refl;
    same_aside = refl;
    same_peer = refl;
  }

  pub one_connection : (more : (xs ys : List E) (a b c : W) → Keeps xs a b → Keeps ys b c → Keeps (xs ++ ys) a c)
      (count : ℕ) (last ended : CloseReason) (machine now next : M) (old mid begun new : StreamState) (a b c : W)
      → PortSoFar count last machine now old mid a b → AcceptsNext mid begun → ServesStream Step Keeps ended (record { machine = now; stream = begun; watchers = b }) (record { machine = next; stream = new; watchers = c }) → PortSoFar (count + 1) ended machine next old new a c
  one_connection more count last ended machine now next old mid begun new a b c s n v =
      let x = v.exchanges in
      let same_port = x.same_port in
      let faults : CountsFaultOfReason ended mid.read_faults new.read_faults mid.write_faults new.write_faults = faults_on ended mid begun new n.same_read_faults n.same_write_faults v.faults in
      let truthful = begins_truthful mid begun n in
      record {
        connections = s.connections ++ v.passed ∷ [];
        edits = s.edits ++ v.edits;
        endings = s.endings ++ ended ∷ [];
        many = omega (arith, s.many, length_push s.connections v.passed);
        came = subst (λ (t : Option (List (List ℕ))). TakesNextConnections old.port.to_come t (s.connections ++ v.passed ∷ [])) (sym (ap (λ (p : PortState). p.to_come) same_port))
            (came_more old.port.to_come mid.port.to_come begun.port.to_come begun.inward new.inward s.connections v.passed s.came n.comes truthful v.gave v.found_end);
        all_carried = carried_more old mid begun new s.connections v.passed s.all_carried n same_port v.gave v.found_end v.took;
        each = each_more Step s.connections machine now next s.endings s.edits ended v.passed v.edits s.each v.serves;
        read_bound = reads_bound ended s.endings old.read_faults mid new faults s.read_bound;
        write_bound = writes_bound ended s.endings old.write_faults mid new faults s.write_bound;
        ended = last_added s.endings ended;
        same_faults = ap (λ (p : PortState). p.faults) same_port ∙ n.same_faults ∙ s.same_faults;
        kept = more s.edits v.edits a b c s.kept v.kept;
        same_listening = ap (λ (p : PortState). p.listening) same_port ∙ n.same_listening ∙ s.same_listening;
        same_holds = x.same_holds ∙ n.same_holds ∙ s.same_holds;
        same_aside = x.same_aside ∙ n.same_aside ∙ s.same_aside;
        same_peer = x.same_peer ∙ n.same_peer ∙ s.same_peer;
      }

  module _ (most count : ℕ) (last : CloseReason) (machine now : M) (old mid : StreamState) (a b : W) (s : PortSoFar count last machine now old mid a b) where
    -- all wanted ones were served
    abbrev served : StopReason → ServeSummary
    served stop = record { connections = count; last = last; stop = stop }

    stopped : (stop : StopReason) → HasStopReason stop most count old mid → ServesPort Step Keeps (record { most = most; served = (served stop) }) (record { machine = machine; stream = old; watchers = a }) (record { machine = now; stream = mid; watchers = b })
    stopped stop stops = record {
      connections = s.connections;
      edits = s.edits;
      count = s.many;
      came = s.came;
      all_carried = s.all_carried;
      serves = record { endings = s.endings; each = s.each; read_bound = s.read_bound; write_bound = s.write_bound };
      last = s.ended;
      stop = stops;
      kept = s.kept;
      same_listening = s.same_listening;
      same_holds = s.same_holds;
      same_aside = s.same_aside;
      same_peer = s.same_peer;
    }

    pub all_served : count ≡ most → ServesPort Step Keeps (record { most = most; served = (served Count) }) (record { machine = machine; stream = old; watchers = a }) (record { machine = now; stream = mid; watchers = b })
    all_served all = stopped Count (all, s.same_faults)

    -- no more were to come
    pub none_to_come : (new : StreamState) → count < most → (new ≡ mid) × (mid.port.to_come ≡ Some []) → ServesPort Step Keeps (record { most = most; served = (served NoMore) }) (record { machine = machine; stream = old; watchers = a }) (record { machine = now; stream = new; watchers = b })
    none_to_come new few (same, none) = subst (λ (l : StreamState). ServesPort Step Keeps (record { most = most; served = (served NoMore) }) (record { machine = machine; stream = old; watchers = a }) (record { machine = now; stream = l; watchers = b })) (sym same) (stopped NoMore (few, none, s.same_faults))

    -- accepting the next one failed
    pub next_failed : (new : StreamState) → count < most → NextFailed mid new → ServesPort Step Keeps (record { most = most; served = (served PortFailed) }) (record { machine = machine; stream = old; watchers = a }) (record { machine = now; stream = new; watchers = b })
    next_failed new few f = record {
      connections = s.connections;
      edits = s.edits;
      count = s.many;
      came = subst (λ (t : Option (List (List ℕ))). TakesNextConnections old.port.to_come t s.connections) (sym f.same_to_come) s.came;
      all_carried = f.keeps ∙ s.all_carried;
      serves = record {
        endings = s.endings;
        each = s.each;
        read_bound = subst (CountRisesBy (read_failures s.endings) old.read_faults) (sym f.same_read_faults) s.read_bound;
        write_bound = subst (CountRisesBy (write_failures s.endings) old.write_faults) (sym f.same_write_faults) s.write_bound;
      };
      last = s.ended;
      stop = (few, subst (λ (n : ℕ). CountRises n new.port.faults) s.same_faults f.rose);
      kept = s.kept;
      same_listening = f.same_listening ∙ s.same_listening;
      same_holds = f.same_holds ∙ s.same_holds;
      same_aside = f.same_aside ∙ s.same_aside;
      same_peer = f.same_peer ∙ s.same_peer;
    }

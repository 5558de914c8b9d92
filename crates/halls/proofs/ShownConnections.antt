-- The connections of a hall in memory, as their clients show them, after one call.
use Rattle.std.proofs.Common.{◌≡◌, ℕ, zero, suc, ◌+◌, ◌<◌, ◌≤◌, List, [], ◌∷◌, ◌++◌, length, map, drop, None, Some, Result, Ok, Err, refl, sym, ap, ◌∙◌, arith, true, false, Bool, subst}
use Rattle.std.specs.Prelude.{slice_set, slice_index_or, IfOk, option_map}
use Rattle.std.proofs.lemmas.List.{length-set, length_push, drop-set-lt, drop_more, get_or_read, length-map, length-drop}
use Rattle.halls.specs.declared.hall.Progress.{Progress}
use Rattle.halls.specs.declared.hall.Progress.TheVariants.{Moved, Blocked}
use Rattle.halls.specs.declared.hall.Event.{Event}
use Rattle.halls.specs.declared.hall.Event.TheVariants.{Knock, Ready, Late, Quiet, Over}
use Rattle.halls.specs.StateChanges.{hall_after_close, hall_after_read, hall_after_wait, hall_after_write, with_wait, with_next_connection, with_break, with_close, first_text, connection_after_read, connection_after_write, with_report}
use Rattle.halls.specs.HallState.{ConnectionState, HallState, new_connection, connection_at, with_connection}
use Rattle.halls.specs.CallResults.{IsOpen, MayRead}
use Rattle.halls.specs.inner.Clients.{ReadsClient, WritesClient}
use Rattle.halls.specs.MemoryHalls.{ClientState, with_client_states, memory_hall_state, new_client, with_client_state, texts_to_come}
use Rattle.halls.specs.inner.Clients.{client_after_read, client_after_write, client_at, closed_client, connected_client, with_client}

abbrev none : ConnectionState
none = new_connection 0 None

-- a change of one client, with the change of its connection that it shows
shown_set : (connections : List ConnectionState) (clients : List ClientState) (n : ℕ) (change : ClientState → ClientState) (f : ConnectionState → ConnectionState)
    → ((x : ConnectionState) (c : ClientState) → with_client_state (f x) (change c) ≡ f (with_client_state x c))
    → with_client_states (slice_set connections n (f (slice_index_or connections n none))) (slice_set clients n (change (slice_index_or clients n (new_client []))))
    ≡ slice_set (with_client_states connections clients) n (f (slice_index_or (with_client_states connections clients) n none))
shown_set [] clients n change f same = refl
shown_set (x ∷ connections) [] n change f same = beyond x connections n f where
  beyond : (x : ConnectionState) (connections : List ConnectionState) (n : ℕ) (f : ConnectionState → ConnectionState) → with_client_states (slice_set (x ∷ connections) n (f (slice_index_or (x ∷ connections) n none))) [] ≡ []
  beyond x connections zero f = refl
  beyond x connections (suc n) f = refl
shown_set (x ∷ connections) (c ∷ clients) zero change f same = ap (λ (y : ConnectionState). y ∷ with_client_states connections clients) (same x c)
shown_set (x ∷ connections) (c ∷ clients) (suc n) change f same = ap (λ (ys : List ConnectionState). with_client_state x c ∷ ys) (shown_set connections clients n change f same)

-- the same where no client changes
shown_same : (connections : List ConnectionState) (clients : List ClientState) (n : ℕ) (f : ConnectionState → ConnectionState)
    → ((x : ConnectionState) (c : ClientState) → with_client_state (f x) c ≡ f (with_client_state x c))
    → with_client_states (slice_set connections n (f (slice_index_or connections n none))) clients
    ≡ slice_set (with_client_states connections clients) n (f (slice_index_or (with_client_states connections clients) n none))
shown_same [] clients n f same = refl
shown_same (x ∷ connections) [] n f same = beyond x connections n f where
  beyond : (x : ConnectionState) (connections : List ConnectionState) (n : ℕ) (f : ConnectionState → ConnectionState) → with_client_states (slice_set (x ∷ connections) n (f (slice_index_or (x ∷ connections) n none))) [] ≡ []
  beyond x connections zero f = refl
  beyond x connections (suc n) f = refl
shown_same (x ∷ connections) (c ∷ clients) zero f same = ap (λ (y : ConnectionState). y ∷ with_client_states connections clients) (same x c)
shown_same (x ∷ connections) (c ∷ clients) (suc n) f same = ap (λ (ys : List ConnectionState). with_client_state x c ∷ ys) (shown_same connections clients n f same)

-- one of the connections shown
pub shown_at : (connections : List ConnectionState) (clients : List ClientState) (n : ℕ) → n < length connections → length connections ≤ length clients
    → slice_index_or (with_client_states connections clients) n none ≡ with_client_state (slice_index_or connections n none) (client_at clients n)
shown_at [] clients n below within = absurd (let no : ⊥ = omega arith in no)
shown_at (x ∷ connections) [] n below within = absurd (let no : ⊥ = omega arith in no)
shown_at (x ∷ connections) (c ∷ clients) zero below within = refl
shown_at (x ∷ connections) (c ∷ clients) (suc n) below within = shown_at connections clients n (omega arith) (omega arith)

pub length-with_client_states : (connections : List ConnectionState) (clients : List ClientState) → length connections ≤ length clients → length (with_client_states connections clients) ≡ length connections
length-with_client_states [] clients within = refl
length-with_client_states (x ∷ connections) [] within = absurd (let no : ⊥ = omega arith in no)
length-with_client_states (x ∷ connections) (c ∷ clients) within = ap suc (length-with_client_states connections clients (omega arith))

-- one more connection, of the next client
shown_next : (connections : List ConnectionState) (clients : List ClientState) (next : ConnectionState) (client : ClientState) → length connections < length clients
    → with_client_states (connections ++ next ∷ []) (slice_set clients (length connections) client) ≡ with_client_states connections clients ++ with_client_state next client ∷ []
shown_next [] [] next client within = absurd (let no : ⊥ = omega arith in no)
shown_next [] (c ∷ clients) next client within = refl
shown_next (x ∷ connections) [] next client within = absurd (let no : ⊥ = omega arith in no)
shown_next (x ∷ connections) (c ∷ clients) next client within = ap (λ (ys : List ConnectionState). with_client_state x c ∷ ys) (shown_next connections clients next client (omega arith))

-- what is to come, where a change leaves what the client has to send
texts_kept : (clients : List ClientState) (k n : ℕ) (change : ClientState → ClientState) → ((c : ClientState) → (change c).left ≡ c.left)
    → texts_to_come (with_client clients n change) k ≡ texts_to_come clients k
texts_kept [] k n change kept = refl
texts_kept (c ∷ clients) zero zero change kept = ap (λ (text : List ℕ). text ∷ texts_to_come clients 0) (kept c)
texts_kept (c ∷ clients) zero (suc n) change kept = ap (λ (texts : List (List ℕ)). c.left ∷ texts) (texts_kept clients zero n change kept)
texts_kept (c ∷ clients) (suc k) zero change kept = refl
texts_kept (c ∷ clients) (suc k) (suc n) change kept = texts_kept clients k n change kept

-- the hall with other connections and texts, of which both are the same
together : (hall : HallState) (connections connections' : List ConnectionState) (texts texts' : List (List ℕ)) → connections ≡ connections' → texts ≡ texts'
    → record hall { connections = connections; to_come = Some texts } ≡ record hall { connections = connections'; to_come = Some texts' }
together hall connections connections' texts texts' same also = ap (λ (xs : List ConnectionState). record hall { connections = xs; to_come = Some texts }) same ∙ ap (λ (ts : List (List ℕ)). record hall { connections = connections'; to_come = Some ts }) also

-- what is to come depends on how many connections there are alone
texts_by_count : (clients : List ClientState) (connections : List ConnectionState) (n : ℕ) (x : ConnectionState)
    → texts_to_come clients (length (slice_set connections n x)) ≡ texts_to_come clients (length connections)
texts_by_count clients connections n x = ap (texts_to_come clients) (length-set connections n x)

-- a change of one client that leaves what it has to send
pub change_shown : (clients : List ClientState) (logged : HallState) (n : ℕ) (change : ClientState → ClientState) (f : ConnectionState → ConnectionState)
    → ((x : ConnectionState) (c : ClientState) → with_client_state (f x) (change c) ≡ f (with_client_state x c)) → ((c : ClientState) → (change c).left ≡ c.left)
    → memory_hall_state (with_client clients n change) (with_connection logged n f) ≡ with_connection (memory_hall_state clients logged) n f
change_shown clients logged n change f same kept =
    together logged _ _ _ _ (shown_set logged.connections clients n change f same)
    (texts_by_count (with_client clients n change) logged.connections n (f (connection_at logged n)) ∙ texts_kept clients (length logged.connections) n change kept)

-- a change of one client that has connected
pub connected_shown : (clients : List ClientState) (logged : HallState) (n : ℕ) (change : ClientState → ClientState) (f : ConnectionState → ConnectionState)
    → ((x : ConnectionState) (c : ClientState) → with_client_state (f x) (change c) ≡ f (with_client_state x c)) → n < length logged.connections
    → memory_hall_state (with_client clients n change) (with_connection logged n f) ≡ with_connection (memory_hall_state clients logged) n f
connected_shown clients logged n change f same below =
    together logged _ _ _ _ (shown_set logged.connections clients n change f same)
    (texts_by_count (with_client clients n change) logged.connections n (f (connection_at logged n))
    ∙ ap (map (λ (c : ClientState). c.left)) (drop-set-lt (length logged.connections) clients n (change (client_at clients n)) below))

-- a change of a connection that no client shows
pub logged_shown : (clients : List ClientState) (logged : HallState) (n : ℕ) (f : ConnectionState → ConnectionState)
    → ((x : ConnectionState) (c : ClientState) → with_client_state (f x) c ≡ f (with_client_state x c))
    → memory_hall_state clients (with_connection logged n f) ≡ with_connection (memory_hall_state clients logged) n f
logged_shown clients logged n f same =
    together logged _ _ _ _ (shown_same logged.connections clients n f same) (texts_by_count clients logged.connections n (f (connection_at logged n)))

pub read_shown : {E : Type 0} (clients : List ClientState) (logged : HallState) (n : ℕ) (buf : List ℕ) (result : Result Progress E) → IfOk result (λ _. n < length logged.connections)
    → memory_hall_state (with_client clients n (client_after_read result)) (hall_after_read n buf result logged) ≡ hall_after_read n buf result (memory_hall_state clients logged)
read_shown {E} clients logged n buf (Ok (Moved count)) below = connected_shown clients logged n (client_after_read {E = E} (Ok (Moved count))) (λ x. connection_after_read {E = E} buf (Ok (Moved count)) (record x { reads = x.reads + 1 })) (λ x c. refl) below
read_shown {E} clients logged n buf (Ok Blocked) below = change_shown clients logged n (client_after_read {E = E} (Ok Blocked)) (λ x. connection_after_read {E = E} buf (Ok Blocked) (record x { reads = x.reads + 1 })) (λ x c. refl) (λ c. refl)
read_shown {E} clients logged n buf (Err e) below = change_shown clients logged n (client_after_read {E = E} (Err e)) (λ x. connection_after_read {E = E} buf (Err e) (record x { reads = x.reads + 1 })) (λ x c. refl) (λ c. refl)

pub write_shown : {E : Type 0} (clients : List ClientState) (logged : HallState) (n : ℕ) (piece : List ℕ) (result : Result Progress E)
    → memory_hall_state (with_client clients n (client_after_write piece result)) (hall_after_write n piece result logged) ≡ hall_after_write n piece result (memory_hall_state clients logged)
write_shown {E} clients logged n piece (Ok (Moved count)) = change_shown clients logged n (client_after_write {E = E} piece (Ok (Moved count))) (λ x. connection_after_write {E = E} piece (Ok (Moved count)) (record x { writes = x.writes + 1 })) (λ x c. refl) (λ c. refl)
write_shown {E} clients logged n piece (Ok Blocked) = change_shown clients logged n (client_after_write {E = E} piece (Ok Blocked)) (λ x. connection_after_write {E = E} piece (Ok Blocked) (record x { writes = x.writes + 1 })) (λ x c. refl) (λ c. refl)
write_shown {E} clients logged n piece (Err e) = change_shown clients logged n (client_after_write {E = E} piece (Err e)) (λ x. connection_after_write {E = E} piece (Err e) (record x { writes = x.writes + 1 })) (λ x c. refl) (λ c. refl)

pub close_shown : (clients : List ClientState) (logged : HallState) (n : ℕ) → memory_hall_state (with_client clients n closed_client) (hall_after_close n logged) ≡ hall_after_close n (memory_hall_state clients logged)
close_shown clients logged n = change_shown clients logged n closed_client with_close (λ x c. refl) (λ c. refl)

pub wait_shown : {E : Type 0} (clients : List ClientState) (logged : HallState) (more : Bool) (result : Result Event E) → memory_hall_state clients (hall_after_wait more result logged) ≡ hall_after_wait more result (memory_hall_state clients logged)
wait_shown clients logged more (Ok Knock) = refl
wait_shown clients logged more (Ok (Ready id)) = logged_shown clients (with_wait more logged) id.number with_report (λ x c. refl)
wait_shown clients logged more (Ok (Late id)) = logged_shown clients (with_wait more logged) id.number with_break (λ x c. refl)
wait_shown clients logged more (Ok Quiet) = refl
wait_shown clients logged more (Ok Over) = refl
wait_shown clients logged more (Err e) = refl

-- the next client connects
pub begins_shown : (clients : List ClientState) (logged : HallState) (place : ℕ) → length logged.connections < length clients
    → memory_hall_state (with_client clients (length logged.connections) (connected_client place)) (with_next_connection place logged) ≡ with_next_connection place (memory_hall_state clients logged)
begins_shown clients logged place below =
    let k : ℕ = length logged.connections in
    let next : ConnectionState = new_connection place (option_map first_text logged.to_come) in
    let client : ClientState = connected_client place (client_at clients k) in
    let more : drop k clients ≡ client_at clients k ∷ drop (k + 1) clients = drop_more clients k (new_client []) below in
    let texts : texts_to_come clients k ≡ (client_at clients k).left ∷ texts_to_come clients (k + 1) = ap (map (λ (c : ClientState). c.left)) more in
    together logged _ _ _ _
    (shown_next logged.connections clients next client below
    ∙ ap (λ (left : List ℕ). with_client_states logged.connections clients ++ new_connection place (Some left) ∷ []) (sym (ap first_text texts)))
    (ap (texts_to_come (with_client clients k (connected_client place))) (length_push logged.connections next)
    ∙ ap (map (λ (c : ClientState). c.left)) (drop-set-lt (k + 1) clients k client (omega arith))
    ∙ sym (ap (drop 1) texts))

-- as many connections are shown as began
pub shown_count : (begun : ℕ) (clients : List ClientState) (logged : HallState) → begun ≡ length logged.connections → begun ≤ length clients → length (with_client_states logged.connections clients) ≡ begun
shown_count begun clients logged counted within = length-with_client_states logged.connections clients (omega (arith, counted, within)) ∙ sym counted

-- the connection of a client that has connected
shown_client : (begun n : ℕ) (clients : List ClientState) (logged : HallState) (x : ClientState) → begun ≡ length logged.connections → begun ≤ length clients → n < begun
    → x ≡ slice_index_or clients n x → connection_at (memory_hall_state clients logged) n ≡ with_client_state (connection_at logged n) x
shown_client begun n clients logged x counted within below is =
    shown_at logged.connections clients n (omega (arith, counted, below)) (omega (arith, counted, within))
    ∙ ap (with_client_state (connection_at logged n)) (sym (get_or_read clients n x (omega (arith, below, within)) is (new_client [])))

pub none_beyond : {A : Type 0} (begun n : ℕ) (clients : List ClientState) (logged : HallState) → begun ≡ length logged.connections → begun ≤ length clients → begun ≤ n → n < length (with_client_states logged.connections clients) → A
none_beyond begun n clients logged counted within beyond below = absurd (let count = shown_count begun clients logged counted within in let no : ⊥ = omega (arith, count, beyond, below) in no)

pub closed_shown : (begun n : ℕ) (clients : List ClientState) (logged : HallState) (x : ClientState) (test : Bool) → begun ≡ length logged.connections → begun ≤ length clients → n < begun
    → x ≡ slice_index_or clients n x → test ≡ x.closed → test ≡ true → (connection_at (memory_hall_state clients logged) n).closed ≡ true
closed_shown begun n clients logged x test counted within below is tested closed = ap (λ (c : ConnectionState). c.closed) (shown_client begun n clients logged x counted within below is) ∙ sym tested ∙ closed

pub open_shown : (begun n place : ℕ) (clients : List ClientState) (logged : HallState) (x : ClientState) (test : Bool) → begun ≡ length logged.connections → begun ≤ length clients → n < begun
    → x ≡ slice_index_or clients n x → test ≡ x.closed → test ≡ false → place ≡ x.place → IsOpen (memory_hall_state clients logged) (record { place = place; number = n })
open_shown begun n place clients logged x test counted within below is tested still at =
    let same = shown_client begun n clients logged x counted within below is in
    record {
      begun = let count = shown_count begun clients logged counted within in omega (arith, count, below);
      at_place = ap (λ (c : ConnectionState). c.place) same ∙ sym at;
      not_closed = ap (λ (c : ConnectionState). c.closed) same ∙ sym tested ∙ still;
    }

-- a read of a client, as the hall makes it
pub read_of_hall : {E : Type 0} (begun n : ℕ) (clients clients' : List ClientState) (logged logged' : HallState) (buf : List ℕ) (result : Result Progress E) → begun ≡ length logged.connections
    → ReadsClient begun clients clients' n buf result → logged' ≡ hall_after_read n buf result logged → memory_hall_state clients' logged' ≡ hall_after_read n buf result (memory_hall_state clients logged)
read_of_hall {E} begun n clients clients' logged logged' buf result counted reads is =
    ap (λ (cs : List ClientState). memory_hall_state cs logged') reads.changed ∙ ap (memory_hall_state (with_client clients n (client_after_read result))) is
    ∙ read_shown clients logged n buf result (connected result reads.connected) where
      connected : (result : Result Progress E) → IfOk result (λ _. n < begun) → IfOk result (λ _. n < length logged.connections)
      connected (Ok x) below = omega (arith, below, counted)
      connected (Err e) below = tt

-- the bytes that it gives
pub next_of_hall : {E : Type 0} (begun n : ℕ) (clients clients' : List ClientState) (logged : HallState) (buf : List ℕ) (result : Result Progress E) → begun ≡ length logged.connections → begun ≤ length clients
    → n < length (with_client_states logged.connections clients) → ReadsClient begun clients clients' n buf result → MayRead (connection_at (memory_hall_state clients logged) n).left buf result
next_of_hall begun n clients clients' logged buf result counted within below reads =
    let count = shown_count begun clients logged counted within in
    let same = shown_at logged.connections clients n (omega (arith, counted, count, below)) (omega (arith, counted, within)) in
    subst (λ (c : ConnectionState). MayRead c.left buf result) (sym same) reads.next

-- a write to a client, as the hall makes it
pub write_of_hall : {E : Type 0} (n : ℕ) (clients clients' : List ClientState) (logged logged' : HallState) (piece : List ℕ) (result : Result Progress E)
    → WritesClient clients clients' n piece result → logged' ≡ hall_after_write n piece result logged → memory_hall_state clients' logged' ≡ hall_after_write n piece result (memory_hall_state clients logged)
write_of_hall n clients clients' logged logged' piece result writes is =
    ap (λ (cs : List ClientState). memory_hall_state cs logged') writes.changed ∙ ap (memory_hall_state (with_client clients n (client_after_write piece result))) is ∙ write_shown clients logged n piece result

pub close_of_hall : (n : ℕ) (clients clients' : List ClientState) (logged logged' : HallState) → clients' ≡ with_client clients n closed_client → logged' ≡ hall_after_close n logged
    → memory_hall_state clients' logged' ≡ hall_after_close n (memory_hall_state clients logged)
close_of_hall n clients clients' logged logged' changed is =
    ap (λ (cs : List ClientState). memory_hall_state cs logged') changed ∙ ap (memory_hall_state (with_client clients n closed_client)) is ∙ close_shown clients logged n

-- the next client connects, as the hall accepts it
pub accept_of_hall : (begun place : ℕ) (clients : List ClientState) (logged logged' : HallState) (x y : ClientState) → begun ≡ length logged.connections → begun < length clients
    → x ≡ slice_index_or clients begun x → y ≡ connected_client place x → logged' ≡ with_next_connection place (record logged { accepts = logged.accepts + 1 })
    → memory_hall_state (slice_set clients begun y) logged' ≡ with_next_connection place (record (memory_hall_state clients logged) { accepts = logged.accepts + 1 })
accept_of_hall begun place clients logged logged' x y counted below is connects logs =
    let next : HallState = record logged { accepts = logged.accepts + 1 } in
    let same : y ≡ connected_client place (client_at clients begun) = connects ∙ ap (connected_client place) (get_or_read clients begun x below is (new_client [])) in
    ap (λ (c : ClientState). memory_hall_state (slice_set clients begun c) logged') same
    ∙ ap (memory_hall_state (with_client clients begun (connected_client place))) logs
    ∙ ap (λ (n : ℕ). memory_hall_state (with_client clients n (connected_client place)) (with_next_connection place next)) counted
    ∙ begins_shown clients next place (omega (arith, counted, below))

pub next_is_named : (begun place : ℕ) (clients : List ClientState) (logged : HallState) → begun ≡ length logged.connections → begun < length clients
    → (place ≡ place) × (begun ≡ length (with_client_states logged.connections clients)) × (0 < length (texts_to_come clients (length logged.connections)))
next_is_named begun place clients logged counted below = (
  refl,
  sym (shown_count begun clients logged counted (omega (arith, below))),
  let count = length-map (drop (length logged.connections) clients) (λ (c : ClientState). c.left) in
      let left = length-drop (length logged.connections) clients in
      omega (arith, count, left, counted, below),
)

-- a wait, as the hall makes it
pub wait_of_hall : {E : Type 0} (clients clients' : List ClientState) (logged mid logged' : HallState) (more : Bool) (result : Result Event E) → clients' ≡ clients → mid ≡ logged → logged' ≡ hall_after_wait more result mid
    → memory_hall_state clients' logged' ≡ hall_after_wait more result (memory_hall_state clients logged)
wait_of_hall clients clients' logged mid logged' more result same also is =
    ap (λ (cs : List ClientState). memory_hall_state cs logged') same ∙ ap (memory_hall_state clients) is ∙ ap (λ (hall : HallState). memory_hall_state clients (hall_after_wait more result hall)) also ∙ wait_shown clients logged more result

-- The places of a hall after a call: exactly the open connections are at them.
use Rattle.std.proofs.Common.{inl, inr, ◌≡◌, ◌≢◌, ℕ, zero, suc, ◌+◌, ◌<◌, List, [], ◌∷◌, ◌++◌, length, drop, Option, None, Some, Result, Ok, Err, Bool, true, false, refl, sym, ap, subst, ◌∙◌, arith}
use Rattle.std.specs.Prelude.{OnErr, slice_set, slice_index_or, option_map}
use Rattle.std.proofs.lemmas.Bool.{cases_eq, cases_lt}
use Rattle.std.proofs.lemmas.List.{length-set, length_push, get_or-set_same, get_or-set_other, get_or_append_left, get_or_push, get_or_past}
use Rattle.halls.specs.declared.hall.ConnectionId.{ConnectionId}
use Rattle.halls.specs.declared.hall.Event.{Event}
use Rattle.halls.specs.declared.hall.Event.TheVariants.{Knock, Ready, Late, Quiet, Over}
use Rattle.halls.specs.declared.hall.Progress.{Progress}
use Rattle.halls.specs.declared.hall.Progress.TheVariants.{Moved, Blocked}
use Rattle.halls.specs.StateChanges.{hall_after_close, hall_after_listen, hall_after_read, hall_after_wait, hall_after_write, with_wait, with_next_connection, with_break, with_close, first_text, connection_after_read, connection_after_write, with_report}
use Rattle.halls.specs.HallState.{AreAllClosed, ConnectionState, HallState, new_connection, connection_at, new_hall, with_connection}
use Rattle.halls.specs.CallResults.{IsOpen, MayReport}
use Rattle.poll_halls.specs.inner.ConnectionPlaces.{IsAtItsPlace, HoldsBetweenCalls, MayNameConnection, AreFreePlaces, id_at, number_at}

abbrev none : ConnectionState
none = new_connection 0 None

-- what a change of one connection leaves of each
left_by : {A : Type 0} (of : ConnectionState → A) (f : ConnectionState → ConnectionState) (xs : List ConnectionState) (n m : ℕ) → ((x : ConnectionState) → of (f x) ≡ of x)
    → of (slice_index_or (slice_set xs n (f (slice_index_or xs n none))) m none) ≡ of (slice_index_or xs m none)
left_by of f [] n m same = refl
left_by of f (x ∷ xs) zero zero same = same x
left_by of f (x ∷ xs) zero (suc m) same = refl
left_by of f (x ∷ xs) (suc n) zero same = refl
left_by of f (x ∷ xs) (suc n) (suc m) same = left_by of f xs n m same

-- A call that leaves the connections' places and whether they are closed, and shows nothing.
record Leaves (f : ConnectionState → ConnectionState) : Type 0 where
  place : (x : ConnectionState) → (f x).place ≡ x.place
  closed : (x : ConnectionState) → (f x).closed ≡ x.closed
  hidden : (x : ConnectionState) → x.left ≡ None → (f x).left ≡ None

hidden_by : (f : ConnectionState → ConnectionState) (xs : List ConnectionState) (n m : ℕ) → ((x : ConnectionState) → x.left ≡ None → (f x).left ≡ None)
    → ((m : ℕ) → (slice_index_or xs m none).left ≡ None) → (slice_index_or (slice_set xs n (f (slice_index_or xs n none))) m none).left ≡ None
hidden_by f [] n m keeps all = refl
hidden_by f (x ∷ xs) zero zero keeps all = keeps x (all 0)
hidden_by f (x ∷ xs) zero (suc m) keeps all = all (suc m)
hidden_by f (x ∷ xs) (suc n) zero keeps all = all 0
hidden_by f (x ∷ xs) (suc n) (suc m) keeps all = hidden_by f xs n m keeps (λ (k : ℕ). all (suc k))

open_on : (hall : HallState) (n : ℕ) (f : ConnectionState → ConnectionState) (id : ConnectionId) → Leaves f → IsOpen hall id → IsOpen (with_connection hall n f) id
open_on hall n f id leaves is = record {
  begun = let same = length-set hall.connections n (f (connection_at hall n)) in omega (arith, same, is.begun);
  at_place = left_by (λ (x : ConnectionState). x.place) f hall.connections n id.number leaves.place ∙ is.at_place;
  not_closed = left_by (λ (x : ConnectionState). x.closed) f hall.connections n id.number leaves.closed ∙ is.not_closed;
}

open_before : (hall : HallState) (n : ℕ) (f : ConnectionState → ConnectionState) (id : ConnectionId) → Leaves f → IsOpen (with_connection hall n f) id → IsOpen hall id
open_before hall n f id leaves is = record {
  begun = let same = length-set hall.connections n (f (connection_at hall n)) in omega (arith, same, is.begun);
  at_place = sym (left_by (λ (x : ConnectionState). x.place) f hall.connections n id.number leaves.place) ∙ is.at_place;
  not_closed = sym (left_by (λ (x : ConnectionState). x.closed) f hall.connections n id.number leaves.closed) ∙ is.not_closed;
}

-- after a change of one connection that leaves this
kept_on : (numbers : List (Option ℕ)) (begun : ℕ) (hall : HallState) (n : ℕ) (f : ConnectionState → ConnectionState) → Leaves f → HoldsBetweenCalls numbers begun hall → HoldsBetweenCalls numbers begun (with_connection hall n f)
kept_on numbers begun hall n f leaves kept = record {
  counted = kept.counted ∙ sym (length-set hall.connections n (f (connection_at hall n)));
  held = λ place number. (
    λ is. open_on hall n f (id_at place number) leaves ((kept.held place number).0 is),
    λ is. (kept.held place number).1 (open_before hall n f (id_at place number) leaves is),
  );
  hidden = λ m. hidden_by f hall.connections n m leaves.hidden kept.hidden;
  hidden_to_come = kept.hidden_to_come;
}

-- after a call that changes no connection
kept_by : (numbers : List (Option ℕ)) (begun : ℕ) (old new : HallState) → new.connections ≡ old.connections → new.to_come ≡ old.to_come → HoldsBetweenCalls numbers begun old → HoldsBetweenCalls numbers begun new
kept_by numbers begun old new same also kept =
    let open_new : (id : ConnectionId) → IsOpen old id → IsOpen new id = λ id is. record {
      begun = subst (λ (xs : List ConnectionState). id.number < length xs) (sym same) is.begun;
      at_place = ap (λ (xs : List ConnectionState). (slice_index_or xs id.number none).place) same ∙ is.at_place;
      not_closed = ap (λ (xs : List ConnectionState). (slice_index_or xs id.number none).closed) same ∙ is.not_closed;
    } in
    let open_old : (id : ConnectionId) → IsOpen new id → IsOpen old id = λ id is. record {
      begun = subst (λ (xs : List ConnectionState). id.number < length xs) same is.begun;
      at_place = sym (ap (λ (xs : List ConnectionState). (slice_index_or xs id.number none).place) same) ∙ is.at_place;
      not_closed = sym (ap (λ (xs : List ConnectionState). (slice_index_or xs id.number none).closed) same) ∙ is.not_closed;
    } in
    record {
      counted = kept.counted ∙ sym (ap length same);
      held = λ place number. (λ is. open_new (id_at place number) ((kept.held place number).0 is), λ is. (kept.held place number).1 (open_old (id_at place number) is));
      hidden = λ m. ap (λ (xs : List ConnectionState). (slice_index_or xs m none).left) same ∙ kept.hidden m;
      hidden_to_come = also ∙ kept.hidden_to_come;
    }

-- a new hall with free places
pub kept_new : (numbers : List (Option ℕ)) → AreFreePlaces numbers → HoldsBetweenCalls numbers 0 new_hall
kept_new numbers free = record {
  counted = refl;
  held = λ place number. (λ is. absurd (let e = sym (free place) ∙ is in let no : ⊥ = cc in no), λ is. absurd (let l = is.begun in let no : ⊥ = omega (arith, l) in no));
  hidden = λ m. refl;
  hidden_to_come = refl;
}

pub kept_listen : {E : Type 0} (numbers : List (Option ℕ)) (begun : ℕ) (hall : HallState) (address : List ℕ) (result : Result (Unit {0}) E) → HoldsBetweenCalls numbers begun hall → HoldsBetweenCalls numbers begun (hall_after_listen address result hall)
kept_listen numbers begun hall address (Ok x) kept = kept_by numbers begun hall (record hall { listening = Some address }) refl refl kept
kept_listen numbers begun hall address (Err e) kept = kept_by numbers begun hall (record hall { faults = hall.faults + 1 }) refl refl kept

pub kept_wait : {E : Type 0} (numbers : List (Option ℕ)) (begun : ℕ) (hall : HallState) (more : Bool) (result : Result Event E) → HoldsBetweenCalls numbers begun hall → HoldsBetweenCalls numbers begun (hall_after_wait more result hall)
kept_wait numbers begun hall more (Ok Knock) kept = kept_by numbers begun hall _ refl refl kept
kept_wait numbers begun hall more (Ok (Ready id)) kept = kept_on numbers begun (with_wait more hall) id.number with_report (record { place = λ x. refl; closed = λ x. refl; hidden = λ x h. h }) (kept_by numbers begun hall _ refl refl kept)
kept_wait numbers begun hall more (Ok (Late id)) kept = kept_on numbers begun (with_wait more hall) id.number with_break (record { place = λ x. refl; closed = λ x. refl; hidden = λ x h. h }) (kept_by numbers begun hall _ refl refl kept)
kept_wait numbers begun hall more (Ok Quiet) kept = kept_by numbers begun hall _ refl refl kept
kept_wait numbers begun hall more (Ok Over) kept = kept_by numbers begun hall _ refl refl kept
kept_wait numbers begun hall more (Err e) kept = kept_by numbers begun hall _ refl refl kept

passes_in : {E : Type 0} (buf : List ℕ) (result : Result Progress E) → Leaves (λ (x : ConnectionState). connection_after_read buf result (record x { reads = x.reads + 1 }))
passes_in buf (Ok (Moved count)) = record { place = λ x. refl; closed = λ x. refl; hidden = λ x h. ap (option_map (drop count)) h }
passes_in buf (Ok Blocked) = record { place = λ x. refl; closed = λ x. refl; hidden = λ x h. h }
passes_in buf (Err e) = record { place = λ x. refl; closed = λ x. refl; hidden = λ x h. h }

pub kept_read : {E : Type 0} (numbers : List (Option ℕ)) (begun : ℕ) (hall : HallState) (n : ℕ) (buf : List ℕ) (result : Result Progress E) → HoldsBetweenCalls numbers begun hall → HoldsBetweenCalls numbers begun (hall_after_read n buf result hall)
kept_read numbers begun hall n buf result kept = kept_on numbers begun hall n (λ x. connection_after_read buf result (record x { reads = x.reads + 1 })) (passes_in buf result) kept

passes_out : {E : Type 0} (piece : List ℕ) (result : Result Progress E) → Leaves (λ (x : ConnectionState). connection_after_write piece result (record x { writes = x.writes + 1 }))
passes_out piece (Ok (Moved count)) = record { place = λ x. refl; closed = λ x. refl; hidden = λ x h. h }
passes_out piece (Ok Blocked) = record { place = λ x. refl; closed = λ x. refl; hidden = λ x h. h }
passes_out piece (Err e) = record { place = λ x. refl; closed = λ x. refl; hidden = λ x h. h }

pub kept_write : {E : Type 0} (numbers : List (Option ℕ)) (begun : ℕ) (hall : HallState) (n : ℕ) (piece : List ℕ) (result : Result Progress E) → HoldsBetweenCalls numbers begun hall → HoldsBetweenCalls numbers begun (hall_after_write n piece result hall)
kept_write numbers begun hall n piece result kept = kept_on numbers begun hall n (λ x. connection_after_write piece result (record x { writes = x.writes + 1 })) (passes_out piece result) kept

-- a call of `accept` by which none begins
pub kept_refused : (numbers : List (Option ℕ)) (begun faults : ℕ) (hall : HallState) → HoldsBetweenCalls numbers begun hall → HoldsBetweenCalls numbers begun (record hall { accepts = hall.accepts + 1; faults = faults })
kept_refused numbers begun faults hall kept = kept_by numbers begun hall _ refl refl kept

-- the connection that begins is open, and so are those that were before
open_begun : (place : ℕ) (hall : HallState) (id : ConnectionId) → IsOpen hall id → IsOpen (with_next_connection place hall) id
open_begun place hall id is =
    let next : ConnectionState = new_connection place (option_map first_text hall.to_come) in
    let same = get_or_append_left hall.connections (next ∷ []) none id.number is.begun in
    record {
      begun = let one = length_push hall.connections next in omega (arith, one, is.begun);
      at_place = ap (λ (x : ConnectionState). x.place) same ∙ is.at_place;
      not_closed = ap (λ (x : ConnectionState). x.closed) same ∙ is.not_closed;
    }

open_next : (place number : ℕ) (hall : HallState) → number ≡ length hall.connections → IsOpen (with_next_connection place hall) (id_at place number)
open_next place number hall is =
    let next : ConnectionState = new_connection place (option_map first_text hall.to_come) in
    let same = get_or_push hall.connections next none number (sym is) in
    record {
      begun = let one = length_push hall.connections next in omega (arith, one, is);
      at_place = ap (λ (x : ConnectionState). x.place) same;
      not_closed = ap (λ (x : ConnectionState). x.closed) same;
    }

open_earlier : (place : ℕ) (hall : HallState) (id : ConnectionId) → id.number < length hall.connections → IsOpen (with_next_connection place hall) id → IsOpen hall id
open_earlier place hall id below is =
    let next : ConnectionState = new_connection place (option_map first_text hall.to_come) in
    let same = get_or_append_left hall.connections (next ∷ []) none id.number below in
    record {
      begun = below;
      at_place = sym (ap (λ (x : ConnectionState). x.place) same) ∙ is.at_place;
      not_closed = sym (ap (λ (x : ConnectionState). x.closed) same) ∙ is.not_closed;
    }

hidden_push : (xs : List ConnectionState) (next : ConnectionState) (m : ℕ) → next.left ≡ None → ((m : ℕ) → (slice_index_or xs m none).left ≡ None) → (slice_index_or (xs ++ next ∷ []) m none).left ≡ None
hidden_push [] next zero last all = last
hidden_push [] next (suc m) last all = refl
hidden_push (x ∷ xs) next zero last all = all 0
hidden_push (x ∷ xs) next (suc m) last all = hidden_push xs next m last (λ (k : ℕ). all (suc k))

-- the places after a connection began at a free one
module _ (numbers : List (Option ℕ)) (begun place : ℕ) (hall : HallState) (kept : HoldsBetweenCalls numbers begun hall) (inside : place < length numbers) (free : number_at numbers place ≡ None) where
  abbrev after : List (Option ℕ)
  after = slice_set numbers place (Some begun)

  open_now : (k m : ℕ) → number_at after k ≡ Some m → IsOpen (with_next_connection place hall) (id_at k m)
  open_now k m is = elim (cases_eq k place) [
    | inl same ↦
        let first : Some begun ≡ Some m = sym (get_or-set_same numbers place (Some begun) None inside) ∙ ap (number_at after) (sym same) ∙ is in
        let number : begun ≡ m = cc in
        subst (λ (p : ℕ). IsOpen (with_next_connection place hall) (id_at p m)) (sym same) (open_next place m hall (sym number ∙ kept.counted))
    | inr other ↦ open_begun place hall (id_at k m) ((kept.held k m).0 (sym (get_or-set_other numbers place k (Some begun) None other) ∙ is))
  ]

  held_now : (k m : ℕ) → IsOpen (with_next_connection place hall) (id_at k m) → number_at after k ≡ Some m
  held_now k m is =
      let one = length_push hall.connections (new_connection place (option_map first_text hall.to_come)) in
      elim (cases_eq m begun) [
        | inl last ↦
            let same = get_or_push hall.connections (new_connection place (option_map first_text hall.to_come)) none m (sym (last ∙ kept.counted)) in
            let at : place ≡ k = sym (ap (λ (x : ConnectionState). x.place) same) ∙ is.at_place in
            subst (λ (p : ℕ). number_at after p ≡ Some m) at (get_or-set_same numbers place (Some begun) None inside ∙ ap Some (sym last))
        | inr earlier ↦
            let count = kept.counted in
            let begun_is = is.begun in
            let below : m < length hall.connections = omega (arith, one, count, begun_is, earlier) in
            let was : number_at numbers k ≡ Some m = (kept.held k m).1 (open_earlier place hall (id_at k m) below is) in
            let other : k ≢ place = λ same. let e = sym free ∙ ap (number_at numbers) (sym same) ∙ was in let no : ⊥ = cc in no in
            get_or-set_other numbers place k (Some begun) None other ∙ was
      ]

  open_as : (accepts k m : ℕ) → IsOpen (with_next_connection place hall) (id_at k m) → IsOpen (with_next_connection place (record hall { accepts = accepts })) (id_at k m)
  open_as accepts k m is = record { begun = is.begun; at_place = is.at_place; not_closed = is.not_closed }

  open_of : (accepts k m : ℕ) → IsOpen (with_next_connection place (record hall { accepts = accepts })) (id_at k m) → IsOpen (with_next_connection place hall) (id_at k m)
  open_of accepts k m is = record { begun = is.begun; at_place = is.at_place; not_closed = is.not_closed }

  pub kept_begun : (accepts : ℕ) → HoldsBetweenCalls after (begun + 1) (with_next_connection place (record hall { accepts = accepts }))
  kept_begun accepts = record {
    counted = ap (λ (n : ℕ). n + 1) kept.counted ∙ sym (length_push hall.connections (new_connection place (option_map first_text hall.to_come)));
    held = λ k m. (λ is. open_as accepts k m (open_now k m is), λ is. held_now k m (open_of accepts k m is));
    hidden = λ m. hidden_push hall.connections (new_connection place (option_map first_text hall.to_come)) m (ap (option_map first_text) kept.hidden_to_come) kept.hidden;
    hidden_to_come = ap (option_map (drop 1)) kept.hidden_to_come;
  }

-- the place is free after its connection was closed
closed_is : (hall : HallState) (n m : ℕ) → m < length hall.connections → m ≡ n → (connection_at (hall_after_close n hall) m).closed ≡ true
closed_is hall n m below same = subst (λ (k : ℕ). (connection_at (hall_after_close n hall) k).closed ≡ true) (sym same)
    (ap (λ (x : ConnectionState). x.closed) (get_or-set_same hall.connections n (with_close (connection_at hall n)) none (subst (λ (k : ℕ). k < length hall.connections) same below)))

open_others : (hall : HallState) (n : ℕ) (id : ConnectionId) → id.number ≢ n → IsOpen hall id → IsOpen (hall_after_close n hall) id
open_others hall n id other is =
    let same = get_or-set_other hall.connections n id.number (with_close (connection_at hall n)) none other in
    record {
      begun = let count = length-set hall.connections n (with_close (connection_at hall n)) in omega (arith, count, is.begun);
      at_place = ap (λ (x : ConnectionState). x.place) same ∙ is.at_place;
      not_closed = ap (λ (x : ConnectionState). x.closed) same ∙ is.not_closed;
    }

open_still : (hall : HallState) (n : ℕ) (id : ConnectionId) → id.number ≢ n → IsOpen (hall_after_close n hall) id → IsOpen hall id
open_still hall n id other is =
    let same = get_or-set_other hall.connections n id.number (with_close (connection_at hall n)) none other in
    record {
      begun = let count = length-set hall.connections n (with_close (connection_at hall n)) in omega (arith, count, is.begun);
      at_place = sym (ap (λ (x : ConnectionState). x.place) same) ∙ is.at_place;
      not_closed = sym (ap (λ (x : ConnectionState). x.closed) same) ∙ is.not_closed;
    }

-- the place of an open connection is one of the places
pub place_inside : (numbers : List (Option ℕ)) (id : ConnectionId) → IsAtItsPlace numbers id → id.place < length numbers
place_inside numbers id is = elim (cases_lt id.place (length numbers)) [
  | inl below ↦ below
  | inr beyond ↦ absurd (let e = sym (get_or_past numbers id.place None beyond) ∙ is in let no : ⊥ = cc in no)
]

module _ (numbers : List (Option ℕ)) (begun : ℕ) (hall : HallState) (id : ConnectionId) (kept : HoldsBetweenCalls numbers begun hall) (open_id : IsOpen hall id) where
  abbrev freed : List (Option ℕ)
  freed = slice_set numbers id.place None

  pub held_id : IsAtItsPlace numbers id
  held_id = (kept.held id.place id.number).1 open_id

  open_freed : (k m : ℕ) → number_at freed k ≡ Some m → IsOpen (hall_after_close id.number hall) (id_at k m)
  open_freed k m is = elim (cases_eq k id.place) [
    | inl same ↦ absurd (
        let e = sym (get_or-set_same numbers id.place None None (place_inside numbers id held_id)) ∙ ap (number_at freed) (sym same) ∙ is in
        let no : ⊥ = cc in no)
    | inr other ↦
        let was = (kept.held k m).0 (sym (get_or-set_other numbers id.place k None None other) ∙ is) in
        open_others hall id.number (id_at k m) (λ same. other (sym was.at_place ∙ ap (λ (n : ℕ). (connection_at hall n).place) same ∙ open_id.at_place)) was
  ]

  held_freed : (k m : ℕ) → IsOpen (hall_after_close id.number hall) (id_at k m) → number_at freed k ≡ Some m
  held_freed k m is =
      let differs : m ≢ id.number = λ same.
      let below : m < length hall.connections = (let count = length-set hall.connections id.number (with_close (connection_at hall id.number)) in omega (arith, count, is.begun)) in
      let e = sym (closed_is hall id.number m below same) ∙ is.not_closed in
      let no : ⊥ = cc in no
      in
      let was : number_at numbers k ≡ Some m = (kept.held k m).1 (open_still hall id.number (id_at k m) differs is) in
      let other : k ≢ id.place = λ same.
      let e : Some id.number ≡ Some m = sym held_id ∙ ap (number_at numbers) (sym same) ∙ was in
      let n : id.number ≡ m = cc in
      differs (sym n)
      in
      get_or-set_other numbers id.place k None None other ∙ was

  pub kept_closed : HoldsBetweenCalls freed begun (hall_after_close id.number hall)
  kept_closed = record {
    counted = kept.counted ∙ sym (length-set hall.connections id.number (with_close (connection_at hall id.number)));
    held = λ k m. (open_freed k m, held_freed k m);
    hidden = λ m. hidden_by with_close hall.connections id.number m (λ x h. h) kept.hidden;
    hidden_to_come = kept.hidden_to_come;
  }

-- what an event may name, as a hall may report it
pub may_report : {E : Type 0} (numbers : List (Option ℕ)) (begun : ℕ) (hall : HallState) (takes_more : Bool) (result : Result Event E) → HoldsBetweenCalls numbers begun hall → MayNameConnection numbers takes_more result → MayReport hall takes_more result
may_report numbers begun hall takes_more (Ok Knock) kept named = named
may_report numbers begun hall takes_more (Ok (Ready id)) kept named = (kept.held id.place id.number).0 named
may_report numbers begun hall takes_more (Ok (Late id)) kept named = (kept.held id.place id.number).0 named
may_report numbers begun hall takes_more (Ok Quiet) kept named = named
may_report numbers begun hall takes_more (Ok Over) kept named = absurd named
may_report numbers begun hall takes_more (Err e) kept named = named

-- where all places are free, all connections are closed
pub free_all_closed : (numbers : List (Option ℕ)) (begun : ℕ) (hall : HallState) → HoldsBetweenCalls numbers begun hall → AreFreePlaces numbers → AreAllClosed hall
free_all_closed numbers begun hall kept free = λ n below. by_closed n below (connection_at hall n).closed refl
  where
    none_is_some : (n : ℕ) → None ≡ Some n → ⊥
    none_is_some n e = cc

    by_closed : (n : ℕ) → n < length hall.connections → (b : Bool) → (connection_at hall n).closed ≡ b → b ≡ true
    by_closed n below true is = refl
    by_closed n below false is =
        let place : ℕ = (connection_at hall n).place in
        absurd (none_is_some n (sym (free place) ∙ (kept.held place n).1 (record { begun = below; at_place = refl; not_closed = is })))

pub failed_alone : {A E : Type 0} (result : Result A E) (numbers : List (Option ℕ)) (begun : ℕ) (hall : HallState) → HoldsBetweenCalls numbers begun hall → OnErr result (AreFreePlaces numbers) → OnErr result (AreAllClosed hall)
failed_alone (Ok x) numbers begun hall kept alone = alone
failed_alone (Err e) numbers begun hall kept alone = free_all_closed numbers begun hall kept alone

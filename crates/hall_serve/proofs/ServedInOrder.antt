-- Connections that are served one after the other.
use Rattle.std.proofs.Common.{◌≡◌, ◌≢◌, ℕ, suc, ◌+◌, ◌<◌, ◌≤◌, ◌==◌, ◌⊎◌, inl, inr, Bool, true, false, true≢false, List, [], ◌∷◌, ◌++◌, length, map, Option, None, Some, refl, sym, ap, subst, ◌∙◌, if◌then◌else◌, arith, append_assoc}
use Rattle.std.specs.Prelude.{option_to_list, slice_index_or}
use Rattle.std.proofs.lemmas.List.{append-nil}
use Rattle.std.proofs.lemmas.Bool.Decides.{eqb_tells}
use Rattle.halls.specs.HallState.{ConnectionState, HallState, connection_at, new_connection}
use Rattle.http_wire.specs.declared.request.Request.{Request}
use Rattle.http_wire.specs.declared.close_reason.CloseReason.TheVariants.{Closed}
use Rattle.http_wire.specs.ConnectionItems.{Item, asks, bad, too_long, coded, AsksFor, IsKnownFirstItem, ends_connection}
use Rattle.http_wire.specs.ServedConnections.{AnswersItem, AnswersRequests, ClosesConnection, ServesConnection, ServesEach, last_item, no_more, no_memory as no_memory_left}
use Rattle.http_wire.proofs.WholeItems.{asks-append}
use Rattle.http_serve.specs.FixedReplies.{fixed_reply}
use Rattle.hall_serve.specs.Exchanges.{AreExchanges, Exchange, IsExchange, answered, edits, exchanges_on, last_closes, no_memory, replies}
use Rattle.hall_serve.specs.Seats.{MatchesSeats, SeatState, seat_at}
use Rattle.hall_serve.specs.ServedConnections.{BeginsWithItem, BeginsWithItems, EndsAfter, IsServed, after_break, after_reply, at_end}
use Rattle.hall_serve.specs.ServedHalls.{HasServed}
use Rattle.hall_serve.specs.ServedInTurn.{AreInTurn, IsClosedUnbroken, all_closed, traffic_of}
use Rattle.hall_serve.proofs.ExchangeLists.{edits-append}
use Rattle.hall_serve.proofs.ExchangesInTurn.{not_none, skip}

-- ---- one connection

-- the item is known to come first
known : (before : ℕ) (given : List ℕ) (ended : Bool) (item : Item) (rest : List ℕ) → BeginsWithItem before given ended item rest → IsKnownFirstItem before given ended item
known before given ended (asks request) rest is = inl (λ more. (rest ++ more, asks-append before given more request rest is))
known before given ended bad rest is = is
known before given ended too_long rest is = is
known before given ended coded rest is = is

module _ {M E : Type 0} (Step : M → Request → List ℕ → M → Option E → Type 0) where
  -- the parts of `ServesConnection`
  pub record Parts (before : ℕ) (given : List ℕ) (ended : Bool) (machine next : M) (mine : List (Exchange E)) : Type 0 where
    pub requests : List Request
    pub early_replies : List ℕ
    pub early : List E
    pub mid : M
    pub behind : List ℕ
    pub last : List ℕ
    pub edit : Option E
    pub run : AnswersRequests Step fixed_reply before machine given requests (record { written = early_replies; edits = early; next = mid; rest = behind })
    pub ends : ClosesConnection Step fixed_reply (record { before = before + length requests; given = behind; ended = ended }) mid (record { written = last; next = next; edit = edit })
    pub wrote : replies mine ≡ early_replies ++ last
    pub told : edits mine ≡ early ++ option_to_list edit

  -- how it ended, if it didn't break
  abbrev EndsWell : Bool → List (Exchange E) → List ℕ → Type 0
  EndsWell ended mine rest = (last_closes mine ≡ true) ⊎ ((last_closes mine ≡ false) × (ended ≡ true) × (rest ≡ []))

  at_no_more : (before : ℕ) (given : List ℕ) (ended : Bool) (machine next : M) → next ≡ machine → given ≡ [] → ended ≡ true → Parts before given ended machine next []
  at_no_more before given ended machine next same none is = record {
    requests = [];
    early_replies = [];
    early = [];
    mid = machine;
    behind = given;
    last = [];
    edit = None;
    run = (refl, refl, refl, refl);
    ends = no_more none is refl same refl;
    wrote = refl;
    told = refl;
  }

  -- the last item ends the connection
  at_last : (before : ℕ) (given rest : List ℕ) (ended : Bool) (machine next : M) (x : Exchange E) → x.closes ≡ true → BeginsWithItem before given ended x.item rest → IsExchange Step machine x next → Parts before given ended machine next (x ∷ [])
  at_last before given rest ended machine next x closes first is = record {
    requests = [];
    early_replies = [];
    early = [];
    mid = machine;
    behind = given;
    last = x.reply;
    edit = x.edit;
    run = (refl, refl, refl, refl);
    ends = ends_by is (let e : before ≡ before + 0 = omega arith in e);
    wrote = append-nil x.reply;
    told = append-nil (option_to_list x.edit);
  }
    where
      ends_by : IsExchange Step machine x next → before ≡ before + 0 → ClosesConnection Step fixed_reply (record { before = before + 0; given = given; ended = ended }) machine (record { written = x.reply; next = next; edit = x.edit })
      ends_by (answered same answer) e = last_item x.item (subst (λ (n : ℕ). IsKnownFirstItem n given ended x.item) e (known before given ended x.item rest first)) (sym same ∙ closes) answer
      ends_by (no_memory request asked _ reply none same) e =
          no_memory_left request rest (subst (λ (n : ℕ). AsksFor n given request rest) e (subst (λ (i : Item). BeginsWithItem before given ended i rest) asked first)) reply same none

  -- a request that keeps the connection open, and then what ends it
  pub record Request₁ (before : ℕ) (given rest : List ℕ) (machine next : M) (x : Exchange E) : Type 0 where
    pub request : Request
    pub asked : AsksFor before given request rest
    pub stays : request.closes ≡ false
    pub step : Step machine request x.reply next x.edit

  is_request : (before : ℕ) (given rest : List ℕ) (ended : Bool) (machine next : M) (x : Exchange E) → x.closes ≡ false → BeginsWithItem before given ended x.item rest → IsExchange Step machine x next → Request₁ before given rest machine next x
  is_request before given rest ended machine next x goes_on first (no_memory request asked closes _ _ _) = absurd (true≢false (sym closes ∙ goes_on))
  is_request before given rest ended machine next x goes_on first (answered same answer) = by_item x.item refl (sym same ∙ goes_on) first answer
    where
      by_item : (item : Item) → x.item ≡ item → ends_connection x.item ≡ false → BeginsWithItem before given ended x.item rest → AnswersItem Step fixed_reply machine x.item x.reply next x.edit → Request₁ before given rest machine next x
      by_item (asks request) is stays first answer = record {
        request = request;
        asked = subst (λ (i : Item). BeginsWithItem before given ended i rest) is first;
        stays = ap ends_connection (sym is) ∙ stays;
        step = subst (λ (i : Item). AnswersItem Step fixed_reply machine i x.reply next x.edit) is answer;
      }
      by_item bad is stays first answer = absurd (true≢false (ap ends_connection (sym is) ∙ stays))
      by_item too_long is stays first answer = absurd (true≢false (ap ends_connection (sym is) ∙ stays))
      by_item coded is stays first answer = absurd (true≢false (ap ends_connection (sym is) ∙ stays))

  one_more : (before : ℕ) (given rest : List ℕ) (ended : Bool) (machine mid next : M) (x : Exchange E) (xs : List (Exchange E)) → Request₁ before given rest machine mid x → Parts (before + 1) rest ended mid next xs → Parts before given ended machine next (x ∷ xs)
  one_more before given rest ended machine mid next x xs r p = record {
    requests = r.request ∷ p.requests;
    early_replies = x.reply ++ p.early_replies;
    early = option_to_list x.edit ++ p.early;
    mid = p.mid;
    behind = p.behind;
    last = p.last;
    edit = p.edit;
    run = (rest, x.reply, mid, x.edit, p.early_replies, p.early, r.asked, r.stays, r.step, refl, refl, p.run);
    ends = subst (λ (n : ℕ). ClosesConnection Step fixed_reply (record { before = n; given = p.behind; ended = ended }) p.mid (record { written = p.last; next = next; edit = p.edit }))
        (let e : before + 1 + length p.requests ≡ before + suc (length p.requests) = omega arith in e) p.ends;
    wrote = ap (λ (l : List ℕ). x.reply ++ l) p.wrote ∙ sym (append_assoc x.reply p.early_replies p.last);
    told = ap (λ (l : List E). option_to_list x.edit ++ l) p.told ∙ sym (append_assoc (option_to_list x.edit) p.early (option_to_list p.edit));
  }

  ends_later : (ended : Bool) (x : Exchange E) (xs : List (Exchange E)) (rest : List ℕ) → x.closes ≡ false → EndsWell ended (x ∷ xs) rest → EndsWell ended xs rest
  ends_later ended x [] rest goes_on (inl closes) = absurd (true≢false (sym closes ∙ goes_on))
  ends_later ended x [] rest goes_on (inr (_, is, none)) = inr (refl, is, none)
  ends_later ended x (y ∷ ys) rest goes_on ends = ends

  parts : (before : ℕ) (given : List ℕ) (ended : Bool) (machine next : M) (mine : List (Exchange E)) (rest : List ℕ) → BeginsWithItems before given ended mine rest → AreExchanges Step machine mine next → EndsWell ended mine rest
      → Parts before given ended machine next mine
  parts before given ended machine next [] rest begins same (inl closes) = absurd (true≢false (sym closes))
  parts before given ended machine next [] rest begins same (inr (_, is, none)) = at_no_more before given ended machine next same (begins ∙ none) is
  parts before given ended machine next (x ∷ xs) rest (behind, first, last, others) (mid, one, steps) ends =
      by_closing x.closes refl (λ goes_on. parts (before + 1) behind ended mid next xs rest others steps (ends_later ended x xs rest goes_on ends))
    where
      alone : xs ≡ [] → AreExchanges Step mid xs next → next ≡ mid
      alone none steps = subst (λ (l : List (Exchange E)). AreExchanges Step mid l next) none steps

      by_closing : (b : Bool) → x.closes ≡ b → (x.closes ≡ false → Parts (before + 1) behind ended mid next xs) → Parts before given ended machine next (x ∷ xs)
      by_closing true is later =
          subst (λ (l : List (Exchange E)). Parts before given ended machine next (x ∷ l)) (sym (last is))
          (at_last before given behind ended machine next x is first (subst (IsExchange Step machine x) (sym (alone (last is) steps)) one))
      by_closing false is later = one_more before given behind ended machine mid next x xs (is_request before given behind ended machine mid x is first one) (later is)

  ended_well : (c : ConnectionState) (mine : List (Exchange E)) (rest pending : List ℕ) → c.broken ≡ false → EndsAfter c mine rest pending → (pending ≡ []) × EndsWell c.ended mine rest
  ended_well c mine rest pending whole (after_break is) = absurd (true≢false (sym is ∙ whole))
  ended_well c mine rest pending whole (after_reply none last) = (none, inl last)
  ended_well c mine rest pending whole (at_end none is empty) = (none, by_last (last_closes mine) refl)
    where
      by_last : (b : Bool) → last_closes mine ≡ b → EndsWell c.ended mine rest
      by_last true last = inl last
      by_last false last = inr (last, is, empty)

  one_served : (c : ConnectionState) (mine : List (Exchange E)) (machine next : M) → IsServed c mine → IsClosedUnbroken c → AreExchanges Step machine mine next → ServesConnection Step fixed_reply Closed machine (traffic_of c) next (edits mine)
  one_served c mine machine next s closed steps =
      let well = ended_well c mine s.rest s.pending closed.1 (s.ends closed.0) in
      let p = parts 0 c.given c.ended machine next mine s.rest s.begins steps well.1 in
      record {
        requests = p.requests;
        replies = p.early_replies;
        early = p.early;
        mid = p.mid;
        behind = p.behind;
        last = p.last;
        edit = p.edit;
        run = p.run;
        ends = subst (λ (n : ℕ). ClosesConnection Step fixed_reply (record { before = n; given = p.behind; ended = c.ended }) p.mid (record { written = p.last; next = next; edit = p.edit }))
            (let e : 0 + length p.requests ≡ length p.requests = omega arith in e) p.ends;
        wrote = sym (append-nil c.taken) ∙ ap (λ (l : List ℕ). c.taken ++ l) (sym well.0) ∙ sym s.wrote ∙ p.wrote;
        all_told = p.told;
      }

-- ---- one after the other

module _ {E : Type 0} where
  none_before : (k n : ℕ) (xs : List (Exchange E)) → n < k → AreInTurn k xs → exchanges_on n xs ≡ []
  none_before k n [] below g = refl
  none_before k n (x ∷ xs) below g = by_test (eqb_tells x.connection n) (none_before x.connection n xs (let l = g.0 in omega (arith, l, below)) g.1)
    where
      by_test : (((x.connection == n) ≡ true) × (x.connection ≡ n)) ⊎ (((x.connection == n) ≡ false) × (x.connection ≢ n)) → exchanges_on n xs ≡ [] → exchanges_on n (x ∷ xs) ≡ []
      by_test (inl (_, same)) rest = absurd (let l = g.0 in let no : ⊥ = omega (arith, l, same, below) in no)
      by_test (inr (is, _)) rest = ap (λ (b : Bool). if b then x ∷ exchanges_on n xs else exchanges_on n xs) is ∙ rest

  -- those of the first connection, and then the others
  pub record Split (n : ℕ) (all : List (Exchange E)) : Type 0 where
    pub mine : List (Exchange E)
    pub others : List (Exchange E)
    pub whole : all ≡ mine ++ others
    pub are_mine : mine ≡ exchanges_on n all
    pub later : AreInTurn (n + 1) others
    pub same : (m : ℕ) → m ≢ n → exchanges_on m others ≡ exchanges_on m all

  split : (n : ℕ) (all : List (Exchange E)) → AreInTurn n all → Split n all
  split n [] g = record { mine = []; others = []; whole = refl; are_mine = refl; later = tt; same = λ m other. refl }
  split n (x ∷ xs) g = by_test (eqb_tells x.connection n) (λ same. split n xs (subst (λ (k : ℕ). AreInTurn k xs) same g.1))
    where
      by_test : (((x.connection == n) ≡ true) × (x.connection ≡ n)) ⊎ (((x.connection == n) ≡ false) × (x.connection ≢ n)) → (x.connection ≡ n → Split n xs) → Split n (x ∷ xs)
      by_test (inl (is, same)) rec =
          let r = rec same in
          record {
            mine = x ∷ r.mine;
            others = r.others;
            whole = ap (λ (l : List (Exchange E)). x ∷ l) r.whole;
            are_mine = ap (λ (l : List (Exchange E)). x ∷ l) r.are_mine ∙ sym (ap (λ (b : Bool). if b then x ∷ exchanges_on n xs else exchanges_on n xs) is);
            later = r.later;
            same = λ m other. r.same m other ∙ sym (skip m x xs (λ e. other (sym e ∙ same)));
          }
      by_test (inr (is, away)) rec = record {
        mine = [];
        others = x ∷ xs;
        whole = refl;
        are_mine = sym (none_before (n + 1) n (x ∷ xs) (omega arith) (let l = g.0 in omega (arith, l, away), g.1));
        later = (let l = g.0 in omega (arith, l, away), g.1);
        same = λ m other. refl;
      }

module _ {M E : Type 0} (Step : M → Request → List ℕ → M → Option E → Type 0) where
  steps_split : (machine next : M) (xs ys : List (Exchange E)) → AreExchanges Step machine (xs ++ ys) next → (mid : M) × AreExchanges Step machine xs mid × AreExchanges Step mid ys next
  steps_split machine next [] ys steps = (machine, refl, steps)
  steps_split machine next (x ∷ xs) ys (between, one, steps) = let r = steps_split between next xs ys steps in (r.0, (between, one, r.1), r.2)

  abbrev at : List ConnectionState → ℕ → ConnectionState
  at connections i = slice_index_or connections i (new_connection 0 None)

  each_in_turn : (connections : List ConnectionState) (n : ℕ) (machine next : M) (all : List (Exchange E)) → AreInTurn n all
      → ((i : ℕ) → i < length connections → IsServed (at connections i) (exchanges_on (n + i) all))
      → ((i : ℕ) → i < length connections → IsClosedUnbroken (at connections i))
      → ((m : ℕ) → n + length connections ≤ m → exchanges_on m all ≡ []) → AreExchanges Step machine all next
      → ServesEach Step fixed_reply machine (map traffic_of connections) (all_closed connections) next (edits all)
  each_in_turn [] n machine next [] g each closed none steps = (refl, steps, refl)
  each_in_turn [] n machine next (x ∷ xs) g each closed none steps = absurd (not_none x xs (none x.connection (let l = g.0 in omega (arith, l))))
  each_in_turn (c ∷ connections) n machine next all g each closed none steps =
      let s = split n all g in
      let r = steps_split machine next s.mine s.others (subst (λ (l : List (Exchange E)). AreExchanges Step machine l next) s.whole steps) in
      let first : IsServed c s.mine = subst (IsServed c) (ap (λ (k : ℕ). exchanges_on k all) (let e : n + 0 ≡ n = omega arith in e) ∙ sym s.are_mine) (each 0 (omega arith)) in (
        Closed,
        all_closed connections,
        r.0,
        edits s.mine,
        edits s.others,
        refl,
        ap edits s.whole ∙ edits-append s.mine s.others,
        one_served Step c s.mine machine r.0 first (closed 0 (omega arith)) r.1,
        each_in_turn connections (n + 1) r.0 next s.others s.later
            (λ i below. let e : n + 1 + i ≡ n + suc i = omega arith in
            subst (IsServed (at connections i)) (ap (λ (k : ℕ). exchanges_on k all) (sym e) ∙ sym (s.same (n + 1 + i) (λ same. let no : ⊥ = omega (arith, same) in no))) (each (suc i) (omega (arith, below))))
            (λ i below. closed (suc i) (omega (arith, below)))
            (λ m beyond. s.same m (λ same. let no : ⊥ = omega (arith, same, beyond) in no) ∙ none m (omega (arith, beyond)))
            r.2,
      )

  pub served_in_order : (hall : HallState) (seats : List (Option SeatState)) (machine next : M) (all : List (Exchange E)) → HasServed hall seats all → AreInTurn 0 all → AreExchanges Step machine all next
      → ((n : ℕ) → n < length hall.connections → IsClosedUnbroken (connection_at hall n))
      → ServesEach Step fixed_reply machine (map traffic_of hall.connections) (all_closed hall.connections) next (edits all)
  served_in_order hall seats machine next all served g steps closed =
      each_in_turn hall.connections 0 machine next all g
      (λ i below. subst (IsServed (connection_at hall i)) (ap (λ (k : ℕ). exchanges_on k all) (let e : i ≡ 0 + i = omega arith in e)) (served.each i below))
      closed
      (λ m beyond. served.none_after m (omega (arith, beyond))) steps

-- ---- where no connection has begun

module _ (hall : HallState) (seats : List (Option SeatState)) (empty : hall.connections ≡ []) (free : (k : ℕ) → seat_at seats k ≡ None) where
  no_seat : {A : Type 0} (k : ℕ) (seat : SeatState) → seat_at seats k ≡ Some seat → A
  no_seat k seat is = absurd (let e = sym (free k) ∙ is in let no : ⊥ = cc in no)

  no_connection : {A : Type 0} (n : ℕ) → n < length hall.connections → A
  no_connection n below = absurd (let e = ap length empty in let no : ⊥ = omega (arith, e, below) in no)

  pub matches_at_first : MatchesSeats hall seats
  matches_at_first = record { seated = λ k seat is. no_seat k seat is; covered = λ n below opened. no_connection n below }

  pub served_at_first : {E : Type 0} → HasServed {E = E} hall seats []
  served_at_first = record {
    each = λ n below. no_connection n below;
    none_after = λ n beyond. refl;
    seated = λ k seat is. no_seat k seat is;
    one_place = λ one. record { in_turn = tt; of_last = λ k seat is. no_seat k seat is };
  }

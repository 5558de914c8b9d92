-- One piece after another, through the write buffer.
use Rattle.std.proofs.Common.{◌≡◌, ℕ, ◌+◌, List, [], ◌++◌, length, take, Result, Ok, Err, OnOk, refl, sym, ap, ◌∙◌, subst, arith, append_assoc, append-nil, length-append}
use Rattle.std.proofs.Math.Seq.{take-append-add}
use Rattle.xcap_io.specs.StreamTraffic.{TakesBytes}
use Rattle.xcap_io.proofs.TrafficSums.{took_on, took_none}
use Rattle.xcap_io.specs.BufferedWrites.{BufferedSink, BuffersBytes}
use Rattle.xcap_io.specs.StreamStates.{StreamState, OnlyWrites}
use Rattle.xcap_io.specs.StreamWrites.{TakesProperPrefix, WritesAll}
use Rattle.xcap_io.proofs.Lines.{only_writes_on, writes_none}
use Rattle.xcap_io.proofs.Steps.{stopped_first}

both_parts : (h xs ys over h' : List ℕ) → h ++ xs ≡ over ++ h' → h ++ (xs ++ ys) ≡ over ++ (h' ++ ys)
both_parts h xs ys over h' e = sym (append_assoc h xs ys) ∙ ap (λ l. l ++ ys) e ∙ append_assoc over h' ys

-- the bytes were handed over or are buffered
abbrev Gathers : List ℕ → List ℕ → List ℕ → List ℕ → List ℕ → Type 0
Gathers a h b h' xs = (over : List ℕ) × TakesBytes a b over × (h ++ xs ≡ over ++ h')

gathers_on : (a b c : List ℕ) (h h' h'' xs ys : List ℕ) → Gathers a h b h' xs → Gathers b h' c h'' ys → Gathers a h c h'' (xs ++ ys)
gathers_on a b c h h' h'' xs ys p q = (
  p.0 ++ q.0,
  took_on a b c p.0 q.0 p.1 q.1,
  both_parts h xs ys p.0 h' p.2 ∙ ap (λ l. p.0 ++ l) q.2 ∙ sym (append_assoc p.0 q.0 h''),
)

gathers_stop : (a b c : List ℕ) (h h' xs ys : List ℕ) → Gathers a h b h' xs → TakesProperPrefix b c (h' ++ ys) → TakesProperPrefix a c (h ++ (xs ++ ys))
gathers_stop a b c h h' xs ys p q =
    let e = both_parts h xs ys p.0 h' p.2 in
    subst (TakesProperPrefix a c) (sym e) (
      length p.0 + q.0,
      omega (arith, length-append p.0 (h' ++ ys), q.1),
      subst (TakesBytes a c) (sym (take-append-add p.0 (h' ++ ys) q.0)) (took_on a b c p.0 (take q.0 (h' ++ ys)) p.1 q.2),
    )

abbrev buffered : StreamState → List ℕ → BufferedSink
buffered sink held = record { sink = sink; held = held }

-- two pieces, the first of which was added
pub adds_both : {E : Type 0} (a : StreamState) (h : List ℕ) (b : StreamState) (h' : List ℕ) (c : StreamState) (h'' : List ℕ) (result : Result (Unit {0}) E) (xs ys : List ℕ)
    → BuffersBytes {E = E} (buffered a h) (buffered b h') (Ok tt) xs → BuffersBytes (buffered b h') (buffered c h'') result ys → BuffersBytes (buffered a h) (buffered c h'') result (xs ++ ys)
adds_both a h b h' c h'' (Ok x) xs ys p q = record {
  taken = gathers_on a.taken b.taken c.taken h h' h'' xs ys p.taken q.taken;
  only_writes = only_writes_on a b c (Ok x) p.only_writes.writes p.only_writes.counts q.only_writes;
}
adds_both a h b h' c h'' (Err e) xs ys p q = record {
  taken = gathers_stop a.taken b.taken c.taken h h' xs ys p.taken q.taken;
  only_writes = only_writes_on a b c (Err e) p.only_writes.writes p.only_writes.counts q.only_writes;
}

-- the first of two pieces was not added, so the second one was not begun
pub adds_stop : {E : Type 0} (a : StreamState) (h : List ℕ) (b : StreamState) (h' h'' : List ℕ) (e : E) (xs ys : List ℕ)
    → BuffersBytes (buffered a h) (buffered b h') (Err e) xs → BuffersBytes (buffered a h) (buffered b h'') (Err e) (xs ++ ys)
adds_stop a h b h' h'' e xs ys p = record {
  taken = subst (TakesProperPrefix a.taken b.taken) (append_assoc h xs ys) (stopped_first a.taken b.taken (h ++ xs) ys p.taken);
  only_writes = p.only_writes;
}

-- nothing was added
pub adds_none : {E : Type 0} (a : StreamState) (h : List ℕ) → BuffersBytes {E = E} (buffered a h) (buffered a h) (Ok tt) []
adds_none a h = record {
  taken = ([], took_none a.taken, append-nil h);
  only_writes = record { writes = writes_none a; counts = refl };
}

-- it is buffered
pub adds_held : {E : Type 0} (a : StreamState) (h h' xs : List ℕ) → h' ≡ h ++ xs → BuffersBytes {E = E} (buffered a h) (buffered a h') (Ok tt) xs
adds_held a h h' xs is = record {
  taken = ([], took_none a.taken, sym is);
  only_writes = record { writes = writes_none a; counts = refl };
}

-- it was handed over after what was buffered, and the buffer is empty
pub adds_written : {E : Type 0} (a b : StreamState) (h h' : List ℕ) (result : Result (Unit {0}) E) (xs : List ℕ) → h' ≡ []
    → WritesAll a.taken b.taken result (h ++ xs) → OnlyWrites a b result → BuffersBytes (buffered a h) (buffered b h') result xs
adds_written a b h h' (Ok x) xs none all only = record { taken = (h ++ xs, all, sym (append-nil (h ++ xs)) ∙ ap (λ l. (h ++ xs) ++ l) (sym none)); only_writes = only }
adds_written a b h h' (Err e) xs none all only = record { taken = all; only_writes = only }

-- all was handed over, and the buffer is empty before and after
pub all_written : {E : Type 0} (a b : StreamState) (h h' : List ℕ) (result : Result (Unit {0}) E) (xs : List ℕ) → h ≡ [] → OnOk result (h' ≡ [])
    → BuffersBytes (buffered a h) (buffered b h') result xs → WritesAll a.taken b.taken result xs
all_written a b h h' (Ok x) xs before after p =
    subst (TakesBytes a.taken b.taken) (sym (append-nil p.taken.0) ∙ ap (λ l. p.taken.0 ++ l) (sym after) ∙ sym p.taken.2 ∙ ap (λ l. l ++ xs) before) p.taken.1
all_written a b h h' (Err e) xs before after p = subst (λ l. TakesProperPrefix a.taken b.taken (l ++ xs)) before p.taken

-- What is left to add, so that all is added: the invariant of a loop that adds one piece after
-- another.
pub record Owes (E : Type 0) (old : StreamState) (held all : List ℕ) (mid : StreamState) (held' rest : List ℕ) : Type 0 where
  pub pays : (new : StreamState) (held'' : List ℕ) (result : Result (Unit {0}) E) → BuffersBytes (buffered mid held') (buffered new held'') result rest → BuffersBytes (buffered old held) (buffered new held'') result all

-- one more piece was added
pub owes_less : {E : Type 0} (a : StreamState) (h all : List ℕ) (b : StreamState) (h' : List ℕ) (c : StreamState) (h'' xs rest rest' : List ℕ)
    → Owes E a h all b h' rest → BuffersBytes {E = E} (buffered b h') (buffered c h'') (Ok tt) xs → rest ≡ xs ++ rest' → Owes E a h all c h'' rest'
owes_less a h all b h' c h'' xs rest rest' p q e = record {
  pays = λ new held result adds. p.pays new held result (subst (BuffersBytes (buffered b h') (buffered new held) result) (sym e) (adds_both b h' c h'' new held result xs rest' q adds));
}

-- a piece was not added
pub owes_stop : {E : Type 0} (a : StreamState) (h all : List ℕ) (b : StreamState) (h' : List ℕ) (c : StreamState) (h'' : List ℕ) (e : E) (xs rest rest' : List ℕ)
    → Owes E a h all b h' rest → BuffersBytes (buffered b h') (buffered c h'') (Err e) xs → rest ≡ xs ++ rest' → BuffersBytes (buffered a h) (buffered c h'') (Err e) all
owes_stop a h all b h' c h'' e xs rest rest' p q is =
    p.pays c h'' (Err e) (subst (BuffersBytes (buffered b h') (buffered c h'') (Err e)) (sym is) (adds_stop b h' c h'' h'' e xs rest' q))

-- nothing is left to add
pub owes_none : {E : Type 0} (a : StreamState) (h all : List ℕ) (b : StreamState) (h' rest : List ℕ) → Owes E a h all b h' rest → rest ≡ [] → BuffersBytes {E = E} (buffered a h) (buffered b h') (Ok tt) all
owes_none {E = E} a h all b h' rest p e = p.pays b h' (Ok tt) (subst (BuffersBytes {E = E} (buffered b h') (buffered b h') (Ok tt)) (sym e) (adds_none b h'))

pub ruleset adding = (adds_held, adds_written)

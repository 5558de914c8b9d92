-- The connections of a port and of a peer in memory, when the next one begins.
use Rattle.std.proofs.Common.{◌≡◌, ℕ, ◌+◌, ◌<◌, ◌≤◌, List, [], ◌∷◌, ◌++◌, length, map, take, drop, Option, None, Some, Bool, true, false, Ok, refl, sym, ap, subst, ◌∙◌, arith, get_or-set_same, drop-cons, add-one}
use Rattle.std.specs.Prelude.{slice_set}
use Rattle.std.proofs.Math.Seq.{take-suc}
use Rattle.std.proofs.lemmas.List.{map-append, take-set, drop_all, drop-set-lt}
use Rattle.xcap_io.specs.Connections.{BringsNextConnection, Connects, AcceptsNext, OnlyAcceptsNext}
use Rattle.xcap_io.specs.ConnectionHistories.{Traffic, all_traffic}
use Rattle.xcap_io.specs.MemoryStreams.{MemoryStream, MemoryLines, MemoryPeer, MemoryPort, reset_line, begin_next, BeginsLine, line_at, line_traffic, begun_lines, next_line_number, no_line, peer_state, port_state, present_line}

-- the next stream is the one that begins
pub comes_next : (lines : List MemoryStream) (at : ℕ) (line : MemoryStream) → at < length lines → line.left ≡ (line_at lines at).left
    → BringsNextConnection (Some (map (λ (m : MemoryStream). m.left) (drop at lines))) (Some (map (λ (m : MemoryStream). m.left) (drop (at + 1) (slice_set lines at line)))) (Some (line_at (slice_set lines at line) at).left)
comes_next lines at line within same = (
  (line_at lines at).left,
  map (λ (m : MemoryStream). m.left) (drop (at + 1) lines),
  ap (λ l. map (λ (m : MemoryStream). m.left) l) (drop-cons lines at no_line within ∙ ap (λ n. line_at lines at ∷ drop n lines) (sym (add-one at))),
  ap (λ l. Some (map (λ (m : MemoryStream). m.left) l)) (drop-set-lt (at + 1) lines at line (omega arith)),
  ap (λ (m : MemoryStream). Some m.left) (get_or-set_same lines at line no_line within) ∙ ap Some same,
)

-- the traffic of all streams that have begun, of which the present one is the last
carried_is : (lines : List MemoryStream) (present : Option ℕ) → next_line_number present ≤ length lines
    → all_traffic (begun_lines lines present).earlier (begun_lines lines present).is_present (line_traffic (present_line lines present)) ≡ map line_traffic (take (next_line_number present) lines)
carried_is lines None within = refl
carried_is lines (Some i) within =
    let one_more : take (i + 1) lines ≡ take i lines ++ line_at lines i ∷ [] = ap (λ n. take n lines) (add-one i) ∙ take-suc lines i no_line (omega arith) in
    sym (ap (map line_traffic) one_more ∙ map-append line_traffic (take i lines) (line_at lines i ∷ []))

-- a stream that begins is a connection of the port that begins
line_begins : (old : MemoryPort) (until_fault : Option ℕ) → next_line_number old.lines.present < length old.lines.lines
    → AcceptsNext (port_state old) (port_state (record old { lines = begin_next old.lines; until_fault = until_fault }))
line_begins old until_fault within =
    let at : ℕ = next_line_number old.lines.present in
    let line : MemoryStream = reset_line (line_at old.lines.lines at) in
    record {
      comes = comes_next old.lines.lines at line within refl;
      begins = ap (λ (l : List Traffic). record { earlier = l; is_present = true })
          (ap (map line_traffic) (take-set old.lines.lines at line) ∙ sym (carried_is old.lines.lines old.lines.present (omega arith)));
      nothing_passed = ap line_traffic (get_or-set_same old.lines.lines at line no_line within);
      same_listening = refl;
      same_faults = refl;
      same_read_faults = refl;
      same_write_faults = refl;
      same_holds = refl;
      same_aside = refl;
      same_peer = refl;
    }

-- what `next` returns where it doesn't fail
pub next_of : (E : Type 0) (old new : MemoryPort) (begins : Bool) → BeginsLine old.lines new.lines begins → new.listening ≡ old.listening → new.faults ≡ old.faults
    → OnlyAcceptsNext {E = E} (port_state old) (port_state new) (Ok begins)
next_of E old new true b listening faults =
    let is : record old { lines = begin_next old.lines; until_fault = new.until_fault; listen_fails = new.listen_fails } ≡ new =
    λ i. record { lines = sym b.1 i; listen_fails = new.listen_fails; until_fault = new.until_fault; listening = sym listening i; faults = sym faults i } in
    subst (λ (m : MemoryPort). AcceptsNext (port_state old) (port_state m)) is (line_begins (record old { listen_fails = new.listen_fails }) new.until_fault b.0)
next_of E old new false b listening faults =
    let is : record old { lines = new.lines; until_fault = new.until_fault; listen_fails = new.listen_fails } ≡ new =
    λ i. record { lines = new.lines; listen_fails = new.listen_fails; until_fault = new.until_fault; listening = sym listening i; faults = sym faults i } in (
      sym (ap port_state is) ∙ ap (λ (l : MemoryLines). port_state (record old { lines = l })) b.1,
      ap (λ l. Some (map (λ (m : MemoryStream). m.left) l)) (drop_all (next_line_number old.lines.present) old.lines.lines (omega (arith, b.0))),
    )

-- likewise a connection of the peer
line_connects : (old : MemoryPeer) (until_fault : Option ℕ) (address : List ℕ) → next_line_number old.lines.present < length old.lines.lines
    → Connects (peer_state old) (peer_state (record { lines = begin_next old.lines; until_fault = until_fault; addresses = address ∷ old.addresses; faults = old.faults })) address
line_connects old until_fault address within =
    let at : ℕ = next_line_number old.lines.present in
    let line : MemoryStream = reset_line (line_at old.lines.lines at) in
    record {
      comes = comes_next old.lines.lines at line within refl;
      begins = ap (λ (l : List Traffic). record { earlier = l; is_present = true })
          (ap (map line_traffic) (take-set old.lines.lines at line) ∙ sym (carried_is old.lines.lines old.lines.present (omega arith)));
      dialled = refl;
      nothing_passed = ap line_traffic (get_or-set_same old.lines.lines at line no_line within);
      same_faults = refl;
      same_read_faults = refl;
      same_write_faults = refl;
      same_holds = refl;
      same_aside = refl;
      same_port = refl;
    }

-- what `connect` does where it doesn't fail
pub connects_to : (old new : MemoryPeer) (address : List ℕ) → BeginsLine old.lines new.lines true → new.addresses ≡ address ∷ old.addresses → new.faults ≡ old.faults
    → Connects (peer_state old) (peer_state new) address
connects_to old new address b addresses faults =
    let is : record { lines = begin_next old.lines; until_fault = new.until_fault; addresses = address ∷ old.addresses; faults = old.faults } ≡ new =
    λ i. record { lines = sym b.1 i; until_fault = new.until_fault; addresses = sym addresses i; faults = sym faults i } in
    subst (λ (m : MemoryPeer). Connects (peer_state old) (peer_state m) address) is (line_connects old new.until_fault address b.0)

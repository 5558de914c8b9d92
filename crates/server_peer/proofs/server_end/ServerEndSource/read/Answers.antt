use Rattle.std.proofs.Common.{◌≡◌, ◌+◌, ◌-◌, ◌<◌, ◌≤◌, ◌==◌, List, [], ℕ, take, drop, length, ap, sym, ◌∙◌, arith}
use Rattle.xcap_io.specs.ConnectionHistories.{ConnectionHistory}
use Rattle.xcap_io.proofs.Steps.{gives_count, gives_next, is_none, none_left}
use Rattle.server_peer.proofs.server_end.ServerEndSource.read.Goals as goal

pub returns-clause-appends_read : goal.returns-clause-appends_read
returns-clause-appends_read c =
    let asked : List ℕ = c.args.self.now.asked.now in
    let given : ℕ = c.args.self.now.given in
    let count : ℕ = c.min-count.result in
    let some : 0 < length c.args.buf.now = c.requires in
    let inside : given ≤ length asked = c.args.self.now.inside in
    let same : given + count - given ≡ count = omega arith in
    let fits : given + count ≤ length asked = omega (arith, c.min-count.ensures, inside) in
    let front : c.copy_from_slice.new.self ≡ take count (drop given asked) = c.copy_from_slice.ensures.after ∙ ap (λ (n : ℕ). take n (drop given asked)) same in
    let last : c.record_read.new.self.history.now.ended ≡ (count == 0) =
    ap (λ (h : ConnectionHistory). h.now.ended) c.record_read.ensures.given_is_logged ∙ ap (λ (n : ℕ). n == 0) (gives_count asked c.copy_from_slice.new.self _ given count fits front) in
    let end : count ≡ 0 → drop (given + count) asked ≡ [] = λ none. none_left asked given count (length c.args.buf.now) c.min-count.ensures some none in (
      record {
        behind = ap (λ (h : ConnectionHistory). h.now.given) c.record_read.ensures.given_is_logged;
        consumed = gives_next asked c.copy_from_slice.new.self _ given count fits front;
        truthful = λ before ended. end (is_none count (sym last ∙ ended));
      },
      last,
      end,
    )

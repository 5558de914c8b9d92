use Rattle.std.proofs.Common.{◌≡◌, ◌+◌, ◌-◌, ◌<◌, ◌≤◌, ◌==◌, List, [], ℕ, min, take, drop, length, ap, sym, ◌∙◌, arith}
use Rattle.xcap_io.specs.ConnectionHistories.{ConnectionHistory}
use Rattle.xcap_io.proofs.Steps.{gives_count, gives_next, is_none, none_left}
use Rattle.xcap_app.proofs.known_port.KnownPortSource.read.Goals as goal

pub returns-clause-appends_read : goal.returns-clause-appends_read
returns-clause-appends_read c =
    let present : List ℕ = c.args.self.now.present in
    let given : ℕ = c.args.self.now.given in
    let count : ℕ = c.min-count.result in
    let some : 0 < length c.args.buf.now = c.requires in
    let inside : given ≤ length present = c.args.self.now.inside in
    let lent : c.as_slice-present.result.now ≡ present = c.as_slice-present.ensures.exact in
    let counted : count ≡ min (length c.args.buf.now) (length present - given) = c.min-count.ensures ∙ ap (λ (l : List ℕ). min (length c.args.buf.now) (length l - given)) lent in
    let same : given + count - given ≡ count = omega arith in
    let fits : given + count ≤ length present = omega (arith, counted, inside) in
    let front : c.copy_from_slice.new.self ≡ take count (drop given present) =
    c.copy_from_slice.ensures.after ∙ ap (λ (l : List ℕ). take (given + count - given) (drop given l)) lent ∙ ap (λ (n : ℕ). take n (drop given present)) same in
    let last : c.record_read.new.self.history.now.ended ≡ (count == 0) =
    ap (λ (h : ConnectionHistory). h.now.ended) c.record_read.ensures.given_is_logged ∙ ap (λ (n : ℕ). n == 0) (gives_count present c.copy_from_slice.new.self _ given count fits front) in
    let end : count ≡ 0 → drop (given + count) present ≡ [] = λ none. none_left present given count (length c.args.buf.now) counted some none in (
      record {
        behind = ap (λ (h : ConnectionHistory). h.now.given) c.record_read.ensures.given_is_logged;
        consumed = gives_next present c.copy_from_slice.new.self _ given count fits front;
        truthful = λ before ended. end (is_none count (sym last ∙ ended));
      },
      last,
      end,
    )

use Rattle.std.proofs.Common.{◌≡◌, ◌+◌, ◌-◌, ◌<◌, ◌==◌, List, [], ◌++◌, ℕ, take, drop, length, min, ap, sym, ◌∙◌, arith}
use Rattle.xcap_io.specs.ConnectionHistories.{ConnectionHistory}
use Rattle.xcap_io.specs.MemoryStreams.{MemoryStream}
use Rattle.xcap_io.proofs.Steps.{gives_count, gives_next, is_none, none_left}
use Rattle.xcap_io.proofs.mem_stream.MemStreamSource.read.Goals as goal

pub max_read_len-requires : goal.max_read_len-requires
max_read_len-requires c = let some : 0 < length c.args.buf.now = c.requires in omega (arith, c.self.invariant.0, c.min-wanted.ensures)

pub returns-clause-appends_read : goal.returns-clause-appends_read
returns-clause-appends_read c =
    let input : List ℕ = c.self.inside.input.items in
    let given : ℕ = c.self.inside.given in
    let count : ℕ = c.min-count.result in
    let size : c.len.result ≡ length input = grind (arith, c.len.ensures) in
    let same : given + count - given ≡ count = omega arith in
    let front : c.copy_from_slice.new.self ≡ take count (drop given input) = c.copy_from_slice.ensures.after ∙ ap (λ (n : ℕ). take n (drop given c.deref.result.now)) same ∙ ap (λ (l : List ℕ). take count (drop given l)) c.deref.ensures.value in
    let last : c.record_read.new.self.history.now.ended ≡ (count == 0) =
    ap (λ (h : ConnectionHistory). h.now.ended) c.record_read.ensures.given_is_logged ∙ ap (λ (n : ℕ). n == 0) (gives_count input c.copy_from_slice.new.self _ given count (omega arith) front) in
    let end : count ≡ 0 → drop (given + count) input ≡ [] =
    λ none. none_left input given count c.in-Some.most (c.min-count.ensures ∙ ap (λ (n : ℕ). min c.in-Some.most (n - given)) size) c.in-Some.ensures.at_least_one.0 none in (
      record {
        behind =
            ap (λ (h : ConnectionHistory). h.now.given) c.record_read.ensures.given_is_logged
            ∙ ap (λ (m : MemoryStream). m.given ++ take count (c.copy_from_slice.new.self ++ drop count c.args.buf.now)) c.self.view_is;
        consumed = ap (λ m. m.left) (sym c.self.view_is) ∙ gives_next input c.copy_from_slice.new.self _ given count (omega arith) front;
        truthful = λ before ended. end (is_none count (sym last ∙ ended));
      },
      last,
      end,
    )

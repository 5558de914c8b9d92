use Rattle.std.proofs.Common.{◌≡◌, ◌-◌, ◌≤◌, ℕ, List, true, false, length, take, drop, refl, sym, ap, subst, ◌∙◌, arith, length-drop}
use Rattle.std.proofs.lemmas.List.{take_rest, length-take-le}
use Rattle.std.proofs.lemmas.Result.{err_from_is_err_and}
use Rattle.xcap_io.proofs.Lines.{reads_none, reads_on}
use Rattle.http_wire.specs.inner.ChunkDecoder.{Decoding, is_settled, DecodesBytes}
use Rattle.http_wire.proofs.DecodingLemmas.{so_far_first, so_far_next, fewer_so_far, decodes_done, decodes_long, decodes_bad, decodes_cut, decodes_failed}
use Rattle.http_wire.proofs.BodyFacts.{other_is_bad}
use Rattle.http_wire.proofs.body_decoder.decode_body.Goals as goal

-- the bytes after the head, as they were borrowed
lent : (head : ℕ) (bytes held : List ℕ) → bytes ≡ held → take (length bytes - head) (drop head bytes) ≡ drop head held
lent head bytes held same = take_rest bytes head ∙ ap (drop head) same

pub decoding-init : goal.decoding-init
decoding-init g c =
    let rest : List ℕ = take (length c.bytes.result.now - c.args.head) (drop c.args.head c.bytes.result.now) in
    record {
      decodes = so_far_first c.args.head c.args.read_buffer.now rest (g.S.Line.state c.args.source.now).inward c.feed-used.new.self c.feed-used.result c.requires.inside
          (lent c.args.head c.bytes.result.now c.args.read_buffer.now c.bytes.ensures.exact) c.feed-used.ensures.at_most_len
          (subst (λ (d : Decoding). DecodesBytes d (take c.feed-used.result rest) c.feed-used.new.self) c.restart.ensures.exact c.feed-used.ensures.reads_on)
          c.feed-used.ensures.all_unless_settled c.bytes.ensures.at_most_limit;
      reads = reads_none _;
      no_fault = refl;
    }

pub returns-in_err-fill-clause-decodes_body : goal.returns-in_err-fill-clause-decodes_body
returns-in_err-fill-clause-decodes_body g c =
    let p = err_from_is_err_and c.from_residual.result c.from_residual.ensures.1 in
    let going : is_settled c.decoding.decoder.stage ≡ false = sym c.is_settled.ensures.exact ∙ c.decoding-test.true in
    rw p.1 (decodes_failed c.args.head c.args.read_buffer.now c.decoding.read_buffer c.fill.new.self _ _ _ c.decoding.decoder c.decoding.used _ c.decoding.invariant.decodes going
    (rw c.truncate.ensures.cuts_to_len at c.in_err-fill.ensures.gains_source_bytes) (c.in_err-fill.ensures.err_unchanged ∙ c.truncate.ensures.cuts_to_len))

pub returns-then-not-branch-clause-decodes_body : goal.returns-then-not-branch-clause-decodes_body
returns-then-not-branch-clause-decodes_body g c =
    let going : is_settled c.decoding.decoder.stage ≡ false = sym c.is_settled.ensures.exact ∙ c.decoding-test.true in
    let ended = rw c.if-not-branch.true at c.in_ok-fill.ensures.gained_or_ended in
    decodes_cut c.args.head c.args.read_buffer.now c.decoding.read_buffer c.fill.new.self _ _ _ c.decoding.decoder c.decoding.used c.decoding.invariant.decodes going
    (rw c.truncate.ensures.cuts_to_len at c.in_ok-fill.ensures.gains_source_bytes) (ended.0 ∙ c.truncate.ensures.cuts_to_len) ended.1

pub decoding-smaller : goal.decoding-smaller
decoding-smaller g c =
    let going : is_settled c.decoding.decoder.stage ≡ false = sym c.is_settled.ensures.exact ∙ c.decoding-test.true in
    let more = rw c.if-not-branch.false at c.in_ok-fill.ensures.gained_or_ended in
    let kept = ap length c.truncate.ensures.cuts_to_len in
    let inside : c.args.head ≤ length c.decoding.read_buffer = omega (arith, c.decoding.invariant.decodes.inside) in
    let same = ap length (lent c.args.head c.bytes-in-decoding.result.now c.fill.new.self c.bytes-in-decoding.ensures.exact) in
    fewer_so_far c.args.head c.args.read_buffer.now c.decoding.read_buffer _ _ _ c.decoding.decoder c.feed-used-in-decoding.new.self c.decoding.used c.feed-used-in-decoding.result c.decoding.invariant.decodes going
    (omega (arith, same, length-drop c.args.head c.fill.new.self, more, kept, length-take-le c.args.head c.decoding.read_buffer inside))
    c.feed-used-in-decoding.ensures.at_most_len c.feed-used-in-decoding.ensures.reads_on c.feed-used-in-decoding.ensures.all_unless_settled

pub decoding-preserved : goal.decoding-preserved
decoding-preserved g c =
    let going : is_settled c.decoding.decoder.stage ≡ false = sym c.is_settled.ensures.exact ∙ c.decoding-test.true in
    record {
      decodes = so_far_next c.args.head c.args.read_buffer.now c.decoding.read_buffer c.fill.new.self _ _ _ _ c.decoding.decoder c.feed-used-in-decoding.new.self c.decoding.used c.feed-used-in-decoding.result c.decoding.invariant.decodes going
          (rw c.truncate.ensures.cuts_to_len at c.in_ok-fill.ensures.gains_source_bytes)
          (lent c.args.head c.bytes-in-decoding.result.now c.fill.new.self c.bytes-in-decoding.ensures.exact) c.feed-used-in-decoding.ensures.at_most_len c.feed-used-in-decoding.ensures.reads_on c.feed-used-in-decoding.ensures.all_unless_settled c.bytes-in-decoding.ensures.at_most_limit;
      reads = reads_on _ _ _ c.decoding.invariant.reads c.in_ok-fill.ensures.only_reads.reads;
      no_fault = c.in_ok-fill.ensures.only_reads.counts ∙ c.decoding.invariant.no_fault;
    }

pub overflow_add-result : goal.overflow_add-result
overflow_add-result g c = omega (arith, c.decoding.invariant.decodes.inside, c.decoding.invariant.decodes.room)

pub returns-in-Done-clause-decodes_body : goal.returns-in-Done-clause-decodes_body
returns-in-Done-clause-decodes_body g c = decodes_done c.args.head c.args.read_buffer.now c.decoding.read_buffer _ _ c.decoding.decoder c.decoding.used c.decoding.invariant.decodes (sym c.stage.ensures.exact ∙ c.in-Done.is)

pub returns-in-TooLong-clause-decodes_body : goal.returns-in-TooLong-clause-decodes_body
returns-in-TooLong-clause-decodes_body g c = decodes_long c.args.head c.args.read_buffer.now c.decoding.read_buffer _ _ c.decoding.decoder c.decoding.used c.decoding.invariant.decodes (sym c.stage.ensures.exact ∙ c.in-TooLong.is)

pub returns-in_default-clause-decodes_body : goal.returns-in_default-clause-decodes_body
returns-in_default-clause-decodes_body g c =
    let settled : is_settled c.decoding.decoder.stage ≡ true = sym c.is_settled.ensures.exact ∙ c.decoding-test.false in
    let other = c.in_default in
    decodes_bad c.args.head c.args.read_buffer.now c.decoding.read_buffer _ _ c.decoding.decoder c.decoding.used c.decoding.invariant.decodes
    (other_is_bad c.decoding.decoder.stage settled (λ is. c.in_default.not-Done (c.stage.ensures.exact ∙ is)) (λ is. c.in_default.not-TooLong (c.stage.ensures.exact ∙ is)))

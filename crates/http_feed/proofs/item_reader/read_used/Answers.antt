use Rattle.std.proofs.Common.{◌≡◌, ◌≤◌, ◌+◌, List, ℕ, false, length, take, drop, sym, subst, ◌∙◌, arith, length-drop}
use Rattle.http_wire.specs.inner.ChunkDecoder.{is_settled}
use Rattle.http_feed.specs.inner.Places.{IsInChunks, HasWholeChunks}
use Rattle.http_feed.proofs.ReadPlaces.{chunks_bad, chunks_done, chunks_go_on, chunks_long, chunks_wait, decided_bad, decided_long, front_fits, goes_still}
use Rattle.http_feed.proofs.item_reader.read_used.Goals as goal

pub returns-in-Done : goal.returns-in-Done
returns-in-Done c =
    let head = c.args.head in
    let bytes : List ℕ = c.args.held.now.bytes in
    let d = c.args.chunks.now.decoding in
    let few : c.args.used ≤ length (drop head bytes) = omega (arith, length-drop head bytes, c.requires) in
    record {
      answers = λ given old i reads all. c.read_decoded.ensures.answers given d
          (subst (λ (body : List ℕ). HasWholeChunks head c.args.used bytes body given) (sym c.data.ensures.exact)
          (chunks_done head bytes old given i c.args.used d reads few (sym c.state.ensures.exact ∙ c.in-Done.is)));
    }

pub returns-in-TooLong : goal.returns-in-TooLong
returns-in-TooLong c = record {
  answers = λ given old i reads all. decided_long c.args.before given c.args.held.now.bytes
      (chunks_long c.args.head c.args.held.now.bytes old given i c.args.used c.args.chunks.now.decoding reads (sym c.state.ensures.exact ∙ c.in-TooLong.is));
}

pub returns-in-Bad : goal.returns-in-Bad
returns-in-Bad c = record {
  answers = λ given old i reads all. decided_bad c.args.before given c.args.held.now.bytes
      (chunks_bad c.args.head c.args.held.now.bytes old given i c.args.used c.args.chunks.now.decoding reads (sym c.state.ensures.exact ∙ c.in-Bad.is));
}

pub returns-in_default : goal.returns-in_default
returns-in_default c =
    let head = c.args.head in
    let bytes : List ℕ = c.args.held.now.bytes in
    let d = c.args.chunks.now.decoding in
    let state = c.state.ensures.exact in
    let going : is_settled d.stage ≡ false = goes_still d.stage (λ is. c.in_default.not-Done (state ∙ is)) (λ is. c.in_default.not-Bad (state ∙ is)) (λ is. c.in_default.not-TooLong (state ∙ is)) in
    let front = c.truncate.ensures.exact in
    record {
      answers = λ given old i reads all. (
        chunks_wait head bytes old given i c.args.used d reads (all going) going,
        (subst (λ (l : List ℕ). IsInChunks head l d given) (sym front) (chunks_go_on head bytes old given i c.args.used d reads (all going) going), going),
        rw front (front_fits head bytes old given i c.args.used d reads (all going) going),
      );
    }

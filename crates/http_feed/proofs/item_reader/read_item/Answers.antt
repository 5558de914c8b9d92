use Rattle.http_feed.proofs.ReadPlaces.{or_not}
use Rattle.http_feed.proofs.item_reader.read_item.Goals as goal

pub returns-in-Chunks-clause-answers : goal.returns-in-Chunks-clause-answers
returns-in-Chunks-clause-answers c = λ given holds.
    let here = rw c.in-Chunks.is at holds in
    or_not c.args.before given c.args.place c.read_chunks.result c.args.held.now c.read_chunks.new.held c.args.chunks.now c.read_chunks.new.chunks holds
    (c.read_chunks.ensures.answers given here.0) c.read_chunks.ensures.err_unchanged

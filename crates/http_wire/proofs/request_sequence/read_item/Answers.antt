use Rattle.http_wire.proofs.ItemLemmas.{asks_after, only_reads_on}
use Rattle.http_wire.proofs.request_sequence.read_item.Goals as goal

pub returns-in-Some-clause-first_item : goal.returns-in-Some-clause-first_item
returns-in-Some-clause-first_item g c = asks_after c.args.before c.args.read_buffer.now c.read_head.new.read_buffer _ _ c.read_after_head.result c.read_after_head.new.read_buffer _ c.in_ok-spans.ensures.gains_source_bytes c.read_after_head.ensures.first_item

pub returns-in-Some-clause-only_reads : goal.returns-in-Some-clause-only_reads
returns-in-Some-clause-only_reads g c = only_reads_on _ _ _ c.read_after_head.result c.in_ok-spans.ensures.only_reads.reads c.in_ok-spans.ensures.only_reads.counts c.read_after_head.ensures.only_reads

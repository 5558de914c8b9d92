use Rattle.http_wire.specs.declared.framing.Framing.TheVariants.{Bad as BadFields, Coded as OtherCoding, TooLong as LongBody}
use Rattle.http_wire.specs.declared.request.Asked.TheVariants.{Bad, Coded, TooLong}
use Rattle.http_wire.proofs.ItemLemmas.{asks_now, next_bad, next_coded, next_long, open_by}
use Rattle.http_wire.proofs.request_sequence.read_after_head.Goals as goal

pub returns-in-Bad-clause-first_item : goal.returns-in-Bad-clause-first_item
returns-in-Bad-clause-first_item g c =
    let held = c.args.read_buffer.now in
    let source = (g.S.Line.state c.args.source.now).inward in
    let o = open_by held c.bytes.result.now source c.args.headers.now c.args.spans.now BadFields c.read_framing.result c.requires c.bytes.ensures.exact c.read_framing.ensures.fields_framing c.in-Bad.is in
    asks_now c.args.before held source Bad held (next_bad c.args.before held source held c.args.headers.now c.args.spans.now o)

pub returns-in-Coded-clause-first_item : goal.returns-in-Coded-clause-first_item
returns-in-Coded-clause-first_item g c =
    let held = c.args.read_buffer.now in
    let source = (g.S.Line.state c.args.source.now).inward in
    let o = open_by held c.bytes.result.now source c.args.headers.now c.args.spans.now OtherCoding c.read_framing.result c.requires c.bytes.ensures.exact c.read_framing.ensures.fields_framing c.in-Coded.is in
    asks_now c.args.before held source Coded held (next_coded c.args.before held source held c.args.headers.now c.args.spans.now o)

pub returns-in-TooLong-clause-first_item : goal.returns-in-TooLong-clause-first_item
returns-in-TooLong-clause-first_item g c =
    let held = c.args.read_buffer.now in
    let source = (g.S.Line.state c.args.source.now).inward in
    let o = open_by held c.bytes.result.now source c.args.headers.now c.args.spans.now LongBody c.read_framing.result c.requires c.bytes.ensures.exact c.read_framing.ensures.fields_framing c.in-TooLong.is in
    asks_now c.args.before held source TooLong held (next_long c.args.before held source held c.args.headers.now c.args.spans.now o)

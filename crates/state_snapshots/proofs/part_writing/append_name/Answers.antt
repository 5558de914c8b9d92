use Rattle.std.proofs.Common.{length, encode_utf8_all, arith}
use Rattle.std.proofs.lemmas.List.{length-append}
use Rattle.byte_blocks.specs.Blocks.{block}
use Rattle.byte_blocks.proofs.Reading.{block_length}
use Rattle.state_snapshots.specs.Snapshots.{home_bytes}
use Rattle.state_snapshots.proofs.part_writing.append_name.Goals as goal

pub returns-clause-too_long : goal.returns-clause-too_long
returns-clause-too_long c = λ is.
    let id = c.args.id.now in
    let name = encode_utf8_all id.name in
    omega (arith, length-append (home_bytes id.home) (block name), block_length name, c.append_text.ensures.too_long is)

use Rattle.std.proofs.Common.{◌≡◌, take, map, false}
use Rattle.std.specs.Prelude.{codes}
use Rattle.std.specs.List.{list_any}
use Rattle.httparse.specs.Spans.{header_bytes}
use Rattle.http_wire.specs.Fields.{field_values, has_close_option}
use Rattle.http_wire.proofs.framing.asks_to_close.Given as goal

abbrev pub invariant-fields : goal.invariant-fields
invariant-fields l = list_any has_close_option (field_values (codes "connection") (map (header_bytes l.buf) (take l.header-index l.headers))) ≡ false

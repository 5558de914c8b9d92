use Rattle.std.proofs.Common.{take, map}
use Rattle.httparse.specs.Spans.{header_bytes}
use Rattle.http_wire.specs.Fields.{field_values, IsLookupOf}
use Rattle.http_wire.proofs.framing.find_field.Given as goal

abbrev pub invariant-fields : goal.invariant-fields
invariant-fields l = IsLookupOf l.found (field_values l.name (map (header_bytes l.buf) (take l.header-index l.headers)))

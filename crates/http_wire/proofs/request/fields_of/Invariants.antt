use Rattle.std.proofs.Common.{◌≡◌, map, take}
use Rattle.httparse.specs.Spans.{header_bytes}
use Rattle.http_wire.specs.ConnectionItems.{field_of}
use Rattle.http_wire.proofs.request.fields_of.Given as goal

abbrev pub invariant-fields : goal.invariant-fields
invariant-fields l = l.fields ≡ map field_of (map (header_bytes l.bytes) (take l.header-index l.headers))

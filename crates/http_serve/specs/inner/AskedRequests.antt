-- Readers' results that are requests.
use Rattle.std.specs.Prelude.{◌≡◌}
use Rattle.http_wire.specs.declared.request.Request.{Request}
use Rattle.http_wire.specs.declared.request.Asked.{Asked}
use Rattle.http_wire.specs.declared.request.Asked.TheVariants.{Request as Requested}

-- the reader's result is a request
abbrev pub HasRequest : Asked → Type 0
HasRequest asked = (request : Request) × (asked ≡ Requested request)

-- Requests that were read on a connection. RFC 9112, section 9.3.
use Rattle.std.specs.Prelude.{ℕ, List}
use Rattle.http_wire.specs.declared.request.Request.{Request}
use Rattle.http_wire.specs.ConnectionItems.{AsksFor}

-- the request is at the front of a connection's bytes, after the bytes of some earlier requests
pub record IsReadRequest (request : Request) : Type 0 where
  pub before : ℕ
  pub bytes : List ℕ
  pub rest : List ℕ
  pub asked : AsksFor before bytes request rest

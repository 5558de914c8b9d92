use Rattle.std.proofs.Common.{refl}
use Rattle.http_feed.proofs.BeganRequests.{more_come, next_comes}
use Rattle.http_feed.proofs.laws.requests_come_in_order.Goals as goal

pub returns : goal.returns
returns c = record {
  begins = record { begin = refl; count = refl; unspent = refl };
  more_given = λ given bytes requests feed h. more_come given bytes requests feed h;
  next_request = λ given requests request old new h r stays. next_comes given requests request old new h r stays;
}

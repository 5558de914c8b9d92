use Rattle.std.proofs.Common.{◌≡◌, encode_utf8_all, ap, ◌∙◌, subst, refl}
use Rattle.std.specs.Prelude.{Ok, Err}
use Rattle.std.proofs.lemmas.Result.{err_from_is_err_and}
use Rattle.xcap_io.specs.Connections.{Connects}
use Rattle.xcap_client.specs.ServerAddresses.{address_of}
use Rattle.xcap_client.specs.Exchanges.{not_connected, not_sent, answered}
use Rattle.xcap_client.proofs.exchanges.exchange.Goals as goal

pub returns-in_err-connect : goal.returns-in_err-connect
returns-in_err-connect g c = record {
  one_exchange =
      let p = err_from_is_err_and c.from_residual-in_err-connect.result c.from_residual-in_err-connect.ensures.1 in
      not_connected c.in_err-connect.ensures.only_connects (p.1 ∙ ap Err p.2);
}

pub returns-in_err-write_request : goal.returns-in_err-write_request
returns-in_err-write_request g c = record {
  one_exchange =
      let p = err_from_is_err_and c.from_residual-in_err-write_request.result c.from_residual-in_err-write_request.ensures.1 in
      let address : c.as_str.result.now ≡ encode_utf8_all (address_of c.args.root.now) = c.as_str.ensures.utf8_bytes ∙ ap encode_utf8_all c.in_ok-address.ensures.ok in
      let begun = g.C.Line.state c.connect.new.self in
      let connects = subst (Connects (g.C.Line.state c.args.peer.now) begun) address c.in_ok-connect.ensures.only_connects in
      not_sent begun connects c.in_err-write_request.ensures.only_writes.writes c.in_err-write_request.ensures.only_writes.counts c.in_err-write_request.ensures.all_or_prefix (p.1 ∙ ap Err p.2);
}

pub returns-in_err-response : goal.returns-in_err-response
returns-in_err-response g c = record {
  one_exchange =
      let p = err_from_is_err_and c.from_residual-in_err-response.result c.from_residual-in_err-response.ensures.1 in
      let address : c.as_str.result.now ≡ encode_utf8_all (address_of c.args.root.now) = c.as_str.ensures.utf8_bytes ∙ ap encode_utf8_all c.in_ok-address.ensures.ok in
      let begun = g.C.Line.state c.connect.new.self in
      let connects = subst (Connects (g.C.Line.state c.args.peer.now) begun) address c.in_ok-connect.ensures.only_connects in
      let wrote = c.in_ok-write_request.ensures in
      let read = c.in_err-response.ensures in
      answered begun (g.C.Line.state c.write_request.new.sink) (Err c.in_err-response.field-0.0) connects wrote.only_writes.writes wrote.only_writes.counts wrote.all_or_prefix read.only_reads read.answers_read read.faults_never_fall (p.1 ∙ ap Err p.2);
}

pub returns : goal.returns
returns g c = record {
  one_exchange =
      let address : c.as_str.result.now ≡ encode_utf8_all (address_of c.args.root.now) = c.as_str.ensures.utf8_bytes ∙ ap encode_utf8_all c.in_ok-address.ensures.ok in
      let begun = g.C.Line.state c.connect.new.self in
      let connects = subst (Connects (g.C.Line.state c.args.peer.now) begun) address c.in_ok-connect.ensures.only_connects in
      let wrote = c.in_ok-write_request.ensures in
      let read = c.in_ok-response.ensures in
      answered begun (g.C.Line.state c.write_request.new.sink) (Ok c.in_ok-response.response) connects wrote.only_writes.writes wrote.only_writes.counts wrote.all_or_prefix read.only_reads read.answers_read read.faults_never_fall refl;
}

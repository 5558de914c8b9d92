use Rattle.xcap_client.proofs.Bodies.{no_body}
use Rattle.xcap_client.proofs.response.read_body.Goals as goal

pub returns-in-Empty-clause-gives_body : goal.returns-in-Empty-clause-gives_body
returns-in-Empty-clause-gives_body g c = rw c.in-Empty.is (no_body c.args.read_buffer _ c.new.result c.new.ensures.holds_no_bytes)

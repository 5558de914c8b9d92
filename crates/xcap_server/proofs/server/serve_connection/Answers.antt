use Rattle.xcap_server.proofs.ServerStates.{line_root, line_standard, line_stands}
use Rattle.xcap_server.proofs.server.serve_connection.Goals as goal

pub returns-clause-standard_session : goal.returns-clause-standard_session
returns-clause-standard_session g c = λ m. λ has. line_standard g.W.Watchers.keeps c.server.inside.service c.args.server.now c.serve_stream.new.machine c.server.view_is _ _ _ _ c.serve_stream.result c.serve_stream.ensures.serves_stream m has

pub returns-clause-machine_session : goal.returns-clause-machine_session
returns-clause-machine_session g c = λ m. λ kept. λ stands. line_stands g.W.Watchers.keeps c.server.inside.service c.args.server.now c.serve_stream.new.machine c.server.view_is _ _ _ _ c.serve_stream.result c.serve_stream.ensures.serves_stream m kept stands

pub returns-clause-same_root : goal.returns-clause-same_root
returns-clause-same_root g c = line_root g.W.Watchers.keeps c.server.inside.service c.args.server.now c.serve_stream.new.machine c.server.view_is _ _ _ _ c.serve_stream.result c.serve_stream.ensures.serves_stream

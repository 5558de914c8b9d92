use Rattle.xcap_server.proofs.ServerStates.{port_root, port_valid}
use Rattle.xcap_server.proofs.server.serve_port.Goals as goal

pub returns-clause-machine_session : goal.returns-clause-machine_session
returns-clause-machine_session g c = λ m. λ kept. λ stands. port_valid g.W.Watchers.keeps c.server.inside.service c.args.server.now c.serve_streams.new.machine c.server.view_is _ _ _ _ c.args.count c.serve_streams.result c.serve_streams.ensures.serves_port m kept stands

pub returns-clause-same_root : goal.returns-clause-same_root
returns-clause-same_root g c = port_root g.W.Watchers.keeps c.server.inside.service c.args.server.now c.serve_streams.new.machine c.server.view_is _ _ _ _ c.args.count c.serve_streams.result c.serve_streams.ensures.serves_port

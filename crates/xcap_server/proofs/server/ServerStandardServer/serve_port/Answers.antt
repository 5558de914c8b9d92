use Rattle.xcap_server.proofs.ServerStates.{port_root, port_stands}
use Rattle.xcap_server.proofs.server.ServerStandardServer.serve_port.Goals as goal

pub returns-clause-serves_port : goal.returns-clause-serves_port
returns-clause-serves_port g c = λ m. λ held. port_stands g.W.Watchers.keeps c.self.inside.service c.args.self.now c.serve_streams.new.machine c.self.view_is _ _ _ _ c.args.count c.serve_streams.result c.serve_streams.ensures.serves_port m held.0 held.1

pub returns-clause-same_root : goal.returns-clause-same_root
returns-clause-same_root g c = port_root g.W.Watchers.keeps c.self.inside.service c.args.self.now c.serve_streams.new.machine c.self.view_is _ _ _ _ c.args.count c.serve_streams.result c.serve_streams.ensures.serves_port

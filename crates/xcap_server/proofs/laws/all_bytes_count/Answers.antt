use Rattle.xcap_server.proofs.KnownBytes.{line_counts, port_counts}
use Rattle.xcap_server.proofs.laws.all_bytes_count.Goals as goal

pub returns-clause-one_stream_bytes : goal.returns-clause-one_stream_bytes
returns-clause-one_stream_bytes g c = line_counts g.W.Watchers.keeps

pub returns-clause-each_connection_bytes : goal.returns-clause-each_connection_bytes
returns-clause-each_connection_bytes g c = port_counts g.W.Watchers.keeps

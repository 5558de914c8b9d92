use Rattle.state_snapshots.proofs.ReadBack.{document_back, start_back}
use Rattle.state_snapshots.proofs.laws.parts_are_read_back.Goals as goal

pub returns : goal.returns
returns c = record {
  start = start_back;
  document = document_back;
}

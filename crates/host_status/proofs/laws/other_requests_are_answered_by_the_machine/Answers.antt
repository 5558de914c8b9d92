use Rattle.host_status.proofs.StatusAnswers.{by_machine, status_stays}
use Rattle.host_status.proofs.laws.other_requests_are_answered_by_the_machine.Goals as goal

pub returns : goal.returns
returns c = record {
  by_the_machine = λ root m next request reply edit step asks. by_machine step asks;
  status_changes_nothing = λ root m next request reply edit step asks. status_stays step asks;
}

use Rattle.element_watch.specs.inner.ElementStates.{state_of_selected}
use Rattle.element_watch.proofs.States.{one_notice, one_state, some_notice, state_is}
use Rattle.element_watch.proofs.laws.each_element_has_one_notice.Goals as goal

pub returns : goal.returns
returns c = record {
  state_exists = λ u t selector ns. (state_of_selected u t selector ns, state_is u t selector ns);
  states_are_one = one_state;
  notice_exists = λ root w c tag ns. some_notice root c tag w.doc w.selector w.raw ns;
  notices_are_one = λ root w c ns. one_notice root c w.doc w.selector w.raw ns;
}

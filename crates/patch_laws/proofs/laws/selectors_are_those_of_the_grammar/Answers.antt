use Rattle.patch_laws.proofs.Outcomes.{alike}
use Rattle.patch_laws.proofs.SelectorAnswers.{are_readings, taken_as_answered}
use Rattle.patch_laws.proofs.laws.selectors_are_those_of_the_grammar.Goals as goal

pub returns : goal.returns
returns c = record { readings_exist = are_readings; readings_agree = alike; reading_is_answer = λ c sel chars. taken_as_answered sel chars c }

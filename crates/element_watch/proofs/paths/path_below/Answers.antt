use Rattle.element_watch.proofs.Ways.{left_fits, left_is, left_whole}
use Rattle.element_watch.proofs.paths.path_below.Goals as goal

pub returns-clause-exact : goal.returns-clause-exact
returns-clause-exact c =
    left_is (λ x. x.now) c.numbers-2.result.now c.numbers.result.now c.args.place.now c.args.path.now c.numbers-2.ensures.exact c.numbers.ensures.exact c.strip_prefix.result c.strip_prefix.ensures.cases

pub returns-clause-completes_path : goal.returns-clause-completes_path
returns-clause-completes_path c =
    left_whole (λ x. x.now) c.numbers-2.result.now c.numbers.result.now c.args.place.now c.args.path.now c.numbers-2.ensures.exact c.numbers.ensures.exact c.strip_prefix.result c.strip_prefix.ensures.cases

pub returns-clause-path_still_fits : goal.returns-clause-path_still_fits
returns-clause-path_still_fits c =
    left_fits (λ x. x.now) c.numbers-2.result.now c.numbers.result.now c.args.place.now c.args.path.now c.numbers-2.ensures.exact c.numbers.ensures.exact c.strip_prefix.result c.numbers.ensures.path_is_short c.strip_prefix.ensures.cases

use Rattle.element_watch.proofs.SmallPaths.{small_path}
use Rattle.element_watch.proofs.element_diffs.state_of.Goals as goal

pub state_at-requires-clause-numbers_bounded : goal.state_at-requires-clause-numbers_bounded
state_at-requires-clause-numbers_bounded c =
    small_path c.args.usage c.args.root.now c.args.selector.now.steps c.in-Some.path c.requires.is_sound ((c.select.ensures.selected_path c.in-Some.path).0 c.in-Some.is)

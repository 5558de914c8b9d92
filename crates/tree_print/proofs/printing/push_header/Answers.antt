use Rattle.std.proofs.Common.{List, ℕ, ◌++◌, ap, ◌∙◌}
use Rattle.tree_print.proofs.PrintLemmas.{letters_header}
use Rattle.tree_print.proofs.printing.push_header.Goals as goal

pub returns : goal.returns
returns c = record { appended = c.in_ok-push_str.ensures.appends_chars ∙ ap (λ (z : List ℕ). c.args.out.now ++ z) letters_header }

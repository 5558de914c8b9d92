use Rattle.std.proofs.Common.{[]}
use Rattle.std.specs.Cmp.{both_ways}
use Rattle.std.specs.Cmp.Lexicographic.{bytes_decides}
use Rattle.tree_print.proofs.printing.is_empty_prefix.Goals as goal

pub returns : goal.returns
returns c = record {
  exact =
      let prefix = c.args.prefix.now in
      let test = c.is_empty.ensures.exact in
      both_ways _ _ (λ yes. (bytes_decides prefix []).1 (test.0 yes)) (λ none. test.1 ((bytes_decides prefix []).0 none));
}

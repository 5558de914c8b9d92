use Rattle.std.proofs.Common.{rules, tests, ◌==◌}
use Rattle.std.specs.Prelude.{codes}
use Rattle.std.proofs.lemmas.Iterator.Search.{any_from_yields_List}
use Rattle.std.proofs.lemmas.Iterator.Splits.{YieldsList-from_slice_split}
use Rattle.httparse.specs.Ascii.{comma}
use Rattle.httparse.specs.Grammar.{trim_ows}
use Rattle.http_wire.specs.Fields.{same_ignoring_case, has_close_option}
use Rattle.http_wire.proofs.framing.has_close_option.Goals as goal

pub returns : goal.returns
unfolding has_close_option
returns c = record {
  exact =
      any_from_yields_List (λ part. same_ignoring_case (trim_ows part) (codes "close")) _ _ _ c.any.ensures.ran
      (YieldsList-from_slice_split _ (λ b. b == comma) c.args.value.now c.split.ensures.rest c.split.ensures.done c.split.ensures.closure (λ x b q k. search (rules, tests)))
      (λ x b q k. search (rules, tests));
}

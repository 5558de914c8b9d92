use Rattle.std.proofs.Common.{Some, None, sym, ap, ◌∙◌}
use Rattle.std.proofs.lemmas.Bool.{cond-false}
use Rattle.xcap_uri.specs.Roots.{root_of, is_root_text as is_root}
use Rattle.xcap_uri.specs.readers.Roots.{strip_scheme}
use Rattle.xcap_uri.proofs.RootAnswers.{no_root, some_root}
use Rattle.xcap_uri.proofs.root.read_root.Goals as goal

pub returns-in_default : goal.returns-in_default
unfolding root_of
returns-in_default c = record {
  ok =
      let text = c.args.text.now in
      sym (cond-false (is_root text) (Some text) None (no_root text (ap strip_scheme (sym c.as_bytes-text.ensures.value) ∙ sym c.in_default.ensures.exact)));
}

pub make_root-requires-clause-valid_root_text : goal.make_root-requires-clause-valid_root_text
make_root-requires-clause-valid_root_text c =
    some_root c.as_bytes-text.result.now c.in-Some.rest.now (sym c.in-Some.ensures.exact) c.if-text-gt-MAX_ROOT_LEN.false (sym c.if-not-are_authority_and_segments.ensures.exact)

use Rattle.std.proofs.Common.{chars}
use Rattle.node_select.proofs.ExactSelectors.{patch_selector_answered}
use Rattle.node_select.proofs.selector_reader.read_patch_selector.Goals as goal

pub returns : goal.returns
returns c = record { grammar_answer = patch_selector_answered c.args.bindings.now (chars c.args.default_uri.now) c.args.text.now c.parse_patch_selector.result c.parse_patch_selector.ensures.grammar_answer }

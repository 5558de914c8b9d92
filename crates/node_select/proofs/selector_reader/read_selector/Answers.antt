use Rattle.std.proofs.Common.{chars}
use Rattle.node_select.proofs.ExactSelectors.{selector_answered}
use Rattle.node_select.proofs.selector_reader.read_selector.Goals as goal

pub returns : goal.returns
returns c = record { grammar_answer = selector_answered c.args.bindings.now (chars c.args.default_uri.now) c.args.text.now c.parse_selector.result c.parse_selector.ensures.grammar_answer }

use Rattle.std.proofs.Common.{◌<◌, ◌^◌, chars, length, sym, rules, arith}
use Rattle.xml_tokens.proofs.TextBytes.{chars_le}
use Rattle.node_select.specs.readers.Selectors.{read_selector}
use Rattle.node_select.specs.readers.Views.{selector_view}
use Rattle.node_select.proofs.Widths.{selector_room, whole_read}
use Rattle.node_select.proofs.selector_grammar.raw_selector.Goals as goal

pub returns-clause-places_fit_u64 : goal.returns-clause-places_fit_u64
returns-clause-places_fit_u64 c =
    let raw = selector_view c.in_ok-selector.selector in
    let text = c.args.text.now in
    let size : length text < 2 ^ 63 = first_of (search rules, omega (arith, c.well_formed)) in
    let fits : length (chars text) < 2 ^ 63 = omega (arith, chars_le text c.utf8.text, size) in
    selector_room (chars text) raw fits (whole_read read_selector (chars text) raw (chars c.in_ok-selector.rest.now) (c.in_ok-selector.ensures {u = tt}).reads_rule (sym c.if-not-is_at_end.ensures.exact))

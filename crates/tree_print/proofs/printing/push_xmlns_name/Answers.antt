use Rattle.tree_print.proofs.PrintLemmas.{prefixed_end}
use Rattle.std.proofs.Common.{sym, ◌∙◌}
use Rattle.tree_print.proofs.printing.push_xmlns_name.Goals as goal

pub returns : goal.returns
returns c = record { appended = prefixed_end c.args.out.now c.push_str-2.new.self c.push_str-3.new.self c.args.prefix.now c.as_str.result.now (sym c.is_empty_prefix.ensures.exact ∙ c.if-is_empty_prefix.false) c.in_ok-push_str.ensures.appends_chars c.as_str.ensures.same_chars c.in_ok-push_str-2.ensures.appends_chars }

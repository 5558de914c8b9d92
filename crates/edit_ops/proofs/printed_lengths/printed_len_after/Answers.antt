use Rattle.std.proofs.Common.{sym, ap, ◌∙◌, arith}
use Rattle.xml_tree.specs.Tree.{at}
use Rattle.edit_ops.proofs.LengthLemmas.{len_after}
use Rattle.edit_ops.proofs.StageLemmas.{fits_at, site_missing}
use Rattle.edit_ops.proofs.printed_lengths.printed_len_after.Goals as goal

pub unreachable-requires : goal.unreachable-requires
unreachable-requires c =
    let root = c.args.root.now in
    site_missing root c.args.change.now c.requires.fits (ap (λ p. at p root) (sym c.site_of.ensures.exact) ∙ sym (c.in_default.ensures {u = tt}).exact)

pub len_taken_off-requires : goal.len_taken_off-requires
len_taken_off-requires c =
    let root = c.args.root.now in
    fits_at root c.in-Some.element.now c.args.change.now c.requires.fits (ap (λ p. at p root) (sym c.site_of.ensures.exact) ∙ sym c.in-Some.ensures.exact)

pub overflow_sub-len : goal.overflow_sub-len
overflow_sub-len c =
    let root = c.args.root.now in let change = c.args.change.now in let e = c.in-Some.element.now in
    let there = ap (λ p. at p root) (sym c.site_of.ensures.exact) ∙ sym c.in-Some.ensures.exact in
    let after = len_after root e change there (fits_at root e change c.requires.fits there) in
    omega (arith, after.1, c.requires.length_exact, c.len_taken_off.ensures.exact)

pub returns : goal.returns
returns c =
    let root = c.args.root.now in let change = c.args.change.now in let e = c.in-Some.element.now in
    let there = ap (λ p. at p root) (sym c.site_of.ensures.exact) ∙ sym c.in-Some.ensures.exact in
    let after = len_after root e change there (fits_at root e change c.requires.fits there) in
    omega (arith, after.0, after.1, c.requires.length_exact, c.len_taken_off.ensures.exact, c.inserted_len.ensures.exact)

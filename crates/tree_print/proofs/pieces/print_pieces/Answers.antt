use Rattle.std.proofs.Common.{◌++◌, ap, ◌∙◌, arith}
use Rattle.xml_tree.specs.Print.{print}
use Rattle.tree_print.specs.inner.Parts.{Pending}
use Rattle.tree_print.proofs.PieceLemmas.{print_alone, print_headed}
use Rattle.tree_print.proofs.pieces.print_pieces.Goals as goal

pub push-requires : goal.push-requires
push-requires c = omega (arith, ap (λ (p : Pending). p.taken) c.new-parts.ensures.holds_nothing, c.requires)

pub push-requires-then-document : goal.push-requires-then-document
push-requires-then-document c = omega (arith, ap (λ (p : Pending). p.taken) c.new-parts.ensures.holds_nothing, c.push.ensures.one_more)

pub returns-then-document : goal.returns-then-document
returns-then-document c = record {
  whole_print =
      rw c.if-document.true (print_headed (print c.args.root.now) c.push.new.self.text c.push-then-document.new.self.text
      (c.push.ensures.text_before ∙ ap (λ (p : Pending). print c.args.root.now ++ p.text) c.new-parts.ensures.holds_nothing) c.push-then-document.ensures.text_before);
}

pub returns : goal.returns
returns c = record {
  whole_print =
      rw c.if-document.false (print_alone (print c.args.root.now) c.push.new.self.text
      (c.push.ensures.text_before ∙ ap (λ (p : Pending). print c.args.root.now ++ p.text) c.new-parts.ensures.holds_nothing));
}

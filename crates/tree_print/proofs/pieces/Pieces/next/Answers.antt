use Rattle.std.proofs.Common.{sym, ap, ◌∙◌, arith}
use Rattle.tree_print.specs.PrintPieces.{PrintRest}
use Rattle.tree_print.proofs.pieces.Pieces.next.Goals as goal

pub returns-in_default-clause-next_characters : goal.returns-in_default-clause-next_characters
returns-in_default-clause-next_characters c = sym (ap (λ (r : PrintRest). r.text) c.self.view_is) ∙ c.in_default.ensures.text_in_front

pub returns-clause-next_characters : goal.returns-clause-next_characters
returns-clause-next_characters c = sym (ap (λ (r : PrintRest). r.text) c.self.view_is) ∙ c.in-Some.ensures.text_in_front ∙ c.open.ensures.opens.splits

pub returns-clause-comes_to_an_end : goal.returns-clause-comes_to_an_end
returns-clause-comes_to_an_end c = λ _. omega (arith, ap (λ (r : PrintRest). r.most) c.self.view_is, c.in-Some.ensures.fewer_pieces, c.open.ensures.opens.fewer)

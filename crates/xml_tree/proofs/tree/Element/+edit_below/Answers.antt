use Rattle.std.proofs.Common.{sym, ap, rules}
use Rattle.std.proofs.lemmas.List.{nil_from_length}
use Rattle.xml_tree.specs.Tree.{at}
use Rattle.xml_tree.specs.Edits.{put_over}
use Rattle.xml_tree.proofs.KidLemmas.{below, whole, changed}
use Rattle.xml_tree.proofs.tree.Element.+edit_below.Goals as goal

pub invariant_of-self : goal.invariant_of-self
invariant_of-self g t c = whole c.self.inside c.in-Some.first.now c.child_mut-child_element.result.now c.edit_below.new.self c.child_mut-child_element.ensures.lends_element c.self.invariant

pub returns-in-None : goal.returns-in-None
returns-in-None g t c = record {
  edits_element =
      let none = nil_from_length c.args.path.now c.in-None.ensures.cases in
      let old = c.args.self.now in let new = c.edit.new.arg2 in
      record { here = old; left = new; there = ap (λ p. at p old) none; edits = search rules; put = ap (λ p. put_over p new old) (sym none) };
}

pub returns-in-Some : goal.returns-in-Some
returns-in-Some g t c = record {
  edits_element =
      let n = c.in-Some.first.now in let p = c.in-Some.rest.now in let done = c.edit_below.ensures.edits_element in
      record {
        here = done.here;
        left = done.left;
        there = rw (c.in-Some.ensures.cases.0, ← c.self.view_is) (below c.self.inside n c.child_mut-child_element.result.now c.edit_below.new.self c.child_mut-child_element.ensures.lends_element p done.here done.there);
        edits = done.edits;
        put = rw (c.in-Some.ensures.cases.0, ← c.self.view_is) (changed c.self.inside n c.child_mut-child_element.result.now c.edit_below.new.self c.child_mut-child_element.ensures.lends_element (put_over p done.left) done.put);
      };
}

use Rattle.std.proofs.Common.{List, [], ◌∷◌, ◌++◌, sym, ap, ◌∙◌, subst, append-nil, append_assoc}
use Rattle.std.proofs.lemmas.List.{nil_from_length}
use Rattle.xml_names.specs.declared.names.Decl.{Decl}
use Rattle.tree_text.specs.readers.Bindings.{RepresentsDecls}
use Rattle.tree_text.proofs.namespaces.Namespaces.undeclare_each.Goals as goal

pub loop-decl-preserved : goal.loop-decl-preserved
loop-decl-preserved c =
    let rest = c.next.new.self.iter.rest.now in
    let last = c.in-Some.decl.now in
    record {
      can = tt;
      finite = tt;
      left = λ ds are.
          let parts = ap (λ (l : List Decl). ds ++ l) c.in-Some.ensures.steps ∙ sym (append_assoc ds rest (last ∷ [])) in
          c.pop_declaration.ensures.holds_one_fewer (ds ++ rest) (subst (RepresentsDecls c.loop-decl.self) parts (c.loop-decl.invariant.left ds are));
    }

pub returns : goal.returns
returns c = record { forgets_each = λ ds are. subst (RepresentsDecls c.loop-decl.self) (ap (λ (l : List Decl). ds ++ l) (nil_from_length c.loop-decl.decl-iterator.iter.rest.now c.in-None.ensures.steps.0) ∙ append-nil ds) (c.loop-decl.invariant.left ds are) }

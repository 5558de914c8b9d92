use Rattle.std.proofs.Common.{List, [], ◌∷◌, ◌++◌, ap, ◌∙◌, append_assoc}
use Rattle.xml_tree.specs.Tree.{Tree}
use Rattle.xml_names.specs.declared.names.Attr.{Attr}
use Rattle.tree_text.specs.Names.{attrs_of}
use Rattle.tree_text.proofs.JudgeLemmas.{attrs-append}
use Rattle.tree_text.proofs.elements.push_raw_attributes.Goals as goal

pub loop-one-preserved : goal.loop-one-preserved
loop-one-preserved c =
    let one = attrs_of (c.in-Some.one ∷ []) in
    rw (attrs-append c.loop-one.yielded c.in-Some.one)
    (c.in_ok-push_raw_attribute.ensures.appended
    ∙ ap (λ (e : Tree). let z : Tree = record e { attrs = e.attrs ++ one } in z) c.loop-one.invariant
    ∙ ap (λ (all : List Attr). let z : Tree = record c.args.element.now { attrs = all } in z) (append_assoc c.args.element.now.attrs (attrs_of c.loop-one.yielded) one))

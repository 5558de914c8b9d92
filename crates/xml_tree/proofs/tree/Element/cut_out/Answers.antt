use Rattle.std.proofs.Common.{IsSome, IsSomeAnd, OnErr, sym, ap, ◌∙◌, subst}
use Rattle.std.proofs.lemmas.Result.{IfOk-weaker, on_ok_weaker}
use Rattle.xml_tree.specs.Tree.{at}
use Rattle.xml_tree.specs.Edits.{TextsMeet, take_in, parent_path, last_number}
use Rattle.xml_tree.proofs.PathLemmas.{at-snoc, final-snoc, front-snoc, kid_is, kid_there}
use Rattle.xml_tree.proofs.tree.Element.cut_out.Goals as goal

pub take_in-requires : goal.take_in-requires
take_in-requires c =
    let p = c.in-Some.parent in let n = c.in-Some.child in let t = c.args.self.now in
    let is = ap (λ q. at q t) c.in-Some.ensures.path_parts ∙ at-snoc p n t in
    kid_there (at p t) n (subst (λ (o : _). IsSome o) is c.requires.place_exists)

pub returns-clause-previous_element : goal.returns-clause-previous_element
returns-clause-previous_element c =
    let p = c.in-Some.parent in let n = c.in-Some.child in let t = c.args.self.now in
    let is = ap (λ q. at q t) c.in-Some.ensures.path_parts ∙ at-snoc p n t in
    IfOk-weaker c.take_in.result _ _ (λ k h. is ∙ kid_is (at p t) n k h) c.take_in.ensures.previous_element

pub returns-clause-cuts_element : goal.returns-clause-cuts_element
returns-clause-cuts_element c =
    let p = c.in-Some.parent in let n = c.in-Some.child in let t = c.args.self.now in
    let up = ap parent_path c.in-Some.ensures.path_parts ∙ front-snoc p n in
    let low = ap last_number c.in-Some.ensures.path_parts ∙ final-snoc p n in
    on_ok_weaker c.take_in.result (λ made. made ∙ sym (λ i. take_in (up i) (low i) t)) c.take_in.ensures.cuts_element

pub returns-clause-err_texts_meet : goal.returns-clause-err_texts_meet
returns-clause-err_texts_meet c =
    let p = c.in-Some.parent in let n = c.in-Some.child in let t = c.args.self.now in
    let up = ap parent_path c.in-Some.ensures.path_parts ∙ front-snoc p n in
    let low = ap last_number c.in-Some.ensures.path_parts ∙ final-snoc p n in
    subst (λ q. OnErr c.take_in.result (IsSomeAnd (at q t) (λ parent. TextsMeet (last_number c.args.path.now) parent.content))) (sym up)
    (subst (λ m. OnErr c.take_in.result (IsSomeAnd (at p t) (λ parent. TextsMeet m parent.content))) (sym low) c.take_in.ensures.err_texts_meet)

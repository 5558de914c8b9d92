use Rattle.std.proofs.Common.{◌≡◌, ◌+◌, List, [], ◌∷◌, ◌++◌, take, ap, sym, ◌∙◌}
use Rattle.std.proofs.lemmas.List.{take_more}
use Rattle.xml_names.specs.declared.names.Decl.{Decl}
use Rattle.tree_text.specs.declared.raw_attribute.RawAttribute.{RawAttribute}
use Rattle.tree_text.specs.Names.{decls_of}
use Rattle.tree_text.proofs.JudgeLemmas.{decls-append}
use Rattle.tree_text.proofs.names.collect_decls.Goals as goal

pub loop-raw_attribute-preserved : goal.loop-raw_attribute-preserved
loop-raw_attribute-preserved c =
    let one : take (c.loop-raw_attribute.raw_attribute-index + 1) c.args.all.now ≡ take c.loop-raw_attribute.raw_attribute-index c.args.all.now ++ c.raw_attribute-item.result ∷ [] =
    take_more c.args.all.now c.loop-raw_attribute.raw_attribute-index c.raw_attribute-item.result c.loop-raw_attribute-test.true ∙ ap (λ (z : RawAttribute). take c.loop-raw_attribute.raw_attribute-index c.args.all.now ++ z ∷ []) (sym c.raw_attribute-item.is)
    in
    rw one (rw (decls-append (take c.loop-raw_attribute.raw_attribute-index c.args.all.now) c.raw_attribute-item.result) (c.in_ok-push_decl.ensures.appends_declared ∙ ap (λ (z : List Decl). z ++ decls_of (c.raw_attribute-item.result ∷ [])) c.loop-raw_attribute.invariant))

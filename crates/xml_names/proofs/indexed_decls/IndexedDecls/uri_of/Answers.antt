use Rattle.std.proofs.Common.{◌≡◌, ◌≢◌, List, Bor, [], length, ap, sym, subst, ◌∙◌, arith}
use Rattle.std.proofs.lemmas.List.{length-map}
use Rattle.std.proofs.lemmas.Bool.Decides.{nat_tests}
use Rattle.xml_names.specs.declared.names.Decl.{Decl}
use Rattle.xml_names.specs.Scopes.{AreSortedByPrefix, declared_uri}
use Rattle.xml_names.proofs.IndexLemmas.{declared-index, in_order, seen}
use Rattle.xml_names.proofs.indexed_decls.IndexedDecls.uri_of.Goals as goal

pub find_in_index-requires : goal.find_in_index-requires
find_in_index-requires c =
    let d = c.self.inside in
    subst (λ (ls : List (Bor Decl)). AreSortedByPrefix (seen ls)) (sym c.deref.ensures.value) (in_order (seen d.index.items) d.decls.now c.self.invariant)

pub returns : goal.returns
returns c = record {
  exact =
      let d = c.self.inside in
      let p = c.args.prefix.now in
      let some : seen d.index.items ≢ [] = λ none.
      let empty : length d.index.items ≡ 0 = sym (length-map d.index.items (λ (x : Bor Decl). x.now)) ∙ ap length none in
      grind (arith, nat_tests, empty, ap length c.deref.ensures.value, c.deref.ensures.len, c.if-is_empty.ensures {u = tt}) in
      c.find_in_index.ensures.exact ∙ ap (λ (ls : List (Bor Decl)). declared_uri (seen ls) p) c.deref.ensures.value
      ∙ declared-index (seen d.index.items) d.decls.now p c.self.invariant some ∙ ap (λ (ds : List Decl). declared_uri ds p) c.self.view_is;
}

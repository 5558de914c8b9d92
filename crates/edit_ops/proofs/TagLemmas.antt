-- A tag whose attributes are written one after the other.
use Rattle.std.proofs.Common.{◌≡◌, ℕ, true, cond, List, [], ◌∷◌, ◌++◌, sym, ap, ◌∙◌, append_assoc}
use Rattle.xml_tree.specs.Tree.{Tree}
use Rattle.xml_names.specs.Attributes.{with_new_value, with_attr, has_qname as is_named}
use Rattle.xml_names.specs.declared.names.Name.{Name}
use Rattle.xml_names.specs.declared.names.Attr.{Attr}

-- the attribute of the name is first
first_written : (n : Name) (v : List ℕ) (a : Attr) (xs : List Attr) → is_named n a ≡ true → with_attr n v (a ∷ xs) ≡ with_new_value v a ∷ xs
first_written n v a xs h = ap (λ b. cond b (with_new_value v a ∷ xs) (a ∷ with_attr n v xs)) h

-- the rest of the attributes once the one of the name was written, and the others after it
pub tag_written : (e m g made : Tree) (n : Name) (v : List ℕ) (a new : Attr) (xs ts back : List Attr) → m ≡ record e { attrs = m.attrs }
    → m.attrs ++ with_attr n v ts ≡ e.attrs ++ with_attr n v xs → ts ≡ a ∷ back → is_named n a ≡ true → new ≡ with_new_value v a
    → g ≡ record m { attrs = m.attrs ++ new ∷ [] } → made ≡ record g { attrs = g.attrs ++ back } → made ≡ record e { attrs = e.attrs ++ with_attr n v xs }
tag_written e m g made n v a new xs ts back same attrs tail named is grown rest =
    let here : with_attr n v ts ≡ new ∷ back = ap (with_attr n v) tail ∙ first_written n v a back named ∙ ap (λ x. x ∷ back) (sym is) in
    rest ∙ ap (λ (x : Tree). record x { attrs = x.attrs ++ back }) grown
    ∙ ap (λ (l : List Attr). record m { attrs = l }) (append_assoc m.attrs (new ∷ []) back ∙ ap (λ l. m.attrs ++ l) (sym here) ∙ attrs)
    ∙ ap (λ (x : Tree). record x { attrs = e.attrs ++ with_attr n v xs }) same

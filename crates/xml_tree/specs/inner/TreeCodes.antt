-- How a ghost variable stores a tree: an injective map into pairs and numbers.
use Rattle.std.specs.Prelude.{◌≡◌, ℕ, List}
use Rattle.std.specs.Coded.{Coded, code_by, coded×}
use Rattle.std.proofs.Common.{arith}
use mathlib.Core.Path.{refl, ap}
use base.Stored.{Gv, gnil, gnum, gcons, num}
use Rattle.xml_tree.specs.Tree.{Content, last, more, comment_node, Tree, tree_of}
use Rattle.xml_names.specs.declared.names.Name.{Name}
use Rattle.xml_names.specs.declared.names.Decl.{Decl}
use Rattle.xml_names.specs.declared.names.Attr.{Attr}
use Rattle.xml_names.specs.inner.ValueCodes.{attrs_code, decls_code, name_code, text_code}

abbrev pub left_half : Gv → Gv
left_half gnil = gnil
left_half (gnum n) = gnil
left_half (gcons a b) = a

abbrev pub right_half : Gv → Gv
right_half gnil = gnil
right_half (gnum n) = gnil
right_half (gcons a b) = b

abbrev pub content_gv : Content → Gv
content_gv (last t) = gcons (gnum 0) (text_code.code t)
content_gv (more t n ds ats c rest) =
    gcons (gnum 1)
    (gcons (text_code.code t)
    (gcons (name_code.code n)
    (gcons (decls_code.code ds)
    (gcons (attrs_code.code ats) (gcons (content_gv c) (content_gv rest))))))
content_gv (comment_node t c rest) =
    gcons (gnum 2) (gcons (text_code.code t) (gcons (text_code.code c) (content_gv rest)))

-- which constructor a content has, by its code
abbrev pub constructor_number : Gv → ℕ
constructor_number g = num (left_half g)

pub content_inj : (x y : Content) → content_gv x ≡ content_gv y → x ≡ y
content_inj (last t) (last u) p = ap last (text_code.inj t u (ap right_half p))
content_inj (more t n ds ats c rest) (more t' n' ds' ats' c' rest') p = λ i.
    more (text_code.inj t t' (ap (λ g. left_half (right_half g)) p) i)
    (name_code.inj n n' (ap (λ g. left_half (right_half (right_half g))) p) i)
    (decls_code.inj ds ds' (ap (λ g. left_half (right_half (right_half (right_half g)))) p) i)
    (attrs_code.inj ats ats'
    (ap (λ g. left_half (right_half (right_half (right_half (right_half g))))) p) i)
    (content_inj c c'
    (ap (λ g. left_half (right_half (right_half (right_half (right_half (right_half g)))))) p) i)
    (content_inj rest rest'
    (ap (λ g. right_half (right_half (right_half (right_half (right_half (right_half g)))))) p) i)
content_inj (comment_node t c rest) (comment_node t' c' rest') p = λ i.
    comment_node (text_code.inj t t' (ap (λ g. left_half (right_half g)) p) i)
    (text_code.inj c c' (ap (λ g. left_half (right_half (right_half g))) p) i)
    (content_inj rest rest' (ap (λ g. right_half (right_half (right_half g))) p) i)
content_inj (last t) (more t' n' ds' ats' c' rest') p =
    absurd (omega (arith, ap constructor_number p))
content_inj (last t) (comment_node t' c' rest') p = absurd (omega (arith, ap constructor_number p))
content_inj (more t n ds ats c rest) (last u) p = absurd (omega (arith, ap constructor_number p))
content_inj (more t n ds ats c rest) (comment_node t' c' rest') p =
    absurd (omega (arith, ap constructor_number p))
content_inj (comment_node t c rest) (last u) p = absurd (omega (arith, ap constructor_number p))
content_inj (comment_node t c rest) (more t' n' ds' ats' c' rest') p =
    absurd (omega (arith, ap constructor_number p))

abbrev pub content_code : Coded Content
content_code = record { code = content_gv; inj = content_inj }

abbrev pub tree_code : Coded Tree
tree_code =
    code_by (Name × (List Decl × (List Attr × Content)))
    (coded× name_code (coded× decls_code (coded× attrs_code content_code)))
    (λ e. (e.name, (e.decls, (e.attrs, e.content)))) (λ p. tree_of p.0 p.1.0 p.1.1.0 p.1.1.1) (λ _.
    refl)

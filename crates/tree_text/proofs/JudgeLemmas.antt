-- Checking the names of a tag, from the first to the last.
use Rattle.std.proofs.Common.{◌≡◌, Bool, true, false, cond, List, [], ◌∷◌, ◌++◌, refl, ap}
use Rattle.tree_text.specs.declared.raw_attribute.RawAttribute.{RawAttribute}
use Rattle.tree_text.specs.Names.{raw_attribute_attr, decls_of, attrs_of, raw_attribute_decl as decl_of, is_xmlns_attr_name as declares}

cons_or : {A : Type 0} (b : Bool) (x : A) (front last rest : List A) → rest ≡ front ++ last → cond b (x ∷ rest) rest ≡ cond b (x ∷ front) front ++ last
cons_or {A} true x front last rest e = ap (λ (z : List A). x ∷ z) e
cons_or false x front last rest e = e

or_cons : {A : Type 0} (b : Bool) (x : A) (front last rest : List A) → rest ≡ front ++ last → cond b rest (x ∷ rest) ≡ cond b front (x ∷ front) ++ last
or_cons {A} true x front last rest e = e
or_cons {A} false x front last rest e = ap (λ (z : List A). x ∷ z) e

pub decls-append : (front : List RawAttribute) (s : RawAttribute) → decls_of (front ++ s ∷ []) ≡ decls_of front ++ decls_of (s ∷ [])
decls-append [] s = refl
decls-append (x ∷ xs) s = cons_or (declares x.name) (decl_of x) (decls_of xs) (decls_of (s ∷ [])) (decls_of (xs ++ s ∷ [])) (decls-append xs s)

pub attrs-append : (front : List RawAttribute) (s : RawAttribute) → attrs_of (front ++ s ∷ []) ≡ attrs_of front ++ attrs_of (s ∷ [])
attrs-append [] s = refl
attrs-append (x ∷ xs) s = or_cons (declares x.name) (raw_attribute_attr x) (attrs_of xs) (attrs_of (s ∷ [])) (attrs_of (xs ++ s ∷ [])) (attrs-append xs s)

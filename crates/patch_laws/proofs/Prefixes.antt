-- What is proper in the scope of its place means the same at an operation that declares that
-- scope's bindings.
use Rattle.std.proofs.Common.{◌≡◌, ◌≢◌, ℕ, Bool, true, false, cond, ◌&&◌, List, [], ◌∷◌, ◌++◌, Option, Some, None, IsSome, bytes_eq, refl, sym, ap, ◌∙◌, subst}
use Rattle.std.specs.List.{AllByRecursion, list_all}
use Rattle.std.specs.Option.{option_or}
use Rattle.std.proofs.lemmas.Slice.Eq.{bytes_eq-Decides}
use Rattle.xml_names.specs.declared.names.Name.{Name}
use Rattle.xml_names.specs.declared.names.Decl.{Decl}
use Rattle.xml_names.specs.declared.names.Attr.{Attr}
use Rattle.xml_names.specs.ExpandedNames.{ExpandedName, attr_name, element_name, same_expanded, same_uri}
use Rattle.xml_tree.specs.Proper.{IsProperAttr, IsProperName, IsProperTree}
use Rattle.xml_tree.specs.inner.Proper.{IsProperContent}
use Rattle.xml_names.specs.Scopes.{in_scope_bindings, bound_uri, declared_uri, scope_decls, non_empty_uri, xml_prefix, xml_uri}
use Rattle.xml_tree.specs.Tree.{Content, last, more, comment_node, Tree, content_of_children}
use Rattle.xml_names.proofs.BindingWords.{bound_uri-in_scope_bindings}
use Rattle.xml_tree.proofs.ScopesAlike.{bound_uri-inner}
use Rattle.patch_rules.specs.PatchOperations.{names_agree}
use Rattle.patch_laws.specs.Premises.{BindsAlike, scope_around_operations}

-- `BindsAlike` holds below an element's own declarations too
inner : (xml : Bool) (o x y : Option (List ℕ)) (p : List ℕ)
    → ((p ≢ [] → IsSome (cond xml (Some xml_uri) (non_empty_uri x))) → cond xml (Some xml_uri) (non_empty_uri x) ≡ cond xml (Some xml_uri) (non_empty_uri y))
    → (p ≢ [] → IsSome (cond xml (Some xml_uri) (non_empty_uri (option_or o x)))) → cond xml (Some xml_uri) (non_empty_uri (option_or o x)) ≡ cond xml (Some xml_uri) (non_empty_uri (option_or o y))
inner true o x y p f h = refl
inner false (Some u) x y p f h = refl
inner false None x y p f h = f h

pub Meets-inner : (c d : List (List Decl)) (ds : List Decl) → BindsAlike c d → BindsAlike (c ++ ds ∷ []) (d ++ ds ∷ [])
Meets-inner c d ds m p h =
    bound_uri-inner c ds p ∙ inner (bytes_eq p xml_prefix) (declared_uri ds p) (declared_uri (scope_decls c) p) (declared_uri (scope_decls d) p) p (m p) (λ ne. subst (λ o. IsSome o) (bound_uri-inner c ds p) (h ne))
    ∙ sym (bound_uri-inner d ds p)

-- ---- names

pub same_uri-refl : (o : Option (List ℕ)) → same_uri o o ≡ true
same_uri-refl None = refl
same_uri-refl (Some u) = (bytes_eq-Decides u u).1 refl

pub both : (a b : Bool) → a ≡ true → b ≡ true → (a && b) ≡ true
both a b h k = rw (h, k) refl

pub same_expanded-refl : (x y : ExpandedName) → x ≡ y → same_expanded x y ≡ true
same_expanded-refl x y e = subst (λ z. same_expanded x z ≡ true) e (both (same_uri x.uri x.uri) (bytes_eq x.local x.local) (same_uri-refl x.uri) ((bytes_eq-Decides x.local x.local).1 refl))

pub element_alike : (c d : List (List Decl)) (n : Name) → BindsAlike d c → IsProperName d n → element_name c n ≡ element_name d n
element_alike c d n m h = ap (λ o. record { uri = o; local = n.local }) (sym (m n.prefix h.known))

pub attr_alike : (c d : List (List Decl)) (n : Name) → BindsAlike d c → IsProperName d n → attr_name c n ≡ attr_name d n
attr_alike c d n m h = ap (λ o. record { uri = cond (bytes_eq n.prefix []) None o; local = n.local }) (sym (m n.prefix h.known))

attrs_alike : (c d : List (List Decl)) (ats : List Attr) → BindsAlike d c → AllByRecursion (IsProperAttr d) ats → list_all (λ a. same_expanded (attr_name c a.name) (attr_name d a.name)) ats ≡ true
attrs_alike c d [] m h = refl
attrs_alike c d (a ∷ ats) m h = both _ _ (same_expanded-refl (attr_name c a.name) (attr_name d a.name) (attr_alike c d a.name m h.0.named)) (attrs_alike c d ats m h.1)

-- c is the scope at the operation, d the scope of the place
pub names_agree-Proper : (c d : List (List Decl)) (k : Content) → BindsAlike d c → IsProperContent d k → names_agree c d k ≡ true
names_agree-Proper c d (last t) m h = refl
names_agree-Proper c d (more t n ds ats k rest) m h =
    let m' : BindsAlike (d ++ ds ∷ []) (c ++ ds ∷ []) = Meets-inner d c ds m in
    both _ _ (same_expanded-refl (element_name (c ++ ds ∷ []) n) (element_name (d ++ ds ∷ []) n) (element_alike (c ++ ds ∷ []) (d ++ ds ∷ []) n m' h.1.named))
    (both _ _ (attrs_alike (c ++ ds ∷ []) (d ++ ds ∷ []) ats m' h.1.attributes)
    (both _ _ (names_agree-Proper (c ++ ds ∷ []) (d ++ ds ∷ []) k m' h.2) (names_agree-Proper c d rest m h.3)))
names_agree-Proper c d (comment_node t x rest) m h = names_agree-Proper c d rest m h.2

pub alone_alike : (c d : List (List Decl)) (e : Tree) → BindsAlike d c → IsProperTree d e → names_agree c d (content_of_children (e ∷ [])) ≡ true
alone_alike c d e m h = names_agree-Proper c d (content_of_children (e ∷ [])) m (tt, h.0, h.1, tt)

-- ---- an operation in a diff document: the root binds one prefix, its document none, and the
-- operation what is bound at the place

told_alike : (xml : Bool) (o x : Option (List ℕ)) (d p uri : List ℕ) (b : Bool) → d ≢ [] → cond xml (Some xml_uri) (non_empty_uri o) ≡ x → (p ≢ [] → IsSome x) → bytes_eq d p ≡ b
    → x ≡ cond xml (Some xml_uri) (non_empty_uri (option_or o (cond b (Some uri) None)))
told_alike true o x d p uri b ne e h is = sym e
told_alike false (Some u) x d p uri b ne e h is = sym e
told_alike false None x d p uri false ne e h is = sym e
told_alike false None x d p uri true ne e h is =
    let same : d ≡ p = (bytes_eq-Decides d p).0 is in let some : IsSome x = h (λ z. ne (same ∙ z)) in absurd (cc)

pub Meets-told : (place : List (List Decl)) (d uri : List ℕ) → d ≢ [] → BindsAlike place (scope_around_operations d uri ++ in_scope_bindings place ∷ [])
Meets-told place d uri ne p h =
    told_alike (bytes_eq p xml_prefix) (declared_uri (scope_decls (in_scope_bindings place ∷ [])) p) (bound_uri place p) d p uri (bytes_eq d p) ne (bound_uri-in_scope_bindings place p) h refl

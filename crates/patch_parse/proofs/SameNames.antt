-- Names of one local part mean the same where their namespaces are equal.
use Rattle.std.proofs.Common.{◌≡◌, ℕ, true, false, cond, ◌&&◌, List, [], Option, None, bytes_eq, refl, sym, ap, ◌∙◌}
use Rattle.std.proofs.Math.Bool.{and-true}
use Rattle.std.specs.Cmp.Lexicographic.{bytes_decides}
use Rattle.xml_names.specs.ExpandedNames.{ExpandedName, attr_name, element_name, same_expanded, same_uri}
use Rattle.xml_names.specs.Scopes.{bound_uri}
use Rattle.xml_names.specs.declared.names.Decl.{Decl}
use Rattle.xml_names.specs.declared.names.Name.{Name}

abbrev named : Option (List ℕ) → List ℕ → ExpandedName
named u l = record { uri = u; local = l }

pub same_local : (u v : Option (List ℕ)) (l : List ℕ) → same_expanded (named u l) (named v l) ≡ same_uri u v
same_local u v l = ap (λ b. same_uri u v && b) ((bytes_decides l l).1 refl) ∙ and-true (same_uri u v)

pub same_elements : (c d : List (List Decl)) (n : Name) → same_expanded (element_name c n) (element_name d n) ≡ same_uri (bound_uri c n.prefix) (bound_uri d n.prefix)
same_elements c d n = same_local (bound_uri c n.prefix) (bound_uri d n.prefix) n.local

pub same_attrs : (c d : List (List Decl)) (n : Name) → same_expanded (attr_name c n) (attr_name d n) ≡ same_uri (attr_name c n).uri (attr_name d n).uri
same_attrs c d n = same_local (attr_name c n).uri (attr_name d n).uri n.local

-- an attribute without prefix has no namespace anywhere; with a prefix it means what an element of
-- its name does
pub plain_same : (c d : List (List Decl)) (n : Name) → bytes_eq n.prefix [] ≡ true → same_expanded (attr_name c n) (attr_name d n) ≡ true
plain_same c d n plain =
    same_attrs c d n ∙ (λ i. same_uri (cond (plain i) None (bound_uri c n.prefix)) (cond (plain i) None (bound_uri d n.prefix)))

pub prefixed_same : (c d : List (List Decl)) (n : Name) → bytes_eq n.prefix [] ≡ false → same_expanded (attr_name c n) (attr_name d n) ≡ same_expanded (element_name c n) (element_name d n)
prefixed_same c d n prefixed =
    same_attrs c d n ∙ (λ i. same_uri (cond (prefixed i) None (bound_uri c n.prefix)) (cond (prefixed i) None (bound_uri d n.prefix))) ∙ sym (same_elements c d n)

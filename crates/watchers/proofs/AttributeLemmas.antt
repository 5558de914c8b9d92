-- Attributes that exist.
use Rattle.std.proofs.Common.{◌≡◌, Bool, List, [], ◌∷◌, ◌||◌, ℕ, Some, is_some, if◌then◌else◌, refl, sym, ap, ◌∙◌, ⊎_elim}
use Rattle.std.proofs.lemmas.Bool.{cases_Bool}
use Rattle.std.specs.List.{find, list_any}
use Rattle.std.specs.Option.{option_and_then}
use Rattle.xml_tree.specs.Edits.{attr_at}
use Rattle.xml_tree.specs.Tree.{Tree, at}
use Rattle.xml_names.specs.declared.names.Name.{Name}
use Rattle.xml_names.specs.Attributes.{has_qname as is_named}

any_found : {A : Type 0} (test : A → Bool) (xs : List A) → list_any test xs ≡ is_some (find test xs)
any_found test [] = refl
any_found test (x ∷ xs) =
    ⊎_elim
    (λ h. ap (λ t. t || list_any test xs) h ∙ sym (ap (λ t. is_some (if t then Some x else find test xs)) h))
    (λ h. ap (λ t. t || list_any test xs) h ∙ any_found test xs ∙ sym (ap (λ t. is_some (if t then Some x else find test xs)) h))
    (cases_Bool (test x))

-- whether an element has an attribute of this name
pub names_there : (p : List ℕ) (n : Name) (t e : Tree) (b : Bool) → at p t ≡ Some e → b ≡ list_any (is_named n) e.attrs → b ≡ is_some (attr_at p n t)
names_there p n t e b there is = is ∙ any_found (is_named n) e.attrs ∙ sym (ap (λ o. is_some (option_and_then (λ (x : Tree). find (is_named n) x.attrs) o)) there)

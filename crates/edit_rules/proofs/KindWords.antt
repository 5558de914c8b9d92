-- A kind's name determines the kind.
use Rattle.std.proofs.Common.{◌≡◌, ℕ, Bool, true, false, cond, List, [], ◌∷◌, find, Option, None, Some, codes, refl, sym, ap, ◌∙◌}
use Rattle.std.specs.Str.{bytes_eq}
use Rattle.std.proofs.lemmas.Slice.Eq.{bytes_eq-Decides}
use Rattle.std.proofs.lemmas.Option.{same_Some}
use Rattle.std.specs.Prelude.{filter_map}
use Rattle.std.specs.List.{flat_map}
use Rattle.xml_names.specs.declared.names.Name.{Name}
use Rattle.usage_docs.specs.declared.schema_table.ElementKind.{ElementKind}
use Rattle.usage_docs.specs.declared.schema_table.ElementKind.TheVariants.{ResourceLists, EntryList, Entry, EntryRef, External, DisplayName, RlsServices, Service, ResourceList, Packages, Package}
use Rattle.usage_docs.specs.SchemaTable.{Scope, child_kind, item_children, items_in, kind_by_name, known_kind, kind_of, content_model_of, namespace_of_children, element_namespace, local_name_of}

-- the kind of that local name
abbrev word_kind : List ℕ → Option ElementKind
word_kind w =
    cond (bytes_eq w (codes "list")) (Some EntryList)
    (cond (bytes_eq w (codes "entry")) (Some Entry)
    (cond (bytes_eq w (codes "entry-ref")) (Some EntryRef)
    (cond (bytes_eq w (codes "external")) (Some External)
    (cond (bytes_eq w (codes "display-name")) (Some DisplayName)
    (cond (bytes_eq w (codes "service")) (Some Service)
    (cond (bytes_eq w (codes "resource-list")) (Some ResourceList)
    (cond (bytes_eq w (codes "packages")) (Some Packages)
    (cond (bytes_eq w (codes "package")) (Some Package)
    (cond (bytes_eq w (codes "resource-lists")) (Some ResourceLists)
    (cond (bytes_eq w (codes "rls-services")) (Some RlsServices) None))))))))))

-- a kind that is found by a local name has that local name
found_so : (w : List ℕ) (ks : List ElementKind) (k : ElementKind) → find (λ kind. bytes_eq w (local_name_of kind)) ks ≡ Some k → w ≡ local_name_of k
found_so w [] k h = cc
found_so w (x ∷ ks) k h = by (bytes_eq w (local_name_of x)) refl (found_so w ks k) h
  where
    by : (b : Bool) → bytes_eq w (local_name_of x) ≡ b → (find (λ kind. bytes_eq w (local_name_of kind)) ks ≡ Some k → w ≡ local_name_of k) → cond b (Some x) (find (λ kind. bytes_eq w (local_name_of kind)) ks) ≡ Some k → w ≡ local_name_of k
    by true e below g = (bytes_eq-Decides w (local_name_of x)).0 e ∙ ap local_name_of (same_Some x k g)
    by false e below g = below g

-- a child of a kind has the kind's local name
pub named_as : (row : ElementKind) (w : List ℕ) (k : ElementKind) → child_kind row w ≡ Some k → w ≡ local_name_of k
unfolding child_kind
named_as row w k h = found_so w (filter_map known_kind (flat_map item_children (items_in (content_model_of row)))) k h

its_kind : (k : ElementKind) → word_kind (local_name_of k) ≡ Some k
unfolding local_name_of
its_kind EntryList = refl
its_kind Entry = refl
its_kind EntryRef = refl
its_kind External = refl
its_kind DisplayName = refl
its_kind Service = refl
its_kind ResourceList = refl
its_kind Packages = refl
its_kind Package = refl
its_kind ResourceLists = refl
its_kind RlsServices = refl

-- ---- names in a namespace

if_so : (b : Bool) (o : Option ElementKind) (k : ElementKind) → cond b o None ≡ Some k → (b ≡ true) × (o ≡ Some k)
if_so true o k h = (refl, h)
if_so false o k h = cc

pub in_space : (row : ElementKind) (space w : List ℕ) (k : ElementKind) → kind_by_name row space w ≡ Some k → (space ≡ namespace_of_children row) × (child_kind row w ≡ Some k)
in_space row space w k h = let r = if_so (bytes_eq space (namespace_of_children row)) (child_kind row w) k h in ((bytes_eq-Decides space (namespace_of_children row)).0 r.0, r.1)

-- a name is the name of one kind, below elements of any kinds
pub one_kind : (row row' : ElementKind) (space w : List ℕ) (k k' : ElementKind) → kind_by_name row space w ≡ Some k → kind_by_name row' space w ≡ Some k' → k ≡ k'
one_kind row row' space w k k' h h' =
    let a = (in_space row space w k h).1 in
    let b = (in_space row' space w k' h').1 in
    same_Some k k' (sym (its_kind k) ∙ ap word_kind (sym (named_as row w k a) ∙ named_as row' w k' b) ∙ its_kind k')

-- one kind below one kind has one name
pub one_name : (row : ElementKind) (space w space' w' : List ℕ) (k : ElementKind) → kind_by_name row space w ≡ Some k → kind_by_name row space' w' ≡ Some k → (space ≡ space') × (w ≡ w')
one_name row space w space' w' k h h' =
    let a = in_space row space w k h in
    let b = in_space row space' w' k h' in
    (a.0 ∙ sym b.0, named_as row w k a.1 ∙ sym (named_as row w' k b.1))

pub kind_is_by : (row : ElementKind) (c : Scope) (n : Name) → kind_of row c n ≡ kind_by_name row (element_namespace c n) n.local
unfolding kind_of
kind_is_by row c n = refl

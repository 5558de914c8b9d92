-- An element without references, whose addresses are collected, need not be walked again: that
-- would collect nothing more.
use Rattle.std.proofs.Common.{◌≡◌, ℕ, Bool, true, false, cond, ◌||◌, List, [], ◌∷◌, ◌++◌, Option, None, Some, refl, sym, ap, subst, ◌∙◌, arith}
use Rattle.std.specs.List.{AllByRecursion, list_any}
use Rattle.std.proofs.lemmas.Option.{same_Some}
use Rattle.std.specs.Option.{ForSome, option_map_or}
use Rattle.std.specs.Str.{bytes_eq}
use Rattle.std.specs.Cmp.Lexicographic.{bytes_decides}
use Rattle.xml_tree.specs.Tree.{Content, Tree, last, more, comment_node, tree_of}
use Rattle.usage_docs.specs.declared.schema_table.ElementKind.{ElementKind}
use Rattle.usage_docs.specs.declared.schema_table.ElementKind.TheVariants.{ResourceLists, EntryList, Entry, EntryRef, External, DisplayName, RlsServices, Service, ResourceList, Packages, Package}
use Rattle.usage_docs.specs.SchemaTable.{Scope, kind_of}
use Rattle.list_resolve.specs.declared.document_place.Place.{Place}
use Rattle.list_resolve.specs.declared.reference.Reference.{Reference}
use Rattle.list_resolve.specs.References.{reference_of}
use Rattle.list_resolve.specs.ElementPlaces.{same_place, contains_place}
use Rattle.list_resolve.specs.ScopedElements.{ScopedElement}
use Rattle.list_resolve.specs.Resolution.{ResolutionContext}
use Rattle.list_resolve.specs.Walks.{Item, address, mark, kind_items, scoped_element_items, content_items}
use Rattle.list_resolve.specs.inner.WalkStates.{Tally, CollectorState, with_collected_item, with_item, with_items}
use Rattle.list_resolve.specs.inner.SkippedElements.{AreCollectedItems, IsFullyCollected, HasSoundPlaces, own_items, scoped_element_at}
use Rattle.list_resolve.specs.inner.PlaceTests.{place_exact}
use Rattle.list_resolve.proofs.Walks.{marks_rise, reference_items}

-- ---- addresses stay

any_front : (uri : List ℕ) (xs : List (List ℕ)) (x : List ℕ) → list_any (bytes_eq uri) xs ≡ true → list_any (bytes_eq uri) (xs ++ x ∷ []) ≡ true
any_front uri [] x h = absurd cc
any_front uri (y ∷ xs) x h = grind (arith, any_front uri xs x)

any_last : (uri : List ℕ) (xs : List (List ℕ)) → list_any (bytes_eq uri) (xs ++ uri ∷ []) ≡ true
any_last uri [] = let same = (bytes_decides uri uri).1 refl in rw same refl
any_last uri (y ∷ xs) = let rest = any_last uri xs in grind arith

stays_by : (uri new : List ℕ) (uris : List (List ℕ)) (b : Bool) → list_any (bytes_eq uri) uris ≡ true → list_any (bytes_eq uri) (cond b uris (uris ++ new ∷ [])) ≡ true
stays_by uri new uris true h = h
stays_by uri new uris false h = any_front uri uris new h

stays : (uri : List ℕ) (s : Tally) (i : Item) → list_any (bytes_eq uri) s.uris ≡ true → list_any (bytes_eq uri) (with_item s i).uris ≡ true
stays uri s (address new) h = stays_by uri new s.uris (list_any (bytes_eq new) s.uris) h
stays uri s mark h = h

stays_through : (uri : List ℕ) (items : List Item) (s : Tally) → list_any (bytes_eq uri) s.uris ≡ true → list_any (bytes_eq uri) (with_items s items).uris ≡ true
stays_through uri [] s h = h
stays_through uri (i ∷ items) s h = stays_through uri items (with_item s i) (stays uri s i h)

comes_by : (uri : List ℕ) (uris : List (List ℕ)) (b : Bool) → list_any (bytes_eq uri) uris ≡ b → list_any (bytes_eq uri) (cond b uris (uris ++ uri ∷ [])) ≡ true
comes_by uri uris true h = h
comes_by uri uris false h = any_last uri uris

comes : (uri : List ℕ) (s : Tally) → list_any (bytes_eq uri) (with_item s (address uri)).uris ≡ true
comes uri s = comes_by uri s.uris (list_any (bytes_eq uri) s.uris) refl

-- ---- what is collected stays so, and collecting it again changes nothing

still : (items : List Item) (uris more_uris : List (List ℕ)) → ((uri : List ℕ) → list_any (bytes_eq uri) uris ≡ true → list_any (bytes_eq uri) more_uris ≡ true)
    → AreCollectedItems uris items → AreCollectedItems more_uris items
still [] uris more_uris grow h = tt
still (address uri ∷ items) uris more_uris grow h = (grow uri h.0, still items uris more_uris grow h.1)
still (mark ∷ items) uris more_uris grow h = absurd h.0

again_by : (uri : List ℕ) (s : Tally) (b : Bool) → b ≡ true → record { uris = cond b s.uris (s.uris ++ uri ∷ []); marks = s.marks } ≡ s
again_by uri s true h = refl
again_by uri s false h = absurd cc

again : (uri : List ℕ) (s : Tally) → list_any (bytes_eq uri) s.uris ≡ true → with_item s (address uri) ≡ s
again uri s h = again_by uri s (list_any (bytes_eq uri) s.uris) h

pub nothing_more : (items : List Item) (s : Tally) → AreCollectedItems s.uris items → with_items s items ≡ s
nothing_more [] s h = refl
nothing_more (address uri ∷ items) s h = ap (λ (x : Tally). with_items x items) (again uri s h.0) ∙ nothing_more items s h.1
nothing_more (mark ∷ items) s h = absurd h.0

-- what was collected without a reference is collected
pub gathered_now : (items : List Item) (s : Tally) → (with_items s items).marks ≡ s.marks → AreCollectedItems (with_items s items).uris items
gathered_now [] s h = tt
gathered_now (address uri ∷ items) s h = (stays_through uri items (with_item s (address uri)) (comes uri s), gathered_now items (with_item s (address uri)) h)
gathered_now (mark ∷ items) s h = let rise = marks_rise items (with_item s mark) in absurd (omega arith)

-- ---- without references it doesn't matter what comes after one

-- what a child gives, if it has an element kind
abbrev given_if : (Reference → List Item) → List ℕ → Option ElementKind → Tree → List Item → List Item
given_if behind root found e items = option_map_or (λ kind. kind_items behind root kind e items) found []

module _ (one other : Reference → List Item) (root : List ℕ) (uris : List (List ℕ)) where
  unreferred : (r : Option Reference) → AreCollectedItems uris (reference_items one r) → reference_items one r ≡ reference_items other r
  unreferred None h = refl
  unreferred (Some r) h = absurd h.0

  given_alike : (kind : ElementKind) (e : Tree) (items others : List Item) → (AreCollectedItems uris items → items ≡ others)
      → AreCollectedItems uris (kind_items one root kind e items) → kind_items one root kind e items ≡ kind_items other root kind e others
  given_alike Entry e items others same h = refl
  given_alike EntryList e items others same h = same h
  given_alike EntryRef e items others same h = unreferred (reference_of root EntryRef e.attrs e.content) h
  given_alike External e items others same h = unreferred (reference_of root External e.attrs e.content) h
  given_alike ResourceList e items others same h = unreferred (reference_of root ResourceList e.attrs e.content) h
  given_alike ResourceLists e items others same h = refl
  given_alike DisplayName e items others same h = refl
  given_alike RlsServices e items others same h = refl
  given_alike Service e items others same h = refl
  given_alike Packages e items others same h = refl
  given_alike Package e items others same h = refl

  given_if_alike : (kind : Option ElementKind) (e : Tree) (items others : List Item) → (AreCollectedItems uris items → items ≡ others)
      → AreCollectedItems uris (given_if one root kind e items) → given_if one root kind e items ≡ given_if other root kind e others
  given_if_alike None e items others same h = refl
  given_if_alike (Some kind) e items others same h = given_alike kind e items others same h

  both_gathered : (items more_items : List Item) → AreCollectedItems uris (items ++ more_items) → AreCollectedItems uris items × AreCollectedItems uris more_items
  both_gathered [] more_items h = (tt, h)
  both_gathered (i ∷ items) more_items h = let rest = both_gathered items more_items h.1 in ((h.0, rest.0), rest.1)

  walked_alike : (row : ElementKind) (c : Scope) (k : Content) → AreCollectedItems uris (content_items one root row c k) → content_items one root row c k ≡ content_items other root row c k
  walked_alike row c (last t) h = refl
  walked_alike row c (comment_node t x rest) h = walked_alike row c rest h
  walked_alike row c (more t n ds ats k rest) h =
      let kind = kind_of row (c ++ ds ∷ []) n in
      let inner = content_items one root EntryList (c ++ ds ∷ []) k in
      let parts = both_gathered (given_if one root kind (tree_of n ds ats k) inner) (content_items one root row c rest) h in
      let first = given_if_alike kind (tree_of n ds ats k) inner (content_items other root EntryList (c ++ ds ∷ []) k) (walked_alike EntryList (c ++ ds ∷ []) k) parts.0 in
      ap (λ xs. xs ++ content_items one root row c rest) first
      ∙ ap (λ xs. given_if other root kind (tree_of n ds ats k) (content_items other root EntryList (c ++ ds ∷ []) k) ++ xs) (walked_alike row c rest parts.1)

  spot_alike : (s : ScopedElement) → AreCollectedItems uris (scoped_element_items one root s) → scoped_element_items one root s ≡ scoped_element_items other root s
  spot_alike s h =
      given_alike s.kind s.element (content_items one root EntryList s.scope s.element.content) (content_items other root EntryList s.scope s.element.content)
      (walked_alike EntryList s.scope s.element.content) h

for_some : (A : Type 0) (P : A → Type 0) (o : Option A) (x : A) → o ≡ Some x → ForSome o P → P x
for_some A P o x e h = h x e

some_for : (A : Type 0) (P : A → Type 0) (o : Option A) (x : A) → o ≡ Some x → P x → ForSome o P
some_for A P o x e h = λ y is. subst P (same_Some x y (sym e ∙ is)) h

-- an element at a recorded place gives nothing more
pub passed_gives : (behind : Reference → List Item) (g : ResolutionContext) (s : Tally) (p : Place) (scoped_element : ScopedElement) → scoped_element_at g p ≡ Some scoped_element → IsFullyCollected g s.uris p
    → with_items s (scoped_element_items behind g.root scoped_element) ≡ s
passed_gives behind g s p scoped_element at h =
    let own : AreCollectedItems s.uris (own_items g.root scoped_element) = for_some ScopedElement (λ x. AreCollectedItems s.uris (own_items g.root x)) (scoped_element_at g p) scoped_element at h in
    ap (with_items s) (sym (spot_alike (λ r. []) behind g.root s.uris scoped_element own)) ∙ nothing_more (own_items g.root scoped_element) s own

-- an element that gave no reference may be recorded
pub is_passed : (behind : Reference → List Item) (g : ResolutionContext) (s new : Tally) (p : Place) (scoped_element : ScopedElement) → scoped_element_at g p ≡ Some scoped_element
    → new ≡ with_items s (scoped_element_items behind g.root scoped_element) → new.marks ≡ s.marks → IsFullyCollected g new.uris p
is_passed behind g s new p scoped_element at e same =
    let items = scoped_element_items behind g.root scoped_element in
    let count : (with_items s items).marks ≡ s.marks = ap (λ (x : Tally). x.marks) (sym e) ∙ same in
    let all : AreCollectedItems new.uris items = subst (λ (x : Tally). AreCollectedItems x.uris items) (sym e) (gathered_now items s count) in
    let own : AreCollectedItems new.uris (own_items g.root scoped_element) = subst (AreCollectedItems new.uris) (spot_alike behind (λ r. []) g.root new.uris scoped_element all) all in
    some_for ScopedElement (λ x. AreCollectedItems new.uris (own_items g.root x)) (scoped_element_at g p) scoped_element at own

-- ---- all recorded places

still_passed : (g : ResolutionContext) (uris more_uris : List (List ℕ)) (o : Option ScopedElement) → ((uri : List ℕ) → list_any (bytes_eq uri) uris ≡ true → list_any (bytes_eq uri) more_uris ≡ true)
    → ForSome o (λ s. AreCollectedItems uris (own_items g.root s)) → ForSome o (λ s. AreCollectedItems more_uris (own_items g.root s))
still_passed g uris more_uris o grow h = λ s is. still (own_items g.root s) uris more_uris grow (h s is)

all_still : (g : ResolutionContext) (uris more_uris : List (List ℕ)) (ps : List Place) → ((uri : List ℕ) → list_any (bytes_eq uri) uris ≡ true → list_any (bytes_eq uri) more_uris ≡ true)
    → AllByRecursion (IsFullyCollected g uris) ps → AllByRecursion (IsFullyCollected g more_uris) ps
all_still g uris more_uris [] grow h = tt
all_still g uris more_uris (p ∷ ps) grow h = (still_passed g uris more_uris (scoped_element_at g p) grow h.0, all_still g uris more_uris ps grow h.1)

-- one more item leaves them so
pub sound_with : (g : ResolutionContext) (s : CollectorState) (i : Item) → HasSoundPlaces g s → HasSoundPlaces g (with_collected_item s i)
sound_with g s i h = all_still g s.tally.uris (with_item s.tally i).uris s.passed (λ uri there. stays uri s.tally i there) h

one_of_by : (P : Place → Type 0) (p q : Place) (ps : List Place) (b : Bool) → same_place p q ≡ b → ((list_any (same_place p) ps ≡ true) → P p) → (b || list_any (same_place p) ps) ≡ true → P q → P p
one_of_by P p q ps true e rest h x = subst P (sym (place_exact p q e)) x
one_of_by P p q ps false e rest h x = rest h

one_of : (P : Place → Type 0) (p : Place) (ps : List Place) → list_any (same_place p) ps ≡ true → AllByRecursion P ps → P p
one_of P p [] h all = absurd cc
one_of P p (q ∷ ps) h all = one_of_by P p q ps (same_place p q) refl (λ t. one_of P p ps t all.1) h all.0

-- a place among them is recorded
pub passed_there : (g : ResolutionContext) (s : CollectorState) (p : Place) → contains_place s.passed p ≡ true → HasSoundPlaces g s → IsFullyCollected g s.tally.uris p
passed_there g s p h sound = one_of (IsFullyCollected g s.tally.uris) p s.passed h sound

-- ---- what the code collects

-- an entry gives its address
abbrev entry_items : Option (List ℕ) → List Item
entry_items found = option_map_or (λ uri. address uri ∷ []) found []

pub entry_gathered : (g : ResolutionContext) (uri : List ℕ) (o : Option (List ℕ)) (old new : CollectorState) → Some uri ≡ o → new ≡ with_collected_item old (address uri) → HasSoundPlaces g old
    → (new.tally ≡ with_items old.tally (entry_items o)) × HasSoundPlaces g new
entry_gathered g uri o old new e h sound = (
  subst (λ (x : Option (List ℕ)). new.tally ≡ with_items old.tally (entry_items x)) e (ap (λ (x : CollectorState). x.tally) h),
  subst (HasSoundPlaces g) (sym h) (sound_with g old (address uri) sound),
)

-- a recorded place
pub once_passed : (behind : Reference → List Item) (g : ResolutionContext) (old : CollectorState) (p : Place) (scoped_element : ScopedElement) → scoped_element_at g p ≡ Some scoped_element → contains_place old.passed p ≡ true → HasSoundPlaces g old
    → (old.tally ≡ with_items old.tally (scoped_element_items behind g.root scoped_element)) × HasSoundPlaces g old
once_passed behind g old p scoped_element at on sound = (sym (passed_gives behind g old.tally p scoped_element at (passed_there g old p on sound)), sound)

-- What was collected of a walk is its flat list.
use Rattle.std.proofs.Common.{◌≡◌, ◌≤◌, ◌<◌, ◌+◌, ℕ, true, false, nat_lt, cond, List, [], ◌∷◌, fold, filter_map, count_by, Result, Ok, Err, IsErrAnd, subst, refl, sym, ap, ◌∙◌, arith}
use Rattle.std.proofs.lemmas.Grind.{common_steps}
use Rattle.list_resolve.specs.declared.fault.FlatFault.TheVariants.{NoService, TooWide, TooLarge}
use Rattle.xml_names.specs.declared.read_error.ReadError.TheVariants.{Fault, NoMemory}
use Rattle.xml_names.specs.ReadErrors.{ResultSatisfies}
use Rattle.list_resolve.specs.Walks.{Item, address, mark}
use Rattle.list_resolve.specs.declared.uri_collector.TheConstants.{MARK_LIMIT}
use Rattle.list_resolve.specs.FlatLists.{item_address, is_mark, with_address, flat_list_of}
use Rattle.list_resolve.specs.inner.WalkStates.{FlatError, Tally, IsWalkFault, empty_tally, with_item, with_items}

-- the addresses of a walk, in order, and the number of references that it met
abbrev addresses : List Item → List (List ℕ)
addresses items = filter_map item_address items

abbrev marks : List Item → ℕ
marks items = count_by is_mark items

uris_are : (items : List Item) (s : Tally) → (with_items s items).uris ≡ fold with_address s.uris (addresses items)
uris_are [] s = refl
uris_are (address uri ∷ items) s = uris_are items (with_item s (address uri))
uris_are (mark ∷ items) s = uris_are items (with_item s mark)

marks_from : (items : List Item) (s : Tally) (n : ℕ) → s.marks ≡ n → (with_items s items).marks ≡ fold (λ a x. a + cond (is_mark x) 1 0) n items
marks_from [] s n h = h
marks_from (address uri ∷ items) s n h = marks_from items (with_item s (address uri)) (n + 0) (omega arith)
marks_from (mark ∷ items) s n h = marks_from items (with_item s mark) (n + 1) (omega arith)

marks_are : (items : List Item) → (with_items empty_tally items).marks ≡ marks items
marks_are items = marks_from items empty_tally 0 refl

within : (n : ℕ) → n ≤ MARK_LIMIT → nat_lt MARK_LIMIT n ≡ false
within n le = grind (arith, common_steps)

beyond : (n : ℕ) → MARK_LIMIT < n → nat_lt MARK_LIMIT n ≡ true
beyond n lt = grind (arith, common_steps)

pub flat_is : (items : List Item) (s : Tally) → s ≡ with_items empty_tally items → s.marks ≤ MARK_LIMIT → flat_list_of items ≡ Ok s.uris
flat_is items s e le =
    let same : s.marks ≡ marks items = ap (λ g. g.marks) e ∙ marks_are items in
    let few : nat_lt MARK_LIMIT (marks items) ≡ false = within (marks items) (omega arith) in
    let all : s.uris ≡ fold with_address [] (addresses items) = ap (λ g. g.uris) e ∙ uris_are items empty_tally in
    rw few (ap Ok (sym all))

pub wide_is : (items : List Item) → MARK_LIMIT < (with_items empty_tally items).marks → flat_list_of items ≡ Err TooWide
wide_is items lt =
    let same : (with_items empty_tally items).marks ≡ marks items = marks_are items in
    rw (beyond (marks items) (omega arith)) refl

fails_is : (items : List Item) (error : FlatError) → IsWalkFault items empty_tally error → ResultSatisfies {A = List (List ℕ)} (λ answer. answer ≡ flat_list_of items) (Err error)
fails_is items (Fault NoService) h = absurd h
fails_is items (Fault TooWide) h = sym (wide_is items h)
fails_is items (Fault (TooLarge len)) h = absurd h
fails_is items NoMemory h = tt

pub fails_are : (r : Result (List (List ℕ)) FlatError) (items : List Item) (s : Tally) (error : FlatError)
    → s ≡ empty_tally → IsErrAnd r (λ e. e ≡ error) → IsWalkFault items s error → ResultSatisfies (λ answer. answer ≡ flat_list_of items) r
fails_are (Ok x) items s error e h f = absurd h
fails_are (Err other) items s error e h f =
    fails_is items other (subst (λ (x : FlatError). IsWalkFault items empty_tally x) (sym h) (subst (λ (x : Tally). IsWalkFault items x error) e f))

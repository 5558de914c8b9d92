-- Change records that lead from one version to another, and one more record.
use Rattle.std.proofs.Common.{◌≡◌, ℕ, suc, ◌<◌, List, [], ◌∷◌, ◌++◌, reverse, Option, None, Some, slice_get, refl, sym, ap, ◌∙◌, subst}
use Rattle.std.proofs.lemmas.List.{reverse-append}
use Rattle.std.specs.List.{AllByRecursion, filter_map}
use Rattle.xml_tree.specs.Tree.{Tree}
use Rattle.edit_ops.specs.Changes.{FitsTree, edited}
use Rattle.edit_ops.specs.Notes.{AreNotesOf, Note, note_of, tag_after, tree_after}
use Rattle.doc_names.specs.declared.usages.Usage.{Usage}
use Rattle.store_core.specs.ValidStates.{AreSuccessiveVersions, IsSoundDocumentFor}
use Rattle.store_core.specs.State.{Version}
use Rattle.store_core.specs.History.{TreesAreSound, RecordsLeadBetween}

-- ---- one more record

notes_more : (tag : ℕ) (t : Tree) (ns : List Note) (n : Note) → AreNotesOf tag t ns → FitsTree (tree_after t ns) n.change → n ≡ note_of (tag_after tag ns) n.next (tree_after t ns) n.change → AreNotesOf tag t (ns ++ n ∷ [])
notes_more tag t [] n h fits is = (fits, is, tt)
notes_more tag t (x ∷ ns) n h fits is = (h.0, h.1, notes_more x.next (edited t x.change) ns n h.2 fits is)

tree_more : (t : Tree) (ns : List Note) (n : Note) → tree_after t (ns ++ n ∷ []) ≡ edited (tree_after t ns) n.change
tree_more t [] n = refl
tree_more t (x ∷ ns) n = tree_more (edited t x.change) ns n

tag_more : (tag : ℕ) (ns : List Note) (n : Note) → tag_after tag (ns ++ n ∷ []) ≡ n.next
tag_more tag [] n = refl
tag_more tag (x ∷ ns) n = tag_more x.next ns n

sound_more : (usage : Option Usage) (t : Tree) (ns : List Note) (n : Note) → TreesAreSound usage t ns → IsSoundDocumentFor usage (edited (tree_after t ns) n.change) → TreesAreSound usage t (ns ++ n ∷ [])
sound_more usage t [] n h g = (h, g)
sound_more usage t (x ∷ ns) n h g = (h.0, sound_more usage (edited t x.change) ns n h.1 g)

tags_more : (next : ℕ) (ns : List Note) (n : Note) → AllByRecursion (λ x. x.next < next) ns → n.next < next → AllByRecursion (λ x. x.next < next) (ns ++ n ∷ [])
tags_more next [] n h g = (g, tt)
tags_more next (x ∷ ns) n h g = (h.0, tags_more next ns n h.1 g)

leads_more : (usage : Option Usage) (next : ℕ) (from w v : Version) (ns : List Note) (n : Note) → RecordsLeadBetween usage next from ns w → FitsTree w.tree n.change → v.tree ≡ edited w.tree n.change → n ≡ note_of w.tag v.tag w.tree n.change → IsSoundDocumentFor usage v.tree → v.tag < next
    → RecordsLeadBetween usage next from (ns ++ n ∷ []) v
leads_more usage next from w v ns n h fits made is sound low =
    let tagged : n.next ≡ v.tag = ap (λ (x : Note). x.next) is in
    let is' : n ≡ note_of (tag_after from.tag ns) n.next (tree_after from.tree ns) n.change = is ∙ (λ i. note_of (sym h.tag i) (sym tagged i) (sym h.tree i) n.change) in
    let here : edited (tree_after from.tree ns) n.change ≡ v.tree = ap (λ t. edited t n.change) h.tree ∙ sym made in record {
      notes = notes_more from.tag from.tree ns n h.notes (subst (λ t. FitsTree t n.change) (sym h.tree) fits) is';
      tree = tree_more from.tree ns n ∙ here;
      tag = tag_more from.tag ns n ∙ tagged;
      sound = sound_more usage from.tree ns n h.sound (subst (IsSoundDocumentFor usage) (sym here) sound);
      first = h.first;
      tags = tags_more next ns n h.tags (subst (λ k. k < next) (sym tagged) low);
    }

-- ---- the versions of a document, newest first

-- a version with its number
pub record Reached (usage : Option Usage) (next : ℕ) (vs : List Version) (ns : List Note) (to : Version) : Type 0 where
  pub from : Version
  pub number : ℕ
  pub there : slice_get vs number ≡ Some from
  pub leads : RecordsLeadBetween usage next from ns to

abbrev pub notes_of : List Version → List Note
notes_of vs = filter_map (λ v. v.note) vs

none_noted : (v : Version) (vs : List Version) → v.note ≡ None → notes_of (v ∷ vs) ≡ notes_of vs
none_noted v vs is = rw is refl

some_noted : (v : Version) (vs : List Version) (n : Note) → v.note ≡ Some n → notes_of (v ∷ vs) ≡ n ∷ notes_of vs
some_noted v vs n is = rw is refl

heads : {A : Type 0} (x y : A) (xs ys : List A) → x ∷ xs ≡ y ∷ ys → (x ≡ y) × (xs ≡ ys)
heads x y xs ys h = (cc, cc)

start : (usage : Option Usage) (next : ℕ) (v : Version) → IsSoundDocumentFor usage v.tree → v.tag < next → RecordsLeadBetween usage next v [] v
start usage next v sound low = record { notes = tt; tree = refl; tag = refl; sound = sound; first = low; tags = tt }

-- the first of these records lead from some version to the newest one
pub reached : (usage : Option Usage) (next : ℕ) (v : Version) (ws : List Version) (front back : List Note) → AllByRecursion (λ x. IsSoundDocumentFor usage x.tree) (v ∷ ws) → AllByRecursion (λ x. x.tag < next) (v ∷ ws) → AreSuccessiveVersions v ws
    → notes_of (v ∷ ws) ≡ front ++ back → Reached usage next (v ∷ ws) (reverse front) v
reached usage next v ws [] back sound low f is = record { from = v; number = 0; there = refl; leads = start usage next v sound.0 low.0 }
reached usage next v [] (n ∷ front) back sound low f is = absurd (let z : [] ≡ n ∷ (front ++ back) = sym (none_noted v [] f) ∙ is in cc)
reached usage next v (w ∷ ws) (n ∷ front) back sound low f is =
    let k = f.0 in
    let both = heads k.0 n (notes_of (w ∷ ws)) (front ++ back) (sym (some_noted v (w ∷ ws) k.0 k.1) ∙ is) in
    let r = reached usage next w ws front back sound.1 low.1 f.2 both.1 in
    let more = leads_more usage next r.from w v (reverse front) k.0 r.leads k.2 k.3 k.4 sound.0 low.0 in
    let turned : reverse front ++ k.0 ∷ [] ≡ reverse (n ∷ front) = ap (λ x. reverse front ++ x ∷ []) both.0 ∙ sym (reverse-append (n ∷ []) front) in
    record { from = r.from; number = suc r.number; there = r.there; leads = subst (λ l. RecordsLeadBetween usage next r.from l v) turned more }

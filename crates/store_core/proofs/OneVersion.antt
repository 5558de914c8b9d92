-- A document without change records has one version.
use Rattle.std.proofs.Common.{◌≡◌, ◌≢◌, ℕ, Bool, true, false, cond, List, [], ◌∷◌, ◌++◌, map, reverse, Option, refl, sym, ap, subst, ◌∙◌}
use Rattle.std.specs.List.{AllByRecursion, cons_option, flat_map}
use Rattle.std.proofs.lemmas.List.{reverse-append}
use Rattle.edit_ops.specs.Notes.{Note}
use Rattle.edit_ops.specs.DiffOperations.{weight}
use Rattle.store_core.specs.State.{Document, Version, is_within_retention, longest_retained_end, retained_notes, versions}
use Rattle.store_core.specs.Contents.{stored_document}
use Rattle.store_core.specs.ValidStates.{AreSuccessiveVersions, IsValidHistory}
use Rattle.store_core.proofs.Chains.{notes_of}
use Rattle.store_core.proofs.DistinctItems.{each-append, each-right}

-- ---- a list that isn't empty has an end that is retained

module _ {A : Type 0} (heavy : A → ℕ) where
  by_test : (b : Bool) (x : A) (longer shorter : List A) → (shorter ≡ [] → ⊥) → cond b (x ∷ longer) shorter ≡ [] → ⊥
  by_test true x longer shorter some h = cc
  by_test false x longer shorter some h = some h

  pub end_is_some : (xs : List A) (x : A) → longest_retained_end heavy (xs ++ x ∷ []) ≡ [] → ⊥
  end_is_some [] x h = cc
  end_is_some (y ∷ []) x h = by_test (is_within_retention heavy (y ∷ x ∷ [])) y (x ∷ []) (longest_retained_end heavy (x ∷ [])) (end_is_some [] x) h
  end_is_some (y ∷ z ∷ zs) x h =
      by_test (is_within_retention heavy (y ∷ z ∷ (zs ++ x ∷ []))) y (z ∷ (zs ++ x ∷ [])) (longest_retained_end heavy (z ∷ (zs ++ x ∷ []))) (end_is_some (z ∷ zs) x) h

pub retains_some : (ns : List Note) (n : Note) → retained_notes (ns ++ n ∷ []) ≡ [] → ⊥
retains_some ns n h = end_is_some weight ns n h

-- ---- a document without records

last_stays : (n : Note) (ns : List Note) → retained_notes (reverse (n ∷ ns)) ≡ [] → ⊥
last_stays n ns h = retains_some (reverse ns) n (ap retained_notes (sym (reverse-append (n ∷ []) ns)) ∙ h)

by_versions : (v : Version) (earlier : List Version) → AreSuccessiveVersions v earlier → retained_notes (reverse (notes_of (v ∷ earlier))) ≡ [] → earlier ≡ []
by_versions v [] follows h = refl
by_versions v (w ∷ ws) follows h =
    let n = follows.0.0 in
    absurd (last_stays n (notes_of (w ∷ ws)) (ap (λ (o : Option Note). retained_notes (reverse (cons_option o (notes_of (w ∷ ws))))) (sym follows.0.1) ∙ h))

pub one_version : (next : ℕ) (d : Document) → IsValidHistory next d → (stored_document d).notes ≡ [] → d.earlier ≡ []
one_version next d valid none = by_versions d.now d.earlier valid.follows none

-- ---- an etag that no document has

abbrev tags_of : Document → List ℕ
tags_of d = map (λ v. v.tag) (versions d)

module _ (tag next : ℕ) where
  own_tags : (d : Document) → d.earlier ≡ [] → tag ≢ d.now.tag → AllByRecursion (λ t. tag ≢ t) (tags_of d)
  own_tags d alone other = subst (λ (vs : List Version). AllByRecursion (λ t. tag ≢ t) (map (λ v. v.tag) (d.now ∷ vs))) (sym alone) (other, tt)

  pub no_version_has : (ds : List Document) → AllByRecursion (IsValidHistory next) ds → AllByRecursion (λ h. h.notes ≡ []) (map stored_document ds) → AllByRecursion (λ h. tag ≢ h.tag) (map stored_document ds)
      → AllByRecursion (λ t. tag ≢ t) (flat_map tags_of ds)
  no_version_has [] valid none other = tt
  no_version_has (d ∷ ds) valid none other =
      each-append (λ t. tag ≢ t) (tags_of d) (flat_map tags_of ds) (own_tags d (one_version next d valid.0 none.0) other.0) (no_version_has ds valid.1 none.1 other.1)

  -- and back
  pub no_document_has : (ds : List Document) → AllByRecursion (λ t. tag ≢ t) (flat_map tags_of ds) → AllByRecursion (λ h. tag ≢ h.tag) (map stored_document ds)
  no_document_has [] other = tt
  no_document_has (d ∷ ds) other = (other.0, no_document_has ds (each-right (λ t. tag ≢ t) (map (λ v. v.tag) d.earlier) (flat_map tags_of ds) other.1))

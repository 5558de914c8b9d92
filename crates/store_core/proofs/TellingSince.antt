-- The change records since a version, found in two pieces and by a document's entry.
use Rattle.std.proofs.Common.{◌≡◌, ℕ, ◌==◌, Bool, true, false, if◌then◌else◌, List, [], ◌∷◌, ◌++◌, map, Option, None, Some, refl, sym, ap, ◌∙◌}
use Rattle.std.specs.Map.{lookup}
use Rattle.std.specs.Option.{option_map}
use Rattle.doc_names.specs.NameEquality.{same_id}
use Rattle.doc_names.specs.declared.doc_id.DocId.{DocId}
use Rattle.edit_ops.specs.Notes.{Note}
use Rattle.store_core.specs.declared.entry.Entry.{Entry}
use Rattle.store_core.specs.DocumentChanges.{find_document, stored_id}
use Rattle.store_core.specs.Contents.{StoredDocument}
use Rattle.store_core.specs.Since.{ChangesSince, Gone, ReportedChanges, notes_from, since}
use Rattle.store_core.specs.inner.ChangesSince.{stored_changes_since, changes_since_of}
use Rattle.store_core.specs.inner.StoreMemory.{stored_view}
use Rattle.store_core.proofs.Entries.{read-as}
use Rattle.store_core.specs.StoreViews.{StoreView}

-- ---- in two pieces

abbrev either : Option (List Note) → List Note → Option (List Note) → Option (List Note)
either None ys o = o
either (Some zs) ys o = Some (zs ++ ys)

from-append : (tag : ℕ) (xs ys : List Note) → notes_from tag (xs ++ ys) ≡ either (notes_from tag xs) ys (notes_from tag ys)
from-append tag [] ys = refl
from-append tag (x ∷ xs) ys = by (x.previous == tag) (from-append tag xs ys)
  where
    by : (b : Bool) → notes_from tag (xs ++ ys) ≡ either (notes_from tag xs) ys (notes_from tag ys)
        → (if b then Some (x ∷ xs ++ ys) else notes_from tag (xs ++ ys)) ≡ either (if b then Some (x ∷ xs) else notes_from tag xs) ys (notes_from tag ys)
    by true rest = refl
    by false rest = rest

pub in-older : (tag : ℕ) (older newer found : List Note) → Some found ≡ notes_from tag older → Some (found ++ newer) ≡ notes_from tag (older ++ newer)
in-older tag older newer found is = ap (λ (o : Option (List Note)). either o newer (notes_from tag newer)) is ∙ sym (from-append tag older newer)

pub in-newer : (tag : ℕ) (older newer : List Note) → None ≡ notes_from tag older → notes_from tag newer ≡ notes_from tag (older ++ newer)
in-newer tag older newer none = ap (λ (o : Option (List Note)). either o newer (notes_from tag newer)) none ∙ sym (from-append tag older newer)

-- ---- by the entry

-- the changes by an entry
abbrev pub entry_story : ℕ → Entry → ChangesSince
entry_story tag v = if v.tag == tag then ReportedChanges [] else changes_since_of (notes_from tag v.notes)

abbrev pub or_gone : Option ChangesSince → ChangesSince
or_gone None = Gone
or_gone (Some s) = s

held-or-gone : (tag : ℕ) (o : Option StoredDocument) → stored_changes_since tag o ≡ or_gone (option_map (λ h. stored_changes_since tag (Some h)) o)
held-or-gone tag None = refl
held-or-gone tag (Some h) = refl

pub by-entry : (es : List (DocId × Entry)) (doc : DocId) (tag : ℕ) (s : StoreView) (o : Option Entry) → map stored_view es ≡ s.content.documents → o ≡ lookup (same_id doc) es
    → or_gone (option_map (entry_story tag) o) ≡ since s.content doc tag
by-entry es doc tag s o same found =
    ap (λ (l : Option Entry). or_gone (option_map (entry_story tag) l)) found
    ∙ ap or_gone (sym (read-as (same_id doc) stored_view stored_id (λ e. refl) (λ (h : StoredDocument). stored_changes_since tag (Some h)) (entry_story tag) (λ e. refl) es))
    ∙ sym (held-or-gone tag (find_document stored_id (map stored_view es) doc))
    ∙ ap (λ (hs : List StoredDocument). stored_changes_since tag (find_document stored_id hs doc)) same

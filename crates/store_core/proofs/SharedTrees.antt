-- Which trees are unshared, and what a store has of its documents, whoever shares their trees.
use Rattle.std.proofs.Common.{◌≡◌, ℕ, ◌+◌, ◌≤◌, Bool, true, false, cond, List, [], ◌∷◌, map, sum_by, Option, None, Some, option_map, refl, sym, ap, subst, ◌∙◌}
use Rattle.std.proofs.lemmas.Option.{same_Some}
use Rattle.std.specs.List.{AllByRecursion}
use Rattle.std.specs.Map.{lookup, set_value}
use Rattle.std.specs.Set.{is_member}
use Rattle.std.specs.Str.{bytes_eq}
use Rattle.doc_names.specs.NameEquality.{same_id}
use Rattle.doc_names.specs.contracts.doc_id.DocIdPartialEq.TheImpl.{eq-value}
use Rattle.doc_names.specs.declared.doc_id.DocId.{DocId}
use Rattle.store_core.specs.declared.limits.Limits.{Limits}
use Rattle.store_core.specs.declared.entry.Entry.{Entry}
use Rattle.store_core.specs.Contents.{StoredDocument, StoreContents as Content}
use Rattle.store_core.specs.ValidStates.{AreDistinct}
use Rattle.store_core.specs.inner.UnsharedTrees.{IsUnshared}
use Rattle.store_core.specs.inner.StoreMemory.{IsConsistentStore, all_as_unshared, as_unshared, contents_view, stored_view, address_holder, entry_len, entry_number, unshared_flags, entry_addresses}
use Rattle.store_core.proofs.AcceptedChanges.{sum-mapped}
use Rattle.store_core.proofs.Entries.{each-mapped, each-unmapped, mapped}
use Rattle.store_core.proofs.DocumentMaps.{looked-up, same-set}

abbrev Row : Type 0
Row = DocId × Entry

abbrev is_own : Entry → Bool
is_own v = v.tree.own

abbrev own_row : Row → Row
own_row e = (e.0, as_unshared e.1)

-- ---- look-ups

module _ {X : Type 0} (read : Entry → X) (q : DocId → Bool) where
  abbrev read_row : Row → DocId × X
  read_row e = (e.0, read e.1)

  read-step : (e : Row) (es : List Row) (b : Bool) → lookup q (map read_row es) ≡ option_map read (lookup q es)
      → cond b (Some (read e.1)) (lookup q (map read_row es)) ≡ option_map read (cond b (Some e.1) (lookup q es))
  read-step e es true by = refl
  read-step e es false by = by

  read-of : (es : List Row) → lookup q (map read_row es) ≡ option_map read (lookup q es)
  read-of [] = refl
  read-of (e ∷ es) = read-step e es (q e.0) (read-of es)

  pub read-found : (es : List Row) (v : Entry) → lookup q es ≡ Some v → lookup q (map read_row es) ≡ Some (read v)
  read-found es v found = read-of es ∙ ap (λ (o : Option Entry). option_map read o) found

  pub read-missing : (es : List Row) → lookup q es ≡ None → lookup q (map read_row es) ≡ None
  read-missing es missing = read-of es ∙ ap (λ (o : Option Entry). option_map read o) missing

pub found-tree : (es : List Row) (doc : DocId) (v : Entry) → lookup (same_id doc) es ≡ Some v → lookup (same_id doc) (unshared_flags es) ≡ Some v.tree.own
found-tree es doc v found = read-found is_own (same_id doc) es v found

-- ---- one entry replaced

module _ (q : DocId → Bool) where
  set-step : (e : Row) (es : List Row) (v w : Entry) (b : Bool) → q e.0 ≡ b → cond b (Some e.1) (lookup q es) ≡ Some v → (lookup q es ≡ Some v → lookup q (set_value q es w) ≡ Some w)
      → lookup q (cond b ((e.0, w) ∷ es) (e ∷ set_value q es w)) ≡ Some w
  set-step e es v w true h found by = ap (λ (b : Bool). cond b (Some w) (lookup q es)) h
  set-step e es v w false h found by = ap (λ (b : Bool). cond b (Some e.1) (lookup q (set_value q es w))) h ∙ by found

  set-found : (es : List Row) (v w : Entry) → lookup q es ≡ Some v → lookup q (set_value q es w) ≡ Some w
  set-found [] v w found = cc
  set-found (e ∷ es) v w found = set-step e es v w (q e.0) refl found (set-found es v w)

  own-step : (e : Row) (es : List Row) (w : Entry) (b : Bool) → all_as_unshared (set_value q es w) ≡ set_value q (all_as_unshared es) (as_unshared w)
      → all_as_unshared (cond b ((e.0, w) ∷ es) (e ∷ set_value q es w)) ≡ cond b ((e.0, as_unshared w) ∷ all_as_unshared es) (own_row e ∷ set_value q (all_as_unshared es) (as_unshared w))
  own-step e es w true by = refl
  own-step e es w false by = ap (λ (xs : List Row). own_row e ∷ xs) by

  own-set : (es : List Row) (w : Entry) → all_as_unshared (set_value q es w) ≡ set_value q (all_as_unshared es) (as_unshared w)
  own-set [] w = refl
  own-set (e ∷ es) w = own-step e es w (q e.0) (own-set es w)

module _ (doc : DocId) (es next : List Row) (v w : Entry) (written : next ≡ set_value (eq-value.it doc) es w) (there : Some v ≡ lookup (eq-value.it doc) es) where
  -- what is written differs at most in whether the tree is shared
  pub same-written : as_unshared w ≡ as_unshared v → all_as_unshared next ≡ all_as_unshared es
  same-written same =
      let q = eq-value.it doc in
      ap (λ (xs : List Row). all_as_unshared xs) written
      ∙ own-set q es w
      ∙ ap (λ (x : Entry). set_value q (all_as_unshared es) x) same
      ∙ same-set q (all_as_unshared es) (as_unshared v) (read-found as_unshared q es v (sym there))

  pub own-written : w.tree.own ≡ true → IsUnshared (unshared_flags next) doc
  own-written own = λ b found.
      let q = eq-value.it doc in
      let here : lookup (same_id doc) next ≡ Some w =
      sym (looked-up doc next) ∙ ap (λ (xs : List Row). lookup q xs) written ∙ set-found q es v w (sym there) in
      same_Some b w.tree.own (sym found ∙ found-tree next doc w here) ∙ own

-- the tree of a document that isn't stored
pub own-missing : (doc : DocId) (es : List Row) → None ≡ lookup (eq-value.it doc) es → IsUnshared (unshared_flags es) doc
own-missing doc es none = λ b found.
    let missing : lookup (same_id doc) (unshared_flags es) ≡ None = read-missing is_own (same_id doc) es (sym (looked-up doc es) ∙ sym none) in
    cc

-- ---- what is unchanged

abbrev HasLen : Row → Type 0
HasLen e = e.1.len ≡ entry_len e

abbrev IsUnedited : Row → Type 0
IsUnedited e = e.1.notes ≡ [] → entry_number e ≡ e.1.tag

held-alike : (es : List Row) (uri : List ℕ) → address_holder (all_as_unshared es) uri ≡ address_holder es uri
held-alike [] uri = refl
held-alike (e ∷ es) uri = ap (λ (o : Option ℕ). cond (is_member bytes_eq (entry_addresses e) uri) (Some (entry_number e)) o) (held-alike es uri)

module _ (es ds : List Row) (same : all_as_unshared ds ≡ all_as_unshared es) where
  same-held : map stored_view ds ≡ map stored_view es
  same-held = sym (mapped stored_view own_row ds) ∙ ap (map stored_view) same ∙ mapped stored_view own_row es

  same-numbers : map entry_number ds ≡ map entry_number es
  same-numbers = sym (mapped entry_number own_row ds) ∙ ap (map entry_number) same ∙ mapped entry_number own_row es

  pub alike-content : (limits : Limits) (last : ℕ) → contents_view ds limits last ≡ contents_view es limits last
  alike-content limits last = ap (λ (hs : List StoredDocument). let c : Content = record { documents = hs; next = last + 1; limits = limits } in c) same-held

  pub alike-storing : (rs : List (List ℕ × ℕ)) (limits : Limits) (last total : ℕ) → IsConsistentStore es rs limits last total → IsConsistentStore ds rs limits last total
  alike-storing rs limits last total s =
      let P : ℕ → Type 0 = λ n. n ≤ last in
      record {
        kept = (s.kept.0, alike-content limits last ∙ s.kept.1, s.kept.2);
        addresses = λ uri. s.addresses uri ∙ sym (held-alike es uri) ∙ ap (λ (xs : List Row). address_holder xs uri) (sym same) ∙ held-alike ds uri;
        numbers = subst (λ (ns : List ℕ). AreDistinct ns) (sym same-numbers) s.numbers;
        given = each-unmapped P entry_number ds (subst (λ (ns : List ℕ). AllByRecursion P ns) (sym same-numbers) (each-mapped P entry_number es s.given));
        sum = s.sum ∙ sym (sum-mapped entry_len own_row es) ∙ ap (sum_by entry_len) (sym same) ∙ sum-mapped entry_len own_row ds;
        lens = each-unmapped HasLen own_row ds (subst (λ (xs : List Row). AllByRecursion HasLen xs) (sym same) (each-mapped HasLen own_row es s.lens));
        unedited = each-unmapped IsUnedited own_row ds (subst (λ (xs : List Row). AllByRecursion IsUnedited xs) (sym same) (each-mapped IsUnedited own_row es s.unedited));
      }

-- A document with an element removed: it keeps unique keys and stays within the constraints, and
-- the last step decides what is still selected.
use Rattle.std.proofs.Common.{◌≡◌, ◌⊎◌, ◌↔◌, inl, inr, ℕ, zero, suc, ◌<◌, ◌≤◌, List, [], ◌∷◌, ◌++◌, remove, Some, option_and_then, slice_get, refl, sym, ap, ◌∙◌, subst, append_assoc, arith}
use Rattle.std.proofs.lemmas.Bool.{cases_lt}
use Rattle.xml_tree.specs.Tree.{Content, last, more, comment_node, Tree, child_elements_of, at}
use Rattle.xml_tree.specs.Edits.{with_text_prepended, cut, cut_child, take_in}
use Rattle.xml_tree.specs.TreeScopes.{scope_at}
use Rattle.xml_tree.proofs.PlaceLaws.{child_elements-cut}
use Rattle.xml_tree.proofs.TreeScopeLemmas.{scope_at-below}
use Rattle.node_select.specs.declared.selector.Step.{Step}
use Rattle.node_select.specs.Selection.{SelectsChild, SelectsAmong, SelectsPath}
use Rattle.node_select.proofs.Along.{last_step_to, one_path}
use Rattle.doc_names.specs.declared.usages.Usage.{Usage}
use Rattle.usage_docs.specs.declared.schema_table.ElementKind.{ElementKind}
use Rattle.usage_docs.specs.declared.schema_table.Key.{Key}
use Rattle.usage_docs.specs.SchemaTable.{Scope, root_kind}
use Rattle.usage_docs.specs.UniqueKeys.{sibling_key_of, RepeatsKeyAt, HasUniqueKeys}
use Rattle.usage_docs.specs.ContentTexts.{content_text}
use Rattle.usage_docs.specs.ReferenceForms.{AllReferencesFormed, MeetsConstraints}
use Rattle.edit_rules.proofs.ClashesAt.{clash_beside, unique_there}
use Rattle.edit_rules.proofs.FormedBeside.{formed_after, formed_there}
use Rattle.edit_rules.proofs.StaysSelected.{stays_selected, last_step_after}

-- ---- constraints

text_before : (t : List ℕ) (rest : Content) → content_text (with_text_prepended t rest) ≡ t ++ content_text rest
text_before t (last u) = refl
text_before t (more u n ds ats k rest) = append_assoc t u (content_text rest)
text_before t (comment_node u x rest) = append_assoc t u (content_text rest)

text_cut : (i : ℕ) (content : Content) → content_text (cut i content) ≡ content_text content
text_cut i (last t) = refl
text_cut zero (more t n ds ats k rest) = text_before t rest
text_cut (suc i) (more t n ds ats k rest) = ap (λ s. t ++ s) (text_cut i rest)
text_cut i (comment_node t x rest) = ap (λ s. t ++ s) (text_cut i rest)

module _ (row : ElementKind) (c : Scope) where
  formed_before : (t : List ℕ) (rest : Content) → AllReferencesFormed row c rest → AllReferencesFormed row c (with_text_prepended t rest)
  formed_before t (last u) h = h
  formed_before t (more u n ds ats k rest) h = h
  formed_before t (comment_node u x rest) h = h

  formed_cut : (i : ℕ) (content : Content) → AllReferencesFormed row c content → AllReferencesFormed row c (cut i content)
  formed_cut i (last t) h = h
  formed_cut zero (more t n ds ats k rest) h = formed_before t rest h.1
  formed_cut (suc i) (more t n ds ats k rest) h = (h.0, formed_cut i rest h.1)
  formed_cut i (comment_node t x rest) h = formed_cut i rest h

pub formed_without : (u : Usage) (t parent : Tree) (q : List ℕ) (i : ℕ) → at q t ≡ Some parent → MeetsConstraints u t → MeetsConstraints u (take_in q i t)
formed_without u t parent q i there old =
    (formed_after u t parent q (cut_child i) (λ e. refl) (λ e. text_cut i e.content) there old).1 (λ kind is.
    formed_cut kind (scope_at q t) i parent.content (subst (λ (d : Scope). AllReferencesFormed kind d parent.content) (sym (scope_at-below q t)) (formed_there q (root_kind u) (t.decls ∷ []) t parent kind there is old)))

-- ---- uniqueness

pub get_removed : {A : Type 0} (xs : List A) (i k : ℕ) → ((k < i) → slice_get (remove xs i) k ≡ slice_get xs k) × ((i ≤ k) → slice_get (remove xs i) k ≡ slice_get xs (suc k))
get_removed [] zero k = (λ lt. refl, λ le. refl)
get_removed [] (suc i) k = (λ lt. refl, λ le. refl)
get_removed (x ∷ xs) zero k = (λ lt. absurd (omega arith), λ le. refl)
get_removed (x ∷ xs) (suc i) zero = (λ lt. refl, λ le. absurd (omega arith))
get_removed (x ∷ xs) (suc i) (suc k) = let r = get_removed xs i k in (λ lt. r.0 (omega arith), λ le. r.1 (omega arith))

module _ (row : ElementKind) (c : Scope) (xs : List Tree) (i : ℕ) where
  was_at : (k : ℕ) → (j : ℕ) × ((slice_get (remove xs i) k ≡ slice_get xs j) × (((k < i) × (j ≡ k)) ⊎ ((i ≤ k) × (j ≡ suc k))))
  was_at k = elim (cases_lt k i) [
    | inl lt ↦ (k, ((get_removed xs i k).0 lt, inl (lt, refl)))
    | inr le ↦ (suc k, ((get_removed xs i k).1 le, inr (le, refl)))
  ]

  in_order : (a b a' b' : ℕ) → a < b → ((a < i) × (a' ≡ a)) ⊎ ((i ≤ a) × (a' ≡ suc a)) → ((b < i) × (b' ≡ b)) ⊎ ((i ≤ b) × (b' ≡ suc b)) → a' < b'
  in_order a b a' b' lt (inl p) (inl r) = let e = p.1 in let f = r.1 in omega arith
  in_order a b a' b' lt (inl p) (inr r) = let e = p.1 in let f = r.1 in omega arith
  in_order a b a' b' lt (inr p) (inl r) = let e = p.1 in let f = r.1 in let l = p.0 in let m = r.0 in omega arith
  in_order a b a' b' lt (inr p) (inr r) = let e = p.1 in let f = r.1 in omega arith

  pub old_clash : (r : List ℕ) (key : Key) → RepeatsKeyAt row c (remove xs i) r key → (r' : List ℕ) × RepeatsKeyAt row c xs r' key
  old_clash [] key h = absurd h
  old_clash (k ∷ []) key h =
      let a = was_at h.earlier in
      let b = was_at k in (
        b.0 ∷ [],
        record {
          shared = h.shared;
          earlier = a.0;
          comes_first = in_order h.earlier k a.0 b.0 h.comes_first a.1.1 b.1.1;
          that = ap (option_and_then (sibling_key_of row c)) (sym a.1.0) ∙ h.that;
          this = ap (option_and_then (sibling_key_of row c)) (sym b.1.0) ∙ h.this;
          by_key = h.by_key;
        },
      )
  old_clash (k ∷ m ∷ p) key h = let b = was_at k in (b.0 ∷ m ∷ p, (h.0, (h.1.0, (sym b.1.0 ∙ h.1.1.0, h.1.1.1, h.1.1.2))))

pub unique_without : (u : Usage) (t parent : Tree) (q : List ℕ) (i : ℕ) → at q t ≡ Some parent → HasUniqueKeys u t → HasUniqueKeys u (take_in q i t)
unique_without u t parent q i there unique p key h =
    let b = clash_beside u t parent q (cut_child i) p key (λ e. refl) there unique h in
    let r = b.1.1.0 in
    let clash = subst (λ (xs : List Tree). RepeatsKeyAt b.0 (scope_at q t) xs r key) (child_elements-cut i parent.content) b.1.1.1.1 in
    let o = old_clash b.0 (scope_at q t) (child_elements_of parent) i r key clash in
    unique_there u t parent q b.0 there b.1.0 unique o.0 key o.1

-- ---- what is still selected

pub no_shorter : (steps : List Step) (s : Step) (c : Scope) (xs : List Tree) → SelectsAmong c xs (steps ++ s ∷ []) [] → ⊥
no_shorter [] s c xs h = h
no_shorter (x ∷ steps) s c xs h = h

pub split_end : (n : ℕ) (p : List ℕ) → (q : List ℕ) × ((i : ℕ) × (n ∷ p ≡ q ++ i ∷ []))
split_end n [] = ([], (n, refl))
split_end n (m ∷ p) = let r = split_end m p in (n ∷ r.0, (r.1.0, ap (λ (l : List ℕ). n ∷ l) r.1.1))

-- exactly what the last step selects among the parent's children without the removed one
pub still_selected : (first : Step) (steps : List Step) (s : Step) (t parent : Tree) (q : List ℕ) (j : ℕ) → SelectsPath (first ∷ steps) t q → at q t ≡ Some parent
    → ((p : List ℕ) × SelectsPath (first ∷ (steps ++ s ∷ [])) (take_in q j t) p) ↔ ((i : ℕ) × SelectsChild (scope_at q t) s (remove (child_elements_of parent) j) i)
still_selected first steps s t parent q j sel there = (
  λ h. to h.0 h.1,
  λ h. (q ++ h.0 ∷ [], (last_step_after first steps s t parent q (cut_child j) h.0 (λ e. refl) sel there).1 (subst (λ (xs : List Tree). SelectsChild (scope_at q t) s xs h.0) (sym (child_elements-cut j parent.content)) h.1)),
)
  where
    to : (p : List ℕ) → SelectsPath (first ∷ (steps ++ s ∷ [])) (take_in q j t) p → (i : ℕ) × SelectsChild (scope_at q t) s (remove (child_elements_of parent) j) i
    to [] h = absurd (no_shorter steps s _ _ h.1.2)
    to (n ∷ p) h =
        let e = split_end n p in
        let i = e.1.0 in
        let x = subst (λ (l : List ℕ). SelectsPath (first ∷ (steps ++ s ∷ [])) (take_in q j t) l) e.1.1 h in
        let l = last_step_to first steps s (take_in q j t) e.0 i x in
        let same : e.0 ≡ q = one_path (first ∷ steps) (take_in q j t) e.0 q l.0 (stays_selected first steps t q (cut_child j) (λ y. refl) sel) in
        let y = subst (λ (z : List ℕ). SelectsPath (first ∷ (steps ++ s ∷ [])) (take_in q j t) (z ++ i ∷ [])) same x in
        (i, subst (λ (xs : List Tree). SelectsChild (scope_at q t) s xs i) (child_elements-cut j parent.content) ((last_step_after first steps s t parent q (cut_child j) i (λ e. refl) sel there).0 y))

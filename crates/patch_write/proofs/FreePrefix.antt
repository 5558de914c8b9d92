-- A search from the first candidate on finds the first that isn't declared.
use Rattle.std.proofs.Common.{◌≡◌, ◌⊎◌, inl, inr, ℕ, zero, suc, ◌+◌, ◌<◌, ◌≤◌, ◌^◌, Bool, true, false, List, [], ◌∷◌, ◌++◌, flat_map, length, append-nil, bytes_eq, refl, sym, ap, ◌∙◌, arith}
use Rattle.std.specs.Set.{is_member}
use Rattle.xml_names.specs.declared.names.Decl.{Decl}
use Rattle.edit_ops.specs.declared.change.Change.{Change}
use Rattle.edit_ops.specs.declared.change.Change.TheVariants.{CreateDocument, Insert, Replace, Remove, SetAttr, DropAttr, RemoveDocument}
use Rattle.edit_ops.specs.Notes.{Note}
use Rattle.edit_ops.specs.DiffOperations.{change_operation as told}
use Rattle.patch_rules.specs.inner.DeclaredPrefixes.{declared_prefixes, content_prefixes}
use Rattle.patch_rules.specs.Notices.{candidate_prefix, first_free_candidate, operations, prefix_for}
use Rattle.patch_rules.proofs.FreePrefix.{among-without, candidate_prefix-one, length-whole, length-without, taken_whole, whole, without}
use Rattle.patch_write.specs.inner.DeclaredPrefixes.{inserted_prefixes, record_prefixes}

-- ---- a search that found a free candidate

-- n candidates can't all be among fewer than n prefixes
few : (n a : ℕ) (left : List (List ℕ)) → a + n < 2 ^ 64 → ((i : ℕ) → a ≤ i → i < a + n → is_member bytes_eq left (candidate_prefix i) ≡ true) → n ≤ length left
few zero a left low h = omega arith
few (suc n) a left low h =
    let there : is_member bytes_eq left (candidate_prefix a) ≡ true = h a (omega arith) (omega arith) in
    let shorter : suc (length (without (candidate_prefix a) left)) ≡ length left = length-without (candidate_prefix a) left there in
    let rest : n ≤ length (without (candidate_prefix a) left) = few n (suc a) (without (candidate_prefix a) left) (omega arith)
    (λ i ge lt. among-without (candidate_prefix a) (candidate_prefix i) left (λ s. absurd (omega (arith, candidate_prefix-one a i (omega arith) (omega arith) s))) (h i (omega arith) (omega arith))) in
    omega (arith, shorter, rest)

side : (a k : ℕ) → a ≤ k → (a ≡ k) ⊎ (a < k)
side a k h = grind arith

reached : (taken : List ℕ → Bool) (f a k : ℕ) → a ≤ k → k ≤ a + f → taken (candidate_prefix k) ≡ false → ((j : ℕ) → a ≤ j → j < k → taken (candidate_prefix j) ≡ true) → first_free_candidate taken f a ≡ k
reached taken zero a k low high free all = omega arith
reached taken (suc f) a k low high free all = by (taken (candidate_prefix a)) refl (side a k low) (reached taken f (suc a) k)
  where
    by : (b : Bool) → taken (candidate_prefix a) ≡ b → (a ≡ k) ⊎ (a < k)
        → (suc a ≤ k → k ≤ suc a + f → taken (candidate_prefix k) ≡ false → ((j : ℕ) → suc a ≤ j → j < k → taken (candidate_prefix j) ≡ true) → first_free_candidate taken f (suc a) ≡ k)
        → first_free_candidate taken (suc f) a ≡ k
    by true e (inl same) rest = let both : true ≡ false = sym e ∙ ap (λ x. taken (candidate_prefix x)) same ∙ free in absurd cc
    by true e (inr less) rest = rw e (rest (omega arith) (omega arith) free (λ j ge lt. all j (omega arith) lt))
    by false e (inl same) rest = rw e same
    by false e (inr less) rest = let both : true ≡ false = sym (all a (omega arith) less) ∙ e in absurd cc

pub found_first : (ps : List (List ℕ)) (k : ℕ) → k < 2 ^ 64 → is_member bytes_eq ps (candidate_prefix k) ≡ false → ((j : ℕ) → j < k → is_member bytes_eq ps (candidate_prefix j) ≡ true)
    → candidate_prefix k ≡ candidate_prefix (first_free_candidate (is_member bytes_eq ps) (length ps) 0)
found_first ps k room free all =
    let most : k ≤ length ps = few k 0 ps (omega arith) (λ i ge lt. all i (omega arith)) in
    ap candidate_prefix (sym (reached (is_member bytes_eq ps) (length ps) 0 k (omega arith) (omega arith) free (λ j ge lt. all j lt)))

-- ---- the prefix of a diff document

told_prefixes : (ds : List Decl) (fresh : Bool) (c : Change) → declared_prefixes (told [] ds fresh c).decls ++ content_prefixes (told [] ds fresh c).content ≡ declared_prefixes ds ++ inserted_prefixes c
told_prefixes ds fresh (CreateDocument root) = refl
told_prefixes ds fresh (Insert parent gap e) = ap (λ l. declared_prefixes ds ++ (declared_prefixes e.decls ++ l)) (append-nil (content_prefixes e.content))
told_prefixes ds fresh (Replace p e) = ap (λ l. declared_prefixes ds ++ (declared_prefixes e.decls ++ l)) (append-nil (content_prefixes e.content))
told_prefixes ds fresh (Remove p) = refl
told_prefixes ds true (SetAttr p name value) = refl
told_prefixes ds false (SetAttr p name value) = refl
told_prefixes ds fresh (DropAttr p name) = refl
told_prefixes ds fresh RemoveDocument = refl

notes_prefixes : (ns : List Note) → whole (operations [] ns) ≡ flat_map record_prefixes ns
notes_prefixes [] = refl
notes_prefixes (n ∷ ns) = λ i. told_prefixes n.bindings n.fresh n.change i ++ notes_prefixes ns i

pub prefix-listed : (older newer : List Note)
    → candidate_prefix (first_free_candidate (is_member bytes_eq (flat_map record_prefixes (older ++ newer))) (length (flat_map record_prefixes (older ++ newer))) 0) ≡ prefix_for (older ++ newer)
prefix-listed older newer =
    let os = operations [] (older ++ newer) in
    ap (λ ps. candidate_prefix (first_free_candidate (is_member bytes_eq ps) (length ps) 0)) (sym (notes_prefixes (older ++ newer)))
    ∙ (λ i. candidate_prefix (first_free_candidate (λ p. sym (taken_whole os p) i) (length-whole os i) 0))

-- The prefix of a diff document is none that its operations declare.
use Rattle.std.proofs.Common.{◌≡◌, ◌≢◌, ℕ, zero, suc, ◌+◌, ◌<◌, ◌≤◌, ◌^◌, Bool, true, false, ◌||◌, List, [], ◌∷◌, bytes_eq, refl, sym, ap, ◌∙◌, arith}
use Rattle.std.specs.List.{AllByRecursion}
use Rattle.xml_names.specs.Scopes.{xml_prefix}
use Rattle.edit_ops.specs.Notes.{Note}
use Rattle.edit_ops.specs.DiffOperations.{operation}
use Rattle.patch_rules.specs.Notices.{candidate_prefix, count_declarations, declares_prefix, first_free_candidate, content_declares_prefix, is_prefix_declared, operations, prefix_for}
use Rattle.patch_rules.proofs.FreePrefix.{is_first_free}
use Rattle.patch_laws.specs.ReplayLaws.{IsDiffPrefix}
use Rattle.patch_laws.proofs.Wholes.{told_decls}

pub candidate_prefix-some : (k : ℕ) → candidate_prefix k ≢ []
candidate_prefix-some zero = λ e. absurd cc
candidate_prefix-some (suc k) = λ e. absurd cc

pub candidate_prefix-other : (k : ℕ) → bytes_eq (candidate_prefix k) xml_prefix ≡ false
candidate_prefix-other zero = refl
candidate_prefix-other (suc k) = refl

pub first_low : (taken : List ℕ → Bool) (f k : ℕ) → first_free_candidate taken f k ≤ k + f
first_low taken zero k = omega arith
first_low taken (suc f) k = by (taken (candidate_prefix k)) refl (first_low taken f (suc k))
  where
    by : (b : Bool) → taken (candidate_prefix k) ≡ b → first_free_candidate taken f (suc k) ≤ suc k + f → first_free_candidate taken (suc f) k ≤ k + suc f
    by true e rest = rw e (omega arith)
    by false e rest = rw e (omega arith)

or_left : (a b : Bool) → (a || b) ≡ false → a ≡ false
or_left true b h = h
or_left false b h = refl

or_right : (a b : Bool) → (a || b) ≡ false → b ≡ false
or_right true b h = cc
or_right false b h = h

free_in : (p : List ℕ) (ns : List Note) → is_prefix_declared (operations [] ns) p ≡ false → AllByRecursion (λ n. declares_prefix p n.bindings ≡ false) ns
free_in p [] h = tt
free_in p (n ∷ ns) h =
    let o = operation [] n in
    let here = or_left (declares_prefix p o.decls || content_declares_prefix p o.content) (is_prefix_declared (operations [] ns) p) h in (
      ap (declares_prefix p) (sym (told_decls [] n.bindings n.fresh n.change)) ∙ or_left (declares_prefix p o.decls) (content_declares_prefix p o.content) here,
      free_in p ns (or_right (declares_prefix p o.decls || content_declares_prefix p o.content) (is_prefix_declared (operations [] ns) p) h),
    )

pub IsPrefixFor-prefix_for : (ns : List Note) → count_declarations (operations [] ns) < 2 ^ 64 → IsDiffPrefix (prefix_for ns) ns
IsPrefixFor-prefix_for ns room =
    let k = first_free_candidate (is_prefix_declared (operations [] ns)) (count_declarations (operations [] ns)) 0 in record {
      some = candidate_prefix-some k;
      other = candidate_prefix-other k;
      free = free_in (candidate_prefix k) ns (is_first_free (operations [] ns) room).free;
    }

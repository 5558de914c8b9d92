-- Watchers notified of one change after another.
use Rattle.std.proofs.Common.{◌≡◌, ℕ, List, [], ◌∷◌, ◌++◌, Option, Some, None, inl, inr, refl, ap}
use Rattle.std.proofs.Common.{sym, subst, ◌∙◌, arith, append_assoc, append-nil, ⊎_elim}
use Rattle.std.proofs.lemmas.Grind.{flat_map-append}
use Rattle.std.specs.Prelude.{flat_map}
use Rattle.edit_ops.specs.declared.edit.Edit.{Edit}
use Rattle.watchers.specs.AuditLines.{audit_line_bytes}
use Rattle.watchers.specs.WatcherStates.{WatcherState}
use Rattle.watchers.specs.WrittenLines.{WroteLineIfSeen, with_lines}
use Rattle.watchers.specs.declared.watcher.Told.{Told}
use Rattle.watchers.specs.declared.watcher.Told.TheVariants.{Kept}
use Rattle.watchers.specs.Notifications.{RemainOrLeave, AreNotified, HasKeptChange}
use Rattle.watchers.specs.Notifications.{HasKeptAllChanges}
use Rattle.watchers.specs.Notifications.{HasLeftAt, HasLeftDuring, with_edits}

no_more : (es : Option (List Edit)) → es ≡ with_edits es []
no_more None = refl
no_more (Some es) = ap Some (sym (append-nil es))

then_more : (es : Option (List Edit)) (xs ys : List Edit)
    → with_edits (with_edits es xs) ys ≡ with_edits es (xs ++ ys)
then_more None xs ys = refl
then_more (Some es) xs ys = ap Some (append_assoc es xs ys)

no_line : (written : Option (List ℕ)) → written ≡ with_lines written []
no_line None = refl
no_line (Some bytes) = ap Some (sym (append-nil bytes))

one_line : (old : Option (List ℕ)) (edit : Edit) (new : Option (List ℕ))
    → WroteLineIfSeen old edit Kept new
    → new ≡ with_lines old (edit ∷ [])
one_line None edit new h = h
one_line (Some bytes) edit new h =
    h.1 ∙ ap Some (h.2 ∙ ap (λ (l : List ℕ). bytes ++ l) (sym (append-nil (audit_line_bytes edit))))

more_lines : (written : Option (List ℕ)) (xs ys : List Edit)
    → with_lines (with_lines written xs) ys ≡ with_lines written (xs ++ ys)
more_lines None xs ys = refl
more_lines (Some bytes) xs ys =
    ap Some
    (append_assoc bytes (flat_map audit_line_bytes xs) (flat_map audit_line_bytes ys)
    ∙ ap (λ (l : List ℕ). bytes ++ l) (sym (flat_map-append audit_line_bytes xs ys)))

module _ {B : Type 0} (state : B → WatcherState) where
  abbrev WatchersRemain : List Edit → List B → List B → Type 0
  WatchersRemain = RemainOrLeave state

  abbrev KeepsAll : List Edit → B → B → Type 0
  KeepsAll = HasKeptAllChanges state

  abbrev LeavesDuring : List Edit → B → Type 0
  LeavesDuring = HasLeftDuring state

  abbrev KeepsOne : Edit → B → B → Type 0
  KeepsOne = HasKeptChange state

  abbrev LeavesAt : Edit → B → B → Type 0
  LeavesAt = HasLeftAt state

  kept_none : (b : B) → KeepsAll [] b b
  kept_none b =
      record {
        notified = no_more (state b).notified_changes;
        wrote = no_line (state b).written;
        counts = omega arith;
        never = λ n. n;
      }

  kept_more : (xs ys : List Edit) (a b c : B) → KeepsAll xs a b → KeepsAll ys b c
      → KeepsAll (xs ++ ys) a c
  kept_more xs ys a b c f s = record {
    notified =
        s.notified ∙ ap (λ es. with_edits es ys) f.notified
        ∙ then_more (state a).notified_changes xs ys;
    wrote =
        s.wrote ∙ ap (λ bytes. with_lines bytes ys) f.wrote
        ∙ more_lines (state a).written xs ys;
    counts = let p = f.counts in let q = s.counts in omega (arith, p, q);
    never = λ n. s.never (f.never n);
  }

  kept_one : (edit : Edit) (b c : B) → KeepsOne edit b c → KeepsAll (edit ∷ []) b c
  kept_one edit b c h = record {
    notified = h.notified;
    wrote = one_line (state b).written edit (state c).written h.wrote;
    counts = h.counts;
    never = h.never;
  }

  left_first : (edit : Edit) (b last : B) → LeavesAt edit b last → LeavesDuring (edit ∷ []) b
  left_first edit b last h = record {
    first = [];
    edit = edit;
    later = [];
    in_order = refl;
    before = b;
    last = last;
    kept = kept_none b;
    left = h;
  }

  left_later : (xs ys : List Edit) (a b : B) → KeepsAll xs a b → LeavesDuring ys b
      → LeavesDuring (xs ++ ys) a
  left_later xs ys a b f h = record {
    first = xs ++ h.first;
    edit = h.edit;
    later = h.later;
    in_order =
        ap (λ (l : List Edit). xs ++ l) h.in_order
        ∙ sym (append_assoc xs h.first (h.edit ∷ h.later));
    before = h.before;
    last = h.last;
    kept = kept_more xs h.first a b h.before f h.kept;
    left = h.left;
  }

  left_before : (xs ys : List Edit) (b : B) → LeavesDuring xs b → LeavesDuring (xs ++ ys) b
  left_before xs ys b h = record {
    first = h.first;
    edit = h.edit;
    later = h.later ++ ys;
    in_order =
        ap (λ (l : List Edit). l ++ ys) h.in_order ∙ append_assoc h.first (h.edit ∷ h.later) ys;
    before = h.before;
    last = h.last;
    kept = h.kept;
    left = h.left;
  }

  -- no change
  pub no_round : (bs : List B) → WatchersRemain [] bs bs
  no_round [] = refl
  no_round (b ∷ bs) = inl (b, bs, refl, kept_none b, no_round bs)

  -- one change
  pub one_round : (edit : Edit) (old new : List B) (left : ℕ)
      → AreNotified state edit old new left
      → WatchersRemain (edit ∷ []) old new
  one_round edit [] new left h = h.0
  one_round edit (b ∷ bs) new left h =
      ⊎_elim (λ k. inl (k.0, k.1, k.2, kept_one edit b k.0 k.3, one_round edit bs k.1 left k.4))
      (λ k. inr (left_first edit b k.0 k.3, one_round edit bs new k.1 k.4))
      h

  -- one change, at which the one watcher left
  pub one_left : (edit : Edit) (b last : B) → LeavesAt edit b last
      → WatchersRemain (edit ∷ []) (b ∷ []) []
  one_left edit b last left = one_round edit (b ∷ []) [] 1 (inr (last, 0, refl, left, (refl, refl)))

  -- a watcher that kept changes, then others, where the later watchers are known
  more_after_kept : (xs ys : List Edit) (b c : B) (bs cs new : List B) → KeepsAll xs b c
      → ((ds : List B) → WatchersRemain ys cs ds → WatchersRemain (xs ++ ys) bs ds)
      → WatchersRemain ys (c ∷ cs) new → WatchersRemain (xs ++ ys) (b ∷ bs) new
  more_after_kept xs ys b c bs cs new kept later h =
      ⊎_elim (λ s. inl (s.0, s.1, s.2, kept_more xs ys b c s.0 kept s.3, later s.1 s.4))
      (λ s. inr (left_later xs ys b c kept s.0, later new s.1))
      h

  -- changes, and then others
  pub more_rounds : (xs ys : List Edit) (old mid new : List B) → WatchersRemain xs old mid
      → WatchersRemain ys mid new → WatchersRemain (xs ++ ys) old new
  more_rounds xs ys [] mid new h k = subst (λ ms. WatchersRemain ys ms new) h k
  more_rounds xs ys (b ∷ bs) mid new h k =
      ⊎_elim
      (λ f.
      more_after_kept xs ys b f.0 bs f.1 new f.3 (λ ds g. more_rounds xs ys bs f.1 ds f.4 g)
      (subst (λ ms. WatchersRemain ys ms new) f.2 k))
      (λ f. inr (left_before xs ys b f.0, more_rounds xs ys bs mid new f.1 k))
      h

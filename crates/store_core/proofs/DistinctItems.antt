-- Lists of distinct items, and the item of a list that passes a test.
use Rattle.std.proofs.Common.{◌≡◌, ◌≢◌, Bool, true, false, not, cond, List, [], ◌∷◌, ◌++◌, map, filter, find, Some, refl, sym, ap, subst}
use Rattle.std.specs.List.{AllByRecursion}
use Rattle.store_core.specs.ValidStates.{AreDistinct}

-- ---- each item

module _ {X : Type 0} (P : X → Type 0) where
  pub each-append : (xs ys : List X) → AllByRecursion P xs → AllByRecursion P ys → AllByRecursion P (xs ++ ys)
  each-append [] ys a b = b
  each-append (x ∷ xs) ys a b = (a.0, each-append xs ys a.1 b)

  pub each-left : (xs ys : List X) → AllByRecursion P (xs ++ ys) → AllByRecursion P xs
  each-left [] ys a = tt
  each-left (x ∷ xs) ys a = (a.0, each-left xs ys a.1)

  pub each-right : (xs ys : List X) → AllByRecursion P (xs ++ ys) → AllByRecursion P ys
  each-right [] ys a = a
  each-right (x ∷ xs) ys a = each-right xs ys a.1

  pub each-put : (xs ys : List X) (x : X) → P x → AllByRecursion P (xs ++ ys) → AllByRecursion P (xs ++ x ∷ ys)
  each-put xs ys x h a = each-append xs (x ∷ ys) (each-left xs ys a) (h, each-right xs ys a)

  pub each-cut : (xs ys zs : List X) → AllByRecursion P (xs ++ (ys ++ zs)) → AllByRecursion P (xs ++ zs)
  each-cut xs ys zs a = each-append xs zs (each-left xs (ys ++ zs) a) (each-right ys zs (each-right xs (ys ++ zs) a))

pub each-weaker : {X : Type 0} (P Q : X → Type 0) → ((x : X) → P x → Q x) → (xs : List X) → AllByRecursion P xs → AllByRecursion Q xs
each-weaker P Q f [] a = tt
each-weaker P Q f (x ∷ xs) a = (f x a.0, each-weaker P Q f xs a.1)

-- ---- distinct items

module _ {X : Type 0} where
  -- one more item that differs from the others
  pub apart-put : (xs ys : List X) (n : X) → AreDistinct (xs ++ ys) → AllByRecursion (λ y. n ≢ y) (xs ++ ys) → AreDistinct (xs ++ n ∷ ys)
  apart-put [] ys n a h = (h, a)
  apart-put (x ∷ xs) ys n a h =
      (each-put (λ y. x ≢ y) xs ys n (λ e. h.0 (sym e)) a.0, apart-put xs ys n a.1 h.1)

  -- some items fewer
  apart-drop : (ys zs : List X) → AreDistinct (ys ++ zs) → AreDistinct zs
  apart-drop [] zs a = a
  apart-drop (y ∷ ys) zs a = apart-drop ys zs a.1

  pub apart-cut : (xs ys zs : List X) → AreDistinct (xs ++ (ys ++ zs)) → AreDistinct (xs ++ zs)
  apart-cut [] ys zs a = apart-drop ys zs a
  apart-cut (x ∷ xs) ys zs a = (each-cut (λ y. x ≢ y) xs ys zs a.0, apart-cut xs ys zs a.1)

  apart-front : (xs ys : List X) → AreDistinct (xs ++ ys) → AreDistinct xs
  apart-front [] ys a = tt
  apart-front (x ∷ xs) ys a = (each-left (λ y. x ≢ y) xs ys a.0, apart-front xs ys a.1)

  pub apart-middle : (xs ys zs : List X) → AreDistinct (xs ++ (ys ++ zs)) → AreDistinct ys
  apart-middle xs ys zs a = apart-front ys zs (apart-drop xs (ys ++ zs) a)

  -- the items after an item differ from it
  pub apart-behind : (xs ys : List X) (n : X) → AreDistinct (xs ++ n ∷ ys) → AllByRecursion (λ y. n ≢ y) ys
  apart-behind [] ys n a = a.0
  apart-behind (x ∷ xs) ys n a = apart-behind xs ys n a.1

-- ---- the first item that passes

pub record Split {D : Type 0} (p : D → Bool) (ds : List D) (d : D) : Type 0 where
  pub before : List D
  pub behind : List D
  pub parts : ds ≡ before ++ d ∷ behind
  pub passes : p d ≡ true
  pub none : AllByRecursion (λ e. p e ≡ false) before

module _ {D : Type 0} (p : D → Bool) where
  split-step : (x : D) (xs : List D) (d : D) (b : Bool) → p x ≡ b → cond b (Some x) (find p xs) ≡ Some d → (find p xs ≡ Some d → Split p xs d) → Split p (x ∷ xs) d
  split-step x xs d true e h by =
      let same : x ≡ d = cc in
      record { before = []; behind = xs; parts = ap (λ (y : D). y ∷ xs) same; passes = subst (λ (y : D). p y ≡ true) same e; none = tt }
  split-step x xs d false e h by =
      let s = by h in
      record { before = x ∷ s.before; behind = s.behind; parts = ap (λ (ys : List D). x ∷ ys) s.parts; passes = s.passes; none = (e, s.none) }

  pub split : (ds : List D) (d : D) → find p ds ≡ Some d → Split p ds d
  split [] d h = cc
  split (x ∷ xs) d h = split-step x xs d (p x) refl h (split xs d)

  -- none passes, so none is replaced and none is left out
  pub none-exchanged : (f : D → D) (ds : List D) → AllByRecursion (λ e. p e ≡ false) ds → map (λ d. cond (p d) (f d) d) ds ≡ ds
  none-exchanged f [] h = refl
  none-exchanged f (d ∷ ds) h = rw h.0 (ap (λ es. d ∷ es) (none-exchanged f ds h.1))

  pub none-filtered : (ds : List D) → AllByRecursion (λ e. p e ≡ false) ds → filter (λ d. not (p d)) ds ≡ ds
  none-filtered [] h = refl
  none-filtered (d ∷ ds) h = rw h.0 (ap (λ es. d ∷ es) (none-filtered ds h.1))

  -- exactly one passes: it alone is replaced, or left out
  pub one-exchanged : (f : D → D) (before behind : List D) (d : D) → AllByRecursion (λ e. p e ≡ false) before → p d ≡ true → AllByRecursion (λ e. p e ≡ false) behind
      → map (λ e. cond (p e) (f e) e) (before ++ d ∷ behind) ≡ before ++ f d ∷ behind
  one-exchanged f [] behind d b h a = rw h (ap (λ es. f d ∷ es) (none-exchanged f behind a))
  one-exchanged f (x ∷ before) behind d b h a = rw b.0 (ap (λ es. x ∷ es) (one-exchanged f before behind d b.1 h a))

  pub one-filtered : (before behind : List D) (d : D) → AllByRecursion (λ e. p e ≡ false) before → p d ≡ true → AllByRecursion (λ e. p e ≡ false) behind
      → filter (λ e. not (p e)) (before ++ d ∷ behind) ≡ before ++ behind
  one-filtered [] behind d b h a = rw h (none-filtered behind a)
  one-filtered (x ∷ before) behind d b h a = rw b.0 (ap (λ es. x ∷ es) (one-filtered before behind d b.1 h a))

-- The clashes of a document with a new element in a gap, and the first of them, are the clashes
-- found beside the change.
use Rattle.std.proofs.Common.{◌≡◌, ◌⊎◌, ◌↔◌, inl, inr, ℕ, suc, ◌<◌, ◌≤◌, List, [], ◌∷◌, ◌++◌, length, insert, Option, Some, None, refl, sym, ap, ◌∙◌, subst, append_assoc, arith}
use Rattle.std.proofs.lemmas.Option.{same_Some, none-some}
use Rattle.std.specs.Option.{ForSome}
use Rattle.xml_tree.specs.Tree.{Tree, child_elements_of, at}
use Rattle.xml_tree.specs.Edits.{change_at, put_in, put_kid}
use Rattle.xml_tree.specs.TreeScopes.{scope_at}
use Rattle.xml_tree.proofs.PlaceLaws.{child_elements-put}
use Rattle.doc_names.specs.declared.usages.Usage.{Usage}
use Rattle.usage_docs.specs.declared.schema_table.ElementKind.{ElementKind}
use Rattle.usage_docs.specs.declared.schema_table.Key.{Key}
use Rattle.usage_docs.specs.declared.key_repeats.Clash.{Clash}
use Rattle.usage_docs.specs.SchemaTable.{Scope}
use Rattle.usage_docs.specs.UniqueKeys.{RepeatsKeyAt, ClashesAt, IsNotAfter, HasUniqueKeys, IsFirstClash}
use Rattle.usage_docs.specs.readers.SiblingElements.{IsFirstInOrder}
use Rattle.edit_rules.specs.LawfulInsertions.{KeepsStartTag}
use Rattle.usage_docs.specs.ElementKinds.{kind_at}
use Rattle.edit_rules.specs.NewElements.{IsDuplicate, HasNoDuplicate, ClashesInside, HasUniqueKeysInside, ClashesBeside}
use Rattle.edit_rules.proofs.ClashesAt.{clash_beside, beside_clash, unique_there}
use Rattle.edit_rules.proofs.ClashesBeside.{beside_from, beside_to, one_twin}

-- ---- document order after equal beginnings

pub later_on : (q p r : List ℕ) → IsNotAfter p r → IsNotAfter (q ++ p) (q ++ r)
later_on [] p r h = h
later_on (n ∷ q) p r h = inr (refl, later_on q p r h)

pub later_back : (q p r : List ℕ) → IsNotAfter (q ++ p) (q ++ r) → IsNotAfter p r
later_back [] p r h = h
later_back (n ∷ q) p r (inl lt) = absurd (omega arith)
later_back (n ∷ q) p r (inr h) = later_back q p r h.1

-- ---- in the document

-- a change of the children of the element at q, which inserts a new one into a gap among others
-- that don't clash
module _ (u : Usage) (t parent new : Tree) (q : List ℕ) (f : Tree → Tree) (others : List Tree) (gap : ℕ) (tag : KeepsStartTag f) (there : at q t ≡ Some parent) (kids_are : child_elements_of (f parent) ≡ insert others gap new) (le : gap ≤ length others) (unique : HasUniqueKeys u t)
    (clean : (kind : ElementKind) → kind_at u t q ≡ Some kind → (r : List ℕ) (key : Key) → RepeatsKeyAt kind (scope_at q t) others r key → ⊥) where
  module _ (kind : ElementKind) (is : kind_at u t q ≡ Some kind) where
    abbrev R : List ℕ → Key → Type 0
    R = ClashesBeside (record { kind = kind; scope = scope_at q t; elements = others }) new gap

    pub clash_from : (r : List ℕ) (key : Key) → R r key → ClashesAt u (change_at q f t) (q ++ r) key
    clash_from r key h =
        beside_clash u t parent q f kind r key tag there is
        (subst (λ (xs : List Tree). RepeatsKeyAt kind (scope_at q t) xs r key) (sym kids_are) (beside_from kind (scope_at q t) others new gap le r key h))

    pub clash_to : (p : List ℕ) (key : Key) → ClashesAt u (change_at q f t) p key → (r : List ℕ) × ((p ≡ q ++ r) × R r key)
    clash_to p key h =
        let b = clash_beside u t parent q f p key tag there unique h in
        let same : b.0 ≡ kind = same_Some _ _ (sym b.1.0 ∙ is) in
        let r = b.1.1.0 in
        let clash = subst (λ (k : ElementKind). RepeatsKeyAt k (scope_at q t) (insert others gap new) r key) same (subst (λ (xs : List Tree). RepeatsKeyAt b.0 (scope_at q t) xs r key) kids_are b.1.1.1.1) in
        (r, (b.1.1.1.0, beside_to kind (scope_at q t) others new gap le (clean kind is) r key clash))

    -- the first clash of the document is the first beside the change
    pub first_to : (found : Option Clash) → IsFirstInOrder R q found → IsFirstClash u (change_at q f t) found
    first_to None g = λ p key h. let r = clash_to p key h in g r.0 key r.1.1
    first_to (Some clash) g = (
      subst (λ (z : List ℕ). ClashesAt u (change_at q f t) z clash.key) (sym g.1.0) (clash_from g.0 clash.key g.1.1),
      λ p key h.
          let r = clash_to p key h in
          subst (λ (z : List ℕ). IsNotAfter z p) (sym g.1.0) (subst (λ (z : List ℕ). IsNotAfter (q ++ g.0) z) (sym r.1.0) (later_on q g.0 r.0 (g.1.2 r.0 key r.1.1))),
    )

    pub first_from : (found : Option Clash) → IsFirstClash u (change_at q f t) found → IsFirstInOrder R q found
    first_from None g = λ r key h. g (q ++ r) key (clash_from r key h)
    first_from (Some clash) g =
        let s = clash_to clash.path clash.key g.0 in (
          s.0,
          (
            s.1.0,
            s.1.1,
            λ r key h. later_back q s.0 r (subst (λ (z : List ℕ). IsNotAfter z (q ++ r)) s.1.0 (g.1 (q ++ r) key (clash_from r key h))),
          ),
        )

  -- a foreign parent, or one in a foreign element, has no clashes
  pub none_foreign : kind_at u t q ≡ None → HasUniqueKeys u (change_at q f t)
  none_foreign none p key h =
      let b = clash_beside u t parent q f p key tag there unique h in
      none-some b.0 (sym none ∙ b.1.0)

-- ---- the first clash beside the change

module _ (row : ElementKind) (c : Scope) (child_elements : List Tree) (new : Tree) (gap : ℕ) (base : List ℕ) where
  abbrev B : List ℕ → Key → Type 0
  B = ClashesBeside (record { kind = row; scope = c; elements = child_elements }) new gap

  -- the first clash in the new element, where no sibling before it has its key
  pub first_in_new : (clash : Clash) → ((i : ℕ) (key : Key) → i < gap → IsDuplicate (record { kind = row; scope = c; elements = child_elements }) new i key → ⊥) → IsFirstInOrder (ClashesInside row c new) (base ++ gap ∷ []) (Some clash) → IsFirstInOrder B base (Some clash)
  first_in_new clash none f = (gap ∷ f.0, (f.1.0 ∙ append_assoc base (gap ∷ []) f.0, inr (inl (f.0, (refl, f.1.1))), later))
    where
      later : (r : List ℕ) (key : Key) → B r key → IsNotAfter (gap ∷ f.0) r
      later r key (inl (e, (i, (lt, h)))) = absurd (none i key lt h)
      later r key (inr (inl (p, (e, h)))) = subst (λ (z : List ℕ). IsNotAfter (gap ∷ f.0) z) (sym e) (inr (refl, f.1.2 p key h))
      later r key (inr (inr (j, (e, (from, h))))) = subst (λ (z : List ℕ). IsNotAfter (gap ∷ f.0) z) (sym e) (inl (omega arith))

  -- else the sibling after it that has its key
  pub first_behind : (i : ℕ) (clash : Clash) → ((r : List ℕ) (key : Key) → RepeatsKeyAt row c child_elements r key → ⊥) → gap ≤ length child_elements → clash.path ≡ base ++ suc i ∷ [] → gap ≤ i → IsDuplicate (record { kind = row; scope = c; elements = child_elements }) new i clash.key → HasUniqueKeysInside row c new → IsFirstInOrder B base (Some clash)
  first_behind i clash unique le is from t none = (suc i ∷ [], (is, inr (inr (i, (refl, (from, t)))), later))
    where
      later : (r : List ℕ) (key : Key) → B r key → IsNotAfter (suc i ∷ []) r
      later r key (inl (e, (j, (lt, h)))) = let same = one_twin row c child_elements new gap le unique i j clash.key key t h in absurd (omega arith)
      later r key (inr (inl (p, (e, h)))) = absurd (none p key h)
      later r key (inr (inr (j, (e, (from', h))))) = let same = one_twin row c child_elements new gap le unique i j clash.key key t h in subst (λ (z : List ℕ). IsNotAfter (suc i ∷ []) z) (sym e) (inr (ap suc same, tt))

  -- else none
  pub no_first : HasNoDuplicate (record { kind = row; scope = c; elements = child_elements }) new → HasUniqueKeysInside row c new → IsFirstInOrder B base None
  no_first none inside r key (inl (e, (i, (lt, t)))) = none i key t
  no_first none inside r key (inr (inl (p, (e, h)))) = inside p key h
  no_first none inside r key (inr (inr (i, (e, (from, t))))) = none i key t

-- ---- uniqueness

side : (i gap : ℕ) → (i < gap) ⊎ (gap ≤ i)
side i gap = grind arith

module _ (u : Usage) (t parent new : Tree) (q : List ℕ) (f : Tree → Tree) (others : List Tree) (gap : ℕ) (tag : KeepsStartTag f) (there : at q t ≡ Some parent) (kids_are : child_elements_of (f parent) ≡ insert others gap new) (le : gap ≤ length others) (unique : HasUniqueKeys u t)
    (clean : (kind : ElementKind) → kind_at u t q ≡ Some kind → (r : List ℕ) (key : Key) → RepeatsKeyAt kind (scope_at q t) others r key → ⊥) where
  abbrev IsClean : Type 0
  IsClean = ForSome (kind_at u t q) (λ kind. HasNoDuplicate (record { kind = kind; scope = scope_at q t; elements = others }) new × HasUniqueKeysInside kind (scope_at q t) new)

  unique_to : HasUniqueKeys u (change_at q f t) → IsClean
  unique_to after kind is =
      let clash = clash_from u t parent new q f others gap tag there kids_are le unique clean kind is in (
        λ i key twin. elim (side i gap) [
          | inl lt ↦ after (q ++ gap ∷ []) key (clash (gap ∷ []) key (inl (refl, (i, (lt, twin)))))
          | inr ge ↦ after (q ++ suc i ∷ []) key (clash (suc i ∷ []) key (inr (inr (i, (refl, (ge, twin))))))
        ],
        λ p key h. after (q ++ gap ∷ p) key (clash (gap ∷ p) key (inr (inl (p, (refl, h))))),
      )

  unique_from : (o : Option ElementKind) → kind_at u t q ≡ o → IsClean → HasUniqueKeys u (change_at q f t)
  unique_from None is h = none_foreign u t parent new q f others gap tag there kids_are le unique clean is
  unique_from (Some kind) is h =
      let x = h kind is in
      first_to u t parent new q f others gap tag there kids_are le unique clean kind is None (no_first kind (scope_at q t) others new gap q x.0 x.1)

  pub unique_after : HasUniqueKeys u (change_at q f t) ↔ IsClean
  unique_after = (unique_to, unique_from (kind_at u t q) refl)

-- ---- an insertion

module _ (u : Usage) (t parent new : Tree) (q : List ℕ) (gap : ℕ) (there : at q t ≡ Some parent) (le : gap ≤ length (child_elements_of parent)) (unique : HasUniqueKeys u t) where
  kids_put : child_elements_of (put_kid gap new parent) ≡ insert (child_elements_of parent) gap new
  kids_put = child_elements-put gap new parent.content le

  clean_there : (kind : ElementKind) → kind_at u t q ≡ Some kind → (r : List ℕ) (key : Key) → RepeatsKeyAt kind (scope_at q t) (child_elements_of parent) r key → ⊥
  clean_there kind is = unique_there u t parent q kind there is unique

  pub first_put : (kind : ElementKind) → kind_at u t q ≡ Some kind → (found : Option Clash) → IsFirstInOrder (ClashesBeside (record { kind = kind; scope = scope_at q t; elements = child_elements_of parent }) new gap) q found ↔ IsFirstClash u (put_in q gap new t) found
  first_put kind is found = (
    first_to u t parent new q (put_kid gap new) (child_elements_of parent) gap (λ e. refl) there kids_put le unique clean_there kind is found,
    first_from u t parent new q (put_kid gap new) (child_elements_of parent) gap (λ e. refl) there kids_put le unique clean_there kind is found,
  )

  pub foreign_put : kind_at u t q ≡ None → HasUniqueKeys u (put_in q gap new t)
  foreign_put none = none_foreign u t parent new q (put_kid gap new) (child_elements_of parent) gap (λ e. refl) there kids_put le unique clean_there none

  pub unique_put : HasUniqueKeys u (put_in q gap new t) ↔ ForSome (kind_at u t q) (λ kind. HasNoDuplicate (record { kind = kind; scope = scope_at q t; elements = child_elements_of parent }) new × HasUniqueKeysInside kind (scope_at q t) new)
  unique_put = unique_after u t parent new q (put_kid gap new) (child_elements_of parent) gap (λ e. refl) there kids_put le unique clean_there

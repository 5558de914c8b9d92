-- The two sides of an insertion point, computed from the existing children; and when no insertion
-- point is lawful.
use Rattle.std.specs.Prelude.{◌&&◌, not}
use Rattle.std.proofs.Common.{◌≡◌, ◌↔◌, ◌≤◌, ◌<◌, ◌+◌, inl, inr, ℕ, zero, suc, Bool, true, false, List, length, take, count_by, Option, Some, None, Result, Ok, Err, slice_get, IsTrue, refl, sym, ap, ◌∙◌, subst, arith}
use Rattle.std.specs.Option.{ForSome}
use Rattle.std.proofs.lemmas.Option.{same_Some, none-some, slice_get_within}
use Rattle.std.proofs.lemmas.Bool.{cases_lt}
use Rattle.node_select.specs.StepSelection.{StepTests, Matches, is_at_position}
use Rattle.edit_plans.specs.inner.ChildChangeResults.{without_position}
use Rattle.node_select.specs.InsertionPoints.{AllowsInsertion, IsLawfulInsertion, IsInsertionPlan}
use Rattle.node_select.proofs.SelectionAgreement.{any_position, is_at_position_is}
use Rattle.node_select.proofs.GapLaws.{lawful_by_count, lawful_free}
use Rattle.xml_tree.specs.Tree.{Content, last, more, comment_node, Tree, tree_of, child_elements}
use Rattle.usage_docs.specs.declared.schema_table.ElementKind.{ElementKind}
use Rattle.usage_docs.specs.SchemaTable.{Scope}
use Rattle.usage_docs.specs.readers.ContentParts.{may_follow, end_part}
use Rattle.usage_docs.specs.Validity.{IsValidChild}
use Rattle.usage_docs.specs.readers.NeighbourParts.{FitsGapByParts, part_of_child, part_before, part_after}
use Rattle.edit_plans.specs.inner.Neighbours.{part_in, fits_between, FitsInsertionPoint, FitsReplacement, FitsInPlaceOfChild}
use Rattle.edit_plans.proofs.ParentAnswers.{true_false}

-- ---- the children beside an insertion point

module _ (row : ElementKind) (c : Scope) where
  after_is : (content : Content) (j : ℕ) (child_element : Tree) → slice_get (child_elements content) j ≡ Some child_element → part_after row c j content ≡ part_of_child row c child_element
  after_is (last t) j child_element h = cc
  after_is (more t n ds ats k rest) zero child_element h = ap (part_of_child row c) (same_Some (tree_of n ds ats k) child_element h)
  after_is (more t n ds ats k rest) (suc j) child_element h = after_is rest j child_element h
  after_is (comment_node t x rest) zero child_element h = after_is rest zero child_element h
  after_is (comment_node t x rest) (suc j) child_element h = after_is rest (suc j) child_element h

  pub after_end : (content : Content) (j : ℕ) → length (child_elements content) ≤ j → part_after row c j content ≡ end_part
  after_end (last t) zero h = refl
  after_end (last t) (suc j) h = refl
  after_end (more t n ds ats k rest) zero h = absurd (omega arith)
  after_end (more t n ds ats k rest) (suc j) h = after_end rest j (omega arith)
  after_end (comment_node t x rest) zero h = after_end rest zero h
  after_end (comment_node t x rest) (suc j) h = after_end rest (suc j) h

  before_is : (content : Content) (b j : ℕ) (child_element : Tree) → slice_get (child_elements content) j ≡ Some child_element → part_before row c b (suc j) content ≡ part_of_child row c child_element
  before_is (last t) b j child_element h = cc
  before_is (more t n ds ats k rest) b zero child_element h = ap (part_of_child row c) (same_Some (tree_of n ds ats k) child_element h)
  before_is (more t n ds ats k rest) b (suc j) child_element h = before_is rest (part_of_child row c (tree_of n ds ats k)) j child_element h
  before_is (comment_node t x rest) b j child_element h = before_is rest b j child_element h

pub after_kid : (row : Option ElementKind) (c : Scope) (content : Content) (j : ℕ) (child_element : Tree) (next : ℕ) → slice_get (child_elements content) j ≡ Some child_element → next ≡ part_in row c child_element → ForSome row (λ kind. next ≡ part_after kind c j content)
after_kid row c content j child_element next there h kind is = h ∙ ap (λ (o : Option ElementKind). part_in o c child_element) is ∙ sym (after_is kind c content j child_element there)

pub before_kid : (row : Option ElementKind) (c : Scope) (content : Content) (j j' : ℕ) (child_element : Tree) (next : ℕ) → j' ≡ suc j → slice_get (child_elements content) j ≡ Some child_element → next ≡ part_in row c child_element → ForSome row (λ kind. next ≡ part_before kind c 0 j' content)
before_kid row c content j j' child_element next step there h kind is =
    h ∙ ap (λ (o : Option ElementKind). part_in o c child_element) is ∙ sym (before_is kind c content 0 j child_element there) ∙ ap (λ (n : ℕ). part_before kind c 0 n content) (sym step)

pub end_behind : (row : Option ElementKind) (c : Scope) (content : Content) (j : ℕ) → j ≡ length (child_elements content) → ForSome row (λ kind. end_part ≡ part_after kind c j content)
end_behind row c content j same kind is = sym (after_end kind c content j (omega arith))

three : (a b c : Bool) → IsTrue (a && (b && c)) ↔ (IsTrue a × IsTrue b × IsTrue c)
three true true c = (λ h. (refl, refl, h), λ h. h.2)
three true false c = (λ h. cc, λ h. let f : false ≡ true = h.1 in cc)
three false b c = (λ h. cc, λ h. let f : false ≡ true = h.0 in cc)

fits_by : (kind : ElementKind) (itself : Bool) (V : Type 0) (b b' p p' a a' : ℕ) → (IsTrue itself ↔ V) → b ≡ b' → p ≡ p' → a ≡ a' → IsTrue (itself && (may_follow kind b p && may_follow kind p a)) ↔ (V × IsTrue (may_follow kind b' p') × IsTrue (may_follow kind p' a'))
fits_by kind itself V b b' p p' a a' valid sb sp sa =
    let t = three itself (may_follow kind b p) (may_follow kind p a) in
    let low : may_follow kind b p ≡ may_follow kind b' p' = ap (λ (n : ℕ). may_follow kind n p) sb ∙ ap (may_follow kind b') sp in
    let high : may_follow kind p a ≡ may_follow kind p' a' = ap (λ (n : ℕ). may_follow kind n a) sp ∙ ap (may_follow kind p') sa in (
      λ h. let x = t.0 h in (valid.0 x.0, sym low ∙ x.1, sym high ∙ x.2),
      λ h. t.1 (valid.1 h.0, low ∙ h.1, high ∙ h.2),
    )

pub fits_is : (row : Option ElementKind) (c : Scope) (content : Content) (new : Tree) (j : ℕ) (itself valid : Bool) (before part after : ℕ)
    → ForSome row (λ kind. IsTrue itself ↔ IsValidChild kind c new) → part ≡ part_in row c new → ForSome row (λ kind. before ≡ part_before kind c 0 j content) → ForSome row (λ kind. after ≡ part_after kind c j content)
    → valid ≡ fits_between row itself before part after → IsTrue valid ↔ FitsInsertionPoint row c content new j
fits_is None c content new j itself valid before part after v p b a is = (λ h kind some. absurd (none-some kind some), λ h. is)
fits_is (Some kind) c content new j itself valid before part after v p b a is =
    let f = fits_by kind itself (IsValidChild kind c new) before (part_before kind c 0 j content) part (part_of_child kind c new) after (part_after kind c j content) (v kind refl) (b kind refl) p (a kind refl) in (
      λ h k some. subst (λ (x : ElementKind). FitsGapByParts x c content new j) (same_Some kind k some) (f.0 (sym is ∙ h)),
      λ h. is ∙ f.1 (h kind refl),
    )

-- the children beside a replaced one
pub over_is : (row : Option ElementKind) (c : Scope) (content : Content) (new : Tree) (i : ℕ) (itself valid : Bool) (before part after : ℕ)
    → ForSome row (λ kind. IsTrue itself ↔ IsValidChild kind c new) → part ≡ part_in row c new → ForSome row (λ kind. before ≡ part_before kind c 0 i content) → ForSome row (λ kind. after ≡ part_after kind c (suc i) content)
    → valid ≡ fits_between row itself before part after → IsTrue valid ↔ FitsReplacement row c content new i
over_is None c content new i itself valid before part after v p b a is = (λ h kind some. absurd (none-some kind some), λ h. is)
over_is (Some kind) c content new i itself valid before part after v p b a is =
    let f = fits_by kind itself (IsValidChild kind c new) before (part_before kind c 0 i content) part (part_of_child kind c new) after (part_after kind c (suc i) content) (v kind refl) (b kind refl) p (a kind refl) in (
      λ h k some. subst (λ (x : ElementKind). FitsInPlaceOfChild x c content new i) (same_Some kind k some) (f.0 (sym is ∙ h)),
      λ h. is ∙ f.1 (h kind refl),
    )

-- ---- the number before an insertion point decides, where the rest is known

pub lawful_here : (step : StepTests Tree) (xs : List Tree) (e : Tree) (gap before : ℕ) (lawful : Bool) → gap ≤ length xs → IsTrue (step.named e) → IsTrue (step.tested e) → AllowsInsertion step xs → before ≡ count_by step.named (take gap xs)
    → lawful ≡ is_at_position step.position before → IsTrue lawful ↔ IsLawfulInsertion step xs e gap
lawful_here step xs e gap before lawful le n t free counted is =
    let p = is_at_position_is step.position before in
    let l = lawful_by_count step xs e gap before le n t free counted in
    (λ h. l.0 (p.0 (sym is ∙ h)), λ h. is ∙ p.1 (l.1 h))

-- ---- no insertion point is lawful

none_planned : {E : Type 0} (unlawful invalid : E) (L V : ℕ → Type 0) (many : ℕ) → ((k : ℕ) → k < many + 1 → L k → ⊥) → IsInsertionPlan unlawful invalid L V (many + 1) (Err unlawful)
none_planned unlawful invalid L V many h = inl (refl, record { none = h })

module _ {E : Type 0} (unlawful invalid : E) (step : StepTests Tree) (xs : List Tree) (e : Tree) (V : ℕ → Type 0) where
  pub not_free : (AllowsInsertion step xs → ⊥) → IsInsertionPlan unlawful invalid (IsLawfulInsertion step xs e) V (length xs + 1) (Err unlawful)
  not_free no_room = none_planned unlawful invalid (IsLawfulInsertion step xs e) V (length xs) (λ k lt l. no_room (lawful_free step xs e k (omega arith) l))

-- ---- the last insertion point of all, where the step has no position

pub last_of_all : {E : Type 0} (unlawful invalid : E) (step : StepTests Tree) (xs : List Tree) (e : Tree) (V : ℕ → Type 0) (many : ℕ) → many ≡ length xs → step.position ≡ None → IsTrue (step.named e) → IsTrue (step.tested e) → AllowsInsertion step xs → V many
    → IsInsertionPlan unlawful invalid (IsLawfulInsertion step xs e) V (length xs + 1) (Ok many)
last_of_all unlawful invalid step xs e V many same none n t free fits =
    let before = count_by step.named (take many xs) in
    let l = lawful_by_count step xs e many before (omega arith) n t free refl in
    record {
      within = omega arith;
      is_lawful = l.0 (any_position step.position before none);
      is_valid = fits;
      last = λ k lt lawful valid. omega arith;
    }

-- ---- whether some child passes both tests

pub match_of : {A : Type 0} (step : StepTests A) (xs : List A) (i : ℕ) (x : A) → slice_get xs i ≡ Some x → IsTrue (step.named x) → IsTrue (step.tested x) → Matches (without_position step) xs i
match_of step xs i x there n t = record { child_element = x; there = there; is_named = n; at_position = tt; is_tested = t }

-- where the step has no position, it may be left out
at_any_position : {A : Type 0} (step : StepTests A) (xs : List A) (i : ℕ) → Matches step xs i → Matches (without_position step) xs i
at_any_position step xs i m = record { child_element = m.child_element; there = m.there; is_named = m.is_named; at_position = tt; is_tested = m.is_tested }

at_position : {A : Type 0} (step : StepTests A) (xs : List A) (i : ℕ) → step.position ≡ None → Matches (without_position step) xs i → Matches step xs i
at_position step xs i none m = record { child_element = m.child_element; there = m.there; is_named = m.is_named; at_position = any_position step.position _ none; is_tested = m.is_tested }

-- none of the first n
abbrev pub NoneUpTo : {A : Type 0} → StepTests A → List A → ℕ → Type 0
NoneUpTo step xs n = (k : ℕ) → k < n → Matches (without_position step) xs k → ⊥

pub none_more : {A : Type 0} (step : StepTests A) (xs : List A) (i i' : ℕ) (x : A) → i' ≡ i + 1 → slice_get xs i ≡ Some x → (IsTrue (step.named x) × IsTrue (step.tested x) → ⊥) → NoneUpTo step xs i → NoneUpTo step xs i'
none_more step xs i i' x next there fails none k lt m =
    elim (cases_lt k i) [
      | inl below ↦ none k below m
      | inr from ↦ (
          let same : k ≡ i = omega arith in
          let child_element : m.child_element ≡ x = same_Some _ _ (sym m.there ∙ ap (slice_get xs) same ∙ there) in
          fails (ap step.named (sym child_element) ∙ m.is_named, ap step.tested (sym child_element) ∙ m.is_tested))
    ]

pub none_at_all : {A : Type 0} (step : StepTests A) (xs : List A) (n : ℕ) → n ≡ length xs → NoneUpTo step xs n → (k : ℕ) × Matches (without_position step) xs k → ⊥
none_at_all step xs n end_part none (k, m) = none k (let lt = slice_get_within xs k m.child_element m.there in omega arith) m

-- a plan at equal numbers and results
pub plan_at : {E : Type 0} (unlawful invalid : E) (L V : ℕ → Type 0) (n n' : ℕ) (r r' : Result ℕ E) → n' ≡ n → r' ≡ r → IsInsertionPlan unlawful invalid L V n r → IsInsertionPlan unlawful invalid L V n' r'
plan_at {E = E} unlawful invalid L V n n' r r' sn sr h = subst (λ (k : ℕ). IsInsertionPlan unlawful invalid L V k r') (sym sn) (subst (λ (x : Result ℕ E). IsInsertionPlan unlawful invalid L V n x) (sym sr) h)

-- the test that no other child keeps the new one from being selected
pub free_none : (step : StepTests Tree) (xs : List Tree) (some free : Bool) → step.position ≡ None → free ≡ not some → IsTrue some ↔ ((k : ℕ) × Matches (without_position step) xs k) → IsTrue free ↔ AllowsInsertion step xs
free_none step xs true free none is found = (
  λ h. let z : true ≡ false = sym h ∙ is in cc,
  λ f. let m = found.0 refl in absurd (f none m.0 (at_position step xs m.0 none m.1)),
)
free_none step xs false free none is found = (
  λ h none' k m. true_false false (found.1 (k, at_any_position step xs k m)) refl,
  λ f. is,
)

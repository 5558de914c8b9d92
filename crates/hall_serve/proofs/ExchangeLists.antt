-- Exchanges, and one more after the others.
use Rattle.std.proofs.Common.{◌≡◌, ◌≢◌, ℕ, suc, ◌+◌, ◌==◌, ◌⊎◌, inl, inr, Bool, true, false, true≢false, if◌then◌else◌, List, [], ◌∷◌, ◌++◌, length, Option, refl, sym, ap, subst, ◌∙◌, append_assoc, arith}
use Rattle.std.specs.Prelude.{option_to_list}
use Rattle.std.proofs.lemmas.Bool.Decides.{eqb_tells}
use Rattle.http_wire.specs.declared.request.Request.{Request}
use Rattle.http_wire.specs.ConnectionItems.{Item, asks, bad, too_long, coded, IsFirstItem, IsKnownFirstItem}
use Rattle.http_wire.proofs.WholeItems.{asks-append}
use Rattle.hall_serve.specs.Exchanges.{Exchange, AreExchanges, edits, last_closes, exchanges_on, replies}
use Rattle.hall_serve.specs.ServedConnections.{BeginsWithItem, BeginsWithItems}

-- an item that is known to come first, where no end was found, does so after more bytes, and at their end
known_after : (before : ℕ) (bytes more : List ℕ) (ended : Bool) (item : Item) → IsKnownFirstItem before bytes false item → IsKnownFirstItem before (bytes ++ more) ended item
known_after before bytes more ended item (inl each) = inl (λ others. subst (λ (l : List ℕ). (rest : List ℕ) × IsFirstItem before l item rest) (sym (append_assoc bytes more others)) (each (more ++ others)))
known_after before bytes more ended item (inr (none, _)) = absurd (true≢false (sym none))

item_after : (before : ℕ) (bytes more : List ℕ) (ended : Bool) (item : Item) (rest : List ℕ) → BeginsWithItem before bytes false item rest → BeginsWithItem before (bytes ++ more) ended item (rest ++ more)
item_after before bytes more ended (asks request) rest is = asks-append before bytes more request rest is
item_after before bytes more ended bad rest is = known_after before bytes more ended bad is
item_after before bytes more ended too_long rest is = known_after before bytes more ended too_long is
item_after before bytes more ended coded rest is = known_after before bytes more ended coded is

module _ {E : Type 0} where
  -- those of one connection
  pub on-append : (n : ℕ) (xs ys : List (Exchange E)) → exchanges_on n (xs ++ ys) ≡ exchanges_on n xs ++ exchanges_on n ys
  on-append n [] ys = refl
  on-append n (x ∷ xs) ys = by_test (on-append n xs ys) (x.connection == n)
    where
      by_test : exchanges_on n (xs ++ ys) ≡ exchanges_on n xs ++ exchanges_on n ys → (b : Bool) → (if b then x ∷ exchanges_on n (xs ++ ys) else exchanges_on n (xs ++ ys)) ≡ (if b then x ∷ exchanges_on n xs else exchanges_on n xs) ++ exchanges_on n ys
      by_test e true = ap (λ (l : List (Exchange E)). x ∷ l) e
      by_test e false = e

  pub on-one : (n : ℕ) (x : Exchange E) → x.connection ≡ n → exchanges_on n (x ∷ []) ≡ x ∷ []
  on-one n x same = by_test (eqb_tells x.connection n)
    where
      by_test : (((x.connection == n) ≡ true) × (x.connection ≡ n)) ⊎ (((x.connection == n) ≡ false) × (x.connection ≢ n)) → exchanges_on n (x ∷ []) ≡ x ∷ []
      by_test (inl (is, e)) = ap (λ (b : Bool). if b then x ∷ [] else []) is
      by_test (inr (is, other)) = absurd (other same)

  pub on-other : (n : ℕ) (x : Exchange E) → x.connection ≢ n → exchanges_on n (x ∷ []) ≡ []
  on-other n x other = by_test (eqb_tells x.connection n)
    where
      by_test : (((x.connection == n) ≡ true) × (x.connection ≡ n)) ⊎ (((x.connection == n) ≡ false) × (x.connection ≢ n)) → exchanges_on n (x ∷ []) ≡ []
      by_test (inl (is, e)) = absurd (other e)
      by_test (inr (is, o)) = ap (λ (b : Bool). if b then x ∷ [] else []) is

  pub replies-append : (xs ys : List (Exchange E)) → replies (xs ++ ys) ≡ replies xs ++ replies ys
  replies-append [] ys = refl
  replies-append (x ∷ xs) ys = ap (λ (l : List ℕ). x.reply ++ l) (replies-append xs ys) ∙ sym (append_assoc x.reply (replies xs) (replies ys))

  pub edits-append : (xs ys : List (Exchange E)) → edits (xs ++ ys) ≡ edits xs ++ edits ys
  edits-append [] ys = refl
  edits-append (x ∷ xs) ys = ap (λ (l : List E). option_to_list x.edit ++ l) (edits-append xs ys) ∙ sym (append_assoc (option_to_list x.edit) (edits xs) (edits ys))

  pub last_added : (xs : List (Exchange E)) (x : Exchange E) → last_closes (xs ++ x ∷ []) ≡ x.closes
  last_added [] x = refl
  last_added (y ∷ []) x = refl
  last_added (y ∷ z ∷ xs) x = last_added (z ∷ xs) x

  -- more bytes, or their end, where no end was found
  pub items_after : (before : ℕ) (bytes more : List ℕ) (ended : Bool) (exchanges : List (Exchange E)) (rest : List ℕ) → BeginsWithItems before bytes false exchanges rest → BeginsWithItems before (bytes ++ more) ended exchanges (rest ++ more)
  items_after before bytes more ended [] rest is = ap (λ (l : List ℕ). l ++ more) is
  items_after before bytes more ended (exchange ∷ exchanges) rest (behind, first, last, others) =
      (behind ++ more, item_after before bytes more ended exchange.item behind first, last, items_after (before + 1) behind more ended exchanges rest others)

  -- one item more, after those of which none ends the connection
  pub one_item_more : (before : ℕ) (bytes : List ℕ) (ended : Bool) (exchanges : List (Exchange E)) (exchange : Exchange E) (held rest : List ℕ) → last_closes exchanges ≡ false
      → BeginsWithItems before bytes ended exchanges held → BeginsWithItem (before + length exchanges) held ended exchange.item rest → BeginsWithItems before bytes ended (exchanges ++ exchange ∷ []) rest
  one_item_more before bytes ended [] exchange held rest goes_on is first =
      let here : before + 0 ≡ before = omega arith in
      (rest, subst (λ (n : ℕ). BeginsWithItem n bytes ended exchange.item rest) here (subst (λ (l : List ℕ). BeginsWithItem (before + 0) l ended exchange.item rest) (sym is) first), (λ _. refl), refl)
  one_item_more before bytes ended (x ∷ []) exchange held rest goes_on (behind, one, last, others) first = (
    behind,
    one,
    (λ closes. absurd (true≢false (sym closes ∙ goes_on))),
    one_item_more (before + 1) behind ended [] exchange held rest refl others
        (let here : before + 1 ≡ before + 1 + 0 = omega arith in subst (λ (n : ℕ). BeginsWithItem n held ended exchange.item rest) here first),
  )
  one_item_more before bytes ended (x ∷ y ∷ exchanges) exchange held rest goes_on (behind, one, last, others) first = (
    behind,
    one,
    (λ closes. absurd (let no : ⊥ = cons_nil (last closes) in no)),
    one_item_more (before + 1) behind ended (y ∷ exchanges) exchange held rest goes_on others
        (let here : before + suc (suc (length exchanges)) ≡ before + 1 + suc (length exchanges) = omega arith in subst (λ (n : ℕ). BeginsWithItem n held ended exchange.item rest) here first),
  )
    where
      cons_nil : y ∷ exchanges ≡ [] → ⊥
      cons_nil e = cc

module _ {M E : Type 0} (Step : M → Request → List ℕ → M → Option E → Type 0) where
  pub steps-append : (machine mid next : M) (xs ys : List (Exchange E)) → AreExchanges Step machine xs mid → AreExchanges Step mid ys next → AreExchanges Step machine (xs ++ ys) next
  steps-append machine mid next [] ys same steps = subst (λ (m : M). AreExchanges Step m ys next) same steps
  steps-append machine mid next (x ∷ xs) ys (between, one, others) steps = (between, one, steps-append between mid next xs ys others steps)

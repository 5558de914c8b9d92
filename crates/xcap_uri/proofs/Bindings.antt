-- Queries read item by item, and URIs character by character.
use Rattle.std.proofs.Common.{◌≡◌, ℕ, zero, suc, ◌+◌, ◌-◌, ◌<◌, List, [], ◌∷◌, ◌++◌, length, Result, Ok, Err, refl, ap, ◌∙◌, sym, append_assoc, ◌⊎◌, inl, inr, arith}
use Rattle.xml_grammar.specs.TextReading.{drop_while}
use Rattle.xml_names.specs.declared.names.Decl.{Decl}
use Rattle.xml_names.specs.declared.read_error.ReadError.TheVariants.{NoMemory}
use Rattle.xcap_uri.specs.readers.Steps.{UriError, ◌>>=◌}
use Rattle.xcap_uri.specs.Queries.{is_blank}
use Rattle.xcap_uri.specs.readers.Queries.{ReadResult, parsed_item, parsed_items}
use Rattle.xcap_uri.specs.readers.UriSteps.{with_chars, with_items}

-- ---- the characters of a URI

pub no_char_yet : (read : ReadResult (List ℕ)) → read ≡ with_chars [] read
no_char_yet (Ok x) = refl
no_char_yet (Err e) = refl

-- ---- the items of a query

abbrev Items : Type 0
Items = Result (List Decl) UriError

module _ (total : Items) (front : List Decl) (n : ℕ) (rest : List ℕ) (so_far : total ≡ with_items front (parsed_items n rest)) where
  pub item_fails : (m : ℕ) (e : UriError) → n ≡ m + 1 → 0 < length rest → parsed_item rest ≡ Err e → total ≡ Err e
  item_fails m e count some h = so_far ∙ fails n rest count some h
    where
      fails : (n : ℕ) (rest : List ℕ) → n ≡ m + 1 → 0 < length rest → parsed_item rest ≡ Err e → with_items front (parsed_items n rest) ≡ Err e
      fails zero rest count some h = absurd (omega (arith, count))
      fails (suc n) [] count some h = absurd (omega (arith, some))
      fails (suc n) (c ∷ cs) count some h = rw h refl

  pub item_more : (m : ℕ) (item : Decl) (after : List ℕ) → n ≡ m + 1 → 0 < length rest → parsed_item rest ≡ Ok (item, after) → total ≡ with_items (front ++ item ∷ []) (parsed_items m (drop_while is_blank after))
  item_more m item after count some h = so_far ∙ more n rest count some h
    where
      longer : (out : Items) → with_items front (out >>= λ items. Ok (item ∷ items)) ≡ with_items (front ++ item ∷ []) out
      longer (Ok items) = ap (λ (l : List Decl). let r : Items = Ok l in r) (sym (append_assoc front (item ∷ []) items))
      longer (Err e) = refl

      more : (n : ℕ) (rest : List ℕ) → n ≡ m + 1 → 0 < length rest → parsed_item rest ≡ Ok (item, after) → with_items front (parsed_items n rest) ≡ with_items (front ++ item ∷ []) (parsed_items m (drop_while is_blank after))
      more zero rest count some h = absurd (omega (arith, count))
      more (suc n) [] count some h = absurd (omega (arith, some))
      more (suc n) (c ∷ cs) count some h = let k : n ≡ m = omega (arith, count) in rw (h, k) (longer (parsed_items m (drop_while is_blank after)))

-- what the code has read of an item
module _ (total : Items) (front : List Decl) (count i : ℕ) (rest : List ℕ) (more : i < count) (some : 0 < length rest) (so_far : total ≡ with_items front (parsed_items (count - i) rest)) where
  pub fails : (e : UriError) → (parsed_item rest ≡ Err e) ⊎ (e ≡ NoMemory) → (Err e ≡ total) ⊎ (let want : Items = Err NoMemory in Err e ≡ want)
  fails e (inl h) = inl (sym (item_fails total front (count - i) rest so_far (count - (i + 1)) e (omega arith) some h))
  fails e (inr h) = inr (ap (λ (f : UriError). let r : Items = Err f in r) h)

  pub goes_on : (item : Decl) (after : List ℕ) → parsed_item rest ≡ Ok (item, after) → total ≡ with_items (front ++ item ∷ []) (parsed_items (count - (i + 1)) (drop_while is_blank after))
  goes_on item after h = item_more total front (count - i) rest so_far (count - (i + 1)) item after (omega arith) some h

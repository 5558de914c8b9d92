-- What lists of declarations declare, and scopes down a path.
use Rattle.std.proofs.Common.{◌≡◌, ℕ, suc, ◌+◌, ◌<◌, List, [], ◌∷◌, ◌++◌, length, drop, get_or, map, Option, Some, None, Bor, cond, bytes_eq, refl, sym, ap, ◌∙◌, add-one, drop-cons}
use Rattle.std.specs.Option.{option_or}
use Rattle.xml_names.specs.declared.names.Decl.{Decl}
use Rattle.xml_names.specs.Scopes.{declared_uri, scope_decls}

-- the rest of a list, from an element on
pub drop_item : {A : Type 0} (xs : List A) (i : ℕ) (x : A) → i < length xs → x ≡ get_or xs i x → drop i xs ≡ x ∷ drop (i + 1) xs
drop_item xs i x within is = drop-cons xs i x within ∙ ap (λ y. y ∷ drop (suc i) xs) (sym is) ∙ ap (λ j. x ∷ drop j xs) (sym (add-one i))

pub option_or-assoc : (a b c : Option (List ℕ)) → option_or a (option_or b c) ≡ option_or (option_or a b) c
option_or-assoc None b c = refl
option_or-assoc (Some a) b c = refl

pub option_or-none : (a : Option (List ℕ)) → option_or a None ≡ a
option_or-none None = refl
option_or-none (Some a) = refl

pub declared-append : (xs ys : List Decl) (p : List ℕ) → declared_uri (xs ++ ys) p ≡ option_or (declared_uri ys p) (declared_uri xs p)
declared-append [] ys p = sym (option_or-none (declared_uri ys p))
declared-append (d ∷ xs) ys p =
    ap (λ o. option_or o (cond (bytes_eq d.prefix p) (Some d.uri) None)) (declared-append xs ys p)
    ∙ sym (option_or-assoc (declared_uri ys p) (declared_uri xs p) (cond (bytes_eq d.prefix p) (Some d.uri) None))

pub declared-scope_decls : (ds : List Decl) (c : List (List Decl)) (p : List ℕ) → declared_uri (scope_decls (ds ∷ c)) p ≡ option_or (declared_uri (scope_decls c) p) (declared_uri ds p)
declared-scope_decls ds c p = declared-append ds (scope_decls c) p

pub ruleset declared_steps = (declared-scope_decls, option_or-assoc, option_or-none)

-- ---- one more list, in a loop over the lists
module _ (p : List ℕ) where
  abbrev pub of_lists : List (Bor (List Decl)) → Option (List ℕ)
  of_lists ls = declared_uri (scope_decls (map (λ x. x.now) ls)) p

  pub of_lists_next : (ls : List (Bor (List Decl))) (i : ℕ) (x : Bor (List Decl)) → i < length ls → x ≡ get_or ls i x
      → of_lists (drop i ls) ≡ option_or (of_lists (drop (i + 1) ls)) (declared_uri x.now p)
  of_lists_next ls i x within is =
      ap of_lists (drop_item ls i x within is) ∙ declared-scope_decls x.now (map (λ y. y.now) (drop (i + 1) ls)) p

  pub nearer : (ls : List (Bor (List Decl))) (i : ℕ) (x : Bor (List Decl)) (found new whole : Option (List ℕ)) → i < length ls → x ≡ get_or ls i x
      → option_or (of_lists (drop i ls)) found ≡ whole → new ≡ option_or (declared_uri x.now p) found → option_or (of_lists (drop (i + 1) ls)) new ≡ whole
  nearer ls i x found new whole within is before made =
      ap (option_or (of_lists (drop (i + 1) ls))) made ∙ option_or-assoc (of_lists (drop (i + 1) ls)) (declared_uri x.now p) found
      ∙ ap (λ o. option_or o found) (sym (of_lists_next ls i x within is)) ∙ before

-- What a selector selects, where the code has it by its number.
use Rattle.std.proofs.Common.{◌≡◌, ℕ, suc, ◌+◌, ◌<◌, ◌≤◌, Bool, true, false, cond, ◌||◌, not, List, [], ◌∷◌, length, Option, None, Some, is_some, option_map, refl, sym, ap, ◌∙◌, subst, arith}
use Rattle.std.specs.List.{list_any, position, position_or_len}
use Rattle.std.specs.Prelude.{nat_lt}
use Rattle.std.proofs.lemmas.Bool.{ltb-false, ltb-true}
use Rattle.std.proofs.lemmas.Option.{cond_some}
use Rattle.xml_tree.specs.Nodes.{nodes_of}
use Rattle.xml_tree.specs.TreeScopes.{scope_at}
use Rattle.xml_tree.specs.Tree.{Tree, at}
use Rattle.xml_names.specs.declared.names.Attr.{Attr}
use Rattle.xml_names.specs.declared.names.Decl.{Decl}
use Rattle.xml_tree.specs.declared.tree.Node.{Node}
use Rattle.xml_tree.proofs.PathLemmas.{with_there}
use Rattle.patch_rules.specs.PatchOperations as words
use Rattle.patch_rules.specs.PatchOperations.{selected_text}
use Rattle.patch_apply.specs.inner.LocationViews.{LocatesAs}
use Rattle.patch_apply.specs.declared.locations.Location.TheVariants.{AtElement, AtAttr, AtText}

-- ---- the first attribute that passes

none_passes : (f : Attr → Bool) (ats : List Attr) → length ats ≤ position_or_len f ats → list_any f ats ≡ false
none_passes f [] h = refl
none_passes f (a ∷ ats) h = by (f a) (none_passes f ats) h
  where
    by : (b : Bool) → (length ats ≤ position_or_len f ats → list_any f ats ≡ false) → suc (length ats) ≤ cond (not b) (1 + position_or_len f ats) 0 → (b || list_any f ats) ≡ false
    by true ih h = absurd (omega arith)
    by false ih h = ih (omega arith)

first_passes : (f : Attr → Bool) (ats : List Attr) → position_or_len f ats < length ats → list_any f ats ≡ true
first_passes f [] h = absurd (omega arith)
first_passes f (a ∷ ats) h = by (f a) (first_passes f ats) h
  where
    by : (b : Bool) → (position_or_len f ats < length ats → list_any f ats ≡ true) → cond (not b) (1 + position_or_len f ats) 0 < suc (length ats) → (b || list_any f ats) ≡ true
    by true ih h = refl
    by false ih h = ih (omega arith)

is_past : (b : Bool) (n : ℕ) → None ≡ cond b (Some n) None → b ≡ false
is_past true n h = absurd (cc)
is_past false n h = refl

module _ (t e : Tree) (p : List ℕ) (there : at p t ≡ Some e) where
  pub element_target : LocatesAs t (Some (words.AtElement p)) (Some (AtElement p))
  element_target = (ap is_some there, (words.AtElement p, refl, refl))

  pub scope_is : (c : List (List Decl)) → Some c ≡ option_map (λ (x : Tree). scope_at p t) (at p t) → c ≡ scope_at p t
  scope_is c is = let same : Some c ≡ Some (scope_at p t) = is ∙ ap (option_map (λ (x : Tree). scope_at p t)) there in cc

  module _ (f : Attr → Bool) where
    pub no_attr : None ≡ position f e.attrs → LocatesAs t (cond (list_any f e.attrs) (Some (words.AtAttr p f)) None) None
    no_attr none =
        let n = position_or_len f e.attrs in
        ap (λ b. cond b (Some (words.AtAttr p f)) None) (none_passes f e.attrs (ltb-false n (length e.attrs) (is_past (nat_lt n (length e.attrs)) n none)))

    pub attr_spot : (i : ℕ) → Some i ≡ position f e.attrs → LocatesAs t (cond (list_any f e.attrs) (Some (words.AtAttr p f)) None) (Some (AtAttr p i))
    attr_spot i first =
        let n = position_or_len f e.attrs in
        let parts = cond_some (nat_lt n (length e.attrs)) n i (sym first) in
        let within : n < length e.attrs = ltb-true n (length e.attrs) parts.0 in (
          with_there (at p t) (λ x. i < length x.attrs) e there (omega (arith, within, parts.1)),
          (
            words.AtAttr p f,
            ap (λ b. cond b (Some (words.AtAttr p f)) None) (first_passes f e.attrs within),
            (refl, with_there (at p t) (λ x. position f x.attrs ≡ Some i) e there (sym first)),
          ),
        )

  -- the text at a position, by the nodes that are there
  pub text_spot : (position : Option ℕ) (ns : List Node) → ns ≡ nodes_of e.content → (i : ℕ) → Some i ≡ selected_text position ns → i < length ns
      → LocatesAs t (option_map (words.AtText p) (selected_text position (nodes_of e.content))) (Some (AtText p i))
  text_spot position ns same i is within = (
    with_there (at p t) (λ x. i < length (nodes_of x.content)) e there (subst (λ (l : List Node). i < length l) same within),
    (words.AtText p i, ap (option_map (words.AtText p)) (sym (is ∙ ap (selected_text position) same)), (refl, refl)),
  )

-- Sets that gain the prefixes of declarations.
use Rattle.std.proofs.Common.{◌≡◌, ℕ, Bool, true, false, cond, ◌||◌, List, [], ◌∷◌, ◌++◌, flat_map, length, take, get_or, ◌+◌, ◌<◌, ◌≤◌, subst, bytes_eq, refl, sym, ap, ◌∙◌, append_assoc, append-nil}
use Rattle.std.proofs.lemmas.Cmp.{nat_list_eq_equiv}
use Rattle.std.proofs.lemmas.Grind.{flat_map-append}
use Rattle.std.proofs.lemmas.List.{take_all, take_more}
use Rattle.std.specs.BTreeSet.{BTreeSet, IsEmpty, Updates, contains}
use Rattle.std.specs.BTreeMap.{is_at}
use Rattle.std.specs.Cmp.Lexicographic.{texts_ties}
use Rattle.std.specs.List.{list_any}
use Rattle.std.specs.Set.{is_member}
use Rattle.xml_tree.specs.Tree.{Content, last, more, comment_node}
use Rattle.xml_tree.specs.Edits.{with_text_prepended}
use Rattle.xml_tree.specs.Nodes.{content_of}
use Rattle.xml_names.specs.declared.names.Decl.{Decl}
use Rattle.xml_tree.specs.declared.tree.Node.{Node}
use Rattle.xml_tree.specs.declared.tree.Node.TheVariants.{Elem, Chars, Comment}
use Rattle.patch_rules.specs.inner.DeclaredPrefixes.{declared_prefixes, content_prefixes}
use Rattle.patch_write.specs.inner.DeclaredPrefixes.{GainsPrefixes, HasExactlyPrefixes, text_order, node_prefixes}
use Rattle.patch_rules.proofs.FreePrefix.{among-append}

or_swap : (x y o : Bool) → (y || (x || o)) ≡ ((x || y) || o)
or_swap true true o = refl
or_swap true false o = refl
or_swap false true o = refl
or_swap false false o = refl

or_one : (b o : Bool) → cond b true o ≡ ((b || false) || o)
or_one true o = refl
or_one false o = refl

or_none : (b : Bool) → (b || false) ≡ b
or_none true = refl
or_none false = refl

pub gains-none : (s : BTreeSet (List ℕ)) → GainsPrefixes [] s s
gains-none s k = refl

pub gains-one : (p : List ℕ) (old new : BTreeSet (List ℕ)) → Updates text_order old new p true → GainsPrefixes (p ∷ []) old new
gains-one p old new up k =
    let same = sym (texts_ties p k) in
    up.0 k ∙ (λ i. cond (same i) true (contains text_order old k)) ∙ or_one (bytes_eq p k) (contains text_order old k) ∙ ap (λ (b : Bool). (b || false) || contains text_order old k) (nat_list_eq_equiv.symm p k)

pub gains-then : (xs ys : List (List ℕ)) (a b c : BTreeSet (List ℕ)) → GainsPrefixes xs a b → GainsPrefixes ys b c → GainsPrefixes (xs ++ ys) a c
gains-then xs ys a b c h g k =
    g k ∙ ap (λ z. is_member bytes_eq ys k || z) (h k) ∙ or_swap (is_member bytes_eq xs k) (is_member bytes_eq ys k) (contains text_order a k)
    ∙ ap (λ z. z || contains text_order a k) (sym (among-append k xs ys))

pub holds-gained : (ps : List (List ℕ)) (old new : BTreeSet (List ℕ)) → IsEmpty old → GainsPrefixes ps old new → HasExactlyPrefixes ps new
holds-gained ps old new empty gains k =
    gains k ∙ ap (λ z. is_member bytes_eq ps k || z) (ap (list_any (is_at (text_order k))) empty) ∙ or_none (is_member bytes_eq ps k)

-- what isn't found isn't among them
pub free-of : (ps : List (List ℕ)) (seen : BTreeSet (List ℕ)) (prefix p : List ℕ) (found : Bool) → HasExactlyPrefixes ps seen → found ≡ contains text_order seen prefix → prefix ≡ p → found ≡ false → is_member bytes_eq ps p ≡ false
free-of ps seen prefix p found holds is same off = sym (ap (is_member bytes_eq ps) same) ∙ sym (holds prefix) ∙ sym is ∙ off

-- ---- one item of a list after another, added to others

abbrev pub Texts : Type 0
Texts = BTreeSet (List ℕ)

module _ {X : Type 0} (f : X → List (List ℕ)) (ps : List (List ℕ)) (xs : List X) where
  pub gains-next : (i : ℕ) (d : X) (a b c : Texts) → i < length xs → d ≡ get_or xs i d → GainsPrefixes (ps ++ flat_map f (take i xs)) a b → GainsPrefixes (f d) b c → GainsPrefixes (ps ++ flat_map f (take (i + 1) xs)) a c
  gains-next i d a b c within is h g =
      let more : take (i + 1) xs ≡ take i xs ++ d ∷ [] = take_more xs i d within ∙ ap (λ (x : X). take i xs ++ x ∷ []) (sym is) in
      let all : (ps ++ flat_map f (take i xs)) ++ f d ≡ ps ++ flat_map f (take (i + 1) xs) =
      append_assoc ps (flat_map f (take i xs)) (f d)
      ∙ ap (λ (l : List (List ℕ)). ps ++ l) (ap (λ (l : List (List ℕ)). flat_map f (take i xs) ++ l) (sym (append-nil (f d))) ∙ sym (flat_map-append f (take i xs) (d ∷ [])) ∙ ap (flat_map f) (sym more)) in
      subst (λ (l : List (List ℕ)). GainsPrefixes l a c) all (gains-then (ps ++ flat_map f (take i xs)) (f d) a b c h g)

  pub gains-end : (i : ℕ) (a b : Texts) → length xs ≤ i → GainsPrefixes (ps ++ flat_map f (take i xs)) a b → GainsPrefixes (ps ++ flat_map f xs) a b
  gains-end i a b le h = subst (λ (ys : List X). GainsPrefixes (ps ++ flat_map f ys) a b) (take_all i xs le) h

-- ---- declarations

abbrev pub prefix_alone : Decl → List (List ℕ)
prefix_alone d = d.prefix ∷ []

pub declared_prefixes-each : (ds : List Decl) → flat_map prefix_alone ds ≡ declared_prefixes ds
declared_prefixes-each [] = refl
declared_prefixes-each (d ∷ ds) = ap (λ (l : List (List ℕ)). d.prefix ∷ l) (declared_prefixes-each ds)

pub gains-decls : (ds es : List Decl) (a b : Texts) → ds ≡ es → GainsPrefixes (declared_prefixes ds) a b → GainsPrefixes (declared_prefixes es ++ []) a b
gains-decls ds es a b same h = subst (λ (l : List (List ℕ)). GainsPrefixes l a b) (ap declared_prefixes same ∙ sym (append-nil (declared_prefixes es))) h

-- ---- nodes

declared_prefixes-before : (t : List ℕ) (k : Content) → content_prefixes (with_text_prepended t k) ≡ content_prefixes k
declared_prefixes-before t (last u) = refl
declared_prefixes-before t (more u n ds ats c rest) = refl
declared_prefixes-before t (comment_node u x rest) = refl

pub declared_prefixes-nodes : (ns : List Node) → content_prefixes (content_of ns) ≡ flat_map node_prefixes ns
declared_prefixes-nodes [] = refl
declared_prefixes-nodes (Elem e ∷ ns) = sym (append_assoc (declared_prefixes e.decls) (content_prefixes e.content) (content_prefixes (content_of ns))) ∙ ap (λ l. (declared_prefixes e.decls ++ content_prefixes e.content) ++ l) (declared_prefixes-nodes ns)
declared_prefixes-nodes (Chars t ∷ ns) = declared_prefixes-before t (content_of ns) ∙ declared_prefixes-nodes ns
declared_prefixes-nodes (Comment x ∷ ns) = declared_prefixes-nodes ns

pub gains-nodes : (ps : List (List ℕ)) (ns : List Node) (k : Content) (a b : Texts) → content_of ns ≡ k → GainsPrefixes (ps ++ flat_map node_prefixes ns) a b → GainsPrefixes (ps ++ content_prefixes k) a b
gains-nodes ps ns k a b same h = subst (λ (l : List (List ℕ)). GainsPrefixes (ps ++ l) a b) (sym (declared_prefixes-nodes ns) ∙ ap content_prefixes same) h

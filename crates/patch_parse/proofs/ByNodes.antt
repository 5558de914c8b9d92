-- The functions on a content agree with those on its nodes.
use Rattle.std.proofs.Common.{◌≡◌, Bor, ℕ, Bool, true, false, cond, ◌&&◌, List, [], ◌∷◌, ◌++◌, Option, None, Some, is_some, option_map, refl, sym, ap, ◌∙◌, append-nil}
use Rattle.std.proofs.Math.Bool.{and-true}
use Rattle.std.specs.List.{list_all, slice_get}
use Rattle.std.specs.Option.{option_copied}
use Rattle.xml_tree.specs.Nodes.{nodes_of, text_node}
use Rattle.xml_tree.specs.Tree.{Content, last, more, comment_node, Tree, tree_of, child_elements}
use Rattle.xml_names.specs.declared.names.Decl.{Decl}
use Rattle.xml_tree.specs.declared.tree.Node.{Node}
use Rattle.xml_tree.specs.declared.tree.Node.TheVariants.{Elem, Comment}
use Rattle.patch_rules.specs.PatchOperations.{has_only_comments, is_white_space, is_blank_content, names_agree, sole_element, content_value}
use Rattle.patch_parse.specs.inner.OperationContents.{element_names_agree, is_element_or_blank, is_comment, node_names_agree, joined_text}

-- ---- nothing but comments

pub remarks_in : (c : Content) → list_all is_comment (nodes_of c) ≡ has_only_comments c
remarks_in (last []) = refl
remarks_in (last (x ∷ t)) = refl
remarks_in (more [] n ds ats c rest) = refl
remarks_in (more (x ∷ t) n ds ats c rest) = refl
remarks_in (comment_node [] x rest) = remarks_in rest
remarks_in (comment_node (y ∷ t) x rest) = refl

-- ---- texts joined

with_nothing : (o : Option (List ℕ)) → o ≡ option_map (λ v. [] ++ v) o
with_nothing None = refl
with_nothing (Some v) = refl

pub text_is_value : (c : Content) → joined_text (nodes_of c) ≡ content_value c
text_is_value (last []) = refl
text_is_value (last (x ∷ t)) = ap Some (append-nil (x ∷ t))
text_is_value (more [] n ds ats c rest) = refl
text_is_value (more (x ∷ t) n ds ats c rest) = refl
text_is_value (comment_node [] x rest) = text_is_value rest ∙ with_nothing (content_value rest)
text_is_value (comment_node (y ∷ t) x rest) = ap (option_map (λ v. (y ∷ t) ++ v)) (text_is_value rest)

-- ---- one element with white space beside it

and_false : (b : Bool) → (b && false) ≡ false
and_false true = refl
and_false false = refl

both_same : {A : Type 0} (b : Bool) (o : A) → cond b o o ≡ o
both_same true o = refl
both_same false o = refl

loose_text : (t : List ℕ) (ns : List Node) → list_all is_element_or_blank (text_node t ++ ns) ≡ (is_white_space t && list_all is_element_or_blank ns)
loose_text [] ns = refl
loose_text (x ∷ t) ns = refl

loose_alone : (t : List ℕ) → list_all is_element_or_blank (text_node t) ≡ is_white_space t
loose_alone [] = refl
loose_alone (x ∷ t) = and-true (is_white_space (x ∷ t))

inward : (b s l : Bool) → (b && cond s false l) ≡ cond s false (b && l)
inward b true l = and_false b
inward b false l = refl

blank_is : (c : Content) → is_blank_content c ≡ cond (is_some (slice_get (child_elements c) 0)) false (list_all is_element_or_blank (nodes_of c))
blank_is (last t) = sym (loose_alone t)
blank_is (more t n ds ats c rest) = refl
blank_is (comment_node t x rest) =
    ap (λ b. is_white_space t && b) (blank_is rest) ∙ inward (is_white_space t) (is_some (slice_get (child_elements rest) 0)) (list_all is_element_or_blank (nodes_of rest))
    ∙ ap (λ b. cond (is_some (slice_get (child_elements rest) 0)) false b) (sym (loose_text t (Comment x ∷ nodes_of rest)))

first_alone : (e : Tree) (b s l : Bool) → cond (b && cond s false l) (Some e) None ≡ cond s None (cond (b && l) (Some e) None)
first_alone e b true l = ap (λ x. cond x (Some e) None) (and_false b)
first_alone e b false l = refl

behind_text : (o : Option Tree) (b s l : Bool) → cond b (cond s None (cond l o None)) None ≡ cond s None (cond (b && l) o None)
behind_text o true s l = refl
behind_text o false s l = sym (both_same s None)

pub sole_is : (c : Content) → sole_element c ≡ cond (is_some (slice_get (child_elements c) 1)) None (cond (list_all is_element_or_blank (nodes_of c)) (slice_get (child_elements c) 0) None)
sole_is (last t) = sym (both_same (list_all is_element_or_blank (text_node t)) None)
sole_is (more t n ds ats c rest) =
    let e = tree_of n ds ats c in let s = is_some (slice_get (child_elements rest) 0) in
    ap (λ b. cond (is_white_space t && b) (Some e) None) (blank_is rest) ∙ first_alone e (is_white_space t) s (list_all is_element_or_blank (nodes_of rest))
    ∙ ap (λ b. cond s None (cond b (Some e) None)) (sym (loose_text t (Elem e ∷ nodes_of rest)))
sole_is (comment_node t x rest) =
    let s = is_some (slice_get (child_elements rest) 1) in
    ap (λ o. cond (is_white_space t) o None) (sole_is rest) ∙ behind_text (slice_get (child_elements rest) 0) (is_white_space t) s (list_all is_element_or_blank (nodes_of rest))
    ∙ ap (λ b. cond s None (cond b (slice_get (child_elements rest) 0) None)) (sym (loose_text t (Comment x ∷ nodes_of rest)))

-- by whether there is a second element
pub second_there : (k : Content) (o : Option (Bor Tree)) → is_some o ≡ true → option_copied o ≡ slice_get (child_elements k) 1 → sole_element k ≡ None
second_there k None some is = absurd (cc)
second_there k (Some e) some is = sole_is k ∙ ap (λ (x : Option Tree). cond (is_some x) None (cond (list_all is_element_or_blank (nodes_of k)) (slice_get (child_elements k) 0) None)) (sym is)

second_missing : (k : Content) (o : Option (Bor Tree)) → is_some o ≡ false → option_copied o ≡ slice_get (child_elements k) 1 → sole_element k ≡ cond (list_all is_element_or_blank (nodes_of k)) (slice_get (child_elements k) 0) None
second_missing k None none is = sole_is k ∙ ap (λ (x : Option Tree). cond (is_some x) None (cond (list_all is_element_or_blank (nodes_of k)) (slice_get (child_elements k) 0) None)) (sym is)
second_missing k (Some e) none is = absurd (cc)

pub some_fixed : (k : Content) (o : Option (Bor Tree)) → is_some o ≡ false → option_copied o ≡ slice_get (child_elements k) 1 → list_all is_element_or_blank (nodes_of k) ≡ false → sole_element k ≡ None
some_fixed k o none is fixed = second_missing k o none is ∙ ap (λ b. cond b (slice_get (child_elements k) 0) None) fixed

pub all_loose : (k : Content) (o : Option (Bor Tree)) → is_some o ≡ false → option_copied o ≡ slice_get (child_elements k) 1 → list_all is_element_or_blank (nodes_of k) ≡ true → sole_element k ≡ slice_get (child_elements k) 0
all_loose k o none is loose = second_missing k o none is ∙ ap (λ b. cond b (slice_get (child_elements k) 0) None) loose

-- ---- names that mean the same

outward : (a b m r : Bool) → ((a && (b && m)) && r) ≡ (a && (b && (m && r)))
outward true true m r = refl
outward true false m r = refl
outward false b m r = refl

pub alike_in : (c d : List (List Decl)) (k : Content) → list_all (node_names_agree c d) (nodes_of k) ≡ names_agree c d k
alike_in c d (last []) = refl
alike_in c d (last (x ∷ t)) = refl
alike_in c d (more [] n ds ats k rest) = ap (λ b. element_names_agree c d (tree_of n ds ats k) && b) (alike_in c d rest) ∙ outward _ _ (names_agree (c ++ ds ∷ []) (d ++ ds ∷ []) k) (names_agree c d rest)
alike_in c d (more (x ∷ t) n ds ats k rest) = ap (λ b. element_names_agree c d (tree_of n ds ats k) && b) (alike_in c d rest) ∙ outward _ _ (names_agree (c ++ ds ∷ []) (d ++ ds ∷ []) k) (names_agree c d rest)
alike_in c d (comment_node [] x rest) = alike_in c d rest
alike_in c d (comment_node (y ∷ t) x rest) = alike_in c d rest

-- An operation whose tests all pass acts as specified; and the changes of nodes that operations
-- make.
use Rattle.std.proofs.Common.{◌≡◌, ℕ, suc, ◌+◌, ◌-◌, ◌<◌, ◌≤◌, Bool, true, false, List, [], ◌∷◌, ◌++◌, length, Option, Some, option_and_then, option_map, Ok, codes, refl, sym, ap, ◌∙◌, subst, arith, le-leb}
use Rattle.std.specs.Prelude.{unwrap_or}
use Rattle.std.specs.List.{list_all}
use Rattle.xml_tree.specs.Tree.{Content, Tree, at, height, child_elements, child_elements_of}
use Rattle.xml_tree.specs.Edits.{change_at, cut_child, cut_out, last_number, parent_path, put_in, put_kid, put_over}
use Rattle.xml_tree.specs.Nodes.{content_of, exchange_nodes, gap_place, nodes_of, place}
use Rattle.xml_tree.specs.TreeScopes.{scope_around, scope_at}
use Rattle.xml_names.specs.declared.names.Decl.{Decl}
use Rattle.xml_tree.specs.declared.tree.Node.TheVariants.{Elem}
use Rattle.xml_tree.proofs.PathLemmas.{final-snoc, front-snoc, put_over-made}
use Rattle.xml_tree.proofs.Places.{content_of-nodes_of}
use Rattle.edit_ops.proofs.NodeLemmas.{left_out, put_between}
use Rattle.node_select.specs.declared.selector.PatchSelector.{PatchSelector}
use Rattle.patch_rules.specs.PatchOperations.{Location, PatchAction, cut_element, apply_action, is_type_prefix_bound, is_known_attribute, locate, check_tree, nodes_at, index_in_parent, plain_value, put_nodes_at, Prepend, After, accepts_form, action_by_name, parse_operation_name, is_not_beside_root}
use Rattle.patch_rules.specs.Selectors.{Reading}
use Rattle.patch_rules.specs.readers.AppliedOperations.{apply_operation, selector_reading}

pub applied_by : (c : List (List Decl)) (o t : Tree) (sel : List ℕ) (task : PatchAction) (form : Reading) (s : PatchSelector) (location : Location)
    → plain_value (codes "sel") o.attrs ≡ Some sel → list_all is_known_attribute o.attrs ≡ true
    → option_and_then (λ w. action_by_name w (plain_value (codes "pos") o.attrs) (plain_value (codes "type") o.attrs) (plain_value (codes "ws") o.attrs)) (parse_operation_name o.name.local) ≡ Some task
    → selector_reading sel ≡ Some form → accepts_form task form.ends ≡ true → form.means (c ++ o.decls ∷ []) ≡ Some s → is_type_prefix_bound (c ++ o.decls ∷ []) task ≡ true
    → locate s t ≡ Some location → apply_operation c o t ≡ apply_action (c ++ o.decls ∷ []) task location o.content t
applied_by c o t sel task form s location has known tasks read suit means bound there =
    rw has (rw known (rw tasks (rw read (rw suit (rw means (rw bound (rw there refl)))))))

pub made_is : (new : Tree) (alike : Bool) (u : Tree) → new ≡ u → height u ≤ 64 → alike ≡ true → check_tree new alike ≡ Ok u
made_is new alike u is low a = rw is (rw (le-leb (height u) 64 low) (rw a refl))

-- changes that agree at the element make the same tree
pub change_at-agree : (p : List ℕ) (f g : Tree → Tree) (k t : Tree) → at p t ≡ Some k → f k ≡ g k → change_at p f t ≡ change_at p g t
change_at-agree p f g k t is e = sym (put_over-made p f k t is) ∙ ap (λ w. put_over p w t) e ∙ put_over-made p g k t is

pub nodes_at-there : (p : List ℕ) (k t : Tree) → at p t ≡ Some k → nodes_at p t ≡ nodes_of k.content
nodes_at-there p k t is = ap (λ (o : Option Tree). unwrap_or (option_map (λ (e : Tree). nodes_of e.content) o) []) is

within : (j : ℕ) (c : Content) → j ≤ length (child_elements c) → j ≤ length (child_elements (content_of (nodes_of c)))
within j c h = subst (λ (x : Content). j ≤ length (child_elements x)) (sym (content_of-nodes_of c)) h

-- ---- an element at an insertion point

put_there : (j : ℕ) (e k : Tree) → j ≤ length (child_elements_of k) → exchange_nodes (gap_place j (nodes_of k.content)) (gap_place j (nodes_of k.content)) (Elem e ∷ []) k ≡ put_kid j e k
put_there j e k h =
    ap (λ (x : Content). record k { content = x }) (put_between j (nodes_of k.content) e (within j k.content h) ∙ ap (λ (x : Content). let y : Tree = put_kid j e (record k { content = x }) in y.content) (content_of-nodes_of k.content))

pub put_first : (q : List ℕ) (e k t : Tree) → at q t ≡ Some k → put_nodes_at Prepend q (Elem e ∷ []) t ≡ put_in q 0 e t
put_first q e k t there = change_at-agree q (exchange_nodes 0 0 (Elem e ∷ [])) (put_kid 0 e) k t there (put_there 0 e k (omega arith))

pub put_after : (q : List ℕ) (j : ℕ) (e k t : Tree) → at q t ≡ Some k → suc j ≤ length (child_elements_of k) → put_nodes_at After (q ++ j ∷ []) (Elem e ∷ []) t ≡ put_in q (suc j) e t
put_after q j e k t there h =
    rw (front-snoc q j, final-snoc q j, nodes_at-there q k t there)
    (change_at-agree q (exchange_nodes (gap_place (suc j) (nodes_of k.content)) (gap_place (suc j) (nodes_of k.content)) (Elem e ∷ [])) (put_kid (suc j) e) k t there (put_there (suc j) e k h))

pub is_not_beside_root-snoc : (q : List ℕ) (j : ℕ) → is_not_beside_root After (q ++ j ∷ []) ≡ true
is_not_beside_root-snoc [] j = refl
is_not_beside_root-snoc (n ∷ q) j = refl

pub around-snoc : (q : List ℕ) (j : ℕ) (t : Tree) → scope_around (q ++ j ∷ []) t ≡ scope_at q t
around-snoc [] j t = refl
around-snoc (n ∷ q) j t = ap (λ p. scope_at p t) (front-snoc (n ∷ q) j)

-- ---- an element taken out

cut_there : (n : ℕ) (k : Tree) → n < length (child_elements_of k) → exchange_nodes (place n (nodes_of k.content)) (suc (place n (nodes_of k.content))) [] k ≡ cut_child n k
cut_there n k h =
    ap (λ (x : Content). record k { content = x })
    (left_out n (nodes_of k.content) (subst (λ (x : Content). n < length (child_elements x)) (sym (content_of-nodes_of k.content)) h) ∙ ap (λ (x : Content). let y : Tree = cut_child n (record k { content = x }) in y.content) (content_of-nodes_of k.content))

places : (i n : ℕ) (k : Tree) → i ≡ n → exchange_nodes (i - 0) (suc i + 0) [] k ≡ exchange_nodes n (suc n) [] k
places i n k e = let a : i - 0 ≡ n = omega arith in let b : suc i + 0 ≡ suc n = omega arith in λ x. exchange_nodes (a x) (b x) [] k

pub cut_element-is : (p : List ℕ) (k t : Tree) → at (parent_path p) t ≡ Some k → last_number p < length (child_elements_of k) → cut_element false false p t ≡ cut_out p t
cut_element-is p k t there h =
    change_at-agree (parent_path p) (exchange_nodes (index_in_parent p t - 0) (suc (index_in_parent p t) + 0) []) (cut_child (last_number p)) k t there
    (places (index_in_parent p t) (place (last_number p) (nodes_of k.content)) k (ap (place (last_number p)) (nodes_at-there (parent_path p) k t there)) ∙ cut_there (last_number p) k h)

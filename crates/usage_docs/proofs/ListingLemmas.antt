-- The services of the index, and its printed length.
use Rattle.std.proofs.Common.{◌≡◌, ◌≤◌, ◌<◌, ◌+◌, ◌==◌, if◌then◌else◌, ℕ, min, Bool, true, false, cond, List, [], ◌∷◌, ◌++◌, length, take, drop, map, filter, flat_map, refl, ap, sym, ◌∙◌, arith, append-nil}
use Rattle.xml_tree.specs.Tree.{Content, Tree, tree_of, child_elements, child_elements_of}
use Rattle.xml_tree.specs.Nodes.{content_of, nodes_of, exchange_nodes}
use Rattle.xml_names.specs.Markup.{tag_front, end_tag_text, byte_len}
use Rattle.xml_tree.specs.Print.{print, print_content}
use Rattle.xml_names.proofs.PrintLengths.{byte_len-append, ascii}
use Rattle.xml_tree.specs.declared.tree.Node.{Node}
use Rattle.xml_tree.specs.declared.tree.Node.TheVariants.{Elem, Chars, Comment}
use lib.Utf8.{encode}
use Rattle.usage_docs.specs.SchemaTable.{Scope, services_namespace}
use Rattle.usage_docs.specs.declared.service_index.IndexFault.TheVariants.{TooLarge}
use Rattle.std.proofs.lemmas.Str.{length-le-encodes}
use Rattle.std.proofs.lemmas.Bool.Decides.{nat_tests}
use Rattle.usage_docs.specs.Services.{RefusesServices, is_service, listed_service, index_name, index_decls, index_of, index_text, index_len}
use Rattle.usage_docs.specs.declared.service_index.TheConstants.{INDEX_LIMIT}
use Rattle.usage_docs.specs.readers.ServiceNodes.{listed_nodes, elems_len}
use Rattle.usage_docs.specs.inner.ServiceIndexes.{index_len_with}
use Rattle.usage_docs.specs.readers.SiblingElements.{node_children}
use Rattle.usage_docs.proofs.ClashLemmas.{kids_are}

-- ---- the services among nodes

one_listed : (f : Tree → Tree) (b : Bool) (e : Tree) (es : List Tree) → map Elem (map f (cond b (e ∷ es) es)) ≡ map Elem (map f (cond b (e ∷ []) [])) ++ map Elem (map f es)
one_listed f true e es = refl
one_listed f false e es = refl

pub listed_step : (c : Scope) (n : Node) (ns : List Node) → listed_nodes c (n ∷ ns) ≡ listed_nodes c (n ∷ []) ++ listed_nodes c ns
listed_step c (Elem e) ns = one_listed (listed_service c) (is_service c e) e (filter (is_service c) (node_children ns))
listed_step c (Chars t) ns = refl
listed_step c (Comment x) ns = refl

pub all_listed : (c : Scope) (ns : List Node) (content : Content) → content_of ns ≡ content → listed_nodes c ns ≡ map Elem (map (listed_service c) (filter (is_service c) (child_elements content)))
all_listed c ns content e = ap (λ ks. map Elem (map (listed_service c) (filter (is_service c) ks))) (sym (kids_are ns content e))

-- ---- its children

pub kids_of_elems : (ss : List Tree) → child_elements (content_of (map Elem ss)) ≡ ss
kids_of_elems [] = refl
kids_of_elems (s ∷ ss) = ap (λ ks. s ∷ ks) (kids_of_elems ss)

nodes_of_elems : (ss : List Tree) → nodes_of (content_of (map Elem ss)) ≡ map Elem ss
nodes_of_elems [] = refl
nodes_of_elems (s ∷ ss) = ap (λ ns. Elem s ∷ ns) (nodes_of_elems ss)

map_two : (ss ts : List Tree) → map Elem (ss ++ ts) ≡ map Elem ss ++ map Elem ts
map_two [] ts = refl
map_two (s ∷ ss) ts = ap (λ ns. Elem s ∷ ns) (map_two ss ts)

take_all : (ns : List Node) → take (length ns) ns ≡ ns
take_all [] = refl
take_all (n ∷ ns) = ap (λ ms. n ∷ ms) (take_all ns)

drop_all : (ns : List Node) → drop (length ns) ns ≡ []
drop_all [] = refl
drop_all (n ∷ ns) = drop_all ns

-- more services after the others
pub more_services : (root : Tree) (ss new : List Tree) (end : ℕ) → root ≡ index_of ss → end ≡ length (nodes_of root.content) → exchange_nodes end end (map Elem new) root ≡ index_of (ss ++ new)
more_services root ss new end is at =
    let nodes = ap (λ (t : Tree). nodes_of t.content) is ∙ nodes_of_elems ss in
    ap (λ (t : Tree). exchange_nodes end end (map Elem new) t) is
    ∙ ap (λ (c : Content). tree_of index_name index_decls [] c)
    (ap (λ ns. content_of (take end ns ++ (map Elem new ++ drop end ns))) (nodes_of_elems ss)
    ∙ ap (λ n. content_of (take n (map Elem ss) ++ (map Elem new ++ drop n (map Elem ss)))) (at ∙ ap length nodes)
    ∙ ap (λ ns. content_of (ns ++ (map Elem new ++ drop (length (map Elem ss)) (map Elem ss)))) (take_all (map Elem ss))
    ∙ ap (λ ns. content_of (map Elem ss ++ (map Elem new ++ ns))) (drop_all (map Elem ss))
    ∙ ap (λ ns. content_of (map Elem ss ++ ns)) (append-nil (map Elem new))
    ∙ ap content_of (sym (map_two ss new)))

-- ---- its length

elems_two : (ss ts : List Tree) → elems_len (map Elem (ss ++ ts)) ≡ elems_len (map Elem ss) + elems_len (map Elem ts)
elems_two [] ts = omega arith
elems_two (s ∷ ss) ts = let e = elems_two ss ts in omega arith

inner_len : (ss : List Tree) → byte_len (print_content (content_of (map Elem ss))) ≡ elems_len (map Elem ss)
inner_len [] = refl
inner_len (s ∷ ss) = let e = byte_len-append (print s) (print_content (content_of (map Elem ss))) in let k = inner_len ss in omega arith

print_some : (s : Tree) → 0 < byte_len (print s)
print_some s = omega (arith, length-le-encodes (print s))

-- the length by the length of the services
abbrev whole_len : ℕ → ℕ
whole_len inner = if inner == 0 then 106 else (inner + 124)

whole_some : (n : ℕ) → 0 < n → whole_len n ≡ n + 124
whole_some n h = grind (arith, nat_tests)

index_len_is : (ss : List Tree) → index_len ss ≡ whole_len (elems_len (map Elem ss))
unfolding index_name index_decls services_namespace encode
index_len_is [] = refl
index_len_is (s ∷ ss) =
    let p = print_content (content_of (map Elem (s ∷ ss))) in
    let all = byte_len-append (tag_front index_name index_decls []) (62 ∷ (p ++ end_tag_text index_name)) in
    let mark = ascii 62 (p ++ end_tag_text index_name) (omega arith) in
    let parts = byte_len-append p (end_tag_text index_name) in
    let start : byte_len (tag_front index_name index_decls []) ≡ 65 = refl in
    let end : byte_len (end_tag_text index_name) ≡ 19 = refl in
    let inside = inner_len (s ∷ ss) in
    let some = print_some s in
    let whole = whole_some (elems_len (map Elem (s ∷ ss))) (omega (arith, some)) in
    omega (arith, all, mark, parts, start, end, inside, whole)

len_at : (n t : ℕ) → t ≡ min n 18446744073709551615 → index_len_with t ≡ min (whole_len n) 18446744073709551615
len_at n t e = grind (arith, nat_tests)

whole_above : (n : ℕ) → n ≤ whole_len n
whole_above n = grind (arith, nat_tests)

-- the length of the index to be, by the length of its services and of the services to be added
module _ (ss new : List Tree) (inner total len : ℕ) (counted : inner ≡ elems_len (map Elem ss)) (added : total ≡ min (inner + min (elems_len (map Elem new)) 18446744073709551615) 18446744073709551615) (is : len ≡ index_len_with total) where
  total_is : total ≡ min (elems_len (map Elem (ss ++ new))) 18446744073709551615
  total_is = let e = elems_two ss new in omega arith

  len_is : len ≡ min (index_len (ss ++ new)) 18446744073709551615
  len_is = is ∙ len_at (elems_len (map Elem (ss ++ new))) total total_is ∙ ap (λ n. min n 18446744073709551615) (sym (index_len_is (ss ++ new)))

  pub too_large : INDEX_LIMIT < len → RefusesServices (ss ++ new) (TooLarge len)
  too_large h = let e = len_is in (omega arith, e)

  pub small_enough : len ≤ INDEX_LIMIT → index_len (ss ++ new) ≤ INDEX_LIMIT
  small_enough h = let e = len_is in omega arith

  pub counted_again : len ≤ INDEX_LIMIT → total ≡ elems_len (map Elem (ss ++ new))
  counted_again h =
      let e = small_enough h in
      let w = index_len_is (ss ++ new) in
      let a = whole_above (elems_len (map Elem (ss ++ new))) in
      let t = total_is in
      omega (arith, e, w, a, t)

-- the index with more services, and its children
pub grown : (root before : Tree) (nodes : List Node) (ss new : List Tree) (end : ℕ) → root ≡ exchange_nodes end end nodes before → nodes ≡ map Elem new → before ≡ index_of ss → end ≡ length (nodes_of before.content) → root ≡ index_of (ss ++ new)
grown root before nodes ss new end made are is at = made ∙ ap (λ ns. exchange_nodes end end ns before) are ∙ more_services before ss new end is at

pub kids_grown : (root : Tree) (ss : List Tree) → root ≡ index_of ss → child_elements_of root ≡ ss
kids_grown root ss is = ap child_elements_of is ∙ kids_of_elems ss

-- ---- its print

prints : (ss : List Tree) → print_content (content_of (map Elem ss)) ≡ flat_map print ss
prints [] = refl
prints (s ∷ ss) = ap (λ x. print s ++ x) (prints ss)

pub index_prints : (ss : List Tree) → print (index_of ss) ≡ index_text ss
unfolding index_name index_decls services_namespace
index_prints [] = refl
index_prints (s ∷ ss) = ap (λ p. tag_front index_name index_decls [] ++ (62 ∷ (p ++ end_tag_text index_name))) (prints (s ∷ ss))

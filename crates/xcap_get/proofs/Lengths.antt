-- The length of an index grows with its services.
use Rattle.std.proofs.Common.{◌≡◌, ◌≤◌, ℕ, ◌+◌, List, [], ◌∷◌, ◌++◌, codes, flat_map, refl, ap, ◌∙◌, arith}
use Rattle.std.proofs.lemmas.Grind.{flat_map-append}
use lib.Utf8.{encode}
use Rattle.xml_tree.specs.Tree.{Tree}
use Rattle.xml_names.specs.Markup.{byte_len}
use Rattle.xml_tree.specs.Print.{print}
use Rattle.xml_names.proofs.PrintLengths.{byte_len-append}
use Rattle.usage_docs.specs.SchemaTable.{services_namespace}
use Rattle.usage_docs.specs.Services.{index_name, index_decls, index_len}
use Rattle.usage_docs.proofs.ListingLemmas.{index_prints}

-- the text before the services of an index, and after them
abbrev before : List ℕ
before = codes "<rls:rls-services xmlns:rls=" ++ (34 ∷ []) ++ codes "urn:ietf:params:xml:ns:rls-services" ++ (34 ∷ []) ++ codes ">"

abbrev behind : List ℕ
behind = codes "</rls:rls-services>"

around : (t : List ℕ) → byte_len (before ++ t ++ behind) ≡ byte_len t + 85
unfolding encode
around t =
    let first : byte_len before ≡ 66 = refl in
    let end : byte_len behind ≡ 19 = refl in
    let whole = byte_len-append (before ++ t) behind in
    let front = byte_len-append before t in
    omega (arith, first, end, whole, front)

pub empty_len : index_len [] ≡ 106
unfolding encode index_name index_decls services_namespace
empty_len = refl

some_len : (s : Tree) (ss : List Tree) → index_len (s ∷ ss) ≡ 39 + (byte_len (flat_map print (s ∷ ss)) + 85)
some_len s ss = ap (λ p. 39 + byte_len p) (index_prints (s ∷ ss)) ∙ ap (λ n. 39 + n) (around (flat_map print (s ∷ ss)))

two_lens : (ss ts : List Tree) → byte_len (flat_map print (ss ++ ts)) ≡ byte_len (flat_map print ss) + byte_len (flat_map print ts)
two_lens ss ts = ap byte_len (flat_map-append print ss ts) ∙ byte_len-append (flat_map print ss) (flat_map print ts)

above_none : (a b m : ℕ) → a ≡ 106 → b ≡ 39 + (m + 85) → a ≤ b
above_none a b m p q = omega arith

above_some : (a b m n k : ℕ) → a ≡ 39 + (m + 85) → b ≡ 39 + (n + 85) → n ≡ m + k → a ≤ b
above_some a b m n k p q r = omega arith

same : (a : ℕ) → a ≤ a
same a = omega arith

pub index_grows : (ss ts : List Tree) → index_len ss ≤ index_len (ss ++ ts)
index_grows [] [] = same (index_len [])
index_grows [] (t ∷ ts) = above_none (index_len []) (index_len (t ∷ ts)) (byte_len (flat_map print (t ∷ ts))) empty_len (some_len t ts)
index_grows (s ∷ ss) ts =
    above_some (index_len (s ∷ ss)) (index_len (s ∷ (ss ++ ts))) (byte_len (flat_map print (s ∷ ss))) (byte_len (flat_map print (s ∷ (ss ++ ts)))) (byte_len (flat_map print ts))
    (some_len s ss) (some_len s (ss ++ ts)) (two_lens (s ∷ ss) ts)

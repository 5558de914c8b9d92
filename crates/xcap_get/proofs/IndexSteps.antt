-- The index as it is gathered from one document after another.
use Rattle.std.proofs.Common.{◌≡◌, ◌≤◌, ◌<◌, ℕ, Bor, List, [], ◌∷◌, ◌++◌, map, flat_map, ap, sym, subst, ◌∙◌, arith, append_assoc}
use Rattle.std.proofs.lemmas.List.Elements.{All-map, recursion_from_All}
use Rattle.std.specs.List.{All, AllByRecursion}
use Rattle.xml_tree.specs.Tree.{Tree, height}
use Rattle.xml_names.specs.ReadErrors.{FaultSatisfies}
use Rattle.xml_names.specs.declared.read_error.ReadError.{ReadError}
use Rattle.xml_names.specs.declared.read_error.ReadError.TheVariants.{Fault, NoMemory}
use Rattle.usage_docs.specs.Services.{service_elements, index_of, index_of_documents, index_len, document_len, RefusesServices}
use Rattle.usage_docs.specs.declared.service_index.TheConstants.{INDEX_LIMIT}
use Rattle.usage_docs.specs.declared.service_index.IndexFault.{IndexFault}
use Rattle.usage_docs.specs.declared.service_index.IndexFault.TheVariants.{TooLarge}
use Rattle.xcap_get.proofs.Heights.{index_low}
use Rattle.xcap_get.proofs.Lengths.{empty_len, index_grows}

-- an index has these services, and the remaining documents have the others
pub record Gathered (trees left ss : List Tree) : Type 0 where
  pub rest : ss ++ flat_map service_elements left ≡ flat_map service_elements trees
  pub lows : AllByRecursion (λ t. height t ≤ 64) left
  pub low : height (index_of ss) ≤ 64
  pub fits : index_len ss ≤ INDEX_LIMIT

-- the trees of these documents
abbrev pub shown : List (Bor Tree) → List Tree
shown roots = map (λ root. root.now) roots

pub gathered_none : (trees : List Tree) (roots left : List (Bor Tree)) → left ≡ roots → shown roots ≡ trees → All (λ root. height root.now ≤ 64) roots → Gathered trees (shown left) []
gathered_none trees roots left same is lows = record {
  rest = ap (λ (rs : List (Bor Tree)). flat_map service_elements (shown rs)) same ∙ ap (flat_map service_elements) is;
  lows = subst (λ (rs : List (Bor Tree)). AllByRecursion (λ t. height t ≤ 64) (shown rs)) (sym same)
      (recursion_from_All (λ t. height t ≤ 64) (shown roots) (All-map (λ t. height t ≤ 64) (λ (root : Bor Tree). root.now) roots lows));
  low = omega arith;
  fits = omega (arith, empty_len);
}

-- the services of the next document, and those of the documents after it
next : (trees left ss : List Tree) (t : Tree) → Gathered trees (t ∷ left) ss → (ss ++ service_elements t) ++ flat_map service_elements left ≡ flat_map service_elements trees
next trees left ss t g = append_assoc ss (service_elements t) (flat_map service_elements left) ∙ g.rest

pub gathered_more : (trees left ss : List Tree) (t : Tree) (new : List Tree) → Gathered trees (t ∷ left) ss → new ≡ ss ++ service_elements t → index_len new ≤ INDEX_LIMIT → Gathered trees left new
gathered_more trees left ss t new g is fits = record {
  rest = ap (λ ts. ts ++ flat_map service_elements left) is ∙ next trees left ss t g;
  lows = g.lows.1;
  low = subst (λ (ts : List Tree). height (index_of ts) ≤ 64) (sym is) (index_low ss t g.low g.lows.0);
  fits = fits;
}

-- where the next document makes the index too long, so do all
pub beyond : (trees left ss : List Tree) (t : Tree) (error : ReadError IndexFault) → Gathered trees (t ∷ left) ss → FaultSatisfies (RefusesServices (ss ++ service_elements t)) error
    → FaultSatisfies (λ (fault : IndexFault). INDEX_LIMIT < document_len (index_of_documents trees)) error
beyond trees left ss t (Fault (TooLarge len)) g refuses =
    let grows : index_len (ss ++ service_elements t) ≤ index_len (flat_map service_elements trees) =
    subst (λ (ts : List Tree). index_len (ss ++ service_elements t) ≤ index_len ts) (next trees left ss t g) (index_grows (ss ++ service_elements t) (flat_map service_elements left)) in
    longer (index_len (ss ++ service_elements t)) (index_len (flat_map service_elements trees)) refuses.0 grows
  where
    longer : (a b : ℕ) → INDEX_LIMIT < a → a ≤ b → INDEX_LIMIT < b
    longer a b h grows = omega (arith, h, grows)
beyond trees left ss t NoMemory g refuses = tt

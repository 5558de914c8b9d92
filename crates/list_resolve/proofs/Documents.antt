-- The document of a flat list, built entry by entry, and its length.
use Rattle.std.proofs.Common.{◌≡◌, ◌<◌, ◌+◌, ℕ, true, nat_lt, min, List, [], ◌∷◌, ◌++◌, map, take, get_or, length, Ok, Err, false, ◌≤◌, refl, sym, ap, ◌∙◌, arith}
use Rattle.std.proofs.lemmas.Grind.{common_steps}
use Rattle.std.proofs.lemmas.List.{map-append, take_more}
use Rattle.xml_tree.specs.Tree.{Tree, tree_of, Content, more_of, content_of_children}
use Rattle.xml_tree.specs.Edits.{with_elem}
use Rattle.usage_docs.specs.Services.{document_len}
use Rattle.list_resolve.specs.declared.fault.FlatFault.TheVariants.{TooLarge}
use Rattle.list_resolve.specs.declared.flat_documents.TheConstants.{DOCUMENT_LIMIT}
use Rattle.list_resolve.specs.Documents.{entry_tree, list_tree, flat_tree, flat_document}

kid_more : (es : List Tree) (e : Tree) → with_elem e (content_of_children es) ≡ content_of_children (es ++ e ∷ [])
kid_more [] e = refl
kid_more (x ∷ es) e = ap (more_of [] x) (kid_more es e)

entries_next : (us : List (List ℕ)) (i : ℕ) (u : List ℕ) → i < length us → u ≡ get_or us i u → content_of_children (map entry_tree (take (i + 1) us)) ≡ with_elem (entry_tree u) (content_of_children (map entry_tree (take i us)))
entries_next us i u lt there =
    ap (λ xs. content_of_children (map entry_tree xs)) (take_more us i u lt ∙ ap (λ x. take i us ++ x ∷ []) (sym there))
    ∙ ap content_of_children (map-append entry_tree (take i us) (u ∷ []))
    ∙ sym (kid_more (map entry_tree (take i us)) (entry_tree u))

with_entry : Tree → Tree → Tree
with_entry e old = record old { content = with_elem e old.content }

pub list_next : (us : List (List ℕ)) (i : ℕ) (u : List ℕ) (old new e : Tree) → old ≡ list_tree (take i us) → i < length us → u ≡ get_or us i u → e ≡ entry_tree u
    → new ≡ record old { content = with_elem e old.content } → new ≡ list_tree (take (i + 1) us)
unfolding with_entry
list_next us i u old new e h lt there made pushed =
    let same : with_elem e (content_of_children (map entry_tree (take i us))) ≡ content_of_children (map entry_tree (take (i + 1) us)) =
    ap (λ (x : Tree). with_elem x (content_of_children (map entry_tree (take i us)))) made ∙ sym (entries_next us i u lt there) in
    pushed ∙ ap (λ (o : Tree). with_entry e o) h ∙ ap (λ (k : Content). tree_of (list_tree us).name [] [] k) same

beyond : (n : ℕ) → DOCUMENT_LIMIT < n → nat_lt DOCUMENT_LIMIT n ≡ true
beyond n lt = grind (arith, common_steps)

pub too_large : (uris : List (List ℕ)) (root : Tree) (len : ℕ) → root ≡ flat_tree uris → len ≡ min (document_len root) 18446744073709551615 → DOCUMENT_LIMIT < len → flat_document uris ≡ Err (TooLarge len)
too_large uris root len e counted lt =
    let whole : len ≡ min (document_len (flat_tree uris)) 18446744073709551615 = counted ∙ ap (λ (t : Tree). min (document_len t) 18446744073709551615) e in
    rw (beyond (document_len (flat_tree uris)) (omega arith)) (ap (λ n. Err (TooLarge n)) (sym whole))

within : (n : ℕ) → n ≤ DOCUMENT_LIMIT → nat_lt DOCUMENT_LIMIT n ≡ false
within n le = grind (arith, common_steps)

pub not_too_large : (uris : List (List ℕ)) (root : Tree) (len : ℕ) → root ≡ flat_tree uris → len ≡ min (document_len root) 18446744073709551615 → len ≤ DOCUMENT_LIMIT → Ok root ≡ flat_document uris
not_too_large uris root len e counted le =
    let whole : len ≡ min (document_len (flat_tree uris)) 18446744073709551615 = counted ∙ ap (λ (t : Tree). min (document_len t) 18446744073709551615) e in
    rw (within (document_len (flat_tree uris)) (omega arith)) (ap Ok e)

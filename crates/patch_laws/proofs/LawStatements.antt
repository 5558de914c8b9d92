-- The laws as the contracts say them.
use Rattle.std.proofs.Common.{◌≡◌, ◌≢◌, ℕ, ◌≤◌, Bool, arith, true, List, [], Option, Some, IsSome, Ok, decimal, encode_utf8_all, option_and_then, refl, ap, ◌∙◌, subst}
use Rattle.std.specs.List.{AllByRecursion, find, list_any}
use Rattle.std.specs.Prelude.{unwrap_or}
use Rattle.xml_tree.specs.Edits.{attr_at}
use Rattle.xml_tree.specs.Proper.{IsProperTree}
use Rattle.xml_names.specs.Scopes.{in_scope_bindings, bound_uri}
use Rattle.xml_tree.specs.TreeScopes.{scope_at}
use Rattle.xml_tree.specs.Tree.{Tree, at, height}
use Rattle.xml_names.specs.declared.names.Attr.{Attr}
use Rattle.xml_names.specs.declared.names.Decl.{Decl}
use Rattle.xml_names.specs.declared.names.Name.{Name}
use Rattle.edit_ops.specs.Changes.{FitsTree, edited}
use Rattle.edit_ops.specs.declared.change.Change.{Change}
use Rattle.node_select.specs.Names.{attr_uri}
use Rattle.node_select.specs.Selection.{is_attr_named}
use Rattle.xml_tree.specs.PathTexts.{path_text}
use Rattle.patch_rules.specs.PatchOperations.{AtAttr, AtElement, locate}
use Rattle.patch_rules.specs.Selectors.{Reading}
use Rattle.patch_rules.specs.readers.AppliedOperations.{apply_operation}
use Rattle.edit_ops.specs.Notes.{AreNotesOf, Note, note_of, tag_after, tree_after}
use Rattle.patch_rules.specs.Notices.{aggregate_notice, count_declarations, first_free_candidate, is_prefix_declared, operations, patching_notice, prefix_for}
use Rattle.edit_ops.specs.DiffOperations.{attr_path_text, operation}
use Rattle.patch_rules.specs.Replay.{IsReplayOutcome, is_notice}
use Rattle.patch_rules.specs.readers.Replay.{apply_operations}
use Rattle.patch_rules.proofs.Lengths.{HasPositions-short}
use Rattle.patch_laws.specs.Premises.{HasFewNotes, AreReadablePositions, AreDiffableTrees, IsDiffableTree, BindsAlike, scope_around_operations}
use Rattle.patch_laws.specs.ReplayLaws.{NoticeReadsBack, answer_of_notes}
use Rattle.patch_laws.proofs.Attributes.{agrees, any_agree, found_any, may_name, not_unbound, uri_is}
use Rattle.patch_laws.proofs.AttributeOps.{as_written}
use Rattle.patch_laws.proofs.Changes.{all_applied_notes, applied_told, name_before}
use Rattle.patch_laws.proofs.Declarations.{few_declarations}
use Rattle.patch_laws.proofs.Forms.{is_notice_at_once, is_notice_one_by_one}
use Rattle.patch_laws.proofs.FreePrefixes.{IsPrefixFor-prefix_for, first_low}
use Rattle.patch_laws.proofs.Outcomes.{replays}
use Rattle.patch_laws.proofs.ProperNotices.{IsDiffPrefix-candidate_prefix, proper_at_once, proper_one_by_one}
use Rattle.patch_laws.proofs.ProperOperations.{IsDiffPrefix}
use Rattle.tree_text.specs.Faults.{IsTextResult}
use Rattle.xml_tree.specs.Print.{document_print}
use Rattle.tree_text.proofs.PrintedTexts.{document_is_read}
use Rattle.tree_text.proofs.ReadAnswers.{text_answer}
use Rattle.xml_names.specs.Characters.{has_only_chars}
use Rattle.xml_names.specs.Attributes.{has_qname as is_named}
use Rattle.patch_laws.specs.SelectedNodes.{selected_location}
use Rattle.patch_laws.proofs.PathSelection.{attr_means, attr_read, locates_attr, locates_element, path_means, path_read}
use Rattle.patch_laws.proofs.Wholes.{replayed_at_once, replayed_one_by_one}

pub element_selected : (c : List (List Decl)) (p : List ℕ) (t : Tree) → AreReadablePositions p → IsSome (at p t) → selected_location c (path_text p) t ≡ Some (AtElement p)
element_selected c p t small there =
    ap (λ (o : Option Reading). option_and_then (λ s. locate s t) (option_and_then (λ r. r.means c) o)) (path_read p small) ∙ ap (option_and_then (λ s. locate s t)) (path_means c p)
    ∙ locates_element (in_scope_bindings c) (unwrap_or (bound_uri c []) []) p t there

pub attribute_selected : (c : List (List Decl)) (p : List ℕ) (n : Name) (t k : Tree) → AreReadablePositions p → at p t ≡ Some k → IsProperTree [] t → IsSome (attr_at p n t) → BindsAlike (scope_at p t) c
    → (f : Attr → Bool) × (selected_location c (attr_path_text p n) t ≡ Some (AtAttr p f)) × AllByRecursion (λ a. f a ≡ is_named n a) k.attrs
attribute_selected c p n t k small there proper some meets =
    let found : IsSome (find (is_named n) k.attrs) = subst (λ o. IsSome o) (ap (option_and_then (λ (e : Tree). find (is_named n) e.attrs)) there) some in
    let name = name_before p n t k there proper found in
    let place = scope_at p t in
    let uri = attr_uri (in_scope_bindings c) n in
    let agree = agrees place n uri k.attrs (uri_is place c n meets name.named name.bound_prefix) name.sole in
    let has : list_any (is_attr_named place uri n.local) k.attrs ≡ true = any_agree (is_attr_named place uri n.local) (is_named n) k.attrs agree ∙ found_any (is_named n) k.attrs found in (
      is_attr_named place uri n.local,
      ap (λ (o : Option Reading). option_and_then (λ s. locate s t) (option_and_then (λ r. r.means c) o)) (attr_read p n small (as_written place n name.named) (may_name n name.other))
          ∙ ap (option_and_then (λ s. locate s t)) (attr_means c p n (not_unbound place c n meets name.named name.bound_prefix))
          ∙ locates_attr (in_scope_bindings c) (unwrap_or (bound_uri c []) []) uri n.local p t k there has,
      agree,
    )

pub one_made : (prefix uri : List ℕ) (previous next : ℕ) (t : Tree) (change : Change) → prefix ≢ [] → FitsTree t change → IsDiffableTree t → IsDiffableTree (edited t change)
    → apply_operation (scope_around_operations prefix uri) (operation prefix (note_of previous next t change)) t ≡ Ok (edited t change)
one_made prefix uri previous next t change ne fits before after = applied_told prefix uri ne t change fits before.proper (HasPositions-short t before.short) after.proper after.low

pub all_made : (prefix uri : List ℕ) (count tag : ℕ) (t : Tree) (ns : List Note) → prefix ≢ [] → AreNotesOf tag t ns → AreDiffableTrees t ns
    → apply_operations count (scope_around_operations prefix uri) (operations prefix ns) t ≡ Ok (tree_after t ns)
all_made prefix uri count tag t ns ne h told = all_applied_notes prefix uri ne count tag t ns h told

pub patching_replayed : (is_mine : List ℕ → Bool) (root sel : List ℕ) (tag : ℕ) (t : Tree) (ns : List Note) → is_mine sel ≡ true → AreNotesOf tag t ns → AreDiffableTrees t ns → HasFewNotes ns
    → IsReplayOutcome is_mine (patching_notice root sel tag ns) (Some (decimal tag, t)) (Ok (answer_of_notes ns, Some (decimal (tag_after tag ns), tree_after t ns)))
patching_replayed is_mine root sel tag t ns mine h told few =
    let p = IsPrefixFor-prefix_for ns (few_declarations tag t ns h told few) in
    replays is_mine (patching_notice root sel tag ns) (Some (decimal tag, t)) (Ok (answer_of_notes ns, Some (decimal (tag_after tag ns), tree_after t ns)))
    (replayed_one_by_one (prefix_for ns) p.some p.other is_mine root sel tag t ns mine p.free h told)

pub aggregate_replayed : (is_mine : List ℕ → Bool) (root sel : List ℕ) (tag : ℕ) (t : Tree) (ns : List Note) → is_mine sel ≡ true → AreNotesOf tag t ns → AreDiffableTrees t ns → HasFewNotes ns
    → IsReplayOutcome is_mine (aggregate_notice root sel tag ns) (Some (decimal tag, t)) (Ok (answer_of_notes ns, Some (decimal (tag_after tag ns), tree_after t ns)))
aggregate_replayed is_mine root sel tag t ns mine h told few =
    let p = IsPrefixFor-prefix_for ns (few_declarations tag t ns h told few) in
    replays is_mine (aggregate_notice root sel tag ns) (Some (decimal tag, t)) (Ok (answer_of_notes ns, Some (decimal (tag_after tag ns), tree_after t ns)))
    (replayed_at_once (prefix_for ns) p.some p.other is_mine root sel tag t ns mine p.free h told)

diff_prefix : (tag : ℕ) (t : Tree) (ns : List Note) → AreNotesOf tag t ns → AreDiffableTrees t ns → HasFewNotes ns → IsDiffPrefix (prefix_for ns)
diff_prefix tag t ns h told few =
    let os = operations [] ns in
    IsDiffPrefix-candidate_prefix (first_free_candidate (is_prefix_declared os) (count_declarations os) 0) (omega (arith, first_low (is_prefix_declared os) (count_declarations os) 0, few_declarations tag t ns h told few))

pub read_back : (notice : Tree) → IsProperTree [] notice × (height notice ≤ 67) → is_notice notice ≡ true → NoticeReadsBack notice
read_back notice h form =
    let bytes = encode_utf8_all (document_print notice) in
    record { read = subst (IsTextResult 67 [] bytes) (document_is_read 67 [] notice refl h.0 h.1).read (text_answer 67 [] bytes); form = form; proper = h.0 }

pub patching_read : (root sel : List ℕ) (tag : ℕ) (t : Tree) (ns : List Note) → has_only_chars root ≡ true → has_only_chars sel ≡ true → AreNotesOf tag t ns → AreDiffableTrees t ns → HasFewNotes ns
    → NoticeReadsBack (patching_notice root sel tag ns)
patching_read root sel tag t ns chars more h told few =
    let p = IsPrefixFor-prefix_for ns (few_declarations tag t ns h told few) in
    read_back (patching_notice root sel tag ns) (proper_one_by_one (prefix_for ns) (diff_prefix tag t ns h told few) root sel tag t ns chars more h told p.free)
    (is_notice_one_by_one (prefix_for ns) p.some p.other root sel ns p.free)

pub aggregate_read : (root sel : List ℕ) (tag : ℕ) (t : Tree) (ns : List Note) → has_only_chars root ≡ true → has_only_chars sel ≡ true → AreNotesOf tag t ns → AreDiffableTrees t ns → HasFewNotes ns
    → NoticeReadsBack (aggregate_notice root sel tag ns)
aggregate_read root sel tag t ns chars more h told few =
    let p = IsPrefixFor-prefix_for ns (few_declarations tag t ns h told few) in
    read_back (aggregate_notice root sel tag ns) (proper_at_once (prefix_for ns) (diff_prefix tag t ns h told few) root sel tag t ns chars more h told p.free)
    (is_notice_at_once (prefix_for ns) p.some p.other root sel tag ns p.free)

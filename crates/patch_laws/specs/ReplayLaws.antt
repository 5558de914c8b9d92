-- What the laws say of diff documents and of replicas.
use Rattle.std.specs.Prelude.{◌≡◌, ◌≢◌, ℕ, true, false, encode_utf8_all, Ok, None, Some, List, []}
use Rattle.std.specs.Prelude.{◌∷◌}
use Rattle.std.specs.List.{AllByRecursion}
use Rattle.std.specs.Str.{bytes_eq}
use Rattle.xml_tree.specs.Proper.{IsProperTree}
use Rattle.xml_names.specs.Scopes.{xml_prefix}
use Rattle.xml_tree.specs.Tree.{Tree}
use Rattle.tree_text.specs.Faults.{IsTextResult}
use Rattle.xml_tree.specs.Print.{document_print}
use Rattle.edit_ops.specs.Notes.{Note}
use Rattle.patch_rules.specs.Notices.{declares_prefix, most_notice_levels}
use Rattle.patch_rules.specs.Replay.{ReplicaContents, ReplayAnswer, Same, Patched, is_notice}
use Rattle.patch_laws.specs.Premises.{IsReplicaTree}

-- the prefix of a diff document: not the default, not `xml`, and none that an operation of these
-- records declares
pub record IsDiffPrefix (prefix : List ℕ) (ns : List Note) : Type 0 where
  pub some : prefix ≢ []
  pub other : bytes_eq prefix xml_prefix ≡ false
  pub free : AllByRecursion (λ n. declares_prefix prefix n.bindings ≡ false) ns

-- the answer of the diff document of these records
abbrev pub answer_of_notes : List Note → ReplayAnswer
answer_of_notes [] = Same
answer_of_notes (n ∷ ns) = Patched

-- the bytes of the diff document's text are, by the grammar, this tree, of at most
-- `most_notice_levels` levels; it has the form of a diff document, and is proper
pub record NoticeReadsBack (notice : Tree) : Type 0 where
  pub read : IsTextResult most_notice_levels [] (encode_utf8_all (document_print notice))
      (Ok notice)
  pub form : is_notice notice ≡ true
  pub proper : IsProperTree [] notice

-- what a replica may have: nothing, or a sound tree with its tag
abbrev pub HasReplicaTree : ReplicaContents → Type 0
HasReplicaTree None = Unit {0}
HasReplicaTree (Some h) = IsReplicaTree h.1

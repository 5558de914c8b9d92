-- Diff documents without operations: of a document that is gone, and of tags alone.
use Rattle.std.proofs.Common.{◌≡◌, ℕ, Bool, true, List, [], ◌∷◌, Some, None, Ok, codes, decimal, refl, arith}
use Rattle.xml_names.specs.Characters.{has_only_chars}
use Rattle.xml_names.specs.ExpandedNames.{attr_name}
use Rattle.xml_tree.specs.Tree.{Tree}
use Rattle.edit_ops.specs.Notes.{Note, tag_after}
use Rattle.edit_ops.specs.DiffOperations.{plain_attr as plain}
use Rattle.patch_rules.specs.Notices.{candidate_prefix, diff_uri, gone_notice, removed_document, tags_documents, tags_notice}
use Rattle.patch_rules.specs.Replay.{Fetch, Removed, IsReplayOutcome, Same}
use Rattle.patch_rules.specs.readers.Replay.{replay_outcome}
use Rattle.patch_laws.specs.Premises.{scope_around_operations}
use Rattle.patch_laws.specs.ReplayLaws.{NoticeReadsBack}
use Rattle.patch_laws.proofs.ProperNotices.{AreDocuments, IsDiffPrefix-candidate_prefix, diff_proper, document_sound, no_prefixes, two_names}
use Rattle.patch_laws.proofs.Numbers.{number_chars}
use Rattle.patch_laws.proofs.Outcomes.{replays}
use Rattle.patch_laws.proofs.ProperOperations.{IsDiffPrefix, named_ours, plain_attribute}
use Rattle.patch_laws.proofs.LawStatements.{read_back}
use Rattle.patch_laws.proofs.Wholes.{bound_document, same_text}

gone_read_so : (is_mine : List ℕ → Bool) (root sel : List ℕ) (tag : ℕ) (t : Tree) → is_mine sel ≡ true → replay_outcome is_mine (gone_notice root sel tag) (Some (decimal tag, t)) ≡ Ok (Removed, None)
gone_read_so is_mine root sel tag t h = rw (h, same_text (decimal tag)) refl

pub gone_replayed : (is_mine : List ℕ → Bool) (root sel : List ℕ) (tag : ℕ) (t : Tree) → is_mine sel ≡ true → IsReplayOutcome is_mine (gone_notice root sel tag) (Some (decimal tag, t)) (Ok (Removed, None))
gone_replayed is_mine root sel tag t h = replays is_mine (gone_notice root sel tag) (Some (decimal tag, t)) (Ok (Removed, None)) (gone_read_so is_mine root sel tag t h)

tags_read_so : (is_mine : List ℕ → Bool) (root sel : List ℕ) (tag : ℕ) (t : Tree) (n : Note) (ns : List Note) → is_mine sel ≡ true
    → replay_outcome is_mine (tags_notice root sel tag (n ∷ ns)) (Some (decimal tag, t)) ≡ Ok (Fetch (decimal (tag_after tag (n ∷ ns))), Some (decimal tag, t))
tags_read_so is_mine root sel tag t n ns h = rw (h, same_text (decimal tag)) refl

pub tags_replayed : (is_mine : List ℕ → Bool) (root sel : List ℕ) (tag : ℕ) (t : Tree) (n : Note) (ns : List Note) → is_mine sel ≡ true
    → IsReplayOutcome is_mine (tags_notice root sel tag (n ∷ ns)) (Some (decimal tag, t)) (Ok (Fetch (decimal (tag_after tag (n ∷ ns))), Some (decimal tag, t)))
tags_replayed is_mine root sel tag t n ns h =
    replays is_mine (tags_notice root sel tag (n ∷ ns)) (Some (decimal tag, t)) (Ok (Fetch (decimal (tag_after tag (n ∷ ns))), Some (decimal tag, t))) (tags_read_so is_mine root sel tag t n ns h)

pub same_replayed : (is_mine : List ℕ → Bool) (root sel : List ℕ) (tag : ℕ) (t : Tree) → IsReplayOutcome is_mine (tags_notice root sel tag []) (Some (decimal tag, t)) (Ok (Same, Some (decimal tag, t)))
same_replayed is_mine root sel tag t = replays is_mine (tags_notice root sel tag []) (Some (decimal tag, t)) (Ok (Same, Some (decimal tag, t))) refl

first : IsDiffPrefix (candidate_prefix 0)
first = IsDiffPrefix-candidate_prefix 0 (omega arith)

removed_sound : (sel : List ℕ) (from : ℕ) → has_only_chars sel ≡ true → AreDocuments (candidate_prefix 0) first (removed_document (candidate_prefix 0) sel from ∷ [])
removed_sound sel from chars =
    let here = scope_around_operations (candidate_prefix 0) diff_uri in (
      (
        (
          record {
            named = named_ours (candidate_prefix 0) first here (codes "document") refl (bound_document (candidate_prefix 0) first.some first.other);
            declarations = tt;
            attributes = (plain_attribute here (codes "sel") sel refl (λ e. absurd cc) chars, (plain_attribute here (codes "previous-etag") (decimal from) refl (λ e. absurd cc) (number_chars from), tt));
            prefixes = no_prefixes;
            names = two_names (attr_name here (plain (codes "sel") sel).name) (attr_name here (plain (codes "previous-etag") sel).name) refl;
          },
          tt,
        ),
        omega arith,
      ),
      tt,
    )

pub gone_read : (root sel : List ℕ) (tag : ℕ) → has_only_chars root ≡ true → has_only_chars sel ≡ true → NoticeReadsBack (gone_notice root sel tag)
gone_read root sel tag chars more = read_back (gone_notice root sel tag) (diff_proper (candidate_prefix 0) first root (removed_document (candidate_prefix 0) sel tag ∷ []) chars (removed_sound sel tag more)) refl

tags_sound : (sel : List ℕ) (tag : ℕ) (ns : List Note) → has_only_chars sel ≡ true → AreDocuments (candidate_prefix 0) first (tags_documents (candidate_prefix 0) sel tag ns)
tags_sound sel tag [] chars = tt
tags_sound sel tag (n ∷ ns) chars = (document_sound (candidate_prefix 0) first sel tag (tag_after tag (n ∷ ns)) [] chars tt, tt)

pub tags_read : (root sel : List ℕ) (tag : ℕ) (ns : List Note) → has_only_chars root ≡ true → has_only_chars sel ≡ true → NoticeReadsBack (tags_notice root sel tag ns)
tags_read root sel tag [] chars more = read_back (tags_notice root sel tag []) (diff_proper (candidate_prefix 0) first root [] chars tt) refl
tags_read root sel tag (n ∷ ns) chars more =
    read_back (tags_notice root sel tag (n ∷ ns)) (diff_proper (candidate_prefix 0) first root (tags_documents (candidate_prefix 0) sel tag (n ∷ ns)) chars (tags_sound sel tag (n ∷ ns) more)) refl

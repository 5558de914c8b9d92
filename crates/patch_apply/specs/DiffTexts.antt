-- Diff documents as texts. RFC 5874, section 3: an XML document whose root is an `xcap-diff`.
use Rattle.std.specs.Prelude.{◌≡◌, ◌≤◌, ℕ, true, List, [], Result, Ok, Err, if◌then◌else◌}
use Rattle.xml_tree.specs.Proper.{IsProperTree}
use Rattle.xml_tree.specs.Tree.{Tree, height}
use Rattle.tree_text.specs.Faults.{IsTextResult}
use Rattle.tree_text.specs.declared.fault.TextFault.{TextFault}
use Rattle.patch_rules.specs.Notices.{most_notice_levels}
use Rattle.patch_rules.specs.Replay.{is_notice}
use Rattle.patch_apply.specs.declared.fault.NoticeFault.{NoticeFault}
use Rattle.patch_apply.specs.declared.fault.NoticeFault.TheVariants.{NotADiff}

-- every diff document is the proper tree of an XML document, and has the form of a diff document
pub record IsNotice (t : Tree) : Type 0 where
  pub proper : IsProperTree [] t
  pub low : height t ≤ most_notice_levels
  pub form : is_notice t ≡ true

-- how a text is taken, by the tree that it is parsed as
abbrev pub notice_or_fault : Result Tree TextFault → Result Tree NoticeFault
notice_or_fault (Ok t) = if is_notice t then Ok t else Err NotADiff
notice_or_fault (Err fault) = Err NotADiff

-- the answer of the grammar: the tree of the bytes, of at most `most_notice_levels` levels, where
-- it has the form of a diff document
pub record NoticeAnswer (bytes : List ℕ) (answer : Result Tree NoticeFault) : Type 0 where
  pub text : Result Tree TextFault
  pub by_grammar : IsTextResult most_notice_levels [] bytes text
  pub is_told : answer ≡ notice_or_fault text

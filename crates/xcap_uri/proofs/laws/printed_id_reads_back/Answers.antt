use Rattle.std.proofs.Common.{◌++◌, ◌∷◌}
use Rattle.doc_names.specs.DocIds.{id_text}
use Rattle.xcap_uri.specs.Roots.{path_of, slash}
use Rattle.xcap_uri.specs.declared.target.Target.TheVariants.{Document}
use Rattle.xcap_uri.proofs.ReadsBack.{reads_back, reads_back_whole}
use Rattle.xcap_uri.proofs.TargetAnswers.{read_is}
use Rattle.xcap_uri.proofs.laws.printed_id_reads_back.Goals as goal

pub returns : goal.returns
returns c =
    let root = c.args.root.now in
    let doc = c.args.doc.now in
    record {
      below_root_path = λ readable. read_is root (path_of root ++ (slash ∷ id_text doc)) (Document doc) (reads_back root doc c.text-text.ensures.valid_root_text c.home_is_decoded.ensures.spelled_home c.text_is_decoded.ensures.spelled_text readable);
      below_whole_root = λ readable. read_is root (root ++ (slash ∷ id_text doc)) (Document doc) (reads_back_whole root doc c.home_is_decoded.ensures.spelled_home c.text_is_decoded.ensures.spelled_text readable);
    }

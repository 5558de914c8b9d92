use Rattle.std.proofs.Common.{◌∷◌, ◌++◌, Option, inl, subst}
use Rattle.xcap_uri.specs.Roots.{slash}
use Rattle.doc_names.specs.declared.doc_id.DocId.{DocId}
use Rattle.xcap_app.specs.ClientCommands.{MeansDocument, ended_so, follows}
use Rattle.xcap_app.proofs.client_runs.run_follow.Goals as goal

pub returns-in-Ok-Some : goal.returns-in-Ok-Some
returns-in-Ok-Some g c = record {
  runs_command =
      follows c.in-Ok-Some.doc (subst (λ (d : Option DocId). MeansDocument c.args.requester.now.root (c.args.requester.now.root ++ slash ∷ c.args.document.now) d) c.in-Ok-Some.field-0-is c.in-Ok-Some.ensures.means_document)
      (ended_so c.follow.result c.follow.ensures.follows_document (inl c.exit_after_call.ensures.exact));
}

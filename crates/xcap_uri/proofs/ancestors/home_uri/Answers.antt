use Rattle.std.proofs.Common.{◌≡◌, List, ℕ, [], ◌∷◌, ◌++◌, codes, IfOk, ap, ◌∙◌, subst}
use Rattle.xcap_uri.proofs.HomeIds.{home_front, uri_of_front, unnamed_id}
use Rattle.xcap_uri.proofs.ancestors.home_uri.Goals as goal

pub returns : goal.returns
returns c = record {
  ok =
      let auid = c.args.auid in let home = c.args.home.now in let root = c.args.root.now in
      let made : c.in_ok-id.id ≡ home_front auid home ++ 47 ∷ [] =
      c.in_ok-id.ensures.ok ∙ unnamed_id auid home in
      let short = c.drop_last_char.ensures.drops_last (home_front auid home) 47 (c.as_str.ensures.same_chars ∙ made) in
      subst (λ (z : List ℕ). IfOk c.uri_under.result (λ uri. uri ≡ z)) (ap (λ (z : List ℕ). root ++ (codes "/" ++ z)) short ∙ uri_of_front root auid home) c.uri_under.ensures.ok;
}

use Rattle.std.proofs.Common.{◌≡◌, List, ℕ, [], ◌∷◌, ◌++◌, codes, ap, ◌∙◌}
use Rattle.std.specs.Str.{chars}
use Rattle.doc_names.specs.PercentEscapes.{escape_part}
use Rattle.doc_names.specs.DocIds.{id_text}
use Rattle.client_follower.proofs.Words.{feeds, joined}
use Rattle.client_follower.proofs.feed_paths.feed_path.Goals as goal

pub returns : goal.returns
returns c = record {
  ok =
      let tag : chars c.as_str.result.now ≡ escape_part c.args.tag.now = c.as_str.ensures.same_chars ∙ c.in_ok-part.ensures.ok in
      let id : chars c.as_str-2.result.now ≡ id_text c.args.doc.now = c.as_str-2.ensures.same_chars ∙ c.in_ok-id.ensures.ok in
      let begun : c.in_ok-path.path ≡ codes "~feed/aggregate/" = c.in_ok-path.ensures.same_chars ∙ feeds in
      c.in_ok-push_str-2.ensures.appends_chars
      ∙ ap (λ (l : List ℕ). l ++ chars c.as_str-2.result.now) (c.in_ok-push.ensures.appended ∙ ap (λ (l : List ℕ). l ++ 47 ∷ []) (c.in_ok-push_str.ensures.appends_chars ∙ ap (λ (l : List ℕ). l ++ chars c.as_str.result.now) begun ∙ ap (λ (l : List ℕ). codes "~feed/aggregate/" ++ l) tag))
      ∙ ap (λ (l : List ℕ). ((codes "~feed/aggregate/" ++ escape_part c.args.tag.now) ++ 47 ∷ []) ++ l) id
      ∙ joined (codes "~feed/aggregate/") (escape_part c.args.tag.now) (id_text c.args.doc.now);
}

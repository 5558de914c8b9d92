use Rattle.std.proofs.Common.{◌≡◌, Bool, true, false, [], not, ◌&&◌, bytes_eq, sym, ap, ◌∙◌}
use Rattle.std.proofs.lemmas.Str.{chars-nil}
use Rattle.edit_plans.proofs.put_attribute.is_binding.Goals as goal

pub returns-then-not-is : goal.returns-then-not-is
returns-then-not-is c = record {
  exact =
      let prefix = c.args.decl.now.prefix in
      let bound = c.args.decl.now.uri in
      let some : bytes_eq prefix [] ≡ false = sym (c.is.ensures.exact ∙ ap (bytes_eq prefix) chars-nil) ∙ c.if-not-is.true in
      c.is-then-not-is.ensures.exact ∙ ap (bytes_eq bound) c.as_str.ensures.same_chars ∙ sym (ap (λ (b : Bool). not b && bytes_eq bound c.args.uri.now) some);
}

pub returns-else-not-is : goal.returns-else-not-is
returns-else-not-is c = record {
  exact =
      let prefix = c.args.decl.now.prefix in
      let bound = c.args.decl.now.uri in
      let none : bytes_eq prefix [] ≡ true = sym (c.is.ensures.exact ∙ ap (bytes_eq prefix) chars-nil) ∙ c.if-not-is.false in
      ap not c.if-not-is.false ∙ sym (ap (λ (b : Bool). not b && bytes_eq bound c.args.uri.now) none);
}

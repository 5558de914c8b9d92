use Rattle.std.proofs.Common.{◌≡◌, List, ℕ, Bool, true, false, None, Some, bytes_eq, refl, sym, ap, ◌∙◌}
use Rattle.std.specs.Str.{chars}
use Rattle.xml_names.specs.Scopes.{xml_prefix}
use Rattle.tree_text.proofs.StackLemmas.{last_in, bound_xml, bound_nowhere, bound_empty, bound_to}
use Rattle.tree_text.proofs.namespaces.Namespaces.number_of_prefix.Goals as goal

letters : chars xml_prefix ≡ xml_prefix
unfolding chars
letters = refl

tested : (p : List ℕ) (b t : Bool) → b ≡ bytes_eq p (chars xml_prefix) → b ≡ t → bytes_eq p xml_prefix ≡ t
tested p b t is test = ap (bytes_eq p) (sym letters) ∙ sym is ∙ test

pub returns-then-is : goal.returns-then-is
returns-then-is c = record { numbers_prefix = λ here are. bound_xml c.args.self.now here are c.args.prefix.now (tested c.args.prefix.now c.is.result true c.is.ensures.exact c.if-is.true) }

pub returns-in_err-get : goal.returns-in_err-get
returns-in_err-get c = record {
  numbers_prefix = λ here are.
      rw c.from_residual.ensures
      (bound_nowhere c.args.self.now here are c.args.prefix.now (tested c.args.prefix.now c.is.result false c.is.ensures.exact c.if-is.false) None c.in_err-get.ensures.value refl);
}

pub returns-in_err-namespace_number : goal.returns-in_err-namespace_number
returns-in_err-namespace_number c = record {
  numbers_prefix = λ here are.
      rw c.from_residual-in_err-namespace_number.ensures
      (bound_nowhere c.args.self.now here are c.args.prefix.now (tested c.args.prefix.now c.is.result false c.is.ensures.exact c.if-is.false) (Some c.in_ok-get.field-0.now) c.in_ok-get.ensures.value
      (c.in_err-namespace_number.ensures.value ∙ ap last_in c.deref.ensures.value));
}

pub returns-then-namespace_number-self : goal.returns-then-namespace_number-self
returns-then-namespace_number-self c = record {
  numbers_prefix = λ here are.
      bound_empty c.args.self.now here are c.args.prefix.now (tested c.args.prefix.now c.is.result false c.is.ensures.exact c.if-is.false) (Some c.in_ok-get.field-0.now) c.in_ok-get.ensures.value
      c.in_ok-namespace_number.field-0.now (c.in_ok-namespace_number.ensures.value ∙ ap last_in c.deref.ensures.value) c.if-namespace_number-self.true;
}

pub returns : goal.returns
returns c = record {
  numbers_prefix = λ here are.
      bound_to c.args.self.now here are c.args.prefix.now (tested c.args.prefix.now c.is.result false c.is.ensures.exact c.if-is.false) (Some c.in_ok-get.field-0.now) c.in_ok-get.ensures.value
      c.in_ok-namespace_number.field-0.now (c.in_ok-namespace_number.ensures.value ∙ ap last_in c.deref.ensures.value) c.if-namespace_number-self.false;
}

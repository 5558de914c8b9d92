use Rattle.std.proofs.Common.{ℕ, List, Option, length, sym, subst, ◌∙◌}
use Rattle.usage_docs.specs.declared.key_repeats.KeyedChild.{KeyedChild}
use Rattle.usage_docs.specs.declared.schema_table.ElementKind.{ElementKind}
use Rattle.usage_docs.specs.readers.KeyRepeats.{IsLeastPair}
use Rattle.usage_docs.proofs.RepeatLemmas.{first_keyless, first_none, first_some}
use Rattle.usage_docs.proofs.key_repeats.first_repeat.Goals as goal

pub returns-in_default : goal.returns-in_default
returns-in_default c = record {
  is_first_repeat = λ row s xs held.
      first_none row s xs c.args.keys.items c.sort_unstable.new.self.items c.sort_unstable.ensures.permutation c.sort_unstable.ensures.sorted held
      (subst (λ (o : Option (ℕ × ElementKind)). IsLeastPair c.sort_unstable.new.self.items (length c.sort_unstable.new.self.items) o) c.in_default.is
      (subst (λ (ks : List KeyedChild). IsLeastPair ks (length ks) c.first_repeat_pair.result) c.deref.ensures.value c.first_repeat_pair.ensures.is_least_pair));
}

pub returns-in_default-key_of : goal.returns-in_default-key_of
returns-in_default-key_of c = record {
  is_first_repeat = λ row s xs held.
      absurd (first_keyless row s xs c.args.keys.items c.sort_unstable.new.self.items c.sort_unstable.ensures.permutation c.sort_unstable.ensures.sorted held c.in-Some.least
      (subst (λ (o : Option (ℕ × ElementKind)). IsLeastPair c.sort_unstable.new.self.items (length c.sort_unstable.new.self.items) o) c.in-Some.is
      (subst (λ (ks : List KeyedChild). IsLeastPair ks (length ks) c.first_repeat_pair.result) c.deref.ensures.value c.first_repeat_pair.ensures.is_least_pair))
      (sym c.key_of.ensures.exact ∙ c.in_default-key_of.is));
}

pub returns : goal.returns
returns c = record {
  is_first_repeat = λ row s xs held.
      first_some row s xs c.args.keys.items c.sort_unstable.new.self.items c.sort_unstable.ensures.permutation c.sort_unstable.ensures.sorted held c.in-Some.least
      (subst (λ (o : Option (ℕ × ElementKind)). IsLeastPair c.sort_unstable.new.self.items (length c.sort_unstable.new.self.items) o) c.in-Some.is
      (subst (λ (ks : List KeyedChild). IsLeastPair ks (length ks) c.first_repeat_pair.result) c.deref.ensures.value c.first_repeat_pair.ensures.is_least_pair))
      c.in-Some-key_of.key (sym c.key_of.ensures.exact ∙ c.in-Some-key_of.is);
}

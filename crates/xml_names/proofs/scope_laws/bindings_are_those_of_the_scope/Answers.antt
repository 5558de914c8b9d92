use Rattle.xml_names.proofs.BindingWords.{AreInOrder-in_scope_bindings, binds_prefix-in_scope_bindings, in_scope_bindings-sole, bound_uri-in_scope_bindings}
use Rattle.xml_names.proofs.scope_laws.bindings_are_those_of_the_scope.Goals as goal

pub returns : goal.returns
returns c = record { bound_alike = bound_uri-in_scope_bindings; prefixes_rise = AreInOrder-in_scope_bindings; each_binds = binds_prefix-in_scope_bindings; list_is_unique = in_scope_bindings-sole }

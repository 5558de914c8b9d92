-- Homes: the derived `==` is the test by parts, which holds exactly where two homes are equal.
use Rattle.std.proofs.Common.{◌≡◌, true, refl, ap}
use Rattle.std.specs.Cmp.Lexicographic.{bytes_decides}
use Rattle.doc_names.specs.contracts.doc_id.HomePartialEq.TheImpl.{eq-value}
use Rattle.doc_names.specs.declared.doc_id.Home.{Home}
use Rattle.doc_names.specs.declared.doc_id.Home.TheVariants.{Global, User}
use Rattle.doc_names.specs.NameEquality.{same_home}

pub home_eq_is_same_home : (a b : Home) → eq-value.it a b ≡ same_home a b
home_eq_is_same_home Global Global = refl
home_eq_is_same_home Global (User b) = refl
home_eq_is_same_home (User a) Global = refl
home_eq_is_same_home (User a) (User b) = refl

pub home_exact : (a b : Home) → same_home a b ≡ true → a ≡ b
home_exact Global Global h = refl
home_exact Global (User b) h = cc
home_exact (User a) Global h = cc
home_exact (User a) (User b) h = ap User ((bytes_decides a b).0 h)

pub home_self : (a : Home) → same_home a a ≡ true
home_self Global = refl
home_self (User a) = (bytes_decides a a).1 refl

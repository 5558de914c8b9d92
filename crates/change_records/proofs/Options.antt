-- What an option that is there was made of.
use Rattle.std.proofs.Common.{◌≡◌, Option, None, Some, refl, option_map}
use Rattle.std.specs.Option.{option_and_then}

pub some_same : {A : Type 0} (x y : A) → Some x ≡ Some y → x ≡ y
some_same x y e = cc

pub bound_of : {A B : Type 0} (f : A → Option B) (o : Option A) (y : B) → option_and_then f o ≡ Some y → (x : A) × (o ≡ Some x) × (f x ≡ Some y)
bound_of f None y e = absurd cc
bound_of f (Some x) y e = (x, refl, e)

pub mapped_of : {A B : Type 0} (f : A → B) (o : Option A) (y : B) → option_map f o ≡ Some y → (x : A) × (o ≡ Some x) × (f x ≡ y)
mapped_of f None y e = absurd cc
mapped_of f (Some x) y e = (x, refl, some_same (f x) y e)

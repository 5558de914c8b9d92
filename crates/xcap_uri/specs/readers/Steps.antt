-- The steps in which a target is read: the first fault is reported. RFC 4825, section 6.
use Rattle.std.specs.Prelude.{Result, Ok, Err}
use Rattle.xml_names.specs.declared.read_error.ReadError.{ReadError}
use Rattle.xcap_uri.specs.declared.fault.UriFault.{UriFault}

-- a fault of a target, or out of memory
abbrev pub UriError : Type 0
UriError = ReadError UriFault

-- the next step, unless an earlier one failed: the first fault is reported
infixl 10 ◌>>=◌
abbrev pub ◌>>=◌ : {A B : Type 0} → Result A UriError → (A → Result B UriError) → Result B UriError
(Ok x) >>= f = f x
(Err e) >>= f = Err e

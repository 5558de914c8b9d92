-- The count of failed reads where reading stopped, after reads that did not fail.
use Rattle.std.proofs.Common.{◌≡◌, ℕ, Err, ◌∙◌, arith}
use Rattle.xcap_client.specs.declared.response_fault.FillError.{FillError}
use Rattle.xcap_client.specs.declared.response_fault.FillError.TheVariants.{ReadFailed, NoMemory}
use Rattle.xcap_client.specs.inner.FillErrors.{CountsFillError}

pub stop_on : (T U : Type 0) (old mid new : ℕ) (stop : FillError) → mid ≡ old → CountsFillError {T = T} mid new (Err stop) → CountsFillError {T = U} old new (Err stop)
stop_on T U old mid new ReadFailed stayed counts = omega arith
stop_on T U old mid new NoMemory stayed counts = counts ∙ stayed

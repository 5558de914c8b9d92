-- The body of a response, by the bytes that were read after the head.
use Rattle.std.proofs.Common.{◌≡◌, ℕ, ◌+◌, ◌<◌, ◌≤◌, inl, inr, List, [], ◌++◌, length, take, Result, Ok, Err, refl, sym, ap, subst, arith, length-append}
use Rattle.std.proofs.lemmas.Bool.{lt-ltb, le-ltb}
use Rattle.std.proofs.lemmas.List.{take-append-le}
use Rattle.xcap_io.specs.StreamStates.{InputState}
use Rattle.xcap_io.specs.StreamTraffic.{IsEnded}
use Rattle.xcap_io.proofs.TrafficSums.{gave_none}
use Rattle.http_wire.specs.inner.ReadBuffer.{BuffersMore}
use Rattle.xcap_client.specs.declared.response_fault.ResponseFault.{ResponseFault}
use Rattle.xcap_client.specs.declared.response_fault.ResponseFault.TheVariants.{TooLong, Short}
use Rattle.xcap_client.specs.declared.response_fault.FillError.{FillError}
use Rattle.xcap_client.specs.declared.response_fault.FillError.TheVariants.{ReadFailed, NoMemory}
use Rattle.xcap_client.specs.declared.body_length.BodyLength.{BodyLength}
use Rattle.xcap_client.specs.declared.body_length.BodyLength.TheVariants.{Empty, Exactly, ToEnd}
use Rattle.xcap_client.specs.declared.body_length.TheConstants.{MAX_RESPONSE_BODY_BYTES}
use Rattle.xcap_client.specs.ReadFaults.{HoldsByCause, response_fault_of}
use Rattle.xcap_client.specs.BodyLengths.{body_of_length, NeedsMoreBody}
use Rattle.xcap_client.specs.inner.ReadBuffer.{SettlesValue}
use Rattle.xcap_client.specs.inner.ResponseBodies.{ReadsBody}

-- there is no body
pub no_body : (held : List ℕ) (left : InputState) (body : List ℕ) → body ≡ [] → ReadsBody Empty held left left (Ok body)
no_body held left body none = record { read = []; given = gave_none left; body = inl (λ more. ap Ok (sym none)) }

module _ (body_len : BodyLength) (held held' : List ℕ) (left left' : InputState) (gains : BuffersMore held held' left left') where
  -- by the bytes in the buffer then
  by_held : (result : Result (List ℕ) ResponseFault) → HoldsByCause result (NeedsMoreBody body_len held') (SettlesValue (body_of_length body_len) held' left') → ReadsBody body_len held left left' result
  by_held result is = record {
    read = gains.read;
    given = gains.given;
    body = subst (λ (h : List ℕ). HoldsByCause result (NeedsMoreBody body_len h) (SettlesValue (body_of_length body_len) h left')) gains.added is;
  }

  -- reading stopped before they decided
  pub stopped : (stop : FillError) → NeedsMoreBody body_len held' → ReadsBody body_len held left left' (Err (response_fault_of stop))
  stopped ReadFailed lacks = by_held (Err (response_fault_of ReadFailed)) lacks
  stopped NoMemory lacks = by_held (Err (response_fault_of NoMemory)) tt

module _ (held held' : List ℕ) (left left' : InputState) (gains : BuffersMore held held' left left') where
  -- fewer bytes came than were due
  pub too_few : (len : ℕ) → length held' < len → IsEnded left' → ReadsBody (Exactly len) held left left' (Err (Short (length held') len))
  too_few len fewer ended = by_held (Exactly len) held held' left left' gains (Err (Short (length held') len)) (inr (rw (lt-ltb (length held') len fewer) refl, ended))

  -- all bytes that were due came
  pub enough : (len : ℕ) → len ≤ length held' → ReadsBody (Exactly len) held left left' (Ok (take len held'))
  enough len all = by_held (Exactly len) held held' left left' gains (Ok (take len held')) (inl (λ more.
      rw (le-ltb (length (held' ++ more)) len (omega (arith, length-append held' more, all))) (ap Ok (take-append-le len held' more all))))

  -- more bytes came than the limit allows
  pub too_many : MAX_RESPONSE_BODY_BYTES + 1 ≤ length held' → ReadsBody ToEnd held left left' (Err (TooLong (MAX_RESPONSE_BODY_BYTES + 1)))
  too_many over = by_held ToEnd held held' left left' gains (Err (TooLong (MAX_RESPONSE_BODY_BYTES + 1))) (inl (λ more.
      rw (lt-ltb MAX_RESPONSE_BODY_BYTES (length (held' ++ more)) (omega (arith, length-append held' more, over))) refl))

  -- all bytes came, to their end
  pub to_end : length held' < MAX_RESPONSE_BODY_BYTES + 1 → IsEnded left' → ReadsBody ToEnd held left left' (Ok held')
  to_end within ended = by_held ToEnd held held' left left' gains (Ok held') (inr (rw (le-ltb MAX_RESPONSE_BODY_BYTES (length held') (omega (arith, within))) refl, ended))

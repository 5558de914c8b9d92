-- Segments read one after the other.
use Rattle.std.proofs.Common.{◌≡◌, ℕ, Bool, true, false, ◌==◌, List, [], ◌∷◌, ◌++◌, Option, None, Some, unwrap_or, Result, Ok, Err, refl, ap, ◌∙◌, sym, append_assoc, ◌⊎◌, inl, inr}
use Rattle.std.proofs.lemmas.Bool.{eqb-true}
use Rattle.std.proofs.lemmas.List.{append-nil}
use Rattle.std.specs.Str.{bytes_eq}
use Rattle.std.specs.List.{onto_first as with_first, join_with_byte as joined}
use Rattle.xml_names.specs.declared.read_error.ReadError.TheVariants.{NoMemory}
use Rattle.xcap_uri.specs.Delimiters.{front_before, rest_after, pieces}
use Rattle.xcap_uri.specs.readers.Escapes.{parsed_text}
use Rattle.xcap_uri.specs.readers.Steps.{UriError, ◌>>=◌}
use Rattle.xcap_uri.specs.Roots.{slash}
use Rattle.xcap_uri.specs.readers.Targets.{parsed_path, parsed_segments}
use Rattle.doc_names.specs.DocIds.{selector_separator}
use Rattle.xcap_uri.proofs.Pieces.{pieces_cut, pieces_behind}

abbrev pub Segments : Type 0
Segments = Result (List (List ℕ) × Option (List ℕ)) UriError

-- segments before those that are read: none at first
abbrev pub with_segments : List (List ℕ) → Segments → Segments
with_segments front read = read >>= λ x. Ok (front ++ x.0, x.1)

-- a character before pieces, and a stop
joined_first : (stop b : ℕ) (ps : List (List ℕ)) → joined stop (with_first b ps) ≡ b ∷ joined stop ps
joined_first stop b [] = refl
joined_first stop b (p ∷ []) = refl
joined_first stop b (p ∷ q ∷ ps) = refl

joined_after : (stop : ℕ) (ps : List (List ℕ)) (p : List ℕ) (qs : List (List ℕ)) → ps ≡ p ∷ qs → joined stop ([] ∷ ps) ≡ stop ∷ joined stop ps
joined_after stop ps p qs e = rw e refl

-- pieces, joined again
one_more : (stop b : ℕ) (bs : List ℕ) (t : Bool) → b == stop ≡ t → joined stop (pieces stop bs) ≡ bs → joined stop (pieces stop (b ∷ bs)) ≡ b ∷ bs
one_more stop b bs true h e =
    let same = eqb-true b stop h in
    rw h (joined_after stop (pieces stop bs) _ _ (pieces_cut stop bs) ∙ ap (λ (l : List ℕ). stop ∷ l) e ∙ ap (λ x. x ∷ bs) (sym same))
one_more stop b bs false h e = rw h (joined_first stop b (pieces stop bs) ∙ ap (λ (l : List ℕ). b ∷ l) e)

pub joined_pieces : (stop : ℕ) (text : List ℕ) → joined stop (pieces stop text) ≡ text
joined_pieces stop [] = refl
joined_pieces stop (b ∷ bs) = one_more stop b bs (b == stop) refl (joined_pieces stop bs)

joined_behind : (stop : ℕ) (rest : Option (List ℕ)) → joined stop (pieces_behind stop rest) ≡ unwrap_or rest []
joined_behind stop None = refl
joined_behind stop (Some rest) = joined_pieces stop rest

-- one segment, and the others
cut : (rest : List ℕ) → parsed_path rest ≡ parsed_segments (front_before slash rest ∷ pieces_behind slash (rest_after slash rest))
cut rest = ap parsed_segments (pieces_cut slash rest)

module _ (total : Segments) (front : List (List ℕ)) (rest : List ℕ) (so_far : total ≡ with_segments front (parsed_path rest)) where
  pub segment_fails : (e : UriError) → parsed_text (front_before slash rest) ≡ Err e → total ≡ Err e
  segment_fails e h = so_far ∙ rw (cut rest, h) refl

  pub separated : (text : List ℕ) → parsed_text (front_before slash rest) ≡ Ok text → bytes_eq text selector_separator ≡ true → total ≡ Ok (front, Some (unwrap_or (rest_after slash rest) []))
  separated text h same =
      let empty : List (List ℕ) = [] in
      so_far ∙ rw (cut rest, h, same) (ap (λ (l : List ℕ). let z : List (List ℕ) × Option (List ℕ) = (front ++ empty, Some l) in let r : Segments = Ok z in r) (joined_behind slash (rest_after slash rest)) ∙ ap (λ (l : List (List ℕ)). let z : List (List ℕ) × Option (List ℕ) = (l, Some (unwrap_or (rest_after slash rest) [])) in let r : Segments = Ok z in r) (append-nil front))

  pub last_segment : (text : List ℕ) → parsed_text (front_before slash rest) ≡ Ok text → bytes_eq text selector_separator ≡ false → rest_after slash rest ≡ None → total ≡ Ok (front ++ text ∷ [], None)
  last_segment text h other none = so_far ∙ rw (cut rest, h, other, none) refl

  pub next_segment : (text tail : List ℕ) → parsed_text (front_before slash rest) ≡ Ok text → bytes_eq text selector_separator ≡ false → rest_after slash rest ≡ Some tail → total ≡ with_segments (front ++ text ∷ []) (parsed_path tail)
  next_segment text tail h other some = so_far ∙ rw (cut rest, h, other, some) (longer text (parsed_path tail))
    where
      longer : (text : List ℕ) (out : Segments) → with_segments front (out >>= λ x. Ok (text ∷ x.0, x.1)) ≡ with_segments (front ++ text ∷ []) out
      longer text (Ok x) = ap (λ (l : List (List ℕ)). let z : List (List ℕ) × Option (List ℕ) = (l, x.1) in let r : Segments = Ok z in r) (sym (append_assoc front (text ∷ []) x.0))
      longer text (Err e) = refl

-- what the code has read of a segment
read_ok : (text raw : List ℕ) → (Ok text ≡ parsed_text raw) ⊎ (let want : Result (List ℕ) UriError = Err NoMemory in Ok text ≡ want) → parsed_text raw ≡ Ok text
read_ok text raw (inl h) = sym h
read_ok text raw (inr h) = absurd cc

module _ (total : Segments) (front : List (List ℕ)) (rest raw : List ℕ) (cut_at : raw ≡ front_before slash rest) (so_far : total ≡ with_segments front (parsed_path rest)) where
  pub fails : (e : UriError) → (Err e ≡ parsed_text raw) ⊎ (let want : Result (List ℕ) UriError = Err NoMemory in Err e ≡ want) → (total ≡ Err e) ⊎ (e ≡ NoMemory)
  fails e (inl h) = inl (segment_fails total front rest so_far e (ap parsed_text (sym cut_at) ∙ sym h))
  fails e (inr h) = inr cc

  module _ (text : List ℕ) (read : (Ok text ≡ parsed_text raw) ⊎ (let want : Result (List ℕ) UriError = Err NoMemory in Ok text ≡ want)) where
    is_read : parsed_text (front_before slash rest) ≡ Ok text
    is_read = ap parsed_text (sym cut_at) ∙ read_ok text raw read

    pub at_separator : (back : List ℕ) → bytes_eq text selector_separator ≡ true → back ≡ unwrap_or (rest_after slash rest) [] → total ≡ Ok (front, Some back)
    at_separator back same e = separated total front rest so_far text is_read same ∙ ap (λ (l : List ℕ). let z : List (List ℕ) × Option (List ℕ) = (front, Some l) in let r : Segments = Ok z in r) (sym e)

    pub at_last : bytes_eq text selector_separator ≡ false → rest_after slash rest ≡ None → total ≡ Ok (front ++ text ∷ [], None)
    at_last other none = last_segment total front rest so_far text is_read other none

    pub at_next : (tail : List ℕ) → bytes_eq text selector_separator ≡ false → rest_after slash rest ≡ Some tail → total ≡ with_segments (front ++ text ∷ []) (parsed_path tail)
    at_next tail other some = next_segment total front rest so_far text tail is_read other some

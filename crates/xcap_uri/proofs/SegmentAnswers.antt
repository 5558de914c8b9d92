-- The texts of segments, of a selector and of a query are found exactly.
use Rattle.std.proofs.Common.{◌≡◌, ◌≢◌, ℕ, Bool, true, false, List, [], ◌∷◌, Option, None, Some, Result, Ok, Err, refl, sym, ap, subst, ◌∙◌, true≢false, if◌then◌else◌}
use Rattle.std.specs.Cmp.Lexicographic.{bytes_decides}
use Rattle.std.specs.Str.{bytes_eq, chars}
use Rattle.std.specs.List.{join_with_byte as joined}
use Rattle.percent_encoding.specs.Percent.{percent_decode}
use Rattle.doc_names.specs.DocIds.{selector_separator}
use Rattle.xml_names.specs.declared.read_error.ReadError.TheVariants.{Fault}
use Rattle.xcap_uri.specs.Delimiters.{pieces}
use Rattle.xcap_uri.specs.Escapes.{DecodesTo, DecodesToOptional}
use Rattle.xcap_uri.specs.readers.Steps.{UriError, ◌>>=◌}
use Rattle.xcap_uri.specs.Roots.{slash}
use Rattle.xcap_uri.specs.Targets.{AreSegments, IsSplitPath}
use Rattle.xcap_uri.specs.readers.Escapes.{parsed_text, parsed_optional_text, decodes_to_text}
use Rattle.xcap_uri.specs.readers.Targets.{parsed_segments, parsed_path}
use Rattle.xcap_uri.specs.declared.fault.UriFault.TheVariants.{BadEscape}
use Rattle.xcap_uri.proofs.FaultOrder.{Decides}

-- ---- a text

abbrev Text : Type 0
Text = Result (List ℕ) UriError

by_stands : (part : List ℕ) (b : Bool) → decodes_to_text part ≡ b → let r : Text = if b then Ok (chars (percent_decode part)) else Err (Fault BadEscape) in Decides (DecodesTo part) BadEscape r
by_stands part true e = record {
  sound = λ text h. record { stands = e; decoded = let i : chars (percent_decode part) ≡ text = cc in sym i };
  complete = λ text s. ap (λ (z : List ℕ). let r : Text = Ok z in r) (sym s.decoded);
  refused = λ x h. absurd cc;
}
by_stands part false e = record {
  sound = λ text h. absurd cc;
  complete = λ text s. absurd (true≢false (sym s.stands ∙ e));
  refused = λ x h. let i : Fault BadEscape ≡ x = cc in sym i;
}

pub text_decided : (part : List ℕ) → Decides (DecodesTo part) BadEscape (parsed_text part)
text_decided part = by_stands part (decodes_to_text part) refl

-- a text that may be absent
abbrev Optional : Type 0
Optional = Result (Option (List ℕ)) UriError

some_text : (part : List ℕ) (r : Text) → Decides (DecodesTo part) BadEscape r → Decides (DecodesToOptional (Some part)) BadEscape (r >>= λ text. let s : Optional = Ok (Some text) in s)
some_text part (Ok text) d = record {
  sound = λ o h. sound o (let i : Some text ≡ o = cc in i);
  complete = complete;
  refused = λ x h. absurd cc;
}
  where
    sound : (o : Option (List ℕ)) → Some text ≡ o → DecodesToOptional (Some part) o
    sound None i = absurd cc
    sound (Some t) i = d.sound t (let j : text ≡ t = cc in ap (λ (z : List ℕ). let s : Text = Ok z in s) j)

    complete : (o : Option (List ℕ)) → DecodesToOptional (Some part) o → (let s : Optional = Ok (Some text) in s ≡ Ok o)
    complete None h = absurd h
    complete (Some t) h = let i : Ok text ≡ Ok t = d.complete t h in let j : text ≡ t = cc in ap (λ (z : List ℕ). let s : Optional = Ok (Some z) in s) j
some_text part (Err e) d = record {
  sound = λ o h. absurd cc;
  complete = complete;
  refused = λ x h. let i : e ≡ x = cc in sym i ∙ d.refused e refl;
}
  where
    complete : (o : Option (List ℕ)) → DecodesToOptional (Some part) o → (let s : Optional = Err e in s ≡ Ok o)
    complete None h = absurd h
    complete (Some t) h = let i = d.complete t h in absurd cc

pub optional_decided : (part : Option (List ℕ)) → Decides (DecodesToOptional part) BadEscape (parsed_optional_text part)
optional_decided None = record {
  sound = λ o h. let i : None ≡ o = cc in sym i;
  complete = λ o h. ap (λ (z : Option (List ℕ)). let s : Optional = Ok z in s) (sym h);
  refused = λ x h. absurd cc;
}
optional_decided (Some part) = some_text part (parsed_text part) (text_decided part)

-- ---- segments

abbrev Path : Type 0
Path = List (List ℕ) × Option (List ℕ)

abbrev Segments : Type 0
Segments = Result Path UriError

-- these segments decode to such a path
abbrev Are : List (List ℕ) → Path → Type 0
Are raws x = AreSegments raws x.0 x.1

same_pair : (x : Path) (texts : List (List ℕ)) (selector : Option (List ℕ)) → x.0 ≡ texts → x.1 ≡ selector → (let s : Segments = Ok x in s ≡ Ok (texts, selector))
same_pair x texts selector e f = ap (λ (z : List (List ℕ)). let s : Segments = Ok (z, x.1) in s) e ∙ ap (λ (z : Option (List ℕ)). let s : Segments = Ok (texts, z) in s) f

-- the separator: the selector comes after it
at_separator : (raw : List ℕ) (raws : List (List ℕ)) → DecodesTo raw selector_separator → (let s : Segments = Ok ([], Some (joined slash raws)) in Decides (Are (raw ∷ raws)) BadEscape s)
at_separator raw raws stands = record {
  sound = λ x h. subst (Are (raw ∷ raws)) (let i : ([], Some (joined slash raws)) ≡ x = cc in i) (stands, refl);
  complete = λ x h. complete x.0 x.1 h;
  refused = λ x h. absurd cc;
}
  where
    complete : (texts : List (List ℕ)) (selector : Option (List ℕ)) → AreSegments (raw ∷ raws) texts selector → (let s : Segments = Ok ([], Some (joined slash raws)) in s ≡ Ok (texts, selector))
    complete [] selector h = ap (λ (z : Option (List ℕ)). let s : Segments = Ok ([], z) in s) (sym h.1)
    complete (text ∷ texts) selector h = absurd (h.1 (h.0.decoded ∙ sym stands.decoded))

-- another text: the segments after it follow
at_text : (raw : List ℕ) (raws : List (List ℕ)) (text : List ℕ) → DecodesTo raw text → text ≢ selector_separator → (r : Segments) → Decides (Are raws) BadEscape r
    → Decides (Are (raw ∷ raws)) BadEscape (r >>= λ x. let s : Segments = Ok (text ∷ x.0, x.1) in s)
at_text raw raws text stands other (Ok x) d = record {
  sound = λ y h. subst (Are (raw ∷ raws)) (let i : (text ∷ x.0, x.1) ≡ y = cc in i) (stands, other, d.sound x refl);
  complete = λ y h. complete y.0 y.1 h;
  refused = λ e h. absurd cc;
}
  where
    complete : (texts : List (List ℕ)) (selector : Option (List ℕ)) → AreSegments (raw ∷ raws) texts selector → (let s : Segments = Ok (text ∷ x.0, x.1) in s ≡ Ok (texts, selector))
    complete [] selector h = absurd (other (stands.decoded ∙ sym h.0.decoded))
    complete (t ∷ texts) selector h =
        let i : Ok x ≡ Ok (texts, selector) = d.complete (texts, selector) h.2 in
        let j : x ≡ (texts, selector) = cc in
        let k : text ≡ t = stands.decoded ∙ sym h.0.decoded in
        ap (λ (z : Path). let s : Segments = Ok (text ∷ z.0, z.1) in s) j ∙ ap (λ (z : List ℕ). let s : Segments = Ok (z ∷ texts, selector) in s) k
at_text raw raws text stands other (Err e) d = record {
  sound = λ y h. absurd cc;
  complete = λ y h. complete y.0 y.1 h;
  refused = λ x h. let i : e ≡ x = cc in sym i ∙ d.refused e refl;
}
  where
    complete : (texts : List (List ℕ)) (selector : Option (List ℕ)) → AreSegments (raw ∷ raws) texts selector → (let s : Segments = Err e in s ≡ Ok (texts, selector))
    complete [] selector h = absurd (other (stands.decoded ∙ sym h.0.decoded))
    complete (t ∷ texts) selector h = let i = d.complete (texts, selector) h.2 in absurd cc

-- no text
at_none : (raw : List ℕ) (raws : List (List ℕ)) (e : UriError) → e ≡ Fault BadEscape → ((text : List ℕ) → DecodesTo raw text → ⊥) → (let s : Segments = Err e in Decides (Are (raw ∷ raws)) BadEscape s)
at_none raw raws e same none = record {
  sound = λ y h. absurd cc;
  complete = λ y h. complete y.0 y.1 h;
  refused = λ x h. let i : e ≡ x = cc in sym i ∙ same;
}
  where
    complete : (texts : List (List ℕ)) (selector : Option (List ℕ)) → AreSegments (raw ∷ raws) texts selector → (let s : Segments = Err e in s ≡ Ok (texts, selector))
    complete [] selector h = absurd (none selector_separator h.0)
    complete (t ∷ texts) selector h = absurd (none t h.0)

by_separator : (raw : List ℕ) (raws : List (List ℕ)) (text : List ℕ) (b : Bool) → bytes_eq text selector_separator ≡ b → DecodesTo raw text → Decides (Are raws) BadEscape (parsed_segments raws)
    → let s : Segments = if b then Ok ([], Some (joined slash raws)) else (parsed_segments raws >>= λ x. Ok (text ∷ x.0, x.1)) in Decides (Are (raw ∷ raws)) BadEscape s
by_separator raw raws text true e stands d = at_separator raw raws (subst (DecodesTo raw) ((bytes_decides text selector_separator).0 e) stands)
by_separator raw raws text false e stands d = at_text raw raws text stands (λ same. true≢false (sym ((bytes_decides text selector_separator).1 same) ∙ e)) (parsed_segments raws) d

by_text : (raw : List ℕ) (raws : List (List ℕ)) (r : Text) → Decides (DecodesTo raw) BadEscape r → Decides (Are raws) BadEscape (parsed_segments raws)
    → Decides (Are (raw ∷ raws)) BadEscape (r >>= λ text. let s : Segments = if bytes_eq text selector_separator then Ok ([], Some (joined slash raws)) else (parsed_segments raws >>= λ x. Ok (text ∷ x.0, x.1)) in s)
by_text raw raws (Ok text) d rest = by_separator raw raws text (bytes_eq text selector_separator) refl (d.sound text refl) rest
by_text raw raws (Err e) d rest = at_none raw raws e (d.refused e refl) (λ text s. let i = d.complete text s in absurd cc)

segments_decided : (raws : List (List ℕ)) → Decides (Are raws) BadEscape (parsed_segments raws)
segments_decided [] = record {
  sound = λ x h. subst (Are []) (let i : ([], None) ≡ x = cc in i) (refl, refl);
  complete = λ x h. same_pair ([], None) x.0 x.1 (sym h.0) (sym h.1);
  refused = λ e h. absurd cc;
}
segments_decided (raw ∷ raws) = by_text raw raws (parsed_text raw) (text_decided raw) (segments_decided raws)

pub path_decided : (path : List ℕ) → Decides (IsSplitPath path) BadEscape (parsed_path path)
path_decided path = segments_decided (pieces slash path)

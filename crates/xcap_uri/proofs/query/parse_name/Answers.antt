use Rattle.std.proofs.Common.{◌≡◌, ℕ, Bool, true, List, Ok, Err, take, drop, sym, ap, ◌∙◌, if◌then◌else◌, arith}
use Rattle.std.proofs.lemmas.Bool.{cond-true}
use Rattle.xml_grammar.specs.TextReading.{first_char_is, take_while, drop_while}
use Rattle.xml_tokens.specs.readers.CharacterRuns.{run_len}
use Rattle.xml_tokens.proofs.RunLemmas.{take_run, drop_run, run_len_le}
use Rattle.xml_names.specs.Characters.{is_name_start, is_name_char}
use Rattle.xml_names.specs.declared.read_error.ReadError.TheVariants.{Fault}
use Rattle.xcap_uri.specs.readers.Queries.{ReadResult}
use Rattle.xcap_uri.specs.declared.fault.UriFault.TheVariants.{BadQuery}
use Rattle.xcap_uri.proofs.query.parse_name.Goals as goal

pub split_at-requires : goal.split_at-requires
split_at-requires c = omega (arith, run_len_le is_name_char c.args.text.now, c.name_len.ensures.exact)

-- a front, and what comes after it
cut_by : (b : Bool) (p : ℕ → Bool) (text front back : List ℕ) (n : ℕ) → true ≡ b → n ≡ run_len p text → front ≡ take n text → back ≡ drop n text → let read : ReadResult (List ℕ) = if b then Ok (take_while p text, drop_while p text) else Err (Fault BadQuery) in read ≡ Ok (front, back)
cut_by b p text front back n begins e f g =
    cond-true b (Ok (take_while p text, drop_while p text)) (Err (Fault BadQuery)) (sym begins)
    ∙ ap (λ (x : List ℕ). let z : List ℕ × List ℕ = (x, drop_while p text) in let r : ReadResult (List ℕ) = Ok z in r) (sym (f ∙ ap (λ k. take k text) e ∙ take_run p text))
    ∙ ap (λ (x : List ℕ). let z : List ℕ × List ℕ = (front, x) in let r : ReadResult (List ℕ) = Ok z in r) (sym (g ∙ ap (λ k. drop k text) e ∙ drop_run p text))

pub returns : goal.returns
returns c = record { reads_rule = cut_by (first_char_is is_name_start c.args.text.now) is_name_char c.args.text.now _ _ _ c.if-not-begins_with_name.ensures.exact c.name_len.ensures.exact c.split_at.ensures.front c.split_at.ensures.back }

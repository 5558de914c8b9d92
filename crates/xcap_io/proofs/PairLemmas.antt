-- What is known of the two objects of a pair, after calls on the pair.
use Rattle.std.proofs.Common.{◌≡◌, List, [], ◌∷◌, ◌++◌, length, ap, arith}
use Rattle.std.specs.Borrow.{GName}
use Rattle.xcap_io.specs.StreamStates.{HiddenState, StreamState}
use Rattle.xcap_io.specs.StreamPairs.{input_hidden_state, output_hidden_state}

-- two equal lists that begin with parts of the same length begin with the same part
first_part : {A : Type 0} (xs ys xs' ys' : List A) → length xs' ≡ length xs → xs' ++ ys' ≡ xs ++ ys → xs' ≡ xs
first_part [] ys [] ys' same e = cc
first_part [] ys (x' ∷ xs') ys' same e = absurd (omega arith)
first_part (x ∷ xs) ys [] ys' same e = absurd (omega arith)
first_part (x ∷ xs) ys (x' ∷ xs') ys' same e =
    let head : x' ≡ x = cc in
    let rest : xs' ++ ys' ≡ xs ++ ys = cc in
    let tail : xs' ≡ xs = first_part xs ys xs' ys' (omega arith) rest in
    cc

-- and so they continue with the same part
second_part : {A : Type 0} (xs ys xs' ys' : List A) → length xs' ≡ length xs → xs' ++ ys' ≡ xs ++ ys → ys' ≡ ys
second_part [] ys [] ys' same e = e
second_part [] ys (x' ∷ xs') ys' same e = absurd (omega arith)
second_part (x ∷ xs) ys [] ys' same e = absurd (omega arith)
second_part (x ∷ xs) ys (x' ∷ xs') ys' same e =
    let rest : xs' ++ ys' ≡ xs ++ ys = cc in
    second_part xs ys xs' ys' (omega arith) rest

-- Only calls on a pair of them happened between the two states, so the references and the hidden
-- state of each are as before.
pub record Through (input output input' output' : StreamState) : Type 0 where
  pub same_unread : input_hidden_state input' ≡ input_hidden_state input
  pub same_unwritten : output_hidden_state output' ≡ output_hidden_state output
  pub same_input_holds : input'.holds ≡ input.holds
  pub same_output_holds : output'.holds ≡ output.holds
  pub same_input_aside : input'.aside ≡ input.aside
  pub same_output_aside : output'.aside ≡ output.aside

pub through : {a o a' o' : GName} (input output input' output' : StreamState)
    → a' ∷ o' ∷ (input'.holds ++ output'.holds) ≡ a ∷ o ∷ (input.holds ++ output.holds)
    → input_hidden_state input' ∷ output_hidden_state output' ∷ (input'.aside ++ output'.aside) ≡ input_hidden_state input ∷ output_hidden_state output ∷ (input.aside ++ output.aside)
    → Through input output input' output'
through input output input' output' holds aside =
    let held : input'.holds ++ output'.holds ≡ input.holds ++ output.holds = cc in
    let set : input'.aside ++ output'.aside ≡ input.aside ++ output.aside = cc in
    let same : input_hidden_state input' ≡ input_hidden_state input = cc in
    let same' : output_hidden_state output' ≡ output_hidden_state output = cc in
    let long : length input'.holds ≡ length input.holds = ap (λ (m : HiddenState). m.holds) same in
    let long' : length input'.aside ≡ length input.aside = ap (λ (m : HiddenState). m.aside) same in
    record {
      same_unread = same;
      same_unwritten = same';
      same_input_holds = first_part input.holds output.holds input'.holds output'.holds long held;
      same_output_holds = second_part input.holds output.holds input'.holds output'.holds long held;
      same_input_aside = first_part input.aside output.aside input'.aside output'.aside long' set;
      same_output_aside = second_part input.aside output.aside input'.aside output'.aside long' set;
    }

-- Blocks whose bytes may break off.
use Rattle.std.proofs.Common.{◌≡◌, ℕ, ◌-◌, ◌<◌, ◌≤◌, ◌^◌, true, List, [], ◌∷◌, ◌++◌, length, take, drop, Ok, Err, refl, sym, ap, ◌∙◌, subst, arith, append_assoc, length-append, take-append-drop}
use Rattle.std.specs.Prelude.{replicate}
use Rattle.std.proofs.lemmas.List.{take_all, drop_all, drop-append-le, length-take, length-take-le, length-replicate}
use Rattle.std.proofs.lemmas.List.Elements.{All-append, All-replicate, All-take}
use Rattle.std.proofs.lemmas.Nat.{from_be_bytes-to_be_bytes_4}
use Rattle.std.specs.Int.{from_be_bytes}
use Rattle.httparse.proofs.OpenLemmas.{letter_is_token}
use Rattle.std.specs.Int.{w32, to_be_bytes}
use Rattle.httparse.specs.Grammar.{is_token_byte, AllPass}
use Rattle.edit_journal.specs.Records.{length_prefixed}
use Rattle.edit_journal.specs.declared.field_parsers.FieldError.{FieldError}
use Rattle.edit_journal.specs.declared.field_parsers.FieldError.TheVariants.{Open, Wrong, NoMemory}
use Rattle.edit_journal.specs.inner.RecordParts.{ReadsPart, IsU32Between, IsBlockOfLength, IsTokenBlock}

-- two equal lists that begin with parts of the same length begin with the same part, and continue
-- with the same rest
pub first_part : {A : Type 0} (xs ys xs' ys' : List A) → length xs' ≡ length xs → xs' ++ ys' ≡ xs ++ ys → xs' ≡ xs
first_part [] ys [] ys' same e = cc
first_part [] ys (x' ∷ xs') ys' same e = absurd (omega arith)
first_part (x ∷ xs) ys [] ys' same e = absurd (omega arith)
first_part (x ∷ xs) ys (x' ∷ xs') ys' same e =
    let head : x' ≡ x = cc in
    let rest : xs' ++ ys' ≡ xs ++ ys = cc in
    let tail : xs' ≡ xs = first_part xs ys xs' ys' (omega arith) rest in
    cc

pub second_part : {A : Type 0} (xs ys xs' ys' : List A) → length xs' ≡ length xs → xs' ++ ys' ≡ xs ++ ys → ys' ≡ ys
second_part [] ys [] ys' same e = e
second_part [] ys (x' ∷ xs') ys' same e = absurd (omega arith)
second_part (x ∷ xs) ys [] ys' same e = absurd (omega arith)
second_part (x ∷ xs) ys (x' ∷ xs') ys' same e =
    let rest : xs' ++ ys' ≡ xs ++ ys = cc in
    second_part xs ys xs' ys' (omega arith) rest

pub block_is : (value : List ℕ) → length_prefixed value ≡ to_be_bytes w32 (length value) ++ value
unfolding length_prefixed
block_is value = refl

-- a block whose number is missing
pub block_stops : {B : Type 0} (seen : B → List ℕ) (bytes : List ℕ) (least most : ℕ) (stop : FieldError) → ReadsPart (λ n. n) (IsU32Between least most) bytes (Err stop) → ReadsPart seen (IsBlockOfLength least most) bytes (Err stop)
block_stops seen bytes least most Open (more, value, some, (is, low, high)) =
    let zeros = replicate value 0 in
    let size : length zeros ≡ value = length-replicate value 0 in (
      more ++ zeros,
      zeros,
      omega (arith, length-append more zeros),
      (sym (append_assoc bytes more zeros) ∙ ap (λ l. l ++ zeros) is ∙ ap (λ n. to_be_bytes w32 n ++ zeros) (sym size) ∙ sym (block_is zeros), omega arith, omega arith),
    )
block_stops seen bytes least most Wrong wrong = λ all value more rest is e.
    wrong (to_be_bytes w32 (length value)) (length value) more (value ++ rest) (refl, is.1, is.2)
    (e ∙ ap (λ l. l ++ rest) (is.0 ∙ block_is value) ∙ append_assoc (to_be_bytes w32 (length value)) value rest)
block_stops seen bytes least most NoMemory none = tt

-- a token of n bytes
letters : ℕ → List ℕ
letters n = replicate n 65

letters_length : (n : ℕ) → length (letters n) ≡ n
unfolding letters
letters_length n = length-replicate n 65

letters_pass : (n : ℕ) → AllPass is_token_byte (letters n)
unfolding letters
letters_pass n = All-replicate (λ b. is_token_byte b ≡ true) n 65 letter_is_token

pub name_stops : {B : Type 0} (seen : B → List ℕ) (bytes : List ℕ) (least most : ℕ) (stop : FieldError) → 0 < least → ReadsPart (λ n. n) (IsU32Between least most) bytes (Err stop) → ReadsPart seen (IsTokenBlock least most) bytes (Err stop)
name_stops seen bytes least most Open one (more, value, some, (is, low, high)) =
    let all = letters value in
    let size : length all ≡ value = letters_length value in (
      more ++ all,
      all,
      omega (arith, length-append more all),
      ((sym (append_assoc bytes more all) ∙ ap (λ l. l ++ all) is ∙ ap (λ n. to_be_bytes w32 n ++ all) (sym size) ∙ sym (block_is all), omega arith, omega arith), (omega arith, letters_pass value)),
    )
name_stops seen bytes least most Wrong one wrong = λ all value more rest is e. block_stops (λ (l : List ℕ). l) bytes least most Wrong wrong all value more rest is.0 e
name_stops seen bytes least most NoMemory one none = tt

-- what comes after the number
pub behind_number : (bytes front rest : List ℕ) (len : ℕ) → bytes ≡ front ++ rest → front ≡ to_be_bytes w32 len → drop 4 bytes ≡ rest
behind_number bytes front rest len split is =
    let size : length front ≡ 4 = ap length is in
    ap (drop 4) split ∙ drop-append-le 4 front rest (omega arith) ∙ ap (λ l. l ++ rest) (drop_all 4 front (omega arith))

-- A number, and then fewer bytes than it says.
pub block_open : {B : Type 0} (seen : B → List ℕ) (bytes : List ℕ) (least most len : ℕ) (piece : List ℕ) → ReadsPart (λ n. n) (IsU32Between least most) bytes (Ok len)
    → piece ≡ take len (drop 4 bytes) → length piece < len → ReadsPart seen (IsBlockOfLength least most) bytes (Err Open)
block_open seen bytes least most len piece (front, rest, split, (is, low, high)) part short =
    let same : piece ≡ take len rest = part ∙ ap (take len) (behind_number bytes front rest len split is) in
    let whole : length rest < len = omega (arith, ap length same, length-take len rest) in
    let zeros = replicate (len - length rest) 0 in
    let zero_size : length zeros ≡ len - length rest = length-replicate (len - length rest) 0 in
    let size : length (rest ++ zeros) ≡ len = omega (arith, length-append rest zeros) in
    (zeros, rest ++ zeros, omega arith, (ap (λ l. l ++ zeros) split ∙ append_assoc front rest zeros ∙ ap (λ l. l ++ (rest ++ zeros)) is ∙ ap (λ n. to_be_bytes w32 n ++ (rest ++ zeros)) (sym size) ∙ sym (block_is (rest ++ zeros)), omega arith, omega arith))

-- A number, and that many bytes.
pub block_whole : (bytes : List ℕ) (least most len : ℕ) (piece : List ℕ) → ReadsPart (λ n. n) (IsU32Between least most) bytes (Ok len)
    → piece ≡ take len (drop 4 bytes) → len ≤ length piece → (front rest : List ℕ) × (bytes ≡ front ++ rest) × IsBlockOfLength least most front piece
block_whole bytes least most len piece (front, rest, split, (is, low, high)) part long =
    let same : piece ≡ take len rest = part ∙ ap (take len) (behind_number bytes front rest len split is) in
    let size : length piece ≡ len = omega (arith, ap length same, length-take len rest) in (
      front ++ piece,
      drop len rest,
      split ∙ ap (λ l. front ++ l) (sym (take-append-drop len rest) ∙ ap (λ l. l ++ drop len rest) (sym same)) ∙ sym (append_assoc front piece (drop len rest)),
      (ap (λ l. l ++ piece) is ∙ ap (λ n. to_be_bytes w32 n ++ piece) (sym size) ∙ sym (block_is piece), omega arith, omega arith),
    )

-- A number, and then fewer bytes than it says, all of them allowed in a token.
pub name_open : {B : Type 0} (seen : B → List ℕ) (bytes : List ℕ) (least most len : ℕ) (piece : List ℕ) → 0 < least → ReadsPart (λ n. n) (IsU32Between least most) bytes (Ok len)
    → piece ≡ take len (drop 4 bytes) → length piece < len → AllPass is_token_byte piece → ReadsPart seen (IsTokenBlock least most) bytes (Err Open)
name_open seen bytes least most len piece one (front, rest, split, (is, low, high)) part short consume =
    let same : piece ≡ take len rest = part ∙ ap (take len) (behind_number bytes front rest len split is) in
    let whole : length rest < len = omega (arith, ap length same, length-take len rest) in
    let all : piece ≡ rest = same ∙ take_all len rest (omega arith) in
    let more = letters (len - length rest) in
    let more_size : length more ≡ len - length rest = letters_length (len - length rest) in
    let size : length (rest ++ more) ≡ len = omega (arith, length-append rest more) in
    let passes : AllPass is_token_byte (rest ++ more) =
    All-append (λ b. is_token_byte b ≡ true) rest more (subst (AllPass is_token_byte) all consume) (letters_pass (len - length rest)) in (
      more,
      rest ++ more,
      omega arith,
      ((ap (λ l. l ++ more) split ∙ append_assoc front rest more ∙ ap (λ l. l ++ (rest ++ more)) is ∙ ap (λ n. to_be_bytes w32 n ++ (rest ++ more)) (sym size) ∙ sym (block_is (rest ++ more)), omega arith, omega arith), (omega arith, passes)),
    )

-- four bytes determine one number
pub one_number : (a b : ℕ) → a < 2 ^ 32 → b < 2 ^ 32 → to_be_bytes w32 a ≡ to_be_bytes w32 b → a ≡ b
one_number a b fits fits' e = sym (from_be_bytes-to_be_bytes_4 a fits) ∙ ap (from_be_bytes w32) e ∙ from_be_bytes-to_be_bytes_4 b fits'

-- A number, and then bytes of which one is not allowed in a token.
pub name_wrong : {B : Type 0} (seen : B → List ℕ) (bytes : List ℕ) (least most len : ℕ) (piece : List ℕ) → most < 2 ^ 32 → ReadsPart (λ n. n) (IsU32Between least most) bytes (Ok len)
    → piece ≡ take len (drop 4 bytes) → ¬ (AllPass is_token_byte piece) → ReadsPart seen (IsTokenBlock least most) bytes (Err Wrong)
name_wrong seen bytes least most len piece fits (front, rest, split, (is, low, high)) part fails = λ all value more after named e.
    let same : piece ≡ take len rest = part ∙ ap (take len) (behind_number bytes front rest len split is) in
    let joined : front ++ (rest ++ more) ≡ to_be_bytes w32 (length value) ++ (value ++ after) =
    sym (append_assoc front rest more) ∙ ap (λ l. l ++ more) (sym split) ∙ e ∙ ap (λ l. l ++ after) (named.0.0 ∙ block_is value) ∙ append_assoc (to_be_bytes w32 (length value)) value after in
    let four : length front ≡ 4 = ap length is in
    let number : len ≡ length value = one_number len (length value) (omega arith) (omega (arith, named.0.2)) (sym is ∙ first_part (to_be_bytes w32 (length value)) (value ++ after) front (rest ++ more) (omega arith) joined) in
    let behind : rest ++ more ≡ value ++ after = second_part (to_be_bytes w32 (length value)) (value ++ after) front (rest ++ more) (omega arith) joined in
    let short : length piece ≤ length value = omega (arith, ap length same, length-take len rest) in
    let parts : piece ++ (drop len rest ++ more) ≡ take (length piece) value ++ (drop (length piece) value ++ after) =
    sym (append_assoc piece (drop len rest) more) ∙ ap (λ l. (l ++ drop len rest) ++ more) same ∙ ap (λ l. l ++ more) (take-append-drop len rest) ∙ behind
    ∙ ap (λ l. l ++ after) (sym (take-append-drop (length piece) value)) ∙ append_assoc (take (length piece) value) (drop (length piece) value) after in
    let front_is : piece ≡ take (length piece) value = first_part (take (length piece) value) (drop (length piece) value ++ after) piece (drop len rest ++ more) (sym (length-take-le (length piece) value short)) parts in
    fails (subst (AllPass is_token_byte) (sym front_is) (All-take (λ b. is_token_byte b ≡ true) (length piece) value named.1.1))

-- a block is determined by the bytes that it begins
pub one_block : (a b x y : List ℕ) → length a < 2 ^ 32 → length b < 2 ^ 32 → length_prefixed a ++ x ≡ length_prefixed b ++ y → (a ≡ b) × (x ≡ y)
one_block a b x y fits fits' e =
    let joined : to_be_bytes w32 (length a) ++ (a ++ x) ≡ to_be_bytes w32 (length b) ++ (b ++ y) =
    sym (append_assoc (to_be_bytes w32 (length a)) a x) ∙ ap (λ l. l ++ x) (sym (block_is a)) ∙ e ∙ ap (λ l. l ++ y) (block_is b) ∙ append_assoc (to_be_bytes w32 (length b)) b y in
    let size : length a ≡ length b = one_number (length a) (length b) fits fits' (first_part (to_be_bytes w32 (length b)) (b ++ y) (to_be_bytes w32 (length a)) (a ++ x) refl joined) in
    let behind : a ++ x ≡ b ++ y = second_part (to_be_bytes w32 (length b)) (b ++ y) (to_be_bytes w32 (length a)) (a ++ x) refl joined in
    (first_part b y a x size behind, second_part b y a x size behind)

-- what comes after a front of this length
pub behind : (bytes front rest : List ℕ) (n : ℕ) → bytes ≡ front ++ rest → length front ≡ n → drop n bytes ≡ rest
behind bytes front rest n split size =
    ap (drop n) split ∙ drop-append-le n front rest (omega arith) ∙ ap (λ l. l ++ rest) (drop_all n front (omega arith))

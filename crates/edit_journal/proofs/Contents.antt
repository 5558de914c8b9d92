-- Records whose bytes may break off.
use Rattle.std.proofs.Common.{◌≡◌, ℕ, ◌+◌, ◌-◌, ◌<◌, ◌≤◌, ◌⊎◌, inl, inr, false, List, [], ◌∷◌, ◌++◌, length, codes, None, Some, Result, Ok, Err, refl, sym, ap, ◌∙◌, subst, arith, append_assoc, length-append, flat_map}
use Rattle.std.specs.Str.{chars}
use Rattle.std.specs.Prelude.{slice_get}
use Rattle.std.specs.Int.{w16, w32, to_be_bytes}
use Rattle.http_wire.specs.declared.request.Field.{Field}
use Rattle.http_wire.specs.declared.request.Request.{Request}
use Rattle.edit_journal.specs.Records.{method_number, length_prefixed, record_content, field_text}
use Rattle.edit_journal.specs.declared.field_parsers.FieldError.{FieldError}
use Rattle.edit_journal.specs.declared.field_parsers.FieldError.TheVariants.{Open, Wrong, NoMemory}
use Rattle.edit_journal.specs.inner.RecordParts.{ReadsPart, IsU32Between, IsBlockOfLength, IsMethodByte, IsRestOfContent, IsRecordContent, IsRecordOf}
use Rattle.edit_journal.proofs.Blocks.{second_part, first_part, one_block, one_number, block_is}
use Rattle.edit_journal.proofs.Lengths.{block_length, content_length}
use Rattle.edit_journal.proofs.Rests.{rest_there}

pub put_number : method_number (chars (codes "PUT")) ≡ 1
unfolding method_number chars
put_number = refl

pub delete_number : method_number (chars (codes "DELETE")) ≡ 2
unfolding method_number chars
delete_number = refl

pub one_or_two : (method : List ℕ) → 0 < method_number method → (method_number method ≡ 1) ⊎ (method_number method ≡ 2)
unfolding method_number
one_or_two method some = grind arith

pub method_wrong : {B : Type 0} (seen : B → List ℕ) (b : ℕ) (bytes : List ℕ) → ¬ (b ≡ 1) → ¬ (b ≡ 2) → ReadsPart seen IsMethodByte (b ∷ bytes) (Err Wrong)
method_wrong seen b bytes other other' = λ all value more rest is e.
    let same : b ∷ (bytes ++ more) ≡ method_number value ∷ rest = e ∙ ap (λ l. l ++ rest) is.0 in
    let number : b ≡ method_number value = cc in
    elim (one_or_two value is.1) [ inl one ↦ other (number ∙ one) | inr two ↦ other' (number ∙ two) ]

pub method_open : {B : Type 0} (seen : B → List ℕ) → ReadsPart seen IsMethodByte [] (Err Open)
method_open seen = (1 ∷ [], chars (codes "PUT"), omega arith, (ap (λ n. n ∷ []) (sym put_number), omega (arith, put_number)))

pub method_whole : (b : ℕ) (bytes value : List ℕ) → b ≡ method_number value → 0 < b → ReadsPart (λ (l : List ℕ). l) IsMethodByte (b ∷ bytes) (Ok value)
method_whole b bytes value is some = (b ∷ [], bytes, refl, (ap (λ n. n ∷ []) is, omega arith))

-- the request with these parts
abbrev pub request_with : List ℕ → List ℕ → List Field × List ℕ → Request
request_with method target value = record { method = method; target = target; closes = false; fields = value.0; body = value.1 }

content_of : (len : ℕ) (bytes front target behind method : List ℕ) (value : List Field × List ℕ) → len ≤ 300000 → 5 + length target ≤ len → IsMethodByte front method → bytes ≡ front ++ (length_prefixed target ++ behind)
    → IsRestOfContent (len - (5 + length target)) behind value → IsRecordContent len bytes (request_with method target value)
content_of len bytes front target behind method value fits within named split rest =
    let is : bytes ≡ record_content (request_with method target value) = split ∙ ap (λ l. l ++ (length_prefixed target ++ behind)) named.0 ∙ ap (λ l. method_number method ∷ (length_prefixed target ++ l)) rest.is in
    let size : length bytes ≡ len = omega (arith, ap length split, length-append front (length_prefixed target ++ behind), length-append (length_prefixed target) behind, block_length target, ap length named.0, rest.size) in
    ((record { method = named.1; names = rest.names; few = rest.few; body = rest.body; short = omega (arith, ap length is, size) }, refl), is, size)

rest_of_content : (len : ℕ) (all : List ℕ) (request : Request) → IsRecordContent len all request → IsRestOfContent (len - (5 + length request.target)) (to_be_bytes w16 (length request.fields) ++ (flat_map field_text request.fields ++ length_prefixed request.body)) (request.fields, request.body)
rest_of_content len all request is = record {
  is = refl;
  few = is.0.0.few;
  names = is.0.0.names;
  body = is.0.0.body;
  size = omega (arith, content_length request, ap length is.1, is.2, length-append (flat_map field_text request.fields) (length_prefixed request.body), block_length request.body);
}

pub content_no_method : {B : Type 0} (seen : B → Request) (bytes : List ℕ) (len : ℕ) (stop : FieldError) → 11 ≤ len → len ≤ 300000 → ReadsPart (λ (l : List ℕ). l) IsMethodByte bytes (Err stop) → ReadsPart seen (IsRecordContent len) bytes (Err stop)
content_no_method seen bytes len Open some fits (more, method, longer, named) =
    let rest = rest_there (len - 5) (omega arith) in
    let same : len - 5 ≡ len - (5 + length {A = ℕ} []) = omega arith in (
      more ++ (length_prefixed [] ++ rest.0),
      request_with method [] rest.1,
      omega (arith, length-append more (length_prefixed [] ++ rest.0)),
      content_of len (bytes ++ (more ++ (length_prefixed [] ++ rest.0))) (bytes ++ more) [] rest.0 method rest.1 fits (omega arith) named (sym (append_assoc bytes more (length_prefixed [] ++ rest.0)))
          (subst (λ n. IsRestOfContent n rest.0 rest.1) same rest.2),
    )
content_no_method seen bytes len Wrong some fits wrong = λ all request more behind is e.
    wrong (method_number request.method ∷ []) request.method more
    ((length_prefixed request.target ++ (to_be_bytes w16 (length request.fields) ++ (flat_map field_text request.fields ++ length_prefixed request.body))) ++ behind) (refl, is.0.0.method) (e ∙ ap (λ l. l ++ behind) is.1)
content_no_method seen bytes len NoMemory some fits none = tt

pub content_no_target : {B C : Type 0} (seen : B → Request) (seen' : C → List ℕ) (bytes front tail method : List ℕ) (len : ℕ) (stop : FieldError) → 11 ≤ len → len ≤ 300000 → bytes ≡ front ++ tail → IsMethodByte front method
    → ReadsPart seen' (IsBlockOfLength 0 (len - 11)) tail (Err stop) → ReadsPart seen (IsRecordContent len) bytes (Err stop)
content_no_target seen seen' bytes front tail method len Open some fits split named (more, target, longer, (is, low, high)) =
    let rest = rest_there (len - (5 + length target)) (omega arith) in
    let joined : bytes ++ (more ++ rest.0) ≡ front ++ (length_prefixed target ++ rest.0) =
    sym (append_assoc bytes more rest.0) ∙ ap (λ l. (l ++ more) ++ rest.0) split ∙ ap (λ l. l ++ rest.0) (append_assoc front tail more) ∙ append_assoc front (tail ++ more) rest.0 ∙ ap (λ l. front ++ (l ++ rest.0)) is in (
      more ++ rest.0,
      request_with method target rest.1,
      omega (arith, length-append more rest.0),
      content_of len (bytes ++ (more ++ rest.0)) front target rest.0 method rest.1 fits (omega arith) named joined rest.2,
    )
content_no_target seen seen' bytes front tail method len Wrong some fits split named wrong = λ all request more behind is e.
    let after = to_be_bytes w16 (length request.fields) ++ (flat_map field_text request.fields ++ length_prefixed request.body) in
    let joined : front ++ (tail ++ more) ≡ (method_number request.method ∷ []) ++ ((length_prefixed request.target ++ after) ++ behind) =
    sym (append_assoc front tail more) ∙ ap (λ l. l ++ more) (sym split) ∙ e ∙ ap (λ l. l ++ behind) is.1 in
    let next : tail ++ more ≡ (length_prefixed request.target ++ after) ++ behind = second_part (method_number request.method ∷ []) ((length_prefixed request.target ++ after) ++ behind) front (tail ++ more) (omega (arith, ap length named.0)) joined in
    wrong (length_prefixed request.target) request.target more (after ++ behind) (refl, omega arith, omega (arith, content_length request, ap length is.1, is.2)) (next ∙ append_assoc (length_prefixed request.target) after behind)
content_no_target seen seen' bytes front tail method len NoMemory some fits split named none = tt

pub content_no_rest : {B C : Type 0} (seen : B → Request) (seen' : C → List Field × List ℕ) (bytes front tail method front' tail' target : List ℕ) (len : ℕ) (stop : FieldError) → 11 ≤ len → len ≤ 300000 → bytes ≡ front ++ tail → IsMethodByte front method
    → tail ≡ front' ++ tail' → IsBlockOfLength 0 (len - 11) front' target → ReadsPart seen' (IsRestOfContent (len - (5 + length target))) tail' (Err stop) → ReadsPart seen (IsRecordContent len) bytes (Err stop)
content_no_rest seen seen' bytes front tail method front' tail' target len Open some fits split named split' is (more, value, longer, rest) =
    let joined : bytes ++ more ≡ front ++ (length_prefixed target ++ (tail' ++ more)) =
    ap (λ l. l ++ more) split ∙ append_assoc front tail more ∙ ap (λ l. front ++ (l ++ more)) split' ∙ ap (λ l. front ++ l) (append_assoc front' tail' more) ∙ ap (λ l. front ++ (l ++ (tail' ++ more))) is.0 in
    (more, request_with method target value, longer, content_of len (bytes ++ more) front target (tail' ++ more) method value fits (omega (arith, is.2)) named joined rest)
content_no_rest seen seen' bytes front tail method front' tail' target len Wrong some fits split named split' is wrong = λ all request more behind recorded e.
    let after = to_be_bytes w16 (length request.fields) ++ (flat_map field_text request.fields ++ length_prefixed request.body) in
    let joined : front ++ (tail ++ more) ≡ (method_number request.method ∷ []) ++ ((length_prefixed request.target ++ after) ++ behind) =
    sym (append_assoc front tail more) ∙ ap (λ l. l ++ more) (sym split) ∙ e ∙ ap (λ l. l ++ behind) recorded.1 in
    let next : tail ++ more ≡ (length_prefixed request.target ++ after) ++ behind = second_part (method_number request.method ∷ []) ((length_prefixed request.target ++ after) ++ behind) front (tail ++ more) (omega (arith, ap length named.0)) joined in
    let both : length_prefixed target ++ (tail' ++ more) ≡ length_prefixed request.target ++ (after ++ behind) =
    ap (λ l. l ++ (tail' ++ more)) (sym is.0) ∙ sym (append_assoc front' tail' more) ∙ ap (λ l. l ++ more) (sym split') ∙ next ∙ append_assoc (length_prefixed request.target) after behind in
    let one = one_block target request.target (tail' ++ more) (after ++ behind) (omega (arith, is.2)) (omega (arith, content_length request, ap length recorded.1, recorded.2)) both in
    wrong after (request.fields, request.body) more behind (subst (λ (l : List ℕ). IsRestOfContent (len - (5 + length l)) after (request.fields, request.body)) (sym one.0) (rest_of_content len all request recorded)) one.1
content_no_rest seen seen' bytes front tail method front' tail' target len NoMemory some fits split named split' is none = tt

pub content_whole : (bytes front tail method front' tail' target front'' tail'' : List ℕ) (value : List Field × List ℕ) (len : ℕ) → 11 ≤ len → len ≤ 300000 → bytes ≡ front ++ tail → IsMethodByte front method
    → tail ≡ front' ++ tail' → IsBlockOfLength 0 (len - 11) front' target → tail' ≡ front'' ++ tail'' → IsRestOfContent (len - (5 + length target)) front'' value → ReadsPart (λ (r : Request). r) (IsRecordContent len) bytes (Ok (request_with method target value))
content_whole bytes front tail method front' tail' target front'' tail'' value len some fits split named split' is split'' rest = (
  front ++ (front' ++ front''),
  tail'',
  split ∙ ap (λ l. front ++ l) (split' ∙ ap (λ l. front' ++ l) split'' ∙ sym (append_assoc front' front'' tail'')) ∙ sym (append_assoc front (front' ++ front'') tail''),
  content_of len (front ++ (front' ++ front'')) front target front'' method value fits (omega (arith, is.2)) named (ap (λ l. front ++ (l ++ front'')) is.0) rest,
)

content_there : (len : ℕ) → 11 ≤ len → len ≤ 300000 → (bytes : List ℕ) × (request : Request) × IsRecordContent len bytes request
content_there len some fits =
    let rest = rest_there (len - 5) (omega arith) in
    let same : len - 5 ≡ len - (5 + length {A = ℕ} []) = omega arith in
    let method = chars (codes "PUT") in
    let front = method_number method ∷ [] in (
      front ++ (length_prefixed [] ++ rest.0),
      request_with method [] rest.1,
      content_of len (front ++ (length_prefixed [] ++ rest.0)) front [] rest.0 method rest.1 fits (omega arith) (refl, omega (arith, put_number)) refl (subst (λ n. IsRestOfContent n rest.0 rest.1) same rest.2),
    )

record_with : (bytes front tail : List ℕ) (len : ℕ) (request : Request) → bytes ≡ front ++ tail → front ≡ to_be_bytes w32 len → IsRecordContent len tail request → IsRecordOf bytes request
record_with bytes front tail len request split is recorded =
    (recorded.0, split ∙ ap (λ l. l ++ tail) is ∙ ap (λ n. to_be_bytes w32 n ++ tail) (sym recorded.2) ∙ sym (block_is tail) ∙ ap length_prefixed recorded.1)

pub record_no_number : {B : Type 0} (seen : B → Request) (bytes : List ℕ) (stop : FieldError) → ReadsPart (λ n. n) (IsU32Between 11 300000) bytes (Err stop) → ReadsPart seen IsRecordOf bytes (Err stop)
record_no_number seen bytes Open (more, len, longer, (is, low, high)) =
    let rest = content_there len low high in
    (more ++ rest.0, rest.1, omega (arith, length-append more rest.0), record_with (bytes ++ (more ++ rest.0)) (bytes ++ more) rest.0 len rest.1 (sym (append_assoc bytes more rest.0)) is rest.2)
record_no_number seen bytes Wrong wrong = λ all request more behind is e.
    wrong (to_be_bytes w32 (length (record_content request))) (length (record_content request)) more (record_content request ++ behind) (refl, omega (arith, content_length request), is.0.0.short)
    (e ∙ ap (λ l. l ++ behind) (is.1 ∙ block_is (record_content request)) ∙ append_assoc (to_be_bytes w32 (length (record_content request))) (record_content request) behind)
record_no_number seen bytes NoMemory none = tt

pub record_on : (bytes front tail : List ℕ) (len : ℕ) (result : Result Request FieldError) → bytes ≡ front ++ tail → IsU32Between 11 300000 front len → ReadsPart (λ (r : Request). r) (IsRecordContent len) tail result → ReadsPart (λ (r : Request). r) IsRecordOf bytes result
record_on bytes front tail len (Ok request) split is (front', tail', split', recorded) =
    (front ++ front', tail', split ∙ ap (λ l. front ++ l) split' ∙ sym (append_assoc front front' tail'), record_with (front ++ front') front front' len request refl is.0 recorded)
record_on bytes front tail len (Err Open) split is (more, request, longer, recorded) =
    (more, request, longer, record_with (bytes ++ more) front (tail ++ more) len request (ap (λ l. l ++ more) split ∙ append_assoc front tail more) is.0 recorded)
record_on bytes front tail len (Err Wrong) split is wrong = λ all request more behind recorded e.
    let size = length (record_content request) in
    let joined : front ++ (tail ++ more) ≡ to_be_bytes w32 size ++ (record_content request ++ behind) =
    sym (append_assoc front tail more) ∙ ap (λ l. l ++ more) (sym split) ∙ e ∙ ap (λ l. l ++ behind) (recorded.1 ∙ block_is (record_content request)) ∙ append_assoc (to_be_bytes w32 size) (record_content request) behind in
    let four : length front ≡ 4 = ap length is.0 in
    let number : len ≡ size = one_number len size (omega (arith, is.2)) (omega (arith, recorded.0.0.short)) (sym is.0 ∙ first_part (to_be_bytes w32 size) (record_content request ++ behind) front (tail ++ more) (omega arith) joined) in
    wrong (record_content request) request more behind (recorded.0, refl, sym number) (second_part (to_be_bytes w32 size) (record_content request ++ behind) front (tail ++ more) (omega arith) joined)
record_on bytes front tail len (Err NoMemory) split is none = tt

-- the first of some bytes
pub first_none : (bytes : List ℕ) → None ≡ slice_get bytes 0 → bytes ≡ []
first_none [] e = refl
first_none (b ∷ bytes) e = absurd (grind arith)

pub first_some : (bytes : List ℕ) (b : ℕ) → Some b ≡ slice_get bytes 0 → (more : List ℕ) × (bytes ≡ b ∷ more)
first_some [] b e = absurd (grind arith)
first_some (a ∷ bytes) b e = let same : b ≡ a = grind arith in (bytes, ap (λ n. n ∷ bytes) (sym same))

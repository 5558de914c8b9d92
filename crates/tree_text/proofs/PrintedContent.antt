-- Printed content is read as what was printed: texts, comments and elements, one after the other.
use Rattle.std.proofs.Common.{◌≡◌, ℕ, ◌<◌, Bool, true, false, cond, List, [], ◌∷◌, ◌++◌, length, Result, Ok, IsTrue, refl, sym, ap, subst, ◌∙◌, append_assoc, eqb-true, eq-eqb, length-append, arith}
use Rattle.std.specs.Prelude.{◌&&◌, ◌==◌, not, nat_eq}
use Rattle.std.specs.List.{list_all, AllByRecursion}
use Rattle.xml_grammar.specs.TextReading.{Stop, Reader, ◌>>=◌, first_char_is, starts_with_word, read_mapped}
use Rattle.xml_grammar.specs.readers.RuleReaders.{read_up_to}
use Rattle.xml_names.specs.Characters.{is_char, is_name_start}
use Rattle.xml_names.specs.Comments.{is_comment_char, has_no_double_hyphen, is_comment}
use Rattle.xml_tree.specs.Edits.{with_text_prepended, with_text, with_elem, with_comment}
use Rattle.xml_names.specs.Markup.{print_comment, print_text, text_escape}
use Rattle.xml_tree.specs.Tree.{Content, last, more, comment_node, more_of, Tree}
use Rattle.xml_tokens.specs.readers.Literals.{cdata_end, greater}
use Rattle.xml_markup.specs.readers.Literals.{comment_start, dashes}
use Rattle.xml_tokens.specs.declared.fault_kind.FaultKind.{FaultKind}
use Rattle.xml_tokens.specs.Tokens.{is_raw_char}
use Rattle.xml_tokens.specs.Values.{normalize_line_ends}
use Rattle.tree_text.specs.ContentPieces.{Markup, Reference, Section, Comment, Instruction, Inner, with_markup, with_pieces}
use Rattle.xml_tokens.specs.readers.Tokens.{read_reference, read_chars}
use Rattle.tree_text.specs.readers.Texts.{read_markup, markup_follows, read_content}
use Rattle.xml_markup.specs.readers.Markup.{read_cdata_section, read_comment, read_processing_instruction}
use Rattle.xml_tokens.proofs.ReadFronts.{Reads, reads_valued, reads_before, reads_behind, reads_left, reads_right, reads_word, AreBetween, between_none, between_more, reads_between}
use Rattle.tree_text.proofs.PrintedValues.{both, not_true, longer, Stands, as_it_is, as_reference, plain_text, text_stands}

-- the equation with its sides swapped
flipped : (a b : ℕ) → nat_eq a b ≡ false → nat_eq b a ≡ false
flipped a b h = by (nat_eq b a) refl
  where
    by : (e : Bool) → nat_eq b a ≡ e → nat_eq b a ≡ false
    by true e = absurd (let s : a ≡ b = sym (eqb-true b a e) in let t : nat_eq a b ≡ true = eq-eqb a b s in cc)
    by false e = e

-- the first character of a name isn't one that can't begin a name
pub no_mark : (m d : ℕ) → is_name_start m ≡ false → is_name_start d ≡ true → nat_eq m d ≡ false
no_mark m d f t = by (nat_eq m d) refl
  where
    by : (b : Bool) → nat_eq m d ≡ b → nat_eq m d ≡ false
    by true e = absurd (let s : is_name_start m ≡ true = ap is_name_start (eqb-true m d e) ∙ t in cc)
    by false e = e

-- ---- content composed from left to right, with a text before it

text-before : (s t : List ℕ) (k : Content) → with_text s (with_text_prepended t k) ≡ with_text_prepended t (with_text s k)
text-before s t (last u) = ap last (append_assoc t u s)
text-before s t (more u n ds ats c rest) = refl
text-before s t (comment_node u x rest) = refl

elem-before : (e : Tree) (t : List ℕ) (k : Content) → with_elem e (with_text_prepended t k) ≡ with_text_prepended t (with_elem e k)
elem-before e t (last u) = refl
elem-before e t (more u n ds ats c rest) = refl
elem-before e t (comment_node u x rest) = refl

comment-before : (s t : List ℕ) (k : Content) → with_comment s (with_text_prepended t k) ≡ with_text_prepended t (with_comment s k)
comment-before s t (last u) = refl
comment-before s t (more u n ds ats c rest) = refl
comment-before s t (comment_node u x rest) = refl

markup-before : (m : Markup) (t : List ℕ) (k : Content) → with_markup m (with_text_prepended t k) ≡ with_text_prepended t (with_markup m k)
markup-before (Reference c) t k = text-before (c ∷ []) t k
markup-before (Section cs) t k = text-before cs t k
markup-before (Comment cs) t k = comment-before cs t k
markup-before Instruction t k = refl
markup-before (Inner e) t k = elem-before e t k

pieces-before : (ps : List (Markup × List ℕ)) (t : List ℕ) (k : Content) → with_pieces (with_text_prepended t k) ps ≡ with_text_prepended t (with_pieces k ps)
pieces-before [] t k = refl
pieces-before ((m, cs) ∷ ps) t k =
    ap (λ (z : Content). with_pieces (with_text cs z) ps) (markup-before m t k) ∙ ap (λ (z : Content). with_pieces z ps) (text-before cs t (with_markup m k))
    ∙ pieces-before ps t (with_text cs (with_markup m k))

pieces-more : (ps : List (Markup × List ℕ)) (e : Tree) (k : Content) → with_pieces (more_of [] e k) ps ≡ more_of [] e (with_pieces k ps)
pieces-more [] e k = refl
pieces-more ((Reference c, cs) ∷ ps) e k = pieces-more ps e (with_text cs (with_markup (Reference c) k))
pieces-more ((Section s, cs) ∷ ps) e k = pieces-more ps e (with_text cs (with_markup (Section s) k))
pieces-more ((Comment s, cs) ∷ ps) e k = pieces-more ps e (with_text cs (with_markup (Comment s) k))
pieces-more ((Instruction, cs) ∷ ps) e k = pieces-more ps e (with_text cs k)
pieces-more ((Inner t, cs) ∷ ps) e k = pieces-more ps e (with_text cs (with_markup (Inner t) k))

pieces-comment_node : (ps : List (Markup × List ℕ)) (x : List ℕ) (k : Content) → with_pieces (comment_node [] x k) ps ≡ comment_node [] x (with_pieces k ps)
pieces-comment_node [] x k = refl
pieces-comment_node ((Reference c, cs) ∷ ps) x k = pieces-comment_node ps x (with_text cs (with_markup (Reference c) k))
pieces-comment_node ((Section s, cs) ∷ ps) x k = pieces-comment_node ps x (with_text cs (with_markup (Section s) k))
pieces-comment_node ((Comment s, cs) ∷ ps) x k = pieces-comment_node ps x (with_text cs (with_markup (Comment s) k))
pieces-comment_node ((Instruction, cs) ∷ ps) x k = pieces-comment_node ps x (with_text cs k)
pieces-comment_node ((Inner t, cs) ∷ ps) x k = pieces-comment_node ps x (with_text cs (with_markup (Inner t) k))

before-none : (k : Content) → with_text_prepended [] k ≡ k
before-none (last u) = refl
before-none (more u n ds ats c rest) = refl
before-none (comment_node u x rest) = refl

before-cons : (c : ℕ) (t : List ℕ) (k : Content) → with_text_prepended (c ∷ []) (with_text_prepended t k) ≡ with_text_prepended (c ∷ t) k
before-cons c t (last u) = refl
before-cons c t (more u n ds ats k rest) = refl
before-cons c t (comment_node u x rest) = refl

-- ---- comments

cond_false : (b c : Bool) → (b ≡ true → c ≡ false) → cond b c false ≡ false
cond_false true c h = h refl
cond_false false c h = refl

hyphens_by : (a b : Bool) → not (a && b) ≡ true → cond a (cond b true false) false ≡ false
hyphens_by true true h = absurd cc
hyphens_by true false h = refl
hyphens_by false b h = refl

hyphen_by : (a : Bool) (c : Bool) → not a ≡ true → cond a c false ≡ false
hyphen_by true c h = absurd cc
hyphen_by false c h = refl

same_test : (a b : ℕ) → nat_eq a b ≡ nat_eq b a
same_test a b = by (nat_eq b a) refl
  where
    by : (e : Bool) → nat_eq b a ≡ e → nat_eq a b ≡ nat_eq b a
    by true e = eq-eqb a b (sym (eqb-true b a e)) ∙ sym e
    by false e = flipped b a e ∙ sym e

no_hyphens : (c : ℕ) (cs next : List ℕ) → has_no_double_hyphen (c ∷ cs) ≡ true → starts_with_word dashes (c ∷ (cs ++ 45 ∷ 45 ∷ 62 ∷ next)) ≡ false
no_hyphens c [] next h = rw (same_test 45 c) (hyphen_by (c == 45) true h)
no_hyphens c (d ∷ ds) next h = rw (same_test 45 c) (rw (same_test 45 d) (hyphens_by (c == 45) (d == 45) (both (not (c == 45 && d == 45)) (has_no_double_hyphen (d ∷ ds)) h).0))

apart_rest : (c : ℕ) (cs : List ℕ) → has_no_double_hyphen (c ∷ cs) ≡ true → has_no_double_hyphen cs ≡ true
apart_rest c [] h = refl
apart_rest c (d ∷ ds) h = (both (not (c == 45 && d == 45)) (has_no_double_hyphen (d ∷ ds)) h).1

inside_read : (x next : List ℕ) → list_all is_comment_char x ≡ true → has_no_double_hyphen x ≡ true → read_up_to {Kind = FaultKind} is_char dashes (x ++ 45 ∷ 45 ∷ 62 ∷ next) ≡ Ok (x, 62 ∷ next)
inside_read [] next h k = refl
inside_read (c ∷ cs) next h k =
    let a = both (is_comment_char c) (list_all is_comment_char cs) h in
    let b = both (is_char c) (not (c == 13)) a.0 in
    let more = inside_read cs next a.1 (apart_rest c cs k) in
    rw (no_hyphens c cs next k) (rw b.0 (rw more refl))

kept_lines : (x : List ℕ) → list_all is_comment_char x ≡ true → normalize_line_ends x ≡ x
kept_lines [] h = refl
kept_lines (c ∷ cs) h =
    let a = both (is_comment_char c) (list_all is_comment_char cs) h in
    let b = both (is_char c) (not (c == 13)) a.0 in
    rw (not_true (c == 13) b.1) (ap (λ (z : List ℕ). c ∷ z) (kept_lines cs a.1))

reads_comment : (x next : List ℕ) → is_comment x ≡ true → Reads read_comment (comment_start ++ (x ++ 45 ∷ 45 ∷ 62 ∷ next)) x next
reads_comment x next h =
    let a = both (list_all is_comment_char x) (has_no_double_hyphen x) h in
    let inside : Reads (read_up_to is_char dashes) (x ++ 45 ∷ 45 ∷ 62 ∷ next) x (62 ∷ next) = record { read = inside_read x next a.0 a.1 } in
    let whole = reads_valued normalize_line_ends (reads_behind (reads_word comment_start (x ++ 45 ∷ 45 ∷ 62 ∷ next)) (reads_before inside (reads_word greater next))) in
    subst (λ (z : List ℕ). Reads read_comment (comment_start ++ (x ++ 45 ∷ 45 ∷ 62 ∷ next)) z next) (kept_lines x a.0) whole

-- ---- characters

more_chars : (c : ℕ) (text cs rest : List ℕ) → plain_text c ≡ true → starts_with_word (93 ∷ 62 ∷ []) text ≡ false → Reads read_chars text cs rest → Reads read_chars (c ∷ text) (c ∷ cs) rest
more_chars c text cs rest p s h =
    let a = both (is_raw_char c) (not (c == 13) && not (c == 62)) p in
    let b = both (not (c == 13)) (not (c == 62)) a.1 in
    let no_end : starts_with_word cdata_end (c ∷ text) ≡ false = cond_false (nat_eq 93 c) (starts_with_word (93 ∷ 62 ∷ []) text) (λ _. s) in
    record { read = rw no_end (rw a.0 (rw (not_true (c == 13) b.0) (ap (λ (r : Result (List ℕ × List ℕ) (Stop FaultKind)). r >>= λ z. let w : List ℕ × List ℕ = (c ∷ z.0, z.1) in Ok w) h.read))) }

module _ (inner : Reader FaultKind Tree) where
  -- A text is read as this content, up to a tail. It begins neither with `>` nor with `]>`, so it
  -- completes no `]]>`.
  pub record IsContent (text : List ℕ) (k : Content) (tail : List ℕ) : Type 0 where
    pub first : List ℕ
    pub pieces : List (Markup × List ℕ)
    pub between : AreBetween markup_follows read_chars (read_markup inner) text first pieces tail
    pub spelled : with_pieces (last first) pieces ≡ k
    pub no_greater : starts_with_word (62 ∷ []) text ≡ false
    pub no_end : starts_with_word (93 ∷ 62 ∷ []) text ≡ false

  pub content_none : (rest : List ℕ) → IsContent (60 ∷ 47 ∷ rest) (last []) (60 ∷ 47 ∷ rest)
  content_none rest = record { first = []; pieces = []; between = between_none (60 ∷ 47 ∷ rest) (record { read = refl }) refl; spelled = refl; no_greater = refl; no_end = refl }

  content_raw : (c : ℕ) (text : List ℕ) (k : Content) (tail : List ℕ) → plain_text c ≡ true → IsContent text k tail → IsContent (c ∷ text) (with_text_prepended (c ∷ []) k) tail
  content_raw c text k tail p h =
      let a = both (is_raw_char c) (not (c == 13) && not (c == 62)) p in
      let b = both (not (c == 13)) (not (c == 62)) a.1 in
      let between = h.between in record {
        first = c ∷ h.first;
        pieces = h.pieces;
        between = record { next = between.next; first = more_chars c text h.first between.next p h.no_end between.first; shorter = (let le = between.shorter in omega (arith, le)); members = between.members };
        spelled = pieces-before h.pieces (c ∷ []) (last h.first) ∙ ap (with_text_prepended (c ∷ [])) h.spelled;
        no_greater = rw (same_test 62 c) (hyphen_by (c == 62) true b.1);
        no_end = cond_false (nat_eq 93 c) (starts_with_word (62 ∷ []) text) (λ _. h.no_greater);
      }

  content_markup : (text : List ℕ) (d : ℕ) (y : List ℕ) (m : Markup) (next : List ℕ) (k : Content) (tail : List ℕ) → text ≡ 60 ∷ d ∷ y → nat_eq 47 d ≡ false → Reads (read_markup inner) text m next → length next < length text
      → IsContent next k tail → (whole : Content) → ((first : List ℕ) (pieces : List (Markup × List ℕ)) → with_pieces (last first) pieces ≡ k → with_pieces (last []) ((m, first) ∷ pieces) ≡ whole) → IsContent text whole tail
  content_markup text d y m next k tail e n r lt h whole join =
      let follows : markup_follows (60 ∷ d ∷ y) ≡ true = rw n refl in
      let gap : Reads read_chars (60 ∷ d ∷ y) [] (60 ∷ d ∷ y) = record { read = refl } in record {
        first = [];
        pieces = (m, h.first) ∷ h.pieces;
        between = between_more (subst (λ (z : List ℕ). Reads read_chars z [] z) (sym e) gap) (ap markup_follows e ∙ follows) r lt h.between;
        spelled = join h.first h.pieces h.spelled;
        no_greater = ap (starts_with_word (62 ∷ [])) e;
        no_end = ap (starts_with_word (93 ∷ 62 ∷ [])) e;
      }

  content_reference : (text after : List ℕ) (c : ℕ) (next : List ℕ) (k : Content) (tail : List ℕ) → text ≡ (38 ∷ after) ++ next → Reads read_reference text c next → IsContent next k tail → IsContent text (with_text_prepended (c ∷ []) k) tail
  content_reference text after c next k tail e r h =
      let gap : Reads read_chars (38 ∷ (after ++ next)) [] (38 ∷ (after ++ next)) = record { read = refl } in record {
        first = [];
        pieces = (Reference c, h.first) ∷ h.pieces;
        between = between_more (subst (λ (z : List ℕ). Reads read_chars z [] z) (sym e) gap) (ap markup_follows e) (reads_left (first_char_is (λ d. d == 38)) _ (ap (first_char_is (λ d. d == 38)) e) (reads_valued Reference r)) (longer text after next 38 e) h.between;
        spelled = pieces-before h.pieces (c ∷ []) (last h.first) ∙ ap (with_text_prepended (c ∷ [])) h.spelled;
        no_greater = ap (starts_with_word (62 ∷ [])) e;
        no_end = ap (starts_with_word (93 ∷ 62 ∷ [])) e;
      }

  pub content_text : (t text : List ℕ) (k : Content) (tail : List ℕ) → AllByRecursion (λ (x : ℕ). IsTrue (is_char x)) t → IsContent text k tail → IsContent (print_text t ++ text) (with_text_prepended t k) tail
  content_text [] text k tail h i = subst (λ (z : Content). IsContent text z tail) (sym (before-none k)) i
  content_text (c ∷ t) text k tail h i =
      let later = content_text t text k tail h.1 i in
      let one = content_char c (text_escape c) (print_text t ++ text) (with_text_prepended t k) tail (text_stands c h.0) later in
      subst (λ (z : List ℕ). IsContent z (with_text_prepended (c ∷ t) k) tail) (sym (append_assoc (text_escape c) (print_text t) text)) (subst (λ (z : Content). IsContent (text_escape c ++ (print_text t ++ text)) z tail) (before-cons c t k) one)
    where
      content_char : (c : ℕ) (w next : List ℕ) (k : Content) (tail : List ℕ) → Stands plain_text c w → IsContent next k tail → IsContent (w ++ next) (with_text_prepended (c ∷ []) k) tail
      content_char c w next k tail (as_it_is e p) h = subst (λ (z : List ℕ). IsContent (z ++ next) (with_text_prepended (c ∷ []) k) tail) (sym e) (content_raw c next k tail p h)
      content_char c w next k tail (as_reference after e r) h = content_reference (w ++ next) after c next k tail (ap (λ (z : List ℕ). z ++ next) e) (r next) h

  pub content_note : (x next : List ℕ) (k : Content) (tail : List ℕ) → is_comment x ≡ true → IsContent next k tail → IsContent (print_comment x ++ next) (comment_node [] x k) tail
  content_note x next k tail h i =
      let text : print_comment x ++ next ≡ comment_start ++ (x ++ 45 ∷ 45 ∷ 62 ∷ next) = ap (λ (z : List ℕ). comment_start ++ z) (append_assoc x (45 ∷ 45 ∷ 62 ∷ []) next) in
      let r = reads_comment x next h in
      let comment = reads_right (first_char_is (λ d. d == 38)) (read_mapped Reference read_reference) refl (reads_right (starts_with_word (60 ∷ 33 ∷ 91 ∷ [])) (read_mapped Section read_cdata_section) refl
      (reads_left (starts_with_word (60 ∷ 33 ∷ [])) _ refl (reads_valued Comment r))) in
      let n = length-append x (45 ∷ 45 ∷ 62 ∷ next) in
      subst (λ (z : List ℕ). IsContent z (comment_node [] x k) tail) (sym text)
      (content_markup (comment_start ++ (x ++ 45 ∷ 45 ∷ 62 ∷ next)) 33 (45 ∷ 45 ∷ (x ++ 45 ∷ 45 ∷ 62 ∷ next)) (Comment x) next k tail refl refl comment (omega (arith, n)) i (comment_node [] x k)
      (λ first pieces s. pieces-comment_node pieces x (last first) ∙ ap (λ (z : Content). comment_node [] x z) s))

  -- an element after its `<` and the first character of its name
  pub content_elem : (text : List ℕ) (d : ℕ) (y : List ℕ) (e : Tree) (next : List ℕ) (k : Content) (tail : List ℕ) → text ≡ 60 ∷ d ∷ y → is_name_start d ≡ true → Reads inner text e next → length next < length text
      → IsContent next k tail → IsContent text (more_of [] e k) tail
  content_elem text d y e next k tail at start r lt h =
      let other : (m : ℕ) → is_name_start m ≡ false → nat_eq m d ≡ false = λ m f. no_mark m d f start in
      let bracket : starts_with_word (60 ∷ 33 ∷ 91 ∷ []) (60 ∷ d ∷ y) ≡ false = rw (other 33 refl) refl in
      let bang : starts_with_word (60 ∷ 33 ∷ []) (60 ∷ d ∷ y) ≡ false = rw (other 33 refl) refl in
      let question : starts_with_word (60 ∷ 63 ∷ []) (60 ∷ d ∷ y) ≡ false = rw (other 63 refl) refl in
      let inside = reads_right (first_char_is (λ c. c == 38)) (read_mapped Reference read_reference) (ap (first_char_is (λ c. c == 38)) at) (reads_right (starts_with_word (60 ∷ 33 ∷ 91 ∷ [])) (read_mapped Section read_cdata_section) (ap (starts_with_word (60 ∷ 33 ∷ 91 ∷ [])) at ∙ bracket)
      (reads_right (starts_with_word (60 ∷ 33 ∷ [])) (read_mapped Comment read_comment) (ap (starts_with_word (60 ∷ 33 ∷ [])) at ∙ bang) (reads_right (starts_with_word (60 ∷ 63 ∷ [])) (read_mapped (λ _. Instruction) read_processing_instruction) (ap (starts_with_word (60 ∷ 63 ∷ [])) at ∙ question) (reads_valued Inner r)))) in
      content_markup text d y (Inner e) next k tail at (other 47 refl) inside lt h (more_of [] e k) (λ first pieces s. pieces-more pieces e (last first) ∙ ap (λ (z : Content). more_of [] e z) s)

  pub reads_content : (text : List ℕ) (k : Content) (tail : List ℕ) → IsContent text k tail → Reads (read_content inner) text k tail
  reads_content text k tail h = subst (λ (z : Content). Reads (read_content inner) text z tail) h.spelled (reads_valued (λ x. with_pieces (last x.0) x.1) (reads_between h.between))

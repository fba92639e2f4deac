-- Texts that a shell reads as words, made piece by piece.
use Rattle.std.proofs.Common.{◌≡◌, ◌≢◌, length, get_or, take, length-take-le, ◌⊎◌, inl, inr, ℕ, ◌+◌, ◌*◌, ◌/◌, ◌%◌, ◌<◌, ◌≤◌, true, false, ◌==◌, cond, ⊎_elim, List, [], ◌∷◌, ◌++◌, All, Option, Some, Result, Ok, Err, OnOk, codes, is_ok, refl, sym, ap, subst, ◌∙◌, arith, append_assoc}
use Rattle.std.specs.List.{flat_map, list_any, list_all, join_with_byte}
use Rattle.std.specs.Str.{NonePass, chars, IsUtf8}
use Rattle.std.proofs.Math.Utf8.{encode, encodes}
use Rattle.std.proofs.lemmas.Bool.{ne_eqb, cond-true, cond-false, cases_eq, eq-eqb, cond_both, or_parts, and_parts}
use Rattle.std.proofs.lemmas.Bool.Decides.{nat_tests}
use Rattle.std.proofs.lemmas.List.{append-nil, take_all, take_more}
use Rattle.std.proofs.lemmas.List.Elements.{all_zip_more, length_all_zip, All-nil, All-head, All-tail, All-append, All-from_get_or}
use Rattle.std.proofs.lemmas.Str.{encode_ascii, encodes-append, encodes-chars, chars_from_encodes, NoCharPasses-nil, NoCharPasses-append}
use Rattle.std.proofs.lemmas.Str.Pattern.{NoCharPasses-char}
use Rattle.program_words.specs.ShellWords.{Adds, AreRead, IsRedirection, IsEscaped, IsRead, IsShown, IsTextOf, IsWritten, ends, plain, quote, backslash, octal, bare, kept_quote, single_quoted, dollar_quoted, alone, followed, is_bare}
use Rattle.program_words.specs.Visible.{is_hidden}

pub on_ok : {T E : Type 0} (r : Result T E) (P Q : Type 0) → (P → Q) → OnOk r P → OnOk r Q
on_ok (Ok x) P Q f h = f h
on_ok (Err e) P Q f h = tt

-- by the clause of `push` and `push_str`
pub pushed : {T E : Type 0} (r : Result T E) (new more old : List ℕ) (P : Type 0) → new ≡ cond (is_ok r) more old → (new ≡ more → P) → OnOk r P
pushed (Ok x) new more old P e f = f e
pushed (Err error) new more old P e f = tt

-- one text behind the other
pub adds_both : (P Q R : List ℕ → Type 0) (old mid new : List ℕ) → Adds P old mid → Adds Q mid new → ((s t : List ℕ) → P s → Q t → R (s ++ t)) → Adds R old new
adds_both P Q R old mid new a b f =
    (a.0 ++ b.0, b.1 ∙ ap (λ x. x ++ b.0) a.1 ∙ append_assoc old a.0 b.0, f a.0 b.0 a.2 b.2)

pub four_pushed : (old s₁ s₂ s₃ s₄ : List ℕ) (a b c d : ℕ) → s₁ ≡ old ++ a ∷ [] → s₂ ≡ s₁ ++ b ∷ [] → s₃ ≡ s₂ ++ c ∷ [] → s₄ ≡ s₃ ++ d ∷ [] → s₄ ≡ old ++ a ∷ b ∷ c ∷ d ∷ []
four_pushed old s₁ s₂ s₃ s₄ a b c d p q r t = rw (t, r, q, p) (simp append_assoc)

-- ---- what is shown

pub shown_char : (c : ℕ) → is_hidden c ≡ false → IsShown (encode c)
shown_char c other = (c ∷ [], append-nil (encode c), (other, tt))

pub shown_byte : (c : ℕ) → c < 128 → is_hidden c ≡ false → IsShown (c ∷ [])
shown_byte c ascii other = subst IsShown (encode_ascii c ascii) (shown_char c other)

pub shown_append : (xs ys : List ℕ) → IsShown xs → IsShown ys → IsShown (xs ++ ys)
shown_append xs ys = NoCharPasses-append is_hidden xs ys

pub shown_cons : (c : ℕ) (xs : List ℕ) → c < 128 → is_hidden c ≡ false → IsShown xs → IsShown (c ∷ xs)
shown_cons c xs ascii other rest = shown_append (c ∷ []) xs (shown_byte c ascii other) rest

pub shown_nil : IsShown []
shown_nil = NoCharPasses-nil is_hidden

-- ---- inside `$'..'`

pub escaped_append : {text run rest word : List ℕ} → IsEscaped text run → IsEscaped rest word → IsEscaped (text ++ rest) (run ++ word)
escaped_append ends h = h
escaped_append (plain b p q e) h = plain b p q (escaped_append e h)
escaped_append (quote e) h = quote (escaped_append e h)
escaped_append (backslash e) h = backslash (escaped_append e h)
escaped_append (octal a b c p q r e) h = octal a b c p q r (escaped_append e h)

plain_run : (bs : List ℕ) → All (λ b. b ≢ 39) bs → All (λ b. b ≢ 92) bs → IsEscaped bs bs
plain_run [] p q = ends
plain_run (b ∷ bs) p q = plain b (All-head (λ x. x ≢ 39) b bs p) (All-head (λ x. x ≢ 92) b bs q) (plain_run bs (All-tail (λ x. x ≢ 39) b bs p) (All-tail (λ x. x ≢ 92) b bs q))

-- no byte of a character is another ASCII character
no_byte : (c b : ℕ) → b < 128 → c ≢ b → All (λ x. x ≢ b) (encode c)
no_byte c b ascii other =
    All-from_get_or (λ x. x ≢ b) (encode c) 0 (λ i within. NoCharPasses-char b (encode c) i (c ∷ [], append-nil (encode c), (ne_eqb c b other, tt)) ascii within)

pub plain_char : (c : ℕ) → c ≢ 39 → c ≢ 92 → IsEscaped (encode c) (encode c)
plain_char c p q = plain_run (encode c) (no_byte c 39 (omega arith) p) (no_byte c 92 (omega arith) q)

abbrev pub byte_text : ℕ → List ℕ
byte_text b = 92 ∷ (48 + b / 64) ∷ (48 + b / 8 % 8) ∷ (48 + b % 8) ∷ []

byte_whole : (b : ℕ) → b / 64 * 64 + b / 8 % 8 * 8 + b % 8 ≡ b
byte_whole b = omega arith

pub byte_escaped : (b : ℕ) → b < 256 → IsEscaped (byte_text b) (b ∷ [])
byte_escaped b byte =
    subst (λ n. IsEscaped (byte_text b) (n ∷ [])) (byte_whole b) (octal (b / 64) (b / 8 % 8) (b % 8) (omega arith) (omega arith) (omega arith) ends)

digit_shown : (d : ℕ) → d < 8 → is_hidden (48 + d) ≡ false
digit_shown d digit = grind (arith, nat_tests)

pub byte_shown : (b : ℕ) → b < 256 → IsShown (byte_text b)
byte_shown b byte =
    shown_cons 92 _ (omega arith) refl
    (shown_cons (48 + b / 64) _ (omega arith) (digit_shown (b / 64) (omega arith))
    (shown_cons (48 + b / 8 % 8) _ (omega arith) (digit_shown (b / 8 % 8) (omega arith))
    (shown_cons (48 + b % 8) _ (omega arith) (digit_shown (b % 8) (omega arith)) shown_nil)))

-- how a character is written inside `$'..'`
pub written_both : (run more s t : List ℕ) → IsWritten run s → IsWritten more t → IsWritten (run ++ more) (s ++ t)
written_both run more s t a b = (escaped_append a.0 b.0, shown_append s t a.1 b.1)

-- a byte more
pub bytes_more : (bytes : List ℕ) (i : ℕ) (old mid new : List ℕ) → i < length bytes → Adds (IsWritten (take i bytes)) old mid
    → Adds (IsWritten (get_or bytes i 0 ∷ [])) mid new → Adds (IsWritten (take (i + 1) bytes)) old new
bytes_more bytes i old mid new within before more =
    let byte = get_or bytes i 0 in
    adds_both (IsWritten (take i bytes)) (IsWritten (byte ∷ [])) (IsWritten (take (i + 1) bytes)) old mid new before more
    (λ s t a b. subst (λ run. IsWritten run (s ++ t)) (sym (take_more bytes i 0 within)) (written_both (take i bytes) (byte ∷ []) s t a b))

-- and all
pub bytes_all : (bytes : List ℕ) (i c : ℕ) (old new : List ℕ) → length bytes ≤ i → bytes ≡ encode c
    → Adds (IsWritten (take i bytes)) old new → Adds (IsWritten (encode c)) old new
bytes_all bytes i c old new all is written = subst (λ run. Adds (IsWritten run) old new) (take_all i bytes all ∙ is) written

pub bytes_none : (bytes old : List ℕ) → Adds (IsWritten (take 0 bytes)) old old
bytes_none bytes old = ([], sym (append-nil old), (ends, shown_nil))

pub written_quote : (c : ℕ) → c ≡ 39 → IsWritten (encode c) (92 ∷ 39 ∷ [])
written_quote c is =
    subst (λ run. IsWritten run (92 ∷ 39 ∷ [])) (sym (encode_ascii c (omega arith) ∙ ap (λ x. x ∷ []) is))
    (quote ends, shown_cons 92 _ (omega arith) refl (shown_cons 39 _ (omega arith) refl shown_nil))

pub written_backslash : (c : ℕ) → c ≡ 92 → IsWritten (encode c) (92 ∷ 92 ∷ [])
written_backslash c is =
    subst (λ run. IsWritten run (92 ∷ 92 ∷ [])) (sym (encode_ascii c (omega arith) ∙ ap (λ x. x ∷ []) is))
    (backslash ends, shown_cons 92 _ (omega arith) refl (shown_cons 92 _ (omega arith) refl shown_nil))

pub written_plain : (c : ℕ) → c ≢ 39 → c ≢ 92 → is_hidden c ≡ false → IsWritten (encode c) (encode c)
written_plain c p q other = (plain_char c p q, shown_char c other)

pub encodes_push : (cs : List ℕ) (c : ℕ) → encodes cs ++ encode c ≡ encodes (cs ++ c ∷ [])
encodes_push cs c = sym (encodes-append cs (c ∷ []) ∙ ap (λ t. encodes cs ++ t) (append-nil (encode c)))

-- a word in `$'..'`
pub dollar_word : (text word : List ℕ) → IsWritten word text → IsRead (36 ∷ 39 ∷ text ++ 39 ∷ []) word × IsShown (36 ∷ 39 ∷ text ++ 39 ∷ [])
dollar_word text word w =
    (alone (dollar_quoted w.0), shown_cons 36 _ (omega arith) refl (shown_cons 39 _ (omega arith) refl (shown_append text (39 ∷ []) w.1 (shown_byte 39 (omega arith) refl))))

-- ---- words

-- inside single quotes, each quote is outside of them
abbrev pub in_quotes : ℕ → List ℕ
in_quotes c = cond (c == 39) (codes "'\\''") (encode c)

abbrev IsQuotedOn : (run : List ℕ) (cs part word : List ℕ) → Type 0
IsQuotedOn run cs part word = IsRead (39 ∷ (run ++ (part ++ flat_map in_quotes cs)) ++ 39 ∷ []) (run ++ (word ++ encodes cs))

quoted_quote : (run cs : List ℕ) → All (λ b. b ≢ 39) run → IsQuotedOn [] cs [] [] → IsQuotedOn run cs (codes "'\\''") (39 ∷ [])
quoted_quote run cs none on =
    let rest = flat_map in_quotes cs in
    let same : (39 ∷ run ++ 39 ∷ []) ++ (92 ∷ 39 ∷ 39 ∷ (rest ++ 39 ∷ [])) ≡ 39 ∷ (run ++ (codes "'\\''" ++ rest)) ++ 39 ∷ [] = simp append_assoc in
    subst (λ t. IsRead t (run ++ 39 ∷ encodes cs)) same (followed (single_quoted run none) (followed kept_quote on))

quoted_other : (run cs part : List ℕ) → IsQuotedOn (run ++ part) cs [] [] → IsQuotedOn run cs part part
quoted_other run cs part on =
    subst (λ r. IsRead (39 ∷ (run ++ (part ++ flat_map in_quotes cs)) ++ 39 ∷ []) r) (append_assoc run part (encodes cs))
    (subst (λ t. IsRead (39 ∷ t ++ 39 ∷ []) ((run ++ part) ++ encodes cs)) (append_assoc run part (flat_map in_quotes cs)) on)

quoted_on : (cs run : List ℕ) → All (λ b. b ≢ 39) run → IsQuotedOn run cs [] []
quoted_on [] run none = subst (λ r. IsRead (39 ∷ r ++ 39 ∷ []) r) (sym (append-nil run)) (alone (single_quoted run none))
quoted_on (c ∷ cs) run none =
    ⊎_elim
    (λ is.
    let quote_alone : encode c ≡ 39 ∷ [] = encode_ascii c (omega arith) ∙ ap (λ x. x ∷ []) is in
    subst (λ part. IsQuotedOn run cs part (encode c)) (sym (cond-true _ _ _ (eq-eqb c 39 is)))
    (subst (IsQuotedOn run cs (codes "'\\''")) (sym quote_alone) (quoted_quote run cs none (quoted_on cs [] (All-nil (λ b. b ≢ 39))))))
    (λ other.
    subst (λ part. IsQuotedOn run cs part (encode c)) (sym (cond-false _ _ _ (ne_eqb c 39 other)))
    (quoted_other run cs (encode c) (quoted_on cs (run ++ encode c) (All-append (λ b. b ≢ 39) run (encode c) none (no_byte c 39 (omega arith) other)))))
    (cases_eq c 39)

pub quoted_word : (cs : List ℕ) → IsRead (39 ∷ flat_map in_quotes cs ++ 39 ∷ []) (encodes cs)
quoted_word cs = quoted_on cs [] (All-nil (λ b. b ≢ 39))

pub quoted_shown : (cs : List ℕ) → NonePass is_hidden cs → IsShown (flat_map in_quotes cs)
quoted_shown [] none = shown_nil
quoted_shown (c ∷ cs) none =
    shown_append (in_quotes c) (flat_map in_quotes cs)
    (cond_both (c == 39) (codes "'\\''") (encode c) IsShown
    (λ is. shown_cons 39 _ (omega arith) refl (shown_cons 92 _ (omega arith) refl (shown_cons 39 _ (omega arith) refl (shown_cons 39 _ (omega arith) refl shown_nil))))
    (λ other. shown_char c none.0))
    (quoted_shown cs none.1)

-- the characters of a text, none of which is a control character
none_passes : (cs : List ℕ) → list_any is_hidden cs ≡ false → NonePass is_hidden cs
none_passes [] none = tt
none_passes (c ∷ cs) none =
    let both = or_parts _ _ none in
    (both.0, none_passes cs both.1)

pub shown_text : (bs : List ℕ) → IsUtf8 bs → list_any is_hidden (chars bs) ≡ false → IsShown bs
shown_text bs text none = (chars bs, encodes-chars bs text, none_passes (chars bs) none)

pub none_in : (bs : List ℕ) → IsUtf8 bs → IsShown bs → NonePass is_hidden (chars bs)
none_in bs text shown = subst (NonePass is_hidden) (chars_from_encodes shown.0 bs text shown.1) shown.2

-- a word in single quotes
pub quoted : (cs word : List ℕ) → cs ≡ chars word → IsUtf8 word → IsShown word → IsRead (39 ∷ flat_map in_quotes cs ++ 39 ∷ []) word × IsShown (39 ∷ flat_map in_quotes cs ++ 39 ∷ [])
quoted cs word are text shown =
    let none = subst (NonePass is_hidden) (sym are) (none_in word text shown) in (
      subst (IsRead (39 ∷ flat_map in_quotes cs ++ 39 ∷ [])) (ap encodes are ∙ encodes-chars word text) (quoted_word cs),
      shown_cons 39 _ (omega arith) refl (shown_append (flat_map in_quotes cs) (39 ∷ []) (quoted_shown cs none) (shown_byte 39 (omega arith) refl)),
    )

-- bare bytes
pub bare_word : (bs : List ℕ) → 0 < length bs → list_all is_bare bs ≡ true → IsRead bs bs
bare_word [] some each = absurd (omega arith)
bare_word (b ∷ []) some each = alone (bare b (and_parts _ _ each).0)
bare_word (b ∷ c ∷ bs) some each =
    let both = and_parts _ _ each in
    followed (bare b both.0) (bare_word (c ∷ bs) (omega arith) both.1)

-- ---- lines

pub joined_push : (texts : List (List ℕ)) (text : List ℕ) → 0 < length texts → join_with_byte 32 texts ++ 32 ∷ text ≡ join_with_byte 32 (texts ++ text ∷ [])
joined_push [] text some = absurd (omega arith)
joined_push (x ∷ []) text some = refl
joined_push (x ∷ y ∷ xs) text some =
    append_assoc x (32 ∷ join_with_byte 32 (y ∷ xs)) (32 ∷ text) ∙ ap (λ t. x ++ 32 ∷ t) (joined_push (y ∷ xs) text (omega arith))

-- a space behind the words before, where there are some
abbrev pub IsSpaced : ℕ → (line spaced : List ℕ) → Type 0
IsSpaced i line spaced = ((i ≤ 0) × (spaced ≡ line)) ⊎ ((0 < i) × (spaced ≡ line ++ 32 ∷ []))

line_first : (texts : List (List ℕ)) (text spaced : List ℕ) → length texts ≤ 0 → spaced ≡ join_with_byte 32 texts → spaced ++ text ≡ join_with_byte 32 (texts ++ text ∷ [])
line_first [] text spaced none is = ap (λ s. s ++ text) is
line_first (x ∷ xs) text spaced none is = absurd (omega arith)

line_next : (texts : List (List ℕ)) (text spaced : List ℕ) → 0 < length texts → spaced ≡ join_with_byte 32 texts ++ 32 ∷ [] → spaced ++ text ≡ join_with_byte 32 (texts ++ text ∷ [])
line_next texts text spaced some is =
    ap (λ s. s ++ text) is ∙ append_assoc (join_with_byte 32 texts) (32 ∷ []) text ∙ joined_push texts text some

line_more : (texts : List (List ℕ)) (text line spaced : List ℕ) (i : ℕ) → length texts ≡ i → line ≡ join_with_byte 32 texts → IsSpaced i line spaced → spaced ++ text ≡ join_with_byte 32 (texts ++ text ∷ [])
line_more texts text line spaced i count is (inl first) = line_first texts text spaced (omega arith) (first.1 ∙ is)
line_more texts text line spaced i count is (inr next) = line_next texts text spaced (omega arith) (next.1 ∙ ap (λ t. t ++ 32 ∷ []) is)

-- a word behind those before
pub words_more : (words : List (List ℕ)) (i : ℕ) (word line spaced new : List ℕ) → i < length words → word ≡ get_or words i word → AreRead (take i words) line
    → IsSpaced i line spaced → Adds (IsTextOf word) spaced new → AreRead (take (i + 1) words) new
words_more words i word line spaced new within at read space more =
    let texts = read.0 in
    let each = all_zip_more (λ w t. IsRead t w) words texts i word more.0 within at read.1 more.2.0 in
    let count : length texts ≡ i = sym (length_all_zip (λ w t. IsRead t w) (take i words) texts read.1) ∙ length-take-le i words (omega arith) in
    (texts ++ more.0 ∷ [], each, more.1 ∙ line_more texts more.0 line spaced i count read.2 space)

spaced_shown : (i : ℕ) (line spaced : List ℕ) → IsShown line → IsSpaced i line spaced → IsShown spaced
spaced_shown i line spaced shown (inl first) = subst IsShown (sym first.1) shown
spaced_shown i line spaced shown (inr next) = subst IsShown (sym next.1) (shown_append line (32 ∷ []) shown (shown_byte 32 (omega arith) refl))

pub shown_more : (P : List ℕ → Type 0) (old new : List ℕ) → IsShown old → Adds (λ text. P text × IsShown text) old new → IsShown new
shown_more P old new shown more = subst IsShown (sym more.1) (shown_append old more.0 shown more.2.1)

pub words_shown : (i : ℕ) (word line spaced new : List ℕ) → IsShown line → IsSpaced i line spaced → Adds (IsTextOf word) spaced new → IsShown new
words_shown i word line spaced new shown space more =
    shown_more (λ text. IsRead text word) spaced new (spaced_shown i line spaced shown space) more

-- what opened, what followed and what closed
pub closed : (old front text line new close : List ℕ) → line ≡ (old ++ front) ++ text → new ≡ line ++ close → new ≡ old ++ ((front ++ text) ++ close)
closed old front text line new close a b = rw (b, a) (simp append_assoc)

pub shown_in : IsShown (codes " <")
shown_in = shown_cons 32 _ (omega arith) refl (shown_cons 60 _ (omega arith) refl shown_nil)

pub shown_out : IsShown (codes " >")
shown_out = shown_cons 32 _ (omega arith) refl (shown_cons 62 _ (omega arith) refl shown_nil)

pub shown_errors : IsShown (codes " 2>")
shown_errors = shown_cons 32 _ (omega arith) refl (shown_cons 50 _ (omega arith) refl (shown_cons 62 _ (omega arith) refl shown_nil))

pub redirection : (arrow word front text : List ℕ) (name : Option (List ℕ)) → name ≡ Some word → front ≡ arrow → IsRead text word → IsRedirection arrow name (front ++ text)
redirection arrow word front text name named is read =
    subst (λ o. IsRedirection arrow o (front ++ text)) (sym named) (text, read, ap (λ f. f ++ text) is)

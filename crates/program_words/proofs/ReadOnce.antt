-- A reader of lines, byte by byte. What it reads is what the rules give, so they give one word for a text, and one command for a line.
use Rattle.std.proofs.Common.{◌≡◌, ◌≢◌, ℕ, ◌+◌, ◌*◌, ◌-◌, ◌<◌, Bool, true, false, ◌&&◌, ◌==◌, nat_le, cond, List, [], ◌∷◌, ◌++◌, All, Option, Some, None, codes, map, refl, sym, ap, subst, ◌∙◌, arith, append_assoc}
use Rattle.std.specs.List.{AllZip, join_with_byte}
use Rattle.std.proofs.lemmas.Bool.{cond-true, cond-false, ne_eqb, true≢false}
use Rattle.std.proofs.lemmas.Bool.Decides.{nat_tests}
use Rattle.std.proofs.lemmas.List.{append-nil, append_cancel_left}
use Rattle.std.proofs.lemmas.List.Elements.{All-head, All-tail}
use Rattle.command_line.specs.declared.launch.Launch.{Launch}
use Rattle.program_words.specs.ShellWords.{IsEscaped, IsLineOf, IsPart, IsRead, IsRedirection, IsSameCommand, ends, plain, quote, backslash, octal, bare, kept_quote, single_quoted, dollar_quoted, alone, followed, is_bare}

-- what is read: where a word begins, its bytes, a space between words, and arrows
data Mark : Type 0 where
  begin : Mark
  byte : ℕ → Mark
  gap : Mark
  arrow_in : Mark
  arrow_out : Mark

-- where the reader is
data Place : Type 0 where
  before_word : Place
  outside : Place
  behind_backslash : Place
  in_quotes : Place
  behind_dollar : Place
  in_dollar : Place
  in_escape : Place
  behind_one : ℕ → Place
  behind_two : ℕ → ℕ → Place

abbrev is_digit : ℕ → Bool
is_digit b = nat_le 48 b && nat_le b 55

-- what a byte outside of quotes gives, or this where it is neither a space nor an arrow
abbrev apart : ℕ → List Mark → List Mark
apart b marks = cond (b == 32) (gap ∷ []) (cond (b == 60) (arrow_in ∷ []) (cond (b == 62) (arrow_out ∷ []) marks))

abbrev apart_at : ℕ → Place → Place
apart_at b place = cond (b == 32) before_word (cond (b == 60) before_word (cond (b == 62) before_word place))

abbrev unquoted : ℕ → List Mark
unquoted b = cond (b == 92) [] (cond (b == 39) [] (cond (b == 36) [] (byte b ∷ [])))

abbrev unquoted_at : ℕ → Place
unquoted_at b = cond (b == 92) behind_backslash (cond (b == 39) in_quotes (cond (b == 36) behind_dollar outside))

-- what a byte gives
abbrev gives : Place → ℕ → List Mark
gives before_word b = apart b (begin ∷ unquoted b)
gives outside b = apart b (unquoted b)
gives behind_backslash b = byte b ∷ []
gives in_quotes b = cond (b == 39) [] (byte b ∷ [])
gives behind_dollar b = []
gives in_dollar b = cond (b == 39) [] (cond (b == 92) [] (byte b ∷ []))
gives in_escape b = cond (is_digit b) [] (byte b ∷ [])
gives (behind_one x) b = []
gives (behind_two x y) b = byte (x * 64 + y * 8 + (b - 48)) ∷ []

-- where the reader is behind it
abbrev then_at : Place → ℕ → Place
then_at before_word b = apart_at b (unquoted_at b)
then_at outside b = apart_at b (unquoted_at b)
then_at behind_backslash b = outside
then_at in_quotes b = cond (b == 39) outside in_quotes
then_at behind_dollar b = in_dollar
then_at in_dollar b = cond (b == 39) outside (cond (b == 92) in_escape in_dollar)
then_at in_escape b = cond (is_digit b) (behind_one (b - 48)) in_dollar
then_at (behind_one x) b = behind_two x (b - 48)
then_at (behind_two x y) b = in_dollar

abbrev reads : List ℕ → Place → List Mark
reads [] place = []
reads (b ∷ bs) place = gives place b ++ reads bs (then_at place b)

-- one byte, where it is known what it gives and where it leads
one : (b : ℕ) (bs : List ℕ) (here there : Place) (given : List Mark) → gives here b ≡ given → then_at here b ≡ there → reads (b ∷ bs) here ≡ given ++ reads bs there
one b bs here there given g t = ap (λ x. x ++ reads bs (then_at here b)) g ∙ ap (λ p. given ++ reads bs p) t

-- ---- a word

not_bare : (b c : ℕ) → is_bare b ≡ true → is_bare c ≡ false → (b == c) ≡ false
not_bare b c is other = ne_eqb b c (λ same. true≢false (sym is ∙ ap is_bare same ∙ other))

bare_apart : {X : Type 0} (b : ℕ) (x y z rest : X) → is_bare b ≡ true → cond (b == 32) x (cond (b == 60) y (cond (b == 62) z rest)) ≡ rest
bare_apart b x y z rest is = cond-false _ _ _ (not_bare b 32 is refl) ∙ cond-false _ _ _ (not_bare b 60 is refl) ∙ cond-false _ _ _ (not_bare b 62 is refl)

bare_unquoted : {X : Type 0} (b : ℕ) (x y z rest : X) → is_bare b ≡ true → cond (b == 92) x (cond (b == 39) y (cond (b == 36) z rest)) ≡ rest
bare_unquoted b x y z rest is = cond-false _ _ _ (not_bare b 92 is refl) ∙ cond-false _ _ _ (not_bare b 39 is refl) ∙ cond-false _ _ _ (not_bare b 36 is refl)

of_bare : (b : ℕ) (rest : List ℕ) → is_bare b ≡ true → reads (b ∷ rest) outside ≡ byte b ∷ reads rest outside
of_bare b rest is =
    one b rest outside outside (byte b ∷ [])
    (bare_apart b (gap ∷ []) (arrow_in ∷ []) (arrow_out ∷ []) (unquoted b) is ∙ bare_unquoted b [] [] [] (byte b ∷ []) is)
    (bare_apart b before_word before_word before_word (unquoted_at b) is ∙ bare_unquoted b behind_backslash in_quotes behind_dollar outside is)

of_quoted : (run rest : List ℕ) → All (λ b. b ≢ 39) run → reads (run ++ 39 ∷ rest) in_quotes ≡ map byte run ++ reads rest outside
of_quoted [] rest none = refl
of_quoted (b ∷ run) rest none =
    let p = ne_eqb b 39 (All-head (λ x. x ≢ 39) b run none) in
    one b (run ++ 39 ∷ rest) in_quotes in_quotes (byte b ∷ []) (cond-false _ _ _ p) (cond-false _ _ _ p)
    ∙ ap (λ t. byte b ∷ t) (of_quoted run rest (All-tail (λ x. x ≢ 39) b run none))

digit : (d : ℕ) → d < 8 → is_digit (48 + d) ≡ true
digit d small = grind (arith, nat_tests)

of_octal : (a b c : ℕ) (rest : List ℕ) → a < 4 → b < 8 → c < 8 → reads (92 ∷ (48 + a) ∷ (48 + b) ∷ (48 + c) ∷ rest) in_dollar ≡ byte (a * 64 + b * 8 + c) ∷ reads rest in_dollar
of_octal a b c rest p q r =
    let first : 48 + a - 48 ≡ a = omega arith in
    let second : 48 + b - 48 ≡ b = omega arith in
    let third : 48 + c - 48 ≡ c = omega arith in
    one (48 + a) ((48 + b) ∷ (48 + c) ∷ rest) in_escape (behind_one (48 + a - 48)) [] (cond-true _ _ _ (digit a (omega arith))) (cond-true _ _ _ (digit a (omega arith)))
    ∙ (λ i. byte (first i * 64 + second i * 8 + third i) ∷ reads rest in_dollar)

of_escaped : {text run : List ℕ} (rest : List ℕ) → IsEscaped text run → reads (text ++ 39 ∷ rest) in_dollar ≡ map byte run ++ reads rest outside
of_escaped rest ends = refl
of_escaped rest (plain {text = t} {run = r} b p q e) =
    let other = ne_eqb b 39 p in
    let unescaped = ne_eqb b 92 q in
    one b (t ++ 39 ∷ rest) in_dollar in_dollar (byte b ∷ []) (cond-false _ _ _ other ∙ cond-false _ _ _ unescaped) (cond-false _ _ _ other ∙ cond-false _ _ _ unescaped)
    ∙ ap (λ x. byte b ∷ x) (of_escaped rest e)
of_escaped rest (quote e) = ap (λ x. byte 39 ∷ x) (of_escaped rest e)
of_escaped rest (backslash e) = ap (λ x. byte 92 ∷ x) (of_escaped rest e)
of_escaped rest (octal {text = t} a b c p q r e) =
    of_octal a b c (t ++ 39 ∷ rest) p q r ∙ ap (λ x. byte (a * 64 + b * 8 + c) ∷ x) (of_escaped rest e)

of_part : {text run : List ℕ} (rest : List ℕ) → IsPart text run → reads (text ++ rest) outside ≡ map byte run ++ reads rest outside
of_part rest (bare b is) = of_bare b rest is
of_part rest kept_quote = refl
of_part rest (single_quoted run none) = ap (λ t. reads t in_quotes) (append_assoc run (39 ∷ []) rest) ∙ of_quoted run rest none
of_part rest (dollar_quoted {text = t} e) = ap (λ x. reads x in_dollar) (append_assoc t (39 ∷ []) rest) ∙ of_escaped rest e

map_bytes : (xs ys : List ℕ) → map byte (xs ++ ys) ≡ map byte xs ++ map byte ys
map_bytes [] ys = refl
map_bytes (x ∷ xs) ys = ap (λ t. byte x ∷ t) (map_bytes xs ys)

of_word : {text word : List ℕ} (rest : List ℕ) → IsRead text word → reads (text ++ rest) outside ≡ map byte word ++ reads rest outside
of_word rest (alone p) = of_part rest p
of_word rest (followed {text = t} {rest = ts} {run = r} {word = w} p e) =
    ap (λ x. reads x outside) (append_assoc t ts rest) ∙ of_part (ts ++ rest) p ∙ ap (λ x. map byte r ++ x) (of_word rest e)
    ∙ sym (append_assoc (map byte r) (map byte w) (reads rest outside)) ∙ ap (λ x. x ++ reads rest outside) (sym (map_bytes r w))

-- a word begins there
part_begins : {text run : List ℕ} (rest : List ℕ) → IsPart text run → reads (text ++ rest) before_word ≡ begin ∷ reads (text ++ rest) outside
part_begins rest (bare b is) =
    one b rest before_word outside (begin ∷ byte b ∷ [])
    (bare_apart b (gap ∷ []) (arrow_in ∷ []) (arrow_out ∷ []) (begin ∷ unquoted b) is ∙ ap (λ x. begin ∷ x) (bare_unquoted b [] [] [] (byte b ∷ []) is))
    (bare_apart b before_word before_word before_word (unquoted_at b) is ∙ bare_unquoted b behind_backslash in_quotes behind_dollar outside is)
    ∙ ap (λ x. begin ∷ x) (sym (of_bare b rest is))
part_begins rest kept_quote = refl
part_begins rest (single_quoted run none) = refl
part_begins rest (dollar_quoted e) = refl

word_begins : {text word : List ℕ} (rest : List ℕ) → IsRead text word → reads (text ++ rest) before_word ≡ begin ∷ reads (text ++ rest) outside
word_begins rest (alone p) = part_begins rest p
word_begins rest (followed {text = t} {rest = ts} p e) =
    ap (λ x. reads x before_word) (append_assoc t ts rest) ∙ part_begins (ts ++ rest) p ∙ ap (λ x. begin ∷ reads x outside) (sym (append_assoc t ts rest))

abbrev word_marks : List ℕ → List Mark
word_marks word = begin ∷ map byte word

of_text : {text word : List ℕ} (rest : List ℕ) → IsRead text word → reads (text ++ rest) before_word ≡ word_marks word ++ reads rest outside
of_text rest e = word_begins rest e ∙ ap (λ x. begin ∷ x) (of_word rest e)

-- ---- the bytes of a word in marks

abbrev bytes_of : List Mark → List ℕ
bytes_of [] = []
bytes_of (byte b ∷ marks) = b ∷ bytes_of marks
bytes_of (begin ∷ marks) = []
bytes_of (gap ∷ marks) = []
bytes_of (arrow_in ∷ marks) = []
bytes_of (arrow_out ∷ marks) = []

bytes_back : (word : List ℕ) (rest : List Mark) → bytes_of rest ≡ [] → bytes_of (map byte word ++ rest) ≡ word
bytes_back [] rest none = none
bytes_back (b ∷ word) rest none = ap (λ x. b ∷ x) (bytes_back word rest none)

-- the word behind its beginning
abbrev word_of : List Mark → List ℕ
word_of (begin ∷ marks) = bytes_of marks
word_of marks = []

whole : (text word : List ℕ) → IsRead text word → word_of (reads text before_word) ≡ word
whole text word e =
    ap (λ x. word_of (reads x before_word)) (sym (append-nil text)) ∙ ap word_of (of_text [] e) ∙ bytes_back word [] refl

pub read_once : (text word other : List ℕ) → IsRead text word → IsRead text other → word ≡ other
read_once text word other a b = sym (whole text word a) ∙ whole text other b

-- ---- a line

abbrev words_marks : List (List ℕ) → List Mark
words_marks [] = []
words_marks (w ∷ []) = word_marks w
words_marks (w ∷ v ∷ words) = word_marks w ++ gap ∷ words_marks (v ∷ words)

-- an arrow with the name of a file behind it
abbrev file_marks : List Mark → Option (List ℕ) → List Mark
file_marks arrow None = []
file_marks arrow (Some name) = gap ∷ arrow ++ word_marks name

-- what may follow a word: nothing, or what begins with a space
abbrev IsBehind : List ℕ → Type 0
IsBehind rest = reads rest before_word ≡ reads rest outside

of_texts : (words texts : List (List ℕ)) (rest : List ℕ) → AllZip (λ word text. IsRead text word) words texts → IsBehind rest → reads (join_with_byte 32 texts ++ rest) before_word ≡ words_marks words ++ reads rest outside
of_texts [] [] rest each behind = behind
of_texts [] (t ∷ ts) rest each behind = absurd each
of_texts (w ∷ ws) [] rest each behind = absurd each
of_texts (w ∷ []) (t ∷ []) rest each behind = of_text rest each.0
of_texts (w ∷ []) (t ∷ s ∷ ts) rest each behind = absurd each.1
of_texts (w ∷ v ∷ ws) (t ∷ []) rest each behind = absurd each.1
of_texts (w ∷ v ∷ ws) (t ∷ s ∷ ts) rest each behind =
    let others = join_with_byte 32 (s ∷ ts) in
    ap (λ x. reads x before_word) (append_assoc t (32 ∷ others) rest) ∙ of_text (32 ∷ (others ++ rest)) each.0
    ∙ ap (λ x. word_marks w ++ gap ∷ x) (of_texts (v ∷ ws) (s ∷ ts) rest each.1 behind)
    ∙ sym (append_assoc (word_marks w) (gap ∷ words_marks (v ∷ ws)) (reads rest outside))

-- how an arrow behind a space is read
abbrev IsArrow : List ℕ → List Mark → Type 0
IsArrow text arrow = (rest : List ℕ) → reads (32 ∷ (text ++ rest)) outside ≡ gap ∷ (arrow ++ reads rest before_word)

of_file : (front : List ℕ) (arrow : List Mark) (name : Option (List ℕ)) (text rest : List ℕ) → IsArrow front arrow → IsRedirection (32 ∷ front) name text → reads (text ++ rest) outside ≡ file_marks arrow name ++ reads rest outside
of_file front arrow None text rest read is = ap (λ x. reads (x ++ rest) outside) is
of_file front arrow (Some name) text rest read is =
    ap (λ x. reads (x ++ rest) outside) is.2 ∙ ap (λ x. reads (32 ∷ x) outside) (append_assoc front is.0 rest) ∙ read (is.0 ++ rest)
    ∙ ap (λ x. gap ∷ (arrow ++ x)) (of_text rest is.1) ∙ ap (λ x. gap ∷ x) (sym (append_assoc arrow (word_marks name) (reads rest outside)))

file_behind : (front : List ℕ) (name : Option (List ℕ)) (text rest : List ℕ) → IsRedirection (32 ∷ front) name text → IsBehind rest → IsBehind (text ++ rest)
file_behind front None text rest is behind = subst (λ x. IsBehind (x ++ rest)) (sym is) behind
file_behind front (Some name) text rest is behind = subst (λ x. IsBehind (x ++ rest)) (sym is.2) refl

abbrev in_marks : Option (List ℕ) → List Mark
in_marks name = file_marks (arrow_in ∷ []) name

abbrev out_marks : Option (List ℕ) → List Mark
out_marks name = file_marks (arrow_out ∷ []) name

abbrev err_marks : Option (List ℕ) → List Mark
err_marks name = file_marks (begin ∷ byte 50 ∷ arrow_out ∷ []) name

abbrev files_marks : (stdin stdout stderr : Option (List ℕ)) → List Mark
files_marks stdin stdout stderr = in_marks stdin ++ (out_marks stdout ++ err_marks stderr)

of_line : (launch : Launch) (line : List ℕ) → IsLineOf launch line → reads line before_word ≡ words_marks launch.words ++ files_marks launch.stdin launch.stdout launch.stderr
of_line launch line is =
    let errors = is.stderr ++ [] in
    let same : is.words ++ is.stdin ++ is.stdout ++ is.stderr ≡ is.words ++ (is.stdin ++ (is.stdout ++ errors)) = simp (append_assoc, append-nil) in
    let last : IsBehind errors = file_behind (codes "2>") launch.stderr is.stderr [] is.is_stderr refl in
    let second : IsBehind (is.stdout ++ errors) = file_behind (codes ">") launch.stdout is.stdout errors is.is_stdout last in
    let first : IsBehind (is.stdin ++ (is.stdout ++ errors)) = file_behind (codes "<") launch.stdin is.stdin (is.stdout ++ errors) is.is_stdin second in
    ap (λ x. reads x before_word) (is.joined ∙ same)
    ∙ ap (λ x. reads (x ++ (is.stdin ++ (is.stdout ++ errors))) before_word) is.are_words.2
    ∙ of_texts launch.words is.are_words.0 (is.stdin ++ (is.stdout ++ errors)) is.are_words.1 first
    ∙ ap (λ x. words_marks launch.words ++ x)
    (of_file (codes "<") (arrow_in ∷ []) launch.stdin is.stdin (is.stdout ++ errors) (λ rest. refl) is.is_stdin
    ∙ ap (λ x. in_marks launch.stdin ++ x)
    (of_file (codes ">") (arrow_out ∷ []) launch.stdout is.stdout errors (λ rest. refl) is.is_stdout
    ∙ ap (λ x. out_marks launch.stdout ++ x)
    (of_file (codes "2>") (begin ∷ byte 50 ∷ arrow_out ∷ []) launch.stderr is.stderr [] (λ rest. refl) is.is_stderr ∙ append-nil _)))

-- ---- from marks back

-- bytes with an arrow behind them are no word
abbrev leads_to_arrow : List Mark → Bool
leads_to_arrow [] = false
leads_to_arrow (byte b ∷ marks) = leads_to_arrow marks
leads_to_arrow (arrow_out ∷ marks) = true
leads_to_arrow (arrow_in ∷ marks) = false
leads_to_arrow (begin ∷ marks) = false
leads_to_arrow (gap ∷ marks) = false

abbrev words_in : List Mark → List (List ℕ)
words_in [] = []
words_in (byte b ∷ marks) = words_in marks
words_in (gap ∷ marks) = words_in marks
words_in (begin ∷ marks) = cond (leads_to_arrow marks) [] (bytes_of marks ∷ words_in marks)
words_in (arrow_in ∷ marks) = []
words_in (arrow_out ∷ marks) = []

past_bytes : {A : Type 0} (f : List Mark → A) (word : List ℕ) (rest : List Mark) → ((b : ℕ) (marks : List Mark) → f (byte b ∷ marks) ≡ f marks) → f (map byte word ++ rest) ≡ f rest
past_bytes f [] rest skips = refl
past_bytes f (b ∷ word) rest skips = skips b (map byte word ++ rest) ∙ past_bytes f word rest skips

word_in : (word : List ℕ) (rest : List Mark) → bytes_of rest ≡ [] → leads_to_arrow rest ≡ false → words_in (word_marks word ++ rest) ≡ word ∷ words_in rest
word_in word rest none no_arrow =
    cond-false _ _ _ (past_bytes leads_to_arrow word rest (λ b marks. refl) ∙ no_arrow)
    ∙ ap (λ w. w ∷ words_in (map byte word ++ rest)) (bytes_back word rest none) ∙ ap (λ ws. word ∷ ws) (past_bytes words_in word rest (λ b marks. refl))

words_back : (words : List (List ℕ)) (rest : List Mark) → bytes_of rest ≡ [] → leads_to_arrow rest ≡ false → words_in rest ≡ [] → words_in (words_marks words ++ rest) ≡ words
words_back [] rest none no_arrow no_words = no_words
words_back (w ∷ []) rest none no_arrow no_words = word_in w rest none no_arrow ∙ ap (λ ws. w ∷ ws) no_words
words_back (w ∷ v ∷ words) rest none no_arrow no_words =
    ap words_in (append_assoc (word_marks w) (gap ∷ words_marks (v ∷ words)) rest) ∙ word_in w (gap ∷ (words_marks (v ∷ words) ++ rest)) refl refl
    ∙ ap (λ ws. w ∷ ws) (words_back (v ∷ words) rest none no_arrow no_words)

-- the marks of files hold no word, and begin with none of its bytes
record IsApart (marks : List Mark) : Type 0 where
  none : bytes_of marks ≡ []
  no_arrow : leads_to_arrow marks ≡ false
  no_words : words_in marks ≡ []

apart_err : (name : Option (List ℕ)) → IsApart (err_marks name)
apart_err None = record { none = refl; no_arrow = refl; no_words = refl }
apart_err (Some name) = record { none = refl; no_arrow = refl; no_words = refl }

apart_out : (name : Option (List ℕ)) (rest : List Mark) → IsApart rest → IsApart (out_marks name ++ rest)
apart_out None rest h = h
apart_out (Some name) rest h = record { none = refl; no_arrow = refl; no_words = refl }

apart_in : (name : Option (List ℕ)) (rest : List Mark) → IsApart rest → IsApart (in_marks name ++ rest)
apart_in None rest h = h
apart_in (Some name) rest h = record { none = refl; no_arrow = refl; no_words = refl }

abbrev behind_in : List Mark → Option (List ℕ)
behind_in (arrow_in ∷ marks) = Some (word_of marks)
behind_in marks = None

abbrev file_in : List Mark → Option (List ℕ)
file_in (gap ∷ marks) = behind_in marks
file_in marks = None

abbrev behind_out : List Mark → Option (List ℕ)
behind_out (arrow_out ∷ marks) = Some (word_of marks)
behind_out marks = None

abbrev file_out : List Mark → Option (List ℕ)
file_out (gap ∷ marks) = behind_out marks
file_out marks = None

abbrev file_err : List Mark → Option (List ℕ)
file_err (a ∷ b ∷ c ∷ d ∷ marks) = Some (word_of marks)
file_err marks = None

in_back : (stdin stdout stderr : Option (List ℕ)) → file_in (files_marks stdin stdout stderr) ≡ stdin
in_back (Some name) stdout stderr = ap Some (bytes_back name (out_marks stdout ++ err_marks stderr) (apart_out stdout (err_marks stderr) (apart_err stderr)).none)
in_back None (Some out) stderr = refl
in_back None None (Some errors) = refl
in_back None None None = refl

out_back : (stdout stderr : Option (List ℕ)) → file_out (out_marks stdout ++ err_marks stderr) ≡ stdout
out_back (Some name) stderr = ap Some (bytes_back name (err_marks stderr) (apart_err stderr).none)
out_back None (Some errors) = refl
out_back None None = refl

err_back : (stderr : Option (List ℕ)) → file_err (err_marks stderr) ≡ stderr
err_back (Some name) = ap Some (ap bytes_of (sym (append-nil (map byte name))) ∙ bytes_back name [] refl)
err_back None = refl

all_back : (launch : Launch) → words_in (words_marks launch.words ++ files_marks launch.stdin launch.stdout launch.stderr) ≡ launch.words
all_back launch =
    let files = apart_in launch.stdin _ (apart_out launch.stdout _ (apart_err launch.stderr)) in
    words_back launch.words _ files.none files.no_arrow files.no_words

pub line_once : (launch other : Launch) (line : List ℕ) → IsLineOf launch line → IsLineOf other line → IsSameCommand launch other
line_once launch other line a b =
    let same = sym (of_line launch line a) ∙ of_line other line b in
    let words : launch.words ≡ other.words = sym (all_back launch) ∙ ap words_in same ∙ all_back other in
    let files : files_marks launch.stdin launch.stdout launch.stderr ≡ files_marks other.stdin other.stdout other.stderr =
    append_cancel_left (words_marks other.words) _ _ (ap (λ ws. words_marks ws ++ files_marks launch.stdin launch.stdout launch.stderr) (sym words) ∙ same) in
    let stdin : launch.stdin ≡ other.stdin =
    sym (in_back launch.stdin launch.stdout launch.stderr) ∙ ap file_in files ∙ in_back other.stdin other.stdout other.stderr in
    let results : out_marks launch.stdout ++ err_marks launch.stderr ≡ out_marks other.stdout ++ err_marks other.stderr =
    append_cancel_left (in_marks other.stdin) _ _ (ap (λ f. in_marks f ++ (out_marks launch.stdout ++ err_marks launch.stderr)) (sym stdin) ∙ files) in
    let stdout : launch.stdout ≡ other.stdout = sym (out_back launch.stdout launch.stderr) ∙ ap file_out results ∙ out_back other.stdout other.stderr in
    let errors : err_marks launch.stderr ≡ err_marks other.stderr =
    append_cancel_left (out_marks other.stdout) _ _ (ap (λ f. out_marks f ++ err_marks launch.stderr) (sym stdout) ∙ results) in
    (words, stdin, stdout, sym (err_back launch.stderr) ∙ ap file_err errors ∙ err_back other.stderr)

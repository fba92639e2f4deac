-- What escaping does to a path and to its components.
use Rattle.std.proofs.Common.{◌≡◌, ◌≢◌, ℕ, ◌/◌, ◌%◌, ◌<◌, true, false, cond, ◌&&◌, ◌||◌, ◌==◌, List, [], ◌∷◌, ◌++◌, length, drop, map, All, ⊎_elim, refl, sym, ap, subst, ◌∙◌, arith}
use Rattle.std.specs.Fmt.{digit_glyph}
use Rattle.std.specs.List.{slice_split, onto_first}
use Rattle.std.proofs.lemmas.Bool.{cond-true, cond-false, cases_Bool, cases_eq, eq-eqb, ne_eqb, true≢false}
use Rattle.std.proofs.lemmas.Bool.Decides.{nat_tests}
use Rattle.std.proofs.lemmas.Grind.{flat_map-append}
use Rattle.std.proofs.lemmas.List.Elements.{All-nil, All-cons, All-head, All-tail, All-append, All-weaker}
use Rattle.percent_encoding.specs.Percent.{percent_encode_byte, percent_decode}
use Rattle.percent_encoding.proofs.PercentLemmas.{IsByte, IsEscapeByte, All-percent_encode_byte, percent_decode-nil, percent_decode_not_percent, percent_decode-percent_encode_byte}
use Rattle.url.specs.Path.{dot_len, dot_count, join_segments}
use Rattle.file_values.specs.Location.{stays, escaped}
use Rattle.file_values.specs.Names.{is_slash}
use Rattle.file_values.specs.Laws.{IsPlain}

pub escaped-stays : (b : ℕ) (bs : List ℕ) → stays b ≡ true → escaped (b ∷ bs) ≡ b ∷ escaped bs
escaped-stays b bs e = ap (λ x. x ++ escaped bs) (cond-true _ (b ∷ []) (percent_encode_byte b) e)

pub escaped-escapes : (b : ℕ) (bs : List ℕ) → stays b ≡ false → escaped (b ∷ bs) ≡ percent_encode_byte b ++ escaped bs
escaped-escapes b bs e = ap (λ x. x ++ escaped bs) (cond-false _ (b ∷ []) (percent_encode_byte b) e)

-- reading the escapes gives the bytes back
pub decoded : (bs : List ℕ) → All IsByte bs → percent_decode (escaped bs) ≡ bs
decoded [] small = percent_decode-nil
decoded (b ∷ bs) small =
    let rest = ap (λ x. b ∷ x) (decoded bs (All-tail IsByte b bs small)) in
    ⊎_elim
    (λ e. ap percent_decode (escaped-stays b bs e) ∙ percent_decode_not_percent b (escaped bs) (λ is. true≢false (sym e ∙ ap stays is)) ∙ rest)
    (λ e. ap percent_decode (escaped-escapes b bs e) ∙ percent_decode-percent_encode_byte b (escaped bs) (All-head IsByte b bs small) ∙ rest)
    (cases_Bool (stays b))

-- what holds of each of its bytes that stays, of `%` and of the digits holds of the whole
pub All-escaped : (Q P : ℕ → Type 0) (bs : List ℕ) → All Q bs → ((b : ℕ) → Q b → stays b ≡ true → P b) → ((b : ℕ) → IsEscapeByte b → P b) → All P (escaped bs)
All-escaped Q P [] all kept escape = All-nil P
All-escaped Q P (b ∷ bs) all kept escape =
    let rest = All-escaped Q P bs (All-tail Q b bs all) kept escape in
    ⊎_elim
    (λ e. subst (All P) (sym (escaped-stays b bs e)) (All-cons P b (escaped bs) (kept b (All-head Q b bs all) e) rest))
    (λ e. subst (All P) (sym (escaped-escapes b bs e)) (All-append P (percent_encode_byte b) (escaped bs) (All-weaker IsEscapeByte P escape (percent_encode_byte b) (All-percent_encode_byte b)) rest))
    (cases_Bool (stays b))

pub escaped_nonempty : (b : ℕ) (bs : List ℕ) → 0 < length (escaped (b ∷ bs))
unfolding percent_encode_byte
escaped_nonempty b bs =
    ⊎_elim
    (λ e. subst (λ xs. 0 < length xs) (sym (escaped-stays b bs e)) (omega arith))
    (λ e. subst (λ xs. 0 < length xs) (sym (escaped-escapes b bs e)) (omega arith))
    (cases_Bool (stays b))

-- ---- components

-- the components, each after a slash, are a slash and what was cut
onto-joined : (b : ℕ) (parts : List (List ℕ)) (bs : List ℕ) → join_segments parts ≡ 47 ∷ bs → join_segments (onto_first b parts) ≡ 47 ∷ b ∷ bs
onto-joined b [] bs e = cc
onto-joined b (p ∷ ps) bs e = ap (λ x. 47 ∷ b ∷ x) (ap (drop 1) e)

pub joined_parts : (bs : List ℕ) → join_segments (slice_split is_slash bs) ≡ 47 ∷ bs
joined_parts [] = refl
joined_parts (b ∷ bs) =
    ⊎_elim
    (λ is. ap join_segments (cond-true _ ([] ∷ slice_split is_slash bs) (onto_first b (slice_split is_slash bs)) (eq-eqb b 47 is)) ∙ ap (λ x. 47 ∷ x) (joined_parts bs) ∙ ap (λ x. 47 ∷ x ∷ bs) (sym is))
    (λ other. ap join_segments (cond-false _ ([] ∷ slice_split is_slash bs) (onto_first b (slice_split is_slash bs)) (ne_eqb b 47 other)) ∙ onto-joined b (slice_split is_slash bs) bs (joined_parts bs))
    (cases_eq b 47)

-- what holds of all bytes holds of those of each component
onto-all : (P : ℕ → Type 0) (b : ℕ) (parts : List (List ℕ)) → P b → All (All P) parts → All (All P) (onto_first b parts)
onto-all P b [] here all = All-cons (All P) (b ∷ []) [] (All-cons P b [] here (All-nil P)) (All-nil (All P))
onto-all P b (p ∷ ps) here all =
    All-cons (All P) (b ∷ p) ps (All-cons P b p here (All-head (All P) p ps all)) (All-tail (All P) p ps all)

pub All-parts : (P : ℕ → Type 0) (bs : List ℕ) → All P bs → All (All P) (slice_split is_slash bs)
All-parts P [] all = All-cons (All P) [] [] (All-nil P) (All-nil (All P))
All-parts P (b ∷ bs) all =
    let rest = All-parts P bs (All-tail P b bs all) in
    ⊎_elim
    (λ is. subst (All (All P)) (sym (cond-true _ ([] ∷ slice_split is_slash bs) (onto_first b (slice_split is_slash bs)) is)) (All-cons (All P) [] (slice_split is_slash bs) (All-nil P) rest))
    (λ other. subst (All (All P)) (sym (cond-false _ ([] ∷ slice_split is_slash bs) (onto_first b (slice_split is_slash bs)) other)) (onto-all P b (slice_split is_slash bs) (All-head P b bs all) rest))
    (cases_Bool (is_slash b))

-- no component has a slash
abbrev pub IsNoSlash : ℕ → Type 0
IsNoSlash b = is_slash b ≡ false

pub whole_parts : (bs : List ℕ) → All (All IsNoSlash) (slice_split is_slash bs)
whole_parts [] = All-cons (All IsNoSlash) [] [] (All-nil IsNoSlash) (All-nil (All IsNoSlash))
whole_parts (b ∷ bs) =
    ⊎_elim
    (λ is. subst (All (All IsNoSlash)) (sym (cond-true _ ([] ∷ slice_split is_slash bs) (onto_first b (slice_split is_slash bs)) is)) (All-cons (All IsNoSlash) [] (slice_split is_slash bs) (All-nil IsNoSlash) (whole_parts bs)))
    (λ other. subst (All (All IsNoSlash)) (sym (cond-false _ ([] ∷ slice_split is_slash bs) (onto_first b (slice_split is_slash bs)) other)) (onto-all IsNoSlash b (slice_split is_slash bs) other (whole_parts bs)))
    (cases_Bool (is_slash b))

pub escaped-join : (parts : List (List ℕ)) → escaped (join_segments parts) ≡ join_segments (map escaped parts)
escaped-join [] = refl
escaped-join (p ∷ ps) =
    flat_map-append (λ b. cond (stays b) (b ∷ []) (percent_encode_byte b)) (47 ∷ p) (join_segments ps) ∙ ap (λ x. (47 ∷ escaped p) ++ x) (escaped-join ps)

-- ---- dots

-- an escape reads as no dot, since a dot stays
escape_no_dot : (b : ℕ) (rest : List ℕ) → b < 256 → b ≢ 46 → dot_len (percent_encode_byte b ++ rest) ≡ 0
unfolding percent_encode_byte
escape_no_dot b rest byte other =
    let never : (digit_glyph true (b / 16 % 16) == 50 && (digit_glyph true (b % 16) == 101 || digit_glyph true (b % 16) == 69)) ≡ false = grind (arith, nat_tests) in
    cond-false _ 3 0 never

no_dot : (b : ℕ) (bs : List ℕ) → b < 256 → b ≢ 46 → dot_len (escaped (b ∷ bs)) ≡ 0
no_dot b bs byte other =
    ⊎_elim
    (λ e.
    let percent : (b == 37) ≡ false = ne_eqb b 37 (λ is. true≢false (sym e ∙ ap stays is)) in
    ap dot_len (escaped-stays b bs e) ∙ cond-false _ _ _ (ne_eqb b 46 other) ∙ rw percent refl)
    (λ e. ap dot_len (escaped-escapes b bs e) ∙ escape_no_dot b (escaped bs) byte other)
    (cases_Bool (stays b))

no_dots_from : (xs : List ℕ) → dot_len xs ≡ 0 → dot_count xs ≡ 0
unfolding dot_count
no_dots_from xs none = rw none

-- a dot, and then what is neither nothing nor a dot
one_dot : (xs : List ℕ) → 0 < length xs → (dot_len xs == length xs) ≡ false → dot_count (46 ∷ xs) ≡ 0
unfolding dot_count
one_dot xs some other = cond-false _ _ _ (ne_eqb (length xs) 0 (λ is. absurd (omega arith))) ∙ cond-false _ _ _ other

long_from : (cs : List ℕ) → 0 < length cs → 0 < length (escaped cs)
long_from [] none = absurd (omega arith)
long_from (d ∷ ds) some = escaped_nonempty d ds

two : (c : ℕ) (cs : List ℕ) → c < 256 → (c ≡ 46 → 0 < length cs) → (dot_len (escaped (c ∷ cs)) == length (escaped (c ∷ cs))) ≡ false
two c cs byte more =
    let some = escaped_nonempty c cs in
    ⊎_elim
    (λ is.
    let long : 0 < length (escaped cs) = long_from cs (more is) in
    let same : ℕ → Type 0 = λ x. (dot_len (escaped (x ∷ cs)) == length (escaped (x ∷ cs))) ≡ false in
    subst same (sym is) (ne_eqb 1 (length (46 ∷ escaped cs)) (λ e. absurd (omega arith))))
    (λ other.
    let none = no_dot c cs byte other in
    ne_eqb _ _ (λ e. absurd (omega arith)))
    (cases_eq c 46)

more_from : (cs : List ℕ) → (cs ≡ [] → ⊥) → 0 < length cs
more_from [] nonempty = absurd (nonempty refl)
more_from (d ∷ ds) nonempty = omega arith

pub no_dots : (s : List ℕ) → All IsByte s → IsPlain s → dot_count (escaped s) ≡ 0
no_dots [] small plain = no_dots_from [] refl
no_dots (b ∷ []) small plain =
    ⊎_elim
    (λ is. absurd (plain.0 (ap (λ x. x ∷ []) is)))
    (λ other. no_dots_from _ (no_dot b [] (All-head IsByte b [] small) other))
    (cases_eq b 46)
no_dots (b ∷ c ∷ cs) small plain =
    let tail = All-tail IsByte b (c ∷ cs) small in
    ⊎_elim
    (λ is.
    let more : c ≡ 46 → 0 < length cs = λ dot. more_from cs (λ empty. plain.1 (ap (λ x. x ∷ c ∷ cs) is ∙ ap (λ x. 46 ∷ x ∷ cs) dot ∙ ap (λ x. 46 ∷ 46 ∷ x) empty)) in
    ap (λ x. dot_count (escaped (x ∷ c ∷ cs))) is ∙ one_dot (escaped (c ∷ cs)) (escaped_nonempty c cs) (two c cs (All-head IsByte c cs tail) more))
    (λ other. no_dots_from _ (no_dot b (c ∷ cs) (All-head IsByte b (c ∷ cs) small) other))
    (cases_eq b 46)

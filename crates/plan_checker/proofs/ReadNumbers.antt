use Rattle.std.proofs.Common.{◌≡◌, ◌≢◌, ℕ, ◌<◌, ◌^◌, List, [], ◌∷◌, ◌++◌, length, get_or, All, Result, Ok, Err, sym, ap, ◌∙◌, subst, arith}
use Rattle.std.specs.Prelude.{MatchResult}
use Rattle.std.specs.Fmt.{decimal}
use Rattle.std.specs.Char.{IsAsciiDigit}
use Rattle.std.specs.Str.{IsUtf8}
use Rattle.std.specs.Str.Parse.{AllDigits, digits_value, ParsesUnsigned}
use Rattle.std.proofs.lemmas.Fmt.{decimal_is_IsNumeral, decimal_digit, first_decimal, decimal-digits_value, IsAscii-decimal}
use Rattle.std.proofs.lemmas.Str.{IsUtf8-from_ascii}
use Rattle.std.proofs.lemmas.Str.Parse.{digit_from_value, IsNumeralModel, numerals_by_value, tells_digits, parse_plain}
use Rattle.std.proofs.lemmas.List.Elements.{All-head, All-tail}
use Rattle.std.proofs.lemmas.Bool.{cases_lt}
use Rattle.std.proofs.Common.{⊎_elim}
use Rattle.plan_checker.specs.Format.{IsSmall}
use Rattle.plan_checker.specs.inner.Reading.{EndsNumber, BeginsWithNumber, NoNumber}
use Rattle.plan_checker.proofs.Numbers.{digits_once}

own : IsNumeralModel (AllDigits 10) (digits_value 10)
own = numerals_by_value (AllDigits 10) tells_digits

all_digits : (ds : List ℕ) → All IsAsciiDigit ds → AllDigits 10 ds
all_digits [] h = tt
all_digits (d ∷ ds) h = tells_digits.more d ds (All-head IsAsciiDigit d ds h) (all_digits ds (All-tail IsAsciiDigit d ds h))

-- what `parse` answers where there is no sign and no leading zero
pub parsed : {E : Type 0} (bs : List ℕ) (r : Result ℕ E) → get_or bs 0 0 ≢ 43 → (get_or bs 0 0 ≡ 48 → length bs ≡ 1) → ParsesUnsigned 64 10 bs r → MatchResult r (λ n. bs ≡ decimal n) (λ e. (n : ℕ) → IsSmall n → bs ≢ decimal n)
parsed {E} bs (Ok x) plus zeros h =
    let k = parse_plain own {E = E} 64 bs (Ok x) h plus in
    sym (decimal-digits_value own bs k.0.0 k.0.1 zeros k.0.2) ∙ ap decimal (sym k.1)
parsed {E} bs (Err e) plus zeros h =
    λ n small is.
    let numeral = decimal_is_IsNumeral n small in
    let digits : AllDigits 10 bs = subst (AllDigits 10) (sym is) numeral.0.1 in
    let some : 0 < length bs = let l : length bs ≡ length (decimal n) = ap length is in omega (arith, numeral.0.0) in
    let value : digits_value 10 bs < 2 ^ 64 = let v : digits_value 10 bs ≡ n = ap (digits_value 10) is ∙ numeral.1 in omega (arith, v, small) in
    parse_plain own {E = E} 64 bs (Err e) h plus (digits, some, value)

pub none_empty : (ds : List ℕ) (n : ℕ) → length ds ≡ 0 → IsSmall n → ds ≢ decimal n
none_empty ds n empty small is =
    let same : length ds ≡ length (decimal n) = ap (λ (t : List ℕ). length t) is in
    absurd (omega (arith, same, empty, (decimal_is_IsNumeral n small).0.0))

first_digit : (ds : List ℕ) → AllDigits 10 ds → get_or ds 0 0 ≢ 43
first_digit [] h e = absurd (omega arith)
first_digit (d ∷ ds) h e = let range = digit_from_value d h.0 in absurd (omega (arith, range.0, e))

-- a number does not begin with a plus
pub none_plus : (ds : List ℕ) (n : ℕ) → get_or ds 0 0 ≡ 43 → IsSmall n → ds ≢ decimal n
none_plus ds n plus small is =
    first_digit (decimal n) (decimal_is_IsNumeral n small).0.1 (ap (λ (t : List ℕ). get_or t 0 0) (sym is) ∙ plus)

pub zero_alone : (ds : List ℕ) → get_or ds 0 0 ≡ 48 → length ds ≡ 1 → ds ≡ decimal 0
zero_alone [] z one = absurd (omega arith)
zero_alone (d ∷ []) z one = ap (λ x. x ∷ []) z ∙ sym (decimal_digit 0 (omega arith))
zero_alone (d ∷ e ∷ ds) z one = absurd (omega arith)

-- a zero is a number alone
pub none_padded : (ds : List ℕ) (n : ℕ) → get_or ds 0 0 ≡ 48 → length ds ≢ 1 → IsSmall n → ds ≢ decimal n
none_padded ds n z more small is =
    ⊎_elim (λ positive.
    let first : 48 < get_or (decimal n) 0 0 = first_decimal n positive small in
    let head : get_or ds 0 0 ≡ get_or (decimal n) 0 0 = ap (λ (t : List ℕ). get_or t 0 0) is in
    absurd (omega (arith, first, head, z)))
    (λ none.
    let one : length (decimal n) ≡ 1 = ap (λ (t : List ℕ). length t) (decimal_digit n (omega arith)) in
    more (ap (λ (t : List ℕ). length t) is ∙ one))
    (cases_lt 0 n)

-- a number's text is UTF-8
pub no_utf8 : (bs : List ℕ) → ¬ IsUtf8 bs → (n : ℕ) → IsSmall n → bs ≢ decimal n
no_utf8 bs bad n small is = bad (subst IsUtf8 (sym is) (IsUtf8-from_ascii (decimal n) (IsAscii-decimal n small)))

pub no_space : (text start : List ℕ) → start ≡ 32 ∷ [] → ((x : List ℕ) → text ≢ start ++ x) → NoNumber text
no_space text start s none n rest other = none (decimal n ++ rest) (other.begins ∙ ap (λ t. t ++ (decimal n ++ rest)) (sym s))

pub no_digits : (text start t ds rest : List ℕ) → start ≡ 32 ∷ [] → text ≡ start ++ t → t ≡ ds ++ rest → All IsAsciiDigit ds → EndsNumber rest → ((n : ℕ) → IsSmall n → ds ≢ decimal n) → NoNumber text
no_digits text start t ds rest s begins parts digits ends none n more other =
    let whole : 32 ∷ t ≡ (32 ∷ decimal n) ++ more = sym (begins ∙ ap (λ x. x ++ t) s) ∙ other.begins in
    let tail : t ≡ decimal n ++ more = cc in
    let both = digits_once ds (decimal n) rest more (all_digits ds digits) (decimal_is_IsNumeral n other.small).0.1 ends other.ends (sym parts ∙ tail) in
    none n other.small both.0

pub number_read : (text start t ds rest : List ℕ) (n : ℕ) → start ≡ 32 ∷ [] → text ≡ start ++ t → t ≡ ds ++ rest → ds ≡ decimal n → IsSmall n → EndsNumber rest → BeginsWithNumber text n rest
number_read text start t ds rest n s starts parts is small ends = record {
  small = small;
  ends = ends;
  begins = starts ∙ ap (λ x. x ++ t) s ∙ ap (λ x. 32 ∷ x) (parts ∙ ap (λ d. d ++ rest) is);
}

-- Each path from the root has a URL.
use Rattle.std.proofs.Common.{◌≡◌, ◌≢◌, ◌⊎◌, ℕ, ◌-◌, ◌<◌, ◌≤◌, true, false, not, List, [], ◌∷◌, ◌++◌, length, get_or, All, codes, None, Ok, refl, sym, ap, ◌∙◌, arith, take_all}
use Rattle.std.specs.List.{slice_split, suffix_len}
use Rattle.std.proofs.lemmas.Bool.{cond_both, cond-true, true≢false}
use Rattle.std.proofs.lemmas.Bool.Decides.{nat_tests}
use Rattle.std.proofs.lemmas.List.Elements.{All-append, All-cons, All-filter, All-from_recursion, All-head, All-nil, All-tail, All-weaker}
use Rattle.std.proofs.lemmas.List.Sums.{suffix_len_is}
use Rattle.url.specs.declared.host.Host.TheVariants.{Domain}
use Rattle.url.specs.declared.scheme.SchemeType.TheVariants.{File}
use Rattle.url.specs.Host.{parse_file_host}
use Rattle.url.specs.Input.{is_c0_control_or_space, is_tab_or_new_line, strip_tabs_and_new_lines, trim_c0_control_and_space, split_once}
use Rattle.url.specs.Parser.{after_file_double_slash, and_then, before_tail, file_with_host, leading_slashes, parse_body, parse_by_scheme, parse_file, parse_parts, parse_url, split_scheme, with_path, with_tail}
use Rattle.url.specs.Parts.{Parts}
use Rattle.url.specs.Path.{is_windows_drive_letter, parse_path_start}
use Rattle.url.specs.Scheme.{is_file}
use Rattle.url.proofs.InputLemmas.{IsNot, Passes, filter_all, split_once_none}
use Rattle.url.proofs.RoundTrip.{split_own_scheme}
use Rattle.url.proofs.SchemeLemmas.{IsScheme_file, scheme_type_file}
use Rattle.file_values.specs.Location.{escaped, is_absolute, location_of, stays}
use Rattle.file_values.specs.Names.{is_slash}
use Rattle.file_values.proofs.Escapes.{All-escaped, All-parts}
use Rattle.run_given.specs.Paths.{HasUrl, from_root, leads_on, rooted, steps}

abbrev pub IsByte : ℕ → Type 0
IsByte b = b < 256

-- `%` and the digits of an escape
abbrev IsEscapeByte : ℕ → Type 0
IsEscapeByte b = (b ≡ 37) ⊎ (((48 ≤ b) × (b ≤ 57)) ⊎ ((65 ≤ b) × (b ≤ 70)))

-- what a URL's parser neither cuts off nor cuts at
abbrev IsWhole : ℕ → Type 0
IsWhole b = (33 ≤ b) × (b ≢ 35) × (b ≢ 63)

whole : (b : ℕ) → IsByte b → stays b ≡ true → IsWhole b
whole b byte passes =
    (grind (arith, nat_tests), λ is. true≢false (sym passes ∙ ap stays is), λ is. true≢false (sym passes ∙ ap stays is))

whole_escape : (b : ℕ) → IsEscapeByte b → IsWhole b
whole_escape b h = (grind arith, λ is. grind arith, λ is. grind arith)

known : (b : ℕ) → 33 ≤ b → b ≢ 35 → b ≢ 63 → IsWhole b
known b p q r = (p, q, r)

whole_text : (path : List ℕ) → All IsByte path → All IsWhole (location_of path)
whole_text path small =
    All-append IsWhole (codes "file://") (escaped path)
    (All-from_recursion IsWhole (codes "file://") (
      known 102 (omega arith) (λ e. omega arith) (λ e. omega arith),
      (
        known 105 (omega arith) (λ e. omega arith) (λ e. omega arith),
        (
          known 108 (omega arith) (λ e. omega arith) (λ e. omega arith),
          (
            known 101 (omega arith) (λ e. omega arith) (λ e. omega arith),
            (
              known 58 (omega arith) (λ e. omega arith) (λ e. omega arith),
              (
                known 47 (omega arith) (λ e. omega arith) (λ e. omega arith),
                (
                  known 47 (omega arith) (λ e. omega arith) (λ e. omega arith),
                  tt,
                ),
              ),
            ),
          ),
        ),
      ),
    ))
    (All-escaped IsByte IsWhole path small whole whole_escape)

-- nothing is cut off at either end
untrimmed : (rest : List ℕ) → All IsWhole (102 ∷ rest) → trim_c0_control_and_space (102 ∷ rest) ≡ 102 ∷ rest
unfolding trim_c0_control_and_space
untrimmed rest all =
    let xs = 102 ∷ rest in
    let seen = all (length xs - 1) 0 (omega arith) in
    let last : 0 < length xs → is_c0_control_or_space (get_or xs (length xs - 1) 0) ≡ false = λ some. grind (arith, nat_tests) in
    let e = suffix_len_is is_c0_control_or_space xs (length xs) 0 (omega arith) (λ k low high. absurd (omega arith)) last in
    take_all (length xs - suffix_len is_c0_control_or_space xs) xs (omega (arith, e))

-- and nothing within
unstripped : (xs : List ℕ) → All IsWhole xs → strip_tabs_and_new_lines xs ≡ xs
unfolding strip_tabs_and_new_lines
unstripped xs all =
    let stays_in = λ (b : ℕ). not (is_tab_or_new_line b) in
    filter_all stays_in xs (All-weaker IsWhole (Passes stays_in) (λ b h. grind (arith, nat_tests)) xs all)

-- the path after the two slashes
abbrev url_at : List ℕ → Parts
url_at path = with_path (file_with_host (Domain [])) (parse_path_start File [] path)

after_none : after_file_double_slash [] ≡ Ok (url_at [])
unfolding after_file_double_slash is_windows_drive_letter parse_file_host
after_none = refl

after_slash : (rest : List ℕ) → after_file_double_slash (47 ∷ rest) ≡ Ok (url_at (47 ∷ rest))
unfolding after_file_double_slash is_windows_drive_letter parse_file_host
after_slash rest = refl

-- the text of a URL of files
body : (path : List ℕ) (url : Parts) → after_file_double_slash path ≡ Ok url → parse_body (codes "file") None (47 ∷ 47 ∷ path) ≡ Ok url
unfolding parse_body parse_file leading_slashes
body path url after = cond-true _ _ _ (ap is_file scheme_type_file) ∙ after

parsed : (path : List ℕ) (url : Parts) → All IsWhole (codes "file://" ++ path) → after_file_double_slash path ≡ Ok url
    → parse_url None (codes "file://" ++ path) ≡ Ok (with_tail (before_tail url None None) None None)
unfolding parse_url parse_parts
parsed path url all after =
    let text = codes "file://" ++ path in
    let clean = ap strip_tabs_and_new_lines (untrimmed _ all) ∙ unstripped text all in
    let hash = ap (split_once 35) clean ∙ split_once_none 35 text (All-weaker IsWhole (IsNot 35) (λ b h. h.1) text all) in
    let question = ap (λ r. split_once 63 r.0) hash ∙ split_once_none 63 text (All-weaker IsWhole (IsNot 63) (λ b h. h.2) text all) in
    let scheme = ap (λ r. split_scheme r.0) question ∙ split_own_scheme (codes "file") (47 ∷ 47 ∷ path) IsScheme_file in
    (λ i. parse_by_scheme (scheme i) None (question i).0 (question i).1 (hash i).1)
    ∙ ap (λ r. and_then r (λ u. Ok (with_tail (before_tail u None None) None None))) (body path url after)

from_slash : (rest : List ℕ) → All IsByte (47 ∷ rest) → HasUrl (47 ∷ rest)
from_slash rest small = (_, parsed (escaped (47 ∷ rest)) _ (whole_text (47 ∷ rest) small) (after_slash (escaped rest)))

rooted_bytes : (components : List (List ℕ)) → All (All IsByte) components → All IsByte (rooted components)
rooted_bytes [] small = All-nil IsByte
rooted_bytes (c ∷ components) small =
    All-append IsByte (47 ∷ c) (rooted components) (All-cons IsByte 47 c (omega arith) (All-head (All IsByte) c components small)) (rooted_bytes components (All-tail (All IsByte) c components small))

rooted_url : (components : List (List ℕ)) → All (All IsByte) components → HasUrl (rooted components)
rooted_url [] small = (_, parsed [] _ (whole_text [] (All-nil IsByte)) after_none)
rooted_url (c ∷ components) small = from_slash (c ++ rooted components) (rooted_bytes (c ∷ components) small)

steps_bytes : (path : List ℕ) → All IsByte path → All (All IsByte) (steps path)
steps_bytes path small = All-filter leads_on (All IsByte) (slice_split is_slash path) (All-parts IsByte path small)

pub from_root_url : (here name : List ℕ) → All IsByte here → All IsByte name → HasUrl (from_root here name)
from_root_url here name small_here small_name =
    let start = cond_both (is_absolute name) [] (steps here) (All (All IsByte)) (λ is. All-nil (All IsByte)) (λ other. steps_bytes here small_here) in
    rooted_url _ (All-append (All IsByte) _ (steps name) start (steps_bytes name small_name))

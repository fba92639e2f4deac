-- A path's location is the text of a URL whose path is the escaped one, so the URL Standard's parser gives that URL.
use Rattle.std.proofs.Common.{◌≡◌, ◌≢◌, ℕ, ◌<◌, true, false, ◌==◌, List, [], ◌∷◌, ◌++◌, length, get_or, drop, map, codes, All, Some, None, Ok, inl, inr, refl, sym, ap, subst, ◌∙◌, arith, append-nil, IsUtf8, lit<}
use Rattle.std.specs.List.{slice_split}
use Rattle.std.proofs.lemmas.Bool.{eq-eqb, cond-true, true≢false}
use Rattle.std.proofs.lemmas.Bool.Decides.{nat_tests}
use Rattle.std.proofs.lemmas.List.Elements.{All-nil, All-cons, All-tail, All-map, All-take, All-drop}
use Rattle.std.proofs.lemmas.Str.{is_utf8-from_IsUtf8}
use Rattle.percent_encoding.specs.Percent.{IsKept}
use Rattle.percent_encoding.proofs.PercentLemmas.{IsByte, IsEscapeByte}
use Rattle.url.specs.declared.sets.TheConstants.{PATH, USERINFO}
use Rattle.url.specs.declared.host.Host.TheVariants.{Domain}
use Rattle.url.specs.declared.scheme.SchemeType.TheVariants.{File}
use Rattle.url.specs.Scheme.{is_slash as is_url_slash}
use Rattle.url.specs.Host.{IsHostOf}
use Rattle.url.specs.Path.{is_windows_drive_letter, segment_len, IsSegment, IsSegmentList}
use Rattle.url.specs.Parts.{Parts, serialize, IsValid, IsValidHead}
use Rattle.url.specs.Parser.{parse_url}
use Rattle.url.specs.Canonical.{IsCanonical, IsCanonicalAs, first_segment}
use Rattle.url.proofs.SchemeLemmas.{IsScheme_file, scheme_type_file}
use Rattle.url.proofs.SetterLemmas.{empty_domain}
use Rattle.url.proofs.SetLemmas.{kept_from_passes}
use Rattle.url.proofs.Theorems.{parse_url-serialize}
use Rattle.file_values.specs.Location.{stays, escaped, location_of, located, path_of, names_a_file, text_of, if_parsed, and_then}
use Rattle.file_values.specs.Names.{is_slash}
use Rattle.file_values.specs.Laws.{IsPlain, IsPlainPath, components}
use Rattle.file_values.proofs.Escapes.{All-escaped, decoded, joined_parts, whole_parts, escaped-join, no_dots, All-parts, IsNoSlash}

-- the URL of a file with this path, escaped
abbrev pub file_url : List ℕ → Parts
file_url path = record {
  scheme = codes "file";
  username = [];
  password = [];
  host = Some (Domain []);
  port = None;
  path = path;
  query = None;
  fragment = None;
}

-- ---- the bytes of an escaped path

kept : (b : ℕ) → IsByte b → stays b ≡ true → IsKept PATH b
kept b byte passes =
    let ascii : b < 128 = grind (arith, nat_tests) in
    kept_from_passes stays PATH refl b ascii passes

kept_escape : (b : ℕ) → IsEscapeByte b → IsKept PATH b
kept_escape b (inl is) = kept_from_passes (λ x. x == 37) PATH refl b (omega arith) (eq-eqb b 37 is)
kept_escape b (inr (inl digit)) = kept b (omega arith) (grind (arith, nat_tests))
kept_escape b (inr (inr letter)) = kept b (omega arith) (grind (arith, nat_tests))

-- a drive letter has one of these second
abbrev IsNoMark : ℕ → Type 0
IsNoMark b = (b ≢ 58) × (b ≢ 124)

no_mark : (b : ℕ) → IsByte b → stays b ≡ true → IsNoMark b
no_mark b byte passes = (λ is. true≢false (sym passes ∙ ap stays is), λ is. true≢false (sym passes ∙ ap stays is))

no_mark_escape : (b : ℕ) → IsEscapeByte b → IsNoMark b
no_mark_escape b h = (λ is. grind arith, λ is. grind arith)

-- neither slash of a URL of files
abbrev IsInside : ℕ → Type 0
IsInside b = is_url_slash File b ≡ false

inside : (b : ℕ) → IsNoSlash b → stays b ≡ true → IsInside b
inside b other passes =
    let backslash : b ≢ 92 = λ is. true≢false (sym passes ∙ ap stays is) in
    grind (arith, nat_tests)

inside_escape : (b : ℕ) → IsEscapeByte b → IsInside b
inside_escape b h = grind (arith, nat_tests)

-- ---- the URL

segment : (s : List ℕ) → All IsByte s → All IsNoSlash s → IsPlain s → IsSegment File (escaped s)
segment s small whole plain = record {
  escaped = All-escaped IsByte (IsKept PATH) s small kept kept_escape;
  whole = All-escaped IsNoSlash IsInside s whole inside inside_escape;
  resolved = no_dots s small plain;
}

segments : (rest : List ℕ) → All IsByte rest → All IsPlain (slice_split is_slash rest) → IsSegmentList File (escaped (47 ∷ rest))
segments rest small plain =
    let parts = slice_split is_slash rest in
    record {
      segments = map escaped parts;
      joined = ap escaped (sym (joined_parts rest)) ∙ escaped-join parts;
      each = All-map (IsSegment File) escaped parts (λ k d within. segment (get_or parts k d) (All-parts IsByte rest small k d within) (whole_parts rest k d within) (plain k d within));
    }

valid_head : (path : List ℕ) → IsValidHead (file_url path)
valid_head path = record {
  scheme = IsScheme_file;
  username = All-nil (IsKept USERINFO);
  password = All-nil (IsKept USERINFO);
  host = subst (λ k. IsHostOf k (Domain [])) (sym scheme_type_file) empty_domain;
  port = tt;
  bare = λ _. (refl, refl, refl);
}

valid : (path : List ℕ) → IsSegmentList File path → 0 < length path → IsValid (file_url path)
valid path list some = record {
  head = valid_head path;
  path = inl (subst (λ k. IsSegmentList k path) (sym scheme_type_file) list, λ _. some);
  query = tt;
  fragment = tt;
}

no_drive : (s : List ℕ) → All IsNoMark s → is_windows_drive_letter s ≡ true → get_or s 1 0 ≡ 58
unfolding is_windows_drive_letter
no_drive s marks drive =
    let two : length s ≡ 2 = grind (arith, nat_tests) in
    let second = marks 1 0 (omega arith) in
    grind (arith, nat_tests)

canonical : (path : List ℕ) → All IsNoMark path → IsCanonical (file_url path)
canonical path marks =
    let first = All-take IsNoMark (segment_len File (drop 1 path)) (drop 1 path) (All-drop IsNoMark 1 path marks) in
    subst (λ k. IsCanonicalAs k (file_url path)) (sym scheme_type_file) (record { host = λ e. cc; drive = no_drive (first_segment File path) first })

spelled : (path : List ℕ) → serialize (file_url path) ≡ codes "file://" ++ path
spelled path = ap (λ x. codes "file://" ++ x) (append-nil path)

parsed : (base : Parts) (rest : List ℕ) → All IsByte rest → All IsPlain (slice_split is_slash rest) → parse_url (Some base) (location_of (47 ∷ rest)) ≡ Ok (file_url (escaped (47 ∷ rest)))
parsed base rest small plain =
    let path = escaped (47 ∷ rest) in
    let marks = All-escaped IsByte IsNoMark (47 ∷ rest) (All-cons IsByte 47 rest (lit< tt) small) no_mark no_mark_escape in
    ap (parse_url (Some base)) (sym (spelled path))
    ∙ parse_url-serialize (file_url path) (Some base) (valid path (segments rest small plain) (omega arith)) (canonical path marks)

named : (path : List ℕ) → All IsByte path → IsUtf8 path → path_of (file_url (escaped path)) ≡ Ok path
named path small text =
    let names : names_a_file (file_url (escaped path)) ≡ true = rw scheme_type_file refl in
    cond-true _ _ _ names ∙ ap text_of (decoded path small) ∙ cond-true _ _ _ (is_utf8-from_IsUtf8 path text)

-- a plain path's location names that path, on any base
pub there_and_back : (base : Parts) (path : List ℕ) → All IsByte path → IsUtf8 path → IsPlainPath path → located base (location_of path) ≡ Ok path
there_and_back base [] small text plain = absurd (let zero = plain.absolute in omega arith)
there_and_back base (b ∷ rest) small text plain =
    let is : 47 ≡ b = sym plain.absolute in
    let tail = All-tail IsPlain [] (slice_split is_slash rest) (subst (λ x. All IsPlain (components (x ∷ rest))) (sym is) plain.plain) in
    let slashed = parsed base rest (All-tail IsByte b rest small) tail in
    let whole = ap (parse_url (Some base)) (ap (λ x. location_of (x ∷ rest)) (sym is)) ∙ slashed ∙ ap (λ x. Ok (file_url (escaped (x ∷ rest)))) is in
    ap (λ r. and_then (if_parsed r) path_of) whole ∙ named (b ∷ rest) small text

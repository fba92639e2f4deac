-- Paths by their last component, and names in one folder.
use Rattle.std.proofs.Common.{◌≡◌, ℕ, zero, suc, ◌+◌, ◌-◌, ◌<◌, ◌≤◌, Bool, true, false, true≢false, not, ◌||◌, IsTrue, [], ◌∷◌, ◌++◌, length, length-append, get_or, take, drop, refl, sym, ap, ◌∙◌, take_at, drop_at, append_assoc, subst, List, arith}
use Rattle.std.specs.Prelude.{bytes_eq, codes}
use Rattle.std.specs.Cmp.Lexicographic.{slice_cmp}
use Rattle.std.specs.List.{list_any, suffix_len, before_last, slice_split, join_with_byte, AllPass}
use Rattle.std.specs.Ordering.{nat_cmp, ordering_then}
use Rattle.std.proofs.lemmas.Cmp.{nat_cmp_total, tied_itself}
use Rattle.std.proofs.lemmas.List.{get_or-append-add, length_push}
use Rattle.std.proofs.lemmas.List.Elements.{All-head, All-tail}
use Rattle.std.proofs.lemmas.List.Splits.{join_with_byte-slice_split, length-slice_split}
use Rattle.std.proofs.lemmas.List.Sums.{suffix_len_is, AllPass-from_list_all}
use Rattle.std.proofs.lemmas.Slice.Eq.{bytes_eq-Decides}
use Rattle.std.proofs.Math.Seq.{get_or-append_seam}
use Rattle.plain_data.specs.ByName.{name_cmp}
use Rattle.cwl_value.specs.Reading.{is_name}
use Rattle.collected_outputs.specs.Listing.{is_path}
use Rattle.collected_outputs.specs.Matched.{Name}
use Rattle.collected_outputs.specs.Values.{is_slash, basename_of, stands_in}

-- ---- names

none_of : (a b c d : Bool) → not (((a || b) || c) || d) ≡ true → d ≡ false
none_of true b c d h = absurd (true≢false (sym h))
none_of false true c d h = absurd (true≢false (sym h))
none_of false false true d h = absurd (true≢false (sym h))
none_of false false false true h = absurd (true≢false (sym h))
none_of false false false false h = refl

pub unslashed : (name : Name) → IsTrue (is_name name) → list_any is_slash name ≡ false
unslashed name is = none_of (bytes_eq name []) (bytes_eq name (codes ".")) (bytes_eq name (codes "..")) (list_any is_slash name) is

first_or : (a b : Bool) → (a || b) ≡ false → (a ≡ false) × (b ≡ false)
first_or true b h = absurd (true≢false h)
first_or false b h = (refl, h)

at_each : (name : Name) → list_any is_slash name ≡ false → (k : ℕ) → k < length name → is_slash (get_or name k 0) ≡ false
at_each [] none k within = absurd (omega arith)
at_each (c ∷ cs) none zero within = (first_or (is_slash c) (list_any is_slash cs) none).0
at_each (c ∷ cs) none (suc k) within = at_each cs (first_or (is_slash c) (list_any is_slash cs) none).1 k (omega arith)

-- ---- the last slash

abbrev apart : ℕ → Bool
apart c = not (is_slash c)

alone_suffix : (name : Name) → list_any is_slash name ≡ false → suffix_len apart name ≡ length name
alone_suffix name none = omega (arith, suffix_len_is apart name 0 0 (omega arith) (λ k from within. ap not (at_each name none k within)) (λ h. absurd (omega arith)))

inside_suffix : (folder name : Name) → list_any is_slash name ≡ false → suffix_len apart (folder ++ 47 ∷ name) ≡ length name
inside_suffix folder name none =
    let path : Name = folder ++ 47 ∷ name in
    let long = length-append folder (47 ∷ name) in
    let past : (k : ℕ) → length folder + 1 ≤ k → k < length path → apart (get_or path k 0) ≡ true = λ k from within.
    let here : k ≡ length folder + suc (k - length folder - 1) = omega arith in
    ap (λ n. apart (get_or path n 0)) here ∙ ap apart (get_or-append-add folder (47 ∷ name) (suc (k - length folder - 1)) 0) ∙ ap not (at_each name none (k - length folder - 1) (omega (arith, long))) in
    let back : length folder + 1 - 1 ≡ length folder = omega arith in
    let stop : 0 < length folder + 1 → apart (get_or path (length folder + 1 - 1) 0) ≡ false = λ h. ap (λ n. apart (get_or path n 0)) back ∙ ap apart (get_or-append_seam folder 47 name 0) in
    omega (arith, long, suffix_len_is apart path (length folder + 1) 0 (omega (arith, long)) past stop)

pub basename_alone : (name : Name) → list_any is_slash name ≡ false → basename_of name ≡ name
basename_alone name none =
    let none_before : length name - suffix_len apart name ≡ 0 = omega (arith, alone_suffix name none) in
    ap (λ n. drop n name) none_before

pub folder_alone : (name : Name) → list_any is_slash name ≡ false → before_last is_slash name ≡ []
folder_alone name none =
    let none_before : length name - suffix_len apart name - 1 ≡ 0 = omega (arith, alone_suffix name none) in
    ap (λ n. take n name) none_before

pub basename_inside : (folder name : Name) → list_any is_slash name ≡ false → basename_of (folder ++ 47 ∷ name) ≡ name
basename_inside folder name none =
    let path : Name = folder ++ 47 ∷ name in
    ap (drop (length path - suffix_len apart path)) (sym (append_assoc folder (47 ∷ []) name))
    ∙ drop_at (folder ++ 47 ∷ []) name (length path - suffix_len apart path) (omega (arith, inside_suffix folder name none, length-append folder (47 ∷ name), length_push folder 47))

pub folder_inside : (folder name : Name) → list_any is_slash name ≡ false → before_last is_slash (folder ++ 47 ∷ name) ≡ folder
folder_inside folder name none =
    let path : Name = folder ++ 47 ∷ name in
    take_at folder (47 ∷ name) (length path - suffix_len apart path - 1) (omega (arith, inside_suffix folder name none, length-append folder (47 ∷ name)))

-- ---- paths

-- a name, or a name in such a folder
pub data IsPath : Name → Type 0 where
  alone : (name : Name) → IsTrue (is_name name) → IsPath name
  inside : (folder name : Name) → IsPath folder → IsTrue (is_name name) → IsPath (folder ++ 47 ∷ name)

-- what is at a path in a folder of this name
path_in : (folder path : Name) → IsTrue (is_name folder) → IsPath path → IsPath (folder ++ 47 ∷ path)
path_in folder _ is (IsPath.alone name named) = IsPath.inside folder name (IsPath.alone folder is) named
path_in folder _ is (IsPath.inside own name within named) =
    subst IsPath (append_assoc folder (47 ∷ own) (47 ∷ name)) (IsPath.inside (folder ++ 47 ∷ own) name (path_in folder own is within) named)

path_of_parts : (part : Name) (parts : List Name) → AllPass is_name (part ∷ parts) → IsPath (join_with_byte 47 (part ∷ parts))
path_of_parts part [] named = IsPath.alone part (All-head (λ (n : Name). IsTrue (is_name n)) part [] named)
path_of_parts part (next ∷ parts) named = path_in part (join_with_byte 47 (next ∷ parts)) (All-head (λ (n : Name). IsTrue (is_name n)) part (next ∷ parts) named)
    (path_of_parts next parts (All-tail (λ (n : Name). IsTrue (is_name n)) part (next ∷ parts) named))

some_parts : (parts : List Name) → 0 < length parts → AllPass is_name parts → IsPath (join_with_byte 47 parts)
some_parts [] some named = absurd (omega arith)
some_parts (part ∷ parts) some named = path_of_parts part parts named

-- names with slashes between are such a path
pub path_of : (path : Name) → IsTrue (is_path path) → IsPath path
path_of path is = subst IsPath (join_with_byte-slice_split 47 path)
    (some_parts (slice_split is_slash path) (omega (arith, length-slice_split is_slash path)) (AllPass-from_list_all is_name (slice_split is_slash path) is))

pub basename_named : (path : Name) → IsPath path → IsTrue (is_name (basename_of path))
basename_named _ (IsPath.alone name is) = ap is_name (basename_alone name (unslashed name is)) ∙ is
basename_named _ (IsPath.inside folder name within is) = ap is_name (basename_inside folder name (unslashed name is)) ∙ is

-- what stands before the name, of what is in the folder
abbrev pub front : Name → Name
front [] = []
front (c ∷ cs) = (c ∷ cs) ++ 47 ∷ []

some_path : (path : Name) → IsPath path → path ≡ [] → ⊥
some_path _ (IsPath.alone name is) none = true≢false (sym is ∙ ap is_name none)
some_path _ (IsPath.inside folder name within is) none =
    let long : length (folder ++ 47 ∷ name) ≡ 0 = ap length none in
    omega (arith, long, length-append folder (47 ∷ name))

front_some : (folder : Name) → (folder ≡ [] → ⊥) → front folder ≡ folder ++ 47 ∷ []
front_some [] some = absurd (some refl)
front_some (c ∷ cs) some = refl

pub in_front : (folder path : Name) → IsPath path → stands_in folder path ≡ true → path ≡ front folder ++ basename_of path
in_front folder _ (IsPath.alone name is) stands =
    let none = unslashed name is in
    let root : [] ≡ folder = sym (folder_alone name none) ∙ (bytes_eq-Decides (before_last is_slash name) folder).0 stands in
    sym (ap (λ f. front f ++ basename_of name) (sym root) ∙ basename_alone name none)
in_front folder _ (IsPath.inside own name within is) stands =
    let none = unslashed name is in
    let same : own ≡ folder = sym (folder_inside own name none) ∙ (bytes_eq-Decides (before_last is_slash (own ++ 47 ∷ name)) folder).0 stands in
    sym (ap (λ f. front f ++ basename_of (own ++ 47 ∷ name)) (sym same) ∙ ap (λ f. f ++ basename_of (own ++ 47 ∷ name)) (front_some own (some_path own within))
    ∙ ap (λ n. (own ++ 47 ∷ []) ++ n) (basename_inside own name none) ∙ append_assoc own (47 ∷ []) name)

same_front : (front one other : Name) → name_cmp (front ++ one) (front ++ other) ≡ name_cmp one other
same_front [] one other = refl
same_front (c ∷ cs) one other = ap (λ o. ordering_then o (slice_cmp nat_cmp (cs ++ one) (cs ++ other))) (tied_itself nat_cmp_total c) ∙ same_front cs one other

-- two in one folder compare by their names
pub by_basename : (folder one other : Name) → IsPath one → IsPath other → stands_in folder one ≡ true → stands_in folder other ≡ true → name_cmp one other ≡ name_cmp (basename_of one) (basename_of other)
by_basename folder one other is_one is_other stands_one stands_other =
    (λ i. name_cmp (in_front folder one is_one stands_one i) (in_front folder other is_other stands_other i)) ∙ same_front (front folder) (basename_of one) (basename_of other)

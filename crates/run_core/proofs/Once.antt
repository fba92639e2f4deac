-- Each input file is measured once.
use Rattle.std.proofs.Common.{◌≡◌, ◌∙◌, ◌||◌, Bool, true, false, List, [], ◌∷◌, ◌++◌, fold, refl, sym, bytes_eq}
use Rattle.std.specs.List.{list_any}
use Rattle.std.proofs.lemmas.Cmp.{nat_list_eq_equiv}
use Rattle.std.proofs.lemmas.List.Folds.{list_any-append}
use Rattle.input_files.specs.Paths.{with_new, each_once}
use Rattle.job_graph.specs.Words.{Name}

-- no name stands twice
abbrev pub Once : List Name → Type 0
Once [] = Unit {0}
Once (name ∷ names) = (list_any (bytes_eq name) names ≡ false) × Once names

neither : (b c : Bool) → (b || c) ≡ false → b ≡ false
neither false c is = refl
neither true c is = is

nor : (b c : Bool) → (b || c) ≡ false → c ≡ false
nor false c is = is
nor true c is = absurd cc

both_not : (b c : Bool) → b ≡ false → c ≡ false → (b || c) ≡ false
both_not b c first second = rw first second

same_test : (one other : Name) → bytes_eq one other ≡ bytes_eq other one
same_test one other = nat_list_eq_equiv.symm one other

once_push : (names : List Name) (name : Name) → Once names → list_any (bytes_eq name) names ≡ false → Once (names ++ name ∷ [])
once_push [] name once new = (refl, tt)
once_push (n ∷ names) name once new =
    let other : bytes_eq n name ≡ false = same_test n name ∙ neither (bytes_eq name n) (list_any (bytes_eq name) names) new in (
      list_any-append (bytes_eq n) names (name ∷ []) ∙ both_not (list_any (bytes_eq n) names) (bytes_eq n name || false) once.0 (both_not (bytes_eq n name) false other refl),
      once_push names name once.1 (nor (bytes_eq name n) (list_any (bytes_eq name) names) new),
    )

once_with : (kept : List Name) (name : Name) (there : Bool) → list_any (bytes_eq name) kept ≡ there → Once kept → Once (with_new kept name)
once_with kept name true there once = rw there once
once_with kept name false there once = rw there (once_push kept name once there)

once_after : (kept names : List Name) → Once kept → Once (fold with_new kept names)
once_after kept [] once = once
once_after kept (name ∷ names) once = once_after (with_new kept name) names (once_with kept name (list_any (bytes_eq name) kept) refl once)

pub once_each : (names : List Name) → Once (each_once names)
once_each names = once_after [] names tt

-- a name is none of those before it
pub not_before : (before : List Name) (name : Name) (later : List Name) → Once (before ++ name ∷ later) → list_any (λ other. bytes_eq other name) before ≡ false
not_before [] name later once = refl
not_before (b ∷ before) name later once =
    let later_than_b : (list_any (bytes_eq b) before || list_any (bytes_eq b) (name ∷ later)) ≡ false = sym (list_any-append (bytes_eq b) before (name ∷ later)) ∙ once.0 in
    both_not (bytes_eq b name) (list_any (λ other. bytes_eq other name) before)
    (neither (bytes_eq b name) (list_any (bytes_eq b) later) (nor (list_any (bytes_eq b) before) (list_any (bytes_eq b) (name ∷ later)) later_than_b))
    (not_before before name later once.1)

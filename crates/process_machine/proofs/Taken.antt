-- What is taken under the names of some entries has names of these entries.
use Rattle.std.proofs.Common.{◌≡◌, ◌∙◌, ℕ, Bool, true, false, List, [], ◌∷◌, ◌++◌, Option, refl, sym}
use Rattle.std.specs.Prelude.{◌&&◌, ◌||◌, bytes_eq}
use Rattle.std.specs.List.{list_any}
use Rattle.std.proofs.lemmas.List.Folds.{list_all-append, list_any-append}
use Rattle.std.proofs.lemmas.Slice.Eq.{bytes_eq-Decides}
use Rattle.proc_host.specs.Answers.{are_among}
use Rattle.process_machine.specs.inner.Taken.{AreTaken, of_none, was_absent, was_there}
use Rattle.staging.specs.declared.found.Found.{Found}

pub either : (a b : Bool) → a ≡ true → (a || b) ≡ true
either true b is = refl
either false b is = absurd (cc)

pub or_else : (a b : Bool) → b ≡ true → (a || b) ≡ true
or_else true b is = refl
or_else false b is = is

pub first_of_both : (a b : Bool) → (a && b) ≡ true → a ≡ true
first_of_both true b is = refl
first_of_both false b is = absurd (cc)

pub second_of_both : (a b : Bool) → (a && b) ≡ true → b ≡ true
second_of_both true b is = is
second_of_both false b is = absurd (cc)

pub both : (a b : Bool) → a ≡ true → b ≡ true → (a && b) ≡ true
both true b is also = also
both false b is also = absurd (cc)

abbrev pub named : List ℕ → Found → Bool
named name file = bytes_eq file.name name

-- one file more has its name, and the others keep theirs
has_last : (files : List Found) (file : Found) (name : List ℕ) → name ≡ file.name → list_any (named name) (files ++ file ∷ []) ≡ true
has_last [] file name is = either (bytes_eq file.name name) false ((bytes_eq-Decides file.name name).1 (sym is))
has_last (first ∷ files) file name is = or_else (named name first) (list_any (named name) (files ++ file ∷ [])) (has_last files file name is)

still_has : (files : List Found) (file : Found) (name : List ℕ) → list_any (named name) files ≡ true → list_any (named name) (files ++ file ∷ []) ≡ true
still_has files file name is =
    list_any-append (named name) files (file ∷ []) ∙ either (list_any (named name) files) (list_any (named name) (file ∷ [])) is

still_among : (files : List Found) (file : Found) (found : List Found) → are_among files found ≡ true → are_among (files ++ file ∷ []) found ≡ true
still_among files file [] is = refl
still_among files file (entry ∷ found) is =
    both (list_any (named entry.name) (files ++ file ∷ [])) (are_among (files ++ file ∷ []) found)
    (still_has files file entry.name (first_of_both (list_any (named entry.name) files) (are_among files found) is))
    (still_among files file found (second_of_both (list_any (named entry.name) files) (are_among files found) is))

one_more : (files found : List Found) (entry : Found) → are_among files found ≡ true → list_any (named entry.name) files ≡ true →
    are_among files (found ++ entry ∷ []) ≡ true
one_more files found entry is has =
    list_all-append (λ (other : Found). list_any (named other.name) files) found (entry ∷ [])
    ∙ both (are_among files found) (are_among files (entry ∷ [])) is (both (list_any (named entry.name) files) true has refl)

pub among_taken : (there : List ℕ → Option (Option Found)) (files found : List Found) → AreTaken there files found → are_among files found ≡ true
among_taken there _ _ of_none = refl
among_taken there _ _ (was_there files found file entry before is) =
    one_more (files ++ file ∷ []) found entry (still_among files file found (among_taken there files found before)) (has_last files file entry.name is.named)
among_taken there _ _ (was_absent files found file before is) = still_among files file found (among_taken there files found before)

-- Files that are fetched as they were archived are among those that were archived.
use Rattle.std.proofs.Common.{◌≡◌, true, List, [], ◌∷◌, refl}
use Rattle.std.specs.List.{list_any}
use Rattle.std.proofs.lemmas.Slice.Eq.{bytes_eq-Decides}
use Rattle.proc_host.specs.Answers.{are_among}
use Rattle.process_machine.proofs.Taken.{both, either, first_of_both, named, or_else, second_of_both}
use Rattle.staging.specs.declared.found.Found.{Found}

-- one file more before the others
among_more : (file : Found) (files found : List Found) → are_among files found ≡ true → are_among (file ∷ files) found ≡ true
among_more file files [] is = refl
among_more file files (entry ∷ found) is =
    both (list_any (named entry.name) (file ∷ files)) (are_among (file ∷ files) found)
    (or_else (named entry.name file) (list_any (named entry.name) files) (first_of_both (list_any (named entry.name) files) (are_among files found) is))
    (among_more file files found (second_of_both (list_any (named entry.name) files) (are_among files found) is))

pub among_itself : (files : List Found) → are_among files files ≡ true
among_itself [] = refl
among_itself (file ∷ files) =
    both (list_any (named file.name) (file ∷ files)) (are_among (file ∷ files) files)
    (either (named file.name file) (list_any (named file.name) files) ((bytes_eq-Decides file.name file.name).1 refl))
    (among_more file files files (among_itself files))

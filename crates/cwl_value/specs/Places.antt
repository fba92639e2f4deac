-- How a job's place is printed: `main`, then each step with its indexes, as in `main/align/sort[0,2]`.
use Rattle.std.specs.Prelude.{ℕ, List, [], ◌∷◌, ◌++◌, codes, decimal}
use Rattle.std.specs.List.{flat_map}
use Rattle.cwl_value.specs.declared.place.Segment.{Segment}

abbrev pub index_text : List ℕ → List ℕ
index_text [] = []
index_text (n ∷ ns) = 91 ∷ (decimal n ++ flat_map (λ m. 44 ∷ decimal m) ns) ++ 93 ∷ []

abbrev pub segment_text : Segment → List ℕ
segment_text s = (47 ∷ s.step) ++ index_text s.index

abbrev pub job_text : List Segment → List ℕ
job_text segments = codes "main" ++ flat_map segment_text segments

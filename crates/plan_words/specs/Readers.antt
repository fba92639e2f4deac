-- Who reads what a job makes.
use Rattle.std.specs.Prelude.{◌≡◌, ℕ, ◌==◌, ◌<◌, List, length, count_by, slice_index, if◌then◌else◌}
use Rattle.plan_checker.specs.declared.vertex.Vertex.{Vertex}
use Rattle.plan_checker.specs.declared.plan.Mark.{Mark}
use Rattle.plan_checker.specs.Graph.{vertex}
use Rattle.plan_checker.specs.Plan.{mark}
use Rattle.plan_checker.specs.Sums.{sum_below}
use Rattle.plan_words.specs.Marks.{is_same}

-- how often job p is among these parents: once where its files are read, since parents rise
abbrev pub times_read : ℕ → List ℕ → ℕ
times_read p parents = count_by (λ parent. parent == p) parents

-- how many of the jobs below n have this mark and read the files of job p
abbrev pub readers_below : ℕ → List Vertex → List Mark → Mark → ℕ → ℕ
readers_below n graph marks m p =
    sum_below n (λ i. if is_same (mark marks i) m then times_read p (vertex graph i).parents else 0)

-- how many jobs have this mark and read the files of job p
abbrev pub readers : List Vertex → List Mark → Mark → ℕ → ℕ
readers graph marks m p = readers_below (length graph) graph marks m p

-- that number, for each job
pub record AreReaders (graph : List Vertex) (marks : List Mark) (m : Mark) (counts : List ℕ) : Type 0 where
  pub one_each : length counts ≡ length graph
  pub counted : (p : ℕ) → p < length graph → slice_index counts p ≡ readers graph marks m p

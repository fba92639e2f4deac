-- That more is known: what was known is the same, and what was met is met again, in its order.
use Rattle.std.specs.Prelude.{◌≡◌, List, [], ◌∷◌, ◌++◌, Option, Some, None, Contains}
use Rattle.job_graph.specs.Words.{Name}
use Rattle.job_graph.specs.Jobs.{Job, Met, met_job, Made, Walk}
use Rattle.job_graph.specs.Links.{out_under}

-- a value that is known is the same later
abbrev pub Stays : {T : Type 0} → Option T → Option T → Type 0
Stays None later = Unit {0}
Stays (Some value) later = later ≡ Some value

-- the second list begins with the first
abbrev pub IsFront : {X : Type 0} → List X → List X → Type 0
IsFront {X} front whole = (rest : List X) × (whole ≡ front ++ rest)

-- the first list is the second one, where some elements are left out
pub data IsPart {X : Type 0} : List X → List X → Type 0 where
  nothing : IsPart [] []
  kept : (x : X) (xs ys : List X) → IsPart xs ys → IsPart (x ∷ xs) (x ∷ ys)
  left_out : (y : X) (xs ys : List X) → IsPart xs ys → IsPart xs (y ∷ ys)

-- the outputs of each job that is met stay
abbrev pub StaysOn : Made → Made → List Met → Type 0
StaysOn made more met = (job : Job) → Contains met (met_job job) → Stays (made job) (more job)

-- no less is met, and each output that is known stays
pub record IsGrown (walk later : Walk) : Type 0 where
  pub met : IsPart walk.met later.met
  pub outs : (name : Name) → Stays (out_under name (Some walk.outs)) (out_under name (Some later.outs))

-- Which jobs were noted as makers of what is in some values.
use Rattle.std.specs.Prelude.{◌≡◌, ◌<◌, ◌⊎◌, ◌||◌, ℕ, Bool, true, false, get_or, length, List}
use Rattle.std.specs.Borrow.{Bor}
use Rattle.std.specs.BTreeMap.{get}
use Rattle.std.specs.BTreeSet.{BTreeSet, contains}
use Rattle.std.specs.List.{list_any}
use Rattle.std.specs.Option.{option_map_or}
use Rattle.std.specs.Ordering.{nat_cmp}
use Rattle.job_graph.specs.Words.{Fields, JobPlace, is_same_place}
use Rattle.job_graph.specs.Made.{any_made}
use Rattle.job_graph.specs.declared.growth.KnownJob.{KnownJob}
use Rattle.job_graph.specs.declared.makers.Noted.{Noted}
use Rattle.job_graph.specs.inner.Marks.{mark_of}

-- whether a place is this job's
abbrev pub is_this : JobPlace → Bor JobPlace → Bool
is_this job place = is_same_place place.now job

-- the place under the job's mark is the job's, or one of the others is
abbrev pub is_noted : JobPlace → Noted → Bool
is_noted job noted = option_map_or (is_this job) (get nat_cmp noted.by_mark (mark_of job)) false || list_any (is_this job) noted.others.items

-- those are noted that made a File or Directory in these values, and no other
abbrev pub AreMakers : Noted → Fields → Type 0
AreMakers noted fields = (job : JobPlace) → is_noted job noted ≡ any_made job fields

-- the numbers of known jobs that pass a test are there, and of no job that isn't known
pub record Gathers (test : JobPlace → Bool) (known : List KnownJob) (numbers : BTreeSet ℕ) : Type 0 where
  pub all : (n : ℕ) (k : KnownJob) → n < length known → k ≡ get_or known n k → test k.job.place ≡ true → contains nat_cmp numbers n ≡ true
  pub within : (n : ℕ) → contains nat_cmp numbers n ≡ true → n < length known

-- they are put to what is there
pub record Puts (test : JobPlace → Bool) (known : List KnownJob) (old new : BTreeSet ℕ) : Type 0 where
  pub here : (n : ℕ) (k : KnownJob) → n < length known → k ≡ get_or known n k → test k.job.place ≡ true → contains nat_cmp new n ≡ true
  pub stays : (n : ℕ) → contains nat_cmp old n ≡ true → contains nat_cmp new n ≡ true
  pub within : (n : ℕ) → contains nat_cmp new n ≡ true → (contains nat_cmp old n ≡ true) ⊎ (n < length known)

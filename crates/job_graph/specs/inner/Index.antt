-- Where the places of a mark are in a list of what is at places.
use Rattle.std.specs.Prelude.{◌≡◌, ◌≤◌, ◌<◌, ℕ, Bool, true, false, List, Option, None, Some, get_or, length, take}
use Rattle.std.specs.BTreeMap.{BTreeMap, get, is_at}
use Rattle.std.specs.List.{list_any}
use Rattle.std.specs.Ordering.{nat_cmp}
use Rattle.job_graph.specs.Words.{JobPlace, is_same_place}
use Rattle.job_graph.specs.declared.growth.KnownJob.{KnownJob}
use Rattle.job_graph.specs.declared.made.Resolved.{Resolved}
use Rattle.job_graph.specs.inner.Marks.{mark_of}

-- the place of a job that has ended, and of a known one
abbrev pub at_learned : Resolved → JobPlace
at_learned resolved = resolved.at.place

abbrev pub at_known : KnownJob → JobPlace
at_known known = known.job.place

-- those before a position; all, where there is none
abbrev pub before : {X : Type 0} → Option ℕ → List X → List X
before None xs = xs
before (Some first) xs = take first xs

module _ {X : Type 0} (place_of : X → JobPlace) where
  abbrev pub has_mark : ℕ → X → Bool
  has_mark mark x = is_at (nat_cmp (mark_of (place_of x))) mark

  -- before the position that the index has for a mark, no place of the mark is; where it has none, no place at all
  abbrev pub IsIndexed : BTreeMap ℕ ℕ → List X → Type 0
  IsIndexed firsts xs = (mark : ℕ) → list_any (has_mark mark) (before (get nat_cmp firsts mark) xs) ≡ false

-- a position within the list and not after the other, or the end
abbrev pub IsFirst : Option ℕ → ℕ → ℕ → Type 0
IsFirst None end first = first ≡ end
IsFirst (Some other) end first = (first ≤ other) × (first ≤ end)

-- no two are at one place
abbrev pub AreApart : List KnownJob → Type 0
AreApart known = (n m : ℕ) (s t : KnownJob) → n < length known → s ≡ get_or known n s → m < length known → t ≡ get_or known m t
    → is_same_place s.job.place t.job.place ≡ true → n ≡ m

-- the number of the job at a place, where it is known
abbrev pub IsNumberAt : JobPlace → List KnownJob → Option ℕ → Type 0
IsNumberAt place known found = (n : ℕ) (k : KnownJob) → n < length known → k ≡ get_or known n k → is_same_place k.job.place place ≡ true → found ≡ Some n

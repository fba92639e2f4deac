-- Which steps of a workflow read another, by their numbers.
use Rattle.std.specs.Prelude.{◌≡◌, ◌<◌, ◌==◌, ◌&&◌, ◌||◌, ℕ, Bool, true, false, get_or, length, List, [], MatchOption, bytes_eq, unwrap_or}
use Rattle.std.specs.List.{list_any}
use Rattle.document_links.specs.declared.process.Step.{Step}
use Rattle.plain_data.specs.ByName.{value_at}
use Rattle.job_graph.specs.Words.{Name}
use Rattle.job_graph.specs.declared.readers.Readers.{Readers}
use Rattle.job_graph.specs.inner.Counts.{awaited_of, each_by, is_output, waits_for}
use Rattle.job_graph.specs.inner.Elements.{stands_in}
use Rattle.job_graph.specs.inner.Going.{reads}

-- the numbers under an id
abbrev pub row_of : Name → List (Name × List ℕ) → List ℕ
row_of id rows = unwrap_or (value_at id rows) []

-- whether a number stands under an id
abbrev pub stands : ℕ → Name → List (Name × List ℕ) → Bool
stands m id rows = stands_in m (row_of id rows)

-- a number was noted under these ids
abbrev pub Notes : ℕ → (Name → Bool) → List (Name × List ℕ) → List (Name × List ℕ) → Type 0
Notes number under old new = (m : ℕ) (id : Name) → stands m id new ≡ (stands m id old || (number == m && under id))

-- number m stands under the id of step n if and only if step m reads step n, and with an output of it as often as step m has this one as a source; and
-- each step has its number
pub record IsTableOf (readers : Readers) (steps : List (Name × Step)) : Type 0 where
  pub numbers : (id : Name) → MatchOption (value_at id readers.numbers) (list_any (λ s. bytes_eq id s.0) steps ≡ false)
      (λ n. (n < length steps) × ((s : Name × Step) → s ≡ get_or steps n s → bytes_eq id s.0 ≡ true))
  pub only : (id : Name) (m : ℕ) → stands m id readers.rows ≡ true → (m < length steps) × ((s : Name × Step) → s ≡ get_or steps m s → reads id s.1 ≡ true)
  pub whole : (id : Name) (m : ℕ) (s : Name × Step) → m < length steps → s ≡ get_or steps m s → reads id s.1 ≡ true → stands m id readers.rows ≡ true
  pub awaited : (id : Name) (test : Name → Bool) (m : ℕ) → waits_for test m (awaited_of id readers.awaited) ≡ get_or (each_by (is_output id test) steps) m 0

-- How many values each step of a workflow still waits for.
use Rattle.std.specs.Prelude.{◌≡◌, ◌≤◌, ◌<◌, ◌==◌, ◌&&◌, ◌+◌, ◌⊎◌, ℕ, Bool, true, false, cond, get_or, length, List, [], count_by, map, not, bytes_eq, is_some, sum_by, unwrap_or, Some}
use Rattle.std.specs.Option.{option_map_or}
use Rattle.cwl_process.specs.declared.links.Source.{Source}
use Rattle.cwl_process.specs.declared.workflow.StepInput.{StepInput}
use Rattle.document_links.specs.declared.process.Step.{Step, out-Step}
use Rattle.plain_data.specs.ByName.{value_at}
use Rattle.job_graph.specs.Words.{Name}
use Rattle.job_graph.specs.Jobs.{Outs}
use Rattle.job_graph.specs.Links.{Env, out_under}
use Rattle.job_graph.specs.declared.counts.Waits.{Waits}
use Rattle.job_graph.specs.declared.readers.Awaited.{Awaited}
use Rattle.job_graph.specs.declared.readers.Readers.{Readers}
use Rattle.job_graph.specs.inner.Elements.{stands_in}
use Rattle.job_graph.specs.inner.Rounds.{is_known}

-- how many sources of inputs pass a test
abbrev pub sources_by : (Source → Bool) → List (Name × StepInput) → ℕ
sources_by test inputs = sum_by (λ i. count_by test (unwrap_or i.1.links.sources [])) inputs

-- of each step
abbrev pub each_by : (Source → Bool) → List (Name × Step) → List ℕ
each_by test steps = map (λ s. sources_by test (out-Step s.1).inputs) steps

abbrev pub is_unknown : Env → Source → Bool
is_unknown env source = not (is_known env source)

-- the number of each step is that of its sources whose values are not known
abbrev pub IsCounted : Env → List (Name × Step) → List ℕ → Type 0
IsCounted env steps counts = counts ≡ each_by (is_unknown env) steps

-- ---- which steps wait for an output

-- whether a source is an output of the step of this id whose name passes a test
abbrev pub is_output : Name → (Name → Bool) → Source → Bool
is_output id test source = option_map_or (λ step. bytes_eq step id && test source.name) source.step false

abbrev pub times : ℕ → List ℕ → ℕ
times m numbers = count_by (λ n. n == m) numbers

-- how often a number stands with outputs whose names pass a test
abbrev pub waits_for : (Name → Bool) → ℕ → List Awaited → ℕ
waits_for test m outputs = sum_by (λ o. cond (test o.name) (times m o.numbers) 0) outputs

abbrev pub awaited_of : Name → List (Name × List Awaited) → List Awaited
awaited_of id awaited = unwrap_or (value_at id awaited) []

-- a number was noted once for each of these sources
abbrev pub Awaits : ℕ → (Name → (Name → Bool) → ℕ) → List (Name × List Awaited) → List (Name × List Awaited) → Type 0
Awaits number more old new =
    (id : Name) (test : Name → Bool) (m : ℕ) → waits_for test m (awaited_of id new) ≡ waits_for test m (awaited_of id old) + cond (number == m) (more id test) 0

-- ---- counts are lowered

-- whether an output is known, and was not before
abbrev pub is_new : Outs → Outs → Name → Bool
is_new before after name = is_some (out_under name (Some after)) && not (is_some (out_under name (Some before)))

-- there is so much in each count, whatever the outputs are that are put
abbrev pub CanLower : Readers → Name → Env → List ℕ → Type 0
CanLower readers id env counts =
    (outs : Outs) (m : ℕ) → waits_for (is_new (unwrap_or (value_at id env) []) outs) m (awaited_of id readers.awaited) ≤ get_or counts m 0

-- how many of the steps wait, and how many are still to be walked
abbrev pub left_in : Waits → ℕ
left_in waits = count_by (λ n. not (n == 0)) waits.counts.items + length waits.pending

-- each count is lowered by so much, and those that come to none are pending
pub record Lowers (by : ℕ → ℕ) (old new : Waits) : Type 0 where
  pub counts : (m : ℕ) → get_or new.counts.items m 0 + by m ≡ get_or old.counts.items m 0
  pub long : length new.counts.items ≡ length old.counts.items
  pub stays : (m : ℕ) → stands_in m old.pending ≡ true → stands_in m new.pending ≡ true
  pub ready : (m : ℕ) → 0 < get_or old.counts.items m 0 → get_or new.counts.items m 0 ≡ 0 → stands_in m new.pending ≡ true
  pub within : (m : ℕ) → stands_in m new.pending ≡ true → (stands_in m old.pending ≡ true) ⊎ (m < length old.counts.items)
  pub fewer : left_in new ≤ left_in old

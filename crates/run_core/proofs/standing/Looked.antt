-- How many files the open work on a job still looks at, by its rule.
use Rattle.std.proofs.Common.{◌≡◌, ℕ, Bool, ◌+◌, ◌*◌, ◌≤◌, List, [], length, reverse, None, refl, ap, arith, Option}
use Rattle.std.proofs.lemmas.List.{length-reverse}
use Rattle.collected_outputs.specs.Contents.{Heads}
use Rattle.proc_host.specs.declared.call.HostRequest.{HostRequest}
use Rattle.staging.specs.declared.found.Found.{Found}
use Rattle.run_rules.specs.declared.setting.Options.{Options}
use Rattle.job_graph.specs.Jobs.{Job}
use Rattle.job_graph.specs.Words.{Name, Fields, JobPlace}
use Rattle.run_rules.specs.CollectsOn.{CollectsOn, reads_on as reads_more, collects, collects_none}
use Rattle.run_rules.specs.Events.{Event, Work, Started, input_heads_due, output_heads_due}
use Rattle.run_rules.specs.StartsOn.{StartsOn, reads_on, has_launch, has_no_launch, has_no_contents}
use Rattle.run_core.specs.declared.site.Site.{Site}
use Rattle.run_core.specs.declared.state.JobNext.{JobNext}
use Rattle.run_core.specs.declared.state.JobPhase.{JobPhase}
use Rattle.run_core.specs.declared.state.Kept.{Kept}
use Rattle.run_core.specs.inner.Attempts.{many_items, weight_of_job}
use Rattle.run_core.specs.inner.Due.{CallsNext, Collects, FitsCall, IsKept, Starts, work_of}
use Rattle.job_rows.specs.declared.row.Row.{Row}
use Rattle.run_rules.specs.Keeps.{Keeps, keeps, keeps_none, differs}
use Rattle.std.specs.Prelude.{option_copied}

-- the weight of a job that goes on; of what comes next where it does not
abbrev pub weight_next : JobNext → ℕ
weight_next (JobNext.Asks call phase) = weight_of_job phase
weight_next (JobNext.Fails cause) = 2
weight_next (JobNext.Gives outputs row) = many_items + 4
weight_next (JobNext.Differs outputs) = 2
weight_next (JobNext.Repeats row) = many_items + 4

-- Before it is started

-- the paths that are still to be read
abbrev inputs_left : Work → List Name
inputs_left (input_heads_due place staged todo read) = todo
inputs_left work = []

module _ (options : Options) (place : JobPlace) (job : Job) (number : ℕ) (staged : Fields) (read : Heads) where
  starts_left : {todo : List Name} {work : Work} {more : List Event} → StartsOn options place job number staged read todo work more →
      length (inputs_left work) ≤ length todo
  starts_left (reads_on path more) = omega arith
  starts_left (has_launch inputs launch filled is) = omega arith
  starts_left (has_no_launch inputs fault filled is) = omega arith
  starts_left (has_no_contents fault refused) = omega arith

-- whatever it is, it looks at fewer files than a list can have
many_at_most : (call : HostRequest) (phase : JobPhase) → FitsCall call phase → weight_of_job phase ≤ 3 * many_items + 6
many_at_most call (JobPhase.Filling filling) fits = omega (arith, fits)
many_at_most call (JobPhase.Starting kept) fits = omega arith
many_at_most call (JobPhase.Scanning kept millis) fits = omega arith
many_at_most call (JobPhase.Reading kept reading) fits = omega (arith, fits)

pub calls_at_most : (options : Options) (folder : ℕ) (next : JobNext) → CallsNext options folder next → weight_next next ≤ 3 * many_items + 6
calls_at_most options folder (JobNext.Asks call phase) calls = many_at_most call phase calls.fits
calls_at_most options folder (JobNext.Fails cause) calls = omega arith
calls_at_most options folder (JobNext.Gives outputs row) calls = omega arith
calls_at_most options folder (JobNext.Differs outputs) calls = omega arith
calls_at_most options folder (JobNext.Repeats row) calls = omega arith

phase_at_most : (call : HostRequest) (phase : JobPhase) (todo : List Name) → FitsCall call phase → length (inputs_left (work_of [] call phase)) ≤ length todo →
    weight_of_job phase ≤ 2 * many_items + 7 + length todo
phase_at_most call (JobPhase.Filling filling) todo fits few =
    let turned : length (reverse filling.left) ≡ length filling.left = length-reverse filling.left in omega (arith, turned, few)
phase_at_most call (JobPhase.Starting kept) todo fits few = omega arith
phase_at_most call (JobPhase.Scanning kept millis) todo fits few = omega arith
phase_at_most call (JobPhase.Reading kept reading) todo fits few = omega (arith, fits)

pub starts_at_most : (site : Site) (staged : Fields) (read : Heads) (todo : List Name) (next : JobNext) → Starts site staged read todo next →
    weight_next next ≤ 2 * many_items + 7 + length todo
starts_at_most site staged read todo (JobNext.Asks call phase) starts =
    phase_at_most call phase todo starts.calls.fits (starts_left site.options.now [] _ site.folder staged read (starts.on []))
starts_at_most site staged read todo (JobNext.Fails cause) starts = omega arith
starts_at_most site staged read todo (JobNext.Gives outputs row) starts = omega arith
starts_at_most site staged read todo (JobNext.Differs outputs) starts = omega arith
starts_at_most site staged read todo (JobNext.Repeats row) starts = omega arith

-- Once its child has ended

module _ (keep : Bool) (place : JobPlace) (job : Job) (row : Option Row) (started : Started) (millis : ℕ) (found : List Found) (read : Heads) where
  kept_tells : {outputs : Fields} {work : Work} {more : List Event} → Keeps keep place job row millis found outputs work more → more ≡ [] → ⊥
  kept_tells (keeps_none once) none = cc
  kept_tells (keeps reusable agrees) none = cc
  kept_tells (differs other reusable is differ) none = cc

  -- where nothing has happened, more is read
  reads_still : {todo : List Name} {work : Work} {more : List Event} → CollectsOn keep place job row started millis found read todo work more → more ≡ [] →
      work ≡ output_heads_due place millis found todo read
  reads_still (reads_more name more) none = refl
  reads_still (collects outputs work more is kept) none = absurd (kept_tells kept none)
  reads_still (collects_none fault is) none = absurd cc

abbrev outputs_left : Work → List Name
outputs_left (output_heads_due place millis found todo read) = todo
outputs_left work = []

pub record IsLight (phase : JobPhase) (todo : List Name) : Type 0 where
  pub by_names : weight_of_job phase ≤ many_items + 4 + length todo
  pub by_lists : weight_of_job phase ≤ 2 * many_items + 3

light : (call : HostRequest) (phase : JobPhase) (millis : ℕ) (found : List Found) (todo : List Name) (read : Heads) →
    work_of [] call phase ≡ output_heads_due [] millis found todo read → FitsCall call phase → IsLight phase todo
light call (JobPhase.Filling filling) millis found todo read is fits = absurd cc
light (HostRequest.Start launch) (JobPhase.Starting kept) millis found todo read is fits = absurd cc
light call (JobPhase.Starting kept) millis found todo read is fits = absurd fits
light call (JobPhase.Scanning kept so_long) millis found todo read is fits = absurd cc
light call (JobPhase.Reading kept reading) millis found todo read is fits =
    let same : reverse reading.left ≡ todo = ap outputs_left is in
    let long : length (reverse reading.left) ≡ length todo = ap length same in
    let turned : length (reverse reading.left) ≡ length reading.left = length-reverse reading.left in
    record { by_names = omega (arith, long, turned); by_lists = omega (arith, fits) }

-- what a child was started by, as far as it is kept
abbrev some_start : Kept → Started
some_start kept =
    record { inputs = kept.inputs; launch = record { words = []; env = []; stdin = None; stdout = kept.stdout; stderr = kept.stderr; dir = [] } }

kept_so : (kept : Kept) → IsKept kept (some_start kept)
kept_so kept = record { inputs = refl; stdout = refl; stderr = refl }

collects_light : (site : Site) (kept : Kept) (millis : ℕ) (found : List Found) (read : Heads) (todo : List Name) (call : HostRequest) (phase : JobPhase) →
    Collects site kept millis found read todo (JobNext.Asks call phase) → IsLight phase todo
collects_light site kept millis found read todo call phase it =
    light call phase millis found todo read
    (reads_still site.options.now.keep [] _ (option_copied site.row) (some_start kept) millis found read (it.on [] (some_start kept) (kept_so kept)) refl) it.calls.fits

pub collects_by_names : (site : Site) (kept : Kept) (millis : ℕ) (found : List Found) (read : Heads) (todo : List Name) (next : JobNext) → Collects site kept millis found read todo next →
    weight_next next ≤ many_items + 4 + length todo
collects_by_names site kept millis found read todo (JobNext.Asks call phase) it = (collects_light site kept millis found read todo call phase it).by_names
collects_by_names site kept millis found read todo (JobNext.Fails cause) it = omega arith
collects_by_names site kept millis found read todo (JobNext.Gives outputs row) it = omega arith
collects_by_names site kept millis found read todo (JobNext.Differs outputs) it = omega arith
collects_by_names site kept millis found read todo (JobNext.Repeats row) it = omega arith

pub collects_by_lists : (site : Site) (kept : Kept) (millis : ℕ) (found : List Found) (read : Heads) (todo : List Name) (next : JobNext) → Collects site kept millis found read todo next →
    weight_next next ≤ 2 * many_items + 3
collects_by_lists site kept millis found read todo (JobNext.Asks call phase) it = (collects_light site kept millis found read todo call phase it).by_lists
collects_by_lists site kept millis found read todo (JobNext.Fails cause) it = omega arith
collects_by_lists site kept millis found read todo (JobNext.Gives outputs row) it = omega arith
collects_by_lists site kept millis found read todo (JobNext.Differs outputs) it = omega arith
collects_by_lists site kept millis found read todo (JobNext.Repeats row) it = omega arith

-- A job's next step is the one of its rule.
use Rattle.std.proofs.Common.{◌≡◌, ◌∙◌, ◌<◌, ◌^◌, ℕ, List, [], ◌∷◌, ◌++◌, Ok, Err, length, reverse, refl, sym, ap, subst}
use Rattle.std.proofs.lemmas.List.{reverse-append}
use Rattle.collected_outputs.specs.Collected.{IsCollected}
use Rattle.collected_outputs.specs.HeadsWanted.{limit_of}
use Rattle.collected_outputs.specs.Outputs.{Left}
use Rattle.input_files.specs.Contents.{with_contents}
use Rattle.cwl_value.specs.declared.value.TheConstants.{MOST_CONTENTS}
use Rattle.input_files.specs.declared.fault.ContentsFault.{ContentsFault}
use Rattle.plain_data.specs.ByName.{with_value}
use Rattle.proc_host.specs.declared.call.HostRequest.{HostRequest}
use Rattle.staging.specs.Groups.{path_in}
use Rattle.staging.specs.declared.found.Found.{Found}
use Rattle.run_rules.specs.declared.outcome.Cause.{Cause}
use Rattle.run_rules.specs.declared.outcome.CollectCause.{CollectCause}
use Rattle.job_graph.specs.Words.{Name, Fields}
use Rattle.collected_outputs.specs.Contents.{Heads}
use Rattle.run_rules.specs.CollectsOn.{CollectsOn, left_of}
use Rattle.run_rules.specs.CollectsOn as collected
use Rattle.run_rules.specs.Events.{Started, input_heads_due, output_heads_due}
use Rattle.run_rules.specs.Folders.{out_folder}
use Rattle.run_rules.specs.StartsOn.{StartsOn}
use Rattle.run_rules.specs.StartsOn as started
use Rattle.run_core.specs.declared.site.Site.{Site}
use Rattle.run_core.specs.declared.state.Filling.{Filling}
use Rattle.run_core.specs.declared.state.JobNext.{JobNext}
use Rattle.run_core.specs.declared.state.JobPhase.{JobPhase}
use Rattle.run_core.specs.declared.state.Kept.{Kept}
use Rattle.run_core.specs.declared.state.Reading.{Reading}
use Rattle.run_core.specs.inner.Due.{Collects, CollectsPast, Gathers, IsKept, Launches, Starts, StartsPast, call_for, gives, gives_none, has_launch, has_none, job_at_site, left_by, AsksNothing, CallsNext, KeepsStill, events_next, work_next}
use Rattle.run_core.specs.inner.Turns.{PutsNext}
use Rattle.run_core.proofs.Turning.{IsTurn, turn_of}
use Rattle.run_rules.specs.declared.setting.Options.{Options}
use Rattle.std.specs.Prelude.{option_copied}

-- what comes next is the first of those that are left
pub turned : (left rest : List Name) (name : Name) → left ≡ rest ++ name ∷ [] → reverse left ≡ name ∷ reverse rest
turned left rest name is = ap reverse is ∙ reverse-append rest (name ∷ [])

pub reads_next : (site : Site) (filling : Filling) (rest : List Name) (path : Name) → filling.left ≡ rest ++ path ∷ [] → length filling.left < 2 ^ 64 →
    Starts site filling.staged filling.heads (reverse filling.left) (JobNext.Asks (HostRequest.Head path MOST_CONTENTS) (JobPhase.Filling filling))
reads_next site filling rest path is few =
    let first : reverse filling.left ≡ path ∷ reverse rest = turned filling.left rest path is in
    record {
      on = λ place.
          subst (λ (todo : List Name). StartsOn site.options.now place (job_at_site site place) site.folder filling.staged filling.heads todo
          (input_heads_due place filling.staged todo filling.heads) []) (sym first) (started.reads_on path (reverse rest));
      calls = record {
        due = ap (λ (todo : List Name). call_for site.options.now site.folder (input_heads_due [] filling.staged todo filling.heads)) first;
        fits = few;
      };
    }

pub starts_by : (site : Site) (staged : Fields) (read : Heads) (inputs : Fields) (next : JobNext) → with_contents site.tool.now.inputs staged read ≡ Ok inputs →
    Launches site inputs next → Starts site staged read [] next
starts_by site staged read inputs next filled (has_launch launch is) =
    record { on = λ place. started.has_launch inputs launch filled is; calls = record { due = refl; fits = refl } }
starts_by site staged read inputs next filled (has_none fault is) =
    record { on = λ place. started.has_no_launch inputs fault filled is; calls = tt }

pub starts_not : (site : Site) (staged : Fields) (read : Heads) (fault : ContentsFault) → with_contents site.tool.now.inputs staged read ≡ Err fault →
    Starts site staged read [] (JobNext.Fails (Cause.Collect (CollectCause.Input fault)))
starts_not site staged read fault is = record { on = λ place. started.has_no_contents fault is; calls = tt }

pub reads_name : (site : Site) (kept : Kept) (reading : Reading) (rest : List Name) (name : Name) → reading.left ≡ rest ++ name ∷ [] → length reading.left < 2 ^ 64 →
    Collects site kept reading.millis reading.found reading.heads (reverse reading.left)
    (JobNext.Asks (HostRequest.Head (path_in (out_folder site.options.now.work site.folder) name) (limit_of name)) (JobPhase.Reading kept reading))
reads_name site kept reading rest name is few =
    let first : reverse reading.left ≡ name ∷ reverse rest = turned reading.left rest name is in
    record {
      on = λ place begun same.
          subst (λ (todo : List Name). CollectsOn site.options.now.keep place (job_at_site site place) (option_copied site.row) begun reading.millis reading.found reading.heads todo
          (output_heads_due place reading.millis reading.found todo reading.heads) []) (sym first) (collected.reads_on name (reverse rest));
      calls = record {
        due = ap (λ (todo : List Name). call_for site.options.now site.folder (output_heads_due [] reading.millis reading.found todo reading.heads)) first;
        fits = few;
      };
      keeps = refl;
    }

-- what a child left behind is told by what is kept of it
left_same : (kept : Kept) (begun : Started) (found : List Found) (read : Heads) → IsKept kept begun → left_by kept found read ≡ left_of begun found read
left_same kept begun found read same = rw (same.inputs, same.stdout, same.stderr) refl

-- what asks nothing
calls_nothing : (options : Options) (folder : ℕ) (next : JobNext) → AsksNothing next → CallsNext options folder next
calls_nothing options folder (JobNext.Asks call phase) none = absurd none
calls_nothing options folder (JobNext.Fails cause) none = tt
calls_nothing options folder (JobNext.Gives outputs row) none = tt
calls_nothing options folder (JobNext.Differs outputs) none = tt
calls_nothing options folder (JobNext.Repeats row) none = tt

keeps_nothing : (kept : Kept) (next : JobNext) → AsksNothing next → KeepsStill kept next
keeps_nothing kept (JobNext.Asks call phase) none = absurd none
keeps_nothing kept (JobNext.Fails cause) none = tt
keeps_nothing kept (JobNext.Gives outputs row) none = tt
keeps_nothing kept (JobNext.Differs outputs) none = tt
keeps_nothing kept (JobNext.Repeats row) none = tt

pub collects_by : (site : Site) (kept : Kept) (millis : ℕ) (found : List Found) (read : Heads) (next : JobNext) → Gathers site kept millis found read next →
    Collects site kept millis found read [] next
collects_by site kept millis found read next (gives outputs its_next is keeps) =
    record {
      on = λ place begun same.
          collected.collects outputs (work_next site.options.now.keep place next) (events_next place next)
          (subst (λ (left : Left). IsCollected left site.tool.now.outputs (Ok outputs)) (left_same kept begun found read same) is) (keeps.on place);
      calls = calls_nothing site.options.now site.folder next keeps.asks_nothing;
      keeps = keeps_nothing kept next keeps.asks_nothing;
    }
collects_by site kept millis found read next (gives_none fault is) =
    record {
      on = λ place begun same.
          collected.collects_none fault (subst (λ (left : Left). IsCollected left site.tool.now.outputs (Err fault)) (left_same kept begun found read same) is);
      calls = tt;
      keeps = tt;
    }

-- the first bytes of the file whose turn it was are put under its name, and the job goes on
pub starts_past : (site : Site) (old : Filling) (bytes : List ℕ) (now : Filling) (next : JobNext) → PutsNext old.left old.heads bytes now.left now.heads → now.staged ≡ old.staged →
    Starts site now.staged now.heads (reverse now.left) next → StartsPast site old bytes next
starts_past site old bytes now next puts staged on =
    record {
      each = λ rest path is.
          let turn : IsTurn old.left old.heads bytes rest path now.left now.heads = turn_of old.left old.heads bytes rest path is puts in
          subst (λ (left : List Name). Starts site old.staged (with_value path bytes old.heads) (reverse left) next) turn.left_is
          (subst (λ (heads : Heads). Starts site old.staged heads (reverse now.left) next) turn.found_is
          (subst (λ (fields : Fields). Starts site fields now.heads (reverse now.left) next) staged on));
    }

pub collects_past : (site : Site) (kept : Kept) (old : Reading) (bytes : List ℕ) (now : Reading) (next : JobNext) → PutsNext old.left old.heads bytes now.left now.heads → now.found ≡ old.found →
    now.millis ≡ old.millis → Collects site kept now.millis now.found now.heads (reverse now.left) next → CollectsPast site kept old bytes next
collects_past site kept old bytes now next puts found millis on =
    record {
      each = λ rest name is.
          let turn : IsTurn old.left old.heads bytes rest name now.left now.heads = turn_of old.left old.heads bytes rest name is puts in
          subst (λ (left : List Name). Collects site kept old.millis old.found (with_value name bytes old.heads) (reverse left) next) turn.left_is
          (subst (λ (heads : Heads). Collects site kept old.millis old.found heads (reverse now.left) next) turn.found_is
          (subst (λ (all : List Found). Collects site kept old.millis all now.heads (reverse now.left) next) found
          (subst (λ (n : ℕ). Collects site kept n now.found now.heads (reverse now.left) next) millis on)));
    }

-- Where the files of values go: from the job that made them to their paths, and to locations.
use Rattle.std.specs.Prelude.{ℕ, Bool, false, Option, None, Some}
use Rattle.cwl_value.specs.declared.place.Place.{Place}
use Rattle.job_graph.specs.Words.{JobPlace}
use Rattle.run_rules.specs.Delivered.{source_place, location_place}
use Rattle.run_rules.specs.Folders.{left_folder}
use Rattle.run_core.specs.declared.places.Sources.{Sources}
use Rattle.run_core.specs.declared.places.Way.{Way}
use Rattle.run_core.specs.declared.places.Way.TheVariants as way
use Rattle.run_core.specs.declared.folders.Left.{Left}
use Rattle.run_core.specs.declared.job_states.JobState.{JobState}
use Rattle.run_core.specs.inner.Course.{fetched_in, known_in, number_in}

-- the number of the folders of the job at a place, and whether these are of a fetch
abbrev pub number_at_source : Sources → JobPlace → ℕ
number_at_source sources place = number_in (known_in sources.known.now) sources.jobs.now place

abbrev pub fetched_at_source : Sources → JobPlace → Bool
fetched_at_source sources place = fetched_in (known_in sources.known.now) sources.jobs.now place

abbrev pub left_at_source : Sources → JobPlace → Left
left_at_source sources place = record { fetched = fetched_at_source sources place; number = number_at_source sources place }

-- the folders of a job by what is kept of it; none without
abbrev pub left_by : Option JobState → Left
left_by None = record { fetched = false; number = 0 }
left_by (Some job) = record { fetched = job.fetched; number = job.folder }

-- what a job made is at its path
abbrev pub left_place : Sources → Place → Place
left_place sources place =
    source_place (λ job. left_folder sources.work.now (fetched_at_source sources job) (number_at_source sources job)) place

abbrev pub place_by : Way → Place → Place
place_by (way.Left sources) place = left_place sources place
place_by way.Located place = location_place place

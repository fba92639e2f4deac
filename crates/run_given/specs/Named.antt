-- What the words of a call name: the process, the inputs and the folders; and why there may be nothing to run.
use Rattle.std.specs.Prelude.{◌≡◌, ◌≤◌, ℕ, true, false, List, [], length, codes, Option, Some, None, unwrap_or, is_some, option_map}
use Rattle.clap.specs.Words.{Text}
use Rattle.url.specs.Parts.{Parts}
use Rattle.document_links.specs.Library.{Documents}
use Rattle.document_links.specs.declared.process.Process.{Process}
use Rattle.job_graph.specs.Words.{Fields}
use Rattle.job_record.specs.declared.fault.RecordFault.{RecordFault}
use Rattle.run_rules.specs.declared.setting.Options.{Options}
use Rattle.run_given.specs.Caches.{archive_of, is_twofold, record_of, times_of}
use Rattle.run_given.specs.Paths.{IsAt, from_root}
use Rattle.program_words.specs.RunWords.{IsChosen, RunWish}
use Rattle.resource_hints.specs.Hints.{Asked, IsAskedBy}
use Rattle.run_given.specs.Sources.{IsAccepted, IsDocumentStop, IsInputs, IsInputsStop}
use Rattle.run_given.specs.Stops.{IsUnread, most_bytes}
use Rattle.end_words.specs.declared.exit.Exit.{Exit}
use Rattle.end_words.specs.declared.exit.Exit.TheVariants as exits
use Rattle.end_words.specs.declared.exit.Fault.TheVariants as faults
use Rattle.run_given.specs.declared.given.Given.{Given}
use Rattle.run_given.specs.declared.given.Places.{Places}

-- ---- what the words of `run` name, for a program that is called in the folder `here`

-- what is read of a file has 64 MiB at most
abbrev pub IsRead : List ℕ → Type 0
IsRead bytes = length bytes ≤ most_bytes

-- the process of the document that is named: of some text at its URL, with some documents
abbrev pub IsNamedProcess : (here : Text) (words : RunWish) → Process → Type 0
IsNamedProcess here words process =
    (bytes : List ℕ) × (base : Parts) × (docs : Documents) × IsRead bytes × IsAt here words.document base × IsAccepted bytes base docs process

-- the text of the inputs: that of their file, or `{}` where none is named
abbrev pub IsInputsText : Option Text → List ℕ → Type 0
IsInputsText None bytes = bytes ≡ codes "{}"
IsInputsText (Some name) bytes = IsRead bytes

-- its URL is that of its file, or the document's
abbrev pub IsInputsUrl : (here : Text) (words : RunWish) → Parts → Type 0
IsInputsUrl here words base = IsAt here (unwrap_or words.inputs words.document) base

-- the inputs that are named: those of some text at their URL
abbrev pub IsNamedInputs : (here : Text) (words : RunWish) → Fields → Type 0
IsNamedInputs here words inputs =
    (bytes : List ℕ) × (base : Parts) × IsInputsText words.inputs bytes × IsInputsUrl here words base × IsInputs bytes base inputs

-- what the hints of these documents ask of launchers, where there is one
abbrev pub IsHinted : (launcher : Option Text) → List ℕ → Parts → Documents → Asked → Type 0
IsHinted None bytes base docs hints = hints ≡ []
IsHinted (Some launcher) bytes base docs hints = IsAskedBy bytes base docs hints

-- the hints are those of documents that the process is of
abbrev pub AreHinted : (here : Text) (words : RunWish) → Process → Asked → Type 0
AreHinted here words process hints =
    (bytes : List ℕ) × (base : Parts) × (docs : Documents) × IsRead bytes × IsAt here words.document base × IsAccepted bytes base docs process × IsHinted words.launcher bytes base docs hints

pub record IsReady (here : Text) (words : RunWish) (given : Given) : Type 0 where
  pub process : IsNamedProcess here words given.process
  pub hints : AreHinted here words given.process given.hints
  pub inputs : IsNamedInputs here words given.inputs

-- there is no such process, and the program ends so: the document's file can't be read, or its text is wrong
pub data IsNoProcess (here : Text) (words : RunWish) : Exit → Type 0 where
  document_unread : {exit : Exit} → IsUnread words.document exit → IsNoProcess here words exit
  document_wrong : {exit : Exit} (bytes : List ℕ) (base : Parts) (docs : Documents) → IsRead bytes → IsAt here words.document base →
      IsDocumentStop bytes base docs exit → IsNoProcess here words exit

-- their file can't be read, where one is named
abbrev pub IsInputsUnread : Option Text → Exit → Type 0
IsInputsUnread None exit = ⊥
IsInputsUnread (Some name) exit = IsUnread name exit

-- there are no such inputs
pub data IsNoInputs (here : Text) (words : RunWish) : Exit → Type 0 where
  inputs_unread : {exit : Exit} → IsInputsUnread words.inputs exit → IsNoInputs here words exit
  inputs_wrong : {exit : Exit} (bytes : List ℕ) (base : Parts) → IsInputsText words.inputs bytes → IsInputsUrl here words base →
      IsInputsStop bytes base exit → IsNoInputs here words exit

-- there is no such process, or else there are no such inputs
pub data IsNotGiven (here : Text) (words : RunWish) : Exit → Type 0 where
  no_process : {exit : Exit} → IsNoProcess here words exit → IsNotGiven here words exit
  no_inputs : {exit : Exit} (process : Process) → IsNamedProcess here words process → IsNoInputs here words exit → IsNotGiven here words exit

-- a cache is named beside a record or an archive; else the document is looked at first, then the inputs
pub data IsNotReady (here : Text) (words : RunWish) : Exit → Type 0 where
  twofold : is_twofold words ≡ true → IsNotReady here words (exits.Fault faults.Words)
  not_given : {exit : Exit} → is_twofold words ≡ false → IsNotGiven here words exit → IsNotReady here words exit

-- there is nothing to run or to plan: that, or else the record that is named can't be opened
pub data IsUnready (here : Text) (words : RunWish) : Exit → Type 0 where
  not_ready : {exit : Exit} → IsNotReady here words exit → IsUnready here words exit
  no_record : (given : Given) (file : Text) (fault : RecordFault) → is_twofold words ≡ false → IsReady here words given →
      record_of words ≡ Some file → IsUnready here words (exits.Fault (faults.Unopened file fault))

-- the folders of a run, and the file of times that are trusted, are those that are named
pub record AreNamed (here : Text) (words : RunWish) (places : Places) : Type 0 where
  pub work : places.work ≡ from_root here words.work
  pub outdir : places.outdir ≡ from_root here words.outdir
  pub archive : places.archive ≡ option_map (from_root here) (archive_of words)
  pub times : places.times ≡ times_of words

-- what a run may use, and where, with this `PATH`: the slots and the retries are those that the words give, else 1 and 0; so are what a load
-- costs, else 1, and how many bytes cost 1 more, else 100,000; and an archive is kept where the words name one
pub record IsAsked (here : Text) (words : RunWish) (path : Text) (options : Options) : Type 0 where
  pub work : options.work ≡ from_root here words.work
  pub outdir : options.outdir ≡ from_root here words.outdir
  pub path_env : options.path_env ≡ path
  pub slots : IsChosen 1 64 1 words.slots options.slots
  pub retries : IsChosen 0 10 0 words.retries options.retries
  pub base : IsChosen 0 1000000000000 1 words.base options.base
  pub rate : IsChosen 1 1000000000000 100000 words.rate options.rate
  pub keep : options.keep ≡ is_some (archive_of words)

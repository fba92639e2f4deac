-- What the parts of an opening make of the store, and may leave to a crash.
use Rattle.std.specs.Prelude.{◌≡◌, ◌⊎◌, ℕ, pos, Bool, true, false, Option, List, [], Result, Ok, Err, Any}
use Rattle.sqlite.specs.Order.{Row as Columns}
use Rattle.sqlite.specs.Store.{Ghosts}
use Rattle.sqlite.specs.Tree.{Trees}
use Rattle.sqlite.specs.Schema.{Schema}
use Rattle.sqlite.specs.declared.error.Error.{Error}
use Rattle.sqlite.specs.State.{State, KeepsCommit, CommitsShowing}
use Rattle.sqlite.specs.Steps.{FailsToCommit}
use Rattle.sqlite.specs.Held.{Held, state}
use Rattle.job_record.specs.declared.fault.RecordFault.{RecordFault}
use Rattle.job_record.specs.declared.fault.RecordFault.TheVariants.{NotARecord, WrongVersion, NoRow, Store, UsesSpent, OutOfMemory}
use Rattle.job_record.specs.declared.making.Tables.{Tables}
use Rattle.job_record.specs.declared.making.Tables.TheVariants as tables
use Rattle.job_record.specs.Statements.{version_text}
use Rattle.job_record.specs.Opening.{AreThere, ReadsVersion, RefusesVersion, GoesBack, HasNoBytes, CannotMigrate, begun, make_texts, migrate_texts, RunsAll, RefusesOne, Makes, FailsToMake, Migrates, MigratesFrom, AddsAll}
use Rattle.job_record.specs.OpenMap.{OpensAs, RefusesAs}
use Rattle.job_record.specs.Blame.{Blames}
use Rattle.job_record.specs.inner.Inside.{GoesOn, GoesTo}

abbrev pub tables_of : Bool → Bool → Bool → Result Tables RecordFault
tables_of true true true = Ok tables.All
tables_of true true false = Ok tables.First
tables_of false false false = Ok tables.None
tables_of _ _ _ = Err NotARecord

abbrev pub HasThese : Schema → Tables → Type 0
HasThese schema tables.None = AreThere schema false false false
HasThese schema tables.First = AreThere schema true true false
HasThese schema tables.All = AreThere schema true true true

-- the version is read, and is this one or refused
abbrev pub ReadsAs : Bool → State → State → ℕ → Result (Unit {0}) RecordFault → Type 0
ReadsAs archive old new n (Ok done) = ReadsVersion old new (Ok (pos n))
ReadsAs archive old new n (Err fault) = ReadsVersion old new (Err fault) ⊎ ((m : _) × ReadsVersion old new (Ok m) × RefusesVersion archive m fault)

-- a transaction in which all was done fails at its end
abbrev pub FailsToEnd : {T : Type 0} → State → State → Result T RecordFault → Result T RecordFault → Type 0
FailsToEnd old new (Ok value) (Err fault) = (e : Error) × (fault ≡ Store e) × FailsToCommit old new e
FailsToEnd old new answer result = Unit {0}

abbrev pub OpensMap : Option ℕ → State → State → Result (Unit {0}) RecordFault → Type 0
OpensMap budget old new (Ok done) = OpensAs budget old new
OpensMap budget old new (Err fault) = RefusesAs old new

module _ {S : Type 0} (g : Ghosts S) where
  -- the transaction that makes the tables
  abbrev pub RunsThese : Held S → Held S → List (List ℕ) → Result (Unit {0}) RecordFault → Type 0
  RunsThese old new texts (Ok done) = RunsAll g old new texts × GoesOn (state g old) (state g new)
  RunsThese old new texts (Err fault) = KeepsCommit (state g old) (state g new) × ((e : Error) × (fault ≡ Store e) × RefusesOne g old texts e)

  abbrev pub MakesOrFails : Held S → Held S → Result (Unit {0}) RecordFault → Type 0
  MakesOrFails old new (Ok done) = Makes g old new
  MakesOrFails old new (Err fault) = GoesBack (state g old) (state g new) × ((e : Error) × (fault ≡ Store e) × FailsToMake g old new e)

  abbrev pub CommitsTables : Held S → Trees → Type 0
  CommitsTables old trees = (last : Held S) × RunsAll g (begun g old) last make_texts × (trees ≡ (state g last).now.trees)

  -- the transaction that migrates them

  -- R1 for a row that does not read, and R4 for its cause
  abbrev pub CannotAdd : Held S → List Columns → RecordFault → Type 0
  CannotAdd at all NotARecord = Any HasNoBytes all
  CannotAdd at all WrongVersion = ⊥
  CannotAdd at all NoRow = ⊥
  CannotAdd at all (Store e) = Blames g migrate_texts at (Store e)
  CannotAdd at all UsesSpent = ⊥
  CannotAdd at all OutOfMemory = Unit {0}

  abbrev pub AddsOrFails : Held S → Held S → List Columns → Result (Unit {0}) RecordFault → Type 0
  AddsOrFails old new all (Ok done) = AddsAll g old new 0 all × GoesOn (state g old) (state g new) × GoesTo g migrate_texts old new
  AddsOrFails old new all (Err fault) = KeepsCommit (state g old) (state g new) × CannotAdd old all fault

  abbrev pub MigratesIn : Held S → Held S → Result (Unit {0}) RecordFault → Type 0
  MigratesIn old new (Ok done) = MigratesFrom g old new × GoesOn (state g old) (state g new) × GoesTo g migrate_texts old new
  MigratesIn old new (Err fault) = KeepsCommit (state g old) (state g new) × CannotMigrate g old fault

  abbrev pub MigratesOrFails : Held S → Held S → Result (Unit {0}) RecordFault → Type 0
  MigratesOrFails old new (Ok done) = Migrates g old new
  MigratesOrFails old new (Err fault) = GoesBack (state g old) (state g new) × CannotMigrate g (begun g old) fault

  abbrev pub CommitsMigrated : Held S → Trees → Type 0
  CommitsMigrated old trees = (last : Held S) × MigratesFrom g (begun g old) last × (trees ≡ (state g last).now.trees)

  abbrev pub OpensFirst : Held S → Held S → Result (Unit {0}) RecordFault → Type 0
  OpensFirst old new (Ok done) = (at : Held S) × ReadsVersion (state g old) (state g at) (Ok (pos 1)) × Migrates g at new
  OpensFirst old new (Err fault) =
      ReadsAs false (state g old) (state g new) 1 (Err fault)
      ⊎ ((at : Held S) × ReadsVersion (state g old) (state g at) (Ok (pos 1)) × GoesBack (state g at) (state g new) × CannotMigrate g (begun g at) fault)

  abbrev pub CommitsFirst : Held S → Trees → Type 0
  CommitsFirst old trees = CommitsShowing version_text [] (state g old) trees ⊎ ((at : Held S) × ReadsVersion (state g old) (state g at) (Ok (pos 1)) × CommitsMigrated at trees)

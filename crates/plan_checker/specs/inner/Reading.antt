-- What the reader of a certificate has found so far: with which lines the text begins, and that it has no next one.
use Rattle.std.specs.Prelude.{◌≡◌, ℕ, ◌+◌, ◌<◌, ◌≤◌, List, [], ◌∷◌, ◌++◌, length, All, Option, slice_index}
use Rattle.std.specs.Char.{IsAsciiDigit}
use Rattle.std.specs.Option.{ForSome}
use Rattle.std.specs.Fmt.{decimal}
use Rattle.plan_checker.specs.declared.vertex.Vertex.{Vertex}
use Rattle.plan_checker.specs.declared.plan.Mark.{Mark}
use Rattle.plan_checker.specs.declared.charges.Charges.{Charges}
use Rattle.plan_checker.specs.declared.row.Row.{Row}
use Rattle.plan_checker.specs.declared.row.Start.{Start}
use Rattle.plan_checker.specs.declared.row.Costs.{Costs}
use Rattle.plan_checker.specs.declared.draft.Draft.{Draft}
use Rattle.plan_checker.specs.declared.certificate_error.CertificateError.{CertificateError}
use Rattle.plan_checker.specs.declared.certificate_error.CertificateError.TheVariants.{NotACertificate, OutOfMemory}
use Rattle.plan_checker.specs.declared.graph.TheConstants.{MOST_VERTICES}
use Rattle.plan_checker.specs.Graph.{Fits, entries_below}
use Rattle.plan_checker.specs.Format.{IsSmall, spaced, letter, flag, load_field, pairs, row_numbers, line, lines, title, count_line, IsWhole}

-- what follows a number: nothing that could belong to it
abbrev pub EndsNumber : List ℕ → Type 0
EndsNumber rest = ¬ IsAsciiDigit (slice_index rest 0)

-- the text begins with a space and this number
pub record BeginsWithNumber (text : List ℕ) (number : ℕ) (rest : List ℕ) : Type 0 where
  pub small : IsSmall number
  pub ends : EndsNumber rest
  pub begins : text ≡ (32 ∷ decimal number) ++ rest

abbrev pub NoNumber : List ℕ → Type 0
NoNumber text = (number : ℕ) (rest : List ℕ) → ¬ BeginsWithNumber text number rest

-- the text begins with these numbers, each behind a space
pub record BeginsWithNumbers (text : List ℕ) (numbers rest : List ℕ) : Type 0 where
  pub small : All IsSmall numbers
  pub ends : EndsNumber rest
  pub begins : text ≡ spaced numbers ++ rest

-- the second line, and what follows it
pub record BeginsWithCount (text : List ℕ) (count : ℕ) (rest : List ℕ) : Type 0 where
  pub few : count ≤ MOST_VERTICES
  pub begins : text ≡ count_line count ++ rest

abbrev pub NoCount : List ℕ → Type 0
NoCount text = (count : ℕ) (rest : List ℕ) → ¬ BeginsWithCount text count rest

-- the first two lines, and what follows them
pub record BeginsWithHead (text : List ℕ) (count : ℕ) (rest : List ℕ) : Type 0 where
  pub few : count ≤ MOST_VERTICES
  pub begins : text ≡ title ++ count_line count ++ rest

-- a load cost behind a space, or a dash
pub record BeginsWithLoad (text : List ℕ) (load : Option ℕ) (rest : List ℕ) : Type 0 where
  pub small : ForSome load IsSmall
  pub ends : ForSome load (λ cost. EndsNumber rest)
  pub begins : text ≡ load_field load ++ rest

abbrev pub NoLoadField : List ℕ → Type 0
NoLoadField text = (load : Option ℕ) (rest : List ℕ) → EndsNumber rest → ¬ BeginsWithLoad text load rest

-- the first three fields of a line
abbrev pub start_text : Start → List ℕ
start_text start = letter start.mark ∷ 32 ∷ flag start.needed ∷ load_field start.load

pub record BeginsWithStart (text : List ℕ) (start : Start) (rest : List ℕ) : Type 0 where
  pub small : ForSome start.load IsSmall
  pub ends : ForSome start.load (λ cost. EndsNumber rest)
  pub begins : text ≡ start_text start ++ rest

abbrev pub NoStart : List ℕ → Type 0
NoStart text = (start : Start) (rest : List ℕ) → EndsNumber rest → ¬ BeginsWithStart text start rest

abbrev pub start_of : Row → Start
start_of row = record { mark = row.mark; needed = row.job.needed; load = row.job.load }

-- the numbers behind them, up to how many parents there are
abbrev pub first_numbers : Costs → List ℕ
first_numbers costs = costs.compute ∷ costs.enter ∷ costs.through ∷ costs.pay ∷ costs.parents ∷ []

abbrev pub NoCosts : List ℕ → Type 0
NoCosts text = (costs : Costs) (rest : List ℕ) → ¬ BeginsWithNumbers text (first_numbers costs) rest

abbrev pub costs_of : Row → Costs
costs_of row = record {
  compute = row.job.compute;
  enter = row.enter;
  through = row.through;
  pay = row.pay;
  parents = length row.job.parents;
}

abbrev pub NoPair : List ℕ → Type 0
NoPair text = (parent amount : ℕ) (rest : List ℕ) → ¬ BeginsWithNumbers text (parent ∷ amount ∷ []) rest

-- the text begins with so many pairs, and ends its line there
pub record BeginsWithPairs (text : List ℕ) (count : ℕ) (parents amounts rest : List ℕ) : Type 0 where
  pub counted : length parents ≡ count
  pub one_each : length amounts ≡ length parents
  pub begins : BeginsWithNumbers text (pairs parents amounts) (10 ∷ rest)

abbrev pub NoPairs : List ℕ → ℕ → Type 0
NoPairs text count = (parents amounts rest : List ℕ) → ¬ BeginsWithPairs text count parents amounts rest

-- a row that can be written: numbers of 64 bits, and one amount for each parent
pub record IsRow (row : Row) : Type 0 where
  pub one_each : length row.amounts ≡ length row.job.parents
  pub load_small : ForSome row.job.load IsSmall
  pub numbers_small : All IsSmall (row_numbers row)

-- the text begins with this row's line
pub record BeginsWithRow (text : List ℕ) (row : Row) (rest : List ℕ) : Type 0 where
  pub is_row : IsRow row
  pub begins : text ≡ line row ++ rest

-- the text begins with the line of no row with at most so many parents
abbrev pub NoRow : List ℕ → ℕ → Type 0
NoRow text most = (row : Row) (rest : List ℕ) → length row.job.parents ≤ most → ¬ BeginsWithRow text row rest

-- the row's vertex may follow these vertices
abbrev pub FitsNext : List Vertex → Row → Type 0
FitsNext graph row = Fits (length graph) (entries_below graph (length graph) + length row.job.parents) row.job

-- the text begins with the lines of these n vertices
pub record BeginsWithLines (text : List ℕ) (n : ℕ) (graph : List Vertex) (marks : List Mark) (charges : Charges) (rest : List ℕ) : Type 0 where
  pub whole : IsWhole graph marks charges
  pub counted : length graph ≡ n
  pub begins : text ≡ lines graph marks charges n ++ rest

-- the text begins with the lines of some vertices, fewer than are wanted, and then has no line of a next one
pub record StopsAt (text : List ℕ) (count number : ℕ) : Type 0 where
  pub graph : List Vertex
  pub marks : List Mark
  pub charges : Charges
  pub rest : List ℕ
  pub read : BeginsWithLines text (length graph) graph marks charges rest
  pub fewer : length graph < count
  pub no_next : (row : Row) (after : List ℕ) → BeginsWithRow rest row after → ¬ FitsNext graph row
  pub numbered : number ≡ length graph + 3

-- why no rows are read
abbrev pub StopsBy : List ℕ → ℕ → CertificateError → Type 0
StopsBy text count (NotACertificate number) = StopsAt text count number
StopsBy text count OutOfMemory = Unit {0}

-- the charges, and those of one vertex more
abbrev pub more_charges : Charges → Row → Charges
more_charges charges row = record {
  enter = charges.enter ++ row.enter ∷ [];
  through = charges.through ++ row.through ∷ [];
  pay = charges.pay ++ row.pay ∷ [];
  pass = charges.pass ++ row.amounts ∷ [];
}

-- the row is added to what was read
pub record AddsRow (old new : Draft) (row : Row) : Type 0 where
  pub vertices : new.vertices ≡ old.vertices ++ row.job ∷ []
  pub marks : new.plan.marks ≡ old.plan.marks ++ row.mark ∷ []
  pub charges : new.charges ≡ more_charges old.charges row

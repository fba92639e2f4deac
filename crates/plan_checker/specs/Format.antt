-- The text of a certificate, line by line, and the first bad line of a text that is none.
use Rattle.std.specs.Prelude.{◌≡◌, ℕ, zero, suc, ◌^◌, ◌<◌, ◌==◌, Bool, true, false, if◌then◌else◌, List, [], ◌∷◌, ◌++◌, length, All, Option, None, Some, codes, slice_index}
use Rattle.std.specs.Fmt.{decimal}
use Rattle.plan_checker.specs.declared.vertex.Vertex.{Vertex}
use Rattle.plan_checker.specs.declared.plan.Mark.{Mark}
use Rattle.plan_checker.specs.declared.plan.Mark.TheVariants.{Load, Compute, Prune}
use Rattle.plan_checker.specs.declared.charges.Charges.{Charges}
use Rattle.plan_checker.specs.declared.row.Row.{Row}
use Rattle.plan_checker.specs.declared.certificate_error.CertificateError.{CertificateError}
use Rattle.plan_checker.specs.declared.certificate_error.CertificateError.TheVariants.{NotACertificate, OutOfMemory}
use Rattle.plan_checker.specs.Graph.{vertex, IsGraph}
use Rattle.plan_checker.specs.Plan.{mark}
use Rattle.plan_checker.specs.Charges.{passes, IsCounted}

-- a number of 64 bits
abbrev pub IsSmall : ℕ → Type 0
IsSmall n = n < 2 ^ 64

-- numbers, each behind a space, in decimal without leading zeros
abbrev pub spaced : List ℕ → List ℕ
spaced [] = []
spaced (n ∷ ns) = 32 ∷ decimal n ++ spaced ns

abbrev pub letter : Mark → ℕ
letter Load = 76
letter Compute = 67
letter Prune = 80

abbrev pub flag : Bool → ℕ
flag true = 49
flag false = 48

-- a load cost behind a space, or a dash where there is none
abbrev pub load_field : Option ℕ → List ℕ
load_field (Some cost) = spaced (cost ∷ [])
load_field None = 32 ∷ 45 ∷ []

-- each parent and what is passed to it
abbrev pub pairs : List ℕ → List ℕ → List ℕ
pairs [] amounts = []
pairs (parent ∷ parents) [] = []
pairs (parent ∷ parents) (amount ∷ amounts) = parent ∷ amount ∷ pairs parents amounts

-- what a line says of its vertex, from the compute cost on
abbrev pub row_numbers : Row → List ℕ
row_numbers row =
    row.job.compute ∷ row.enter ∷ row.through ∷ row.pay ∷ length row.job.parents ∷ pairs row.job.parents row.amounts

-- a vertex's line
abbrev pub line : Row → List ℕ
line row =
    letter row.mark ∷ 32 ∷ flag row.job.needed ∷ load_field row.job.load ++ spaced (row_numbers row) ++ 10 ∷ []

-- the row of vertex i
abbrev pub row : List Vertex → List Mark → Charges → ℕ → Row
row graph marks charges i = record {
  job = vertex graph i;
  mark = mark marks i;
  enter = slice_index charges.enter i;
  through = slice_index charges.through i;
  pay = slice_index charges.pay i;
  amounts = passes charges i;
}

-- the lines of the vertices below n
abbrev pub lines : List Vertex → List Mark → Charges → ℕ → List ℕ
lines graph marks charges zero = []
lines graph marks charges (suc n) = lines graph marks charges n ++ line (row graph marks charges n)

-- the first line, and the second, which counts the vertices
abbrev pub title : List ℕ
title = codes "cwl-plan 1" ++ 10 ∷ []

abbrev pub count_line : ℕ → List ℕ
count_line n = codes "jobs" ++ spaced (n ∷ []) ++ 10 ∷ []

abbrev pub last_line : List ℕ
last_line = codes "end" ++ 10 ∷ []

-- the text of a certificate
abbrev pub certificate_text : List Vertex → List Mark → Charges → List ℕ
certificate_text graph marks charges =
    title ++ count_line (length graph) ++ lines graph marks charges (length graph) ++ last_line

-- each number is one of 64 bits
pub record AreSmall (charges : Charges) : Type 0 where
  pub enters : All IsSmall charges.enter
  pub throughs : All IsSmall charges.through
  pub pays : All IsSmall charges.pay
  pub passing : All (All IsSmall) charges.pass

-- the numbers of vertex i are
pub record AreSmallAt (charges : Charges) (i : ℕ) : Type 0 where
  pub enter : IsSmall (slice_index charges.enter i)
  pub through : IsSmall (slice_index charges.through i)
  pub pay : IsSmall (slice_index charges.pay i)
  pub passing : All IsSmall (passes charges i)

-- a graph with one mark and one entry of each kind for each vertex, and one pass for each parent
pub record IsWhole (graph : List Vertex) (marks : List Mark) (charges : Charges) : Type 0 where
  pub graph_fits : IsGraph graph
  pub marks_counted : length marks ≡ length graph
  pub charges_counted : IsCounted graph charges
  pub charges_small : AreSmall charges

-- the text is this certificate's
pub record IsTextOf (text : List ℕ) (graph : List Vertex) (marks : List Mark) (charges : Charges) : Type 0 where
  pub whole : IsWhole graph marks charges
  pub written : text ≡ certificate_text graph marks charges

-- the first n lines of a text, with their line feeds
abbrev pub first_lines : ℕ → List ℕ → List ℕ
first_lines zero text = []
first_lines (suc n) [] = []
first_lines (suc n) (byte ∷ text) = byte ∷ first_lines (if byte == 10 then n else suc n) text

-- some certificate's text has the same first n lines
pub record HasGoodLines (text : List ℕ) (n : ℕ) : Type 0 where
  pub graph : List Vertex
  pub marks : List Mark
  pub charges : Charges
  pub whole : IsWhole graph marks charges
  pub same : first_lines n (certificate_text graph marks charges) ≡ first_lines n text

-- the first bad line, counted from 1: some certificate has all the lines before it, and none has it behind them
pub record IsFirstBad (text : List ℕ) (number : ℕ) : Type 0 where
  pub good_before : (n : ℕ) → n < number → HasGoodLines text n
  pub bad : ¬ HasGoodLines text number

-- why a text is refused: it has a bad line, or out of memory
abbrev pub IsRefusedText : List ℕ → CertificateError → Type 0
IsRefusedText text (NotACertificate number) = IsFirstBad text number
IsRefusedText text OutOfMemory = Unit {0}

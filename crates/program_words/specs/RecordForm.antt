-- What the words of `record` ask for. `--forget`, `--budget`, `--long` and `--check` can't be used with one another, and `--remove` only with
-- `--check`.
use Rattle.std.specs.Prelude.{◌≡◌, ℕ, Bool, true, false, Option, None, Some, is_some}
use Rattle.program_words.specs.RecordWords.{RecordWish}
use Rattle.program_words.specs.RunWords.{IsBudget}
use Rattle.program_words.specs.declared.record_form.RecordForm.{RecordForm}
use Rattle.program_words.specs.declared.record_form.RecordForm.TheVariants.{Rows, Long, Trim, Check, Misused}

abbrev pub form_of : (forgets : Bool) (budget : Option ℕ) (long check remove : Bool) → RecordForm
form_of forgets None false false false = Rows
form_of false None true false false = Long
form_of false (Some budget) false false false = Trim budget
form_of false None false true remove = Check remove
form_of forgets budget long check remove = Misused

-- by the number of the budget, if it has one
abbrev pub IsForm : RecordWish → RecordForm → Type 0
IsForm wish form = (budget : Option ℕ) × IsBudget wish.budget budget × (form ≡ form_of (is_some wish.forget) budget wish.long wish.check wish.remove)

-- An ending that shows no row.
use Rattle.record_program.specs.declared.ending.Ending.{Ending}
use Rattle.record_program.specs.declared.ending.Ending.TheVariants.{Rows, Input, Record}
use Rattle.record_program.specs.Endings.{ShowsNone, IsEnding, no_file, faulty}

pub is_ending : (ending : Ending) → ShowsNone ending → IsEnding ending
is_ending (Rows text) none = absurd none
is_ending Input none = no_file
is_ending (Record fault) none = faulty fault

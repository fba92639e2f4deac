-- The short names of refusals.
use Rattle.std.specs.Prelude.{ℕ, List, codes}
use Rattle.file_values.specs.declared.refusal.FileFault.{FileFault}
use Rattle.file_values.specs.declared.refusal.FileFault.TheVariants.{Read, NotAFileUrl, NotUtf8}

abbrev pub code_of : FileFault → List ℕ
code_of Read = codes "F1"
code_of NotAFileUrl = codes "F2"
code_of NotUtf8 = codes "F3"

-- What an exit code means (CWL v1.2, CommandLineTool: successCodes, temporaryFailCodes and permanentFailCodes). This
-- project's choices are: that an end by a signal is temporary, that the lists count in this order, and that 0 is a success
-- where successCodes is given without it.
use Rattle.std.specs.Prelude.{zero, suc, ℤ, pos, negsuc, Bool, if◌then◌else◌, List, Option, Some, None}
use Rattle.std.specs.List.{list_any}
use Rattle.std.specs.Ordering.{int_eq}
use Rattle.cwl_process.specs.declared.tool.ExitCodes.{ExitCodes}
use Rattle.proc_host.specs.declared.child.ExitClass.{ExitClass}
use Rattle.proc_host.specs.declared.child.ExitClass.TheVariants.{Success, Temporary, Permanent}

-- whether a list has the code
abbrev pub has : ℤ → List ℤ → Bool
has code codes = list_any (λ listed. int_eq listed code) codes

-- what a code means that no list has
abbrev pub unlisted : ℤ → ExitClass
unlisted (pos zero) = Success
unlisted (pos (suc n)) = Permanent
unlisted (negsuc n) = Permanent

-- the class of an end: that of the first of a tool's lists that has its code
abbrev pub class_of : ExitCodes → Option ℤ → ExitClass
class_of codes None = Temporary
class_of codes (Some code) =
    (if has code codes.success then Success
    else (if has code codes.temporary then Temporary
    else (if has code codes.permanent then Permanent
    else unlisted code)))

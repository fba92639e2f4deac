-- The definitions, computed.
use Rattle.std.proofs.Common.{◌≡◌, pos, negsuc, Some, None, [], ◌∷◌, refl}
use Rattle.command_line.specs.declared.launch.Launch.{Launch}
use Rattle.cwl_process.specs.declared.tool.ExitCodes.{ExitCodes}
use Rattle.proc_host.specs.declared.call.HostAnswer.TheVariants as answers
use Rattle.proc_host.specs.declared.call.HostFault.TheVariants as faults
use Rattle.proc_host.specs.declared.call.HostRequest.TheVariants as requests
use Rattle.proc_host.specs.declared.child.ExitClass.TheVariants.{Success, Temporary, Permanent}
use Rattle.proc_host.specs.ExitClass.{class_of}
use Rattle.proc_host.specs.Log.{starts}
use Rattle.proc_host.specs.Tickets.{without, IsFresh}

-- a tool that lists no codes, and one whose lists have one code each
abbrev no_codes : ExitCodes
no_codes = record { success = []; temporary = []; permanent = [] }

abbrev three_codes : ExitCodes
three_codes = record { success = pos 3 ∷ []; temporary = pos 4 ∷ []; permanent = pos 0 ∷ [] }

zero_is_success : class_of no_codes (Some (pos 0)) ≡ Success
zero_is_success = refl

one_is_permanent : class_of no_codes (Some (pos 1)) ≡ Permanent
one_is_permanent = refl

below_zero_is_permanent : class_of no_codes (Some (negsuc 0)) ≡ Permanent
below_zero_is_permanent = refl

a_signal_is_temporary : class_of three_codes None ≡ Temporary
a_signal_is_temporary = refl

three_is_success_where_listed : class_of three_codes (Some (pos 3)) ≡ Success
three_is_success_where_listed = refl

four_is_temporary_where_listed : class_of three_codes (Some (pos 4)) ≡ Temporary
four_is_temporary_where_listed = refl

zero_is_permanent_where_listed : class_of three_codes (Some (pos 0)) ≡ Permanent
zero_is_permanent_where_listed = refl

five_is_permanent_where_not_listed : class_of three_codes (Some (pos 5)) ≡ Permanent
five_is_permanent_where_not_listed = refl

-- of two lists that have the code the first counts
success_before_temporary : class_of (record { success = pos 7 ∷ []; temporary = pos 7 ∷ []; permanent = pos 7 ∷ [] }) (Some (pos 7)) ≡ Success
success_before_temporary = refl

temporary_before_permanent : class_of (record { success = []; temporary = pos 7 ∷ []; permanent = pos 7 ∷ [] }) (Some (pos 7)) ≡ Temporary
temporary_before_permanent = refl

the_second_is_closed : without 2 (1 ∷ 2 ∷ 3 ∷ []) ≡ 1 ∷ 3 ∷ []
the_second_is_closed = refl

four_is_fresh : IsFresh 4 (1 ∷ 3 ∷ [])
four_is_fresh = refl

no_start_at_first : starts [] ≡ 0
no_start_at_first = refl

-- a start that failed, and every other answer, is none
one_start_of_four : (launch : Launch) → starts (
    record { request = requests.Start launch; answer = answers.Failed faults.Start }
    ∷ record { request = requests.Start launch; answer = answers.Started 1 }
    ∷ record { request = requests.Collect; answer = answers.Failed faults.Collect }
    ∷ record { request = requests.Collect; answer = answers.Ended (record { ticket = 1; code = Some (pos 0); millis = 0 }) }
    ∷ []) ≡ 1
one_start_of_four launch = refl

use Rattle.std.proofs.Common.{◌≡◌, drop}
use Rattle.std.specs.List.{list_all}
use Rattle.type_check.specs.Fits.{fits as fits_of}
use Rattle.type_check.proofs.fitting.+fitting.Given as goal

abbrev pub invariant-all_fit-loop-value : goal.invariant-all_fit-loop-value
invariant-all_fit-loop-value l = list_all (fits_of l.fn.members) (drop l.value-index l.fn.values) ≡ list_all (fits_of l.fn.members) l.fn.values

abbrev pub invariant-fits-loop-member : goal.invariant-fits-loop-member
invariant-fits-loop-member l = fits_of (drop l.member-index l.fn.members) l.fn.value ≡ fits_of l.fn.members l.fn.value

-- The floats that the code's literals are.
use Rattle.std.proofs.Common.{◌≡◌, refl}
use Rattle.std.specs.Float.{binary64, float_zero, two_to}
use lib.Ieee.{of_bits}

pub zero_is : of_bits binary64 0 ≡ float_zero
unfolding of_bits
zero_is = refl

pub two_to_64_is : of_bits binary64 0x43f0_0000_0000_0000 ≡ two_to 64
unfolding of_bits
two_to_64_is = refl

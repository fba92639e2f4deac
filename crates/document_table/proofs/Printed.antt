-- What is written of a value is its compact text, and which numbers are whole.
use Rattle.std.proofs.Common.{◌≡◌, ℕ, ℤ, Some, None, true, false, decimal, refl, ap}
use Rattle.std.specs.Fmt.{signed_decimal}
use Rattle.std.proofs.lemmas.Option.{none-some, same_Some}
use Rattle.json.specs.Print.{print}
use Rattle.json.specs.Tree.{json_tokens}
use Rattle.serde_json.specs.Data.{Data, Num, unsigned, negative, float}
use Rattle.serde_json.specs.Find.{as_i64, as_u64, is_float}
use Rattle.serde_json.specs.Written.{compact_text, number_text, outline}
use Rattle.serde_json.proofs.Texts.{print-outline}
use Rattle.document_table.proofs.Faultless.{some_is_not_none}

pub printed_compactly : (d : Data) → print (json_tokens (outline d)) ≡ compact_text d
printed_compactly = print-outline

pub from_zero : (n : Num) (whole : ℕ) → as_u64 n ≡ Some whole → (is_float n ≡ false) × (number_text n ≡ decimal whole)
from_zero (unsigned m) whole is = (refl, ap decimal (same_Some m whole is))
from_zero (negative z) whole is = absurd (none-some whole is)
from_zero (float x) whole is = absurd (none-some whole is)

pub with_sign : (n : Num) (whole : ℤ) → as_u64 n ≡ None → as_i64 n ≡ Some whole → (is_float n ≡ false) × (number_text n ≡ signed_decimal whole)
with_sign (unsigned m) whole none is = absurd (some_is_not_none m none)
with_sign (negative z) whole none is = (refl, ap signed_decimal (same_Some z whole is))
with_sign (float x) whole none is = absurd (none-some whole is)

pub not_whole : (n : Num) → as_u64 n ≡ None → as_i64 n ≡ None → is_float n ≡ true
not_whole (unsigned m) none nor = absurd (some_is_not_none m none)
not_whole (negative z) none nor = absurd (some_is_not_none z nor)
not_whole (float x) none nor = refl

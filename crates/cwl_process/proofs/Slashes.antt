-- A text without a `/`.
use Rattle.std.proofs.Common.{◌≡◌, ℕ, suc, ◌+◌, ◌==◌, List, [], ◌∷◌, length, Bool, true, false, cond, ◌||◌, refl, arith}
use Rattle.std.specs.Prelude.{not}
use Rattle.std.specs.List.{position_or_len}
use Rattle.document_table.specs.Texts.{has_byte}

one_more : (test : Bool) (rest len : ℕ) (later : Bool) → (rest ≡ len → later ≡ false) → cond (not test) (1 + rest) 0 ≡ suc len → (test || later) ≡ false
one_more true rest len later absent is = absurd (omega (arith, is))
one_more false rest len later absent is = absent (omega (arith, is))

pub no_slash : (text : List ℕ) → position_or_len (λ c. c == 47) text ≡ length text → has_byte 47 text ≡ false
no_slash [] is = refl
no_slash (c ∷ text) is = one_more (c == 47) (position_or_len (λ c. c == 47) text) (length text) (has_byte 47 text) (no_slash text) is

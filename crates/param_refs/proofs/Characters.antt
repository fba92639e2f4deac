-- Counting through the characters of a text, and reading an index.
use Rattle.std.proofs.Common.{◌≡◌, ℕ, zero, suc, ◌-◌, ◌<◌, ◌≤◌, List, [], ◌∷◌, ◌++◌, length, Option, None, option_map, refl, sym, ap, ◌∙◌, arith}
use Rattle.std.specs.List.{slice_get}
use Rattle.std.specs.Str.{chars, IsUtf8}
use Rattle.std.specs.Char.{encode_utf8}
use Rattle.param_refs.specs.Descent.{character}
use Rattle.std.proofs.lemmas.Str.{chars_past_char, chars-nil, IsUtf8-past_char, length-le-encodes, encodes-chars}
use Rattle.std.proofs.lemmas.Option.{slice_get_past}

-- what is left to count through: the character at an index of the whole is the one at what is left of the index
pub record Counting (text : List ℕ) (index : ℕ) (rest : List ℕ) (left : ℕ) : Type 0 where
  pub utf8 : IsUtf8 rest
  pub same : slice_get (chars text) index ≡ slice_get (chars rest) left

next_index : (c : ℕ) (cs : List ℕ) (left : ℕ) → 0 < left → slice_get (c ∷ cs) left ≡ slice_get cs (left - 1)
next_index c cs zero some = absurd (omega arith)
next_index c cs (suc k) some = let e : suc k - 1 ≡ k = omega arith in rw e refl

pub counting-next : (text : List ℕ) (index : ℕ) (rest : List ℕ) (left : ℕ) (c : ℕ) (after : List ℕ) → Counting text index rest left → rest ≡ encode_utf8 c ++ after → 0 < left → Counting text index after (left - 1)
counting-next text index rest left c after h parts some =
    record {
      utf8 = IsUtf8-past_char rest after c h.utf8 parts;
      same = h.same ∙ ap (λ cs. slice_get cs left) (chars_past_char rest after c h.utf8 parts) ∙ next_index c (chars after) left some;
    }

pub counting-past : (text : List ℕ) (index : ℕ) (rest : List ℕ) (left : ℕ) → Counting text index rest left → length rest ≡ 0 → None ≡ slice_get (chars text) index
counting-past text index [] left h none = sym (h.same ∙ ap (λ cs. slice_get cs left) chars-nil)
counting-past text index (b ∷ rest) left h none = absurd (omega arith)

-- a text has no more characters than bytes
pub no_character : (text : List ℕ) (n : ℕ) → IsUtf8 text → length text ≤ n → slice_get (chars text) n ≡ None
no_character text n utf8 past =
    slice_get_past (chars text) n (omega (arith, length-le-encodes (chars text), ap length (encodes-chars text utf8)))

-- the character as a text of its own
pub character_is : (text copy : List ℕ) (n index : ℕ) (r : Option ℕ) → copy ≡ text → n ≡ index → r ≡ slice_get (chars copy) index → option_map encode_utf8 r ≡ character text n
character_is text copy n index r same_text same_index is =
    ap (option_map encode_utf8) (is ∙ ap (λ t. slice_get (chars t) index) same_text ∙ ap (slice_get (chars text)) (sym same_index))

-- What the loops over the items of a list give.
use Rattle.std.specs.Prelude.{ℕ, List, [], ◌∷◌, ◌++◌, Option, Some, option_map}
use Rattle.std.specs.Option.{option_to_list}
use Rattle.cwl_types.specs.declared.types.ArrayType.{ArrayType}
use Rattle.cwl_value.specs.declared.value.Value.{Value}
use Rattle.command_line.specs.Added.{Style, adds, gathered, item_style, item_types, prefixed, separated, text_of}

-- a list's words without a separator
abbrev pub each_words : Style → Option ArrayType → List Value → Option (List (List ℕ))
each_words style array [] = Some []
each_words style array (v ∷ vs) = option_map (λ words. option_to_list style.prefix ++ words) (gathered (λ w. adds w (item_types array) (item_style array)) (v ∷ vs))

-- a list's words with one
abbrev pub joined_words : Style → List ℕ → List Value → Option (List (List ℕ))
joined_words style separator [] = Some []
joined_words style separator (v ∷ vs) = option_map (prefixed style) (separated separator (v ∷ vs))

-- the texts after the first
abbrev pub rest_text : List ℕ → List Value → Option (List ℕ)
rest_text separator = gathered (λ w. option_map (λ text. separator ++ text) (text_of w))

-- Words and samples of an array type, from those of its items.
use Rattle.std.proofs.Common.{◌≡◌, ◌++◌, ◌∷◌, ℕ, List, [], codes}
use Rattle.cwl_types.specs.declared.types.ArrayType.{ArrayType, out-ArrayType}
use Rattle.cwl_types.specs.declared.types.MemberType.TheFolds.{fold_out-ArrayType}
use Rattle.cwl_value.specs.declared.value.Value as values
use Rattle.cwl_value.specs.declared.value.Value.{Value}
use Rattle.input_forms.specs.Lines.{array_words, list_words, type_words, words_at}
use Rattle.input_forms.specs.Samples.{array_sample, list_sample, sample_at, type_sample}

pub words_of_array : (array : ArrayType) → array_words array ≡ codes "a list of " ++ type_words (out-ArrayType array).items
words_of_array array = fold_out-ArrayType (List ℕ) (List ℕ) words_at list_words array

pub sample_of_array : (array : ArrayType) → array_sample array ≡ values.List (type_sample (out-ArrayType array).items ∷ [])
sample_of_array array = fold_out-ArrayType Value Value sample_at list_sample array

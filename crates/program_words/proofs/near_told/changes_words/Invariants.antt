use Rattle.std.proofs.Common.{◌≡◌, flat_map, string_bytes, take}
use Rattle.program_words.specs.NearWords.{change_line}
use Rattle.program_words.proofs.near_told.changes_words.Given as goal

abbrev pub invariant-loop-change : goal.invariant-loop-change
invariant-loop-change l = string_bytes l.words ≡ flat_map (change_line l.whose) (take l.change-index l.changes)

use Rattle.std.proofs.Common.{◌≡◌, ◌++◌, All, take}
use Rattle.std.specs.List.{flat_map}
use Rattle.std.specs.Result.{IsOk}
use Rattle.command_line.specs.inner.View.{bound_of}
use Rattle.command_line.specs.Words.{words_at, words_of}
use Rattle.command_line.proofs.words.append_all.Given as goal

abbrev pub invariant-loop-row : goal.invariant-loop-row
invariant-loop-row l = record {
  words : l.words.items ≡ l.initial.words.items ++ flat_map (λ row. words_at l.scope.inputs.now l.scope.runtime.now (bound_of row)) (take l.row-index l.rows);
  all_there : All (λ row. IsOk (words_of l.scope.inputs.now l.scope.runtime.now (bound_of row))) (take l.row-index l.rows);
}

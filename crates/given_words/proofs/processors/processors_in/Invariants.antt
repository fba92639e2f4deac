use Rattle.std.proofs.Common.{◌≡◌, ◌≤◌, ◌&&◌}
use Rattle.given_words.specs.Processors.{count_below, list_has}
use Rattle.given_words.proofs.processors.processors_in.Given as goal

abbrev pub invariant-loop-number : goal.invariant-loop-number
invariant-loop-number l = record {
  counted : l.count ≡ count_below (λ number. list_has l.allowed number && list_has l.online number) l.number;
  bounded : l.count ≤ l.number;
}

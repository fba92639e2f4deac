use Rattle.std.proofs.Common.{◌≡◌, ◌++◌, map, string_bytes}
use Rattle.std.specs.Prelude.{filter}
use Rattle.run_given.specs.Paths.{leads_on, rooted}
use Rattle.run_given.proofs.paths.add_steps.Given as goal

abbrev pub invariant-loop-component : goal.invariant-loop-component
invariant-loop-component l = string_bytes l.path ≡ string_bytes l.fn.path ++ rooted (filter leads_on (map (λ s. s.now) l.yielded))

use Rattle.std.proofs.Common.{false}
use Rattle.std.specs.BTreeMap.{get}
use Rattle.std.specs.List.{list_any}
use Rattle.std.specs.Option.{option_map_or}
use Rattle.std.specs.Ordering.{nat_cmp}
use Rattle.job_graph.specs.inner.Makers.{is_this}
use Rattle.job_graph.specs.inner.Marks.{mark_of}
use Rattle.job_graph.proofs.Gathering.{PutsUntil}
use Rattle.job_graph.proofs.makers.Noted.numbers.Given as goal

abbrev pub invariant-loop-place : goal.invariant-loop-place
invariant-loop-place l =
    PutsUntil (λ job. option_map_or (is_this job) (get nat_cmp l.self.by_mark (mark_of job)) false) (λ job. list_any (is_this job) l.place-iterator) l.known l.initial.numbers l.numbers

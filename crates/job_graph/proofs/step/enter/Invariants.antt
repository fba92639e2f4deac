use Rattle.std.proofs.Common.{◌≡◌, take, drop, map, fold, []}
use Rattle.std.specs.List.{flat_map}
use Rattle.job_graph.specs.Equations.{fault_at, step_place}
use Rattle.job_graph.specs.Links.{all_given, entry_value, with_entry}
use Rattle.job_graph.specs.Words.{Name}
use Rattle.job_graph.specs.declared.partly.Partly.{Partly}
use Rattle.job_graph.specs.inner.Views.{met_of}
use Rattle.job_graph.proofs.step.enter.Given as goal

abbrev pub invariant-loop-input : goal.invariant-loop-input
invariant-loop-input l = record {
  faults : map met_of l.entered.faults ≡ flat_map (λ (e : Name × Partly). fault_at (step_place l.place l.id []) e.1) (map (λ i. (i.0, entry_value l.measures l.inputs l.env i.1)) (take l.input-index l.input-items));
  values : fold with_entry l.entered.values (map (λ i. (i.0, entry_value l.measures l.inputs l.env i.1)) (drop l.input-index l.input-items))
      ≡ all_given (map (λ i. (i.0, entry_value l.measures l.inputs l.env i.1)) l.input-items);
}

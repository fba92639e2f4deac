use Rattle.std.proofs.Common.{◌≡◌, take, drop}
use Rattle.input_files.specs.Taken.{taken_fault, taken_values}
use Rattle.input_files.proofs.taken.process_inputs.Given as goal

abbrev pub invariant-loop-input : goal.invariant-loop-input
invariant-loop-input g l = record {
  sound_so_far : taken_fault g.P.Parameter.of l.measures l.fields l.inputs ≡ taken_fault g.P.Parameter.of l.measures l.fields (drop l.input-index l.inputs);
  so_far : l.taken ≡ taken_values g.P.Parameter.of l.measures (take l.input-index l.inputs) l.fields;
}

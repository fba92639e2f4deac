use Rattle.std.proofs.Common.{◌≡◌, ℕ, List, take}
use Rattle.std.specs.BTreeSet.{contains_by}
use Rattle.std.specs.Cmp.Lexicographic.{slice_cmp}
use Rattle.std.specs.List.{list_any}
use Rattle.std.specs.Ordering.{nat_cmp}
use Rattle.std.specs.Prelude.{bytes_eq}
use Rattle.input_files.specs.Paths.{each_once}
use Rattle.input_files.proofs.names.each_once.Given as goal

abbrev pub invariant-loop-name : goal.invariant-loop-name
invariant-loop-name l = record {
  seen : (name : List ℕ) → contains_by (λ k. slice_cmp nat_cmp name k.now) l.seen ≡ list_any (bytes_eq name) l.once;
  once : l.once ≡ each_once (take l.name-index l.names);
}

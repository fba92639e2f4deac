use Rattle.std.proofs.Common.{◌≡◌, ℕ, List, [], drop, map, take, bytes_eq}
use Rattle.std.specs.BTreeSet.{contains_by}
use Rattle.std.specs.Cmp.Lexicographic.{slice_cmp}
use Rattle.std.specs.List.{list_any}
use Rattle.std.specs.Ordering.{nat_cmp}
use Rattle.document_table.specs.Repeats.{repeat_after}
use Rattle.document_table.proofs.repeats.first_repeat.Given as goal

abbrev pub invariant-loop-name : goal.invariant-loop-name
invariant-loop-name l =
    let before = map (λ name. name.now) (take l.name-index l.names) in
    record {
      seen : (id : List ℕ) → contains_by (λ k. slice_cmp nat_cmp id k.now) l.seen ≡ list_any (bytes_eq id) before;
      same : repeat_after before (map (λ name. name.now) (drop l.name-index l.names)) ≡ repeat_after [] (map (λ name. name.now) l.names);
    }

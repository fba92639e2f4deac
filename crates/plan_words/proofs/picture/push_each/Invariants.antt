use Rattle.std.proofs.Common.{◌≡◌, ◌++◌, slice_index, string_bytes}
use Rattle.plan_words.specs.Lines.{texts_below}
use Rattle.plan_words.specs.Picture.{arrow}
use Rattle.plan_words.proofs.picture.push_each.Given as goal

abbrev pub invariant-loop-i : goal.invariant-loop-i
invariant-loop-i l = string_bytes l.text ≡ string_bytes l.fn.text ++ texts_below l.i (λ k. arrow l.fn.plan.marks (slice_index l.parents k) l.fn.child (slice_index l.amounts k))

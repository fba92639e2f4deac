use Rattle.plain_data.proofs.Once.{order_sorted, once_sorted, is_sorted, repeat_counts}
use Rattle.plain_data.proofs.keyed.Keyed.from_entries.Goals as goal

pub invariant_of-result : goal.invariant_of-result
invariant_of-result g c = order_sorted _ _ c.sorted-entries.ensures.moved c.sorted-entries.ensures.climbs (rw (← c.as_slice.ensures.value) c.in-None.ensures)

pub returns-in-None-clause-ok : goal.returns-in-None-clause-ok
returns-in-None-clause-ok g c = is_sorted _ _ c.sorted-entries.ensures.moved c.sorted-entries.ensures.climbs (rw (← c.as_slice.ensures.value) c.in-None.ensures)

pub returns-in-None-clause-once : goal.returns-in-None-clause-once
returns-in-None-clause-once g c = once_sorted _ _ c.sorted-entries.ensures.moved c.sorted-entries.ensures.climbs (rw (← c.as_slice.ensures.value) c.in-None.ensures)

pub returns-in-Some-clause-err : goal.returns-in-Some-clause-err
returns-in-Some-clause-err g c = repeat_counts _ _ c.in-Some.index _ c.sorted-entries.ensures.moved (rw (← c.as_slice.ensures.value) c.in-Some.ensures) c.swap_remove-name.ensures.value

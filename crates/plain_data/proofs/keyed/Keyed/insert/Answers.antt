use Rattle.std.proofs.Common.{sym}
use Rattle.plain_data.proofs.Place.{value_at_read, put_at_read, order_at_read, value_at_gap, insert_in_gap, order_in_gap, not_found_in_gap}
use Rattle.plain_data.proofs.keyed.Keyed.insert.Goals as goal

-- the name was there, and its value is written over
pub invariant_of-self : goal.invariant_of-self
invariant_of-self g c =
    order_at_read c.args.name _ _ _ c.self.invariant (rw (c.self.view_is, ← c.as_str.ensures.bytes) c.in-Ok.ensures) c.index_mut-entry.ensures.value _

pub returns-in-Ok-clause-old : goal.returns-in-Ok-clause-old
returns-in-Ok-clause-old g c =
    rw (c.replace.ensures.value, ← c.self.view_is) (value_at_read c.args.name _ _ _ c.self.invariant (rw (c.self.view_is, ← c.as_str.ensures.bytes) c.in-Ok.ensures) c.index_mut-entry.ensures.value)

pub returns-in-Ok-clause-new : goal.returns-in-Ok-clause-new
returns-in-Ok-clause-new g c =
    rw (c.replace.ensures.after, ← c.self.view_is) (put_at_read c.args.name _ _ _ c.self.invariant (rw (c.self.view_is, ← c.as_str.ensures.bytes) c.in-Ok.ensures) c.index_mut-entry.ensures.value _)

-- the name is new, and goes into the gap for it
pub invariant_of-self-in-Err : goal.invariant_of-self-in-Err
invariant_of-self-in-Err g c =
    rw c.in_ok-put_entry-in-Err.ensures.items (order_in_gap c.args.name _ _ c.self.invariant (rw (c.self.view_is, ← c.as_str.ensures.bytes) c.in-Err.ensures) _)

pub returns-in_ok-put_entry-in-Err-clause-old : goal.returns-in_ok-put_entry-in-Err-clause-old
returns-in_ok-put_entry-in-Err-clause-old g c =
    rw (← c.self.view_is) (sym (value_at_gap c.args.name _ c.in-Err.index c.self.invariant (rw (c.self.view_is, ← c.as_str.ensures.bytes) c.in-Err.ensures)))

pub returns-in_ok-put_entry-in-Err-clause-new : goal.returns-in_ok-put_entry-in-Err-clause-new
returns-in_ok-put_entry-in-Err-clause-new g c =
    rw (c.in_ok-put_entry-in-Err.ensures.items, ← c.self.view_is) (insert_in_gap c.args.name _ _ c.self.invariant (rw (c.self.view_is, ← c.as_str.ensures.bytes) c.in-Err.ensures) _)

-- only a new name needs memory
pub returns-in_err-put_entry-in-Err-clause-replaces :
    goal.returns-in_err-put_entry-in-Err-clause-replaces
returns-in_err-put_entry-in-Err-clause-replaces g c =
    rw (← c.self.view_is) (λ found. absurd (not_found_in_gap c.args.name _ c.in-Err.index c.self.invariant (rw (c.self.view_is, ← c.as_str.ensures.bytes) c.in-Err.ensures) found))

use Rattle.plan_call.proofs.plan_texts.waiting_of.Goals as goal

pub returns : goal.returns
returns c = rw (c.as_slice-2.ensures.value, c.in_ok-ids.ensures, c.as_slice.ensures.value, c.in_ok-jobs.ensures) at c.lines_on.ensures

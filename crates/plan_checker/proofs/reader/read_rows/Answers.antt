use Rattle.std.proofs.Common.{ℕ, ◌+◌, length, subst, refl, ap, ◌∙◌, rules, arith}
use Rattle.plan_checker.specs.Graph.{Fits}
use Rattle.plan_checker.specs.inner.Reading.{BeginsWithRow, AddsRow}
use Rattle.plan_checker.proofs.ReadRows.{no_row_next, rows_fit, entries_pushed, unfit}
use Rattle.plan_checker.proofs.reader.read_rows.Goals as goal

pub returns-in_default : goal.returns-in_default
returns-in_default c =
    let none = rw c.in_default.is at c.in_ok-row.ensures in
    no_row_next c.args.text.now c.loop-i.i c.args.count _ _ _ _ _ c.loop-i.invariant.read c.loop-i-test.true none refl

pub returns-then-not-fits : goal.returns-then-not-fits
returns-then-not-fits c = first_of (search (rules, unfit), grind (arith, unfit))

pub loop-i-preserved : goal.loop-i-preserved
loop-i-preserved c =
    let next : BeginsWithRow c.loop-i.rest.now c.in-Some.row c.in-Some.after.now = first_of (search rules, grind arith) in
    let fits : Fits c.loop-i.i (c.loop-i.entries + length c.in-Some.row.job.parents) c.in-Some.row.job = first_of (search rules, grind arith) in
    let adds : AddsRow c.loop-i.draft c.push.new.self c.in-Some.row = c.in_ok-push.ensures in
    let at : ℕ → Type 0 = λ e. Fits c.loop-i.i (e + length c.in-Some.row.job.parents) c.in-Some.row.job in
    record {
      read = rows_fit _ _ _ _ _ _ _ _ _ _ _ c.loop-i.invariant.read next (subst at c.loop-i.invariant.counted fits) adds.vertices adds.marks adds.charges;
      counted =
          ap (λ k. c.loop-i.entries + k) c.len-entries.ensures
          ∙ entries_pushed _ _ _ _ _ _ _ _ _ c.loop-i.invariant.read c.loop-i.invariant.counted adds.vertices;
    }

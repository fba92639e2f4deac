use Rattle.std.proofs.Common.{◌≡◌, ◌∷◌, ◌+◌, drop, length, ◌≤◌, sym, ap, ◌∙◌, arith}
use Rattle.staging.specs.declared.item.PatternItem.TheVariants.{Run}
use Rattle.staging.proofs.Standing.{item_here, run_is, past_end, stuck_past, stuck_begins, stuck_takes}
use Rattle.staging.proofs.matching.next_step.Goals as goal

pub returns-in-Some-first_char : goal.returns-in-Some-first_char
returns-in-Some-first_char c =
    let past : length c.args.items.now ≤ c.args.here.at = omega (arith, c.in_default.ensures) in
    stuck_past c.args.items.now c.args.here _ _ (past_end c.args.items.now c.args.here.at past) c.in-Some-first_char.ensures.0

pub returns-else-may_begin : goal.returns-else-may_begin
returns-else-may_begin c =
    let items_are = item_here c.args.items.now c.args.here.at c.in-Some.item.now c.in-Some.ensures.lookup.3.0 c.in-Some.ensures.lookup.1 in
    let run : c.in-Some.item.now ≡ Run = run_is c.in-Some.item.now (sym c.is_run.ensures ∙ c.if-is_run.true) in
    stuck_begins c.args.items.now c.args.here _ (items_are ∙ ap (λ x. x ∷ drop (c.args.here.at + 1) c.args.items.now) run) (sym c.may_begin.ensures ∙ c.if-may_begin.false)

pub returns-then-not-takes : goal.returns-then-not-takes
returns-then-not-takes c =
    let items_are = item_here c.args.items.now c.args.here.at c.in-Some.item.now c.in-Some.ensures.lookup.3.0 c.in-Some.ensures.lookup.1 in
    stuck_takes c.args.items.now c.args.here c.in-Some.item.now _ _ _ items_are (sym c.is_run.ensures ∙ c.if-is_run.false) c.in-Some-first_char-2.ensures.0 (sym c.takes.ensures ∙ c.if-not-takes.true)

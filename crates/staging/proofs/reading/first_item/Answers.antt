use Rattle.std.proofs.Common.{sym, ◌∙◌, ne_eqb, ◌==◌}
use Rattle.std.specs.Str.{chars}
use Rattle.staging.specs.Reading.{is_empty}
use Rattle.staging.proofs.Scanned.{end_reads, last_slash_reads, single_then, and-left, and-right}
use Rattle.staging.proofs.reading.first_item.Goals as goal
use Rattle.staging.proofs.reading.first_item.Goals.{else-first-eq47-via-then-first-eq47+else-is_empty, else-first-eq47-via-else-first-eq47}

pub returns-in_default-clause-exact : goal.returns-in_default-clause-exact
returns-in_default-clause-exact c = end_reads (chars c.args.text.now) c.in_default.ensures

pub returns-in_default-clause-shorter : goal.returns-in_default-clause-shorter
returns-in_default-clause-shorter c = end_reads (chars c.args.text.now) c.in_default.ensures

pub returns-then-is_empty-clause-exact : goal.returns-then-is_empty-clause-exact
returns-then-is_empty-clause-exact c =
    last_slash_reads (chars c.args.text.now) (chars c.in-Some.rest.now) c.in-Some.first c.in-Some.ensures.0 c.if-first-eq47.true (sym c.is_empty.ensures ∙ c.if-is_empty.true)

pub returns-then-is_empty-clause-shorter : goal.returns-then-is_empty-clause-shorter
returns-then-is_empty-clause-shorter c =
    last_slash_reads (chars c.args.text.now) (chars c.in-Some.rest.now) c.in-Some.first c.in-Some.ensures.0 c.if-first-eq47.true (sym c.is_empty.ensures ∙ c.if-is_empty.true)

pub returns-clause-exact : goal.returns-clause-exact
returns-clause-exact c =
    single_then (chars c.args.text.now) (chars c.in-Some.rest.now) c.in-Some.first c.single.result c.in-Some.ensures.0 c.single.ensures (ne_eqb c.in-Some.first 91 c.if-first-eq91.false)
    (elim c.else-first-eq47.branch [
      | else-first-eq47-via-then-first-eq47+else-is_empty w ↦ and-right (c.in-Some.first == 47) (is_empty (chars c.in-Some.rest.now)) (sym w.is_empty.ensures ∙ w.if-is_empty.false)
      | else-first-eq47-via-else-first-eq47 w ↦ and-left (c.in-Some.first == 47) (is_empty (chars c.in-Some.rest.now)) (ne_eqb c.in-Some.first 47 w.if-first-eq47.false)
    ])

pub returns-in_default-clause-unclosed : goal.returns-in_default-clause-unclosed
returns-in_default-clause-unclosed c = end_reads (chars c.args.text.now) c.in_default.ensures

pub returns-then-is_empty-clause-unclosed : goal.returns-then-is_empty-clause-unclosed
returns-then-is_empty-clause-unclosed c =
    last_slash_reads (chars c.args.text.now) (chars c.in-Some.rest.now) c.in-Some.first c.in-Some.ensures.0 c.if-first-eq47.true (sym c.is_empty.ensures ∙ c.if-is_empty.true)

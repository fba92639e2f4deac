use Rattle.std.proofs.Common.{arith, rules}
use Rattle.scatter_shape.specs.declared.tuples.TheConstants.{MOST_TUPLES}
use Rattle.scatter_shape.proofs.Crosses.{all_counted, exact_count, next_count, too_many}
use Rattle.std.proofs.Common.{◌≡◌, ◌+◌, ◌*◌, ◌≤◌, get_or, length, drop, ap, ◌∙◌}
use Rattle.scatter_shape.specs.Tuples.{cross}
use Rattle.scatter_shape.proofs.tuples.are_few.Goals as goal

pub returns-then-count-gt-MOST_TUPLES : goal.returns-then-count-gt-MOST_TUPLES
returns-then-count-gt-MOST_TUPLES c = (
  search rules,
  λ few. absurd (too_many c.args.lengths.now c.loop-length.length-index c.loop-length.count c.saturating_mul-count.result MOST_TUPLES c.requires c.loop-length-test.true c.loop-length.invariant.rest c.saturating_mul-count.ensures c.if-count-gt-MOST_TUPLES.true few),
)

pub loop-length-preserved : goal.loop-length-preserved
loop-length-preserved c =
    let ns = c.args.lengths.now in
    let i = c.loop-length.length-index in
    let product = c.loop-length.count * get_or ns i 0 in
    let exact : c.saturating_mul-count.result ≡ product = exact_count product c.saturating_mul-count.result MOST_TUPLES c.saturating_mul-count.ensures c.if-count-gt-MOST_TUPLES.false (omega arith) in
    record {
      rest = ap (λ x. x * length (cross (drop (i + 1) ns))) exact ∙ next_count ns i c.loop-length.count c.loop-length-test.true c.loop-length.invariant.rest;
      few = c.if-count-gt-MOST_TUPLES.false;
    }

pub returns : goal.returns
returns c =
    let all : length (cross c.args.lengths.now) ≡ c.loop-length.count = all_counted c.args.lengths.now c.loop-length.length-index c.loop-length.count c.loop-length-test.false c.loop-length.invariant.rest in
    let few : c.loop-length.count ≤ MOST_TUPLES = c.loop-length.invariant.few in
    (λ yes. omega (arith, all, few), λ _. search rules)

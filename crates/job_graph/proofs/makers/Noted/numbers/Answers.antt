use Rattle.std.proofs.Common.{◌≡◌, ◌∙◌, List, false, sym, subst, true, ap}
use Rattle.std.specs.Borrow.{Bor}
use Rattle.std.specs.BTreeMap.{get, is_at}
use Rattle.std.specs.List.{list_any}
use Rattle.std.specs.Option.{option_map_or}
use Rattle.std.specs.Ordering.{nat_cmp}
use Rattle.job_graph.specs.Words.{JobPlace}
use Rattle.job_graph.specs.inner.Makers.{Puts, is_this}
use Rattle.job_graph.specs.inner.Marks.{mark_of}
use Rattle.job_graph.proofs.Gathering.{PutsUntil, among_values, gathered, puts_done, puts_first, puts_one}
use Rattle.job_graph.proofs.makers.Noted.numbers.Goals as goal

pub loop-place-init : goal.loop-place-init
loop-place-init c =
    puts_first (λ job. option_map_or (is_this job) (get nat_cmp c.args.self.now.by_mark (mark_of job)) false) c.args.known.now c.new-numbers.result
    (λ job. list_any (is_this job) c.into_iter-place-iterator.result)
    (λ job is. subst (λ (some : List (Bor JobPlace)). list_any (is_this job) some ≡ true) (sym (c.into_iter-place-iterator.ensures.into_iter_gives ∙ c.values-place-items.ensures.rest))
    (among_values (is_this job) c.args.self.now.by_mark.entries (mark_of job) is))

pub loop-place-preserved : goal.loop-place-preserved
loop-place-preserved c =
    puts_one (λ job. option_map_or (is_this job) (get nat_cmp c.args.self.now.by_mark (mark_of job)) false) c.args.known.now c.new-numbers.result
    c.in-Some.place.now c.next.new.self c.loop-place.numbers c.put_number.new.numbers
    (subst (λ (left : List (Bor JobPlace)). PutsUntil (λ job. option_map_or (is_this job) (get nat_cmp c.args.self.now.by_mark (mark_of job)) false) (λ job. list_any (is_this job) left)
    c.args.known.now c.new-numbers.result c.loop-place.numbers) c.in-Some.ensures.steps c.loop-place.invariant) c.in_ok-put_number.ensures

pub returns : goal.returns
returns c =
    gathered (λ job. option_map_or (is_this job) (get nat_cmp c.args.self.now.by_mark (mark_of job)) false) (λ job. list_any (is_this job) c.args.self.now.others.items) c.args.known.now
    c.new-numbers.result c.loop-place.numbers c.put_numbers.new.numbers (λ n. ap (list_any (is_at (nat_cmp n))) c.new-numbers.ensures.empty)
    (puts_done (λ job. option_map_or (is_this job) (get nat_cmp c.args.self.now.by_mark (mark_of job)) false) c.args.known.now c.new-numbers.result c.loop-place.numbers
    (subst (λ (left : List (Bor JobPlace)). PutsUntil (λ job. option_map_or (is_this job) (get nat_cmp c.args.self.now.by_mark (mark_of job)) false) (λ job. list_any (is_this job) left)
    c.args.known.now c.new-numbers.result c.loop-place.numbers) c.in-None.ensures.steps.0 c.loop-place.invariant))
    (subst (λ (others : List (Bor JobPlace)). Puts (λ job. list_any (is_this job) others) c.args.known.now c.loop-place.numbers c.put_numbers.new.numbers) c.as_slice.ensures.value c.in_ok-put_numbers.ensures)

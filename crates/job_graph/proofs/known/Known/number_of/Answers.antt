use Rattle.std.proofs.Common.{◌≡◌, ◌∙◌, ◌<◌, List, ap, drop, get_or, length, subst₂, sym, true}
use Rattle.std.specs.Prelude.{IfSome}
use Rattle.std.specs.List.{list_any}
use Rattle.std.specs.Option.{option_copied}
use Rattle.job_graph.specs.KnownJobs.{jobs_in}
use Rattle.job_graph.specs.Unfold.{is_at}
use Rattle.job_graph.specs.Words.{JobPlace, is_same_place}
use Rattle.job_graph.specs.declared.growth.KnownJob.{KnownJob}
use Rattle.job_graph.specs.inner.Marks.{mark_of}
use Rattle.job_graph.proofs.Index.{known_later, known_nowhere, no_number, one_number_at}
use Rattle.job_graph.proofs.known.Known.number_of.Goals as goal

pub returns-in-None-clause-known : goal.returns-in-None-clause-known
returns-in-None-clause-known c =
    rw (← c.self.view_is)
    (sym (known_nowhere c.self.inside.firsts c.self.inside.list.items c.args.place.now c.mark_of-mark.result c.self.invariant.0
    (c.mark_of-mark.ensures ∙ ap mark_of c.as_slice.ensures) (sym c.get.ensures.value ∙ ap option_copied c.in-None.is)))

pub returns-in-None-clause-one : goal.returns-in-None-clause-one
returns-in-None-clause-one c =
    rw (← c.self.view_is)
    (no_number c.self.inside.list.items c.args.place.now
    (known_nowhere c.self.inside.firsts c.self.inside.list.items c.args.place.now c.mark_of-mark.result c.self.invariant.0
    (c.mark_of-mark.ensures ∙ ap mark_of c.as_slice.ensures) (sym c.get.ensures.value ∙ ap option_copied c.in-None.is)))

pub returns-in-Some-clause-known : goal.returns-in-Some-clause-known
returns-in-Some-clause-known c =
    rw (← c.self.view_is)
    (c.number_from.ensures.known
    ∙ ap (λ (place : JobPlace). list_any (is_at place) (jobs_in (drop c.in-Some.first.now c.as_slice-in-Some.result.now))) c.as_slice-in-Some-2.ensures
    ∙ ap (λ (known : List KnownJob). list_any (is_at c.args.place.now) (jobs_in (drop c.in-Some.first.now known))) c.as_slice-in-Some.ensures.value
    ∙ known_later c.self.inside.firsts c.self.inside.list.items c.args.place.now c.mark_of-mark.result c.in-Some.first.now c.self.invariant.0
    (c.mark_of-mark.ensures ∙ ap mark_of c.as_slice.ensures) (sym c.get.ensures.value ∙ ap option_copied c.in-Some.is))

pub returns-in-Some-clause-one : goal.returns-in-Some-clause-one
returns-in-Some-clause-one c =
    rw (← c.self.view_is)
    (one_number_at c.self.inside.list.items c.args.place.now c.self.invariant.1 c.number_from.result
    (c.number_from.ensures.known
    ∙ ap (λ (place : JobPlace). list_any (is_at place) (jobs_in (drop c.in-Some.first.now c.as_slice-in-Some.result.now))) c.as_slice-in-Some-2.ensures
    ∙ ap (λ (known : List KnownJob). list_any (is_at c.args.place.now) (jobs_in (drop c.in-Some.first.now known))) c.as_slice-in-Some.ensures.value
    ∙ known_later c.self.inside.firsts c.self.inside.list.items c.args.place.now c.mark_of-mark.result c.in-Some.first.now c.self.invariant.0
    (c.mark_of-mark.ensures ∙ ap mark_of c.as_slice.ensures) (sym c.get.ensures.value ∙ ap option_copied c.in-Some.is))
    (subst₂ (λ (known : List KnownJob) (place : JobPlace). IfSome c.number_from.result (λ m. (m < length known) × ((k : KnownJob) → k ≡ get_or known m k → is_same_place k.job.place place ≡ true)))
    c.as_slice-in-Some.ensures.value c.as_slice-in-Some-2.ensures c.number_from.ensures.at))

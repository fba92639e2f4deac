use Rattle.std.proofs.Common.{◌≡◌, ◌∙◌, sym, ap}
use Rattle.job_graph.specs.KnownJobs.{number_at}
use Rattle.run_core.specs.inner.Course.{known_in}
use Rattle.run_core.specs.inner.Places.{left_by}
use Rattle.run_core.proofs.Numbers.{left_nowhere, left_there, looked_up}
use Rattle.run_core.proofs.places.left_in.Goals as goal

pub returns-in-None-number_of : goal.returns-in-None-number_of
returns-in-None-number_of c =
    let jobs : known_in c.args.sources.known.now ≡ c.in-Some.known.known = ap known_in c.in-Some.is in
    c.left_by-in-None-number_of.ensures
    ∙ left_nowhere (known_in c.args.sources.known.now) c.args.sources.jobs.now c.args.place.now c.number_of.result
    (c.number_of.ensures ∙ ap (number_at c.args.place.now) (sym jobs)) c.in-None-number_of.is

pub returns-in-Some-number_of : goal.returns-in-Some-number_of
returns-in-Some-number_of c =
    let jobs : known_in c.args.sources.known.now ≡ c.in-Some.known.known = ap known_in c.in-Some.is in
    c.left_by-in-Some-number_of.ensures
    ∙ ap left_by (looked_up c.args.sources.jobs.now c.in-Some-number_of.number c.get.result c.get.ensures.lookup.3 c.get.ensures.lookup.1)
    ∙ left_there (known_in c.args.sources.known.now) c.args.sources.jobs.now c.args.place.now c.number_of.result c.in-Some-number_of.number
    (c.number_of.ensures ∙ ap (number_at c.args.place.now) (sym jobs)) c.in-Some-number_of.is

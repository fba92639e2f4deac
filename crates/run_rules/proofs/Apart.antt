-- The known jobs of a run are at different places, whatever has happened.
use Rattle.std.proofs.Common.{◌≡◌, Bool, true, false, cond, List, [], ◌∷◌, length, refl, sym, ap, subst, arith}
use Rattle.input_files.specs.Measured.{Measures}
use Rattle.job_graph.specs.Jobs.{Job}
use Rattle.job_graph.specs.Unfold.{Resolved, Unfolded, nothing_known, unfolded}
use Rattle.job_graph.specs.Words.{is_same_place}
use Rattle.run_rules.specs.Events.{Event, are_measured, measures, resolved, unfolding_at}
use Rattle.run_rules.specs.Scene.{Scene}
use Rattle.run_rules.proofs.Staying.{unfolding_if}
use Rattle.run_rules.proofs.events.Course.{none_alike}
use Rattle.run_rules.proofs.events.Places.{AreApart}

no_job_apart : (jobs : List Job) → length jobs ≡ 0 → AreApart jobs
no_job_apart [] empty = none_alike is_same_place
no_job_apart (x ∷ jobs) empty = absurd (omega (arith, empty))

module _ (s : Scene) (differ : (all : Measures) (learned : List Resolved) → AreApart (unfolded (s.walker all) learned).jobs) where
  apart_by : (es : List Event) (measured : Bool) → are_measured s es ≡ measured → AreApart (unfolding_at s es).jobs
  apart_by es true all = subst (λ (u : Unfolded). AreApart u.jobs) (sym (unfolding_if s es all)) (differ (measures es) (resolved es))
  apart_by es false none = no_job_apart (unfolding_at s es).jobs (ap (λ b. length (cond b (unfolded (s.walker (measures es)) (resolved es)) nothing_known).jobs) none)

  pub apart_at : (es : List Event) → AreApart (unfolding_at s es).jobs
  apart_at es = apart_by es (are_measured s es) refl

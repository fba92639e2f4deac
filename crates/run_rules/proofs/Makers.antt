-- What made a File or Directory in the inputs of a known job is a job that was known before it, in each run before which nothing was made.
use Rattle.std.specs.Prelude.{◌<◌, Contains, is_some}
use Rattle.std.specs.List.{AllByRecursion}
use Rattle.std.proofs.Common.{◌≡◌, ◌∙◌, ◌⊎◌, inl, inr, ℕ, Bool, true, false, cond, List, [], ◌∷◌, ◌++◌, length, find, Option, Some, None, option_map, refl, sym, ap, subst, arith, append_assoc, append-nil}
use Rattle.std.proofs.lemmas.List.Elements.{All-from_recursion}
use Rattle.input_files.specs.Measured.{Measures}
use Rattle.job_graph.specs.Jobs.{Job}
use Rattle.job_graph.specs.Made.{any_made}
use Rattle.job_graph.specs.Makers.{AreNamed, AreUnmade, IsLearned}
use Rattle.job_graph.specs.Unfold.{Resolved, Unfolded, nothing_known, unfolded}
use Rattle.job_graph.specs.Words.{JobPlace, is_same_place}
use Rattle.plan_checker.specs.declared.plan.Mark.{Mark}
use Rattle.run_rules.specs.declared.request.Pair.{Pair}
use Rattle.run_rules.specs.Events.{Event, file_measured, job_succeeded, row_found, Progress, are_measured, job_at, measures, resolved, unfolding_at}
use Rattle.run_rules.specs.Parents.{HasParentAt}
use Rattle.run_rules.specs.Plans.{PlansSoFar, number_of}
use Rattle.run_rules.specs.Run.{Goes}
use Rattle.run_rules.specs.Scene.{Scene}
use Rattle.run_rules.proofs.Apart.{apart_at}
use Rattle.run_rules.proofs.Measuring.{Fits, FitsAt, IsKnownAt, goes_fitting}
use Rattle.run_rules.proofs.Named.{NamedAt, all_named, goes_named, named_resolved}
use Rattle.run_rules.proofs.Places.{same_place}
use Rattle.run_rules.proofs.Staying.{unfolding_if}
use Rattle.run_rules.proofs.events.Course.{known_or_new}
use Rattle.run_rules.proofs.events.Known.{IsFront, is_measure, known_jobs_stay, numbered_still}
use Rattle.run_rules.proofs.events.Places.{AreApart, IsFound, IsJob, found_is, number_is, read_job}
use Rattle.run_rules.proofs.events.Readings.{resolved_after}

-- what makers there are: a law of the walk, and that known jobs are at different places
pub record MakesBefore (s : Scene) : Type 0 where
  pub makers : (all : Measures) (learned : List Resolved) → AreNamed learned → (job : Job) → Contains (unfolded (s.walker all) learned).jobs job → (maker : JobPlace) →
      any_made maker job.inputs ≡ true → IsLearned learned maker
  pub differ : (all : Measures) (learned : List Resolved) → AreApart (unfolded (s.walker all) learned).jobs

-- a job at a place
record IsSomewhere (jobs : List Job) (place : JobPlace) : Type 0 where
  number : ℕ
  job : Job
  it : IsJob jobs number job
  at : job.place ≡ place

-- and below a number
record IsBefore (jobs : List Job) (n : ℕ) (place : JobPlace) : Type 0 where
  some : IsSomewhere jobs place
  below : some.number < n

-- what is learned in one list and another is so in one of them
one_of : (b : Bool) (r : Resolved) (found : Option Resolved) → is_some (option_map (λ (x : Resolved). x.outputs) (cond b (Some r) found)) ≡ true →
    (b ≡ true) ⊎ (is_some (option_map (λ (x : Resolved). x.outputs) found) ≡ true)
one_of true r found is = inl refl
one_of false r found is = inr is

in_either : (one other : List Resolved) (place : JobPlace) → IsLearned (one ++ other) place → IsLearned one place ⊎ IsLearned other place
in_either [] other place is = inr is
in_either (r ∷ one) other place is =
    elim (one_of (is_same_place r.place place) r (find (λ (x : Resolved). is_same_place x.place place) (one ++ other)) is) [
      | inl here ↦ inl (ap (λ b. is_some (option_map (λ (x : Resolved). x.outputs) (cond b (Some r) (find (λ (x : Resolved). is_same_place x.place place) one)))) here)
      | inr there ↦ elim (in_either one other place there) [
        | inl first ↦ inl (either_way (is_same_place r.place place) r (find (λ (x : Resolved). is_same_place x.place place) one) first)
        | inr second ↦ inr second
      ]
    ]
  where
    either_way : (b : Bool) (x : Resolved) (found : Option Resolved) → is_some (option_map (λ (y : Resolved). y.outputs) found) ≡ true →
        is_some (option_map (λ (y : Resolved). y.outputs) (cond b (Some x) found)) ≡ true
    either_way true x found its = refl
    either_way false x found its = its

module _ (s : Scene) (laws : MakesBefore s) where
  -- the jobs that are known after these events
  abbrev jobs_at : List Event → List Job
  jobs_at es = (unfolding_at s es).jobs

  -- each maker is known before what it made for, each resolved place is that of a known job, and what is resolved is named
  record Stand (es : List Event) : Type 0 where
    makers : (n : ℕ) (job : Job) → IsJob (jobs_at es) n job → (maker : JobPlace) → any_made maker job.inputs ≡ true → IsBefore (jobs_at es) n maker
    places : (place : JobPlace) → IsLearned (resolved es) place → IsSomewhere (jobs_at es) place
    named : AllByRecursion NamedAt es

  somewhere : (es : List Event) (place : JobPlace) (job : Job) → job_at s es place ≡ Some job → IsSomewhere (jobs_at es) place
  somewhere es place job is =
      let found : IsFound (jobs_at es) place job = found_is (jobs_at es) place job is in
      record { number = found.number; job = job; it = found.there; at = same_place job.place place found.same }

  abbrev still_somewhere : (front jobs : List Job) (place : JobPlace) → IsFront front jobs → IsSomewhere front place → IsSomewhere jobs place
  still_somewhere front jobs place leads it = record { number = it.number; job = it.job; it = numbered_still front jobs it.number it.job leads it.it; at = it.at }

  module _ (es : List Event) (e : Event) (fits : FitsAt s es e) (named : NamedAt e) (before : Stand es) where
    no_measure : (x : Event) → FitsAt s es x → are_measured s es ≡ true → is_measure x ≡ false
    no_measure (file_measured path measure) its all = absurd (its all)
    no_measure _ its all = refl

    leads : IsFront (jobs_at es) (jobs_at (es ++ e ∷ []))
    leads = known_jobs_stay s es e (no_measure e fits)

    -- the place that an event resolves is that of a known job
    its_place : (x : Event) (place : JobPlace) → FitsAt s es x → IsLearned (resolved (x ∷ [])) place → IsSomewhere (jobs_at es) place
    its_place (job_succeeded at outputs) place its is = at_its (is_same_place at place) at place its refl is
      where
        at_its : (b : Bool) (p q : JobPlace) → IsKnownAt s es p → is_same_place p q ≡ b →
            is_some (option_map (λ (x : Resolved). x.outputs) (cond b (Some (record { place = p; outputs = outputs })) None)) ≡ true → IsSomewhere (jobs_at es) q
        at_its true p q known same there = subst (IsSomewhere (jobs_at es)) (same_place p q same) (somewhere es p known.job known.known)
        at_its false p q known same there = absurd cc
    its_place (row_found at row) place its is = at_its (is_same_place at place) at place its refl is
      where
        at_its : (b : Bool) (p q : JobPlace) → IsKnownAt s es p → is_same_place p q ≡ b →
            is_some (option_map (λ (x : Resolved). x.outputs) (cond b (Some (record { place = p; outputs = row.outputs })) None)) ≡ true → IsSomewhere (jobs_at es) q
        at_its true p q known same there = subst (IsSomewhere (jobs_at es)) (same_place p q same) (somewhere es p known.job known.known)
        at_its false p q known same there = absurd cc
    its_place _ place its is = absurd cc

    -- so each resolved place was that of a known job before
    known_before : (place : JobPlace) → IsLearned (resolved (es ++ e ∷ [])) place → IsSomewhere (jobs_at es) place
    known_before place is =
        elim (in_either (resolved es) (resolved (e ∷ [])) place (subst (λ (learned : List Resolved). IsLearned learned place) (resolved_after es (e ∷ [])) is)) [
          | inl old ↦ before.places place old
          | inr new ↦ its_place e place fits new
        ]

    all_named_then : AllByRecursion NamedAt (es ++ e ∷ [])
    all_named_then = all_named es (e ∷ []) before.named (named, tt)

    learned_then : AreNamed (resolved (es ++ e ∷ []))
    learned_then = All-from_recursion (λ (r : Resolved). AreUnmade r.outputs) (resolved (es ++ e ∷ [])) (named_resolved (es ++ e ∷ []) all_named_then)

    some_are_known : (n : ℕ) (job : Job) → IsJob (jobs_at (es ++ e ∷ [])) n job → (measured : Bool) → are_measured s (es ++ e ∷ []) ≡ measured → are_measured s (es ++ e ∷ []) ≡ true
    some_are_known n job it true is = is
    some_are_known n job it false is =
        let none : 0 ≡ length (jobs_at (es ++ e ∷ [])) =
        ap (λ b. length (cond b (unfolded (s.walker (measures (es ++ e ∷ []))) (resolved (es ++ e ∷ []))) nothing_known).jobs) (sym is) in
        absurd (omega (arith, it.within, none))

    made_before : (n : ℕ) (job : Job) → IsJob (jobs_at (es ++ e ∷ [])) n job → (maker : JobPlace) → any_made maker job.inputs ≡ true → IsBefore (jobs_at (es ++ e ∷ [])) n maker
    made_before n job it maker made = elim (known_or_new (jobs_at es) (jobs_at (es ++ e ∷ [])) n job leads it) [
      | inl old ↦
          let was : IsBefore (jobs_at es) n maker = before.makers n job old maker made in
          record { some = still_somewhere (jobs_at es) (jobs_at (es ++ e ∷ [])) maker leads was.some; below = was.below }
      | inr past ↦
          let all : are_measured s (es ++ e ∷ []) ≡ true = some_are_known n job it (are_measured s (es ++ e ∷ [])) refl in
          let there : Contains (unfolded (s.walker (measures (es ++ e ∷ []))) (resolved (es ++ e ∷ []))).jobs job =
          subst (λ (u : Unfolded). Contains u.jobs job) (unfolding_if s (es ++ e ∷ []) all) (n, it.within, it.is) in
          let learned : IsLearned (resolved (es ++ e ∷ [])) maker = laws.makers (measures (es ++ e ∷ [])) (resolved (es ++ e ∷ [])) learned_then job there maker made in
          let was : IsSomewhere (jobs_at es) maker = known_before maker learned in
          record { some = still_somewhere (jobs_at es) (jobs_at (es ++ e ∷ [])) maker leads was; below = omega (arith, was.it.within, past) }
    ]

    stand_one : Stand (es ++ e ∷ [])
    stand_one = record {
      makers = made_before;
      places = λ place is. still_somewhere (jobs_at es) (jobs_at (es ++ e ∷ [])) place leads (known_before place is);
      named = all_named_then;
    }

  stand_later : (es later : List Event) → Fits s es later → AllByRecursion NamedAt later → Stand es → Stand (es ++ later)
  stand_later es [] fits named stand = subst Stand (sym (append-nil es)) stand
  stand_later es (e ∷ later) fits named stand =
      subst Stand (append_assoc es (e ∷ []) later) (stand_later (es ++ e ∷ []) later fits.1 named.1 (stand_one es e fits.0 named.0 stand))

  -- before any event no job is known but where no file is measured; what those hold that are known then was made by nobody
  first_by : (measured : Bool) → are_measured s [] ≡ measured → (n : ℕ) (job : Job) → IsJob (jobs_at []) n job → (maker : JobPlace) → any_made maker job.inputs ≡ true →
      IsBefore (jobs_at []) n maker
  first_by true all n job it maker made =
      let there : Contains (unfolded (s.walker (measures [])) (resolved [])).jobs job = subst (λ (u : Unfolded). Contains u.jobs job) (unfolding_if s [] all) (n, it.within, it.is) in
      let learned : IsLearned [] maker = laws.makers (measures []) (resolved []) (All-from_recursion (λ (r : Resolved). AreUnmade r.outputs) [] tt) job there maker made in
      absurd cc
  first_by false none n job it maker made =
      let empty : 0 ≡ length (jobs_at []) = ap (λ b. length (cond b (unfolded (s.walker (measures [])) (resolved [])) nothing_known).jobs) (sym none) in
      absurd (omega (arith, it.within, empty))

  stand_first : Stand []
  stand_first = record { makers = first_by (are_measured s []) refl; places = λ place is. absurd cc; named = tt }

  pub makers_before : {Plans : Progress → List Mark → Type 0} {t : List Pair} {f : Progress} {plans : PlansSoFar} → Goes s Plans t f plans → (job : Job) → Contains (jobs_at f.events) job →
      (maker : JobPlace) → any_made maker job.inputs ≡ true → HasParentAt (jobs_at f.events) job maker
  makers_before {Plans = Plans} {f = f} goes job there maker made =
      let it : IsJob (jobs_at f.events) there.0 job = record { within = there.1; is = there.2 } in
      let stand : Stand f.events = stand_later [] f.events (goes_fitting s Plans goes) (goes_named s goes) stand_first in
      let before : IsBefore (jobs_at f.events) there.0 maker = stand.makers there.0 job it maker made in
      let its_number : number_of job.place (jobs_at f.events) ≡ there.0 = number_is (jobs_at f.events) (apart_at s laws.differ f.events) there.0 job it in
      record {
        parent = before.some.job;
        is = record {
          number = before.some.number;
          known = read_job (jobs_at f.events) before.some.number before.some.job before.some.it;
          before = omega (arith, before.below, its_number);
          made = ap (λ (p : JobPlace). any_made p job.inputs) before.some.at ∙ made;
        };
        at = before.some.at;
      }

-- The parents of a known job by their numbers, and the test whether it may be staged.
use Rattle.std.specs.Prelude.{◌&&◌, ◌<◌, take}
use Rattle.std.specs.List.{list_all}
use Rattle.std.proofs.Common.{◌≡◌, ◌∙◌, ◌+◌, ℕ, zero, suc, Bool, true, false, cond, List, [], ◌∷◌, ◌++◌, length, refl, sym, ap, arith, append_assoc, append-nil}
use Rattle.std.proofs.lemmas.Bool.{and_from, and_parts}
use Rattle.job_graph.specs.Jobs.{Job}
use Rattle.job_graph.specs.Made.{any_made}
use Rattle.job_graph.specs.Unfold.{known_from, parents_from}
use Rattle.job_graph.specs.Words.{Fields}
use Rattle.run_rules.proofs.events.Places.{IsJob}
use Rattle.run_core.specs.declared.job_states.JobState.{JobState}
use Rattle.run_core.specs.inner.JobStates.{is_ready, is_there, parents_in, waits_in}
use Rattle.run_core.specs.inner.Marks.{is_compute}
use Rattle.plan_checker.specs.Plan.{mark}
use Rattle.plan_checker.specs.declared.plan.Mark.{Mark}
use Rattle.plan_checker.specs.declared.plan.Mark.TheVariants.{Compute, Load, Prune}

-- all makers pass a test where each that made something does
all_by : (b : Bool) (n : ℕ) (m : Job) (ms : List Job) (inputs : Fields) (test : ℕ → Bool) → any_made m.place inputs ≡ b →
    ((i : ℕ) (maker : Job) → IsJob (m ∷ ms) i maker → any_made maker.place inputs ≡ true → test (n + i) ≡ true) → list_all test (parents_from (suc n) ms inputs) ≡ true →
    list_all test (cond b (n ∷ parents_from (suc n) ms inputs) (parents_from (suc n) ms inputs)) ≡ true
all_by true n m ms inputs test made each rest =
    let first : n ≡ n + 0 = omega arith in
    and_from (test n) (list_all test (parents_from (suc n) ms inputs)) (ap test first ∙ each 0 m (record { within = omega arith; is = refl }) made) rest
all_by false n m ms inputs test made each rest = rest

all_pass : (n : ℕ) (makers : List Job) (inputs : Fields) (test : ℕ → Bool) →
    ((i : ℕ) (maker : Job) → IsJob makers i maker → any_made maker.place inputs ≡ true → test (n + i) ≡ true) → list_all test (parents_from n makers inputs) ≡ true
all_pass n [] inputs test each = refl
all_pass n (m ∷ ms) inputs test each =
    all_by (any_made m.place inputs) n m ms inputs test refl each
    (all_pass (suc n) ms inputs test
    (λ i maker it made. let next : suc n + i ≡ n + suc i = omega arith in
    ap test next ∙ each (suc i) maker (record { within = omega (arith, it.within); is = it.is }) made))

-- the first maker passes, where it made something
first_passes : (b : Bool) (n : ℕ) (m : Job) (rest : List ℕ) (inputs : Fields) (test : ℕ → Bool) → any_made m.place inputs ≡ b → list_all test (cond b (n ∷ rest) rest) ≡ true →
    any_made m.place inputs ≡ true → test n ≡ true
first_passes true n m rest inputs test is all made = (and_parts (test n) (list_all test rest) all).0
first_passes false n m rest inputs test is all made = let never : true ≡ false = sym made ∙ is in absurd cc

others_pass : (b : Bool) (n : ℕ) (rest : List ℕ) (test : ℕ → Bool) → list_all test (cond b (n ∷ rest) rest) ≡ true → list_all test rest ≡ true
others_pass true n rest test all = (and_parts (test n) (list_all test rest) all).1
others_pass false n rest test all = all

each_passes : (n : ℕ) (makers : List Job) (inputs : Fields) (test : ℕ → Bool) → list_all test (parents_from n makers inputs) ≡ true → (i : ℕ) (maker : Job) →
    IsJob makers i maker → any_made maker.place inputs ≡ true → test (n + i) ≡ true
each_passes n [] inputs test all i maker it made = absurd (omega (arith, it.within))
each_passes n (m ∷ ms) inputs test all zero maker it made =
    let same : m ≡ maker = it.is in
    let first : n + 0 ≡ n = omega arith in
    ap test first
    ∙ first_passes (any_made m.place inputs) n m (parents_from (suc n) ms inputs) inputs test refl all (ap (λ (j : Job). any_made j.place inputs) same ∙ made)
each_passes n (m ∷ ms) inputs test all (suc i) maker it made =
    let next : n + suc i ≡ suc n + i = omega arith in
    ap test next
    ∙ each_passes (suc n) ms inputs test (others_pass (any_made m.place inputs) n (parents_from (suc n) ms inputs) test all) i maker
    (record { within = omega (arith, it.within); is = it.is }) made

-- the first so many of the jobs
front_there : (jobs : List Job) (n i : ℕ) (maker : Job) → IsJob jobs i maker → i < n → IsJob (take n jobs) i maker
front_there [] n i maker it below = absurd (omega (arith, it.within))
front_there (x ∷ jobs) zero i maker it below = absurd (omega (arith, below))
front_there (x ∷ jobs) (suc n) zero maker it below = record { within = omega arith; is = it.is }
front_there (x ∷ jobs) (suc n) (suc i) maker it below =
    let later : IsJob (take n jobs) i maker = front_there jobs n i maker (record { within = omega (arith, it.within); is = it.is }) (omega (arith, below)) in
    record { within = omega (arith, later.within); is = later.is }

there_before : (jobs : List Job) (n i : ℕ) (maker : Job) → IsJob (take n jobs) i maker → IsJob jobs i maker × i < n
there_before [] zero i maker it = absurd (omega (arith, it.within))
there_before [] (suc n) i maker it = absurd (omega (arith, it.within))
there_before (x ∷ jobs) zero i maker it = absurd (omega (arith, it.within))
there_before (x ∷ jobs) (suc n) zero maker it = (record { within = omega arith; is = it.is }, omega arith)
there_before (x ∷ jobs) (suc n) (suc i) maker it =
    let later : IsJob jobs i maker × i < n = there_before jobs n i maker (record { within = omega (arith, it.within); is = it.is }) in
    (record { within = omega (arith, later.0.within); is = later.0.is }, omega (arith, later.1))

-- the parents of a job are among those before it
parents_are : (earlier jobs : List Job) (n : ℕ) (job : Job) → IsJob jobs n job → parents_in (known_from earlier jobs) n ≡ parents_from 0 (earlier ++ take n jobs) job.inputs
parents_are earlier [] n job it = absurd (omega (arith, it.within))
parents_are earlier (x ∷ jobs) zero job it =
    ap (λ (j : Job). parents_from 0 earlier j.inputs) it.is ∙ ap (λ (makers : List Job). parents_from 0 makers job.inputs) (sym (append-nil earlier))
parents_are earlier (x ∷ jobs) (suc n) job it =
    parents_are (earlier ++ x ∷ []) jobs n job (record { within = omega (arith, it.within); is = it.is })
    ∙ ap (λ (makers : List Job). parents_from 0 makers job.inputs) (append_assoc earlier (x ∷ []) (take n jobs))

pub as_many : (earlier jobs : List Job) → length (known_from earlier jobs) ≡ length jobs
as_many earlier [] = refl
as_many earlier (x ∷ jobs) = ap suc (as_many (earlier ++ x ∷ []) jobs)

-- what is computed is marked so
pub computes : (m : Mark) → is_compute m ≡ true → m ≡ Compute
computes Load is = absurd cc
computes Compute is = refl
computes Prune is = absurd cc

module _ (marks : List Mark) (jobs : List Job) (states : List JobState) (n : ℕ) (job : Job) (it : IsJob jobs n job) where
  its_parents : parents_in (known_from [] jobs) n ≡ parents_from 0 (take n jobs) job.inputs
  its_parents = parents_are [] jobs n job it

  abbrev there_all : Bool
  there_all = list_all (is_there states) (parents_in (known_from [] jobs) n)

  parts : is_ready marks (known_from [] jobs) states n ≡ true → (waits_in states n ≡ true) × ((is_compute (mark marks n) && there_all) ≡ true)
  parts ready = and_parts (waits_in states n) (is_compute (mark marks n) && there_all) ready

  pub ready_waits : is_ready marks (known_from [] jobs) states n ≡ true → waits_in states n ≡ true
  ready_waits ready = (parts ready).0

  pub ready_computes : is_ready marks (known_from [] jobs) states n ≡ true → mark marks n ≡ Compute
  ready_computes ready = computes (mark marks n) (and_parts (is_compute (mark marks n)) there_all (parts ready).1).0

  -- where it is ready, each job before it that made a file in its inputs is at hand
  pub ready_parents : is_ready marks (known_from [] jobs) states n ≡ true → (p : ℕ) (parent : Job) → IsJob jobs p parent → p < n → any_made parent.place job.inputs ≡ true →
      is_there states p ≡ true
  ready_parents ready p parent there below made =
      let all : list_all (is_there states) (parents_from 0 (take n jobs) job.inputs) ≡ true =
      ap (list_all (is_there states)) (sym its_parents) ∙ (and_parts (is_compute (mark marks n)) there_all (parts ready).1).1 in
      let same : p ≡ 0 + p = omega arith in
      ap (is_there states) same ∙ each_passes 0 (take n jobs) job.inputs (is_there states) all p parent (front_there jobs n p parent there below) made

  -- and it is ready where it waits, is computed and they are
  pub ready_if : waits_in states n ≡ true → mark marks n ≡ Compute →
      ((p : ℕ) (parent : Job) → IsJob jobs p parent → p < n → any_made parent.place job.inputs ≡ true → is_there states p ≡ true) →
      is_ready marks (known_from [] jobs) states n ≡ true
  ready_if waits computed each =
      and_from (waits_in states n) (is_compute (mark marks n) && there_all) waits
      (and_from (is_compute (mark marks n)) there_all (ap is_compute computed)
      (ap (list_all (is_there states)) its_parents
      ∙ all_pass 0 (take n jobs) job.inputs (is_there states)
      (λ i maker there made.
      let before : IsJob jobs i maker × i < n = there_before jobs n i maker there in
      let same : 0 + i ≡ i = omega arith in
      ap (is_there states) same ∙ each i maker before.0 before.1 made)))

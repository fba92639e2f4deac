-- The test of two places is equality; and known jobs that are at different places are told apart by it, as by their numbers.
use Rattle.std.specs.Prelude.{bytes_eq, ◌&&◌, slice_get, slice_index_or}
use Rattle.std.specs.Cmp.{IsEquivalence}
use Rattle.std.specs.List.{AllByRecursion, IsDistinct}
use Rattle.std.proofs.Common.{None, ◌≡◌, ◌∙◌, ◌<◌, ◌+◌, ◌==◌, ℕ, zero, suc, Bool, true, false, cond, List, [], ◌∷◌, length, map, find, Some, refl, sym, ap, subst, arith}
use Rattle.std.proofs.lemmas.Bool.{eqb-true, eq-eqb}
use Rattle.std.proofs.lemmas.Cmp.{nat_list_eq_equiv}
use Rattle.std.proofs.lemmas.Option.{get_or_from_slice_get, slice_get_read, slice_get_within}
use Rattle.std.proofs.lemmas.Map.Keys.{IsDistinct-head, IsDistinct-tail}
use Rattle.job_graph.specs.Words.{JobPlace, is_same_place}
use Rattle.job_graph.specs.Jobs.{Job}
use Rattle.job_graph.specs.Unfold.{is_at}
use Rattle.run_rules.specs.Plans.{number_from, number_of}
use Rattle.run_rules.proofs.Places.{same_place}

pub same_itself : (p : JobPlace) → is_same_place p p ≡ true
same_itself [] = refl
same_itself (a ∷ p) =
    ap (λ b. (b && bytes_eq a.index a.index) && is_same_place p p) (nat_list_eq_equiv.refl a.step)
    ∙ ap (λ b. b && is_same_place p p) (nat_list_eq_equiv.refl a.index)
    ∙ same_itself p

-- two tests answer alike where each that passes makes the other pass
alike : (a b : Bool) → (a ≡ true → b ≡ true) → (b ≡ true → a ≡ true) → a ≡ b
alike true b there back = sym (there refl)
alike false true there back = back refl
alike false false there back = refl

pub same_back : (p q : JobPlace) → is_same_place p q ≡ true → is_same_place q p ≡ true
same_back p q same = subst (λ (x : JobPlace). is_same_place x p ≡ true) (same_place p q same) (same_itself p)

pub same_place_equiv : IsEquivalence is_same_place
same_place_equiv = record {
  refl = same_itself;
  symm = λ p q. alike (is_same_place p q) (is_same_place q p) (same_back p q) (same_back q p);
  congr = λ p q r same. ap (λ (x : JobPlace). is_same_place x r) (same_place p q same);
}

-- Known jobs

abbrev pub places : List Job → List JobPlace
places jobs = map (λ job. job.place) jobs

-- no two of these jobs are at one place
abbrev pub AreApart : List Job → Type 0
AreApart jobs = IsDistinct is_same_place (places jobs)

-- the job of this number
pub record IsJob (jobs : List Job) (number : ℕ) (job : Job) : Type 0 where
  pub within : number < length jobs
  pub is : slice_index_or jobs number job ≡ job

pub read_job : (jobs : List Job) (n : ℕ) (job : Job) → IsJob jobs n job → slice_get jobs n ≡ Some job
read_job jobs n job it = slice_get_read jobs (length jobs) n job refl it.within (sym it.is)

pub job_there : (jobs : List Job) (n : ℕ) (job : Job) → slice_get jobs n ≡ Some job → IsJob jobs n job
job_there jobs n job is = record { within = slice_get_within jobs n job is; is = get_or_from_slice_get jobs n job job is }

-- there is one of each number below their count
pub record HasJob (jobs : List Job) (n : ℕ) : Type 0 where
  pub job : Job
  pub it : IsJob jobs n job

pub job_below : (jobs : List Job) (n : ℕ) → n < length jobs → HasJob jobs n
job_below [] n within = absurd (omega (arith, within))
job_below (x ∷ jobs) zero within = record { job = x; it = record { within = omega arith; is = refl } }
job_below (x ∷ jobs) (suc n) within =
    let later : HasJob jobs n = job_below jobs n (omega (arith, within)) in
    record { job = later.job; it = record { within = omega (arith, later.it.within); is = later.it.is } }

apart_from : (place : JobPlace) (jobs : List Job) (n : ℕ) (job : Job) → AllByRecursion (λ p. is_same_place place p ≡ false) (places jobs) →
    n < length jobs → slice_index_or jobs n job ≡ job → is_same_place place job.place ≡ false
apart_from place [] n job apart within is = absurd (omega (arith, within))
apart_from place (x ∷ jobs) zero job apart within is = subst (λ (j : Job). is_same_place place j.place ≡ false) is apart.0
apart_from place (x ∷ jobs) (suc n) job apart within is = apart_from place jobs n job apart.1 (omega (arith, within)) is

-- it is the one that is found at its place
found_from : (jobs : List Job) (n : ℕ) (job : Job) → AreApart jobs → n < length jobs → slice_index_or jobs n job ≡ job →
    find (is_at job.place) jobs ≡ Some job
found_from [] n job apart within is = absurd (omega (arith, within))
found_from (x ∷ jobs) zero job apart within is =
    ap (λ b. cond b (Some x) (find (is_at job.place) jobs)) (ap (λ (j : Job). is_same_place j.place job.place) is ∙ same_itself job.place) ∙ ap Some is
found_from (x ∷ jobs) (suc n) job apart within is =
    let differs : is_same_place x.place job.place ≡ false =
    apart_from x.place jobs n job (IsDistinct-head is_same_place x.place (places jobs) apart) (omega (arith, within)) is in
    ap (λ b. cond b (Some x) (find (is_at job.place) jobs)) differs
    ∙ found_from jobs n job (IsDistinct-tail is_same_place x.place (places jobs) apart) (omega (arith, within)) is

numbered_from : (m : ℕ) (jobs : List Job) (n : ℕ) (job : Job) → AreApart jobs → n < length jobs → slice_index_or jobs n job ≡ job →
    number_from m job.place jobs ≡ m + n
numbered_from m [] n job apart within is = absurd (omega (arith, within))
numbered_from m (x ∷ jobs) zero job apart within is =
    ap (λ b. cond b m (number_from (m + 1) job.place jobs)) (ap (λ (j : Job). is_same_place j.place job.place) is ∙ same_itself job.place) ∙ omega arith
numbered_from m (x ∷ jobs) (suc n) job apart within is =
    let differs : is_same_place x.place job.place ≡ false =
    apart_from x.place jobs n job (IsDistinct-head is_same_place x.place (places jobs) apart) (omega (arith, within)) is in
    ap (λ b. cond b m (number_from (m + 1) job.place jobs)) differs
    ∙ numbered_from (m + 1) jobs n job (IsDistinct-tail is_same_place x.place (places jobs) apart) (omega (arith, within)) is
    ∙ omega arith

-- within a list it doesn't matter what is read past its end
read_within : (jobs : List Job) (n : ℕ) (d e : Job) → n < length jobs → slice_index_or jobs n d ≡ slice_index_or jobs n e
read_within [] n d e within = absurd (omega (arith, within))
read_within (x ∷ jobs) zero d e within = refl
read_within (x ∷ jobs) (suc n) d e within = read_within jobs n d e (omega (arith, within))

-- a number is that of one job
pub one_job : (jobs : List Job) (n m : ℕ) (one other : Job) → n ≡ m → IsJob jobs n one → IsJob jobs m other → one ≡ other
one_job jobs n m one other equal its its_too =
    sym its.is ∙ read_within jobs n one other its.within ∙ ap (λ k. slice_index_or jobs k other) equal ∙ its_too.is

-- the number under which a job was found, at this very place
pub record IsFound (jobs : List Job) (place : JobPlace) (job : Job) : Type 0 where
  pub number : ℕ
  pub there : IsJob jobs number job
  pub same : is_same_place job.place place ≡ true

found_first : (test : Bool) (place : JobPlace) (x job : Job) (jobs : List Job) → is_at place x ≡ test →
    cond test (Some x) (find (is_at place) jobs) ≡ Some job → (find (is_at place) jobs ≡ Some job → IsFound jobs place job) → IsFound (x ∷ jobs) place job
found_first true place x job jobs passes is rest =
    let same : x ≡ job = cc in
    record { number = 0; there = record { within = omega arith; is = same }; same = ap (λ (j : Job). is_same_place j.place place) (sym same) ∙ passes }
found_first false place x job jobs passes is rest =
    let later : IsFound jobs place job = rest is in
    record { number = suc later.number; there = record { within = omega (arith, later.there.within); is = later.there.is }; same = later.same }

pub found_is : (jobs : List Job) (place : JobPlace) (job : Job) → find (is_at place) jobs ≡ Some job → IsFound jobs place job
found_is [] place job is = absurd cc
found_is (x ∷ jobs) place job is = found_first (is_at place x) place x job jobs refl is (found_is jobs place job)

not_found_by : (test : Bool) (place : JobPlace) (x : Job) (jobs : List Job) (n : ℕ) (job : Job) → is_at place x ≡ test →
    cond test (Some x) (find (is_at place) jobs) ≡ None → n < suc (length jobs) → slice_index_or (x ∷ jobs) n job ≡ job →
    ((k : ℕ) → find (is_at place) jobs ≡ None → k < length jobs → slice_index_or jobs k job ≡ job → is_same_place job.place place ≡ false) →
    is_same_place job.place place ≡ false
not_found_by true place x jobs n job passes none within is rest = absurd cc
not_found_by false place x jobs zero job passes none within is rest = ap (λ (j : Job). is_same_place j.place place) (sym is) ∙ passes
not_found_by false place x jobs (suc n) job passes none within is rest = rest n none (omega (arith, within)) is

-- a place that no known job is at is none of theirs
pub not_found : (place : JobPlace) (jobs : List Job) (n : ℕ) (job : Job) → find (is_at place) jobs ≡ None → n < length jobs →
    slice_index_or jobs n job ≡ job → is_same_place job.place place ≡ false
not_found place [] n job none within is = absurd (omega (arith, within))
not_found place (x ∷ jobs) n job none within is =
    not_found_by (is_at place x) place x jobs n job refl none within is (λ k less so at. not_found place jobs k job less so at)

module _ (jobs : List Job) (apart : AreApart jobs) where
  pub found_at : (n : ℕ) (job : Job) → IsJob jobs n job → find (is_at job.place) jobs ≡ Some job
  found_at n job it = found_from jobs n job apart it.within it.is

  pub number_is : (n : ℕ) (job : Job) → IsJob jobs n job → number_of job.place jobs ≡ n
  number_is n job it = numbered_from 0 jobs n job apart it.within it.is ∙ omega arith

  -- two of them are at one place where they have one number
  pub same_by_number : (n m : ℕ) (one other : Job) → IsJob jobs n one → IsJob jobs m other → is_same_place one.place other.place ≡ (n == m)
  same_by_number n m one other its its_too =
      alike (is_same_place one.place other.place) (n == m)
      (λ same. eq-eqb n m (sym (number_is n one its) ∙ ap (λ (p : JobPlace). number_of p jobs) (same_place one.place other.place same) ∙ number_is m other its_too))
      (λ same. let equal : n ≡ m = eqb-true n m same in
      ap (λ (j : Job). is_same_place one.place j.place) (sym (one_job jobs n m one other equal its its_too)) ∙ same_itself one.place)

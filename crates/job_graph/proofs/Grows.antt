-- What is added to the known jobs, by the code's own words.
use Rattle.std.proofs.Common.{◌≡◌, ◌∙◌, ℕ, ◌+◌, ◌<◌, ◌≤◌, ◌⊎◌, inl, inr, List, [], ◌∷◌, ◌++◌, length, Bool, true, false, cond, Option, Some, None, Result, Ok, Err, sym, ap, subst, take, drop, append_assoc, arith, get_or, add-one}
use Rattle.std.proofs.Math.Seq.{drop-cons, take-append_seam, take-length}
use Rattle.std.proofs.lemmas.List.{length-map, map-append, take-append-drop}
use Rattle.plan_checker.specs.declared.graph.TheConstants.{MOST_VERTICES, MOST_ENTRIES}
use Rattle.job_graph.specs.declared.fault.UnfoldError.{UnfoldError}
use Rattle.job_graph.specs.declared.fault.UnfoldError.TheVariants.{Refused, OutOfMemory}
use Rattle.job_graph.specs.declared.fault.UnfoldFault.TheVariants as kept
use Rattle.job_graph.specs.declared.growth.KnownJob.{KnownJob}
use Rattle.job_graph.specs.Made.{any_made}
use Rattle.job_graph.specs.Words.{Fields}
use Rattle.job_graph.specs.Jobs.{Job, Met, met_job}
use Rattle.job_graph.specs.Unfold.{Known, Fault, too_many_jobs, is_known, is_within_limits, with_met, first_fault, known_from, entries_from, parents_from}
use Rattle.job_graph.specs.Unfolding.{fault_of}
use Rattle.job_graph.specs.inner.Growth.{AreCounted, Grows, GrowsTo}
use Rattle.job_graph.specs.KnownJobs.{job_of, jobs_in, known_of}
use Rattle.job_graph.proofs.MetMore.{with_met_append, fault_past, fault_front, known_push, entries_push, is_within, is_past}

-- ---- one that is met

abbrev fault_where : Bool → Bool → Option Fault
fault_where known within = cond known None (cond within None (Some too_many_jobs))

-- one job more
pub counted_push : (known : List KnownJob) (entries : ℕ) (one : KnownJob) → one.parents ≡ parents_from 0 (jobs_in known) one.job.inputs → AreCounted known entries →
    AreCounted (known ++ one ∷ []) (entries + length one.parents)
counted_push known entries one parents counted =
    let more : jobs_in (known ++ one ∷ []) ≡ jobs_in known ++ job_of one.job ∷ [] = map-append (λ (k : KnownJob). job_of k.job) known (one ∷ []) in
    record {
      parents = map-append known_of known (one ∷ [])
          ∙ ap (λ (before : List Known). before ++ known_of one ∷ []) counted.parents
          ∙ ap (λ (numbers : List ℕ). known_from [] (jobs_in known) ++ record { job = job_of one.job; parents = numbers } ∷ []) parents
          ∙ sym (known_push [] (jobs_in known) (job_of one.job))
          ∙ ap (known_from []) (sym more);
      count = ap (λ (n : ℕ). n + length one.parents) counted.count
          ∙ ap (λ (numbers : List ℕ). entries_from 0 [] (jobs_in known) + length numbers) parents
          ∙ sym (entries_push 0 [] (jobs_in known) (job_of one.job))
          ∙ ap (entries_from 0 []) (sym more);
    }

pub grows_push : (known : List KnownJob) (entries total : ℕ) (one : KnownJob) → is_known (jobs_in known) (job_of one.job) ≡ false →
    one.parents ≡ parents_from 0 (jobs_in known) one.job.inputs → length known < MOST_VERTICES → total ≡ entries + length one.parents → total ≤ MOST_ENTRIES →
    Grows known entries (met_job (job_of one.job) ∷ []) (known ++ one ∷ []) (Ok total)
grows_push known entries total one new parents few is small = record {
  front = take-append_seam known (one ∷ []);
  grown = λ (counted : AreCounted known entries).
      let more : jobs_in (known ++ one ∷ []) ≡ jobs_in known ++ job_of one.job ∷ [] = map-append (λ (k : KnownJob). job_of k.job) known (one ∷ []) in
      let as_many : length (jobs_in known) ≡ length known = length-map known (λ (k : KnownJob). job_of k.job) in
      let counts : entries ≡ entries_from 0 [] (jobs_in known) = counted.count in
      let numbers : length one.parents ≡ length (parents_from 0 (jobs_in known) one.job.inputs) = ap length parents in
      let within : is_within_limits (jobs_in known ++ job_of one.job ∷ []) ≡ true =
      is_within (jobs_in known) (job_of one.job) (omega arith) (omega arith) in (
        more ∙ sym (ap (λ (b : Bool). cond b (jobs_in known) (jobs_in known ++ job_of one.job ∷ [])) new),
        ap (λ (b : Bool). fault_where b (is_within_limits (jobs_in known ++ job_of one.job ∷ []))) new ∙ ap (λ (b : Bool). fault_where false b) within,
        subst (λ (n : ℕ). AreCounted (known ++ one ∷ []) n) (sym is) (counted_push known entries one parents counted),
      );
}

pub grows_past : (known : List KnownJob) (entries : ℕ) (job : Job) (parents : List ℕ) → is_known (jobs_in known) job ≡ false →
    parents ≡ parents_from 0 (jobs_in known) job.inputs → (MOST_VERTICES ≤ length known) ⊎ (MOST_ENTRIES < entries + length parents) →
    Grows known entries (met_job job ∷ []) known (Err (Refused kept.TooManyJobs))
grows_past known entries job parents new are past = record {
  front = take-length known;
  grown = λ (counted : AreCounted known entries).
      let as_many : length (jobs_in known) ≡ length known = length-map known (λ (k : KnownJob). job_of k.job) in
      let counts : entries ≡ entries_from 0 [] (jobs_in known) = counted.count in
      let numbers : length parents ≡ length (parents_from 0 (jobs_in known) job.inputs) = ap length are in
      let beyond : is_within_limits (jobs_in known ++ job ∷ []) ≡ false =
      is_past (jobs_in known) job (elim past [ inl many ↦ inl (omega arith) | inr large ↦ inr (omega arith) ]) in
      ap (λ (b : Bool). fault_where b (is_within_limits (jobs_in known ++ job ∷ []))) new ∙ ap (λ (b : Bool). fault_where false b) beyond;
}

-- ---- all that is met, one after another

front_of : (old now new : List KnownJob) → take (length old) now ≡ old → take (length now) new ≡ now → take (length old) new ≡ old
front_of old now new first second =
    let rest : old ++ drop (length old) now ≡ now = ap (λ (front : List KnownJob). front ++ drop (length old) now) (sym first) ∙ take-append-drop (length old) now in
    let whole : now ++ drop (length now) new ≡ new = ap (λ (front : List KnownJob). front ++ drop (length now) new) (sym second) ∙ take-append-drop (length now) new in
    let parts : old ++ (drop (length old) now ++ drop (length now) new) ≡ new =
    sym (append_assoc old (drop (length old) now) (drop (length now) new)) ∙ ap (λ (front : List KnownJob). front ++ drop (length now) new) rest ∙ whole in
    ap (take (length old)) (sym parts) ∙ take-append_seam old (drop (length old) now ++ drop (length now) new)

to_more : (old now : List KnownJob) (done more : List Met) (new : List KnownJob) (entries : ℕ) (result : Result ℕ UnfoldError) →
    GrowsTo old done now (Ok entries) → GrowsTo now more new result → GrowsTo old (done ++ more) new result
to_more old now done more new entries (Ok total) first second =
    let seen : first_fault (jobs_in old) (done ++ more) ≡ first_fault (jobs_in now) more =
    fault_past done more (jobs_in old) first.1 ∙ ap (λ (jobs : List Job). first_fault jobs more) (sym first.0) in
    (second.0 ∙ ap (λ (jobs : List Job). with_met jobs more) first.0 ∙ sym (with_met_append (jobs_in old) done more), seen ∙ second.1, second.2)
to_more old now done more new entries (Err (Refused fault)) first second =
    fault_past done more (jobs_in old) first.1 ∙ ap (λ (jobs : List Job). first_fault jobs more) (sym first.0) ∙ second
to_more old now done more new entries (Err OutOfMemory) first second = tt

pub grows_more : (old now : List KnownJob) (count entries : ℕ) (done more : List Met) (new : List KnownJob) (result : Result ℕ UnfoldError) →
    Grows old count done now (Ok entries) → Grows now entries more new result → Grows old count (done ++ more) new result
grows_more old now count entries done more new result first second = record {
  front = front_of old now new first.front second.front;
  grown = λ (counted : AreCounted old count).
      to_more old now done more new entries result (first.grown counted) (second.grown (first.grown counted).2);
}

fails_to : (old : List KnownJob) (met more : List Met) (new : List KnownJob) (error : UnfoldError) → GrowsTo old met new (Err error) → GrowsTo old (met ++ more) new (Err error)
fails_to old met more new (Refused fault) is = fault_front met more (jobs_in old) (fault_of fault) is
fails_to old met more new OutOfMemory is = tt

-- what comes after a fault changes nothing
pub grows_front : (old : List KnownJob) (count : ℕ) (met more : List Met) (new : List KnownJob) (error : UnfoldError) →
    Grows old count met new (Err error) → Grows old count (met ++ more) new (Err error)
grows_front old count met more new error grows = record {
  front = grows.front;
  grown = λ (counted : AreCounted old count). fails_to old met more new error (grows.grown counted);
}

-- ---- the parents among the jobs from a number on

pub parents_at : (known : List KnownJob) (n : ℕ) (one : KnownJob) (inputs : Fields) → n < length known → one ≡ get_or known n one →
    parents_from n (jobs_in (drop n known)) inputs
    ≡ cond (any_made one.job.place inputs) (n ∷ parents_from (n + 1) (jobs_in (drop (n + 1) known)) inputs) (parents_from (n + 1) (jobs_in (drop (n + 1) known)) inputs)
parents_at known n one inputs below is = rw (drop-cons known n one, ← is) (simp add-one)

-- ---- whether a job is known

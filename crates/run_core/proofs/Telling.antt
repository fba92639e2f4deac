-- What comes of a course where one more place is told to what is known, and where it is known first.
use Rattle.std.specs.Prelude.{IsSome, OnErr, slice_get}
use Rattle.std.proofs.Common.{◌≡◌, ◌∙◌, ℕ, true, false, List, Option, Some, None, Result, Ok, Err, refl, sym, ap, subst}
use Rattle.job_graph.specs.Jobs.{Job, Walker}
use Rattle.job_graph.specs.Unfold.{Resolved, unfolded}
use Rattle.job_graph.specs.Unfolding.{AnswersAlike, Blames, Learns as LearnsPlace}
use Rattle.job_graph.proofs.Knowing.{learns_by}
use Rattle.job_graph.specs.Words.{Fields, JobPlace}
use Rattle.job_graph.specs.declared.fault.UnfoldError.{UnfoldError}
use Rattle.job_graph.specs.declared.fault.UnfoldError.TheVariants.{Refused, OutOfMemory}
use Rattle.job_graph.specs.declared.fault.UnfoldFault.{UnfoldFault}
use Rattle.job_graph.specs.declared.unfolding.Unfolding.{Unfolding}
use Rattle.run_rules.specs.declared.outcome.Outcome.{Outcome}
use Rattle.run_rules.specs.declared.outcome.RunFault.{RunFault}
use Rattle.run_core.specs.declared.state.Course.{Course}
use Rattle.run_core.specs.inner.Course.{known_in, past_of, place_at, with_end}
use Rattle.run_core.specs.inner.Knows.{IsTold, IsUnfolded, Learns, LearnsUnlessOver, end_by, fails, knows}
use Rattle.run_core.proofs.Choosing.{place_there}

-- out of memory before anything is told
pub told_none : (one : Resolved) (kept : Unfolding) (new : Option Unfolding) (result : Result (Unit {0}) UnfoldError) (error : UnfoldError) →
    new ≡ Some kept → result ≡ Err error → error ≡ OutOfMemory → IsTold one kept new result
told_none one kept new result error is failed none =
    subst (λ (r : Result (Unit {0}) UnfoldError). IsTold one kept new r) (sym (failed ∙ ap (λ (e : UnfoldError). Err e) none))
    (record { told = kept; is = is; learns = refl; alike = record { jobs = refl; result = refl; outs = refl } })

-- the place of the job of a number is told
pub told_place : (jobs : List Job) (number : ℕ) (outputs : Fields) (job : Job) (place : JobPlace) (known : Option Unfolding) (held told kept : Unfolding)
    (result : Result (Unit {0}) UnfoldError) →
    slice_get jobs number ≡ Some job → place ≡ job.place → known ≡ Some held →
    LearnsPlace held (record { place = place; outputs = outputs }) told result → OnErr result (AnswersAlike held told) → known ≡ Some kept →
    IsTold (record { place = place_at jobs number; outputs = outputs }) kept (Some told) result
told_place jobs number outputs job place known held told kept result there same is learns alike now =
    let both : Some held ≡ Some kept = sym is ∙ now in
    let held_is : held ≡ kept = cc in
    let here : place ≡ place_at jobs number = same ∙ sym (place_there jobs number job there) in
    subst (λ (u : Unfolding). IsTold (record { place = place_at jobs number; outputs = outputs }) u (Some told) result) held_is
    (subst (λ (p : JobPlace). IsTold (record { place = p; outputs = outputs }) held (Some told) result) here
    (record { told = told; is = refl; learns = learns; alike = alike }))

never_over : {T : Type 0} (o : Option T) → IsSome o → o ≡ None → ⊥
never_over None some none = let never : false ≡ true = some in cc
never_over (Some x) some none = let never : Some x ≡ None = none in cc

pub knows_told : (one : Resolved) (old new : Course) (done : Unit {0}) → ((kept : Unfolding) → old.known ≡ Some kept → IsTold one kept new.known (Ok done)) →
    past_of new ≡ past_of old → Learns one old new
knows_told one old new done tells past = λ walks learned kept is k.
    let now : IsTold one kept new.known (Ok done) = tells kept is in
    knows now.told new (learns_by walks learned one kept now.told (Ok done) k now.learns) now.is past

module _ (old : Course) (fault : UnfoldFault) (end : Result Outcome RunFault) (ends : end ≡ end_by fault) where
  pub fails_told : (one : Resolved) (told new : Course) (error : UnfoldError) →
      ((kept : Unfolding) → old.known ≡ Some kept → IsTold one kept told.known (Err error)) → error ≡ Refused fault → past_of told ≡ past_of old →
      past_of new ≡ with_end end (past_of told) → new.known ≡ told.known → Learns one old new
  fails_told one told new error tells refused past settles same = λ walks learned kept is k.
      let now : IsTold one kept told.known (Err (Refused fault)) =
      subst (λ (e : UnfoldError). IsTold one kept told.known (Err e)) refused (tells kept is) in
      let alike : AnswersAlike kept now.told = now.alike in
      fails fault new (learns_by walks learned one kept now.told (Err (Refused fault)) k now.learns).0
      (ap known_in (same ∙ now.is) ∙ alike.jobs ∙ sym (ap known_in is))
      (settles ∙ ap (λ (e : Result Outcome RunFault). with_end e (past_of told)) ends ∙ ap (with_end (end_by fault)) past)

  pub fails_first : (walks : Walker) (learned : List Resolved) (new : Course) (error : UnfoldError) →
      Blames (unfolded walks learned).fault error → error ≡ Refused fault → past_of new ≡ with_end end (past_of old) → new.known ≡ old.known →
      IsUnfolded walks learned old new
  fails_first walks learned new error blames refused settles same =
      fails fault new (subst (λ (e : UnfoldError). Blames (unfolded walks learned).fault e) refused blames) (ap known_in same)
      (settles ∙ ap (λ (e : Result Outcome RunFault). with_end e (past_of old)) ends)

-- where the end is not settled
pub unless_over : (one : Resolved) (old new : Course) → old.end ≡ None → Learns one old new → LearnsUnlessOver one old new
unless_over one old new none learns = record {
  settled = λ over. absurd (never_over old.end over none);
  unlearned = λ over. absurd (never_over old.end over none);
  learned = λ going. learns;
}

-- Each row that a run put has outputs that a record reads back.
use Rattle.std.specs.Prelude.{Contains, IfOk}
use Rattle.std.specs.declared.alloc.AllocError.{AllocError}
use Rattle.std.proofs.Common.{◌≡◌, ◌++◌, ◌∷◌, [], inl, inr, ℕ, zero, suc, List, Result, Ok, Err, sym, subst, arith}
use Rattle.std.proofs.lemmas.List.Elements.{Contains-append_left, Contains-append_cases}
use Rattle.job_graph.specs.Words.{JobPlace}
use Rattle.job_reuse.specs.Form.{AreInForm}
use Rattle.job_reuse.proofs.Lawful.{are_kept}
use Rattle.job_rows.specs.Storable.{IsKept}
use Rattle.job_rows.specs.declared.row.Row.{Row}
use Rattle.run_rules.specs.Answers.{AreAnswers, MayAnswer}
use Rattle.run_rules.specs.Reports.{AreWaits, Concludes, lost, whole}
use Rattle.run_rules.specs.Scene.{scene_of}
use Rattle.run_rules.specs.Steps.{command}
use Rattle.run_rules.specs.declared.outcome.Report.{Report}
use Rattle.run_rules.specs.declared.outcome.RunFault.{RunFault}
use Rattle.run_rules.specs.declared.request.Answer.{Answer}
use Rattle.run_rules.specs.declared.request.Pair.{Pair}
use Rattle.run_rules.specs.declared.request.RecordAnswer.{RecordAnswer}
use Rattle.run_rules.specs.declared.request.RecordRequest.TheVariants.{Put}
use Rattle.run_rules.specs.declared.request.Request.{Request}
use Rattle.run_rules.specs.declared.setting.Setting.{Setting}
use Rattle.run_rules.proofs.Kept.{kept_by, put_collected}
use Rattle.run_rules.proofs.TranscriptTells.{none_in, only_in}
use Rattle.workflow_engine.specs.inner.Mapped.{ArePut, pairs_by}

-- ---- each answer is one that its request can have

pub no_answer : (t : List Pair) → t ≡ [] → AreAnswers t
no_answer t none pair there = absurd (none_in pair (subst (λ (ps : List Pair). Contains ps pair) none there))

one_answer : (flying : List ℕ) (asks : Request) (told : Result Answer AllocError) → IfOk told (MayAnswer flying asks) → AreAnswers (pairs_by asks told)
one_answer flying asks (Ok answer) may pair there =
    (flying, subst (λ (p : Pair). MayAnswer flying p.request p.answer) (only_in (record { request = asks; answer = answer }) pair there) may)
one_answer flying asks (Err error) may pair there = absurd (none_in pair there)

pub answers_on : (t all : List Pair) (flying : List ℕ) (asks : Request) (told : Result Answer AllocError) → AreAnswers t → IfOk told (MayAnswer flying asks) →
    all ≡ t ++ pairs_by asks told → AreAnswers all
answers_on t all flying asks told one may is pair there =
    elim (Contains-append_cases t (pairs_by asks told) pair (subst (λ (ps : List Pair). Contains ps pair) is there)) [
      | inl before ↦ one pair before
      | inr now ↦ one_answer flying asks told may pair now
    ]

-- ---- each row is such as is read back

-- while children are waited for, no row is put
no_wait : (waits : List Pair) (place : JobPlace) (row : Row) (answer : RecordAnswer) → AreWaits waits → Contains waits (command place (Put row) answer) → ⊥
no_wait [] place row answer are there = none_in _ there
no_wait (pair ∷ waits) place row answer are (zero, within, is) =
    let same : pair.request ≡ Request.Record place (Put row) = cc in let wait = are.0 in cc
no_wait (pair ∷ waits) place row answer are (suc k, within, is) = no_wait waits place row answer are.1 (k, omega (arith, within), is)

pub puts_read : (setting : Setting) (t : List Pair) (result : Result Report RunFault) → Concludes setting t result → AreAnswers t → ArePut AreInForm t → ArePut IsKept t
puts_read setting t _ (lost front waits f plans goes are_waits is) answers form = record {
  each = λ place row answer there.
      elim (Contains-append_cases front waits (command place (Put row) answer) (subst (λ (ps : List Pair). Contains ps (command place (Put row) answer)) is there)) [
        | inl before ↦
            let still : AreAnswers front = λ pair its. answers pair (subst (λ (ps : List Pair). Contains ps pair) (sym is) (Contains-append_left front waits pair its)) in
            kept_by are_kept row.outputs (put_collected (scene_of setting) _ goes still place row (Answer.Record answer) before) (form.each place row answer there)
        | inr after ↦ absurd (no_wait waits place row answer are_waits after)
      ];
}
puts_read setting t _ (whole end run right) answers form = record {
  each = λ place row answer there.
      kept_by are_kept row.outputs (put_collected (scene_of setting) _ run.goes answers place row (Answer.Record answer) there) (form.each place row answer there);
}

use Rattle.std.proofs.Common.{◌≡◌, true≢false, take, length, List, All, Contains, refl, sym, ap, subst, ◌∙◌, arith}
use Rattle.std.proofs.Math.Seq.{take-length}
use Rattle.staging.specs.declared.found.Found.{Found}
use Rattle.job_reuse.proofs.Among.{among_at, among_more}
use Rattle.job_reuse.proofs.fetched.all_among.Goals as goal

pub returns-then-not-is_among : goal.returns-then-not-is_among
returns-then-not-is_among c = (
  λ h. absurd (true≢false (sym h)),
  λ all. absurd (true≢false (sym (c.is_among.ensures.1 (among_at c.args.those.now c.args.these.now c.loop-index.index c.index-these-index.result c.loop-index-test.true c.index-these-index.is all)) ∙ c.if-not-is_among.true)),
)

pub loop-index-preserved : goal.loop-index-preserved
loop-index-preserved c =
    among_more c.args.those.now c.args.these.now c.loop-index.index c.index-these-index.result c.loop-index-test.true c.index-these-index.is c.loop-index.invariant (c.is_among.ensures.0 c.if-not-is_among.false)

pub returns : goal.returns
returns c =
    let end : c.loop-index.index ≡ length c.args.these.now = omega arith in
    let all : take c.loop-index.index c.args.these.now ≡ c.args.these.now = ap (λ n. take n c.args.these.now) end ∙ take-length c.args.these.now in
    (λ h. subst (λ (l : List Found). All (Contains c.args.those.now) l) all c.loop-index.invariant, λ h. refl)

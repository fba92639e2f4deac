-- The first pairs of a run are a run so far, with the plan that was followed then.
use Rattle.std.specs.Prelude.{MatchBool, Contains}
use Rattle.std.proofs.Common.{◌≡◌, ◌∙◌, ◌⊎◌, inl, inr, ℕ, Bool, true, false, List, [], ◌∷◌, ◌++◌, length, refl, sym, ap, subst}
use Rattle.std.proofs.lemmas.List.Elements.{Contains-append_left, Contains-push}
use Rattle.plan_checker.specs.declared.vertex.Vertex.{Vertex}
use Rattle.run_rules.specs.declared.outcome.PlanNote.{PlanNote}
use Rattle.run_rules.specs.declared.request.Pair.{Pair}
use Rattle.run_rules.specs.declared.setting.Setting.{Setting}
use Rattle.run_rules.specs.Costs.{graph_at}
use Rattle.run_rules.specs.Events.{Progress, at_first}
use Rattle.run_rules.specs.Followed.{FollowsCheapest}
use Rattle.run_rules.specs.Plans.{InForce, PlansSoFar, is_planning, no_plans, plan_note}
use Rattle.run_rules.specs.Run.{Goes, MakesPlan, Replans, asks, begins}
use Rattle.run_rules.specs.Scene.{Scene, scene_of}
use Rattle.run_rules.specs.Steps.{progress_with}

-- what is before the last pair
record IsBefore (front t : List Pair) : Type 0 where
  rest : List Pair
  is : t ≡ front ++ rest

split : (front rest t : List Pair) (p : Pair) → t ++ p ∷ [] ≡ front ++ rest → (front ≡ t ++ p ∷ []) ⊎ IsBefore front t
split [] rest t p is = inr (record { rest = t; is = refl })
split (x ∷ []) rest [] p is = let same : p ≡ x = cc in inl (ap (λ (one : Pair). one ∷ []) (sym same))
split (x ∷ y ∷ front) rest [] p is = absurd cc
split (x ∷ front) rest (y ∷ t) p is =
    let first : y ≡ x = cc in
    let later : t ++ p ∷ [] ≡ front ++ rest = cc in
    elim (split front rest t p later) [
      | inl whole ↦ inl (ap (λ (ps : List Pair). x ∷ ps) whole ∙ ap (λ (one : Pair). one ∷ (t ++ p ∷ [])) (sym first))
      | inr before ↦ inr (record { rest = before.rest; is = ap (λ (ps : List Pair). y ∷ ps) before.is ∙ ap (λ (one : Pair). one ∷ (front ++ before.rest)) first })
    ]

module _ (s : Scene) where
  -- what is noted stays so
  stays_noted : (after : ℕ) (f : Progress) (old new : PlansSoFar) (planning : Bool) → MatchBool planning (MakesPlan s (InForce s) after f old new) (new ≡ old) → (note : PlanNote) →
      Contains old.notes note → Contains new.notes note
  stays_noted after f old new true made note there =
      subst (λ (notes : List PlanNote). Contains notes note) (sym made.notes) (Contains-append_left old.notes (plan_note after new.graph new.marks ∷ []) note there)
  stays_noted after f old new false same note there = subst (λ (plans : PlansSoFar). Contains plans.notes note) (sym same) there

  -- a plan that is made is noted
  noted_now : (after : ℕ) (f : Progress) (old new : PlansSoFar) → Replans s (InForce s) after f old new → is_planning s f ≡ true →
      Contains new.notes (plan_note after (graph_at s f.events) new.marks)
  noted_now after f old new replanned planning =
      let made : MakesPlan s (InForce s) after f old new = subst (λ b. MatchBool b (MakesPlan s (InForce s) after f old new) (new ≡ old)) planning replanned in
      subst (λ (graph : List Vertex). Contains new.notes (plan_note after graph new.marks)) made.graph
      (subst (λ (notes : List PlanNote). Contains notes (plan_note after new.graph new.marks)) (sym made.notes) (Contains-push old.notes (plan_note after new.graph new.marks)))

module _ (setting : Setting) where
  abbrev s : Scene
  s = scene_of setting

  -- the whole of it
  all_of_it : (t : List Pair) (f : Progress) (after : ℕ) (old plans : PlansSoFar) → Goes s (InForce s) t f plans → after ≡ length t → Replans s (InForce s) after f old plans →
      FollowsCheapest setting t plans.notes
  all_of_it t f after old plans goes counted replanned = record {
    happened = f;
    plans = plans;
    so_far = goes;
    cheapest = λ planning.
        let made : MakesPlan s (InForce s) after f old plans = subst (λ b. MatchBool b (MakesPlan s (InForce s) after f old plans) (plans ≡ old)) planning replanned in
        made.marks.cheapest;
    noted = λ planning. subst (λ n. Contains plans.notes (plan_note n (graph_at s f.events) plans.marks)) counted (noted_now s after f old plans replanned planning);
  }

  pub each_front : {t : List Pair} {f : Progress} {plans : PlansSoFar} → Goes s (InForce s) t f plans → (front rest : List Pair) → t ≡ front ++ rest → FollowsCheapest setting front plans.notes
  each_front (begins plans its) [] rest is = all_of_it [] at_first 0 no_plans plans (begins plans its) refl its
  each_front (begins plans its) (x ∷ front) rest is = absurd cc
  each_front (asks t f old p work new plans goes may steps its) front rest is = elim (split front rest t p is) [
    | inl whole ↦ subst (λ (ps : List Pair). FollowsCheapest setting ps plans.notes) (sym whole)
        (all_of_it (t ++ p ∷ []) (progress_with f work new) (length (t ++ p ∷ [])) old plans (asks t f old p work new plans goes may steps its) refl its)
    | inr before ↦
        let there : FollowsCheapest setting front old.notes = each_front goes front before.rest before.is in
        record {
          happened = there.happened;
          plans = there.plans;
          so_far = there.so_far;
          cheapest = there.cheapest;
          noted = λ planning. stays_noted s (length (t ++ p ∷ [])) (progress_with f work new) old plans (is_planning s (progress_with f work new)) its
              (plan_note (length front) (graph_at s there.happened.events) there.plans.marks) (there.noted planning);
        }
  ]

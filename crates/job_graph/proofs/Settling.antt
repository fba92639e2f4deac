-- What a look at each step keeps, while steps are walked.
use Rattle.std.proofs.Common.{◌≡◌, ◌∙◌, ℕ, zero, ◌+◌, ◌<◌, suc, List, [], ◌∷◌, length, drop, get_or, map, set, Bool, true, false, Option, Some, None, refl, sym, ap, subst, arith}
use Rattle.std.specs.Prelude.{◌&&◌, slice_get}
use Rattle.std.specs.List.{list_all}
use Rattle.std.specs.Map.{keys_of}
use Rattle.std.proofs.Math.Seq.{drop-cons, drop-length}
use Rattle.std.proofs.lemmas.List.{drop-set-lt}
use Rattle.document_links.specs.declared.process.Step.{Step}
use Rattle.plain_data.specs.ByName.{with_value}
use Rattle.job_graph.specs.declared.made.Facts.{Facts}
use Rattle.job_graph.specs.declared.walk.Met.{Met as KeptMet}
use Rattle.job_graph.specs.Apart.{differ}
use Rattle.job_graph.specs.Words.{Name, Fields, JobPlace}
use Rattle.job_graph.specs.Links.{Env}
use Rattle.job_graph.specs.inner.Rounds.{AllMeet, Holds, MeetsBy, SettlesMore, count, is_stuck, walk_at}
use Rattle.job_graph.specs.inner.Views.{met_of}
use Rattle.job_graph.proofs.laws_of_walks.Settled.{holds_then, one_more}

module _ (facts : Facts) (place : JobPlace) (inputs : Fields) (steps : List (Name × Step)) where
  -- either each of the first steps is stuck and nothing changed, or one was walked
  abbrev pub SoFar : Env → ℕ → Bool → Env → Type 0
  SoFar old i false env = (env ≡ old) × (list_all (is_stuck old) steps ≡ list_all (is_stuck old) (drop i steps))
  SoFar old i true env = count old steps < count env steps

  pub record Going (old : Env) (i : ℕ) (more : Bool) (env : Env) (kept : List (Option (List KeptMet))) : Type 0 where
    pub holds : Holds facts place inputs steps env kept
    pub so_far : SoFar old i more env

  past_stuck : (old env : Env) (i : ℕ) (more : Bool) (s : Name × Step) → i < length steps → s ≡ get_or steps i s → is_stuck env s ≡ true → SoFar old i more env → SoFar old (i + 1) more env
  past_stuck old env i true s below is stuck so = so
  past_stuck old env i false s below is stuck so =
      let here : is_stuck old (get_or steps i s) ≡ true = ap (is_stuck old) (sym is) ∙ ap (λ (e : Env). is_stuck e s) (sym so.0) ∙ stuck in
      let next : suc i ≡ i + 1 = omega arith in (
        so.0,
        so.1 ∙ ap (list_all (is_stuck old)) (drop-cons steps i s below) ∙ ap (λ (b : Bool). b && list_all (is_stuck old) (drop (suc i) steps)) here
            ∙ ap (λ (n : ℕ). list_all (is_stuck old) (drop n steps)) next,
      )

  past_walked : (old env new : Env) (i : ℕ) (more : Bool) → count env steps < count new steps → SoFar old i more env → count old steps < count new steps
  past_walked old env new i true grown so = omega (arith, grown, so)
  past_walked old env new i false grown so = subst (λ (e : Env). count e steps < count new steps) so.0 grown

  module _ (old env : Env) (kept : List (Option (List KeptMet))) (i : ℕ) (s : Name × Step) (below : i < length steps) (is : s ≡ get_or steps i s) where
    -- a step that is stuck was looked at
    pub goes_past : (more : Bool) → Going old i more env kept → is_stuck env s ≡ true → Going old (i + 1) more env kept
    goes_past more going stuck = record { holds = going.holds; so_far = past_stuck old env i more s below is stuck going.so_far }

    -- one more step was walked
    pub goes_on : differ (keys_of steps) ≡ true → (more : Bool) (new : Env) (met : List KeptMet) (later : List (Option (List KeptMet))) → Going old i more env kept → is_stuck env s ≡ false
        → map met_of met ≡ (walk_at facts place inputs env s).met → new ≡ with_value s.0 (walk_at facts place inputs env s).outs env → later ≡ set kept i (Some met) → Going old (i + 1) true new later
    goes_on apart more new met later going free met_is new_is later_is =
        let grown : count env steps < count new steps =
        subst (λ (e : Env). count env steps < count e steps) (sym new_is) (one_more facts place inputs steps apart env kept i s below is free going.holds) in
        record {
          holds = subst (λ (e : Env). Holds facts place inputs steps e later) (sym new_is)
              (subst (Holds facts place inputs steps (with_value s.0 (walk_at facts place inputs env s).outs env)) (sym later_is)
              (holds_then facts place inputs steps apart env kept i s below is free going.holds met met_is));
          so_far = past_walked old env new i more grown going.so_far;
        }

  pub going_at_first : (old : Env) (kept : List (Option (List KeptMet))) → Holds facts place inputs steps old kept → Going old 0 false old kept
  going_at_first old kept holds = record { holds = holds; so_far = (refl, refl) }

  pub gone : (old new : Env) (i : ℕ) (more : Bool) (kept : List (Option (List KeptMet))) → i ≡ length steps → Going old i more new kept → SettlesMore facts place inputs steps old more new kept
  gone old new i true kept end going = record { holds = going.holds; goes_on = going.so_far }
  gone old new i false kept end going = record {
    holds = going.holds;
    goes_on = ap (λ (e : Env). list_all (is_stuck e) steps) going.so_far.0 ∙ going.so_far.1 ∙ ap (λ (n : ℕ). list_all (is_stuck old) (drop n steps)) end ∙ ap (list_all (is_stuck old)) (drop-length steps);
  }

  -- what is kept of one step, and of those after it
  pub slot_met : (env : Env) (some : List (Name × Step)) (kept : List (Option (List KeptMet))) (i : ℕ) (s : Name × Step) (slot : Option (List KeptMet)) → i < length some → s ≡ get_or some i s
      → slice_get kept i ≡ Some slot → AllMeet facts place inputs env (drop i some) (drop i kept)
      → MeetsBy facts place inputs env s slot × AllMeet facts place inputs env (drop (suc i) some) (drop (suc i) kept)
  slot_met env [] kept i s slot below is at all = absurd (omega (arith, below))
  slot_met env (u ∷ us) [] i s slot below is at all = absurd cc
  slot_met env (u ∷ us) (k ∷ ks) zero s slot below is at all =
      let same : k ≡ slot = cc in
      (subst (λ (o : Option (List KeptMet)). MeetsBy facts place inputs env s o) same (subst (λ (v : Name × Step). MeetsBy facts place inputs env v k) (sym is) all.0), all.1)
  slot_met env (u ∷ us) (k ∷ ks) (suc i) s slot below is at all = let less : i < length us = omega (arith, below) in slot_met env us ks i s slot less is at all

  pub slots_left : (env : Env) (kept : List (Option (List KeptMet))) (i : ℕ) (s : Name × Step) (slot : Option (List KeptMet)) → i < length steps → s ≡ get_or steps i s
      → slice_get kept i ≡ Some slot → AllMeet facts place inputs env (drop i steps) (drop i kept) → (later : List (Option (List KeptMet))) → later ≡ set kept i None
      → AllMeet facts place inputs env (drop (i + 1) steps) (drop (i + 1) later)
  slots_left env kept i s slot below is at all later set_is =
      let next : suc i ≡ i + 1 = omega arith in
      let past : i < suc i = omega arith in
      let same : drop (suc i) kept ≡ drop (suc i) later = sym (ap (drop (suc i)) set_is ∙ drop-set-lt (suc i) kept i None past) in
      subst (λ (n : ℕ). AllMeet facts place inputs env (drop n steps) (drop n later)) next
      (subst (AllMeet facts place inputs env (drop (suc i) steps)) same (slot_met env steps kept i s slot below is at all).1)

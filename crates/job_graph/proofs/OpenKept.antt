-- What is kept stays where a job is learned while one beside it is open.
use Rattle.std.proofs.Common.{◌≡◌, ◌∙◌, ⊎_elim, inl, inr, List, [], ◌∷◌, ◌++◌, map, true, Option, Some, None, refl, sym, ap, subst, arith}
use Rattle.std.specs.List.{AllByRecursion, flat_map, list_all}
use Rattle.cwl_process.specs.declared.workflow.WorkflowOutput.{WorkflowOutput}
use Rattle.document_links.specs.declared.process.Process.{Process, out-Process}
use Rattle.document_links.specs.declared.process.Process.TheOpen.{Process-F}
use Rattle.document_links.specs.declared.process.Step.{Step}
use Rattle.document_links.specs.declared.process.Workflow.{Workflow, out-Workflow}
use Rattle.plain_data.specs.ByName.{map_values, value_at}
use Rattle.job_graph.specs.inner.Elements.{IsIn}
use Rattle.job_graph.specs.Apart.{differ, ids_differ, step_ids_differ}
use Rattle.job_graph.specs.Words.{Name, Fields, JobPlace}
use Rattle.job_graph.specs.Jobs.{Job, Met, Outs, Walk}
use Rattle.job_graph.specs.Links.{Env, output_value}
use Rattle.job_graph.specs.Equations.{StepMeaning, fault_at, step_meaning_of, step_walk}
use Rattle.job_graph.specs.declared.kept.Kept.{Kept}
use Rattle.job_graph.specs.declared.made.Facts.{Facts}
use Rattle.job_graph.specs.inner.Going.{EndedBelow, facts_before}
use Rattle.job_graph.specs.inner.Kept.{AtRoot, KeepsRoot, root_walk}
use Rattle.job_graph.specs.inner.Levels.{steps_of, steps_walk}
use Rattle.job_graph.specs.inner.Rounds.{IsSettled, StandsBy, walk_at}
use Rattle.job_graph.specs.inner.Views.{made_from}
use Rattle.job_graph.proofs.Going.{keeps_where}
use Rattle.job_graph.proofs.Nesting.{one_fewer}
use Rattle.job_graph.proofs.RootWalk.{inside_workflow, of_root, of_workflow, root_apart, steps_apart}
use Rattle.job_graph.proofs.SettledWalk.{settled_walk}
use Rattle.job_graph.proofs.laws_of_walks.Beside.{Beside, HasAt, StepStill, has_append, has_holds}
use Rattle.job_graph.proofs.laws_of_walks.BesideSteps.{StepIs, all_steps_still, each_has, steps_same}
use Rattle.job_graph.proofs.laws_of_walks.GoesOn.{made_alike}
use Rattle.job_graph.proofs.laws_of_walks.Grown.{steps_rise}
use Rattle.job_graph.proofs.laws_of_walks.Part.{stays_itself}
use Rattle.job_graph.proofs.laws_of_walks.Places.{StepFans, faults_none, ids_of, no_job, same_ids}
use Rattle.job_graph.proofs.laws_of_walks.Same.{StepAgrees}

head_alike : (a b : Name × Outs) (xs ys : List (Name × Outs)) → a ∷ xs ≡ b ∷ ys → a ≡ b
head_alike a b xs ys is = cc

tail_alike : (a b : Name × Outs) (xs ys : List (Name × Outs)) → a ∷ xs ≡ b ∷ ys → xs ≡ ys
tail_alike a b xs ys is = cc

abbrev named_by : (Name × Step → Outs) → List (Name × Step) → List (Name × Outs)
named_by f steps = map (λ s. (s.0, f s)) steps

outs_alike : (f g : Name × Step → Outs) (steps : List (Name × Step)) → named_by f steps ≡ named_by g steps → (s : Name × Step) → IsIn s steps → f s ≡ g s
outs_alike f g [] same s at = absurd at
outs_alike f g (x ∷ xs) same s (inl here) =
    ap f here ∙ ap (λ (p : Name × Outs). p.1) (head_alike (x.0, f x) (x.0, g x) (named_by f xs) (named_by g xs) same) ∙ sym (ap g here)
outs_alike f g (x ∷ xs) same s (inr later) = outs_alike f g xs (tail_alike (x.0, f x) (x.0, g x) (named_by f xs) (named_by g xs) same) s later

fused : (inputs : Fields) (env : Env) (means : Step → StepMeaning) (steps : List (Name × Step))
    → map {B = Name × Outs} (λ s. (s.0, (step_walk [] inputs env s).outs)) (map_values means steps) ≡ named_by (λ s. (means s.1 s.0 [] inputs env).outs) steps
fused inputs env means [] = refl
fused inputs env means (s ∷ ss) = ap (λ (rest : List (Name × Outs)). (s.0, (means s.1 s.0 [] inputs env).outs) ∷ rest) (fused inputs env means ss)

module _ (facts : Facts) (r : JobPlace) (below : EndedBelow facts [] r) (w : JobPlace) (beside : Beside below.last.at.place w)
    (waits : (job : Job) → job.place ≡ w → made_from (facts_before facts) job ≡ None) (open_more : (job : Job) → job.place ≡ w → made_from facts job ≡ None) where
  abbrev before : Facts
  before = facts_before facts

  abbrev F : Step → StepMeaning
  F = step_meaning_of facts.measures (made_from before)

  abbrev H : Step → StepMeaning
  H = step_meaning_of facts.measures (made_from facts)

  abbrev at_r : JobPlace
  at_r = below.last.at.place

  module _ (inputs : Fields) (steps : List (Name × Step)) (apart : differ (ids_of steps) ≡ true) (inside : list_all (λ s. step_ids_differ s.1) steps ≡ true)
      (env : Env) (was : IsSettled before [] inputs steps env) (there : HasAt w (flat_map (λ s. (step_walk [] inputs env s).met) (map_values F steps))) where
    each : AllByRecursion (λ (e : Name × Step). StepIs facts.measures (made_from before) (made_from facts) at_r w (made_alike facts [] r below) waits open_more e.1) steps
    each = all_steps_still facts.measures (made_from before) (made_from facts) at_r w (made_alike facts [] r below) waits open_more steps inside

    same : named_by (λ s. (walk_at before [] inputs env s).outs) steps ≡ named_by (λ s. (walk_at facts [] inputs env s).outs) steps
    same = sym (fused inputs env F steps) ∙ (steps_same at_r w F H [] inputs at_r w beside refl refl env env (λ step name. stays_itself _) steps apart
        (each_has facts.measures (made_from before) (made_from facts) at_r w (made_alike facts [] r below) waits open_more (λ s. StepFans (F s)) (λ s is. is.fans) steps each)
        (steps_rise facts.measures (made_from before) steps)
        (each_has facts.measures (made_from before) (made_from facts) at_r w (made_alike facts [] r below) waits open_more (λ s. StepAgrees (λ job. job.place ≡ at_r → ⊥) (F s) (H s)) (λ s is. is.agree) steps each)
        (each_has facts.measures (made_from before) (made_from facts) at_r w (made_alike facts [] r below) waits open_more (λ s. StepStill at_r w (F s) (H s)) (λ s is. is.still) steps each)
        there).0 ∙ fused inputs env H steps

    stands : (s : Name × Step) → IsIn s steps → (found : Option Outs) → StandsBy before [] inputs env s found → StandsBy facts [] inputs env s found
    stands s among None stood = tt
    stands s among (Some outs) stood =
        (stood.0, stood.1 ∙ outs_alike (λ s. (walk_at before [] inputs env s).outs) (λ s. (walk_at facts [] inputs env s).outs) steps same s among)

    pub still_settled : IsSettled facts [] inputs steps env
    still_settled = record {
      keeps = keeps_where facts [] r below inputs steps (ap differ (same_ids steps) ∙ apart) inside env was (λ s among. stands s among (value_at s.0 env) (was.keeps.stands s among));
      stuck = was.stuck;
    }

  -- of the root
  module _ (p : Process) (fields : Fields) (apart : ids_differ p ≡ true) where
    of_steps : (inputs : Fields) (env : Env) (outputs : List (Name × WorkflowOutput)) (steps : List (Name × Step)) → IsSettled before [] inputs steps env → HasAt w (steps_walk outputs (steps_of before steps) [] inputs).met
        → HasAt w (flat_map (λ s. (step_walk [] inputs env s).met) (map_values F steps))
    of_steps inputs env outputs steps was at =
        let faults : List Met = flat_map (λ (o : Name × WorkflowOutput). fault_at [] (output_value inputs env o.1.links)) outputs in
        let met : List Met = flat_map (λ (s : Name × StepMeaning). (step_walk [] inputs env s).met) (map_values F steps) in
        let whole : HasAt w (met ++ faults) = subst (λ (v : Walk). HasAt w v.met) (sym (settled_walk before [] inputs steps env was outputs)) at in
        ⊎_elim (λ one. one)
        (λ other. absurd (has_holds no_job w faults (faults_none [] (λ (o : Name × WorkflowOutput). output_value inputs env o.1.links) outputs) other).1)
        (has_append w met faults whole)

    at_root : HasAt w (root_walk before fields p).met → (form : Process-F Process Step Workflow) → out-Process p ≡ form → (kept : Kept) → AtRoot before fields form kept → AtRoot facts fields form kept
    at_root there (Process-F.Tool tool) is kept root = absurd root
    at_root there (Process-F.Workflow v) is kept root =
        let at : HasAt w (steps_walk (out-Workflow v).outputs (steps_of before (out-Workflow v).steps) [] kept.inputs).met =
        subst (λ (walk : Walk). HasAt w walk.met) (of_root facts.measures (made_from before) v p is [] fields ∙ of_workflow facts.measures (made_from before) v [] fields kept.inputs root.inputs) there in
        record {
          inputs = root.inputs;
          settled = still_settled kept.inputs (out-Workflow v).steps (steps_apart v (root_apart p v is apart)) (inside_workflow v (root_apart p v is apart)) kept.env root.settled
              (of_steps kept.inputs kept.env (out-Workflow v).outputs (out-Workflow v).steps root.settled at);
          table = root.table;
          counted = root.counted;
          since = omega (arith, root.since, one_fewer facts [] r below);
          along = λ now. absurd (omega (arith, root.since, one_fewer facts [] r below, now));
        }

    pub still_kept : HasAt w (root_walk before fields p).met → (kept : Option Kept) → KeepsRoot before fields p kept → KeepsRoot facts fields p kept
    still_kept there None root = tt
    still_kept there (Some kept) root = at_root there (out-Process p) refl kept root

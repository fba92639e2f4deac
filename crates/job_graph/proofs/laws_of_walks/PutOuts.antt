-- The outputs of a step are what its id leads to, among those of all steps.
use Rattle.std.proofs.Common.{◌≡◌, ◌∙◌, inl, inr, List, [], ◌∷◌, map, Bool, true, false, cond, not, Some, bytes_eq, refl, sym, ap, subst}
use Rattle.std.specs.List.{list_any}
use Rattle.std.specs.Map.{keys_of}
use Rattle.document_links.specs.declared.process.Step.{Step}
use Rattle.input_files.specs.Measured.{Measures}
use Rattle.plain_data.specs.ByName.{value_at, with_value, map_values}
use Rattle.plain_data.proofs.Lookup.{name_itself, value_at-with_value}
use Rattle.job_graph.specs.inner.Elements.{IsIn}
use Rattle.job_graph.specs.Apart.{differ}
use Rattle.job_graph.specs.Words.{Name, Fields, JobPlace, put_from}
use Rattle.job_graph.specs.Jobs.{Made, Outs}
use Rattle.job_graph.specs.Links.{Env}
use Rattle.job_graph.specs.Equations.{StepMeaning, step_walk}
use Rattle.job_graph.proofs.laws_of_walks.Processes.{WorkflowLevel}
use Rattle.job_graph.proofs.laws_of_walks.Part.{and_left, and_right, neither_one, neither_other}
use Rattle.job_graph.proofs.laws_of_walks.Places.{ids_of}

pub not_true : (b : Bool) → not b ≡ true → b ≡ false
not_true true is = absurd cc
not_true false is = refl

-- ---- what is put under other ids changes nothing

put_past : (id : Name) (now : Env) (entries : List (Name × Outs)) → list_any (bytes_eq id) (keys_of entries) ≡ false → value_at id (put_from now entries) ≡ value_at id now
put_past id now [] other = refl
put_past id now (x ∷ xs) other =
    put_past id (with_value x.0 x.1 now) xs (neither_other (bytes_eq id x.0) (list_any (bytes_eq id) (keys_of xs)) other)
    ∙ value_at-with_value id x.0 x.1 now
    ∙ ap (λ (b : Bool). cond b (Some x.1) (value_at id now)) (neither_one (bytes_eq id x.0) (list_any (bytes_eq id) (keys_of xs)) other)

-- ---- the outputs of a step are what its id leads to

module _ (made : Made) (measures : Measures) (F : Step → StepMeaning) (workflow : WorkflowLevel) (place : JobPlace) (inputs : Fields) where
  abbrev outs_of : Env → List (Name × Step) → Env
  outs_of env some = map (λ s. (s.0, (step_walk place inputs env s).outs)) (map_values F some)

  same_ids : (env : Env) (some : List (Name × Step)) → keys_of (outs_of env some) ≡ ids_of some
  same_ids env [] = refl
  same_ids env (e ∷ es) = ap (λ (ids : List Name). e.0 ∷ ids) (same_ids env es)

  pub put_at : (env now : Env) (some : List (Name × Step)) → differ (ids_of some) ≡ true → (e : Name × Step) → IsIn e some → value_at e.0 (put_from now (outs_of env some)) ≡ Some (F e.1 e.0 place inputs env).outs
  put_at env now [] apart e at = absurd at
  put_at env now (x ∷ xs) apart e (inl here) =
      let outs : Outs = (F x.1 x.0 place inputs env).outs in
      let other : list_any (bytes_eq x.0) (ids_of xs) ≡ false = not_true (list_any (bytes_eq x.0) (ids_of xs)) (and_left (not (list_any (bytes_eq x.0) (ids_of xs))) (differ (ids_of xs)) apart) in
      subst (λ (s : Name × Step). value_at s.0 (put_from (with_value x.0 outs now) (outs_of env xs)) ≡ Some (F s.1 s.0 place inputs env).outs) (sym here)
      (put_past x.0 (with_value x.0 outs now) (outs_of env xs) (ap (list_any (bytes_eq x.0)) (same_ids env xs) ∙ other)
      ∙ value_at-with_value x.0 x.0 outs now
      ∙ ap (λ (b : Bool). cond b (Some outs) (value_at x.0 now)) (name_itself x.0))
  put_at env now (x ∷ xs) apart e (inr later) =
      put_at env (with_value x.0 (F x.1 x.0 place inputs env).outs now) xs (and_right (not (list_any (bytes_eq x.0) (ids_of xs))) (differ (ids_of xs)) apart) e later

-- The jobs of a tool, one after another, and what is found of the steps.
use Rattle.std.proofs.Common.{◌≡◌, ◌∙◌, ℕ, ◌+◌, ◌<◌, ◌≤◌, List, [], ◌∷◌, ◌++◌, Option, Some, None, ap, arith, filter, get_or, length, map, min, subst, sym, take}
use Rattle.std.specs.Option.{option_to_list}
use Rattle.std.specs.Prelude.{zip}
use Rattle.std.proofs.lemmas.List.{map-append, take_all, take_more}
use Rattle.std.proofs.lemmas.List.Elements.{filter-append}
use Rattle.std.proofs.lemmas.Slice.Zip.{get_or-zip, length-zip}
use Rattle.document_links.specs.declared.process.Process.{Process}
use Rattle.serde_json.specs.Read.{read}
use Rattle.run_facts.specs.EarlierJobs.{AreEarlier, IsOf, IsOfTool, Past, averaged, durations_of, is_of, more, no_object, none, of_fields}
use Rattle.run_facts.specs.KeyTexts.{IsNoObject, IsObjectOf}
use Rattle.run_facts.specs.NearestJob.{Texts}
use Rattle.run_facts.specs.ToolAt.{step_tool}
use Rattle.run_facts.specs.declared.earlier_jobs.Earlier.{Earlier}
use Rattle.run_facts.specs.declared.key_parts.KeyParts.{KeyParts}

durations-append : (fields : Texts) (first rest : Past) → durations_of fields (first ++ rest) ≡ durations_of fields first ++ durations_of fields rest
durations-append fields first rest =
    ap (map (λ job. job.1)) (filter-append (is_of fields) first rest)
    ∙ map-append (λ (job : KeyParts × ℕ). job.1) (filter (is_of fields) first) (filter (is_of fields) rest)

module _ (fields : Texts) (jobs : List KeyParts) (costs : List ℕ) where
  -- what one job more took
  pub durations_more : (i : ℕ) (own new : List ℕ) (job : KeyParts) (cost : ℕ) → i < min (length jobs) (length costs) → job ≡ get_or jobs i job → cost ≡ get_or costs i 0
      → own ≡ durations_of fields (take i (zip jobs costs)) → new ≡ own ++ durations_of fields ((job, cost) ∷ []) → new ≡ durations_of fields (take (i + 1) (zip jobs costs))
  durations_more i own new job cost within is took so_far is_more =
      let long = length-zip jobs costs in
      let before : Past = take i (zip jobs costs) in
      let here : get_or (zip jobs costs) i (job, 0) ≡ (job, cost) =
      get_or-zip jobs costs i (job, 0) (omega arith) (omega arith)
      ∙ ap (λ (j : KeyParts). (j, get_or costs i 0)) (sym is)
      ∙ ap (λ (c : ℕ). (job, c)) (sym took) in
      let next : take (i + 1) (zip jobs costs) ≡ before ++ (job, cost) ∷ [] =
      take_more (zip jobs costs) i (job, 0) (omega arith) ∙ ap (λ (e : KeyParts × ℕ). before ++ e ∷ []) here in
      is_more
      ∙ ap (λ (c : List ℕ). c ++ durations_of fields ((job, cost) ∷ [])) so_far
      ∙ sym (durations-append fields before ((job, cost) ∷ []))
      ∙ ap (durations_of fields) (sym next)

  -- what all of them took
  pub durations_all : (own : List ℕ) (n : ℕ) → min (length jobs) (length costs) ≤ n → own ≡ durations_of fields (take n (zip jobs costs)) → own ≡ durations_of fields (zip jobs costs)
  durations_all own n all so_far =
      let long = length-zip jobs costs in
      so_far ∙ ap (durations_of fields) (take_all n (zip jobs costs) (omega arith))

module _ (past : Past) (step written text : List ℕ) (same : text ≡ written) where
  pub is_of_tool : (fields : Texts) → IsObjectOf (read text) fields → (found : Option Earlier) → found ≡ averaged step (durations_of fields past) → IsOfTool past step written found
  is_of_tool fields are found is =
      subst (λ (f : Option Earlier). IsOfTool past step written f) (sym is)
      (of_fields fields (subst (λ (t : List ℕ). IsObjectOf (read t) fields) same are))

  pub is_no_tool : IsNoObject (read text) → IsOfTool past step written None
  is_no_tool is_none = no_object (subst (λ (t : List ℕ). IsNoObject (read t)) same is_none)

module _ (process : Process) (past : Past) (steps : List (List ℕ)) where
  pub none_yet : (found : List Earlier) → found ≡ [] → AreEarlier process past [] found
  none_yet found is = subst (λ (f : List Earlier). AreEarlier process past [] f) (sym is) none

  pub earlier_more : (i : ℕ) (found new : List Earlier) (step : List ℕ) (own : Option Earlier) → i < length steps → step ≡ get_or steps i step
      → AreEarlier process past (take i steps) found → IsOf past step (step_tool process step) own → new ≡ found ++ option_to_list own → AreEarlier process past (take (i + 1) steps) new
  earlier_more i found new step own within is so_far of_step is_more =
      let next : take (i + 1) steps ≡ take i steps ++ step ∷ [] =
      take_more steps i step within ∙ ap (λ (s : List ℕ). take i steps ++ s ∷ []) (sym is) in
      subst (λ (f : List Earlier). AreEarlier process past (take (i + 1) steps) f) (sym is_more)
      (subst (λ (s : List (List ℕ)). AreEarlier process past s (found ++ option_to_list own)) (sym next) (more step own so_far of_step))

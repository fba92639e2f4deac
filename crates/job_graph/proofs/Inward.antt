-- How a walk goes into a step, by the code's own words.
use Rattle.std.proofs.Common.{◌≡◌, ◌∙◌, ◌⊎◌, inl, inr, ℕ, ◌+◌, ◌<◌, List, [], ◌∷◌, ◌++◌, drop, get_or, length, map, true, Option, Some, None, Result, Ok, Err, sym, ap, subst, subst₂, arith}
use Rattle.std.specs.Global.{Vec}
use Rattle.std.specs.Prelude.{IfOk, IfSome, is_some, reverse}
use Rattle.std.specs.List.{list_all}
use Rattle.std.specs.Map.{keys_of}
use Rattle.std.proofs.lemmas.List.{reverse-append}
use Rattle.std.proofs.lemmas.Slice.Eq.{bytes_eq-Decides}
use Rattle.cwl_process.specs.declared.workflow.WorkflowOutput.{WorkflowOutput}
use Rattle.cwl_value.specs.declared.place.Segment.{Segment}
use Rattle.document_links.specs.declared.process.Process.{Process, out-Process, out-roll-Process}
use Rattle.document_links.specs.declared.process.Process as process
use Rattle.document_links.specs.declared.process.Process.TheOpen.{Process-F}
use Rattle.document_links.specs.declared.process.Process.TheVariants.{rolls-Workflow}
use Rattle.document_links.specs.declared.process.Step.{Step}
use Rattle.document_links.specs.declared.process.Workflow.{Workflow, out-Workflow}
use Rattle.plain_data.specs.ByName.{value_at}
use Rattle.job_graph.specs.Apart.{differ, step_ids_differ}
use Rattle.job_graph.specs.Words.{Name, Fields, JobPlace}
use Rattle.job_graph.specs.Inputs.{workflow_inputs_for}
use Rattle.job_graph.specs.Links.{Env}
use Rattle.job_graph.specs.Equations.{step_place}
use Rattle.job_graph.specs.declared.made.Facts.{Facts}
use Rattle.job_graph.specs.declared.nested.Deeper.{Deeper}
use Rattle.job_graph.specs.declared.nested.Found.{Found}
use Rattle.job_graph.specs.declared.nested.Inner.{Inner}
use Rattle.job_graph.specs.declared.nested.Nested.{Nested}
use Rattle.job_graph.specs.declared.readers.Readers.{Readers}
use Rattle.job_graph.specs.declared.walk.Walk.{Walk as KeptWalk}
use Rattle.job_graph.specs.declared.waiting.Counted.{Counted}
use Rattle.job_graph.specs.inner.Going.{EndedBelow, IsAbove, LeavesOut, facts_before, goes_through}
use Rattle.job_graph.specs.inner.Levels.{steps_of, steps_walk}
use Rattle.job_graph.specs.inner.Nested.{BeginsAs, GoesDeeper, GoesOnIn, HasBegun, HasInner, IsFound, KeepsAlong, NestedMeet, SettledIn, inner_walk}
use Rattle.job_graph.specs.inner.Counts.{IsCounted}
use Rattle.job_graph.specs.inner.Readers.{IsTableOf}
use Rattle.job_graph.specs.inner.Rounds.{IsSettled}
use Rattle.job_graph.specs.inner.Views.{met_of, walk_of}
use Rattle.job_graph.proofs.Nesting.{below_step, nested_meet, one_fewer}

-- ---- the step

-- the step of this number, which was walked and which a place goes through
pub record IsStepAbove (ended : JobPlace) (env : Env) (steps : List (Name × Step)) (n : ℕ) (k : Name × Step) : Type 0 where
  pub within : n < length steps
  pub is : k ≡ get_or steps n k
  pub through : goes_through ended k.0 ≡ true
  pub walked : is_some (value_at k.0 env) ≡ true

pub step_is_above : (ended : JobPlace) (env : Env) (steps : List (Name × Step)) (found : Option ℕ) → IsAbove ended env steps found
    → (n : ℕ) → found ≡ Some n → (entries : List (Name × Step)) → entries ≡ steps → (k : Name × Step) → k ≡ get_or entries n k → IsStepAbove ended env steps n k
step_is_above ended env steps found above n is entries same k at =
    let some : IsAbove ended env steps (Some n) = subst (IsAbove ended env steps) is above in
    let here : k ≡ get_or steps n k = at ∙ ap (λ (these : List (Name × Step)). get_or these n k) same in
    record { within = some.0; is = here; through = (some.1 k here).0; walked = (some.1 k here).1 }

-- the place below it
pub ended_step : (facts : Facts) (place ended : JobPlace) → EndedBelow facts place ended → (g : Segment) → 0 < length ended → g ≡ get_or ended 0 g → (rest : JobPlace) → rest ≡ drop 1 ended
    → (id : Name) → goes_through ended id ≡ true → EndedBelow facts (step_place place id g.index) rest
ended_step facts place [] below g some is rest rest_is id through = absurd (omega (arith, some))
ended_step facts place (t ∷ others) below g some is rest rest_is id through =
    let same : t.step ≡ id = (bytes_eq-Decides t.step id).0 through in
    subst₂ (λ (s : Segment) (back : JobPlace). EndedBelow facts (step_place place id s.index) back) (sym is) (sym rest_is)
    (below_step facts place others id t.index (subst (λ (name : Name). EndedBelow facts place (record { step = name; index = t.index } ∷ others)) same below))

-- ---- what is kept as a stack, the outermost on top

pub reverse_push : (nested : List Nested) (one : Nested) (more : List Nested) → more ≡ nested ++ one ∷ [] → reverse more ≡ one ∷ reverse nested
reverse_push nested one more is = ap reverse is ∙ reverse-append nested (one ∷ [])

pub none_along : (facts : Facts) (place : JobPlace) (inputs : Fields) (steps : List (Name × Step)) (env : Env) (nested : List Nested) → nested ≡ [] → KeepsAlong facts place inputs steps env (reverse nested)
none_along facts place inputs steps env nested none = subst (λ (these : List Nested). KeepsAlong facts place inputs steps env (reverse these)) (sym none) tt

-- at the root, where nothing else was learned since
pub along_new : (facts : Facts) (place ended : JobPlace) → EndedBelow facts place ended → (inputs : Fields) (steps : List (Name × Step)) (env : Env) (kept new : List Nested) (since learned : ℕ)
    → learned ≡ length facts.learned → (new ≡ []) ⊎ ((new ≡ kept) × (since + 1 ≡ learned))
    → (since ≡ length (facts_before facts).learned → KeepsAlong (facts_before facts) place inputs steps env (reverse kept)) → KeepsAlong (facts_before facts) place inputs steps env (reverse new)
along_new facts place ended below inputs steps env kept new since learned is (inl none) along = none_along (facts_before facts) place inputs steps env new none
along_new facts place ended below inputs steps env kept new since learned is (inr one) along =
    let then : since ≡ length (facts_before facts).learned = omega (arith, one.1, is, one_fewer facts place ended below) in
    subst (λ (these : List Nested). KeepsAlong (facts_before facts) place inputs steps env (reverse these)) (sym one.0) (along then)

-- ---- the inner walk

-- a process that is a workflow
pub form_is : (p : Process) (w : Workflow) → p ≡ process.Workflow w → out-Process p ≡ Process-F.Workflow w
form_is p w is = ap out-Process is ∙ ap out-Process (sym (rolls-Workflow w)) ∙ out-roll-Process (Process-F.Workflow w)

-- what is kept of it, at its place
pub settled_at : (facts : Facts) (own here : JobPlace) → own ≡ here → (p : Process) (w : Workflow) → p ≡ process.Workflow w → (one : Nested) (deeper : List Nested)
    → SettledIn facts here (out-Process p) one deeper → IsSettled facts own one.inputs (out-Workflow w).steps one.env × KeepsAlong facts own one.inputs (out-Workflow w).steps one.env deeper
    × IsTableOf one.readers (out-Workflow w).steps × IsCounted one.env (out-Workflow w).steps one.counts.items
settled_at facts own here same p w is one deeper settled =
    subst (λ (place : JobPlace). IsSettled facts place one.inputs (out-Workflow w).steps one.env × KeepsAlong facts place one.inputs (out-Workflow w).steps one.env deeper
    × IsTableOf one.readers (out-Workflow w).steps × IsCounted one.env (out-Workflow w).steps one.counts.items) (sym same)
    (subst (λ (form : Process-F Process Step Workflow). SettledIn facts here form one deeper) (form_is p w is) settled)

abbrev kept_as : ℕ → List ℕ → Fields → Readers → Env → Vec ℕ → Nested
kept_as number tuple inputs readers env counts = record { number = number; tuple = tuple; inputs = inputs; readers = readers; env = env; counts = counts }

-- it went on
pub gone_where : (facts : Facts) (own : JobPlace) (w : Workflow) (one : Nested) (deeper : Deeper) → GoesDeeper facts own one.inputs (out-Workflow w).outputs (out-Workflow w).steps deeper
    → (inner : Inner) → inner.walk ≡ deeper.walk
    → reverse inner.nested ≡ record { number = one.number; tuple = one.tuple; inputs = one.inputs; readers = one.readers; env = deeper.env; counts = deeper.counts } ∷ reverse deeper.nested
    → GoesOnIn facts own (Process-F.Workflow w) one inner
gone_where facts own w one deeper goes inner walk is = record {
  env = deeper.env;
  counts = deeper.counts;
  deeper = reverse deeper.nested;
  is = is;
  gone = record {
    outs = ap (λ (x : KeptWalk). x.outs) walk ∙ goes.outs;
    leaves = subst
        (λ (x : KeptWalk). LeavesOut (inner_walk w own one.inputs (facts_before facts)).met (map met_of x.met) (inner_walk w own one.inputs facts).met) (sym walk) goes.met;
    settled = goes.env;
    counted = goes.counted;
    along = goes.along;
  };
}

-- it began
pub begun_where : (facts : Facts) (own : JobPlace) (w : Workflow) (given inputs : Fields) → workflow_inputs_for facts.measures (out-Workflow w).inputs given ≡ Ok inputs
    → (walk : KeptWalk) → walk_of walk ≡ inner_walk w own inputs facts → (env : Env) → IsSettled facts own inputs (out-Workflow w).steps env
    → (readers : Readers) → IsTableOf readers (out-Workflow w).steps → (counts : Vec ℕ) → IsCounted env (out-Workflow w).steps counts.items
    → (number : ℕ) (tuple : List ℕ) (inner : Inner) → inner.walk ≡ walk → reverse inner.nested ≡ record { number = number; tuple = tuple; inputs = inputs; readers = readers; env = env; counts = counts } ∷ []
    → HasBegun facts own (Process-F.Workflow w) given number tuple inner
begun_where facts own w given inputs hands walk whole env settled readers table counts counted number tuple inner same is = record {
  inputs = inputs;
  readers = readers;
  env = env;
  counts = counts;
  is = is;
  begun = record { hands = hands; whole = ap walk_of same ∙ whole; settled = settled; table = table; counted = counted };
}

-- ---- the same by the code's own words

pub went_on : (facts : Facts) (own here : JobPlace) → own ≡ here → (p : Process) (w : Workflow) → p ≡ process.Workflow w
    → (outputs : List (Name × WorkflowOutput)) → outputs ≡ (out-Workflow w).outputs → (one : Nested) (deeper : Deeper) → GoesDeeper facts own one.inputs outputs (out-Workflow w).steps deeper
    → (inner : Inner) → inner.walk ≡ deeper.walk → reverse inner.nested ≡ kept_as one.number one.tuple one.inputs one.readers deeper.env deeper.counts ∷ reverse deeper.nested
    → GoesOnIn facts here (out-Process p) one inner
went_on facts own here at p w is outputs same one deeper goes inner walk nested =
    subst₂ (λ (place : JobPlace) (form : Process-F Process Step Workflow). GoesOnIn facts place form one inner) at (sym (form_is p w is))
    (gone_where facts own w one deeper (subst (λ (these : List (Name × WorkflowOutput)). GoesDeeper facts own one.inputs these (out-Workflow w).steps deeper) same goes) inner walk nested)

pub began : (facts : Facts) (own : JobPlace) (w : Workflow) (given inputs : Fields) → workflow_inputs_for facts.measures (out-Workflow w).inputs given ≡ Ok inputs
    → (outputs : List (Name × WorkflowOutput)) → outputs ≡ (out-Workflow w).outputs → (walked : Counted) → walk_of walked.walk ≡ steps_walk outputs (steps_of facts (out-Workflow w).steps) own inputs
    → IsSettled facts own inputs (out-Workflow w).steps walked.env → IsCounted walked.env (out-Workflow w).steps walked.counts.items → (none : List Nested) → none ≡ []
    → (deeper : Deeper) → deeper ≡ record { walk = walked.walk; env = walked.env; counts = walked.counts; nested = none }
    → (readers : Readers) → IsTableOf readers (out-Workflow w).steps
    → (number : ℕ) (tuple : List ℕ) (inner : Inner) → inner.walk ≡ deeper.walk → reverse inner.nested ≡ kept_as number tuple inputs readers deeper.env deeper.counts ∷ reverse deeper.nested
    → BeginsAs facts own w given number tuple inner
began facts own w given inputs hands outputs same walked whole settled counted none empty deeper is readers table number tuple inner walk nested =
    begun_where facts own w given inputs hands walked.walk (whole ∙ ap (λ (these : List (Name × WorkflowOutput)). steps_walk these (steps_of facts (out-Workflow w).steps) own inputs) same)
    walked.env settled readers table walked.counts counted number tuple inner (walk ∙ ap (λ (d : Deeper). d.walk) is)
    (nested ∙ ap (λ (d : Deeper). kept_as number tuple inputs readers d.env d.counts ∷ reverse d.nested) is ∙ ap (λ (these : List Nested). kept_as number tuple inputs readers walked.env walked.counts ∷ reverse these) empty)

-- ---- what is found

module _ (facts : Facts) (place ended : JobPlace) (below : EndedBelow facts place ended) (inputs : Fields) (steps : List (Name × Step))
    (apart : differ (keys_of steps) ≡ true) (inside : list_all (λ s. step_ids_differ s.1) steps ≡ true) (env : Env) (was : IsSettled (facts_before facts) place inputs steps env)
    (n : ℕ) (k : Name × Step) (above : IsStepAbove ended env steps n k) (tuple : List ℕ) (rest : JobPlace) (below_k : EndedBelow facts (step_place place k.0 tuple) rest) where
  nested_found : (inner : Option Inner) (found : Option Found) → IfSome inner (HasInner facts place inputs env k n tuple) → IfSome found (IsFound facts place inputs env k inner)
      → IfSome found (NestedMeet facts place inputs steps env)
  nested_found inner None has is = tt
  nested_found None (Some found) has is = let none : None ≡ Some found.inner = is.is in absurd cc
  nested_found (Some inner) (Some found) has is =
      nested_meet facts place ended below inputs steps apart inside env was n k above.within above.is above.through tuple rest below_k above.walked inner has found is

  pub nested_ok : {E : Type 0} (inner : Option Inner) → IfSome inner (HasInner facts place inputs env k n tuple) → (result : Result (Option Found) E)
      → IfOk result (λ found. IfSome found (IsFound facts place inputs env k inner)) → IfOk result (λ found. IfSome found (NestedMeet facts place inputs steps env))
  nested_ok inner has (Ok found) is = nested_found inner found has is
  nested_ok inner has (Err error) is = tt

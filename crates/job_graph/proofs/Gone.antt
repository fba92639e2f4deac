-- What the steps of a workflow meet once others were walked, but for what was met before.
use Rattle.std.proofs.Common.{◌≡◌, ◌∙◌, ◌⊎◌, inl, inr, ℕ, ◌<◌, List, [], ◌∷◌, ◌++◌, get_or, length, map, Bool, true, false, not, Option, Some, None, bytes_eq, refl, sym, ap, subst, subst₂}
use Rattle.std.specs.Prelude.{◌||◌, is_some}
use Rattle.std.specs.BTreeMap.{IsEmpty}
use Rattle.std.specs.List.{flat_map, list_all, list_any}
use Rattle.std.specs.Map.{keys_of}
use Rattle.std.proofs.lemmas.Slice.Eq.{bytes_eq-Decides}
use Rattle.cwl_process.specs.declared.workflow.WorkflowOutput.{WorkflowOutput}
use Rattle.document_links.specs.declared.process.Step.{Step}
use Rattle.plain_data.specs.ByName.{value_at, with_value}
use Rattle.job_graph.specs.inner.Elements.{IsIn, stands_in}
use Rattle.job_graph.specs.Apart.{differ, step_ids_differ}
use Rattle.job_graph.specs.Words.{Name, Fields, JobPlace}
use Rattle.job_graph.specs.Jobs.{Met, Outs, Walk}
use Rattle.job_graph.specs.Links.{Env, given, output_value}
use Rattle.job_graph.specs.Equations.{StepMeaning, fault_at, step_meaning_of, step_walk}
use Rattle.job_graph.specs.declared.made.Facts.{Facts}
use Rattle.job_graph.specs.declared.waiting.Going.{Going}
use Rattle.job_graph.specs.declared.readers.Readers.{Readers}
use Rattle.job_graph.specs.declared.walk.Met.{Met as KeptMet}
use Rattle.job_graph.specs.inner.Counts.{IsCounted}
use Rattle.job_graph.specs.inner.Going.{AreKept, EndedBelow, Goes, HasAbove, HasGone, HoldsAt, LeavesOut, leaves_nothing, leaves_in, leaves_out, WalksOne, WasMet, facts_before, goes_through, reads_one}
use Rattle.job_graph.specs.inner.Levels.{steps_of, steps_walk}
use Rattle.job_graph.specs.inner.Readers.{IsTableOf}
use Rattle.job_graph.specs.inner.Rounds.{EnvGrows, IsSettled, MeetsBy, StandsBy, is_ready, is_stuck, walk_at}
use Rattle.job_graph.specs.inner.Views.{made_from, met_of}
use Rattle.job_graph.proofs.Going.{grown_k, keeps_k, keeps_still, ready_k, walk_k}
use Rattle.job_graph.proofs.GoingOn.{kept_put, nothing_at, nothing_kept, put_each, same_at}
use Rattle.job_graph.proofs.Pending.{GoesTo, walks_left}
use Rattle.job_graph.proofs.SettledWalk.{settled_walk}
use Rattle.job_graph.proofs.laws_of_walks.GoesOn.{step_alike}
use Rattle.job_graph.proofs.laws_of_walks.Part.{stays_itself}
use Rattle.job_graph.proofs.laws_of_walks.Reads.{entries_same, same_but_one}
use Rattle.job_graph.proofs.laws_of_walks.Settled.{each_of, is_element, waits_walk, walk_by, walk_stays}

-- ---- what is met, but for what was met before

pub leaves_itself : (old xs : List Met) → LeavesOut old xs xs
leaves_itself old [] = leaves_nothing
leaves_itself old (x ∷ xs) = leaves_in x xs xs (leaves_itself old xs)

pub leaves_all : (old ys : List Met) → ((m : Met) → IsIn m ys → IsIn m old) → LeavesOut old [] ys
leaves_all old [] there = leaves_nothing
leaves_all old (y ∷ ys) there = leaves_out y [] ys (there y (inl refl)) (leaves_all old ys (λ m at. there m (inr at)))

pub leaves_append : (old xs ys us vs : List Met) → LeavesOut old xs ys → LeavesOut old us vs → LeavesOut old (xs ++ us) (ys ++ vs)
leaves_append old xs ys us vs leaves_nothing more = more
leaves_append old xs ys us vs (leaves_in m xs1 ys1 leaves) more = leaves_in m (xs1 ++ us) (ys1 ++ vs) (leaves_append old xs1 ys1 us vs leaves more)
leaves_append old xs ys us vs (leaves_out m xs1 ys1 at leaves) more = leaves_out m (xs1 ++ us) (ys1 ++ vs) at (leaves_append old xs1 ys1 us vs leaves more)

pub in_left : (m : Met) (xs ys : List Met) → IsIn m xs → IsIn m (xs ++ ys)
in_left m [] ys at = absurd at
in_left m (x ∷ xs) ys (inl here) = inl here
in_left m (x ∷ xs) ys (inr later) = inr (in_left m xs ys later)

pub in_right : (m : Met) (xs ys : List Met) → IsIn m ys → IsIn m (xs ++ ys)
in_right m [] ys at = at
in_right m (x ∷ xs) ys at = inr (in_right m xs ys at)

pub in_one : {X Y : Type 0} (f : Y → List Met) (g : X → Y) (m : Met) (x : X) (xs : List X) → IsIn x xs → IsIn m (f (g x)) → IsIn m (flat_map f (map g xs))
in_one f g m x [] among at = absurd among
in_one f g m x (y ∷ ys) (inl here) at = in_left m (f (g y)) (flat_map f (map g ys)) (subst (λ z. IsIn m (f (g z))) here at)
in_one f g m x (y ∷ ys) (inr later) at = in_right m (f (g y)) (flat_map f (map g ys)) (in_one f g m x ys later at)

-- ---- while steps are walked

module _ (facts : Facts) (place ended : JobPlace) (below : EndedBelow facts place ended) (inputs : Fields) (steps : List (Name × Step))
    (inside : list_all (λ s. step_ids_differ s.1) steps ≡ true) (old : Env) (was : IsSettled (facts_before facts) place inputs steps old) where
  abbrev before : Facts
  before = facts_before facts

  abbrev at : Env → Name × Step → Walk
  at env s = walk_at facts place inputs env s

  neither : (b c : Bool) → (b || not c) ≡ true → b ≡ false → c ≡ false
  neither true c is none = absurd cc
  neither false true is none = absurd cc
  neither false false is none = refl

  not_read : (b c : Bool) → (not b || c) ≡ true → c ≡ false → b ≡ false
  not_read b true is none = absurd cc
  not_read true false is none = absurd cc
  not_read false false is none = refl

  -- a step that waited meets the same, whatever was learned
  waits_alike : (s : Name × Step) → is_ready old s.1 ≡ false → walk_at before place inputs old s ≡ at old s
  waits_alike s waits =
      waits_walk facts.measures (made_from before) place inputs old s waits ∙ sym (waits_walk facts.measures (made_from facts) place inputs old s waits)

  module _ (going : Going) (gone : HasGone facts place inputs steps ended old going) (outputs : List (Name × WorkflowOutput)) where
    abbrev env : Env
    env = going.env

    -- a step whose outputs stayed and that reads none that changed is as it was
    unchanged : (s : Name × Step) → IsIn s steps → list_any (bytes_eq s.0) going.changed ≡ false → (not (reads_one going.changed s.1) || is_some (value_at s.0 env)) ≡ true
        → walk_at before place inputs old s ≡ at env s
    unchanged s among same why = by (value_at s.0 old) refl (was.keeps.stands s among)
      where
        there : value_at s.0 env ≡ value_at s.0 old
        there = gone.goes.same s.0 same

        past : is_some (value_at s.0 old) ≡ true → (b : Bool) → goes_through ended s.0 ≡ b → goes_through ended s.0 ≡ false
        past walked true is = let both : false ≡ true = sym same ∙ gone.above s among is walked in absurd cc
        past walked false is = is

        by : (found : Option Outs) → value_at s.0 old ≡ found → StandsBy before place inputs old s found → walk_at before place inputs old s ≡ at env s
        by (Some outs) is stands =
            step_alike facts place ended below s (each_of (λ (s : Name × Step). step_ids_differ s.1) steps inside s among) (past (ap is_some is) (goes_through ended s.0) refl) inputs old
            ∙ walk_stays facts.measures (made_from facts) place inputs old env gone.goes.grown s stands.0
        by None is stands =
            let none : is_some (value_at s.0 env) ≡ false = ap is_some (there ∙ is) in
            let waits : is_ready old s.1 ≡ false =
            neither (is_some (value_at s.0 old)) (is_ready old s.1) (each_of (is_stuck old) steps was.stuck s among) (ap is_some is) in
            waits_alike s waits
            ∙ sym (walk_by facts.measures (made_from facts) place inputs env old s
            (entries_same going.changed old env gone.goes.same s.1 (not_read (reads_one going.changed s.1) (is_some (value_at s.0 env)) why none) facts.measures inputs))

    abbrev whole_before : Walk
    whole_before = steps_walk outputs (steps_of before steps) place inputs

    -- so it was met before
    pub was_met : WasMet facts place inputs steps whole_before.met env going.changed
    was_met = λ s among same why m at_now.
        let here : IsIn m (walk_at before place inputs old s).met = subst (λ (w : Walk). IsIn m w.met) (sym (unchanged s among same why)) at_now in
        subst (λ (w : Walk). IsIn m w.met) (settled_walk before place inputs steps old was outputs)
        (in_left m (flat_map (λ (s : Name × StepMeaning). (step_walk place inputs old s).met) (steps_of before steps)) (flat_map (λ o. fault_at place (output_value inputs old o.1.links)) outputs)
        (in_one (λ (s : Name × StepMeaning). (step_walk place inputs old s).met) (λ (s : Name × Step). (s.0, step_meaning_of facts.measures (made_from before) s.1)) m s steps among here))

    pub settled_now : IsSettled facts place inputs steps env
    settled_now = record { keeps = gone.goes.holds.keeps; stuck = gone.stuck }

    -- all that is met, with the outputs that fail
    pub leaves_whole : (met walk_met : List Met) →
        LeavesOut whole_before.met met (flat_map (λ s. (step_walk place inputs env s).met) (steps_of facts steps)) →
        walk_met ≡ met ++ flat_map (λ o. fault_at place (output_value inputs env o.1.links)) outputs →
        LeavesOut whole_before.met walk_met (steps_walk outputs (steps_of facts steps) place inputs).met
    leaves_whole met walk_met leaves is =
        let faults : List Met = flat_map (λ (o : Name × WorkflowOutput). fault_at place (output_value inputs env o.1.links)) outputs in
        let steps_met : List Met = flat_map (λ (s : Name × StepMeaning). (step_walk place inputs env s).met) (steps_of facts steps) in
        subst₂ (LeavesOut whole_before.met) (sym is) (ap (λ (w : Walk). w.met) (settled_walk facts place inputs steps env settled_now outputs))
        (leaves_append whole_before.met met steps_met faults faults leaves (leaves_itself whole_before.met faults))

    pub whole_outs : (outs : Outs) → outs ≡ map (λ o. (o.0, given (output_value inputs env o.1.links))) outputs → outs ≡ (steps_walk outputs (steps_of facts steps) place inputs).outs
    whole_outs outs is = is ∙ ap (λ (w : Walk). w.outs) (settled_walk facts place inputs steps env settled_now outputs)

-- ---- the first steps

pub not_so : false ≡ true → ⊥
not_so is = cc

module _ (facts : Facts) (place ended : JobPlace) (below : EndedBelow facts place ended) (inputs : Fields) (steps : List (Name × Step))
    (apart : differ (keys_of steps) ≡ true) (inside : list_all (λ s. step_ids_differ s.1) steps ≡ true) (old : Env) (was : IsSettled (facts_before facts) place inputs steps old) where
  -- where no step that was walked is above the place
  pub gone_none : (going : Going) → going.env ≡ old → IsEmpty going.met → going.changed ≡ [] → IsCounted old steps going.waits.counts.items → HasAbove ended old steps []
      → HasGone facts place inputs steps ended old going
  gone_none going outs met changed counted none = record {
    goes = record {
      holds = subst (λ (env : Env). HoldsAt facts place inputs steps env going.met) (sym outs)
          (record {
            keeps = keeps_still facts place ended below inputs steps apart inside old was none;
            met = λ n s within at. subst (MeetsBy facts place inputs old s) (sym (nothing_at going.met met n)) tt;
            within = λ n some. absurd (not_so (sym (ap is_some (nothing_at going.met met n)) ∙ some));
          });
      grown = subst (EnvGrows old) (sym outs) (λ step name. stays_itself _);
      same = λ id is. ap (value_at id) outs;
      slots = subst (λ (ids : List Name). AreKept ids steps going.met) (sym changed) (nothing_kept steps going.met met);
    };
    above = subst (HasAbove ended old steps) (sym changed) none;
    stuck = ap (λ (env : Env). list_all (is_stuck env) steps) outs ∙ was.stuck;
    counted = subst (λ (env : Env). IsCounted env steps going.waits.counts.items) (sym outs) counted;
  }

  module _ (n : ℕ) (k : Name × Step) (inside_n : n < length steps) (here_is : k ≡ get_or steps n k) (through : goes_through ended k.0 ≡ true) (walked : is_some (value_at k.0 old) ≡ true)
      (readers : Readers) (table : IsTableOf readers steps) (first next : Going) (outs : first.env ≡ old) (met : IsEmpty first.met) (changed : first.changed ≡ []) (none : first.waits.pending ≡ [])
      (counted : IsCounted first.env steps first.waits.counts.items) (one : WalksOne facts place inputs readers k n first next) where
    abbrev at_k : IsIn k steps
    at_k = is_element steps n k inside_n here_is

    there : (o : Option Outs) → is_some o ≡ true → (found : Outs) × (o ≡ Some found)
    there None some = absurd cc
    there (Some found) some = (found, refl)

    abbrev found : (found : Outs) × (value_at k.0 old ≡ Some found)
    found = there (value_at k.0 old) walked

    abbrev new : Outs
    new = (walk_at facts place inputs old k).outs

    env_is : next.env ≡ with_value k.0 new old
    env_is = one.env ∙ ap (λ (env : Env). with_value k.0 (walk_at facts place inputs env k).outs env) outs

    changed_is : next.changed ≡ k.0 ∷ []
    changed_is = one.changed ∙ ap (λ (ids : List Name). ids ++ k.0 ∷ []) changed

    meets_k : map met_of one.met ≡ (walk_at facts place inputs (with_value k.0 new old) k).met
    meets_k =
        one.is ∙ ap (λ (env : Env). (walk_at facts place inputs env k).met) outs
        ∙ ap (λ (w : Walk). w.met) (walk_k facts place ended below inputs steps apart inside old was k at_k through found.0 found.1)

    pub goes_first : Goes facts place inputs steps old next
    goes_first = record {
      holds = subst (λ (env : Env). HoldsAt facts place inputs steps env next.met) (sym env_is)
          (record {
            keeps = keeps_k facts place ended below inputs steps apart inside old was k at_k through found.0 found.1;
            met = λ m s within at.
                put_each first.met next.met n one.met one.kept (λ (i : ℕ) (slot : Option (List KeptMet)). (u : Name × Step) → u ≡ get_or steps i u → MeetsBy facts place inputs (with_value k.0 new old) u slot)
                (λ u there. subst (λ (v : Name × Step). MeetsBy facts place inputs (with_value k.0 new old) v (Some one.met)) (same_at steps n k u inside_n here_is there)
                (ready_k facts place ended below inputs steps apart inside old was k at_k through found.0 found.1, meets_k))
                m (λ other u there. subst (MeetsBy facts place inputs (with_value k.0 new old) u) (sym (nothing_at first.met met m)) tt) s at;
            within = λ m. put_each first.met next.met n one.met one.kept (λ (i : ℕ) (slot : Option (List KeptMet)). is_some slot ≡ true → i < length steps) (λ some. inside_n)
                m (λ other some. absurd (not_so (sym (ap is_some (nothing_at first.met met m)) ∙ some)));
          });
      grown = subst (EnvGrows old) (sym env_is) (grown_k facts place ended below inputs steps apart inside old was k at_k through found.0 found.1);
      same = λ id none. ap (value_at id) env_is ∙ same_but_one k.0 new old id (sym (ap (list_any (bytes_eq id)) changed_is) ∙ none);
      slots = subst (λ (ids : List Name). AreKept ids steps next.met) (sym changed_is) (kept_put [] steps apart first.met next.met n k one.met one.kept inside_n here_is (nothing_kept steps first.met met));
    }

    pub above_first : HasAbove ended old steps next.changed
    above_first = λ s among goes some. ap (list_any (bytes_eq s.0)) changed_is ∙ ap (λ (b : Bool). b || false) (by s ended through goes)
      where
        by : (s : Name × Step) (rest : JobPlace) → goes_through rest k.0 ≡ true → goes_through rest s.0 ≡ true → bytes_eq s.0 k.0 ≡ true
        by s [] one other = absurd cc
        by s (g ∷ rest) one other = (bytes_eq-Decides s.0 k.0).1 (sym ((bytes_eq-Decides g.step s.0).0 other) ∙ (bytes_eq-Decides g.step k.0).0 one)

    grown_first : EnvGrows first.env (with_value k.0 (walk_at facts place inputs first.env k).outs first.env)
    grown_first =
        subst (λ (env : Env). EnvGrows env (with_value k.0 (walk_at facts place inputs env k).outs env)) (sym outs)
        (grown_k facts place ended below inputs steps apart inside old was k at_k through found.0 found.1)

    all_stuck_first : (m : ℕ) (s : Name × Step) → m < length steps → s ≡ get_or steps m s → (is_stuck first.env s ≡ true) ⊎ (stands_in m (n ∷ first.waits.pending) ≡ true)
    all_stuck_first m s within at = inl (ap (λ (env : Env). is_stuck env s) outs ∙ each_of (is_stuck old) steps was.stuck s (is_element steps m s within at))

    pub goes_to_first : GoesTo facts place inputs steps ended old [] next
    goes_to_first = record {
      goes = goes_first;
      above = above_first;
      left = walks_left facts place inputs steps readers table first next n k inside_n here_is one grown_first
          (record { counted = counted; pending = all_stuck_first; numbers = λ m stands. absurd (not_so (sym (ap (stands_in m) none) ∙ stands)) });
    }

-- What is kept of a workflow's steps, where a job below one of them has ended, and while others are walked.
use Rattle.std.proofs.Common.{◌≡◌, ◌∙◌, ℕ, suc, ◌<◌, ◌≤◌, List, [], ◌∷◌, Bool, true, false, cond, Option, Some, None, bytes_eq, refl, sym, ap, subst, subst₂, arith}
use Rattle.std.specs.Prelude.{is_some}
use Rattle.std.specs.List.{list_all}
use Rattle.std.specs.Map.{keys_of}
use Rattle.std.proofs.lemmas.Slice.Eq.{bytes_eq-Decides}
use Rattle.document_links.specs.declared.process.Step.{Step}
use Rattle.plain_data.specs.ByName.{value_at, with_value}
use Rattle.plain_data.proofs.Lookup.{value_at-with_value}
use Rattle.job_graph.specs.inner.Elements.{IsIn}
use Rattle.job_graph.specs.Apart.{differ, step_ids_differ}
use Rattle.job_graph.specs.Words.{Name, Fields, JobPlace}
use Rattle.job_graph.specs.Jobs.{Made, Outs, Walk}
use Rattle.job_graph.specs.Links.{Env, out_under}
use Rattle.job_graph.specs.Equations.{env_after, step_meaning_of}
use Rattle.job_graph.specs.More.{Stays}
use Rattle.job_graph.specs.declared.made.Facts.{Facts}
use Rattle.job_graph.specs.inner.Going.{EndedBelow, HasAbove, facts_before, goes_through}
use Rattle.job_graph.specs.inner.Levels.{steps_of}
use Rattle.job_graph.specs.inner.Rounds.{EnvGrows, IsSettled, Keeps, StandsBy, WasReady, count, is_ready, walk_at}
use Rattle.job_graph.specs.inner.Views.{made_from}
use Rattle.job_graph.proofs.Index.{not_both}
use Rattle.job_graph.proofs.laws_of_walks.GoesOn.{rounds_grow, step_alike, step_grows}
use Rattle.job_graph.proofs.laws_of_walks.Part.{stays_itself}
use Rattle.job_graph.proofs.laws_of_walks.Places.{same_ids}
use Rattle.job_graph.proofs.laws_of_walks.Settled.{count_keeps, each_of, grows_on, one_step, ready_stays, up_to, walk_stays}
use Rattle.job_graph.proofs.laws_of_walks.PutOuts.{put_at}

-- ---- what was known before one more place was learned

module _ (facts : Facts) (place ended : JobPlace) (below : EndedBelow facts place ended) (inputs : Fields) (steps : List (Name × Step))
    (apart : differ (keys_of steps) ≡ true) (inside : list_all (λ s. step_ids_differ s.1) steps ≡ true)
    (old : Env) (was : IsSettled (facts_before facts) place inputs steps old) where
  abbrev before : Facts
  before = facts_before facts

  abbrev E : ℕ → Env
  E n = env_after n (steps_of facts steps) place inputs

  abbrev c : ℕ
  c = count old steps

  abbrev at : Env → Name × Step → Walk
  at env s = walk_at facts place inputs env s

  abbrev made : Made
  made = made_from facts

  -- more rounds with more jobs know what was known
  old_below : EnvGrows old (E c)
  old_below = grows_on facts place inputs steps old (env_after c (steps_of before steps) place inputs) (E c) was.keeps.below (rounds_grow facts place ended below inputs steps c)

  -- a step that the place does not go through
  alike : (s : Name × Step) → IsIn s steps → goes_through ended s.0 ≡ false → (env : Env) → walk_at before place inputs env s ≡ at env s
  alike s among past env = step_alike facts place ended below s (each_of (λ (s : Name × Step). step_ids_differ s.1) steps inside s among) past inputs env

  stood : (s : Name × Step) → IsIn s steps → goes_through ended s.0 ≡ false → (found : Option Outs) → StandsBy before place inputs old s found → StandsBy facts place inputs old s found
  stood s among past None stands = tt
  stood s among past (Some outs) stands = (stands.0, stands.1 ∙ ap (λ (w : Walk). w.outs) (alike s among past old))

  was_early : (n : ℕ) → c ≤ n → (env : Env) → n ≡ count env steps → (s : Name × Step) (found : Option Outs) → WasReady before place inputs steps old s found → WasReady facts place inputs steps env s found
  was_early n more env is s None early = tt
  was_early n more env is s (Some outs) early =
      let fewer : early.0 < count env steps = omega (arith, early.1, more, is) in
      (early.0, fewer, ready_stays facts.measures made place inputs (env_after early.0 (steps_of before steps) place inputs) (E early.0) (rounds_grow facts place ended below inputs steps early.0) s early.2)

  pub keeps_where : ((s : Name × Step) → IsIn s steps → StandsBy facts place inputs old s (value_at s.0 old)) → Keeps facts place inputs steps old
  keeps_where stands = record {
    stands = stands;
    below = old_below;
    early = λ s among. let same : c ≤ c = omega arith in was_early c same old refl s (value_at s.0 old) (was.keeps.early s among);
  }

  -- ---- where it goes through none that was walked

  module _ (none : HasAbove ended old steps []) where
    not_through : (s : Name × Step) → IsIn s steps → (outs : Outs) → value_at s.0 old ≡ Some outs → goes_through ended s.0 ≡ false
    not_through s among outs there = by (goes_through ended s.0) refl
      where
        by : (b : Bool) → goes_through ended s.0 ≡ b → goes_through ended s.0 ≡ false
        by true is = absurd (not_both false (none s among is (ap is_some there)) refl)
        by false is = is

    stands_still : (s : Name × Step) → IsIn s steps → (found : Option Outs) → value_at s.0 old ≡ found → StandsBy before place inputs old s found → StandsBy facts place inputs old s found
    stands_still s among None is stands = tt
    stands_still s among (Some outs) is stands = stood s among (not_through s among outs is) (Some outs) stands

    pub keeps_still : Keeps facts place inputs steps old
    keeps_still = keeps_where (λ s among. stands_still s among (value_at s.0 old) refl (was.keeps.stands s among))

  -- ---- where it goes through a step that was walked

  module _ (k : Name × Step) (at_k : IsIn k steps) (through : goes_through ended k.0 ≡ true) (outs : Outs) (walked : value_at k.0 old ≡ Some outs) where
    abbrev new : Outs
    new = (at old k).outs

    abbrev later : Env
    later = with_value k.0 new old

    stood_k : StandsBy before place inputs old k (Some outs)
    stood_k = subst (StandsBy before place inputs old k) walked (was.keeps.stands k at_k)

    early_k : WasReady before place inputs steps old k (Some outs)
    early_k = subst (WasReady before place inputs steps old k) walked (was.keeps.early k at_k)

    here : (id : Name) → bytes_eq id k.0 ≡ true → value_at id later ≡ Some new
    here id is = value_at-with_value id k.0 new old ∙ ap (λ (b : Bool). cond b (Some new) (value_at id old)) is

    elsewhere : (id : Name) → bytes_eq id k.0 ≡ false → value_at id later ≡ value_at id old
    elsewhere id is = value_at-with_value id k.0 new old ∙ ap (λ (b : Bool). cond b (Some new) (value_at id old)) is

    pub grown_k : EnvGrows old later
    grown_k = λ step name. by step name (bytes_eq step k.0) refl
      where
        by : (step name : Name) (b : Bool) → bytes_eq step k.0 ≡ b → Stays (out_under name (value_at step old)) (out_under name (value_at step later))
        by step name true is =
            let first : value_at step old ≡ Some (walk_at before place inputs old k).outs =
            ap (λ (id : Name). value_at id old) ((bytes_eq-Decides step k.0).0 is) ∙ walked ∙ ap Some stood_k.1 in
            subst₂ (λ (a b : Option Outs). Stays (out_under name a) (out_under name b)) (sym first) (sym (here step is))
            ((step_grows facts place ended below k inputs old old (λ step name. stays_itself _)).outs name)
        by step name false is =
            subst (λ (o : Option Outs). Stays (out_under name (value_at step old)) (out_under name o)) (sym (elsewhere step is)) (stays_itself (out_under name (value_at step old)))

    more : c ≤ count later steps
    more = count_keeps k.0 new old steps

    stands_on : (s : Name × Step) (found : Option Outs) → StandsBy facts place inputs old s found → StandsBy facts place inputs later s found
    stands_on s None stands = tt
    stands_on s (Some outs) stands = (
      ready_stays facts.measures made place inputs old later grown_k s stands.0,
      stands.1 ∙ ap (λ (w : Walk). w.outs) (walk_stays facts.measures made place inputs old later grown_k s stands.0),
    )

    -- no other step has its id
    past : (s : Name × Step) → IsIn s steps → bytes_eq s.0 k.0 ≡ false → goes_through ended s.0 ≡ false
    past s among is = by ended through
      where
        by : (rest : JobPlace) → goes_through rest k.0 ≡ true → goes_through rest s.0 ≡ false
        by [] goes = absurd cc
        by (g ∷ rest) goes = ap (λ (id : Name). bytes_eq id s.0) ((bytes_eq-Decides g.step k.0).0 goes) ∙ turned (bytes_eq k.0 s.0) refl
          where
            turned : (b : Bool) → bytes_eq k.0 s.0 ≡ b → bytes_eq k.0 s.0 ≡ false
            turned true same = absurd (not_both (bytes_eq s.0 k.0) ((bytes_eq-Decides s.0 k.0).1 (sym ((bytes_eq-Decides k.0 s.0).0 same))) is)
            turned false same = same

    stands_k : (s : Name × Step) → IsIn s steps → StandsBy facts place inputs later s (value_at s.0 later)
    stands_k s among = by (bytes_eq s.0 k.0) refl
      where
        by : (b : Bool) → bytes_eq s.0 k.0 ≡ b → StandsBy facts place inputs later s (value_at s.0 later)
        by true is =
            subst (StandsBy facts place inputs later s) (sym (here s.0 is))
            (subst (λ (u : Name × Step). StandsBy facts place inputs later u (Some new)) (sym (one_step s k steps apart among at_k is)) (stands_on k (Some new) (stood_k.0, refl)))
        by false is =
            subst (StandsBy facts place inputs later s) (sym (elsewhere s.0 is))
            (stands_on s (value_at s.0 old) (stood s among (past s among is) (value_at s.0 old) (was.keeps.stands s among)))

    -- its inputs were known in an earlier round
    in_round : value_at k.0 (E (suc early_k.0)) ≡ Some (at (E early_k.0) k).outs
    in_round =
        put_at made facts.measures (step_meaning_of facts.measures made) (record { inputs = []; outputs = []; steps = steps }) place inputs (E early_k.0) [] steps (ap differ (sym (same_ids steps)) ∙ apart) k at_k

    ready_then : is_ready (E early_k.0) k.1 ≡ true
    ready_then = ready_stays facts.measures made place inputs (env_after early_k.0 (steps_of before steps) place inputs) (E early_k.0) (rounds_grow facts place ended below inputs steps early_k.0) k early_k.2

    same_then : at (E early_k.0) k ≡ at old k
    same_then =
        let fewer : early_k.0 ≤ c = omega (arith, early_k.1) in
        walk_stays facts.measures made place inputs (E early_k.0) (E c) (up_to facts place inputs steps early_k.0 c fewer) k ready_then
        ∙ sym (walk_stays facts.measures made place inputs old (E c) old_below k stood_k.0)

    below_k : EnvGrows later (E (count later steps))
    below_k = λ step name. by step name (bytes_eq step k.0) refl
      where
        by : (step name : Name) (b : Bool) → bytes_eq step k.0 ≡ b → Stays (out_under name (value_at step later)) (out_under name (value_at step (E (count later steps))))
        by step name true is =
            let fits : suc early_k.0 ≤ count later steps = omega (arith, early_k.1, more) in
            let at_last : value_at step (E (suc early_k.0)) ≡ Some new =
            ap (λ (id : Name). value_at id (E (suc early_k.0))) ((bytes_eq-Decides step k.0).0 is) ∙ in_round ∙ ap (λ (w : Walk). Some w.outs) same_then in
            subst (λ (o : Option Outs). Stays (out_under name o) (out_under name (value_at step (E (count later steps))))) (at_last ∙ sym (here step is))
            (up_to facts place inputs steps (suc early_k.0) (count later steps) fits step name)
        by step name false is =
            subst (λ (o : Option Outs). Stays (out_under name o) (out_under name (value_at step (E (count later steps))))) (sym (elsewhere step is))
            (grows_on facts place inputs steps old (E c) (E (count later steps)) old_below (up_to facts place inputs steps c (count later steps) more) step name)

    early_then : (s : Name × Step) → IsIn s steps → WasReady facts place inputs steps later s (value_at s.0 later)
    early_then s among = by (bytes_eq s.0 k.0) refl
      where
        by : (b : Bool) → bytes_eq s.0 k.0 ≡ b → WasReady facts place inputs steps later s (value_at s.0 later)
        by true is =
            let fits : early_k.0 < count later steps = omega (arith, early_k.1, more) in
            subst (WasReady facts place inputs steps later s) (sym (here s.0 is))
            (early_k.0, fits, subst (λ (u : Name × Step). is_ready (E early_k.0) u.1 ≡ true) (sym (one_step s k steps apart among at_k is)) ready_then)
        by false is =
            subst (WasReady facts place inputs steps later s) (sym (elsewhere s.0 is))
            (was_early (count later steps) more later refl s (value_at s.0 old) (was.keeps.early s among))

    pub keeps_k : Keeps facts place inputs steps later
    keeps_k = record { stands = stands_k; below = below_k; early = early_then }

    pub ready_k : is_ready later k.1 ≡ true
    ready_k = ready_stays facts.measures made place inputs old later grown_k k stood_k.0

    pub walk_k : at old k ≡ at later k
    walk_k = walk_stays facts.measures made place inputs old later grown_k k stood_k.0

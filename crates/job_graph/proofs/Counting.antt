-- How many sources of the steps pass a test, before and after the outputs of one step are put.
use Rattle.std.proofs.Common.{◌≡◌, ◌∙◌, ◌⊎◌, inl, inr, ⊎_elim, ℕ, zero, suc, ◌+◌, ◌<◌, ◌≤◌, List, [], ◌∷◌, ◌++◌, get_or, length, take, Bool, true, false, cond, not, Option, Some, None, unwrap_or, bytes_eq, refl, sym, ap, ap₂, subst, arith}
use Rattle.std.specs.Prelude.{◌&&◌, ◌||◌, ◌==◌, count_by, is_some, sum_by}
use Rattle.std.specs.List.{list_all}
use Rattle.std.proofs.Math.Dec.{eqb-suc-zero}
use Rattle.std.proofs.lemmas.Bool.{eqb-true}
use Rattle.std.proofs.lemmas.List.{length-map, map-append}
use Rattle.std.proofs.lemmas.List.Sums.{sum_by-cons}
use Rattle.std.proofs.lemmas.Slice.Eq.{bytes_eq-Decides}
use Rattle.cwl_process.specs.declared.links.Source.{Source}
use Rattle.cwl_process.specs.declared.workflow.StepInput.{StepInput}
use Rattle.document_links.specs.declared.process.Step.{Step, out-Step}
use Rattle.plain_data.specs.ByName.{value_at, with_value}
use Rattle.plain_data.proofs.Lookup.{name_itself, value_at-with_value}
use Rattle.job_graph.specs.More.{Stays}
use Rattle.job_graph.specs.Words.{Name}
use Rattle.job_graph.specs.Jobs.{Outs}
use Rattle.job_graph.specs.Links.{Env, out_under}
use Rattle.job_graph.specs.declared.counts.Waits.{Waits}
use Rattle.job_graph.specs.declared.readers.Readers.{Readers}
use Rattle.job_graph.specs.inner.Counts.{IsCounted, Lowers, awaited_of, each_by, is_new, is_output, is_unknown, sources_by, waits_for}
use Rattle.job_graph.specs.inner.Elements.{stands_in}
use Rattle.job_graph.specs.inner.Readers.{IsTableOf}
use Rattle.job_graph.specs.inner.Rounds.{EnvGrows, are_known, is_known, is_ready, is_stuck, is_there}
use Rattle.job_graph.proofs.GoingOn.{front_more, same_at}
use Rattle.job_graph.proofs.laws_of_walks.Reads.{sources_in}

-- ---- sums

pub sum_of_both : {X : Type 0} (f g h : X → ℕ) → ((x : X) → f x ≡ g x + h x) → (xs : List X) → sum_by f xs ≡ sum_by g xs + sum_by h xs
sum_of_both f g h one [] = refl
sum_of_both f g h one (x ∷ xs) = omega (arith, one x, sum_of_both f g h one xs, sum_by-cons f x xs, sum_by-cons g x xs, sum_by-cons h x xs)

pub sum_within : {X : Type 0} (f g : X → ℕ) → ((x : X) → f x ≤ g x) → (xs : List X) → sum_by f xs ≤ sum_by g xs
sum_within f g one [] = omega arith
sum_within f g one (x ∷ xs) = omega (arith, one x, sum_within f g one xs, sum_by-cons f x xs, sum_by-cons g x xs)

-- of the sources of inputs, and of each step
both_by : (a b c : Source → Bool) → ((s : Source) → cond (a s) 1 0 ≡ cond (b s) 1 0 + cond (c s) 1 0) → (inputs : List (Name × StepInput)) → sources_by a inputs ≡ sources_by b inputs + sources_by c inputs
both_by a b c one inputs =
    sum_of_both (λ (i : Name × StepInput). count_by a (sources_in i.1)) (λ (i : Name × StepInput). count_by b (sources_in i.1)) (λ (i : Name × StepInput). count_by c (sources_in i.1))
    (λ i. sum_of_both (λ s. cond (a s) 1 0) (λ s. cond (b s) 1 0) (λ s. cond (c s) 1 0) one (sources_in i.1)) inputs

within_by : (a b : Source → Bool) → ((s : Source) → cond (a s) 1 0 ≤ cond (b s) 1 0) → (inputs : List (Name × StepInput)) → sources_by a inputs ≤ sources_by b inputs
within_by a b one inputs =
    sum_within (λ (i : Name × StepInput). count_by a (sources_in i.1)) (λ (i : Name × StepInput). count_by b (sources_in i.1))
    (λ i. sum_within (λ s. cond (a s) 1 0) (λ s. cond (b s) 1 0) one (sources_in i.1)) inputs

each_both : (a b c : Source → Bool) → ((s : Source) → cond (a s) 1 0 ≡ cond (b s) 1 0 + cond (c s) 1 0) → (steps : List (Name × Step)) (m : ℕ)
    → get_or (each_by a steps) m 0 ≡ get_or (each_by b steps) m 0 + get_or (each_by c steps) m 0
each_both a b c one [] m = refl
each_both a b c one (s ∷ steps) zero = both_by a b c one (out-Step s.1).inputs
each_both a b c one (s ∷ steps) (suc m) = each_both a b c one steps m

each_within : (a b : Source → Bool) → ((s : Source) → cond (a s) 1 0 ≤ cond (b s) 1 0) → (steps : List (Name × Step)) (m : ℕ) → get_or (each_by a steps) m 0 ≤ get_or (each_by b steps) m 0
each_within a b one [] m = omega arith
each_within a b one (s ∷ steps) zero = within_by a b one (out-Step s.1).inputs
each_within a b one (s ∷ steps) (suc m) = each_within a b one steps m

pub each_more : (test : Source → Bool) (steps : List (Name × Step)) (i : ℕ) (s : Name × Step) → i < length steps → s ≡ get_or steps i s → each_by test (take (i + 1) steps) ≡ each_by test (take i steps) ++ sources_by test (out-Step s.1).inputs ∷ []
each_more test steps i s below is =
    ap (each_by test) (front_more steps i s below is) ∙ map-append (λ (t : Name × Step). sources_by test (out-Step t.1).inputs) (take i steps) (s ∷ [])

each_at : (test : Source → Bool) (steps : List (Name × Step)) (n : ℕ) (s : Name × Step) → n < length steps → s ≡ get_or steps n s → get_or (each_by test steps) n 0 ≡ sources_by test (out-Step s.1).inputs
each_at test [] n s below is = absurd (omega (arith, below))
each_at test (t ∷ steps) zero s below is = ap (λ (u : Name × Step). sources_by test (out-Step u.1).inputs) (sym is)
each_at test (t ∷ steps) (suc n) s below is = let less : n < length steps = omega (arith, below) in each_at test steps n s less is

same_numbers : (xs ys : List ℕ) → length xs ≡ length ys → ((m : ℕ) → get_or xs m 0 ≡ get_or ys m 0) → xs ≡ ys
same_numbers [] [] long same = refl
same_numbers [] (y ∷ ys) long same = absurd (omega (arith, long))
same_numbers (x ∷ xs) [] long same = absurd (omega (arith, long))
same_numbers (x ∷ xs) (y ∷ ys) long same = let less : length xs ≡ length ys = omega (arith, long) in ap₂ (λ (z : ℕ) (zs : List ℕ). z ∷ zs) (same zero) (same_numbers xs ys less (λ m. same (suc m)))

-- ---- a step is ready where it waits for no value

none_of_both : (a b : ℕ) → (a + b == 0) ≡ ((a == 0) && (b == 0))
none_of_both zero b = let same : zero + b ≡ b = omega arith in ap (λ (n : ℕ). n == 0) same
none_of_both (suc a) b =
    let more : suc a + b ≡ suc (a + b) = omega arith in
    ap (λ (n : ℕ). n == 0) more ∙ eqb-suc-zero (a + b) ∙ sym (ap (λ (c : Bool). c && (b == 0)) (eqb-suc-zero a))

known_by : (env : Env) (sources : List Source) → are_known env sources ≡ (count_by (is_unknown env) sources == 0)
known_by env [] = refl
known_by env (s ∷ sources) =
    ap₂ (λ (a b : Bool). a && b) (one (is_known env s)) (known_by env sources)
    ∙ sym (ap (λ (n : ℕ). n == 0) (sum_by-cons (λ s. cond (is_unknown env s) 1 0) s sources) ∙ none_of_both (cond (is_unknown env s) 1 0) (count_by (is_unknown env) sources))
  where
    one : (b : Bool) → b ≡ (cond (not b) 1 0 == 0)
    one true = refl
    one false = refl

ready_by : (env : Env) (inputs : List (Name × StepInput)) → list_all (λ i. are_known env (sources_in i.1)) inputs ≡ (sources_by (is_unknown env) inputs == 0)
ready_by env [] = refl
ready_by env (i ∷ inputs) =
    ap₂ (λ (a b : Bool). a && b) (known_by env (sources_in i.1)) (ready_by env inputs)
    ∙ sym (ap (λ (n : ℕ). n == 0) (sum_by-cons (λ (i : Name × StepInput). count_by (is_unknown env) (sources_in i.1)) i inputs)
    ∙ none_of_both (count_by (is_unknown env) (sources_in i.1)) (sources_by (is_unknown env) inputs))

pub counts_long : (env : Env) (steps : List (Name × Step)) (counts : List ℕ) → IsCounted env steps counts → length counts ≡ length steps
counts_long env steps counts counted = ap length counted ∙ length-map steps (λ s. sources_by (is_unknown env) (out-Step s.1).inputs)

module _ (env : Env) (steps : List (Name × Step)) (counts : List ℕ) (counted : IsCounted env steps counts) (n : ℕ) (s : Name × Step) (below : n < length steps) (is : s ≡ get_or steps n s) where
  -- by its count
  pub ready_where : is_ready env s.1 ≡ (get_or counts n 0 == 0)
  ready_where =
      ready_by env (out-Step s.1).inputs
      ∙ ap (λ (k : ℕ). k == 0) (sym (ap (λ (xs : List ℕ). get_or xs n 0) counted ∙ each_at (is_unknown env) steps n s below is))

  pub stuck_where : (is_some (value_at s.0 env) || not (get_or counts n 0 == 0)) ≡ is_stuck env s
  stuck_where = ap (λ (b : Bool). is_some (value_at s.0 env) || not b) (sym ready_where)

-- ---- the outputs of a step are put

stays_some : {T : Type 0} (a b : Option T) → Stays a b → is_some a ≡ true → is_some b ≡ true
stays_some None b stays some = absurd cc
stays_some (Some x) b stays some = ap is_some stays

old_out : (found : Option Outs) (name : Name) → out_under name (Some (unwrap_or found [])) ≡ out_under name found
old_out None name = refl
old_out (Some outs) name = refl

-- a source is known now, or was, or is new
split_here : (was now after before here : Bool) → now ≡ after → was ≡ before → here ≡ true → (was ≡ true → now ≡ true) → cond (not was) 1 0 ≡ cond (not now) 1 0 + cond (here && (after && not before)) 1 0
split_here was now after before here same old at grown = cases was now grown ∙ sym (ap (λ (b : Bool). cond (not now) 1 0 + cond b 1 0) (ap₂ (λ (h b : Bool). h && b) at (ap₂ (λ (x y : Bool). x && not y) (sym same) (sym old))))
  where
    cases : (b a : Bool) → (b ≡ true → a ≡ true) → cond (not b) 1 0 ≡ cond (not a) 1 0 + cond (a && not b) 1 0
    cases true true grown = refl
    cases true false grown = let both : false ≡ true = grown refl in absurd cc
    cases false true grown = refl
    cases false false grown = refl

split_other : (was now more here : Bool) → now ≡ was → here ≡ false → cond (not was) 1 0 ≡ cond (not now) 1 0 + cond (here && more) 1 0
split_other was now more here same other = sym (ap₂ (λ (n h : Bool). cond (not n) 1 0 + cond (h && more) 1 0) same other ∙ whole (cond (not was) 1 0))
  where
    whole : (n : ℕ) → n + 0 ≡ n
    whole n = omega arith

new_within : (was after before here : Bool) → (here ≡ true → was ≡ before) → cond (here && (after && not before)) 1 0 ≤ cond (not was) 1 0
new_within was after before true old = subst (λ (b : Bool). cond (after && not before) 1 0 ≤ cond (not b) 1 0) (sym (old refl)) (cases after before)
  where
    cases : (a b : Bool) → cond (a && not b) 1 0 ≤ cond (not b) 1 0
    cases true true = omega arith
    cases true false = omega arith
    cases false true = omega arith
    cases false false = omega arith
new_within was after before false old = omega arith

module _ (env : Env) (id : Name) (outs : Outs) where
  abbrev later : Env
  later = with_value id outs env

  abbrev new : Name → Bool
  new = is_new (unwrap_or (value_at id env) []) outs

  was_at : (step name : Name) → bytes_eq step id ≡ true → is_some (out_under name (value_at step env)) ≡ is_some (out_under name (Some (unwrap_or (value_at id env) [])))
  was_at step name here =
      ap (λ (k : Name). is_some (out_under name (value_at k env))) ((bytes_eq-Decides step id).0 here) ∙ sym (ap is_some (old_out (value_at id env) name))

  one_new : (source : Source) → cond (is_output id new source) 1 0 ≤ cond (is_unknown env source) 1 0
  one_new source = by source.step source.name
    where
      by : (step : Option Name) (name : Name) → cond (is_output id new (record { step = step; name = name })) 1 0 ≤ cond (not (is_there env step name)) 1 0
      by None name = omega arith
      by (Some step) name =
          new_within (is_some (out_under name (value_at step env))) (is_some (out_under name (Some outs))) (is_some (out_under name (Some (unwrap_or (value_at id env) [])))) (bytes_eq step id) (was_at step name)

  module _ (grown : EnvGrows env later) where
    one_source : (source : Source) → cond (is_unknown env source) 1 0 ≡ cond (is_unknown later source) 1 0 + cond (is_output id new source) 1 0
    one_source source = by source.step source.name
      where
        by : (step : Option Name) (name : Name) → cond (not (is_there env step name)) 1 0 ≡ cond (not (is_there later step name)) 1 0 + cond (is_output id new (record { step = step; name = name })) 1 0
        by None name = refl
        by (Some step) name = at (bytes_eq step id) refl
          where
            at : (b : Bool) → bytes_eq step id ≡ b
                → cond (not (is_some (out_under name (value_at step env)))) 1 0
                ≡ cond (not (is_some (out_under name (value_at step later)))) 1 0 + cond (bytes_eq step id && new name) 1 0
            at true here =
                split_here (is_some (out_under name (value_at step env))) (is_some (out_under name (value_at step later))) (is_some (out_under name (Some outs)))
                (is_some (out_under name (Some (unwrap_or (value_at id env) [])))) (bytes_eq step id)
                (ap (λ (o : Option Outs). is_some (out_under name o)) (value_at-with_value step id outs env ∙ ap (λ (b : Bool). cond b (Some outs) (value_at step env)) here))
                (was_at step name here) here (stays_some (out_under name (value_at step env)) (out_under name (value_at step later)) (grown step name))
            at false other =
                split_other (is_some (out_under name (value_at step env))) (is_some (out_under name (value_at step later))) (new name) (bytes_eq step id)
                (ap (λ (o : Option Outs). is_some (out_under name o)) (value_at-with_value step id outs env ∙ ap (λ (b : Bool). cond b (Some outs) (value_at step env)) other)) other

  module _ (readers : Readers) (steps : List (Name × Step)) (table : IsTableOf readers steps) where
    -- how much each count is lowered
    abbrev by_new : ℕ → ℕ
    by_new m = waits_for new m (awaited_of id readers.awaited)

    -- there is so much in it
    pub can_lower : (counts : List ℕ) → IsCounted env steps counts → (m : ℕ) → by_new m ≤ get_or counts m 0
    can_lower counts counted m =
        let here : by_new m ≡ get_or (each_by (is_output id new) steps) m 0 = table.awaited id new m in
        let all : get_or counts m 0 ≡ get_or (each_by (is_unknown env) steps) m 0 = ap (λ (xs : List ℕ). get_or xs m 0) counted in
        omega (arith, here, all, each_within (is_output id new) (is_unknown env) one_new steps m)

    module _ (grown : EnvGrows env later) (old now : Waits) (lowers : Lowers (λ m. waits_for (is_new (unwrap_or (value_at id env) []) outs) m (awaited_of id readers.awaited)) old now) (counted : IsCounted env steps old.counts.items) where
      -- the counts are right again
      pub counted_now : IsCounted later steps now.counts.items
      counted_now = same_numbers now.counts.items (each_by (is_unknown later) steps) long (λ m. one m)
        where
          each_long : (test : Source → Bool) → length (each_by test steps) ≡ length steps
          each_long test = length-map steps (λ s. sources_by test (out-Step s.1).inputs)

          long : length now.counts.items ≡ length (each_by (is_unknown later) steps)
          long = lowers.long ∙ ap length counted ∙ each_long (is_unknown env) ∙ sym (each_long (is_unknown later))

          one : (m : ℕ) → get_or now.counts.items m 0 ≡ get_or (each_by (is_unknown later) steps) m 0
          one m =
              let here : by_new m ≡ get_or (each_by (is_output id new) steps) m 0 = table.awaited id new m in
              let all : get_or old.counts.items m 0 ≡ get_or (each_by (is_unknown env) steps) m 0 = ap (λ (xs : List ℕ). get_or xs m 0) counted in
              let low : get_or now.counts.items m 0 + by_new m ≡ get_or old.counts.items m 0 = lowers.counts m in
              omega (arith, here, all, low, each_both (is_unknown env) (is_unknown later) (is_output id new) (one_source grown) steps m)

      -- a step that was put
      put_stuck : (s : Name × Step) → s.0 ≡ id → is_stuck later s ≡ true
      put_stuck s same =
          ap (λ (o : Option Outs). is_some o || not (is_ready later s.1))
          (value_at-with_value s.0 id outs env ∙ ap (λ (b : Bool). cond b (Some outs) (value_at s.0 env)) (ap (λ (k : Name). bytes_eq k id) same ∙ name_itself id))

      some_stays : (s : Name × Step) → is_some (value_at s.0 env) ≡ true → is_stuck later s ≡ true
      some_stays s some = ap (λ (o : Option Outs). is_some o || not (is_ready later s.1)) (value_at-with_value s.0 id outs env) ∙ by (bytes_eq s.0 id) (value_at s.0 env) some
        where
          by : (b : Bool) (found : Option Outs) → is_some found ≡ true → (is_some (cond b (Some outs) found) || not (is_ready later s.1)) ≡ true
          by true found some = refl
          by false (Some found) some = refl
          by false None some = absurd cc

      -- a step that can be walked now is pending
      pub pending_now : (t : Name × Step) (n : ℕ) → t.0 ≡ id → n < length steps → t ≡ get_or steps n t
          → ((m : ℕ) (s : Name × Step) → m < length steps → s ≡ get_or steps m s → (is_stuck env s ≡ true) ⊎ (stands_in m (n ∷ old.pending) ≡ true))
          → (m : ℕ) (s : Name × Step) → m < length steps → s ≡ get_or steps m s → (is_stuck later s ≡ true) ⊎ (stands_in m now.pending ≡ true)
      pending_now t n same inside here_is left m s below at = by (is_stuck later s) refl
        where
          clash : (b : Bool) → b ≡ false → b ≡ true → ⊥
          clash b none some = let both : false ≡ true = sym none ∙ some in absurd cc

          free_count : (walked ready : Bool) → (walked || not ready) ≡ false → ready ≡ true
          free_count true ready free = absurd cc
          free_count false true free = refl
          free_count false false free = absurd cc

          waits_still : (walked ready : Bool) → (walked || not ready) ≡ true → walked ≡ false → ready ≡ false
          waits_still true ready is none = absurd cc
          waits_still false true is none = absurd cc
          waits_still false false is none = refl

          some_left : (k : ℕ) → (k == 0) ≡ false → 0 < k
          some_left zero none = absurd cc
          some_left (suc k) none = omega arith

          from_stuck : is_stuck later s ≡ false → (b : Bool) → is_some (value_at s.0 env) ≡ b → is_stuck env s ≡ true → stands_in m now.pending ≡ true
          from_stuck free true some stuck = absurd (clash (is_stuck later s) free (some_stays s some))
          from_stuck free false none stuck =
              let waited : (get_or old.counts.items m 0 == 0) ≡ false = sym (ready_where env steps old.counts.items counted m s below at) ∙ waits_still (is_some (value_at s.0 env)) (is_ready env s.1) stuck none in
              let done : (get_or now.counts.items m 0 == 0) ≡ true = sym (ready_where later steps now.counts.items counted_now m s below at) ∙ free_count (is_some (value_at s.0 later)) (is_ready later s.1) free in
              lowers.ready m (some_left (get_or old.counts.items m 0) waited) (eqb-true (get_or now.counts.items m 0) 0 done)

          from_left : is_stuck later s ≡ false → (b : Bool) → (n == m) ≡ b → ((n == m) || stands_in m old.pending) ≡ true → stands_in m now.pending ≡ true
          from_left free true one stands =
              let there : s ≡ t = same_at steps n s t inside (subst (λ (k : ℕ). s ≡ get_or steps k s) (sym (eqb-true n m one)) at) here_is in
              absurd (clash (is_stuck later s) free (put_stuck s (ap (λ (u : Name × Step). u.0) there ∙ same)))
          from_left free false other stands = lowers.stays m (sym (ap (λ (b : Bool). b || stands_in m old.pending) other) ∙ stands)

          by : (b : Bool) → is_stuck later s ≡ b → (is_stuck later s ≡ true) ⊎ (stands_in m now.pending ≡ true)
          by true is = inl is
          by false free = inr (⊎_elim (λ stuck. from_stuck free (is_some (value_at s.0 env)) refl stuck) (λ stands. from_left free (n == m) refl stands) (left m s below at))

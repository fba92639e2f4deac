-- The steps that are still to be walked, by the numbers of the values that they wait for.
use Rattle.std.proofs.Common.{◌≡◌, ◌∙◌, ◌⊎◌, inl, inr, ⊎_elim, ℕ, ◌+◌, ◌<◌, List, [], ◌∷◌, ◌++◌, get_or, length, Bool, true, false, refl, sym, ap, subst, arith}
use Rattle.std.specs.Prelude.{◌||◌, ◌==◌}
use Rattle.std.specs.Map.{keys_of}
use Rattle.std.proofs.lemmas.Bool.{eq-eqb, eqb-true}
use Rattle.document_links.specs.declared.process.Step.{Step}
use Rattle.plain_data.specs.ByName.{with_value}
use Rattle.job_graph.specs.Apart.{differ}
use Rattle.job_graph.specs.Words.{Name, Fields, JobPlace}
use Rattle.job_graph.specs.Jobs.{Outs}
use Rattle.job_graph.specs.Links.{Env}
use Rattle.job_graph.specs.declared.made.Facts.{Facts}
use Rattle.job_graph.specs.declared.readers.Readers.{Readers}
use Rattle.job_graph.specs.declared.waiting.Going.{Going}
use Rattle.job_graph.specs.inner.Counts.{IsCounted}
use Rattle.job_graph.specs.inner.Elements.{stands_in}
use Rattle.job_graph.specs.inner.Going.{AreNumbers, ArePending, Goes, HasAbove, HasGone, WalksOne}
use Rattle.job_graph.specs.inner.Readers.{IsTableOf}
use Rattle.job_graph.specs.inner.Rounds.{EnvGrows, is_stuck, walk_at}
use Rattle.job_graph.proofs.Counting.{counted_now, counts_long, pending_now}
use Rattle.job_graph.proofs.GoingOn.{above_more, all_true, any_last, any_more, any_turned, goes_more, grown_one, number_in, same_at}

-- the counts are right, and each step that can be walked is pending, or one of these
pub record IsLeft (steps : List (Name × Step)) (more : List ℕ) (going : Going) : Type 0 where
  pub counted : IsCounted going.env steps going.waits.counts.items
  pub pending : ArePending going.env (more ++ going.waits.pending) steps
  pub numbers : AreNumbers steps going.waits.pending

pub record GoesTo (facts : Facts) (place : JobPlace) (inputs : Fields) (steps : List (Name × Step)) (ended : JobPlace) (old : Env) (more : List ℕ) (going : Going) : Type 0 where
  pub goes : Goes facts place inputs steps old going
  pub above : HasAbove ended old steps going.changed
  pub left : IsLeft steps more going

never : false ≡ true → ⊥
never is = cc

module _ (facts : Facts) (place : JobPlace) (inputs : Fields) (steps : List (Name × Step)) where
  -- a step is walked
  module _ (readers : Readers) (table : IsTableOf readers steps) (cur new : Going) (n : ℕ) (t : Name × Step) (inside : n < length steps) (here_is : t ≡ get_or steps n t)
      (one : WalksOne facts place inputs readers t n cur new) (grown : EnvGrows cur.env (with_value t.0 (walk_at facts place inputs cur.env t).outs cur.env)) where
    abbrev outs : Outs
    outs = (walk_at facts place inputs cur.env t).outs

    pub walks_left : IsLeft steps (n ∷ []) cur → IsLeft steps [] new
    walks_left left = record {
      counted = subst (λ (env : Env). IsCounted env steps new.waits.counts.items) (sym one.env) (counted_now cur.env t.0 outs readers steps table grown cur.waits new.waits one.lowers left.counted);
      pending = λ m s below at. subst (λ (env : Env). (is_stuck env s ≡ true) ⊎ (stands_in m new.waits.pending ≡ true)) (sym one.env)
          (pending_now cur.env t.0 outs readers steps table grown cur.waits new.waits one.lowers left.counted t n refl inside here_is left.pending m s below at);
      numbers = λ m stands. ⊎_elim (λ was. left.numbers m was)
          (λ below. let within : m < length steps = omega (arith, below, counts_long cur.env steps cur.waits.counts.items left.counted) in within) (one.lowers.within m stands);
    }

  module _ (ended : JobPlace) (old : Env) where
    -- the last one of those that are pending is next
    module _ (going : Going) (n : ℕ) (rest : List ℕ) (last : going.waits.pending ≡ rest ++ n ∷ []) (to : GoesTo facts place inputs steps ended old [] going) where
      pub next_within : n < length steps
      next_within = to.left.numbers n (ap (stands_in n) last ∙ any_last (λ (k : ℕ). k == n) rest n (eq-eqb n n refl))

      pub goes_to_next : GoesTo facts place inputs steps ended old (n ∷ [])
          (record { env = going.env; met = going.met; changed = going.changed; waits = record { counts = going.waits.counts; pending = rest } })
      goes_to_next = record {
        goes = record { holds = to.goes.holds; grown = to.goes.grown; same = to.goes.same; slots = to.goes.slots };
        above = to.above;
        left = record {
          counted = to.left.counted;
          pending = λ m s below at. ⊎_elim (λ stuck. inl stuck) (λ stands. inr (any_turned (λ (k : ℕ). k == m) rest n (sym (ap (stands_in m) last) ∙ stands))) (to.left.pending m s below at);
          numbers = λ m stands. to.left.numbers m (ap (stands_in m) last ∙ any_more (λ (k : ℕ). k == m) rest n stands);
        };
      }

    module _ (cur : Going) (n : ℕ) (t : Name × Step) (inside : n < length steps) (here_is : t ≡ get_or steps n t) (to : GoesTo facts place inputs steps ended old (n ∷ []) cur) where
      pub goes_to_walked : differ (keys_of steps) ≡ true → (readers : Readers) → IsTableOf readers steps → (new : Going) → is_stuck cur.env t ≡ false → WalksOne facts place inputs readers t n cur new
          → GoesTo facts place inputs steps ended old [] new
      goes_to_walked apart readers table new free one = record {
        goes = goes_more facts place inputs steps apart readers old cur new to.goes n t inside here_is free one;
        above = above_more facts place inputs steps apart readers old cur new to.goes n t inside here_is free one ended to.above;
        left = walks_left readers table cur new n t inside here_is one (grown_one facts place inputs steps apart readers old cur new to.goes n t inside here_is free one) to.left;
      }

      -- one that is stuck is past
      pub goes_to_past : is_stuck cur.env t ≡ true → GoesTo facts place inputs steps ended old [] cur
      goes_to_past stuck = record {
        goes = to.goes;
        above = to.above;
        left = record {
          counted = to.left.counted;
          pending = λ m s below at. ⊎_elim (λ is. inl is) (λ stands. by m s at (n == m) refl stands) (to.left.pending m s below at);
          numbers = to.left.numbers;
        };
      }
        where
          by : (m : ℕ) (s : Name × Step) → s ≡ get_or steps m s → (b : Bool) → (n == m) ≡ b → ((n == m) || stands_in m cur.waits.pending) ≡ true
              → (is_stuck cur.env s ≡ true) ⊎ (stands_in m cur.waits.pending ≡ true)
          by m s at true same stands =
              inl (ap (is_stuck cur.env) (same_at steps n s t inside (subst (λ (k : ℕ). s ≡ get_or steps k s) (sym (eqb-true n m same)) at) here_is) ∙ stuck)
          by m s at false other stands = inr (sym (ap (λ (b : Bool). b || stands_in m cur.waits.pending) other) ∙ stands)

    -- none is left
    pub gone_to : (going : Going) (rest : List ℕ) → going.waits.pending ≡ [] → GoesTo facts place inputs steps ended old [] going
        → HasGone facts place inputs steps ended old (record { env = going.env; met = going.met; changed = going.changed; waits = record { counts = going.waits.counts; pending = rest } })
    gone_to going rest none to = record {
      goes = record { holds = to.goes.holds; grown = to.goes.grown; same = to.goes.same; slots = to.goes.slots };
      above = to.above;
      stuck = all_true (is_stuck going.env) steps (λ s among.
          let there : (n : ℕ) × ((n < length steps) × (s ≡ get_or steps n s)) = number_in s steps among in
          ⊎_elim (λ stuck. stuck) (λ stands. absurd (never (sym (ap (stands_in there.0) none) ∙ stands))) (to.left.pending there.0 s there.1.0 there.1.1));
      counted = to.left.counted;
    }

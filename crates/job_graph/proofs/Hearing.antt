-- What is met by the steps that were walked anew and by those that wait for them, in the order of the document.
use Rattle.std.proofs.Common.{◌≡◌, ◌∙◌, ◌⊎◌, inl, inr, ⊎_elim, ℕ, suc, ◌+◌, ◌<◌, ◌≤◌, List, [], ◌∷◌, get_or, length, map, Bool, true, false, cond, not, Option, Some, None, bytes_eq, refl, sym, ap, subst, arith}
use Rattle.std.specs.Prelude.{◌||◌, ◌==◌, is_some}
use Rattle.std.specs.BTreeMap.{BTreeMap, IsOrdered, get, is_at}
use Rattle.std.specs.List.{flat_map, list_any}
use Rattle.std.specs.List.Sorted.{IsStrictlySortedBy}
use Rattle.std.specs.Map.{keys_of, lookup}
use Rattle.std.specs.Ordering.{is_eq, nat_cmp}
use Rattle.std.proofs.lemmas.Bool.{eqb-false, eqb-true}
use Rattle.std.proofs.lemmas.Map.Keys.{below_from_sorted, sorted_tail}
use Rattle.std.proofs.lemmas.Map.Lookups.{exact_unsigned}
use Rattle.document_links.specs.declared.process.Step.{Step}
use Rattle.plain_data.specs.ByName.{value_at}
use Rattle.job_graph.specs.inner.Elements.{IsIn, stands_in}
use Rattle.job_graph.specs.Words.{Name, Fields, JobPlace}
use Rattle.job_graph.specs.Equations.{step_walk}
use Rattle.job_graph.specs.Jobs.{Met}
use Rattle.job_graph.specs.Links.{Env}
use Rattle.job_graph.specs.declared.made.Facts.{Facts}
use Rattle.job_graph.specs.declared.readers.Readers.{Readers}
use Rattle.job_graph.specs.declared.walk.Met.{Met as KeptMet}
use Rattle.job_graph.specs.inner.Going.{AreKept, AreRight, Hears, HearsOne, HoldsAt, IsKept, LeavesOut, WasMet, leaves_nothing, reads, reads_one}
use Rattle.job_graph.specs.inner.Levels.{steps_of}
use Rattle.job_graph.specs.inner.Readers.{IsTableOf, row_of}
use Rattle.job_graph.specs.inner.Rounds.{MeetsBy, walk_at}
use Rattle.job_graph.specs.inner.Views.{met_of}
use Rattle.job_graph.proofs.Gone.{leaves_all, leaves_append, leaves_itself, not_so}
use Rattle.job_graph.proofs.GoingOn.{same_at}
use Rattle.job_graph.proofs.Index.{is_equal, itself}
use Rattle.job_graph.proofs.laws_of_walks.Settled.{is_element}

abbrev Kept : Type 0
Kept = BTreeMap ℕ (List KeptMet)

module _ (facts : Facts) (place : JobPlace) (inputs : Fields) (steps : List (Name × Step)) (env : Env) where
  -- ---- steps are heard, one after another

  -- of those under a test each is, but for those that are left
  pub record Hearing (under left : ℕ → Name × Step → Bool) (old cur : Kept) : Type 0 where
    pub right : AreRight facts place inputs steps env cur
    pub stays : (n : ℕ) → is_some (get nat_cmp old n) ≡ true → is_some (get nat_cmp cur n) ≡ true
    pub all : (n : ℕ) (s : Name × Step) → n < length steps → s ≡ get_or steps n s → under n s ≡ true
        → (is_some (value_at s.0 env) ≡ true) ⊎ ((is_some (get nat_cmp cur n) ≡ true) ⊎ (left n s ≡ true))

  pub hearing_first : (under : ℕ → Name × Step → Bool) (old : Kept) → AreRight facts place inputs steps env old → Hearing under under old old
  hearing_first under old right = record { right = right; stays = λ n some. some; all = λ n s below at is. inr (inr is) }

  pub hearing_done : (under left : ℕ → Name × Step → Bool) (old cur : Kept) → ((n : ℕ) (s : Name × Step) → left n s ≡ false) → Hearing under left old cur → Hears facts place inputs steps env under old cur
  hearing_done under left old cur none hearing = record {
    right = hearing.right;
    stays = hearing.stays;
    all = λ n s below at is. ⊎_elim (λ walked. inl walked) (λ others. ⊎_elim (λ heard. inr heard) (λ more. absurd (not_so (sym (none n s) ∙ more))) others) (hearing.all n s below at is);
  }

  -- one step more
  module _ (under : ℕ → Name × Step → Bool) (old cur new : Kept) (m : ℕ) (t : Name × Step) (inside : m < length steps) (here_is : t ≡ get_or steps m t)
      (one : HearsOne facts place inputs env m t cur new) where
    right_now : AreRight facts place inputs steps env cur → AreRight facts place inputs steps env new
    right_now right = record {
      right = λ n s met below at is. ⊎_elim (λ was. right.right n s met below at was)
          (λ here. here.1 ∙ ap (λ (u : Name × Step). (walk_at facts place inputs env u).met) (same_at steps m t s inside here_is (subst (λ (k : ℕ). s ≡ get_or steps k s) here.0 at))) (one.right n met is);
      within = λ n. by n (get nat_cmp new n) refl;
    }
      where
        by : (n : ℕ) (slot : Option (List KeptMet)) → get nat_cmp new n ≡ slot → is_some slot ≡ true → n < length steps
        by n None is some = absurd (not_so some)
        by n (Some met) is some = ⊎_elim (λ was. right.within n (ap is_some was)) (λ here. subst (λ (k : ℕ). k < length steps) (sym here.0) inside) (one.right n met is)

    pub hearing_one : (rest : List ℕ) → Hearing under (λ n s. stands_in n (m ∷ rest)) old cur → Hearing under (λ n s. stands_in n rest) old new
    hearing_one rest hearing = record {
      right = right_now hearing.right;
      stays = λ n some. one.stays n (hearing.stays n some);
      all = λ n s below at is. ⊎_elim (λ walked. inl walked) (λ others. ⊎_elim (λ heard. inr (inl (one.stays n heard))) (λ more. by n s at (m == n) refl more) others) (hearing.all n s below at is);
    }
      where
        by : (n : ℕ) (s : Name × Step) → s ≡ get_or steps n s → (b : Bool) → (m == n) ≡ b → ((m == n) || stands_in n rest) ≡ true
            → (is_some (value_at s.0 env) ≡ true) ⊎ ((is_some (get nat_cmp new n) ≡ true) ⊎ (stands_in n rest ≡ true))
        by n s at true same more =
            let number : m ≡ n = eqb-true m n same in
            let step : t ≡ s = same_at steps m t s inside here_is (subst (λ (k : ℕ). s ≡ get_or steps k s) (sym number) at) in
            ⊎_elim (λ walked. inl (ap (λ (u : Name × Step). is_some (value_at u.0 env)) (sym step) ∙ walked)) (λ heard. inr (inl (ap (λ (k : ℕ). is_some (get nat_cmp new k)) (sym number) ∙ heard))) one.heard
        by n s at false other more = inr (inr (sym (ap (λ (b : Bool). b || stands_in n rest) other) ∙ more))

  -- the readers of one step more
  pub hearing_readers : (readers : Readers) → IsTableOf readers steps → (under : ℕ → Name × Step → Bool) (old cur new : Kept) (id : Name) (rest : List Name)
      → Hears facts place inputs steps env (λ n s. stands_in n (row_of id readers.rows)) cur new → Hearing under (λ n s. reads_one (id ∷ rest) s.1) old cur → Hearing under (λ n s. reads_one rest s.1) old new
  hearing_readers readers table under old cur new id rest hears hearing = record {
    right = hears.right;
    stays = λ n some. hears.stays n (hearing.stays n some);
    all = λ n s below at is. ⊎_elim (λ walked. inl walked) (λ others. ⊎_elim (λ heard. inr (inl (hears.stays n heard))) (λ more. by n s below at (reads id s.1) refl more) others) (hearing.all n s below at is);
  }
    where
      by : (n : ℕ) (s : Name × Step) → n < length steps → s ≡ get_or steps n s → (b : Bool) → reads id s.1 ≡ b → (reads id s.1 || reads_one rest s.1) ≡ true
          → (is_some (value_at s.0 env) ≡ true) ⊎ ((is_some (get nat_cmp new n) ≡ true) ⊎ (reads_one rest s.1 ≡ true))
      by n s below at true is more = ⊎_elim (λ walked. inl walked) (λ heard. inr (inl heard)) (hears.all n s below at (table.whole id n s below at is))
      by n s below at false is more = inr (inr (sym (ap (λ (b : Bool). b || reads_one rest s.1) is) ∙ more))

  -- ---- in the order of the document

  -- what a step meets is there, or was met before
  abbrev Fits : List Met → Name × Step → Option (List KeptMet) → Type 0
  Fits old s None = (m : Met) → IsIn m (walk_at facts place inputs env s).met → IsIn m old
  Fits old s (Some met) = map met_of met ≡ (walk_at facts place inputs env s).met

  abbrev slot : List (ℕ × List KeptMet) → ℕ → Option (List KeptMet)
  slot es n = lookup (is_at (nat_cmp n)) es

  abbrev all_in : List (ℕ × List KeptMet) → List Met
  all_in es = flat_map (λ (e : ℕ × List KeptMet). map met_of e.1) es

  abbrev pub all_met : List (Name × Step) → List Met
  all_met some = flat_map (λ s. (step_walk place inputs env s).met) (steps_of facts some)

  abbrev From : ℕ → List (ℕ × List KeptMet) → Type 0
  From i [] = Unit {0}
  From i (e ∷ es) = (i ≤ e.0) × From (suc e.0) es

  from_sorted : (e : ℕ × List KeptMet) (es : List (ℕ × List KeptMet)) → IsStrictlySortedBy nat_cmp (keys_of (e ∷ es)) → From e.0 (e ∷ es)
  from_sorted e [] sorted = (omega arith, tt)
  from_sorted e (f ∷ fs) sorted =
      let next : e.0 < f.0 = below_from_sorted (e.0 ∷ f.0 ∷ keys_of fs) 0 1 0 sorted (omega arith) (omega arith) in
      (omega arith, (next, (from_sorted f fs (sorted_tail nat_cmp e.0 (f.0 ∷ keys_of fs) sorted)).1))

  from_first : (es : List (ℕ × List KeptMet)) → IsStrictlySortedBy nat_cmp (keys_of es) → From 0 es
  from_first [] sorted = tt
  from_first (e ∷ es) sorted = (omega arith, (from_sorted e es sorted).1)

  not_at : (n m : ℕ) → (n ≡ m → ⊥) → is_at (nat_cmp n) m ≡ false
  not_at n m other = by (is_eq (nat_cmp n m)) refl
    where
      by : (b : Bool) → is_eq (nat_cmp n m) ≡ b → is_eq (nat_cmp n m) ≡ false
      by true is = absurd (other (exact_unsigned n m (is_equal (nat_cmp n m) is)))
      by false is = is

  past : (e : ℕ × List KeptMet) (es : List (ℕ × List KeptMet)) (n : ℕ) → (n ≡ e.0 → ⊥) → slot (e ∷ es) n ≡ slot es n
  past e es n other = ap (λ (b : Bool). cond b (Some e.1) (slot es n)) (not_at n e.0 other)

  none_below : (es : List (ℕ × List KeptMet)) (i n : ℕ) → n < i → From i es → slot es n ≡ None
  none_below [] i n less from = refl
  none_below (e ∷ es) i n less from =
      let apart : (n ≡ e.0 → ⊥) = λ same. omega (arith, same, less, from.0) in
      let before : n < suc e.0 = omega (arith, less, from.0) in
      past e es n apart ∙ none_below es (suc e.0) n before from.1

  at_itself : (e : ℕ × List KeptMet) (es : List (ℕ × List KeptMet)) (n : ℕ) → e.0 ≡ n → slot (e ∷ es) n ≡ Some e.1
  at_itself e es n same = ap (λ (b : Bool). cond b (Some e.1) (slot es n)) (ap (λ (k : ℕ). is_eq (nat_cmp n k)) same ∙ itself n)

  some_more : (e : ℕ × List KeptMet) (es : List (ℕ × List KeptMet)) (n : ℕ) → is_some (slot es n) ≡ true → is_some (slot (e ∷ es) n) ≡ true
  some_more e es n some = by (is_at (nat_cmp n) e.0)
    where
      by : (b : Bool) → is_some (cond b (Some e.1) (slot es n)) ≡ true
      by true = refl
      by false = some

  leaves_from : (old : List Met) (some : List (Name × Step)) (es : List (ℕ × List KeptMet)) (i : ℕ) → From i es
      → ((n : ℕ) (s : Name × Step) → n < length some → s ≡ get_or some n s → Fits old s (slot es (i + n))) → ((n : ℕ) → is_some (slot es n) ≡ true → n < i + length some)
      → LeavesOut old (all_in es) (all_met some)
  leaves_from old [] [] i from fits within = leaves_nothing
  leaves_from old [] (e ∷ es) i from fits within =
      let less : e.0 < i + 0 = within e.0 (ap is_some (at_itself e es e.0 refl)) in absurd (omega (arith, less, from.0))
  leaves_from old (s ∷ ss) [] i from fits within =
      leaves_append old [] (walk_at facts place inputs env s).met [] (all_met ss) (leaves_all old (walk_at facts place inputs env s).met (fits 0 s (omega arith) refl))
      (leaves_from old ss [] (suc i) tt (λ n u below at. fits (suc n) u (omega (arith, below)) at) (λ n none. absurd (not_so none)))
  leaves_from old (s ∷ ss) (e ∷ es) i from fits within = by (e.0 == i) refl (leaves_from old ss)
    where
      further : (n : ℕ) → i + suc n ≡ suc i + n
      further n = omega arith

      by : (b : Bool) → (e.0 == i) ≡ b
          → ((es : List (ℕ × List KeptMet)) (i : ℕ) → From i es
          → ((n : ℕ) (s : Name × Step) → n < length ss → s ≡ get_or ss n s → Fits old s (slot es (i + n))) → ((n : ℕ) → is_some (slot es n) ≡ true → n < i + length ss)
          → LeavesOut old (all_in es) (all_met ss))
          → LeavesOut old (all_in (e ∷ es)) (all_met (s ∷ ss))
      by true is rest =
          let same : e.0 ≡ i = eqb-true e.0 i is in
          let here : e.0 ≡ i + 0 = omega (arith, same) in
          let met : map met_of e.1 ≡ (walk_at facts place inputs env s).met = subst (Fits old s) (at_itself e es (i + 0) here) (fits 0 s (omega arith) refl) in
          leaves_append old (map met_of e.1) (walk_at facts place inputs env s).met (all_in es) (all_met ss)
          (subst (LeavesOut old (map met_of e.1)) met (leaves_itself old (map met_of e.1)))
          (rest es (suc i) (subst (λ (k : ℕ). From (suc k) es) same from.1)
          (λ n u below at.
          let apart : (i + suc n ≡ e.0 → ⊥) = λ equal. omega (arith, equal, same) in
          subst (λ (k : ℕ). Fits old u (slot es k)) (further n) (subst (Fits old u) (past e es (i + suc n) apart) (fits (suc n) u (omega (arith, below)) at)))
          (λ n some. let less : n < i + suc (length ss) = within n (some_more e es n some) in omega (arith, less)))
      by false other rest =
          let more : suc i ≤ e.0 = omega (arith, from.0, λ (same : e.0 ≡ i). eqb-false e.0 i other same) in
          let none : slot (e ∷ es) (i + 0) ≡ None = none_below (e ∷ es) (suc i) (i + 0) (omega arith) (more, from.1) in
          leaves_append old [] (walk_at facts place inputs env s).met (all_in (e ∷ es)) (all_met ss)
          (leaves_all old (walk_at facts place inputs env s).met (subst (Fits old s) none (fits 0 s (omega arith) refl)))
          (rest (e ∷ es) (suc i) (more, from.1)
          (λ n u below at. subst (λ (k : ℕ). Fits old u (slot (e ∷ es) k)) (further n) (fits (suc n) u (omega (arith, below)) at))
          (λ n some. let less : n < i + suc (length ss) = within n some in omega (arith, less)))

  -- what was met before may be left out
  module _ (changed : List Name) (old : List Met) (first last : Kept) (kept : AreKept changed steps first) (hears : Hears facts place inputs steps env (λ n s. reads_one changed s.1) first last)
      (was : WasMet facts place inputs steps old env changed) where
    not_changed : (n : ℕ) (s : Name × Step) → get nat_cmp last n ≡ None → (slot : Option (List KeptMet)) → get nat_cmp first n ≡ slot → IsKept changed s slot → list_any (bytes_eq s.0) changed ≡ false
    not_changed n s none None is kept = kept
    not_changed n s none (Some met) is kept = absurd (not_so (sym (ap is_some none) ∙ hears.stays n (ap is_some is)))

    as_before : (n : ℕ) (s : Name × Step) → n < length steps → s ≡ get_or steps n s → get nat_cmp last n ≡ None → (b : Bool) → reads_one changed s.1 ≡ b → (not b || is_some (value_at s.0 env)) ≡ true
    as_before n s below at none true is = ⊎_elim (λ walked. walked) (λ heard. absurd (not_so (sym (ap is_some none) ∙ heard))) (hears.all n s below at is)
    as_before n s below at none false is = refl

    fits : (n : ℕ) (s : Name × Step) → n < length steps → s ≡ get_or steps n s → (slot : Option (List KeptMet)) → get nat_cmp last n ≡ slot → Fits old s slot
    fits n s below at None is = was s (is_element steps n s below at) (not_changed n s is (get nat_cmp first n) refl (kept n s below at))
        (as_before n s below at is (reads_one changed s.1) refl)
    fits n s below at (Some met) is = hears.right.right n s met below at is

    pub heard_all : IsOrdered nat_cmp last → LeavesOut old (all_in last.entries) (all_met steps)
    heard_all order = leaves_from old steps last.entries 0 (from_first last.entries order) (λ n s below at. let same : n ≡ 0 + n = omega arith in subst (λ (k : ℕ). Fits old s (slot last.entries k)) same (fits n s below at (get nat_cmp last n) refl))
        (λ n some. let less : n < length steps = hears.right.within n some in omega (arith, less))

  pub right_first : (kept : Kept) → HoldsAt facts place inputs steps env kept → AreRight facts place inputs steps env kept
  right_first kept holds = record { right = λ n s met below at is. (subst (MeetsBy facts place inputs env s) is (holds.met n s below at)).1; within = holds.within }

-- Steps that are walked one after another, and those that read them.
use Rattle.std.proofs.Common.{◌≡◌, ◌∙◌, inl, inr, ℕ, zero, suc, ◌+◌, ◌<◌, List, [], ◌∷◌, ◌++◌, get_or, length, replicate, take, Bool, true, false, cond, drop, not, Option, Some, None, bytes_eq, refl, sym, ap, ap₂, subst, arith}
use Rattle.std.specs.Prelude.{◌&&◌, ◌||◌, ◌==◌, is_some}
use Rattle.std.specs.BTreeMap.{BTreeMap, IsEmpty, Updates, get, is_at}
use Rattle.std.specs.List.{list_all, list_any}
use Rattle.std.specs.Map.{keys_of, lookup}
use Rattle.std.specs.Ordering.{is_eq, nat_cmp}
use Rattle.std.proofs.lemmas.Bool.{eq-eqb, eqb-false, eqb-true}
use Rattle.std.proofs.Math.Seq.{drop-cons}
use Rattle.std.proofs.lemmas.List.{take_more}
use Rattle.std.proofs.lemmas.List.Folds.{list_any-append}
use Rattle.std.proofs.lemmas.Map.Lookups.{exact_unsigned}
use Rattle.std.proofs.lemmas.Slice.Eq.{bytes_eq-Decides}
use Rattle.document_links.specs.declared.process.Step.{Step}
use Rattle.plain_data.specs.ByName.{value_at, with_value}
use Rattle.job_graph.specs.inner.Elements.{IsIn, stands_in}
use Rattle.job_graph.specs.Apart.{differ}
use Rattle.job_graph.specs.Words.{Name, Fields, JobPlace}
use Rattle.job_graph.specs.Jobs.{Outs}
use Rattle.job_graph.specs.Links.{Env}
use Rattle.job_graph.specs.declared.made.Facts.{Facts}
use Rattle.job_graph.specs.declared.readers.Readers.{Readers}
use Rattle.job_graph.specs.declared.waiting.Going.{Going}
use Rattle.job_graph.specs.declared.walk.Met.{Met as KeptMet}
use Rattle.job_graph.specs.inner.Going.{AreKept, Goes, HasAbove, HoldsAt, IsKept, SameBut, WalksOne}
use Rattle.job_graph.specs.inner.Rounds.{EnvGrows, Holds, MeetsBy, is_ready, is_stuck, walk_at}
use Rattle.job_graph.specs.inner.Views.{made_from}
use Rattle.job_graph.proofs.Index.{is_equal, itself}
use Rattle.job_graph.proofs.laws_of_walks.Part.{and_left, and_right, neither_one, neither_other}
use Rattle.job_graph.proofs.laws_of_walks.Reads.{same_but_one}
use Rattle.job_graph.proofs.laws_of_walks.Settled.{grows, grows_on, holds_then, meets_on, none_meet, ready_stays}

-- ---- lists

-- an element has a number
pub number_in : {X : Type 0} (x : X) (xs : List X) → IsIn x xs → (n : ℕ) × ((n < length xs) × (x ≡ get_or xs n x))
number_in x [] at = absurd at
number_in x (y ∷ ys) (inl here) = (0, (omega arith, here))
number_in x (y ∷ ys) (inr later) = let found : (n : ℕ) × ((n < length ys) × (x ≡ get_or ys n x)) = number_in x ys later in (suc found.0, (omega (arith, found.1.0), found.1.1))

pub same_at : {X : Type 0} (xs : List X) (n : ℕ) (s t : X) → n < length xs → s ≡ get_or xs n s → t ≡ get_or xs n t → s ≡ t
same_at [] n s t below one other = absurd (omega (arith, below))
same_at (u ∷ us) zero s t below one other = one ∙ sym other
same_at (u ∷ us) (suc n) s t below one other = let less : n < length us = omega (arith, below) in same_at us n s t less one other

pub all_true : {X : Type 0} (p : X → Bool) (xs : List X) → ((x : X) → IsIn x xs → p x ≡ true) → list_all p xs ≡ true
all_true p [] all = refl
all_true p (x ∷ xs) all = ap₂ (λ (a b : Bool). a && b) (all x (inl refl)) (all_true p xs (λ y at. all y (inr at)))

pub front_more : {X : Type 0} (xs : List X) (i : ℕ) (x : X) → i < length xs → x ≡ get_or xs i x → take (i + 1) xs ≡ take i xs ++ x ∷ []
front_more xs i x below is = take_more xs i x below ∙ ap (λ y. take i xs ++ y ∷ []) (sym is)

pub any_more : {X : Type 0} (p : X → Bool) (xs : List X) (x : X) → list_any p xs ≡ true → list_any p (xs ++ x ∷ []) ≡ true
any_more p xs x is = list_any-append p xs (x ∷ []) ∙ ap (λ (b : Bool). b || list_any p (x ∷ [])) is

pub or_true : (a b : Bool) → b ≡ true → (a || b) ≡ true
or_true true b is = refl
or_true false b is = is

pub any_last : {X : Type 0} (p : X → Bool) (xs : List X) (x : X) → p x ≡ true → list_any p (xs ++ x ∷ []) ≡ true
any_last p xs x is = list_any-append p xs (x ∷ []) ∙ or_true (list_any p xs) (list_any p (x ∷ [])) (ap (λ (b : Bool). b || false) is)

-- the last one, first
pub any_turned : {X : Type 0} (p : X → Bool) (xs : List X) (x : X) → list_any p (xs ++ x ∷ []) ≡ true → list_any p (x ∷ xs) ≡ true
any_turned p xs x is = by (list_any p xs) (p x) (sym (list_any-append p xs (x ∷ [])) ∙ is)
  where
    by : (a b : Bool) → (a || (b || false)) ≡ true → (b || a) ≡ true
    by a true is = refl
    by true false is = refl
    by false false is = absurd cc

pub turned : (a b : Name) → bytes_eq a b ≡ false → bytes_eq b a ≡ false
turned a b is = by (bytes_eq b a) refl
  where
    by : (c : Bool) → bytes_eq b a ≡ c → bytes_eq b a ≡ false
    by true same = let both : false ≡ true = sym is ∙ (bytes_eq-Decides a b).1 (sym ((bytes_eq-Decides b a).0 same)) in absurd cc
    by false same = same

not_true : (b : Bool) → not b ≡ true → b ≡ false
not_true true is = absurd cc
not_true false is = refl

-- ---- what is kept of steps whose outputs changed

kept_one : (changed : List Name) (id : Name) (s : Name × Step) (met : Option (List KeptMet)) → bytes_eq s.0 id ≡ false → IsKept changed s met → IsKept (changed ++ id ∷ []) s met
kept_one changed id s None apart kept = list_any-append (bytes_eq s.0) changed (id ∷ []) ∙ ap₂ (λ (a b : Bool). a || b) kept (ap (λ (b : Bool). b || false) apart)
kept_one changed id s (Some met) apart kept = tt

-- two numbers of one id are one number
has_first : (id : Name) (some : List (Name × Step)) (n : ℕ) (t : Name × Step) → n < length some → t ≡ get_or some n t → bytes_eq id t.0 ≡ true → list_any (bytes_eq id) (keys_of some) ≡ true
has_first id [] n t below is same = absurd (omega (arith, below))
has_first id (s ∷ ss) zero t below is same = ap (λ (u : Name × Step). bytes_eq id u.0 || list_any (bytes_eq id) (keys_of ss)) (sym is) ∙ ap (λ (b : Bool). b || list_any (bytes_eq id) (keys_of ss)) same
has_first id (s ∷ ss) (suc n) t below is same =
    let less : n < length ss = omega (arith, below) in or_true (bytes_eq id s.0) (list_any (bytes_eq id) (keys_of ss)) (has_first id ss n t less is same)

none_there : (b : Bool) → not b ≡ true → b ≡ true → ⊥
none_there true one other = absurd cc
none_there false one other = absurd cc

pub one_number : (some : List (Name × Step)) → differ (keys_of some) ≡ true → (n m : ℕ) (s t : Name × Step) → n < length some → s ≡ get_or some n s → m < length some → t ≡ get_or some m t
    → bytes_eq s.0 t.0 ≡ true → n ≡ m
one_number [] apart n m s t below at within there same = absurd (omega (arith, below))
one_number (u ∷ us) apart zero zero s t below at within there same = refl
one_number (u ∷ us) apart zero (suc m) s t below at within there same =
    let less : m < length us = omega (arith, within) in
    absurd (none_there (list_any (bytes_eq u.0) (keys_of us)) (and_left (not (list_any (bytes_eq u.0) (keys_of us))) (differ (keys_of us)) apart)
    (has_first u.0 us m t less there (ap (λ (v : Name × Step). bytes_eq v.0 t.0) (sym at) ∙ same)))
one_number (u ∷ us) apart (suc n) zero s t below at within there same =
    let less : n < length us = omega (arith, below) in
    absurd (none_there (list_any (bytes_eq u.0) (keys_of us)) (and_left (not (list_any (bytes_eq u.0) (keys_of us))) (differ (keys_of us)) apart)
    (has_first u.0 us n s less at (ap (λ (v : Name × Step). bytes_eq v.0 s.0) (sym there) ∙ (bytes_eq-Decides t.0 s.0).1 (sym ((bytes_eq-Decides s.0 t.0).0 same)))))
one_number (u ∷ us) apart (suc n) (suc m) s t below at within there same =
    let less : n < length us = omega (arith, below) in
    let fits : m < length us = omega (arith, within) in
    ap suc (one_number us (and_right (not (list_any (bytes_eq u.0) (keys_of us))) (differ (keys_of us)) apart) n m s t less at fits there same)

-- what is there once one more is put
module _ (old new : BTreeMap ℕ (List KeptMet)) (n : ℕ) (met : List KeptMet) (put : Updates nat_cmp old new n (Some met)) where
  pub here_now : (m : ℕ) → n ≡ m → get nat_cmp new m ≡ Some met
  here_now m same = put.0 m ∙ ap (λ (b : Bool). cond b (Some met) (get nat_cmp old m)) (ap (λ (k : ℕ). is_eq (nat_cmp n k)) (sym same) ∙ itself n)

  pub there_still : (m : ℕ) → (n ≡ m → ⊥) → get nat_cmp new m ≡ get nat_cmp old m
  there_still m other = put.0 m ∙ ap (λ (b : Bool). cond b (Some met) (get nat_cmp old m)) (by (is_eq (nat_cmp n m)) refl)
    where
      by : (b : Bool) → is_eq (nat_cmp n m) ≡ b → is_eq (nat_cmp n m) ≡ false
      by true is = absurd (other (exact_unsigned n m (is_equal (nat_cmp n m) is)))
      by false is = is

  -- at each number
  pub put_each : (P : ℕ → Option (List KeptMet) → Type 0) → P n (Some met) → (m : ℕ) → ((n ≡ m → ⊥) → P m (get nat_cmp old m)) → P m (get nat_cmp new m)
  put_each P here m there = by (n == m) refl
    where
      by : (b : Bool) → (n == m) ≡ b → P m (get nat_cmp new m)
      by true is = let same : n ≡ m = eqb-true n m is in subst (P m) (sym (here_now m same)) (subst (λ (k : ℕ). P k (Some met)) same here)
      by false is = subst (P m) (sym (there_still m (eqb-false n m is))) (there (eqb-false n m is))

pub kept_put : (changed : List Name) (steps : List (Name × Step)) → differ (keys_of steps) ≡ true → (old new : BTreeMap ℕ (List KeptMet)) (n : ℕ) (t : Name × Step) (met : List KeptMet)
    → Updates nat_cmp old new n (Some met) → n < length steps → t ≡ get_or steps n t → AreKept changed steps old → AreKept (changed ++ t.0 ∷ []) steps new
kept_put changed steps apart old new n t met put inside is kept = λ m s below at.
    put_each old new n met put (λ (k : ℕ) (slot : Option (List KeptMet)). IsKept (changed ++ t.0 ∷ []) s slot) tt m
    (λ other. kept_one changed t.0 s (get nat_cmp old m) (by m s below at other (bytes_eq s.0 t.0) refl) (kept m s below at))
  where
    by : (m : ℕ) (s : Name × Step) → m < length steps → s ≡ get_or steps m s → (n ≡ m → ⊥) → (b : Bool) → bytes_eq s.0 t.0 ≡ b → bytes_eq s.0 t.0 ≡ false
    by m s below at other true same = absurd (other (sym (one_number steps apart m n s t below at inside is same)))
    by m s below at other false same = same

pub nothing_at : (kept : BTreeMap ℕ (List KeptMet)) → IsEmpty kept → (n : ℕ) → get nat_cmp kept n ≡ None
nothing_at kept none n = ap (lookup (is_at (nat_cmp n))) none

-- nothing is kept of steps none of which changed
pub nothing_kept : (steps : List (Name × Step)) (kept : BTreeMap ℕ (List KeptMet)) → IsEmpty kept → AreKept [] steps kept
nothing_kept steps kept none = λ n s below at. subst (IsKept [] s) (sym (nothing_at kept none n)) refl

-- ---- steps are walked

-- a step that is not stuck has its inputs
free_ready : (walked ready : Bool) → (walked || not ready) ≡ false → ready ≡ true
free_ready true ready free = absurd cc
free_ready false true free = refl
free_ready false false free = absurd cc

module _ (facts : Facts) (place : JobPlace) (inputs : Fields) (steps : List (Name × Step)) (apart : differ (keys_of steps) ≡ true) where
  module _ (readers : Readers) (old : Env) (cur new : Going) (goes : Goes facts place inputs steps old cur) (n : ℕ) (t : Name × Step) (inside : n < length steps) (here_is : t ≡ get_or steps n t)
      (free : is_stuck cur.env t ≡ false) (one : WalksOne facts place inputs readers t n cur new) where
    abbrev outs : Outs
    outs = (walk_at facts place inputs cur.env t).outs

    -- as `Settled` has it
    abbrev none : List (Option (List KeptMet))
    none = replicate (length steps) None

    as_held : Holds facts place inputs steps cur.env none
    as_held = record { keeps = goes.holds.keeps; met = none_meet facts place inputs steps cur.env steps }

    pub grown_one : EnvGrows cur.env (with_value t.0 (walk_at facts place inputs cur.env t).outs cur.env)
    grown_one = grows facts place inputs steps apart cur.env none n t inside here_is free as_held

    ready_one : is_ready (with_value t.0 outs cur.env) t.1 ≡ true
    ready_one = ready_stays facts.measures (made_from facts) place inputs cur.env (with_value t.0 outs cur.env) grown_one t (free_ready (is_some (value_at t.0 cur.env)) (is_ready cur.env t.1) free)

    abbrev later : Env
    later = with_value t.0 outs cur.env

    met_now : (m : ℕ) (s : Name × Step) → m < length steps → s ≡ get_or steps m s → MeetsBy facts place inputs later s (get nat_cmp new.met m)
    met_now m s below at =
        put_each cur.met new.met n one.met one.kept (λ (k : ℕ) (slot : Option (List KeptMet)). (u : Name × Step) → k < length steps → u ≡ get_or steps k u → MeetsBy facts place inputs later u slot)
        (λ u within there. subst (λ (v : Name × Step). MeetsBy facts place inputs later v (Some one.met)) (same_at steps n t u inside here_is there) (meets_on facts place inputs steps cur.env later grown_one t (Some one.met) (free_ready (is_some (value_at t.0 cur.env)) (is_ready cur.env t.1) free, one.is)))
        m (λ other u within there. meets_on facts place inputs steps cur.env later grown_one u (get nat_cmp cur.met m) (goes.holds.met m u within there)) s below at

    within_now : (m : ℕ) → is_some (get nat_cmp new.met m) ≡ true → m < length steps
    within_now m =
        put_each cur.met new.met n one.met one.kept (λ (k : ℕ) (slot : Option (List KeptMet)). is_some slot ≡ true → k < length steps) (λ some. inside) m (λ other. goes.holds.within m)

    holds_now : HoldsAt facts place inputs steps new.env new.met
    holds_now =
        subst (λ (env : Env). HoldsAt facts place inputs steps env new.met) (sym one.env)
        (record { keeps = (holds_then facts place inputs steps apart cur.env none n t inside here_is free as_held one.met one.is).keeps; met = met_now; within = within_now })

    same_now : SameBut new.changed old new.env
    same_now = λ id none.
        let parts : (list_any (bytes_eq id) cur.changed || (bytes_eq id t.0 || false)) ≡ false =
        sym (ap (list_any (bytes_eq id)) one.changed ∙ list_any-append (bytes_eq id) cur.changed (t.0 ∷ [])) ∙ none in
        ap (value_at id) one.env
        ∙ same_but_one t.0 outs cur.env id (neither_other (list_any (bytes_eq id) cur.changed) (bytes_eq id t.0 || false) parts)
        ∙ goes.same id (neither_one (list_any (bytes_eq id) cur.changed) (bytes_eq id t.0 || false) parts)

    pub goes_more : Goes facts place inputs steps old new
    goes_more = record {
      holds = holds_now;
      grown = grows_on facts place inputs steps old cur.env new.env goes.grown (subst (EnvGrows cur.env) (sym one.env) grown_one);
      same = same_now;
      slots = subst (λ (ids : List Name). AreKept ids steps new.met) (sym one.changed) (kept_put cur.changed steps apart cur.met new.met n t one.met one.kept inside here_is goes.slots);
    }

    -- what was changed is among what is changed
    pub above_more : (ended : JobPlace) → HasAbove ended old steps cur.changed → HasAbove ended old steps new.changed
    above_more ended above = λ s among goes some. ap (list_any (bytes_eq s.0)) one.changed ∙ any_more (bytes_eq s.0) cur.changed t.0 (above s among goes some)

-- ---- numbers in a row

pub stands_at : (row : List ℕ) (i : ℕ) → i < length row → stands_in (get_or row i 0) row ≡ true
stands_at [] i below = absurd (omega (arith, below))
stands_at (n ∷ ns) zero below = ap (λ (b : Bool). b || stands_in n ns) (eq-eqb n n refl)
stands_at (n ∷ ns) (suc i) below = let less : i < length ns = omega (arith, below) in or_true (n == get_or ns i 0) (stands_in (get_or ns i 0) ns) (stands_at ns i less)

pub drop_next : {X : Type 0} (xs : List X) (i : ℕ) (x : X) → i < length xs → drop i xs ≡ get_or xs i x ∷ drop (i + 1) xs
drop_next xs i x below = let next : suc i ≡ i + 1 = omega arith in drop-cons xs i x below ∙ ap (λ (n : ℕ). get_or xs i x ∷ drop n xs) next

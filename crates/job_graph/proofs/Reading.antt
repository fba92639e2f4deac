-- How the table of a workflow's steps is made, one step after another.
use Rattle.std.proofs.Common.{◌≡◌, ◌∙◌, ℕ, zero, suc, ◌+◌, ◌<◌, List, [], ◌∷◌, ◌++◌, get_or, length, take, Bool, true, false, cond, Option, Some, None, unwrap_or, bytes_eq, refl, sym, ap, ap₂, subst, arith}
use Rattle.std.specs.Prelude.{◌||◌, ◌&&◌, ◌==◌, MatchOption}
use Rattle.std.specs.List.{list_any}
use Rattle.std.proofs.lemmas.Bool.{eqb-true, eqb-false}
use Rattle.std.proofs.Math.Dec.{eqb-suc-suc, eqb-suc-zero, eqb-zero-suc}
use Rattle.std.proofs.Math.Seq.{take-length}
use Rattle.std.proofs.lemmas.List.{length-map, map-append}
use Rattle.std.proofs.lemmas.List.Folds.{list_any-append}
use Rattle.std.proofs.lemmas.Slice.Eq.{bytes_eq-Decides}
use Rattle.document_links.specs.declared.process.Step.{Step, out-Step}
use Rattle.plain_data.specs.ByName.{value_at, with_value}
use Rattle.plain_data.proofs.Lookup.{value_at-with_value}
use Rattle.job_graph.specs.Words.{Name}
use Rattle.job_graph.specs.declared.readers.Readers.{Readers}
use Rattle.job_graph.specs.inner.Elements.{stands_in}
use Rattle.job_graph.specs.inner.Going.{reads}
use Rattle.job_graph.specs.inner.Readers.{IsTableOf, Notes, row_of, stands}
use Rattle.job_graph.specs.declared.readers.Awaited.{Awaited}
use Rattle.job_graph.specs.inner.Counts.{Awaits, awaited_of, each_by, is_output, sources_by, waits_for}
use Rattle.job_graph.proofs.GoingOn.{front_more, or_true, same_at, turned}

-- ---- one number more under an id

both_true : (a b : Bool) → b ≡ true → (a || false) ≡ (a && b)
both_true true b is = sym is
both_true false b is = refl

not_other : (a b c : Bool) → c ≡ false → a ≡ (a || (b && c))
not_other true b c none = refl
not_other false true c none = sym none
not_other false false c none = refl

-- under the id stands what stood there, and the number
pub noted : (rows between later : List (Name × List ℕ)) (id : Name) (number : ℕ) (row : List ℕ) → between ≡ with_value id [] rows → row ≡ unwrap_or (value_at id rows) [] ++ number ∷ [] → later ≡ with_value id row between
    → Notes number (bytes_eq id) rows later
noted rows between later id number row first made last = λ m other. by m other (bytes_eq other id) refl
  where
    now : (other : Name) → value_at other later ≡ cond (bytes_eq other id) (Some row) (value_at other between)
    now other = ap (value_at other) last ∙ value_at-with_value other id row between

    was : (other : Name) → value_at other between ≡ cond (bytes_eq other id) (Some []) (value_at other rows)
    was other = ap (value_at other) first ∙ value_at-with_value other id [] rows

    standing : ℕ → Option (List ℕ) → Bool
    standing m found = stands_in m (unwrap_or found [])

    by : (m : ℕ) (other : Name) (b : Bool) → bytes_eq other id ≡ b → stands m other later ≡ (stands m other rows || (number == m && bytes_eq id other))
    by m other true is =
        let same : other ≡ id = (bytes_eq-Decides other id).0 is in
        ap (standing m) (now other ∙ ap (λ (b : Bool). cond b (Some row) (value_at other between)) is)
        ∙ ap (stands_in m) made
        ∙ list_any-append (λ (n : ℕ). n == m) (row_of id rows) (number ∷ [])
        ∙ ap₂ (λ (a b : Bool). a || b) (ap (λ (name : Name). stands m name rows) (sym same)) (both_true (number == m) (bytes_eq id other) ((bytes_eq-Decides id other).1 (sym same)))
    by m other false is =
        ap (standing m) (now other ∙ ap (λ (b : Bool). cond b (Some row) (value_at other between)) is ∙ was other ∙ ap (λ (b : Bool). cond b (Some []) (value_at other rows)) is)
        ∙ not_other (stands m other rows) (number == m) (bytes_eq id other) (turned other id is)

-- ---- one number more with an output

-- under the id of a step
pub awaits_under : (awaited between later : List (Name × List Awaited)) (id name : Name) (number : ℕ) (outputs : List Awaited) → between ≡ with_value id [] awaited
    → ((test : Name → Bool) (m : ℕ) → waits_for test m outputs ≡ waits_for test m (unwrap_or (value_at id awaited) []) + cond (number == m && test name) 1 0)
    → later ≡ with_value id outputs between → Awaits number (λ other test. cond (bytes_eq id other && test name) 1 0) awaited later
awaits_under awaited between later id name number outputs first made last = λ other test m. by other test m (bytes_eq other id) refl
  where
    now : (other : Name) → value_at other later ≡ cond (bytes_eq other id) (Some outputs) (value_at other between)
    now other = ap (value_at other) last ∙ value_at-with_value other id outputs between

    was : (other : Name) → value_at other between ≡ cond (bytes_eq other id) (Some []) (value_at other awaited)
    was other = ap (value_at other) first ∙ value_at-with_value other id [] awaited

    waiting : (Name → Bool) → ℕ → Option (List Awaited) → ℕ
    waiting test m found = waits_for test m (unwrap_or found [])

    flag : Bool → ℕ
    flag b = cond b 1 0

    joined : (a b : Bool) → flag (a && b) ≡ cond a (flag (true && b)) 0
    joined true b = refl
    joined false b = refl

    apart : (a : Bool) (n : ℕ) → n ≡ n + cond a 0 0
    apart true n = omega arith
    apart false n = omega arith

    by : (other : Name) (test : Name → Bool) (m : ℕ) (b : Bool) → bytes_eq other id ≡ b
        → waits_for test m (awaited_of other later) ≡ waits_for test m (awaited_of other awaited) + cond (number == m) (cond (bytes_eq id other && test name) 1 0) 0
    by other test m true is =
        let same : other ≡ id = (bytes_eq-Decides other id).0 is in
        ap (waiting test m) (now other ∙ ap (λ (b : Bool). cond b (Some outputs) (value_at other between)) is)
        ∙ made test m
        ∙ ap₂ (λ (a b : ℕ). a + b) (ap (λ (k : Name). waits_for test m (awaited_of k awaited)) (sym same))
        (joined (number == m) (test name) ∙ ap (λ (b : Bool). cond (number == m) (cond (b && test name) 1 0) 0) (sym ((bytes_eq-Decides id other).1 (sym same))))
    by other test m false is =
        ap (waiting test m) (now other ∙ ap (λ (b : Bool). cond b (Some outputs) (value_at other between)) is ∙ was other ∙ ap (λ (b : Bool). cond b (Some []) (value_at other awaited)) is)
        ∙ apart (number == m) (waits_for test m (awaited_of other awaited))
        ∙ ap (λ (b : Bool). waits_for test m (awaited_of other awaited) + cond (number == m) (cond (b && test name) 1 0) 0) (sym (turned other id is))

pub awaits_none : (number : ℕ) (more : Name → (Name → Bool) → ℕ) (awaited : List (Name × List Awaited)) → ((id : Name) (test : Name → Bool) → more id test ≡ 0) → Awaits number more awaited awaited
awaits_none number more awaited none id test m = by (number == m) (more id test) (none id test)
  where
    by : (b : Bool) (n : ℕ) → n ≡ 0 → waits_for test m (awaited_of id awaited) ≡ waits_for test m (awaited_of id awaited) + cond b n 0
    by true n none = omega (arith, none)
    by false n none = omega arith

-- ---- the first steps are in the table

front_long : {X : Type 0} (xs : List X) (i : ℕ) → i < length xs → length (take i xs) ≡ i
front_long [] i below = absurd (omega (arith, below))
front_long (x ∷ xs) zero below = refl
front_long (x ∷ xs) (suc i) below = let less : i < length xs = omega (arith, below) in ap suc (front_long xs i less)

number_pushed : (xs : List ℕ) (y m : ℕ) → get_or (xs ++ y ∷ []) m 0 ≡ get_or xs m 0 + cond (length xs == m) y 0
number_pushed [] y zero = omega arith
number_pushed [] y (suc m) = let nothing : cond (0 == suc m) y 0 ≡ 0 = ap (λ (b : Bool). cond b y 0) (eqb-zero-suc m) in omega (arith, nothing)
number_pushed (x ∷ xs) y zero = let nothing : cond (suc (length xs) == 0) y 0 ≡ 0 = ap (λ (b : Bool). cond b y 0) (eqb-suc-zero (length xs)) in omega (arith, nothing)
number_pushed (x ∷ xs) y (suc m) = number_pushed xs y m ∙ ap (λ (b : Bool). get_or xs m 0 + cond b y 0) (sym (eqb-suc-suc (length xs) m))

abbrev IsFound : Name → List (Name × Step) → List (Name × Step) → Option ℕ → Type 0
IsFound id front steps found = MatchOption found (list_any (λ s. bytes_eq id s.0) front ≡ false) (λ n. (n < length steps) × ((s : Name × Step) → s ≡ get_or steps n s → bytes_eq id s.0 ≡ true))

pub record IsTableTo (steps : List (Name × Step)) (i : ℕ) (readers : Readers) : Type 0 where
  pub numbers : (id : Name) → IsFound id (take i steps) steps (value_at id readers.numbers)
  pub only : (id : Name) (m : ℕ) → stands m id readers.rows ≡ true → (m < i) × ((s : Name × Step) → s ≡ get_or steps m s → reads id s.1 ≡ true)
  pub whole : (id : Name) (m : ℕ) (s : Name × Step) → m < i → m < length steps → s ≡ get_or steps m s → reads id s.1 ≡ true → stands m id readers.rows ≡ true
  pub awaited : (id : Name) (test : Name → Bool) (m : ℕ) → waits_for test m (awaited_of id readers.awaited) ≡ get_or (each_by (is_output id test) (take i steps)) m 0

module _ (steps : List (Name × Step)) where
  pub table_first : (readers : Readers) → readers.numbers ≡ [] → readers.rows ≡ [] → readers.awaited ≡ [] → IsTableTo steps 0 readers
  table_first readers none nothing no_one = record {
    numbers = λ id. subst (IsFound id (take 0 steps) steps) (sym (ap (value_at id) none)) refl;
    only = λ id m is. absurd (never (sym (ap (stands m id) nothing) ∙ is));
    whole = λ id m s below within at is. absurd (omega (arith, below));
    awaited = λ id test m. ap (λ (awaited : List (Name × List Awaited)). waits_for test m (awaited_of id awaited)) no_one;
  }
    where
      never : false ≡ true → ⊥
      never is = cc

  pub table_done : (i : ℕ) (readers : Readers) → i ≡ length steps → IsTableTo steps i readers → IsTableOf readers steps
  table_done i readers end table = record {
    numbers = λ id. subst (λ (front : List (Name × Step)). IsFound id front steps (value_at id readers.numbers)) (ap (λ (n : ℕ). take n steps) end ∙ take-length steps) (table.numbers id);
    only = λ id m is. let below : m < length steps = omega (arith, end, (table.only id m is).0) in (below, (table.only id m is).1);
    whole = λ id m s below. let within : m < i = omega (arith, end, below) in table.whole id m s within below;
    awaited = λ id test m.
        table.awaited id test m ∙ ap (λ (front : List (Name × Step)). get_or (each_by (is_output id test) front) m 0) (ap (λ (n : ℕ). take n steps) end ∙ take-length steps);
  }

  module _ (i : ℕ) (t : Name × Step) (inside : i < length steps) (here_is : t ≡ get_or steps i t) (old new : Readers) (table : IsTableTo steps i old)
      (numbered : new.numbers ≡ with_value t.0 i old.numbers) (notes : Notes i (λ id. reads id t.1) old.rows new.rows)
      (awaits : Awaits i (λ id test. sources_by (is_output id test) (out-Step t.1).inputs) old.awaited new.awaited) where
    same_step : (s : Name × Step) → s ≡ get_or steps i s → s ≡ t
    same_step s at = same_at steps i s t inside at here_is

    further : (id : Name) → bytes_eq id t.0 ≡ false → (found : Option ℕ) → IsFound id (take i steps) steps found → IsFound id (take (i + 1) steps) steps found
    further id apart None none =
        ap (list_any (λ (s : Name × Step). bytes_eq id s.0)) (front_more steps i t inside here_is)
        ∙ list_any-append (λ (s : Name × Step). bytes_eq id s.0) (take i steps) (t ∷ [])
        ∙ ap₂ (λ (a b : Bool). a || (b || false)) none apart
    further id apart (Some n) found = found

    number_now : (id : Name) (b : Bool) → bytes_eq id t.0 ≡ b → IsFound id (take (i + 1) steps) steps (cond b (Some i) (value_at id old.numbers))
    number_now id true is = (inside, λ s at. ap (λ (u : Name × Step). bytes_eq id u.0) (same_step s at) ∙ is)
    number_now id false is = further id is (value_at id old.numbers) (table.numbers id)

    only_now : (id : Name) (m : ℕ) (a b : Bool) → stands m id old.rows ≡ a → (i == m) ≡ b → (a || (b && reads id t.1)) ≡ true → (m < i + 1) × ((s : Name × Step) → s ≡ get_or steps m s → reads id s.1 ≡ true)
    only_now id m true b was is all = let below : m < i + 1 = omega (arith, (table.only id m was).0) in (below, (table.only id m was).1)
    only_now id m false true was is all =
        let same : i ≡ m = eqb-true i m is in
        let below : m < i + 1 = omega (arith, same) in
        (below, λ s at. ap (λ (u : Name × Step). reads id u.1) (same_step s (subst (λ (n : ℕ). s ≡ get_or steps n s) (sym same) at)) ∙ all)
    only_now id m false false was is all = absurd cc

    whole_now : (id : Name) (m : ℕ) (s : Name × Step) → m < i + 1 → m < length steps → s ≡ get_or steps m s → reads id s.1 ≡ true → (b : Bool) → (i == m) ≡ b → (stands m id old.rows || (b && reads id t.1)) ≡ true
    whole_now id m s below within at is true same =
        let one : i ≡ m = eqb-true i m same in
        or_true (stands m id old.rows) (reads id t.1) (ap (λ (u : Name × Step). reads id u.1) (sym (same_step s (subst (λ (n : ℕ). s ≡ get_or steps n s) (sym one) at))) ∙ is)
    whole_now id m s below within at is false other =
        let less : m < i = omega (arith, below, λ (same : i ≡ m). eqb-false i m other same) in
        ap (λ (b : Bool). b || false) (table.whole id m s less within at is)

    awaited_now : (id : Name) (test : Name → Bool) (m : ℕ) → waits_for test m (awaited_of id new.awaited) ≡ get_or (each_by (is_output id test) (take (i + 1) steps)) m 0
    awaited_now id test m =
        let long : length (each_by (is_output id test) (take i steps)) ≡ i = length-map (take i steps) (λ s. sources_by (is_output id test) (out-Step s.1).inputs) ∙ front_long steps i inside in
        awaits id test m
        ∙ ap (λ (n : ℕ). n + cond (i == m) (sources_by (is_output id test) (out-Step t.1).inputs) 0) (table.awaited id test m)
        ∙ sym (ap (λ (front : List (Name × Step)). get_or (each_by (is_output id test) front) m 0) (front_more steps i t inside here_is)
        ∙ ap (λ (xs : List ℕ). get_or xs m 0) (map-append (λ (s : Name × Step). sources_by (is_output id test) (out-Step s.1).inputs) (take i steps) (t ∷ []))
        ∙ number_pushed (each_by (is_output id test) (take i steps)) (sources_by (is_output id test) (out-Step t.1).inputs) m
        ∙ ap (λ (n : ℕ). get_or (each_by (is_output id test) (take i steps)) m 0 + cond (n == m) (sources_by (is_output id test) (out-Step t.1).inputs) 0) long)

    pub table_more : IsTableTo steps (i + 1) new
    table_more = record {
      numbers = λ id. subst (IsFound id (take (i + 1) steps) steps) (sym (ap (value_at id) numbered ∙ value_at-with_value id t.0 i old.numbers)) (number_now id (bytes_eq id t.0) refl);
      only = λ id m is. only_now id m (stands m id old.rows) (i == m) refl refl (sym (notes m id) ∙ is);
      whole = λ id m s below within at is. notes m id ∙ whole_now id m s below within at is (i == m) refl;
      awaited = awaited_now;
    }

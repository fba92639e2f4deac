-- Each graph has a Least plan: of the cheapest plans, one that does least. What it shares with another cheapest plan makes a cheapest plan too, so it does no more than that one.
use Rattle.std.proofs.Common.{◌≡◌, ◌≢◌, ℕ, zero, suc, ◌+◌, ◌<◌, ◌≤◌, subst, List, [], ◌∷◌, Bool, true, false, cond, ltb, eqb, length, get_or, replicate, is_some, sym, refl, ap, ◌∙◌, inl, inr, ⊎_elim, ◌⊎◌, arith}
use Rattle.std.proofs.lemmas.Bool.{cases_eq, cases_lt, lt-ltb, le-ltb, eq-eqb, ne_eqb, cond-true, true≢false}
use Rattle.std.proofs.lemmas.List.{get_or_default, get_or-replicate, length-replicate}
use Rattle.plan_checker.specs.declared.vertex.Vertex.{Vertex}
use Rattle.plan_checker.specs.declared.plan.Mark.{Mark}
use Rattle.plan_checker.specs.declared.plan.Mark.TheVariants.{Load, Compute, Prune}
use Rattle.plan_checker.specs.Sums.{sum_below}
use Rattle.plan_checker.specs.Graph.{vertex, IsGraph}
use Rattle.plan_checker.specs.Plan.{mark, IsAllowed, IsValid, cost_of, cost}
use Rattle.plan_checker.specs.Least.{IsLeast}
use Rattle.plan_checker.specs.Laws.{HasLeast}
use Rattle.plan_checker.proofs.SumsBelow.{sum_below_same, sum_below-add, sum_below_tight}

truth : (b : Bool) → (b ≡ true) ⊎ (b ≡ false)
truth true = inl refl
truth false = inr refl

both_true : (a b : Bool) → cond a b false ≡ true → (a ≡ true) × (b ≡ true)
both_true true b e = (refl, e)
both_true false b e = absurd (true≢false (sym e))

ltb_lt : (a b : ℕ) → ltb a b ≡ true → a < b
ltb_lt a b e = ⊎_elim (λ lt. lt) (λ le. absurd (true≢false (sym e ∙ le-ltb a b le))) (cases_lt a b)

eqb_eq : (a b : ℕ) → eqb a b ≡ true → a ≡ b
eqb_eq a b e = ⊎_elim (λ eq. eq) (λ ne. absurd (true≢false (sym e ∙ ne_eqb a b ne))) (cases_eq a b)

-- a test at each number below a limit
abbrev all_below : ℕ → (ℕ → Bool) → Bool
all_below zero f = true
all_below (suc n) f = cond (f n) (all_below n f) false

all_below_each : (n : ℕ) (f : ℕ → Bool) → all_below n f ≡ true → (k : ℕ) → k < n → f k ≡ true
all_below_each zero f e k h = absurd (omega arith)
all_below_each (suc n) f e k h =
    let parts = both_true (f n) (all_below n f) e in
    ⊎_elim (λ eq. ap f eq ∙ parts.0) (λ ne. all_below_each n f parts.1 k (omega arith)) (cases_eq k n)

all_below_from : (n : ℕ) (f : ℕ → Bool) → ((k : ℕ) → k < n → f k ≡ true) → all_below n f ≡ true
all_below_from zero f each = refl
all_below_from (suc n) f each =
    cond-true (f n) (all_below n f) false (each n (omega arith)) ∙ all_below_from n f (λ k h. each k (omega arith))

-- lists of n marks that pass a test
record HasMarks (n : ℕ) (p : List Mark → Bool) : Type 0 where
  marks : List Mark
  count : length marks ≡ n
  good : p marks ≡ true

one_more_mark : (m : Mark) (n : ℕ) (p : List Mark → Bool) → HasMarks n (λ ms. p (m ∷ ms)) → HasMarks (suc n) p
one_more_mark m n p h =
    let counted = h.count in
    record { marks = m ∷ h.marks; count = omega arith; good = h.good }

none_of_none : (p : List Mark → Bool) (ms : List Mark) → length ms ≡ 0 → p [] ≡ false → p ms ≡ false
none_of_none p [] count e = e
none_of_none p (m ∷ ms) count e = absurd (omega arith)

none_of_more : (p : List Mark → Bool) (n : ℕ) (ms : List Mark) → length ms ≡ suc n
    → ((rest : List Mark) → length rest ≡ n → p (Load ∷ rest) ≡ false)
    → ((rest : List Mark) → length rest ≡ n → p (Compute ∷ rest) ≡ false)
    → ((rest : List Mark) → length rest ≡ n → p (Prune ∷ rest) ≡ false)
    → p ms ≡ false
none_of_more p n [] count a b c = absurd (omega arith)
none_of_more p n (Load ∷ ms) count a b c = a ms (omega arith)
none_of_more p n (Compute ∷ ms) count a b c = b ms (omega arith)
none_of_more p n (Prune ∷ ms) count a b c = c ms (omega arith)

some_marks : (n : ℕ) (p : List Mark → Bool) → HasMarks n p ⊎ ((ms : List Mark) → length ms ≡ n → p ms ≡ false)
some_marks zero p =
    ⊎_elim
    (λ e. inl (record { marks = []; count = refl; good = e }))
    (λ e. inr (λ ms count. none_of_none p ms count e))
    (truth (p []))
some_marks (suc n) p =
    ⊎_elim
    (λ h. inl (one_more_mark Load n p h))
    (λ no_load.
    ⊎_elim
    (λ h. inl (one_more_mark Compute n p h))
    (λ no_compute.
    ⊎_elim
    (λ h. inl (one_more_mark Prune n p h))
    (λ no_prune. inr (λ ms count. none_of_more p n ms count no_load no_compute no_prune))
    (some_marks n (λ ms. p (Prune ∷ ms))))
    (some_marks n (λ ms. p (Compute ∷ ms))))
    (some_marks n (λ ms. p (Load ∷ ms)))

-- of the lists that pass a test, one of least weight
record HasLightest (n : ℕ) (p : List Mark → Bool) (weight : List Mark → ℕ) : Type 0 where
  some : HasMarks n p
  lightest : (ms : List Mark) → length ms ≡ n → p ms ≡ true → weight some.marks ≤ weight ms

lightest : (n : ℕ) (p : List Mark → Bool) (weight : List Mark → ℕ) (bound : ℕ) (h : HasMarks n p) → weight h.marks ≤ bound → HasLightest n p weight
lightest n p weight zero h le = record { some = h; lightest = λ ms count good. omega arith }
lightest n p weight (suc bound) h le =
    ⊎_elim
    (λ (lower : HasMarks n (λ ms. cond (p ms) (ltb (weight ms) (weight h.marks)) false)).
    let parts = both_true (p lower.marks) (ltb (weight lower.marks) (weight h.marks)) lower.good in
    let less = ltb_lt (weight lower.marks) (weight h.marks) parts.1 in
    lightest n p weight bound (record { marks = lower.marks; count = lower.count; good = parts.0 }) (omega arith))
    (λ none.
    record {
      some = h;
      lightest = λ ms count good.
          ⊎_elim
          (λ lt. absurd (true≢false (sym (cond-true (p ms) (ltb (weight ms) (weight h.marks)) false good ∙ lt-ltb (weight ms) (weight h.marks) lt) ∙ none ms count)))
          (λ ge. ge)
          (cases_lt (weight ms) (weight h.marks));
    })
    (some_marks n (λ ms. cond (p ms) (ltb (weight ms) (weight h.marks)) false))

-- whether a plan is valid
abbrev is_there : Mark → Bool
is_there Load = true
is_there Compute = true
is_there Prune = false

there_from : (m : Mark) → m ≢ Prune → is_there m ≡ true
there_from Load ne = refl
there_from Compute ne = refl
there_from Prune ne = absurd (ne refl)

there_is : (m : Mark) → is_there m ≡ true → m ≢ Prune
there_is Load e = λ x. cc
there_is Compute e = λ x. cc
there_is Prune e = λ x. true≢false (sym e)

abbrev flip : Bool → Bool
flip true = false
flip false = true

flip_is : (b : Bool) → flip b ≡ true → b ≡ false
flip_is true e = sym e
flip_is false e = refl

flip_from : (b : Bool) → b ≡ false → flip b ≡ true
flip_from true e = sym e
flip_from false e = refl

abbrev parent_there : List Mark → Vertex → ℕ → Bool
parent_there marks job k = is_there (mark marks (get_or job.parents k 0))

abbrev is_allowed : List Mark → Vertex → Mark → Bool
is_allowed marks job Load = is_some job.load
is_allowed marks job Compute = all_below (length job.parents) (parent_there marks job)
is_allowed marks job Prune = flip job.needed

allowed_is : (marks : List Mark) (job : Vertex) (m : Mark) → is_allowed marks job m ≡ true → IsAllowed marks job m
allowed_is marks job Load e = e
allowed_is marks job Compute e = λ k d h.
    there_is (mark marks (get_or job.parents k d))
    (ap (λ p. is_there (mark marks p)) (sym (get_or_default job.parents k 0 d h)) ∙ all_below_each (length job.parents) (parent_there marks job) e k h)
allowed_is marks job Prune e = flip_is job.needed e

allowed_from : (marks : List Mark) (job : Vertex) (m : Mark) → IsAllowed marks job m → is_allowed marks job m ≡ true
allowed_from marks job Load a = a
allowed_from marks job Compute a =
    all_below_from (length job.parents) (parent_there marks job) (λ k h. there_from (mark marks (get_or job.parents k 0)) (a k 0 h))
allowed_from marks job Prune a = flip_from job.needed a

abbrev is_valid : List Vertex → List Mark → Bool
is_valid graph marks = all_below (length graph) (λ i. is_allowed marks (vertex graph i) (mark marks i))

valid_is : (graph : List Vertex) (marks : List Mark) → length marks ≡ length graph → is_valid graph marks ≡ true → IsValid graph marks
valid_is graph marks count e = record {
  one_each = count;
  allowed = λ i h. allowed_is marks (vertex graph i) (mark marks i) (all_below_each (length graph) (λ j. is_allowed marks (vertex graph j) (mark marks j)) e i h);
}

valid_from : (graph : List Vertex) (marks : List Mark) → IsValid graph marks → is_valid graph marks ≡ true
valid_from graph marks valid =
    all_below_from (length graph) (λ j. is_allowed marks (vertex graph j) (mark marks j))
    (λ i h. allowed_from marks (vertex graph i) (mark marks i) (valid.allowed i h))

-- to compute everything is valid
all_computed : (graph : List Vertex) → IsGraph graph → HasMarks (length graph) (is_valid graph)
all_computed graph good =
    let n = length graph in
    let marks : List Mark = replicate n Compute in
    let count : length marks ≡ n = length-replicate n Compute in
    let here = λ (i : ℕ) (h : i < n). get_or-replicate n i Compute Prune h in
    record {
      marks = marks;
      count = count;
      good = all_below_from n (λ j. is_allowed marks (vertex graph j) (mark marks j))
          (λ i h.
          let is : mark marks i ≡ Compute = here i h in
          ap (is_allowed marks (vertex graph i)) is
          ∙ allowed_from marks (vertex graph i) Compute
          (λ k d hk e.
          let below = (good i h).below k d hk in
          let parent : mark marks (get_or (vertex graph i).parents k d) ≡ Compute = here (get_or (vertex graph i).parents k d) (omega arith) in
          cc));
    }

-- what both of two plans do, and what either does
abbrev both : Mark → Mark → Mark
both Load Load = Load
both Load Compute = Load
both Load Prune = Prune
both Compute Load = Load
both Compute Compute = Compute
both Compute Prune = Prune
both Prune Load = Prune
both Prune Compute = Prune
both Prune Prune = Prune

abbrev any : Mark → Mark → Mark
any Load Load = Load
any Load Compute = Compute
any Load Prune = Load
any Compute Load = Compute
any Compute Compute = Compute
any Compute Prune = Compute
any Prune Load = Load
any Prune Compute = Compute
any Prune Prune = Prune

abbrev zipped : (Mark → Mark → Mark) → List Mark → List Mark → List Mark
zipped f [] bs = []
zipped f (a ∷ rest) [] = []
zipped f (a ∷ rest) (b ∷ bs) = f a b ∷ zipped f rest bs

zipped_count : (f : Mark → Mark → Mark) (xs ys : List Mark) → length xs ≡ length ys → length (zipped f xs ys) ≡ length xs
zipped_count f [] ys e = refl
zipped_count f (x ∷ xs) [] e = absurd (omega arith)
zipped_count f (x ∷ xs) (y ∷ ys) e = let rest = zipped_count f xs ys (omega arith) in omega arith

zipped_mark : (f : Mark → Mark → Mark) (xs ys : List Mark) (i : ℕ) → f Prune Prune ≡ Prune → length xs ≡ length ys → mark (zipped f xs ys) i ≡ f (mark xs i) (mark ys i)
zipped_mark f [] [] i none e = sym none
zipped_mark f [] (y ∷ ys) i none e = absurd (omega arith)
zipped_mark f (x ∷ xs) [] i none e = absurd (omega arith)
zipped_mark f (x ∷ xs) (y ∷ ys) zero none e = refl
zipped_mark f (x ∷ xs) (y ∷ ys) (suc i) none e = zipped_mark f xs ys i none (omega arith)

both_there : (m k : Mark) → m ≢ Prune → k ≢ Prune → both m k ≢ Prune
both_there Load Load a b = λ e. cc
both_there Load Compute a b = λ e. cc
both_there Load Prune a b = b
both_there Compute Load a b = λ e. cc
both_there Compute Compute a b = λ e. cc
both_there Compute Prune a b = b
both_there Prune k a b = absurd (a refl)

any_left : (m k : Mark) → m ≢ Prune → any m k ≢ Prune
any_left Load Load a = λ e. cc
any_left Load Compute a = λ e. cc
any_left Load Prune a = λ e. cc
any_left Compute Load a = λ e. cc
any_left Compute Compute a = λ e. cc
any_left Compute Prune a = λ e. cc
any_left Prune k a = absurd (a refl)

any_right : (m k : Mark) → k ≢ Prune → any m k ≢ Prune
any_right Load Load a = λ e. cc
any_right Load Compute a = λ e. cc
any_right Load Prune a = absurd (a refl)
any_right Compute Load a = λ e. cc
any_right Compute Compute a = λ e. cc
any_right Compute Prune a = absurd (a refl)
any_right Prune Load a = λ e. cc
any_right Prune Compute a = λ e. cc
any_right Prune Prune a = absurd (a refl)

abbrev AreBoth : List Mark → List Mark → List Mark → Type 0
AreBoth a b c = (i : ℕ) → mark c i ≡ both (mark a i) (mark b i)

abbrev AreAny : List Mark → List Mark → List Mark → Type 0
AreAny a b c = (i : ℕ) → mark c i ≡ any (mark a i) (mark b i)

allowed_both : (a b c : List Mark) → AreBoth a b c → (job : Vertex) (m k : Mark) → IsAllowed a job m → IsAllowed b job k → IsAllowed c job (both m k)
allowed_both a b c are job Load Load p q = p
allowed_both a b c are job Load Compute p q = p
allowed_both a b c are job Load Prune p q = q
allowed_both a b c are job Compute Load p q = q
allowed_both a b c are job Compute Compute p q = λ i d h e.
    let v = get_or job.parents i d in
    both_there (mark a v) (mark b v) (p i d h) (q i d h) (sym (are v) ∙ e)
allowed_both a b c are job Compute Prune p q = q
allowed_both a b c are job Prune Load p q = p
allowed_both a b c are job Prune Compute p q = p
allowed_both a b c are job Prune Prune p q = p

any_from_left : (a b c : List Mark) → AreAny a b c → (job : Vertex) → IsAllowed a job Compute → IsAllowed c job Compute
any_from_left a b c are job p = λ i d h e. let v = get_or job.parents i d in any_left (mark a v) (mark b v) (p i d h) (sym (are v) ∙ e)

any_from_right : (a b c : List Mark) → AreAny a b c → (job : Vertex) → IsAllowed b job Compute → IsAllowed c job Compute
any_from_right a b c are job q = λ i d h e. let v = get_or job.parents i d in any_right (mark a v) (mark b v) (q i d h) (sym (are v) ∙ e)

allowed_any : (a b c : List Mark) → AreAny a b c → (job : Vertex) (m k : Mark) → IsAllowed a job m → IsAllowed b job k → IsAllowed c job (any m k)
allowed_any a b c are job Load Load p q = p
allowed_any a b c are job Load Compute p q = any_from_right a b c are job q
allowed_any a b c are job Load Prune p q = p
allowed_any a b c are job Compute Load p q = any_from_left a b c are job p
allowed_any a b c are job Compute Compute p q = any_from_left a b c are job p
allowed_any a b c are job Compute Prune p q = any_from_left a b c are job p
allowed_any a b c are job Prune Load p q = q
allowed_any a b c are job Prune Compute p q = any_from_right a b c are job q
allowed_any a b c are job Prune Prune p q = p

both_valid : (graph : List Vertex) (a b c : List Mark) → IsValid graph a → IsValid graph b → length c ≡ length graph → AreBoth a b c → IsValid graph c
both_valid graph a b c p q count are = record {
  one_each = count;
  allowed = λ i h.
      let P : Mark → Type 0 = IsAllowed c (vertex graph i) in
      subst P (sym (are i)) (allowed_both a b c are (vertex graph i) (mark a i) (mark b i) (p.allowed i h) (q.allowed i h));
}

any_valid : (graph : List Vertex) (a b c : List Mark) → IsValid graph a → IsValid graph b → length c ≡ length graph → AreAny a b c → IsValid graph c
any_valid graph a b c p q count are = record {
  one_each = count;
  allowed = λ i h.
      let P : Mark → Type 0 = IsAllowed c (vertex graph i) in
      subst P (sym (are i)) (allowed_any a b c are (vertex graph i) (mark a i) (mark b i) (p.allowed i h) (q.allowed i h));
}

-- together they cost what the two plans cost
costs_alike : (job : Vertex) (m k : Mark) → cost_of job (both m k) + cost_of job (any m k) ≡ cost_of job m + cost_of job k
costs_alike job Load Load = refl
costs_alike job Load Compute = refl
costs_alike job Load Prune = omega arith
costs_alike job Compute Load = omega arith
costs_alike job Compute Compute = refl
costs_alike job Compute Prune = omega arith
costs_alike job Prune Load = refl
costs_alike job Prune Compute = refl
costs_alike job Prune Prune = refl

cost_together : (graph : List Vertex) (a b c d : List Mark) → AreBoth a b c → AreAny a b d → cost graph c + cost graph d ≡ cost graph a + cost graph b
cost_together graph a b c d are_both are_any =
    let n = length graph in
    let at : List Mark → ℕ → ℕ = λ marks i. cost_of (vertex graph i) (mark marks i) in
    let left = sum_below-add n (at c) (at d) in
    let right = sum_below-add n (at a) (at b) in
    let same = sum_below_same n (λ i. at c i + at d i) (λ i. at a i + at b i)
    (λ i h.
    let x = ap (cost_of (vertex graph i)) (are_both i) in
    let y = ap (cost_of (vertex graph i)) (are_any i) in
    let z = costs_alike (vertex graph i) (mark a i) (mark b i) in
    omega arith) in
    omega arith

-- how much is done with a vertex
abbrev size_of : Mark → ℕ
size_of Load = 1
size_of Compute = 2
size_of Prune = 0

abbrev size : List Vertex → List Mark → ℕ
size graph marks = sum_below (length graph) (λ i. size_of (mark marks i))

both-le : (m k : Mark) → size_of (both m k) ≤ size_of m
both-le Load Load = omega arith
both-le Load Compute = omega arith
both-le Load Prune = omega arith
both-le Compute Load = omega arith
both-le Compute Compute = omega arith
both-le Compute Prune = omega arith
both-le Prune Load = omega arith
both-le Prune Compute = omega arith
both-le Prune Prune = omega arith

does_no_more : (m k : Mark) → size_of (both m k) ≡ size_of m → (m ≡ Compute → k ≡ Compute) × (m ≢ Prune → k ≢ Prune)
does_no_more Load Load e = (λ x. cc, λ ne x. cc)
does_no_more Load Compute e = (λ x. refl, λ ne x. cc)
does_no_more Load Prune e = absurd (omega arith)
does_no_more Compute Load e = absurd (omega arith)
does_no_more Compute Compute e = (λ x. refl, λ ne x. cc)
does_no_more Compute Prune e = absurd (omega arith)
does_no_more Prune k e = (λ x. cc, λ ne. absurd (ne refl))

-- a cheapest plan that does least among the plans of its cost
record IsLightest (graph : List Vertex) (marks : List Mark) : Type 0 where
  valid : IsValid graph marks
  cheapest : (other : List Mark) → IsValid graph other → cost graph marks ≤ cost graph other
  lightest : (other : List Mark) → IsValid graph other → cost graph other ≡ cost graph marks → size graph marks ≤ size graph other

lightest_is_least : (graph : List Vertex) (marks : List Mark) → IsLightest graph marks → IsLeast graph marks
lightest_is_least graph marks this = record {
  cheapest = record { valid = this.valid; cheapest = this.cheapest };
  least = λ other best.
      let counted = this.valid.one_each in
      let beside = best.valid.one_each in
      let same_count : length marks ≡ length other = omega arith in
      let shared = zipped both marks other in
      let joined = zipped any marks other in
      let are_both : AreBoth marks other shared = λ i. zipped_mark both marks other i refl same_count in
      let are_any : AreAny marks other joined = λ i. zipped_mark any marks other i refl same_count in
      let shared_count = zipped_count both marks other same_count in
      let joined_count = zipped_count any marks other same_count in
      let shared_valid = both_valid graph marks other shared this.valid best.valid (omega arith) are_both in
      let joined_valid = any_valid graph marks other joined this.valid best.valid (omega arith) are_any in
      let together = cost_together graph marks other shared joined are_both are_any in
      let a = this.cheapest shared shared_valid in
      let b = this.cheapest joined joined_valid in
      let c = best.cheapest marks this.valid in
      let sizes = this.lightest shared shared_valid (omega arith) in
      let alike = λ (i : ℕ) (h : i < length graph).
      does_no_more (mark marks i) (mark other i)
      (sym (ap size_of (are_both i))
      ∙ sum_below_tight (length graph) (λ j. size_of (mark shared j)) (λ j. size_of (mark marks j))
      (λ j hj. let e = ap size_of (are_both j) in let le = both-le (mark marks j) (mark other j) in omega arith) sizes i h) in
      record { computes = λ i h. (alike i h).0; keeps = λ i h. (alike i h).1 };
}

pub each_has_least : (graph : List Vertex) → IsGraph graph → HasLeast graph
each_has_least graph good =
    let n = length graph in
    let first : HasMarks n (is_valid graph) = all_computed graph good in
    let cheap : HasLightest n (is_valid graph) (cost graph) = lightest n (is_valid graph) (cost graph) (cost graph first.marks) first (omega arith) in
    let least_cost : ℕ = cost graph cheap.some.marks in
    let p : List Mark → Bool = λ ms. cond (is_valid graph ms) (eqb (cost graph ms) least_cost) false in
    let start : HasMarks n p = record {
      marks = cheap.some.marks;
      count = cheap.some.count;
      good = cond-true (is_valid graph cheap.some.marks) (eqb (cost graph cheap.some.marks) least_cost) false cheap.some.good ∙ eq-eqb (cost graph cheap.some.marks) least_cost refl;
    } in
    let light : HasLightest n p (size graph) = lightest n p (size graph) (size graph start.marks) start (omega arith) in
    let marks : List Mark = light.some.marks in
    let parts = both_true (is_valid graph marks) (eqb (cost graph marks) least_cost) light.some.good in
    let equal : cost graph marks ≡ least_cost = eqb_eq (cost graph marks) least_cost parts.1 in
    let this : IsLightest graph marks = record {
      valid = valid_is graph marks light.some.count parts.0;
      cheapest = λ other valid. let le = cheap.lightest other valid.one_each (valid_from graph other valid) in omega arith;
      lightest = λ other valid same.
          light.lightest other valid.one_each
          (cond-true (is_valid graph other) (eqb (cost graph other) least_cost) false (valid_from graph other valid) ∙ eq-eqb (cost graph other) least_cost (same ∙ equal));
    } in
    record { marks = marks; least = lightest_is_least graph marks this }

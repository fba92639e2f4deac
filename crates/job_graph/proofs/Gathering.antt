-- The numbers of known jobs that made something, in their order.
use Rattle.std.proofs.Common.{◌≡◌, ◌∙◌, ◌⊎◌, inl, inr, ⊎_elim, ℕ, zero, suc, ◌+◌, ◌<◌, ◌≤◌, List, [], ◌∷◌, ◌++◌, get_or, length, Bool, true, false, append_assoc, cond, Option, Some, refl, sym, ap, ap₂, subst, arith}
use Rattle.std.specs.Prelude.{◌||◌, ◌==◌, slice_get}
use Rattle.std.specs.Borrow.{Bor}
use Rattle.std.specs.BTreeMap.{is_at}
use Rattle.std.specs.BTreeSet.{BTreeSet, Updates, contains}
use Rattle.std.specs.List.{list_any}
use Rattle.std.specs.List.Sorted.{IsStrictlySortedBy}
use Rattle.std.specs.Map.{lookup, values_of}
use Rattle.std.specs.Option.{option_map_or}
use Rattle.std.specs.Ordering.{is_eq, nat_cmp}
use Rattle.std.proofs.lemmas.Bool.{eqb-false, eqb-true}
use Rattle.std.proofs.lemmas.Map.Keys.{below_from_sorted, sorted_tail}
use Rattle.std.proofs.lemmas.Map.Lookups.{exact_unsigned}
use Rattle.job_graph.specs.KnownJobs.{jobs_in}
use Rattle.job_graph.specs.Made.{any_made}
use Rattle.job_graph.specs.Unfold.{parents_from}
use Rattle.job_graph.specs.Words.{Fields, JobPlace, is_same_place}
use Rattle.job_graph.specs.declared.growth.KnownJob.{KnownJob}
use Rattle.job_graph.specs.inner.Index.{IsNumberAt}
use Rattle.job_graph.specs.inner.Makers.{Gathers, Puts, is_this}
use Rattle.job_graph.proofs.Gone.{not_so}
use Rattle.job_graph.proofs.GoingOn.{or_true}
use Rattle.job_graph.proofs.Index.{is_equal, itself, turned_place}

-- ---- one place after another

-- those that pass a test are there, but for those that are left
pub record PutsUntil (test left : JobPlace → Bool) (known : List KnownJob) (old cur : BTreeSet ℕ) : Type 0 where
  pub here : (n : ℕ) (k : KnownJob) → n < length known → k ≡ get_or known n k → test k.job.place ≡ true → (contains nat_cmp cur n ≡ true) ⊎ (left k.job.place ≡ true)
  pub stays : (n : ℕ) → contains nat_cmp old n ≡ true → contains nat_cmp cur n ≡ true
  pub within : (n : ℕ) → contains nat_cmp cur n ≡ true → (contains nat_cmp old n ≡ true) ⊎ (n < length known)

module _ (test : JobPlace → Bool) (known : List KnownJob) (old : BTreeSet ℕ) where
  pub puts_first : (left : JobPlace → Bool) → ((job : JobPlace) → test job ≡ true → left job ≡ true) → PutsUntil test left known old old
  puts_first left all = record { here = λ n k below at is. inr (all k.job.place is); stays = λ n there. there; within = λ n there. inl there }

  pub puts_one : (place : Bor JobPlace) (rest : List (Bor JobPlace)) (cur new : BTreeSet ℕ) → PutsUntil test (λ job. list_any (is_this job) (place ∷ rest)) known old cur
      → Puts (is_same_place place.now) known cur new → PutsUntil test (λ job. list_any (is_this job) rest) known old new
  puts_one place rest cur new until puts = record {
    here = λ n k below at is. ⊎_elim (λ there. inl (puts.stays n there)) (λ more. by n k below at (is_same_place place.now k.job.place) refl more) (until.here n k below at is);
    stays = λ n there. puts.stays n (until.stays n there);
    within = λ n there. ⊎_elim (λ was. until.within n was) (λ less. inr less) (puts.within n there);
  }
    where
      by : (n : ℕ) (k : KnownJob) → n < length known → k ≡ get_or known n k → (b : Bool) → is_same_place place.now k.job.place ≡ b
          → (is_same_place place.now k.job.place || list_any (is_this k.job.place) rest) ≡ true → (contains nat_cmp new n ≡ true) ⊎ (list_any (is_this k.job.place) rest ≡ true)
      by n k below at true is more = inl (puts.here n k below at is)
      by n k below at false is more = inr (sym (ap (λ (b : Bool). b || list_any (is_this k.job.place) rest) is) ∙ more)

  pub puts_done : (cur : BTreeSet ℕ) → PutsUntil test (λ job. list_any (is_this job) []) known old cur → Puts test known old cur
  puts_done cur until = record {
    here = λ n k below at is. ⊎_elim (λ there. there) (λ none. absurd (not_so none)) (until.here n k below at is);
    stays = until.stays;
    within = until.within;
  }

-- the number of the job at a place is put, or no job is known there
module _ (known : List KnownJob) (place : JobPlace) where
  pub puts_number : (number : ℕ) (old new : BTreeSet ℕ) → number < length known → IsNumberAt place known (Some number) → Updates nat_cmp old new number true → Puts (is_same_place place) known old new
  puts_number number old new inside one put = record {
    here = λ n k below at is. put.0 n ∙ ap (λ (b : Bool). cond b true (contains nat_cmp old n))
        (ap (λ (m : ℕ). is_eq (nat_cmp number m)) (sym (same number n (one n k below at (turned_place place k.job.place place refl is)))) ∙ itself number);
    stays = λ n there. put.0 n ∙ more n (is_at (nat_cmp number) n) there;
    within = λ n there. by n (is_at (nat_cmp number) n) refl (sym (put.0 n) ∙ there);
  }
    where
      same : (n m : ℕ) → Some n ≡ Some m → n ≡ m
      same n m is = cc

      more : (n : ℕ) (b : Bool) → contains nat_cmp old n ≡ true → cond b true (contains nat_cmp old n) ≡ true
      more n true there = refl
      more n false there = there

      by : (n : ℕ) (b : Bool) → is_at (nat_cmp number) n ≡ b → cond b true (contains nat_cmp old n) ≡ true → (contains nat_cmp old n ≡ true) ⊎ (n < length known)
      by n true is there = inr (subst (λ (m : ℕ). m < length known) (exact_unsigned number n (is_equal (nat_cmp number n) is)) inside)
      by n false is there = inl there

  pub puts_nothing : (found : Option ℕ) (old : BTreeSet ℕ) → ((n : ℕ) → found ≡ Some n → ⊥) → IsNumberAt place known found → Puts (is_same_place place) known old old
  puts_nothing found old other one = record {
    here = λ n k below at is. absurd (other n (one n k below at (turned_place place k.job.place place refl is)));
    stays = λ n there. there;
    within = λ n there. inl there;
  }

-- what a map has is among its values
pub among_values : (test : Bor JobPlace → Bool) (es : List (ℕ × Bor JobPlace)) (q : ℕ) → option_map_or test (lookup (is_at (nat_cmp q)) es) false ≡ true → list_any test (values_of es) ≡ true
among_values test [] q is = absurd (not_so is)
among_values test (e ∷ es) q is = by (is_at (nat_cmp q) e.0) is (among_values test es q)
  where
    by : (b : Bool) → option_map_or test (cond b (Some e.1) (lookup (is_at (nat_cmp q)) es)) false ≡ true
        → (option_map_or test (lookup (is_at (nat_cmp q)) es) false ≡ true → list_any test (values_of es) ≡ true) → (test e.1 || list_any test (values_of es)) ≡ true
    by true is rest = ap (λ (b : Bool). b || list_any test (values_of es)) is
    by false is rest = or_true (test e.1) (list_any test (values_of es)) (rest is)

pub gathered : (one other : JobPlace → Bool) (known : List KnownJob) (none cur numbers : BTreeSet ℕ) → ((n : ℕ) → contains nat_cmp none n ≡ false) → Puts one known none cur → Puts other known cur numbers
    → Gathers (λ job. one job || other job) known numbers
gathered one other known none cur numbers empty first second = record {
  all = λ n k below at is. by n k below at (one k.job.place) refl is;
  within = λ n there. ⊎_elim (λ was. ⊎_elim (λ nothing. absurd (not_so (sym (empty n) ∙ nothing))) (λ less. less) (first.within n was)) (λ less. less) (second.within n there);
}
  where
    by : (n : ℕ) (k : KnownJob) → n < length known → k ≡ get_or known n k → (b : Bool) → one k.job.place ≡ b → (one k.job.place || other k.job.place) ≡ true → contains nat_cmp numbers n ≡ true
    by n k below at true is either = second.stays n (first.here n k below at is)
    by n k below at false is either = second.here n k below at (sym (ap (λ (b : Bool). b || other k.job.place) is) ∙ either)

-- ---- in ascending order

abbrev has : List ℕ → ℕ → Bool
has ks n = list_any (is_at (nat_cmp n)) ks

abbrev From : ℕ → List ℕ → Type 0
From i [] = Unit {0}
From i (k ∷ ks) = (i ≤ k) × From (suc k) ks

from_sorted : (k : ℕ) (ks : List ℕ) → IsStrictlySortedBy nat_cmp (k ∷ ks) → From k (k ∷ ks)
from_sorted k [] sorted = (omega arith, tt)
from_sorted k (m ∷ ms) sorted =
    let next : k < m = below_from_sorted (k ∷ m ∷ ms) 0 1 0 sorted (omega arith) (omega arith) in
    (omega arith, (next, (from_sorted m ms (sorted_tail nat_cmp k (m ∷ ms) sorted)).1))

from_first : (ks : List ℕ) → IsStrictlySortedBy nat_cmp ks → From 0 ks
from_first [] sorted = tt
from_first (k ∷ ks) sorted = (omega arith, (from_sorted k ks sorted).1)

not_at : (n m : ℕ) → (n ≡ m → ⊥) → is_at (nat_cmp n) m ≡ false
not_at n m other = by (is_eq (nat_cmp n m)) refl
  where
    by : (b : Bool) → is_eq (nat_cmp n m) ≡ b → is_eq (nat_cmp n m) ≡ false
    by true is = absurd (other (exact_unsigned n m (is_equal (nat_cmp n m) is)))
    by false is = is

none_below : (ks : List ℕ) (i n : ℕ) → n < i → From i ks → has ks n ≡ false
none_below [] i n less from = refl
none_below (k ∷ ks) i n less from =
    let apart : (n ≡ k → ⊥) = λ same. omega (arith, same, less, from.0) in
    let before : n < suc k = omega (arith, less, from.0) in
    ap₂ (λ (a b : Bool). a || b) (not_at n k apart) (none_below ks (suc k) n before from.1)

at_itself : (k : ℕ) (ks : List ℕ) (n : ℕ) → k ≡ n → has (k ∷ ks) n ≡ true
at_itself k ks n same = ap (λ (b : Bool). b || has ks n) (ap (λ (m : ℕ). is_eq (nat_cmp n m)) same ∙ itself n)

-- those that pass a test
abbrev pub chosen : (ℕ → Bool) → List ℕ → List ℕ
chosen test [] = []
chosen test (k ∷ ks) = cond (test k) (k ∷ chosen test ks) (chosen test ks)

module _ (inputs : Fields) (test : ℕ → Bool) where
  in_order : (xs : List KnownJob) (ks : List ℕ) (i : ℕ) → From i ks
      → ((n : ℕ) (k : KnownJob) → n < length xs → k ≡ get_or xs n k → any_made k.job.place inputs ≡ test (i + n))
      → ((n : ℕ) → n < length xs → test (i + n) ≡ true → has ks (i + n) ≡ true) → ((n : ℕ) → has ks n ≡ true → n < i + length xs)
      → chosen test ks ≡ parents_from i (jobs_in xs) inputs
  in_order [] [] i from tells all within = refl
  in_order [] (k ∷ ks) i from tells all within = let less : k < i + 0 = within k (at_itself k ks k refl) in absurd (omega (arith, less, from.0))
  in_order (x ∷ xs) ks i from tells all within = by ks from all within (in_order xs)
    where
      further : (n : ℕ) → i + suc n ≡ suc i + n
      further n = omega arith

      told : (n : ℕ) (k : KnownJob) → n < length xs → k ≡ get_or xs n k → any_made k.job.place inputs ≡ test (suc i + n)
      told n k below at = tells (suc n) k (omega (arith, below)) at ∙ ap test (further n)

      first : any_made x.job.place inputs ≡ test (i + 0)
      first = tells 0 x (omega arith) refl

      skipped : (ks : List ℕ) → From (suc i) ks → ((n : ℕ) → n < suc (length xs) → test (i + n) ≡ true → has ks (i + n) ≡ true) → ((n : ℕ) → has ks n ≡ true → n < i + suc (length xs))
          → ((ks : List ℕ) (i : ℕ) → From i ks → ((n : ℕ) (k : KnownJob) → n < length xs → k ≡ get_or xs n k → any_made k.job.place inputs ≡ test (i + n)) → ((n : ℕ) → n < length xs → test (i + n) ≡ true → has ks (i + n) ≡ true) → ((n : ℕ) → has ks n ≡ true → n < i + length xs) → chosen test ks ≡ parents_from i (jobs_in xs) inputs)
          → chosen test ks ≡ cond (any_made x.job.place inputs) (i ∷ parents_from (suc i) (jobs_in xs) inputs) (parents_from (suc i) (jobs_in xs) inputs)
      skipped ks from all within later = no (test (i + 0)) refl
        where
          rest : chosen test ks ≡ parents_from (suc i) (jobs_in xs) inputs
          rest = later ks (suc i) from told
              (λ n below is. subst (λ (m : ℕ). has ks m ≡ true) (further n) (all (suc n) (omega (arith, below)) (ap test (further n) ∙ is)))
              (λ n some. let less : n < i + suc (length xs) = within n some in omega (arith, less))

          no : (b : Bool) → test (i + 0) ≡ b → chosen test ks ≡ cond (any_made x.job.place inputs) (i ∷ parents_from (suc i) (jobs_in xs) inputs) (parents_from (suc i) (jobs_in xs) inputs)
          no true is = absurd (not_so (sym (none_below ks (suc i) (i + 0) (omega arith) from) ∙ all 0 (omega arith) is))
          no false is = rest ∙ sym (ap (λ (b : Bool). cond b (i ∷ parents_from (suc i) (jobs_in xs) inputs) (parents_from (suc i) (jobs_in xs) inputs)) (first ∙ is))

      by : (ks : List ℕ) → From i ks → ((n : ℕ) → n < suc (length xs) → test (i + n) ≡ true → has ks (i + n) ≡ true) → ((n : ℕ) → has ks n ≡ true → n < i + suc (length xs))
          → ((ks : List ℕ) (i : ℕ) → From i ks → ((n : ℕ) (k : KnownJob) → n < length xs → k ≡ get_or xs n k → any_made k.job.place inputs ≡ test (i + n)) → ((n : ℕ) → n < length xs → test (i + n) ≡ true → has ks (i + n) ≡ true) → ((n : ℕ) → has ks n ≡ true → n < i + length xs) → chosen test ks ≡ parents_from i (jobs_in xs) inputs)
          → chosen test ks ≡ cond (any_made x.job.place inputs) (i ∷ parents_from (suc i) (jobs_in xs) inputs) (parents_from (suc i) (jobs_in xs) inputs)
      by [] from all within later = skipped [] tt all within later
      by (k ∷ ks) from all within later = at (k == i) refl
        where
          at : (b : Bool) → (k == i) ≡ b → chosen test (k ∷ ks) ≡ cond (any_made x.job.place inputs) (i ∷ parents_from (suc i) (jobs_in xs) inputs) (parents_from (suc i) (jobs_in xs) inputs)
          at true is =
              let same : k ≡ i = eqb-true k i is in
              let rest : chosen test ks ≡ parents_from (suc i) (jobs_in xs) inputs =
              later ks (suc i) (subst (λ (m : ℕ). From (suc m) ks) same from.1) told
              (λ n below is.
              let apart : (suc i + n ≡ k → ⊥) = λ equal. omega (arith, equal, same) in
              sym (ap (λ (b : Bool). b || has ks (suc i + n)) (not_at (suc i + n) k apart))
              ∙ subst (λ (m : ℕ). has (k ∷ ks) m ≡ true) (further n) (all (suc n) (omega (arith, below)) (ap test (further n) ∙ is)))
              (λ n some. let less : n < i + suc (length xs) = within n (or_true (is_at (nat_cmp n) k) (has ks n) some) in omega (arith, less)) in
              let here : k ≡ i + 0 = omega (arith, same) in
              ap₂ (λ (m : ℕ) (tail : List ℕ). cond (test k) (m ∷ tail) tail) same rest
              ∙ ap (λ (b : Bool). cond b (i ∷ parents_from (suc i) (jobs_in xs) inputs) (parents_from (suc i) (jobs_in xs) inputs)) (ap test here ∙ sym first)
          at false other =
              let more : suc i ≤ k = omega (arith, from.0, λ (same : k ≡ i). eqb-false k i other same) in
              skipped (k ∷ ks) (more, from.1) all within later

-- whether the known job of a number made something
abbrev pub made_at : List KnownJob → Fields → ℕ → Bool
made_at known inputs n = option_map_or (λ k. any_made k.job.place inputs) (slice_get known n) false

pub made_there : (known : List KnownJob) (inputs : Fields) (n : ℕ) (k : KnownJob) → n < length known → k ≡ get_or known n k → any_made k.job.place inputs ≡ made_at known inputs n
made_there [] inputs n k below at = absurd (omega (arith, below))
made_there (x ∷ xs) inputs zero k below at = ap (λ (y : KnownJob). any_made y.job.place inputs) at
made_there (x ∷ xs) inputs (suc n) k below at = let less : n < length xs = omega (arith, below) in made_there xs inputs n k less at

element : {X : Type 0} (xs : List X) (n : ℕ) → n < length xs → (x : X) × (x ≡ get_or xs n x)
element [] n below = absurd (omega (arith, below))
element (x ∷ xs) zero below = (x, refl)
element (x ∷ xs) (suc n) below = let less : n < length xs = omega (arith, below) in element xs n less

pub parents_are : (known : List KnownJob) (inputs : Fields) (numbers : BTreeSet ℕ) → IsStrictlySortedBy nat_cmp numbers.keys → Gathers (λ job. any_made job inputs) known numbers
    → chosen (made_at known inputs) numbers.keys ≡ parents_from 0 (jobs_in known) inputs
parents_are known inputs numbers sorted gathers =
    in_order inputs (made_at known inputs) known numbers.keys 0 (from_first numbers.keys sorted)
    (λ n k below at. let same : n ≡ 0 + n = omega arith in made_there known inputs n k below at ∙ ap (made_at known inputs) same)
    (λ n below is. let one : (k : KnownJob) × (k ≡ get_or known n k) = element known n below in
    let same : n ≡ 0 + n = omega arith in
    subst (λ (m : ℕ). has numbers.keys m ≡ true) same
    (gathers.all n one.0 below one.1 (made_there known inputs n one.0 below one.1 ∙ ap (made_at known inputs) same ∙ is)))
    (λ n there. let less : n < length known = gathers.within n there in omega (arith, less))

-- the numbers that are left to be tried
pub record ParentsTo (known : List KnownJob) (inputs : Fields) (rest parents : List ℕ) : Type 0 where
  pub so_far : parents ++ chosen (made_at known inputs) rest ≡ parents_from 0 (jobs_in known) inputs
  pub within : (n : ℕ) → has rest n ≡ true → n < length known

pub parents_first : (known : List KnownJob) (inputs : Fields) (numbers : BTreeSet ℕ) → IsStrictlySortedBy nat_cmp numbers.keys → Gathers (λ job. any_made job inputs) known numbers
    → ParentsTo known inputs numbers.keys []
parents_first known inputs numbers sorted gathers = record { so_far = parents_are known inputs numbers sorted gathers; within = gathers.within }

module _ (known : List KnownJob) (inputs : Fields) (n : ℕ) (rest parents : List ℕ) (to : ParentsTo known inputs (n ∷ rest) parents) where
  pub next_within : n < length known
  next_within = to.within n (at_itself n rest n refl)

  within_rest : (m : ℕ) → has rest m ≡ true → m < length known
  within_rest m there = to.within m (or_true (is_at (nat_cmp m) n) (has rest m) there)

  pub parents_one : (k : KnownJob) → k ≡ get_or known n k → any_made k.job.place inputs ≡ true → ParentsTo known inputs rest (parents ++ n ∷ [])
  parents_one k at is = record {
    so_far = append_assoc parents (n ∷ []) (chosen (made_at known inputs) rest)
        ∙ ap (λ (tail : List ℕ). parents ++ tail) (sym (ap (λ (b : Bool). cond b (n ∷ chosen (made_at known inputs) rest) (chosen (made_at known inputs) rest)) (sym (made_there known inputs n k next_within at) ∙ is)))
        ∙ to.so_far;
    within = within_rest;
  }

  pub parents_past : (k : KnownJob) → k ≡ get_or known n k → any_made k.job.place inputs ≡ false → ParentsTo known inputs rest parents
  parents_past k at is = record {
    so_far = ap (λ (tail : List ℕ). parents ++ tail) (sym (ap (λ (b : Bool). cond b (n ∷ chosen (made_at known inputs) rest) (chosen (made_at known inputs) rest)) (sym (made_there known inputs n k next_within at) ∙ is)))
        ∙ to.so_far;
    within = within_rest;
  }

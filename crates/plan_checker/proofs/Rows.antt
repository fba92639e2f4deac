use Rattle.std.proofs.Common.{◌≡◌, ℕ, Bool, true, false, List, [], ◌∷◌, ◌++◌, length, Option, sym, refl, ap, ◌∙◌, arith}
use Rattle.std.specs.Option.{ForSome}
use Rattle.std.proofs.lemmas.List.{append_assoc}
use Rattle.plan_checker.specs.declared.plan.Mark.{Mark}
use Rattle.plan_checker.specs.declared.plan.Mark.TheVariants.{Load, Compute, Prune}
use Rattle.plan_checker.specs.declared.row.Row.{Row}
use Rattle.plan_checker.specs.declared.row.Start.{Start}
use Rattle.plan_checker.specs.Format.{IsSmall, spaced, letter, flag, load_field, pairs, row_numbers, line}
use Rattle.plan_checker.specs.inner.Reading.{EndsNumber, start_text, start_of, IsRow}
use Rattle.plan_checker.proofs.Numbers.{load_once, numbers_once, numbers_end, pairs_once}

pub letter_once : (m n : Mark) → letter m ≡ letter n → m ≡ n
letter_once Load Load e = refl
letter_once Load Compute e = absurd (omega arith)
letter_once Load Prune e = absurd (omega arith)
letter_once Compute Load e = absurd (omega arith)
letter_once Compute Compute e = refl
letter_once Compute Prune e = absurd (omega arith)
letter_once Prune Load e = absurd (omega arith)
letter_once Prune Compute e = absurd (omega arith)
letter_once Prune Prune e = refl

pub flag_once : (b c : Bool) → flag b ≡ flag c → b ≡ c
flag_once true true e = refl
flag_once true false e = absurd (omega arith)
flag_once false true e = absurd (omega arith)
flag_once false false e = refl

start_from : Mark → Bool → Option ℕ → Start
start_from m n l = record { mark = m; needed = n; load = l }

-- the start of a line is read in one way
pub start_once : (s t : Start) (a b : List ℕ) → ForSome s.load IsSmall → ForSome t.load IsSmall → ForSome s.load (λ n. EndsNumber a) → ForSome t.load (λ n. EndsNumber b) → start_text s ++ a ≡ start_text t ++ b → (s ≡ t) × (a ≡ b)
unfolding start_from
start_once s t a b ss st es et e =
    let first : letter s.mark ≡ letter t.mark = cc in
    let second : flag s.needed ≡ flag t.needed = cc in
    let tail : load_field s.load ++ a ≡ load_field t.load ++ b = cc in
    let both : (s.load ≡ t.load) × (a ≡ b) = load_once s.load t.load a b ss st es et tail in
    let marks : s.mark ≡ t.mark = letter_once s.mark t.mark first in
    let flags : s.needed ≡ t.needed = flag_once s.needed t.needed second in
    let same : start_from s.mark s.needed s.load ≡ start_from t.mark t.needed t.load =
    ap (λ m. start_from m s.needed s.load) marks ∙ ap (λ n. start_from t.mark n s.load) flags ∙ ap (λ l. start_from t.mark t.needed l) both.0
    in
    (same, both.1)

row_from : Start → ℕ → ℕ → ℕ → ℕ → List ℕ → List ℕ → Row
row_from s c e t p ps ws = record {
  job = record { load = s.load; compute = c; parents = ps; needed = s.needed };
  mark = s.mark;
  enter = e;
  through = t;
  pay = p;
  amounts = ws;
}

-- a row is its start and its numbers
pub row_once : (r q : Row) → length r.amounts ≡ length r.job.parents → length q.amounts ≡ length q.job.parents → start_of r ≡ start_of q → row_numbers r ≡ row_numbers q → r ≡ q
unfolding row_from
row_once r q hr hq s e =
    let c : r.job.compute ≡ q.job.compute = cc in
    let n : r.enter ≡ q.enter = cc in
    let t : r.through ≡ q.through = cc in
    let p : r.pay ≡ q.pay = cc in
    let ps : pairs r.job.parents r.amounts ≡ pairs q.job.parents q.amounts = cc in
    let both : (r.job.parents ≡ q.job.parents) × (r.amounts ≡ q.amounts) = pairs_once r.job.parents r.amounts q.job.parents q.amounts hr hq ps in
    let same : row_from (start_of r) r.job.compute r.enter r.through r.pay r.job.parents r.amounts ≡ row_from (start_of q) q.job.compute q.enter q.through q.pay q.job.parents q.amounts =
    ap (λ x. row_from x r.job.compute r.enter r.through r.pay r.job.parents r.amounts) s
    ∙ ap (λ x. row_from (start_of q) x r.enter r.through r.pay r.job.parents r.amounts) c
    ∙ ap (λ x. row_from (start_of q) q.job.compute x r.through r.pay r.job.parents r.amounts) n
    ∙ ap (λ x. row_from (start_of q) q.job.compute q.enter x r.pay r.job.parents r.amounts) t
    ∙ ap (λ x. row_from (start_of q) q.job.compute q.enter q.through x r.job.parents r.amounts) p
    ∙ ap (λ x. row_from (start_of q) q.job.compute q.enter q.through q.pay x r.amounts) both.0
    ∙ ap (λ x. row_from (start_of q) q.job.compute q.enter q.through q.pay q.job.parents x) both.1
    in
    same

-- a line is its start and its numbers
pub line_is : (r : Row) (x : List ℕ) → line r ++ x ≡ start_text (start_of r) ++ (spaced (row_numbers r) ++ 10 ∷ x)
line_is r x =
    append_assoc (start_text (start_of r) ++ spaced (row_numbers r)) (10 ∷ []) x
    ∙ append_assoc (start_text (start_of r)) (spaced (row_numbers r)) (10 ∷ x)

-- a line is read in one way
pub line_once : (r q : Row) (x y : List ℕ) → IsRow r → IsRow q → line r ++ x ≡ line q ++ y → (r ≡ q) × (x ≡ y)
line_once r q x y hr hq e =
    let grouped : start_text (start_of r) ++ (spaced (row_numbers r) ++ 10 ∷ x) ≡ start_text (start_of q) ++ (spaced (row_numbers q) ++ 10 ∷ y) =
    sym (line_is r x) ∙ e ∙ line_is q y
    in
    let starts : (start_of r ≡ start_of q) × (spaced (row_numbers r) ++ 10 ∷ x ≡ spaced (row_numbers q) ++ 10 ∷ y) =
    start_once (start_of r) (start_of q) _ _ hr.load_small hq.load_small (λ n h. numbers_end (row_numbers r) x) (λ n h. numbers_end (row_numbers q) y) grouped
    in
    let numbers : (row_numbers r ≡ row_numbers q) × (x ≡ y) = numbers_once (row_numbers r) (row_numbers q) x y hr.numbers_small hq.numbers_small starts.1 in
    (row_once r q hr.one_each hq.one_each starts.0 numbers.0, numbers.1)

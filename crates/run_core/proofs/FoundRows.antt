-- The rows that were found, by the numbers of their jobs: one more of them, more events, more known jobs.
use Rattle.std.specs.Prelude.{◌==◌, ◌≤◌, ◌<◌, slice_get}
use Rattle.std.specs.List.{list_all}
use Rattle.std.proofs.Common.{◌≡◌, ◌∙◌, inl, inr, ◌+◌, ℕ, zero, suc, Bool, true, false, cond, List, [], ◌∷◌, ◌++◌, length, fold, Option, Some, None, refl, sym, ap, arith}
use Rattle.std.proofs.Math.ListN.{set}
use Rattle.std.proofs.lemmas.Bool.{and_parts, eqb-true, or_parts}
use Rattle.std.proofs.lemmas.Bool.Decides.{eqb_tells}
use Rattle.std.proofs.lemmas.List.Sums.{fold-append}
use Rattle.job_graph.specs.Jobs.{Job}
use Rattle.job_graph.specs.Words.{JobPlace, is_same_place}
use Rattle.job_rows.specs.declared.row.Row.{Row}
use Rattle.run_rules.specs.Events.{Event, is_looked_up, looks_up, no_row, row_at, row_found, row_if}
use Rattle.run_rules.proofs.events.Course.{known_or_new}
use Rattle.run_rules.proofs.events.Known.{IsFront}
use Rattle.run_rules.proofs.events.Lookups.{LooksUp, is_no_answer}
use Rattle.run_rules.proofs.events.Places.{AreApart, IsJob, same_by_number}
use Rattle.run_core.specs.inner.FoundRows.{row_in, row_set}
use Rattle.run_core.specs.inner.Keeps.{AreFound}

-- One more

pub set_is : (rows : List (Option Row)) (number : ℕ) (row : Row) (before : Option Row) → slice_get rows number ≡ Some before →
    row_set number row rows ≡ set rows number (Some row)
set_is [] number row before there = absurd cc
set_is (x ∷ rows) zero row before there = refl
set_is (x ∷ rows) (suc number) row before there = ap (λ (others : List (Option Row)). x ∷ others) (set_is rows number row before there)

-- one more job without a row changes nothing of one past it
pub set_past : (rows : List (Option Row)) (number : ℕ) (row : Row) → length rows ≤ number → row_set number row (rows ++ None ∷ []) ≡ row_set number row rows
set_past [] zero row past = refl
set_past [] (suc number) row past = refl
set_past (x ∷ rows) zero row past = absurd (omega (arith, past))
set_past (x ∷ rows) (suc number) row past = ap (λ (others : List (Option Row)). x ∷ others) (set_past rows number row (omega (arith, past)))

set_few : (rows : List (Option Row)) (number : ℕ) (row : Row) (size : ℕ) → number < size → length rows ≤ size → length (row_set number row rows) ≤ size
set_few [] zero row size within few = omega (arith, within)
set_few [] (suc number) row zero within few = absurd (omega (arith, within))
set_few [] (suc number) row (suc size) within few =
    let later : length (row_set number row []) ≤ size = set_few [] number row size (omega (arith, within)) (omega arith) in omega (arith, later)
set_few (x ∷ rows) zero row size within few = few
set_few (x ∷ rows) (suc number) row zero within few = absurd (omega (arith, within))
set_few (x ∷ rows) (suc number) row (suc size) within few =
    let later : length (row_set number row rows) ≤ size = set_few rows number row size (omega (arith, within)) (omega (arith, few)) in omega (arith, later)

set_here : (rows : List (Option Row)) (number : ℕ) (row : Row) → row_in (row_set number row rows) number ≡ Some row
set_here [] zero row = refl
set_here [] (suc number) row = set_here [] number row
set_here (x ∷ rows) zero row = refl
set_here (x ∷ rows) (suc number) row = set_here rows number row

pub set_elsewhere : (rows : List (Option Row)) (number other : ℕ) (row : Row) → (number ≡ other → ⊥) → row_in (row_set number row rows) other ≡ row_in rows other
set_elsewhere [] zero zero row differ = absurd (differ refl)
set_elsewhere [] zero (suc other) row differ = refl
set_elsewhere [] (suc number) zero row differ = refl
set_elsewhere [] (suc number) (suc other) row differ = set_elsewhere [] number other row (λ same. differ (ap suc same))
set_elsewhere (x ∷ rows) zero zero row differ = absurd (differ refl)
set_elsewhere (x ∷ rows) zero (suc other) row differ = refl
set_elsewhere (x ∷ rows) (suc number) zero row differ = refl
set_elsewhere (x ∷ rows) (suc number) (suc other) row differ = set_elsewhere rows number other row (λ same. differ (ap suc same))

row_past : (rows : List (Option Row)) (number : ℕ) → length rows ≤ number → row_in rows number ≡ None
row_past [] number past = refl
row_past (x ∷ rows) zero past = absurd (omega (arith, past))
row_past (x ∷ rows) (suc number) past = row_past rows number (omega (arith, past))

-- Events

not_told : (place : JobPlace) (last : Option Row) (e : Event) → is_no_answer e ≡ true → row_if place last e ≡ last
not_told place last (row_found p row) none = absurd cc
not_told place last _ none = refl

none_told : (place : JobPlace) (last : Option Row) (new : List Event) → list_all is_no_answer new ≡ true → fold (row_if place) last new ≡ last
none_told place last [] none = refl
none_told place last (e ∷ new) none =
    ap (λ (o : Option Row). fold (row_if place) o new) (not_told place last e (and_parts (is_no_answer e) (list_all is_no_answer new) none).0)
    ∙ none_told place last new (and_parts (is_no_answer e) (list_all is_no_answer new) none).1

pub row_as_before : (es new : List Event) (place : JobPlace) → list_all is_no_answer new ≡ true → row_at (es ++ new) place ≡ row_at es place
row_as_before es new place none = fold-append (row_if place) None es new ∙ none_told place (row_at es place) new none

-- of a place that was not looked for there is no row
not_found_by : (place : JobPlace) (last : Option Row) (e : Event) → looks_up place e ≡ false → row_if place last e ≡ last
not_found_by place last (row_found p row) none = ap (λ b. cond b (Some row) last) none
not_found_by place last _ none = refl

none_found : (place : JobPlace) (last : Option Row) (es : List Event) → is_looked_up es place ≡ false → fold (row_if place) last es ≡ last
none_found place last [] none = refl
none_found place last (e ∷ es) none =
    ap (λ (o : Option Row). fold (row_if place) o es) (not_found_by place last e (or_parts (looks_up place e) (is_looked_up es place) none).0)
    ∙ none_found place last es (or_parts (looks_up place e) (is_looked_up es place) none).1

-- What is kept of them

-- before any row was looked for
pub nothing_found : (jobs : List Job) (es : List Event) → LooksUp jobs es 0 → AreFound jobs es [] 0
nothing_found jobs es looks = record {
  few = omega arith;
  each = λ n job it. none_found job.place None es (looks.unasked n job it (omega arith));
}

module _ (jobs : List Job) (es : List Event) (rows : List (Option Row)) (count : ℕ) (found : AreFound jobs es rows count) where
  pub found_still : (new : List Event) → list_all is_no_answer new ≡ true → AreFound jobs (es ++ new) rows count
  found_still new none = record { few = found.few; each = λ n job it. row_as_before es new job.place none ∙ found.each n job it }

  -- where more jobs are known
  pub more_found : (more : List Job) → IsFront jobs more → LooksUp jobs es count → LooksUp more es count → AreFound more es rows count
  more_found more leads looks looks_more = record {
    few = found.few;
    each = λ n job it. elim (known_or_new jobs more n job leads it) [
      | inl old ↦ found.each n job old
      | inr later ↦ none_found job.place None es (looks_more.unasked n job it (omega (arith, later, looks.few))) ∙ sym (row_past rows n (omega (arith, later, looks.few, found.few)))
    ];
  }

  -- the record has told what it has of the job of a number
  module _ (n : ℕ) (job : Job) (it : IsJob jobs n job) (apart : AreApart jobs) (left : count ≤ n) (looks : LooksUp jobs es count) where
    pub no_row_found : AreFound jobs (es ++ no_row job.place ∷ []) rows (n + 1)
    no_row_found = record {
      few = omega (arith, found.few, left);
      each = λ m other there. fold-append (row_if other.place) None es (no_row job.place ∷ []) ∙ found.each m other there;
    }

    one_found : (row : Row) (m : ℕ) (other : Job) → IsJob jobs m other → (same : Bool) → is_same_place job.place other.place ≡ same → ((n == m) ≡ same) →
        cond (is_same_place job.place other.place) (Some row) (row_at es other.place) ≡ row_in (row_set n row rows) m
    one_found row m other there true is number =
        ap (λ b. cond b (Some row) (row_at es other.place)) is ∙ sym (set_here rows n row) ∙ ap (row_in (row_set n row rows)) (eqb-true n m number)
    one_found row m other there false is number =
        ap (λ b. cond b (Some row) (row_at es other.place)) is ∙ found.each m other there
        ∙ sym (set_elsewhere rows n m row (λ same. elim (eqb_tells n m) [
          | inl alike ↦ (let never : true ≡ false = sym alike.0 ∙ number in cc)
          | inr differ ↦ differ.1 same
        ]))

    pub row_is_found : (row : Row) → AreFound jobs (es ++ row_found job.place row ∷ []) (row_set n row rows) (n + 1)
    row_is_found row = record {
      few = set_few rows n row (n + 1) (omega arith) (omega (arith, found.few, left));
      each = λ m other there.
          fold-append (row_if other.place) None es (row_found job.place row ∷ [])
          ∙ one_found row m other there (n == m) (same_by_number jobs apart n m job other it there) refl;
    }

-- The jobs whose files were asked for: each one is at hand, or the archive of its row is lost, whatever else happens.
use Rattle.std.specs.Prelude.{◌||◌, ◌≤◌}
use Rattle.std.specs.Option.{option_map_or}
use Rattle.std.proofs.Common.{◌≡◌, ◌∙◌, ◌⊎◌, inl, inr, ◌==◌, ◌<◌, ℕ, zero, suc, Bool, true, false, cond, List, [], ◌∷◌, ◌++◌, length, eq-eqb, Option, Some, None, bytes_eq, refl, sym, ap, arith}
use Rattle.std.proofs.lemmas.Bool.{eqb-true, or_cases, or_left, or_right}
use Rattle.std.specs.Cmp.Lexicographic.{bytes_decides}
use Rattle.job_rows.specs.declared.row.Row.{Row}
use Rattle.run_rules.specs.declared.request.RecordAnswer.{RecordAnswer}
use Rattle.run_core.specs.declared.job_states.JobState.{JobState}
use Rattle.run_core.specs.inner.Course.{Past, is_lost_in, key_in, with_answer, with_giving_up, with_hand, with_load, with_loss, with_staging}
use Rattle.run_core.specs.inner.FoundRows.{row_in, rows_after}
use Rattle.run_core.specs.inner.JobStates.{is_there, state_at}
use Rattle.run_core.specs.inner.Keeps.{AreTriedOnce, IsTriedOnce}
use Rattle.run_core.proofs.FoundRows.{set_elsewhere}
use Rattle.run_core.proofs.events.Kept.{fetched_kept, fetched_staged, fetched_with_hand, fetched_with_load, fetched_with_loss, there_kept, there_staged, there_with_hand, there_with_load, there_with_loss, tried_kept, tried_staged, tried_with_hand, tried_with_load, tried_with_loss}

-- a key that was lost is still
lost_still : (lost more : List (List ℕ)) (key : List ℕ) → is_lost_in lost key ≡ true → is_lost_in (lost ++ more) key ≡ true
lost_still [] more key is = absurd cc
lost_still (k ∷ lost) more key is = elim (or_cases (bytes_eq k key) (is_lost_in lost key) is) [
  | inl here ↦ or_left (bytes_eq k key) (is_lost_in (lost ++ more) key) here
  | inr later ↦ or_right (bytes_eq k key) (is_lost_in (lost ++ more) key) (lost_still lost more key later)
]

last_lost : (lost : List (List ℕ)) (key : List ℕ) → is_lost_in (lost ++ key ∷ []) key ≡ true
last_lost [] key = or_left (bytes_eq key key) false ((bytes_decides key key).1 refl)
last_lost (k ∷ lost) key = or_right (bytes_eq k key) (is_lost_in (lost ++ key ∷ []) key) (last_lost lost key)

-- what leaves them as they were
pub record LeavesTried (old new : Past) : Type 0 where
  pub tried : (m : ℕ) → (state_at new.jobs m).tried ≡ (state_at old.jobs m).tried
  pub fetched : (m : ℕ) → (state_at new.jobs m).fetched ≡ true → (state_at old.jobs m).fetched ≡ true
  pub there : (m : ℕ) → is_there old.jobs m ≡ true → is_there new.jobs m ≡ true
  pub rows : (m : ℕ) (row : Row) → row_in old.rows m ≡ Some row → row_in new.rows m ≡ Some row
  pub lost : (key : List ℕ) → is_lost_in old.lost key ≡ true → is_lost_in new.lost key ≡ true

tried_by : (old new : Past) → ((m : ℕ) → is_there old.jobs m ≡ true → is_there new.jobs m ≡ true) → ((m : ℕ) (row : Row) → row_in old.rows m ≡ Some row → row_in new.rows m ≡ Some row) →
    ((key : List ℕ) → is_lost_in old.lost key ≡ true → is_lost_in new.lost key ≡ true) → (m : ℕ) → IsTriedOnce old m → IsTriedOnce new m
tried_by old new there rows lost m once = record {
  row = once.row;
  found = rows m once.row once.found;
  gone = elim (or_cases (is_there old.jobs m) (is_lost_in old.lost once.row.key) once.gone) [
    | inl here ↦ or_left (is_there new.jobs m) (is_lost_in new.lost once.row.key) (there m here)
    | inr away ↦ or_right (is_there new.jobs m) (is_lost_in new.lost once.row.key) (lost once.row.key away)
  ];
}

pub tried_still : {old new : Past} → LeavesTried old new → AreTriedOnce old → AreTriedOnce new
tried_still {old = old} {new = new} leaves tried = record {
  each = λ m was. tried_by old new leaves.there leaves.rows leaves.lost m (tried.each m (sym (leaves.tried m) ∙ was));
  there = λ m was. leaves.there m (tried.there m (leaves.fetched m was));
}

-- each that leaves the jobs, the rows and what is lost
pub record SameTried (old new : Past) : Type 0 where
  pub jobs : new.jobs ≡ old.jobs
  pub rows : new.rows ≡ old.rows
  pub lost : new.lost ≡ old.lost

pub leaves_same : {old new : Past} → SameTried old new → LeavesTried old new
leaves_same same = record {
  tried = λ m. ap (λ (jobs : List JobState). (state_at jobs m).tried) same.jobs;
  fetched = λ m was. ap (λ (jobs : List JobState). (state_at jobs m).fetched) (sym same.jobs) ∙ was;
  there = λ m is. ap (λ (jobs : List JobState). is_there jobs m) same.jobs ∙ is;
  rows = λ m row is. ap (λ (rows : List (Option Row)). row_in rows m) same.rows ∙ is;
  lost = λ key is. ap (λ (lost : List (List ℕ)). is_lost_in lost key) same.lost ∙ is;
}

there_if : (b : Bool) (there : Bool) → there ≡ true → cond b true there ≡ true
there_if true there is = refl
there_if false there is = is

not_taken : (b : Bool) (was : Bool) → cond b false was ≡ true → was ≡ true
not_taken true was is = absurd cc
not_taken false was is = is

pub staging_leaves : (past : Past) (n : ℕ) → LeavesTried past (with_staging n past)
staging_leaves past n = record {
  tried = λ m. tried_staged past n m;
  fetched = λ m is. not_taken (n == m) (state_at past.jobs m).fetched (sym (fetched_staged past n m) ∙ is);
  there = λ m is. there_staged past n m ∙ is;
  rows = λ m row is. is;
  lost = λ key is. is;
}

pub giving_up_leaves : (past : Past) (n : ℕ) → n < length past.jobs → LeavesTried past (with_giving_up n past)
giving_up_leaves past n within = record {
  tried = λ m. sym (tried_kept past n within m);
  fetched = λ m is. fetched_kept past n within m ∙ is;
  there = λ m is. sym (there_kept past n within m) ∙ is;
  rows = λ m row is. is;
  lost = λ key is. is;
}

pub hand_leaves : (past : Past) (n : ℕ) → n < length past.jobs → LeavesTried past (with_hand n past)
hand_leaves past n within = record {
  tried = λ m. sym (tried_with_hand past n within m);
  fetched = λ m is. fetched_with_hand past n within m ∙ is;
  there = λ m is. sym (there_with_hand past n within m) ∙ there_if (n == m) (is_there past.jobs m) is;
  rows = λ m row is. is;
  lost = λ key is. is;
}

-- a row that was found is not looked for again
row_below : (rows : List (Option Row)) (m : ℕ) (row : Row) → row_in rows m ≡ Some row → m < length rows
row_below [] m row is = absurd cc
row_below (x ∷ rows) zero row is = omega arith
row_below (x ∷ rows) (suc m) row is = let later : m < length rows = row_below rows m row is in omega (arith, later)

rows_still : (n : ℕ) (answer : RecordAnswer) (rows : List (Option Row)) (m : ℕ) (row : Row) → length rows ≤ n → row_in rows m ≡ Some row → row_in (rows_after n answer rows) m ≡ Some row
rows_still n (RecordAnswer.Found (Some new)) rows m row few is =
    let below : m < length rows = row_below rows m row is in set_elsewhere rows n m new (λ same. omega (arith, same, below, few)) ∙ is
rows_still n (RecordAnswer.Found None) rows m row few is = is
rows_still n (RecordAnswer.Put gone) rows m row few is = is
rows_still n RecordAnswer.Done rows m row few is = is
rows_still n (RecordAnswer.Refused refusal) rows m row few is = is

pub answer_leaves : (past : Past) (n : ℕ) (answer : RecordAnswer) → length past.rows ≤ n → LeavesTried past (with_answer n answer None past)
answer_leaves past n answer few =
    record { tried = λ m. refl; fetched = λ m is. is; there = λ m is. is; rows = λ m row is. rows_still n answer past.rows m row few is; lost = λ key is. is }

-- A fetch

tried_now : (test : Bool) (n m : ℕ) (was : Bool) → (n == m) ≡ test → cond (n == m) true was ≡ true → (n ≡ m) ⊎ (was ≡ true)
tried_now true n m was same is = inl (eqb-true n m same)
tried_now false n m was differs is = inr (sym (ap (λ b. cond b true was) differs) ∙ is)

it_is_there : (past : Past) (n m : ℕ) → n ≡ m → is_there (with_load n past).jobs m ≡ true
it_is_there past n m same = sym (there_with_load past n m) ∙ ap (λ b. cond b true (is_there past.jobs m)) (itself n m same)
  where
    itself : (n m : ℕ) → n ≡ m → (n == m) ≡ true
    itself n m same = eq-eqb n m same

module _ (past : Past) (n : ℕ) (row : Row) (found : row_in past.rows n ≡ Some row) (tried : AreTriedOnce past) where
  loaded_still : (m : ℕ) → is_there past.jobs m ≡ true → is_there (with_load n past).jobs m ≡ true
  loaded_still m there = sym (there_with_load past n m) ∙ there_if (n == m) (is_there past.jobs m) there

  loaded_once : (m : ℕ) → (n ≡ m) ⊎ ((state_at past.jobs m).tried ≡ true) → IsTriedOnce (with_load n past) m
  loaded_once m (inl same) = record {
    row = row;
    found = ap (row_in past.rows) (sym same) ∙ found;
    gone = or_left (is_there (with_load n past).jobs m) (is_lost_in past.lost row.key) (it_is_there past n m same);
  }
  loaded_once m (inr was) = tried_by past (with_load n past) loaded_still (λ k r rows. rows) (λ key lost. lost) m (tried.each m was)

  loaded_there : (m : ℕ) → (n ≡ m) ⊎ ((state_at past.jobs m).fetched ≡ true) → is_there (with_load n past).jobs m ≡ true
  loaded_there m (inl same) = it_is_there past n m same
  loaded_there m (inr was) = loaded_still m (tried.there m was)

  pub load_tried : AreTriedOnce (with_load n past)
  load_tried = record {
    each = λ m is. loaded_once m (tried_now (n == m) n m (state_at past.jobs m).tried refl (tried_with_load past n m ∙ is));
    there = λ m is. loaded_there m (tried_now (n == m) n m (state_at past.jobs m).fetched refl (fetched_with_load past n m ∙ is));
  }

  missed_still : (m : ℕ) → is_there past.jobs m ≡ true → is_there (with_loss n past).jobs m ≡ true
  missed_still m there = sym (there_with_loss past n m) ∙ there

  missed_once : (m : ℕ) → (n ≡ m) ⊎ ((state_at past.jobs m).tried ≡ true) → IsTriedOnce (with_loss n past) m
  missed_once m (inl same) = record {
    row = row;
    found = ap (row_in past.rows) (sym same) ∙ found;
    gone = or_right (is_there (with_loss n past).jobs m) (is_lost_in (past.lost ++ key_in past.rows n ∷ []) row.key)
        (ap (λ (o : Option Row). is_lost_in (past.lost ++ option_map_or (λ (r : Row). r.key) o [] ∷ []) row.key) found ∙ last_lost past.lost row.key);
  }
  missed_once m (inr was) =
      tried_by past (with_loss n past) missed_still (λ k r rows. rows) (λ key lost. lost_still past.lost (key_in past.rows n ∷ []) key lost) m (tried.each m was)

  pub loss_tried : AreTriedOnce (with_loss n past)
  loss_tried = record {
    each = λ m is. missed_once m (tried_now (n == m) n m (state_at past.jobs m).tried refl (tried_with_loss past n m ∙ is));
    there = λ m is. missed_still m (tried.there m (fetched_with_loss past n m ∙ is));
  }

-- so one that can be loaded, and is not at hand, was not asked for before
pub untried : (past : Past) (n : ℕ) (row : Row) → row_in past.rows n ≡ Some row → is_there past.jobs n ≡ false → is_lost_in past.lost row.key ≡ false → AreTriedOnce past →
    (state_at past.jobs n).tried ≡ false
untried past n row found away kept tried = by (state_at past.jobs n).tried refl
  where
    some_row : (one other : Row) → Some one ≡ Some other → one ≡ other
    some_row one other same = cc

    by : (was : Bool) → (state_at past.jobs n).tried ≡ was → (state_at past.jobs n).tried ≡ false
    by false is = is
    by true is =
        let once : IsTriedOnce past n = tried.each n is in
        let same : once.row ≡ row = some_row once.row row (sym once.found ∙ found) in
        let none : (is_there past.jobs n || is_lost_in past.lost once.row.key) ≡ false =
        ap (λ b. b || is_lost_in past.lost once.row.key) away ∙ ap (λ (r : Row). is_lost_in past.lost r.key) same ∙ kept in
        let never : true ≡ false = sym once.gone ∙ none in absurd cc

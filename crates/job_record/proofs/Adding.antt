-- The archives of a migration are added one after the other.
use Rattle.std.proofs.Common.{◌≡◌, inl, inr, ℕ, ◌+◌, ◌-◌, ◌^◌, ◌<◌, min, pos, List, [], ◌∷◌, ◌++◌, length, take, get_or, Ok, Err, IsTrue, refl, sym, ap, subst, ◌∙◌, arith}
use Rattle.std.specs.Prelude.{Any}
use Rattle.std.proofs.lemmas.List as lists
use Rattle.sqlite.specs.declared.types.Value.TheVariants.{Int, Text}
use Rattle.sqlite.specs.Store.{Ghosts}
use Rattle.sqlite.specs.Order.{Row as Columns}
use Rattle.sqlite.specs.declared.error.Error.{Error}
use Rattle.sqlite.specs.State.{State, HasCleanDisk, Survives, Executes, ExecutesInside}
use Rattle.sqlite.specs.Held.{Held, state}
use Rattle.sqlite_rules.specs.Lists.{Has}
use Rattle.job_record.specs.declared.fault.RecordFault.{RecordFault}
use Rattle.job_record.specs.declared.fault.RecordFault.TheVariants.{Store}
use Rattle.job_record.specs.Columns.{Misreads}
use Rattle.job_record.specs.Archives.{add_text, archive_params}
use Rattle.job_record.specs.Opening.{HasBytes, HasNoBytes, AddsAll, migrate_texts}
use Rattle.job_record.specs.inner.Inside.{GoesOn, GoesTo}
use Rattle.job_record.specs.inner.Opened.{CannotAdd, AddsOrFails}
use Rattle.job_record.proofs.Chain.{was_clean, nothing_then, goes_then, goes_keeps, keeps_then}
use Rattle.job_record.proofs.Stepping.{goes_on}
use Rattle.job_record.proofs.Traced.{executed, not_executed, blamed_then, goes_none, goes_then as goes_to}
use Rattle.job_record.proofs.Undone.{kept_inside}

stands : (s : State) → Survives s s (λ _. ⊥)
stands s = record { clean = omega arith; shield = λ it. it; counts = omega arith; limit = refl; closes = λ clean open_now. inl open_now; crash = λ clean db may. inl may }

-- a number that was counted up is held as the count itself
params_are : (key : List ℕ) (bytes used count : ℕ) → min used (2 ^ 63 - 1) ≡ min count (2 ^ 63 - 1) → archive_params key bytes used ≡ archive_params key bytes count
params_are key bytes used count same = ap (λ n. Text key ∷ Int (pos (min bytes (2 ^ 63 - 1))) ∷ Int (pos n) ∷ []) same

abbrev most : ℕ
most = 2 ^ 64 - 1

-- it is one of the migration's statements
adds : Has migrate_texts add_text
adds = inr (inr (inl refl))

module _ {S : Type 0} (g : Ghosts S) where
  cannot_of : (at : Held S) (rows : List Columns) (fault : RecordFault) → Misreads (Any HasNoBytes rows) fault → CannotAdd g at rows fault
  cannot_of at rows fault (inl memory) = subst (CannotAdd g at rows) (sym memory) tt
  cannot_of at rows fault (inr (inl store)) = subst (CannotAdd g at rows) (sym store) (inl refl)
  cannot_of at rows fault (inr (inr unread)) = subst (CannotAdd g at rows) (sym unread.0) unread.1

  adds_more : (at now next : Held S) (used : ℕ) (all : List Columns) (c : Columns) (n : ℕ) (key : List ℕ) (bytes : ℕ) → AddsAll g at now used all → HasBytes c key bytes
      → Executes add_text (archive_params key bytes (used + length all + 1)) (state g now) (state g next) (Ok n) → AddsAll g at next used (all ++ c ∷ [])
  adds_more at now next used [] c n key bytes same has ran =
      let here = subst (λ h. Executes add_text (archive_params key bytes (used + 0 + 1)) (state g h) (state g next) (Ok n)) same ran in
      let count : used + 0 + 1 ≡ used + 1 = omega arith in
      (next, n, key, bytes, has, subst (λ u. Executes add_text (archive_params key bytes u) (state g at) (state g next) (Ok n)) count here, refl)
  adds_more at now next used (d ∷ all) c n key bytes (mid, m, k, b, first, one, rest) has ran =
      let count : used + length (d ∷ all) + 1 ≡ (used + 1) + length all + 1 = omega arith in
      (mid, m, k, b, first, one, adds_more mid now next (used + 1) all c n key bytes rest has (subst (λ u. Executes add_text (archive_params key bytes u) (state g now) (state g next) (Ok n)) count ran))

  pub record HasAdded (old now : Held S) (all : List Columns) (used : ℕ) : Type 0 where
    pub survives : Survives (state g old) (state g now) (λ _. ⊥)
    pub used_is : used ≡ min (length all) most
    pub adds : HasCleanDisk (state g now) → IsTrue (state g old).in_transaction → IsTrue (state g old).is_open → AddsAll g old now 0 all × GoesOn (state g old) (state g now) × GoesTo g migrate_texts old now

  pub adding_starts : (old : Held S) → HasAdded old old [] 0
  adding_starts old = record {
    survives = stands (state g old);
    used_is = omega arith;
    adds = λ clean going open_now. (refl, record { was_open = open_now; is_open = open_now; committed = refl; going = going }, goes_none g migrate_texts old going);
  }

  module _ (old now next : Held S) (all : List Columns) (used : ℕ) (h : HasAdded old now all used) where
    -- a row does not read
    pub row_fails : (rows : List Columns) (fault : RecordFault) → Misreads (Any HasNoBytes rows) fault → HasCleanDisk (state g now) → IsTrue (state g old).in_transaction → IsTrue (state g old).is_open → AddsOrFails g old now rows (Err fault)
    row_fails rows fault unread clean going open_now = (goes_keeps (state g old) (state g now) (h.adds clean going open_now).1, cannot_of old rows fault unread)

    module _ (key : List ℕ) (bytes again : ℕ) (survives : Survives (state g now) (state g next) (λ _. ⊥)) where
      pub both_survive : Survives (state g old) (state g next) (λ _. ⊥)
      both_survive = nothing_then (state g old) (state g now) (state g next) h.survives survives

      -- the store refuses one
      pub add_fails : (rows : List Columns) (e : Error) → (HasCleanDisk (state g next) → IsTrue (state g now).in_transaction → ExecutesInside 0 add_text (archive_params key bytes again) (state g now) (state g next) (Err e))
          → HasCleanDisk (state g next) → IsTrue (state g old).in_transaction → IsTrue (state g old).is_open → AddsOrFails g old next rows (Err (Store e))
      add_fails rows e ran clean going open_now =
          let before = h.adds (was_clean (state g now) (state g next) _ survives clean) going open_now in
          let refused = ran clean before.1.going in (
            keeps_then (state g old) (state g now) (state g next) (goes_keeps (state g old) (state g now) before.1) (kept_inside add_text (archive_params key bytes again) (state g now) (state g next) e refused),
            blamed_then g migrate_texts old now (Store e) before.2 (λ on. not_executed g migrate_texts add_text adds (archive_params key bytes again) now next e refused),
          )

      pub adds_one : (c : Columns) (n : ℕ) → HasBytes c key bytes → again ≡ min (used + 1) most
          → (HasCleanDisk (state g next) → IsTrue (state g now).in_transaction → ExecutesInside 0 add_text (archive_params key bytes again) (state g now) (state g next) (Ok n)) → HasAdded old next (all ++ c ∷ []) again
      adds_one c n has is ran = record {
        survives = both_survive;
        used_is = let long : length (all ++ c ∷ []) ≡ length all + 1 = lists.length_push all c in let before = h.used_is in omega (arith, is, before, long);
        adds = λ clean going open_now.
            let before = h.adds (was_clean (state g now) (state g next) _ survives clean) going open_now in
            let it = ran clean before.1.going in
            let low : used ≡ min (length all) most = h.used_is in
            let same : min again (2 ^ 63 - 1) ≡ min (0 + length all + 1) (2 ^ 63 - 1) = omega (arith, is, low) in
            let exact = subst (λ p. Executes add_text p (state g now) (state g next) (Ok n)) (params_are key bytes again (0 + length all + 1) same) it.0 in (
              adds_more old now next 0 all c n key bytes before.0 has exact,
              goes_then (state g old) (state g now) (state g next) before.1 (goes_on add_text (archive_params key bytes again) (state g now) (state g next) n it),
              goes_to g migrate_texts old now next before.2 (λ on. executed g migrate_texts add_text adds (archive_params key bytes again) now next n it),
            );
      }

pub taken_more : {S : Type 0} (g : Ghosts S) (old next : Held S) (rows : List Columns) (i used : ℕ) (c : Columns) → i < length rows → c ≡ get_or rows i c → HasAdded g old next (take i rows ++ c ∷ []) used → HasAdded g old next (take (i + 1) rows) used
taken_more g old next rows i used c within is h = subst (λ l. HasAdded g old next l used) (ap (λ last. take i rows ++ last ∷ []) is ∙ sym (lists.take_more rows i c within)) h

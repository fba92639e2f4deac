-- What a transaction ran, and the cause of what it refuses.
use Rattle.std.proofs.Common.{◌≡◌, ◌≢◌, ◌⊎◌, ◌<◌, ◌≤◌, inl, inr, ℕ, zero, suc, pos, nat_lt, false, true≢false, length, List, [], Ok, Err, Result, IsTrue, refl, sym, ap, subst, ◌∙◌, arith}
use Rattle.std.proofs.lemmas.Bool.{le-leb}
use Rattle.std.specs.Prelude.{IfOk, IfErr, Any}
use Rattle.sqlite.specs.Store.{Ghosts}
use Rattle.sqlite.specs.declared.types.Value.TheVariants.{Int}
use Rattle.sqlite.specs.Order.{Row, column}
use Rattle.sqlite.specs.declared.error.Error.{Error}
use Rattle.sqlite.specs.declared.error.Error.TheVariants.{QueryReturnedNoRows}
use Rattle.sqlite.specs.State.{ExecutesInside, QueriesRow, FailsToQuery, Shown}
use Rattle.sqlite.specs.Held.{Held, state}
use Rattle.sqlite_rules.specs.Lists.{Has}
use Rattle.job_record.specs.declared.fault.RecordFault.{RecordFault}
use Rattle.job_record.specs.declared.fault.RecordFault.TheVariants.{NotARecord, WrongVersion, NoRow, Store, UsesSpent, OutOfMemory}
use Rattle.job_rows.specs.Map.{greatest_number}
use Rattle.job_record.specs.Archives.{greatest_text}
use Rattle.job_record.specs.Columns.{HasNoNumber, Misreads}
use Rattle.job_record.specs.Opening.{begun}
use Rattle.job_record.specs.Blame.{HasNoArchive, RunsOn, Comes, Misshows, MeetsNone, IsSpent, Refuses, Blames}
use Rattle.job_record.specs.inner.Inside.{GoesTo, Traces, Ends, done_of}
use Rattle.job_record.specs.inner.Opened.{FailsToEnd}
use Rattle.job_record.proofs.Looking.{shown_goes, row_goes, none_goes}

module _ {S : Type 0} (g : Ghosts S) (texts : List (List ℕ)) where
  -- ---- one after the other

  ran_then : (n m : ℕ) (a b c : Held S) → RunsOn g texts n a b → RunsOn g texts m b c → (k : ℕ) × RunsOn g texts k a c
  ran_then zero m a b c same two = (m, subst (λ h. RunsOn g texts m h c) same two)
  ran_then (suc n) m a b c one two = let rest = ran_then n m one.0 b c one.2 two in (suc rest.0, (one.0, one.1, rest.1))

  comes_then : (n : ℕ) (a b : Held S) (P : Held S → Type 0) → RunsOn g texts n a b → Comes g texts b P → Comes g texts a P
  comes_then n a b P ran h = let all = ran_then n h.0 a b h.1 ran h.2 in (all.0, h.1, all.1, h.3)

  blames_then : (n : ℕ) (a b : Held S) (fault : RecordFault) → RunsOn g texts n a b → Blames g texts b fault → Blames g texts a fault
  blames_then n a b NotARecord ran h = comes_then n a b (Misshows g texts) ran h
  blames_then n a b WrongVersion ran h = h
  blames_then n a b NoRow ran h = comes_then n a b (MeetsNone g texts) ran h
  blames_then n a b (Store e) ran (inl lacks) = inl lacks
  blames_then n a b (Store e) ran (inr h) = inr (comes_then n a b (Refuses g texts e) ran h)
  blames_then n a b UsesSpent ran h = comes_then n a b (IsSpent g texts) ran h
  blames_then n a b OutOfMemory ran h = tt

  pub goes_then : (a b c : Held S) → GoesTo g texts a b → (IsTrue (state g b).in_transaction → GoesTo g texts b c) → GoesTo g texts a c
  goes_then a b c one two = let s = two one.1 in (ran_then one.0.0 s.0.0 a b c one.0.1 s.0.1, s.1)

  pub blamed_then : (a b : Held S) (fault : RecordFault) → GoesTo g texts a b → (IsTrue (state g b).in_transaction → Blames g texts b fault) → Blames g texts a fault
  blamed_then a b fault one two = blames_then one.0.0 a b fault one.0.1 (two one.1)

  pub traces_then : {T : Type 0} (a b c : Held S) (r : Result T RecordFault) → GoesTo g texts a b → (IsTrue (state g b).in_transaction → Traces g texts b c r) → Traces g texts a c r
  traces_then a b c (Ok value) one two = goes_then a b c one two
  traces_then a b c (Err fault) one two = blamed_then a b fault one two

  pub goes_none : (a : Held S) → IsTrue (state g a).in_transaction → GoesTo g texts a a
  goes_none a going = ((0, refl), going)

  -- ---- a statement of one text

  module _ (text : List ℕ) (has : Has texts text) (params : Row) (a b : Held S) where
    pub executed : (count : ℕ) → ExecutesInside 0 text params (state g a) (state g b) (Ok count) → GoesTo g texts a b
    executed count ran = ((1, (b, (text, has, params, inl (count, ran)), refl)), ran.1.mode)

    pub not_executed : (e : Error) → ExecutesInside 0 text params (state g a) (state g b) (Err e) → Blames g texts a (Store e)
    not_executed e ran = inr (0, a, refl, (b, inr (text, has, params, inl ran)))

    pub not_queried : (e : Error) → (e ≢ QueryReturnedNoRows) × QueriesRow text params (state g a) (state g b) (Err e) → Blames g texts a (Store e)
    not_queried e h = inr (0, a, refl, (b, inr (text, has, params, inr (inl h))))

    pub not_shown : (e : Error) → FailsToQuery text params (state g a) (state g b) e → Blames g texts a (Store e)
    not_shown e h = inr (0, a, refl, (b, inr (text, has, params, inr (inr h))))

    misread : (P : Type 0) (fault : RecordFault) → (P → Misshows g texts a) → Misreads P fault → Blames g texts a fault
    misread P fault shows (inl same) = subst (Blames g texts a) (sym same) tt
    misread P fault shows (inr (inl same)) = subst (Blames g texts a) (sym same) (inl refl)
    misread P fault shows (inr (inr h)) = subst (Blames g texts a) (sym h.0) (0, a, refl, shows h.1)

    pub row_read : {T : Type 0} (P : Type 0) (row : Row) → IsTrue (state g a).in_transaction → QueriesRow text params (state g a) (state g b) (Ok row) → (P → HasNoNumber row ⊎ HasNoArchive row) → (r : Result T RecordFault) → IfErr r (Misreads P) → Traces g texts a b r
    row_read P row going shown lacks (Ok value) reads = ((1, (b, (text, has, params, inr (inl (row, shown))), refl)), (row_goes text params (state g a) (state g b) going row shown).going)
    row_read P row going shown lacks (Err fault) reads = misread P fault (λ none. (b, text, has, params, inl (row, shown, lacks none))) reads

    pub none_read : IsTrue (state g a).in_transaction → QueriesRow text params (state g a) (state g b) (Err QueryReturnedNoRows) → GoesTo g texts a b
    none_read going shown = ((1, (b, (text, has, params, inr (inr (inl shown))), refl)), (none_goes text params (state g a) (state g b) going (inl shown)).going)

    pub all_read : {T : Type 0} (rows : List Row) → IsTrue (state g a).in_transaction → Shown text params (state g a) (state g b) rows → (r : Result T RecordFault) → IfErr r (Misreads (Any HasNoNumber rows)) → Traces g texts a b r
    all_read rows going shown (Ok value) reads = ((1, (b, (text, has, params, inr (inr (inr (rows, shown)))), refl)), (shown_goes text params (state g a) (state g b) going rows shown).going)
    all_read rows going shown (Err fault) reads = misread (Any HasNoNumber rows) fault (λ none. (b, text, has, params, inr (inl (rows, shown, none)))) reads

  pub meets_none : (text : List ℕ) → Has texts text → (params : Row) (a b : Held S) (met : ℕ) → ExecutesInside 0 text params (state g a) (state g b) (Ok met) → nat_lt 0 met ≡ false → MeetsNone g texts a
  meets_none text has params a b zero ran none = (b, text, has, params, inl ran)
  meets_none text has params a b (suc n) ran none = absurd (true≢false (sym (le-leb 1 (suc n) (omega arith)) ∙ none))

  pub spends : Has texts greatest_text → (a b : Held S) (row : Row) → QueriesRow greatest_text [] (state g a) (state g b) (Ok row) → (r : Result ℕ RecordFault) → IfOk r (λ n. (0 < length row) × (column row 0 ≡ Int (pos n))) → IfOk r (λ n. greatest_number ≤ n → IsSpent g texts a)
  spends has a b row shown (Ok n) reads = λ most. (b, row, has, shown, n, reads.1, most)
  spends has a b row shown (Err fault) reads = tt

  -- ---- a whole transaction

  ends_traced : {T : Type 0} (first last end : Held S) (answer result : Result T RecordFault) → Traces g texts first last answer → Ends (state g last) (state g end) answer result → FailsToEnd (state g last) (state g end) answer result → IfErr result (Blames g texts first)
  ends_traced first last end (Ok value) (Ok told) t e fails = tt
  ends_traced first last end (Ok value) (Err fault) t e fails = subst (Blames g texts first) (sym fails.1) (inr (t.0.0, last, t.0.1, (end, inl fails.2)))
  ends_traced first last end (Err why) (Ok told) t e fails = tt
  ends_traced first last end (Err why) (Err fault) t e fails = let same : fault ≡ why = let all = e.0 in cc in subst (Blames g texts first) (sym same) t

  pub traced : {T : Type 0} (old first last end : Held S) → first ≡ begun g old → (answer result : Result T RecordFault) → (IsTrue (state g first).in_transaction → Traces g texts first last answer) → Ends (state g last) (state g end) answer result → FailsToEnd (state g last) (state g end) answer result
      → IfErr result (Blames g texts (begun g old))
  traced old first last end is answer result t e fails = subst (λ h. IfErr result (Blames g texts h)) is (ends_traced first last end answer result (t (ap (λ (h : Held S). h.in_transaction) is)) e fails)

-- the answer of a part that told more
pub done_blamed : {T : Type 0} (P : RecordFault → Type 0) (r : Result T RecordFault) → IfErr r P → IfErr (done_of r) P
done_blamed P (Ok value) it = tt
done_blamed P (Err fault) it = it

-- What a query on the archives answers, inside a transaction.
use Rattle.std.proofs.Common.{◌≡◌, ◌≢◌, ◌⊎◌, inl, inr, ℕ, suc, ◌+◌, ◌-◌, ◌^◌, ◌<◌, ◌≤◌, min, pos, Bool, true, false, cond, List, [], ◌∷◌, length, map, map as mapped, drop, get_or, Option, Some, None, option_map, Ok, Err, Result, IsTrue, refl, sym, ap, subst, ap₂, ◌∙◌, true≢false, arith}
use Rattle.std.specs.Prelude.{IfOk, IfErr, Any, IsUtf8, slice_get, sum_by}
use Rattle.std.proofs.lemmas.List.Sorted.{IsPermutation-sym, sum_by-IsPermutation}
use Rattle.std.proofs.lemmas.List.Sums.{sum_by-cons}
use Rattle.sqlite.specs.declared.types.Value.{Value}
use Rattle.sqlite.specs.declared.types.Value.TheVariants.{Null, Int, Text}
use Rattle.sqlite.specs.Order.{Row, column}
use Rattle.sqlite.specs.Tree.{Trees}
use Rattle.sqlite.specs.Term.{Term, col}
use Rattle.sqlite.specs.Program.{overlay}
use Rattle.sqlite.specs.Query.{Query, Output, output, output_cmp, matches, inner, end, IsAnswer, IsSureAnswer}
use Rattle.sqlite.specs.Collation.TheVariants.{Binary}
use Rattle.sqlite_value.specs.declared.keys.Key.{Key}
use Rattle.std.specs.List.Sorted.{IsSorted}
use Rattle.sqlite.specs.declared.error.Error.{Error}
use Rattle.sqlite.specs.declared.error.Error.TheVariants.{QueryReturnedNoRows}
use Rattle.sqlite.specs.Listing.{understood}
use Rattle.sqlite.specs.State.{State, store_error, KeepsCommit, IsUnchanged, IsRolledBack, IsNotRun, FailsToShow, FailsToQuery, ShowsRows, Shown, QueriesRow, QueriesRowInside, IsTooLate}
use Rattle.sqlite.proofs.Callers.{IsPlain, first_as, reads_as}
use Rattle.sqlite_trees.specs.declared.error.StoreError.{StoreError}
use Rattle.sqlite_schema.specs.declared.command.Returning.{Returning}
use Rattle.sqlite_resolve.specs.declared.compiled.Compiled.{Compiled}
use Rattle.sqlite_rules.specs.Lists.{Has}
use Rattle.sqlite_rules.proofs.ProbeLemmas.{has_mapped, mapped_has}
use Rattle.job_rows.specs.declared.archive.Archive.{Archive}
use Rattle.job_rows.specs.Map.{greatest_used, total_bytes}
use Rattle.job_rows.specs.InStep.{AreRising}
use Rattle.job_record.specs.declared.fault.RecordFault.{RecordFault}
use Rattle.job_record.specs.declared.fault.RecordFault.TheVariants as fault
use Rattle.job_record.specs.Statements.{key_params}
use Rattle.job_record.specs.Keyed.{held_in}
use Rattle.job_record.specs.Archives.{greatest_text, oldest_text, bytes_text, all_bytes_text, archive_columns}
use Rattle.job_record.specs.Columns.{HasNoNumber, Misreads, IsText}
use Rattle.job_record.specs.Map.{KeyMap, HoldsMap}
use Rattle.job_record.specs.inner.Inside.{number_in, sum_in, GoesOn, Reads, IsOfStore, bytes_at, oldest_of}
use Rattle.job_record.proofs.ArchiveList.{IsListOf, list_of, columns_found, columns_none, find_none, find_has, total_bound}
use Rattle.job_record.specs.Commands.{query_on, has_key}
use Rattle.job_record.proofs.Compiled.{greatest_is, greatest_plain, oldest_is, oldest_plain, bytes_is, bytes_plain, all_bytes_is, all_bytes_plain}
use Rattle.job_record.proofs.Chain.{goes_keeps}
use Rattle.job_record.proofs.OneKey.{only, lacks, found_is}
use Rattle.job_record.proofs.Queries.{no_cause, row_same, shown_same, no_rows}
use Rattle.job_record.proofs.Ordered.{most, least}
use Rattle.job_record.proofs.Summed.{sum_archives}
use Rattle.sqlite_rules.proofs.ListLemmas.{any_has}
use Rattle.job_record.proofs.RowMap.{held_row, row_held}
use Rattle.job_record.proofs.Shown.{shown_rows, permuted, passes, chosen, from_chosen, in_chosen, overlay_none}
use Rattle.job_record.proofs.Standing.{archives_at, tables_of, archive_texts}

-- ---- a query on any store

module _ (sql : List ℕ) (params : Row) (old new : State) (going : IsTrue old.in_transaction) where
  unchanged_goes : IsUnchanged old new → GoesOn old new
  unchanged_goes u = record { was_open = u.0.was_open; is_open = u.0.is_open; committed = u.0.committed_is; going = u.0.mode ∙ going }

  rows_go : (c : Compiled) (full : Row) (rows : List Row) (shows : Option Returning) → ShowsRows old new sql c full rows shows → GoesOn old new
  rows_go c full rows None h = unchanged_goes h.3
  rows_go c full rows (Some what) h =
      let s = h.1.shown in
      record { was_open = s.was_open; is_open = s.is_open; committed = s.committed_is ∙ ap (λ b. cond b old.committed new.now) going; going = s.mode ∙ going }

  pub shown_goes : (rows : List Row) → Shown sql params old new rows → GoesOn old new
  unfolding Shown
  shown_goes rows h = rows_go h.0 _ rows h.0.returning h.2

  pub row_goes : (row : Row) → QueriesRowInside sql params old new (Ok row) → GoesOn old new
  unfolding QueriesRow
  row_goes row (inl h) = unchanged_goes h.1
  row_goes row (inr h) = shown_goes h.0 h.1

  refused_back : (c : Compiled) (full : Row) (e : Error) (shows : Option Returning) → FailsToShow old new sql c full e shows → IsUnchanged old new ⊎ (IsRolledBack old new × (cause : StoreError) × (e ≡ store_error cause))
  refused_back c full e None h = inl h.3
  refused_back c full e (Some what) (inl h) = inl h.1
  refused_back c full e (Some what) (inr h) = inr (h.3, h.0, h.1)

  failed_back : (e : Error) → FailsToQuery sql params old new e → IsUnchanged old new ⊎ (IsRolledBack old new × (cause : StoreError) × (e ≡ store_error cause))
  unfolding FailsToQuery IsNotRun
  failed_back e (inl (inl h)) = inl h.1
  failed_back e (inl (inr h)) = inr (h.3, h.0, h.1)
  failed_back e (inr h) = refused_back h.0 _ e h.0.returning h.2

  -- an answer with no row leaves the transaction
  pub none_goes : QueriesRowInside sql params old new (Err QueryReturnedNoRows) → GoesOn old new
  unfolding QueriesRow
  none_goes (inl (inl h)) = elim (failed_back QueryReturnedNoRows h) [ inl u ↦ unchanged_goes u | inr back ↦ absurd (no_cause back.1 back.2) ]
  none_goes (inl (inr h)) = shown_goes [] h.1
  none_goes (inr late) = absurd (true≢false (sym going ∙ late.3))

  pub keeps_on : GoesOn old new → KeepsCommit old new
  keeps_on g = record { was_open = λ _. g.was_open; committed = λ _. g.committed }

  back_keeps : (e : Error) → IsUnchanged old new ⊎ (IsRolledBack old new × (cause : StoreError) × (e ≡ store_error cause)) → KeepsCommit old new
  back_keeps e (inl u) = keeps_on (unchanged_goes u)
  back_keeps e (inr r) = record { was_open = r.0.was_open; committed = λ now. (r.0.undone now).1 }

  pub error_keeps : (e : Error) → QueriesRowInside sql params old new (Err e) → KeepsCommit old new
  unfolding QueriesRow
  error_keeps e (inl (inl h)) = back_keeps e (failed_back e h)
  error_keeps e (inl (inr h)) = keeps_on (shown_goes [] h.1)
  error_keeps e (inr late) = absurd (true≢false (sym going ∙ late.3))

  pub all_keeps : (e : Error) → FailsToQuery sql params old new e ⊎ IsTooLate sql params old new e → KeepsCommit old new
  all_keeps e (inl h) = back_keeps e (failed_back e h)
  all_keeps e (inr late) = absurd (true≢false (sym going ∙ late.3))

-- the store refuses a query
pub query_refused : {T : Type 0} (sql : List ℕ) (params : Row) (old new : State) (Told : KeyMap → T → Type 0) (e : Error) → IsTrue old.in_transaction → QueriesRowInside sql params old new (Err e) → Reads old new Told (Err (fault.Store e))
query_refused sql params old new Told e going h = (error_keeps sql params old new going e h, inl tt, λ map it given. inl tt)

pub all_refused : {T : Type 0} (sql : List ℕ) (params : Row) (old new : State) (Told : KeyMap → T → Type 0) (e : Error) → IsTrue old.in_transaction → FailsToQuery sql params old new e ⊎ IsTooLate sql params old new e → Reads old new Told (Err (fault.Store e))
all_refused sql params old new Told e going h = (all_keeps sql params old new going e h, inl tt, λ map it given. inl tt)

-- ---- what an answer is told as

-- only the record itself could have columns that do not read
misread_is : {P : Type 0} (cause : Type 0) (f : RecordFault) → Misreads cause f → ¬ cause → IsOfStore f ⊎ P
misread_is cause f (inl memory) none = inl (subst IsOfStore (sym memory) tt)
misread_is cause f (inr (inl memory)) none = inl (subst IsOfStore (sym memory) tt)
misread_is cause f (inr (inr unread)) none = absurd (none unread.1)

-- a number in the first column of a row
record IsTold (new : State) (map : KeyMap) (c : Row) (n : ℕ) : Type 0 where
  same : HoldsMap new.now map
  width : 0 < length c
  is : column c 0 ≡ Int (pos n)

number_step : (old new : State) (Told : KeyMap → ℕ → Type 0) (c : Row) → GoesOn old new → ((map : KeyMap) → HoldsMap old.now map → (n : ℕ) × IsTold new map c n × Told map n)
    → (r : Result ℕ RecordFault) → IfOk r (λ n. (0 < length c) × (column c 0 ≡ Int (pos n))) → IfErr r (Misreads (0 < length c → (n : ℕ) → column c 0 ≢ Int (pos n))) → Reads old new Told r
number_step old new Told c goes shows (Ok n) ok err = (
  goes,
  λ map it given.
      let s = shows map it in
      let e : Int (pos s.0) ≡ Int (pos n) = sym s.1.is ∙ ok.1 in
      let same : s.0 ≡ n = cc in
      (map, s.1.same, (refl, subst (Told map) same s.2)),
)
number_step old new Told c goes shows (Err f) ok err = (
  goes_keeps old new goes,
  inr goes.was_open,
  λ map it given. let s = shows map it in misread_is _ f err (λ none. none s.1.width s.0 s.1.is),
)

-- ---- the rows of the archives

after : (r : Row) (n : ℕ) → column r (suc n) ≡ column (drop 1 r) n
after [] n = refl
after (v ∷ r) n = refl

row_from : (r c : Row) → 0 < length c → drop 1 r ≡ c → r ≡ column r 0 ∷ c
row_from [] c some is = absurd (omega (arith, some, ap length is))
row_from (v ∷ r) c some is = ap (λ (l : Row). v ∷ l) is

module _ (old : State) (map : KeyMap) (it : HoldsMap old.now map) where
  abbrev pub table : List Row
  table = old.now.trees (archives_at map)

  archives : IsListOf (held_in table) map.archives
  archives = list_of table map.archives it.archives

  -- each row is that of an archive, and each archive has a row
  pub row_archive : (r : Row) → Has table r → (a : Archive) × Has map.archives a × (r ≡ column r 0 ∷ archive_columns a)
  row_archive r there =
      let k = archive_texts map.beside.schema old.now (tables_of old.now map it) r there in
      let held = held_row table k.0 it.kept.keys r there k.1 in
      let a = columns_found _ map.archives archives k.0 (drop 1 r) held in
      (a.0, a.3, row_from r (archive_columns a.0) (omega arith) a.2)

  archive_row : (a : Archive) → Has map.archives a → (r : Row) × Has table r × (r ≡ column r 0 ∷ archive_columns a)
  archive_row a there =
      let held : held_in table a.key ≡ Some (archive_columns a) = archives.there a.key ∙ ap (option_map archive_columns) (find_has map.archives a it.archives.apart there) in
      let r = row_held table a.key (archive_columns a) held in
      (r.0, r.1, row_from r.0 (archive_columns a) (omega arith) (sym r.3))

-- ---- the bytes of a key

module _ (key : List ℕ) (old new : State) where
  bytes_told : (c : Row) → QueriesRow bytes_text (key_params key) old new (Ok c) → (map : KeyMap) → HoldsMap old.now map → (n : ℕ) × IsTold new map c n × (Some n ≡ bytes_at key map)
  bytes_told c h map it =
      let t = tables_of old.now map it in
      let texts = archive_texts map.beside.schema old.now t in
      let u = row_same bytes_text (key_params key) old new (subst (λ s. IsPlain (understood s bytes_text)) (sym it.schema) (bytes_plain map.beside.schema it.has.tables)) c h in
      let got = (first_as bytes_text (key_params key) old new map.beside.schema it.schema _ (bytes_is map.beside.schema it.has.tables).0 (bytes_plain map.beside.schema it.has.tables) (bytes_is map.beside.schema it.has.tables).1 c h).1 in
      let shown = shown_rows (archives_at map) has_key (col 1 2 ∷ []) [] old.now.trees (key_params key) (c ∷ got.0) got.1 in
      let o = only (old.now.trees (archives_at map)) it.kept texts key [] (col 1 2 ∷ []) c got.0 shown in
      let found = found_is (old.now.trees (archives_at map)) it.kept texts key (key_params key) (col 1 2 ∷ []) c got.0 o in
      let a = columns_found _ map.archives (archives old map it) key (drop 1 o.row) found in
      let is : column o.row 2 ≡ Int (pos a.0.bytes) = after o.row 1 ∙ ap (λ (z : Row). column z 1) a.2 in
      let c_is : c ≡ Int (pos a.0.bytes) ∷ [] = o.first ∙ ap (λ v. v ∷ []) is in (
        a.0.bytes,
        record { same = subst (λ d. HoldsMap d map) (sym u.0.now_is) it; width = subst (λ (z : Row). 0 < length z) (sym c_is) (omega arith); is = ap (λ (z : Row). column z 0) c_is },
        sym (ap (option_map (λ (archive : Archive). archive.bytes)) a.1),
      )

  bytes_none : Shown bytes_text (key_params key) old new [] → (map : KeyMap) → HoldsMap old.now map → None ≡ bytes_at key map
  bytes_none h map it =
      let t = tables_of old.now map it in
      let read = reads_as bytes_text (key_params key) old new map.beside.schema it.schema _ (bytes_is map.beside.schema it.has.tables).0 (bytes_plain map.beside.schema it.has.tables) (bytes_is map.beside.schema it.has.tables).1 [] h in
      let none = lacks (old.now.trees (archives_at map)) it.kept (archive_texts map.beside.schema old.now t) key [] (col 1 2 ∷ []) (shown_rows (archives_at map) has_key (col 1 2 ∷ []) [] old.now.trees (key_params key) [] read.answer) in
      sym (ap (option_map (λ (archive : Archive). archive.bytes)) (find_none key map.archives (columns_none _ map.archives (archives old map it) key none)))

  pub bytes_row : (c : Row) → IsTrue old.in_transaction → QueriesRowInside bytes_text (key_params key) old new (Ok c) → (r : Result (Option ℕ) RecordFault)
      → IfOk r (λ found. (n : ℕ) × (found ≡ Some n) × (0 < length c) × (column c 0 ≡ Int (pos n))) → IfErr r (Misreads (0 < length c → (n : ℕ) → column c 0 ≢ Int (pos n))) → Reads old new (λ map b. b ≡ bytes_at key map) r
  bytes_row c going h (Ok found) ok err =
      let s = number_step old new (λ map n. Some n ≡ bytes_at key map) c (row_goes bytes_text (key_params key) old new going c h) (bytes_told c h) (Ok ok.0) (ok.2, ok.3) tt in
      (s.0, λ map it given. let t = s.1 map it given in (t.0, t.1, (t.2.0, ok.1 ∙ t.2.1)))
  bytes_row c going h (Err f) ok err = number_step old new (λ map n. Some n ≡ bytes_at key map) c (row_goes bytes_text (key_params key) old new going c h) (bytes_told c h) (Err f) tt err

  pub bytes_absent : IsTrue old.in_transaction → QueriesRowInside bytes_text (key_params key) old new (Err QueryReturnedNoRows) → Reads old new (λ map b. b ≡ bytes_at key map) (Ok None)
  bytes_absent going (inl h) = (
    none_goes bytes_text (key_params key) old new going (inl h),
    λ map it given.
        let shown = no_rows bytes_text (key_params key) old new map.beside.schema it.schema _ _ (bytes_is map.beside.schema it.has.tables).0 (bytes_plain map.beside.schema it.has.tables) h in
        let u = shown_same bytes_text (key_params key) old new (subst (λ s. IsPlain (understood s bytes_text)) (sym it.schema) (bytes_plain map.beside.schema it.has.tables)) [] shown in
        (map, subst (λ d. HoldsMap d map) (sym u.0.now_is) it, (refl, bytes_none shown map it)),
  )
  bytes_absent going (inr late) = absurd (true≢false (sym going ∙ late.3))

-- ---- the order of the uses

-- the number that an output is sorted by
abbrev sorted_by : Output → ℕ
sorted_by o = number_in (column o.0 0)

first_of : (row : Row) (tail : List Row) (os : List Output) → row ∷ tail ≡ map (λ (o : Output). o.1) os → (o : Output) × (rest : List Output) × (os ≡ o ∷ rest) × (row ≡ o.1)
first_of row tail [] is = absurd (omega (arith, ap length is))
first_of row tail (o ∷ os) is = (o, os, refl, cc)

-- the outputs of a query on all archives
module _ (tree : ℕ) (project : List Term) (order : List (Term × Key)) (db : Trees) (rows : List Row) (sure : IsSureAnswer (query_on tree [] project order) (overlay db []) [] rows) where
  abbrev q : Query
  q = query_on tree [] project order

  pub answer : IsAnswer q (overlay db []) [] rows
  answer = sure Null

  abbrev pub ordered : List Output
  ordered = answer.ordered

  abbrev every : List (List Row)
  every = matches (overlay db []) [] (inner tree end) ([] ∷ [])

  pub kept_are : answer.kept ≡ map (output q) every
  kept_are = answer.distinct ∙ ap (map (output q)) answer.grouped

  pub shown_are : rows ≡ map (λ (o : Output). o.1) ordered
  shown_are = answer.shown

  pub sorted_are : IsSorted (output_cmp q) ordered
  sorted_are = answer.sorted

  from_row : (o : Output) → Has ordered o → (r : Row) × Has (db tree) r × (o ≡ output q ([] ∷ r ∷ []))
  from_row o h =
      let e = has_mapped (output q) every o (subst (λ l. Has l o) kept_are (permuted answer.kept ordered o answer.same h)) in
      let r = from_chosen (passes [] []) (λ (z : Row). [] ∷ z ∷ []) (overlay db [] tree) e.0 e.1 in
      (r.0, subst (λ l. Has l r.0) (overlay_none db tree) r.1, e.2 ∙ ap (output q) r.3)

  row_in : (r : Row) → Has (db tree) r → Has ordered (output q ([] ∷ r ∷ []))
  row_in r h =
      let all = in_chosen (passes [] []) (λ (z : Row). [] ∷ z ∷ []) (overlay db [] tree) r (subst (λ l. Has l r) (sym (overlay_none db tree)) h) refl in
      let there = subst (λ l. Has l (output q ([] ∷ r ∷ []))) (sym kept_are) (mapped_has (output q) every ([] ∷ r ∷ []) all) in
      permuted ordered answer.kept (output q ([] ∷ r ∷ [])) (IsPermutation-sym _ _ answer.same) there

greatest_of : (xs : List Archive) (a : Archive) → Has xs a → ((b : Archive) → Has xs b → b.used ≤ a.used) → greatest_used xs ≡ a.used
greatest_of [] a there most = absurd there
greatest_of (x ∷ xs) a (inl same) most = let low = bounded xs a.used (λ b h. most b (inr h)) in let is : x.used ≡ a.used = ap (λ (z : Archive). z.used) (sym same) in omega arith
  where
    bounded : (xs : List Archive) (n : ℕ) → ((b : Archive) → Has xs b → b.used ≤ n) → greatest_used xs ≤ n
    bounded [] n all = omega arith
    bounded (x ∷ xs) n all = let first : x.used ≤ n = all x (inl refl) in let rest : greatest_used xs ≤ n = bounded xs n (λ b h. all b (inr h)) in omega arith
greatest_of (x ∷ xs) a (inr later) most = let rest = greatest_of xs a later (λ b h. most b (inr h)) in let first : x.used ≤ a.used = most x (inl refl) in omega arith

no_archive : (xs : List Archive) → ((a : Archive) → Has xs a → ⊥) → xs ≡ []
no_archive [] none = refl
no_archive (x ∷ xs) none = absurd (none x (inl refl))

pub rising_above : (last : ℕ) (xs : List Archive) (a : Archive) → AreRising last xs → Has xs a → last < a.used
rising_above last [] a rising there = absurd there
rising_above last (x ∷ xs) a rising (inl same) = subst (λ (z : Archive). last < z.used) (sym same) rising.0
rising_above last (x ∷ xs) a rising (inr later) = let next : last < x.used = rising.0 in let up : x.used < a.used = rising_above x.used xs a rising.1 later in omega arith

-- the archive whose use is the oldest comes first
first_is : (last : ℕ) (xs : List Archive) (a : Archive) → AreRising last xs → Has xs a → ((b : Archive) → Has xs b → a.used ≤ b.used) → slice_get xs 0 ≡ Some a
first_is last [] a rising there least = absurd there
first_is last (x ∷ xs) a rising (inl same) least = ap Some (sym same)
first_is last (x ∷ xs) a rising (inr later) least = absurd (let up : x.used < a.used = rising_above x.used xs a rising.1 later in let low : a.used ≤ x.used = least x (inl refl) in omega arith)

module _ (old : State) (map : KeyMap) (it : HoldsMap old.now map) (project : List Term) (down : Bool) (rows : List Row) where
  abbrev pub order : List (Term × Key)
  order = (col 1 3, record { collation = Binary; descending = down }) ∷ []

  module _ (sure : IsSureAnswer (query_on (archives_at map) [] project order) (overlay old.now.trees []) [] rows) where
    abbrev pub outs : List Output
    outs = ordered (archives_at map) project order old.now.trees rows sure

    -- each output is that of an archive
    pub out_archive : (o : Output) → Has outs o → (a : Archive) × Has map.archives a × (id : Value) × (o ≡ output (query_on (archives_at map) [] project order) ([] ∷ (id ∷ archive_columns a) ∷ []))
    out_archive o h =
        let r = from_row (archives_at map) project order old.now.trees rows sure o h in
        let a = row_archive old map it r.0 r.1 in
        (a.0, a.1, column r.0 0, r.2 ∙ ap (λ (z : Row). output (query_on (archives_at map) [] project order) ([] ∷ z ∷ [])) a.2)

    pub archive_out : (a : Archive) → Has map.archives a → (id : Value) × Has outs (output (query_on (archives_at map) [] project order) ([] ∷ (id ∷ archive_columns a) ∷ []))
    archive_out a h =
        let r = archive_row old map it a h in
        (column r.0 0, subst (λ (z : Row). Has outs (output (query_on (archives_at map) [] project order) ([] ∷ z ∷ []))) r.2 (row_in (archives_at map) project order old.now.trees rows sure r.0 r.1))

    keys_are : (o : Output) → Has outs o → o.0 ≡ Int (pos (sorted_by o)) ∷ []
    keys_are o h = let a = out_archive o h in ap (λ (p : Output). p.0) a.3 ∙ ap (λ n. Int (pos n) ∷ []) (sym (ap sorted_by a.3))

    none_out : rows ≡ [] → map.archives ≡ []
    none_out none = no_archive map.archives (λ a h. let o = archive_out a h in empty outs (output (query_on (archives_at map) [] project order) ([] ∷ (o.0 ∷ archive_columns a) ∷ [])) (sym (shown_are (archives_at map) project order old.now.trees rows sure) ∙ none) o.1)
      where
        empty : (os : List Output) (o : Output) → mapped (λ (p : Output). p.1) os ≡ [] → Has os o → ⊥
        empty [] o is there = there
        empty (p ∷ os) o is there = absurd (omega (arith, ap length is))

-- ---- the greatest number

module _ (old new : State) where
  greatest_told : (c : Row) → QueriesRow greatest_text [] old new (Ok c) → (map : KeyMap) → HoldsMap old.now map → (n : ℕ) × IsTold new map c n × (n ≡ greatest_used map.archives)
  greatest_told c h map it =
      let u = row_same greatest_text [] old new (subst (λ s. IsPlain (understood s greatest_text)) (sym it.schema) (greatest_plain map.beside.schema it.has.tables)) c h in
      let got = (first_as greatest_text [] old new map.beside.schema it.schema _ (greatest_is map.beside.schema it.has.tables).0 (greatest_plain map.beside.schema it.has.tables) (greatest_is map.beside.schema it.has.tables).1 c h).1 in
      let project = col 1 3 ∷ [] in
      let os = outs old map it project true (c ∷ got.0) got.1 in
      let first = first_of c got.0 os (shown_are (archives_at map) project (order old map it project true (c ∷ got.0)) old.now.trees (c ∷ got.0) got.1) in
      let a = out_archive old map it project true (c ∷ got.0) got.1 first.0 (subst (λ l. Has l first.0) (sym first.2) (inl refl)) in
      let c_is : c ≡ Int (pos a.0.used) ∷ [] = first.3 ∙ ap (λ (o : Output). o.1) a.3 in
      let all = most os sorted_by (keys_are old map it project true (c ∷ got.0) got.1) first.0 (sorted_are (archives_at map) project (order old map it project true (c ∷ got.0)) old.now.trees (c ∷ got.0) got.1) in
      let top : get_or os 0 first.0 ≡ first.0 = ap (λ l. get_or l 0 first.0) first.2 in
      let own : sorted_by first.0 ≡ a.0.used = ap sorted_by a.3 in
      let under : (b : Archive) → Has map.archives b → b.used ≤ a.0.used = λ b there.
      let o = archive_out old map it project true (c ∷ got.0) got.1 b there in
      let low = all _ o.1 in
      subst (λ n. b.used ≤ n) (ap sorted_by top ∙ own) low in (
        a.0.used,
        record { same = subst (λ d. HoldsMap d map) (sym u.0.now_is) it; width = subst (λ (z : Row). 0 < length z) (sym c_is) (omega arith); is = ap (λ (z : Row). column z 0) c_is },
        sym (greatest_of map.archives a.0 a.1 under),
      )

  pub greatest_row : (c : Row) → IsTrue old.in_transaction → QueriesRowInside greatest_text [] old new (Ok c) → (r : Result ℕ RecordFault) → IfOk r (λ n. (0 < length c) × (column c 0 ≡ Int (pos n)))
      → IfErr r (Misreads (0 < length c → (n : ℕ) → column c 0 ≢ Int (pos n))) → Reads old new (λ map used. used ≡ greatest_used map.archives) r
  greatest_row c going h r ok err = number_step old new (λ map used. used ≡ greatest_used map.archives) c (row_goes greatest_text [] old new going c h) (greatest_told c h) r ok err

  pub greatest_none : IsTrue old.in_transaction → QueriesRowInside greatest_text [] old new (Err QueryReturnedNoRows) → Reads old new (λ map used. used ≡ greatest_used map.archives) (Ok 0)
  greatest_none going (inl h) = (
    none_goes greatest_text [] old new going (inl h),
    λ map it given.
        let shown = no_rows greatest_text [] old new map.beside.schema it.schema _ _ (greatest_is map.beside.schema it.has.tables).0 (greatest_plain map.beside.schema it.has.tables) h in
        let u = shown_same greatest_text [] old new (subst (λ s. IsPlain (understood s greatest_text)) (sym it.schema) (greatest_plain map.beside.schema it.has.tables)) [] shown in
        let read = reads_as greatest_text [] old new map.beside.schema it.schema _ (greatest_is map.beside.schema it.has.tables).0 (greatest_plain map.beside.schema it.has.tables) (greatest_is map.beside.schema it.has.tables).1 [] shown in
        let none = none_out old map it (col 1 3 ∷ []) true [] read.answer refl in
        (map, subst (λ d. HoldsMap d map) (sym u.0.now_is) it, (refl, sym (ap greatest_used none))),
  )
  greatest_none going (inr late) = absurd (true≢false (sym going ∙ late.3))

-- ---- the oldest use

module _ (old new : State) where
  record IsOldest (map : KeyMap) (c : Row) (a : Archive) : Type 0 where
    same : HoldsMap new.now map
    is : c ≡ Text a.key ∷ Int (pos a.bytes) ∷ []
    first : slice_get map.archives 0 ≡ Some a
    utf8 : IsUtf8 a.key

  oldest_told : (c : Row) → QueriesRow oldest_text [] old new (Ok c) → (map : KeyMap) → HoldsMap old.now map → (a : Archive) × IsOldest map c a
  oldest_told c h map it =
      let u = row_same oldest_text [] old new (subst (λ s. IsPlain (understood s oldest_text)) (sym it.schema) (oldest_plain map.beside.schema it.has.tables)) c h in
      let got = (first_as oldest_text [] old new map.beside.schema it.schema _ (oldest_is map.beside.schema it.has.tables).0 (oldest_plain map.beside.schema it.has.tables) (oldest_is map.beside.schema it.has.tables).1 c h).1 in
      let project = col 1 1 ∷ col 1 2 ∷ [] in
      let os = outs old map it project false (c ∷ got.0) got.1 in
      let first = first_of c got.0 os (shown_are (archives_at map) project (order old map it project false (c ∷ got.0)) old.now.trees (c ∷ got.0) got.1) in
      let a = out_archive old map it project false (c ∷ got.0) got.1 first.0 (subst (λ l. Has l first.0) (sym first.2) (inl refl)) in
      let all = least os sorted_by (keys_are old map it project false (c ∷ got.0) got.1) first.0 (sorted_are (archives_at map) project (order old map it project false (c ∷ got.0)) old.now.trees (c ∷ got.0) got.1) in
      let top : get_or os 0 first.0 ≡ first.0 = ap (λ l. get_or l 0 first.0) first.2 in
      let own : sorted_by first.0 ≡ a.0.used = ap sorted_by a.3 in
      let over : (b : Archive) → Has map.archives b → a.0.used ≤ b.used = λ b there.
      let o = archive_out old map it project false (c ∷ got.0) got.1 b there in
      subst (λ n. n ≤ b.used) (ap sorted_by top ∙ own) (all _ o.1) in (
        a.0,
        record {
          same = subst (λ d. HoldsMap d map) (sym u.0.now_is) it;
          is = first.3 ∙ ap (λ (o : Output). o.1) a.3;
          first = first_is 0 map.archives a.0 it.archives.rising a.1 over;
          utf8 = (it.archives.within a.0 a.1).key;
        },
      )

  pub oldest_row : (c : Row) → IsTrue old.in_transaction → QueriesRowInside oldest_text [] old new (Ok c) → (r : Result (Option (List ℕ × ℕ)) RecordFault)
      → IfOk r (λ found. (key : List ℕ) × (bytes : ℕ) × (found ≡ Some (key, bytes)) × IsText (column c 0) key × (column c 1 ≡ Int (pos bytes)))
      → IfErr r (Misreads (1 < length c → (key : List ℕ) (bytes : ℕ) → IsText (column c 0) key → column c 1 ≢ Int (pos bytes))) → Reads old new (λ map first. first ≡ oldest_of map) r
  oldest_row c going h (Ok found) ok err = (
    row_goes oldest_text [] old new going c h,
    λ map it given.
        let t = oldest_told c h map it in
        let key : Text t.0.key ≡ Text ok.0 = sym (ap (λ (z : Row). column z 0) t.1.is) ∙ ok.3.0 in
        let bytes : Int (pos t.0.bytes) ≡ Int (pos ok.1) = sym (ap (λ (z : Row). column z 1) t.1.is) ∙ ok.4 in
        let keys : t.0.key ≡ ok.0 = cc in
        let sizes : t.0.bytes ≡ ok.1 = cc in
        (map, t.1.same, (refl, ok.2 ∙ sym (ap (option_map (λ (archive : Archive). (archive.key, archive.bytes))) t.1.first ∙ ap₂ (λ k b. Some (k, b)) keys sizes))),
  )
  oldest_row c going h (Err f) ok err =
      let goes = row_goes oldest_text [] old new going c h in (
        goes_keeps old new goes,
        inr goes.was_open,
        λ map it given.
            let t = oldest_told c h map it in
            let wide : 1 < length c = subst (λ (z : Row). 1 < length z) (sym t.1.is) (omega arith) in
            misread_is _ f err (λ none. none wide t.0.key t.0.bytes (ap (λ (z : Row). column z 0) t.1.is, t.1.utf8) (ap (λ (z : Row). column z 1) t.1.is)),
      )

  pub oldest_none : IsTrue old.in_transaction → QueriesRowInside oldest_text [] old new (Err QueryReturnedNoRows) → Reads old new (λ map first. first ≡ oldest_of map) (Ok None)
  oldest_none going (inl h) = (
    none_goes oldest_text [] old new going (inl h),
    λ map it given.
        let shown = no_rows oldest_text [] old new map.beside.schema it.schema _ _ (oldest_is map.beside.schema it.has.tables).0 (oldest_plain map.beside.schema it.has.tables) h in
        let u = shown_same oldest_text [] old new (subst (λ s. IsPlain (understood s oldest_text)) (sym it.schema) (oldest_plain map.beside.schema it.has.tables)) [] shown in
        let read = reads_as oldest_text [] old new map.beside.schema it.schema _ (oldest_is map.beside.schema it.has.tables).0 (oldest_plain map.beside.schema it.has.tables) (oldest_is map.beside.schema it.has.tables).1 [] shown in
        let none = none_out old map it (col 1 1 ∷ col 1 2 ∷ []) false [] read.answer refl in
        (map, subst (λ d. HoldsMap d map) (sym u.0.now_is) it, (refl, sym (ap (λ l. option_map (λ (archive : Archive). (archive.key, archive.bytes)) (slice_get l 0)) none))),
  )
  oldest_none going (inr late) = absurd (true≢false (sym going ∙ late.3))

-- ---- the sum of all

module _ (old new : State) where
  bytes_of_row : Row → ℕ
  bytes_of_row r = number_in (column r 2)

  sums_are : (all : List Row) (map : KeyMap) (it : HoldsMap old.now map) → IsSureAnswer (query_on (archives_at map) [] (col 1 2 ∷ []) []) (overlay old.now.trees []) [] all → sum_in all ≡ total_bytes map.archives
  sums_are all map it sure =
      let project = col 1 2 ∷ [] in
      let db = old.now.trees in
      let os = ordered (archives_at map) project [] db all sure in
      let shown : sum_in all ≡ sum_in (mapped (λ (o : Output). o.1) os) = ap sum_in (shown_are (archives_at map) project [] db all sure) in
      let first = sum_mapped os in
      let moved : sum_by (λ (o : Output). number_in (column o.1 0)) os ≡ sum_by (λ (o : Output). number_in (column o.1 0)) (answer (archives_at map) project [] db all sure).kept = sum_by-IsPermutation (λ (o : Output). number_in (column o.1 0)) _ _ (answer (archives_at map) project [] db all sure).same in
      let kept = ap (sum_by (λ (o : Output). number_in (column o.1 0))) (kept_are (archives_at map) project [] db all sure) in
      let rows = sum_rows_of (archives_at map) (overlay db [] (archives_at map)) in
      let at = ap (sum_by (λ (r : Row). number_in (column r 2))) (overlay_none db (archives_at map)) in
      let sums = sum_archives (db (archives_at map)) it.ordered it.kept.keys map.archives it.archives.apart (λ r h. let a = row_archive old map it r h in (a.0, a.1, (column r 0, a.2))) (λ a h. let r = archive_row old map it a h in (r.0, r.1, (column r.0 0, r.2))) in
      shown ∙ first ∙ moved ∙ kept ∙ rows ∙ at ∙ sums
    where
      sum_mapped : (os : List Output) → sum_in (mapped (λ (o : Output). o.1) os) ≡ sum_by (λ (o : Output). number_in (column o.1 0)) os
      sum_mapped [] = refl
      sum_mapped (o ∷ os) = sum_by-cons (λ c. number_in (column c 0)) o.1 (mapped (λ (o : Output). o.1) os) ∙ ap (λ n. number_in (column o.1 0) + n) (sum_mapped os) ∙ sym (sum_by-cons (λ (o : Output). number_in (column o.1 0)) o os)

      sum_rows_of : (tree : ℕ) (rows : List Row) → sum_by (λ (o : Output). number_in (column o.1 0)) (mapped (output (query_on tree [] (col 1 2 ∷ []) [])) (chosen (passes [] []) (λ (z : Row). [] ∷ z ∷ []) rows)) ≡ sum_by (λ (r : Row). number_in (column r 2)) rows
      sum_rows_of tree [] = refl
      sum_rows_of tree (r ∷ rows) = sum_by-cons (λ (o : Output). number_in (column o.1 0)) (output (query_on tree [] (col 1 2 ∷ []) []) ([] ∷ r ∷ [])) (mapped (output (query_on tree [] (col 1 2 ∷ []) [])) (chosen (passes [] []) (λ (z : Row). [] ∷ z ∷ []) rows))
          ∙ ap (λ n. number_in (column r 2) + n) (sum_rows_of tree rows) ∙ sym (sum_by-cons (λ (r : Row). number_in (column r 2)) r rows)

  -- each column is a number
  number_columns : (all : List Row) (map : KeyMap) (it : HoldsMap old.now map) → IsSureAnswer (query_on (archives_at map) [] (col 1 2 ∷ []) []) (overlay old.now.trees []) [] all → (c : Row) → Has all c → (n : ℕ) × (c ≡ Int (pos n) ∷ [])
  number_columns all map it sure c h =
      let project = col 1 2 ∷ [] in
      let o = has_mapped (λ (k : Output). k.1) (ordered (archives_at map) project [] old.now.trees all sure) c (subst (λ l. Has l c) (shown_are (archives_at map) project [] old.now.trees all sure) h) in
      let r = from_row (archives_at map) project [] old.now.trees all sure o.0 o.1 in
      let a = row_archive old map it r.0 r.1 in
      (a.0.bytes, o.2 ∙ ap (λ (k : Output). k.1) (r.2 ∙ ap (λ (z : Row). output (query_on (archives_at map) [] project []) ([] ∷ z ∷ [])) a.2))

  pub total_all : (all : List Row) → IsTrue old.in_transaction → Shown all_bytes_text [] old new all → (r : Result ℕ RecordFault) → IfOk r (λ sum. sum ≡ min (sum_in all) (2 ^ 128 - 1))
      → IfErr r (Misreads (Any HasNoNumber all)) → Reads old new (λ map bytes. bytes ≡ total_bytes map.archives) r
  total_all all going h (Ok sum) ok err = (
    shown_goes all_bytes_text [] old new going all h,
    λ map it given.
        let u = shown_same all_bytes_text [] old new (subst (λ s. IsPlain (understood s all_bytes_text)) (sym it.schema) (all_bytes_plain map.beside.schema it.has.tables)) all h in
        let read = reads_as all_bytes_text [] old new map.beside.schema it.schema _ (all_bytes_is map.beside.schema it.has.tables).0 (all_bytes_plain map.beside.schema it.has.tables) (all_bytes_is map.beside.schema it.has.tables).1 all h in
        let sums = sums_are all map it read.answer in
        let low = total_bound _ map.archives (archives old map it) in
        (map, subst (λ d. HoldsMap d map) (sym u.0.now_is) it, (refl, ok ∙ fits (sum_in all) (total_bytes map.archives) sums low)),
  )
    where
      fits : (s t : ℕ) → s ≡ t → t < 2 ^ 127 → min s (2 ^ 128 - 1) ≡ t
      fits s t is low = omega (arith, is, low)
  total_all all going h (Err f) ok err =
      let goes = shown_goes all_bytes_text [] old new going all h in (
        goes_keeps old new goes,
        inr goes.was_open,
        λ map it given.
            let read = reads_as all_bytes_text [] old new map.beside.schema it.schema _ (all_bytes_is map.beside.schema it.has.tables).0 (all_bytes_plain map.beside.schema it.has.tables) (all_bytes_is map.beside.schema it.has.tables).1 all h in
            misread_is _ f err (λ none.
            let c = any_has HasNoNumber all none in
            let n = number_columns all map it read.answer c.0 c.1 in
            c.2 (subst (λ (z : Row). 0 < length z) (sym n.1) (omega arith)) n.0 (ap (λ (z : Row). column z 0) n.1)),
      )

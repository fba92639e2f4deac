-- What the commands make of the rows that a record holds.
use Rattle.std.proofs.Common.{◌≡◌, ℕ, ℤ, pos, min, ◌-◌, ◌^◌, if◌then◌else◌, Bool, true, false, not, List, [], ◌∷◌, ◌++◌, Option, Some, None, option_map, Result, Ok, Err, IsTrue, refl, sym, ap, subst, ◌∙◌, arith}
use Rattle.std.specs.Prelude.{OnOk, OnErr, IfOk, IfSome, IsSome, bytes_eq}
use Rattle.std.specs.Ordering.{int_eq}
use Rattle.sqlite.specs.Store.{Ghosts}
use Rattle.sqlite.specs.Order.{Row as Columns}
use Rattle.sqlite.specs.declared.types.Value.TheVariants.{Int, Text}
use Rattle.sqlite.specs.Effect.{Database}
use Rattle.sqlite.specs.State.{State}
use Rattle.sqlite.specs.Held.{Held, state}
use Rattle.job_rows.specs.declared.archive.Archive.{Archive}
use Rattle.job_rows.specs.declared.row.Row.{Row}
use Rattle.job_record.proofs.KeyTest.{text_itself}
use Rattle.job_rows.specs.Map.{RowMap, Kept, reads, unread, Finds as FindsRow, Puts as PutsRow, Touches as TouchesRow, Drops as DropsRow, changed_by as rows_changed_by, sets as sets_row, touches as touches_row, unarchives as unarchives_row, unarchived as unarchived_row, has_archive, touched, without_archive, lost_for, lost_by, keeps_archive, row_after, left_for, AreSpent, AreUnspent}
use Rattle.job_rows.specs.Storable.{IsKept}
use Rattle.job_rows.specs.declared.log.Command.{Command}
use Rattle.job_rows.specs.declared.log.Entry.{Entry}
use Rattle.job_rows.specs.Log.{entries_of, told_of as told_of_row}
use Rattle.job_record.specs.Log.{told_of, Logs}
use Rattle.job_record.specs.declared.fault.RecordFault.{RecordFault}
use Rattle.job_record.specs.declared.fault.RecordFault.TheVariants.{NotARecord, WrongVersion, NoRow, Store, UsesSpent, OutOfMemory}
use Rattle.job_record.specs.declared.changes.Space.{Space}
use Rattle.job_record.specs.Texts.{texts_of, ReadsBack}
use Rattle.job_record.specs.Columns.{IsRowOf, IsUnread}
use Rattle.job_record.specs.Statements.{put_params}
use Rattle.job_record.specs.RecordMap.{Finds, AnswersOpen}
use Rattle.job_record.specs.Counted.{FitsSpace, IsCount}
use Rattle.job_record.specs.Map.{KeyMap, HoldsMap, held, unarchived, kept_as, IsRecord, IsRecordOf, FindsIn, PutsIn, TouchesIn, ChangesIn, Change, sets, touches, unarchives, changed_by}
use Rattle.job_record.specs.Crash.{IsSafe, ChangesSafely, ReadsSafely}
use Rattle.job_record.specs.Rows.{answered, AreKeptAs, IsMapOf, HoldsWithin}
use Rattle.job_record.proofs.HeldRow.{cost_fits}
use Rattle.job_record.proofs.KeptInStep.{Literal, literal_of}
use Rattle.job_record.proofs.OneRow.{row_kept, unread_kept, none_kept, some_kept}
use Rattle.job_record.proofs.Safe.{record_of}
use Rattle.job_record.proofs.Standing.{held_is, tables_of}

abbrev literal : (key outputs files : List ℕ) (cost archived : ℤ) → Columns
literal key outputs files cost archived = Text key ∷ Text outputs ∷ Text files ∷ Int cost ∷ Int archived ∷ []

-- ---- the flag at 0

unarchived_reads : (k o f : List ℕ) (m a : ℤ) (row : Row) → IsRowOf (literal k o f m a) row → IsRowOf (unarchived (literal k o f m a)) (record row { archived = false })
unarchived_reads k o f m a row h = let s = h.0 in (
  record s { archived = false },
  record { width = h.1.width; key = h.1.key; outputs = h.1.outputs; files = h.1.files; cost = h.1.cost; archived = (pos 0, refl, refl) },
  record { key = h.2.key; outputs = h.2.outputs; files = h.2.files; cost = h.2.cost; archived = refl },
)

unarchived_unread : (k o f : List ℕ) (m a : ℤ) → IsUnread (literal k o f m a) → IsUnread (unarchived (literal k o f m a))
unarchived_unread k o f m a none row h =
    let s = h.0 in
    let flag = not (int_eq a (pos 0)) in
    none (record row { archived = flag }) (
      record s { archived = flag },
      record { width = h.1.width; key = h.1.key; outputs = h.1.outputs; files = h.1.files; cost = h.1.cost; archived = (a, refl, refl) },
      record { key = h.2.key; outputs = h.2.outputs; files = h.2.files; cost = h.2.cost; archived = refl },
    )

literal_unarchived : (k o f : List ℕ) (m a : ℤ) (kept : Option Kept) → AreKeptAs (Some (literal k o f m a)) kept → AreKeptAs (Some (unarchived (literal k o f m a))) (option_map unarchived_row kept)
literal_unarchived k o f m a None are = absurd are
literal_unarchived k o f m a (Some (reads row)) are = unarchived_reads k o f m a row are
literal_unarchived k o f m a (Some unread) are = unarchived_unread k o f m a are

columns_unarchived : (c : Columns) → Literal c → (kept : Option Kept) → AreKeptAs (Some c) kept → AreKeptAs (Some (unarchived c)) (option_map unarchived_row kept)
columns_unarchived c l kept are =
    subst (λ (d : Columns). AreKeptAs (Some (unarchived d)) (option_map unarchived_row kept)) (sym l.is)
    (literal_unarchived l.key l.outputs l.files l.cost l.archived kept (subst (λ (d : Columns). AreKeptAs (Some d) kept) l.is are))

kept_unarchived : (db : Database) (map : KeyMap) → HoldsMap db map → (key : List ℕ) (o : Option Columns) → map.rows key ≡ o → (kept : Option Kept) → AreKeptAs o kept → AreKeptAs (option_map unarchived o) (option_map unarchived_row kept)
kept_unarchived db map it key None is None are = tt
kept_unarchived db map it key None is (Some k) are = absurd are
kept_unarchived db map it key (Some c) is kept are = columns_unarchived c (literal_of db map it key c is) kept are

-- ---- the row that is put

flag_reads : (b : Bool) → b ≡ not (int_eq (if b then pos 1 else pos 0) (pos 0))
flag_reads true = refl
flag_reads false = refl

put_reads : (row : Row) → ReadsBack row → min row.cost (2 ^ 63 - 1) ≡ row.cost → IsRowOf (put_params row) row
put_reads row back fits = (
  texts_of row,
  record {
    width = omega (arith);
    key = (refl, back.key);
    outputs = (refl, back.outputs);
    files = (refl, back.files);
    cost = ap (λ n. Int (pos n)) fits;
    archived = (if row.archived then pos 1 else pos 0, refl, flag_reads row.archived);
  },
  back.whole,
)

alike : (b : Bool) (c d : Option Columns) (k l : Option Kept) → AreKeptAs c k → AreKeptAs d l → AreKeptAs (if b then c else d) (if b then k else l)
alike true c d k l one other = one
alike false c d k l one other = other

-- ---- the calls

module _ {S : Type 0} (g : Ghosts S) (old new : Held S) (space space_after : Space) (map : RowMap) (h : HoldsWithin (state g old) space map) where
  abbrev before : State
  before = state g old

  abbrev after : State
  after = state g new

  abbrev columns : KeyMap
  columns = h.rows.columns

  abbrev is : IsMapOf columns map
  is = h.rows.rows

  fits : FitsSpace space columns
  fits = record {
    budget_is = sym is.budget ∙ h.budget_is;
    count = subst (IsCount space.counted) is.archives h.count;
  }

  shown : IsTrue before.is_open → IsRecordOf before columns
  shown = h.rows.safe.shown

  has : (open_then : IsTrue before.is_open) (key : List ℕ) (o : Option Columns) → held before key ≡ o → AreKeptAs o (map.rows key)
  has open_then key o at = subst (λ c. AreKeptAs c (map.rows key)) (sym (held_is before columns (shown open_then).holds key) ∙ at) (is.rows key)

  stays : space_after ≡ space → (refused : List Change) → IsSafe after columns refused → HoldsWithin after space_after map
  stays same refused safe = record {
    rows = record { columns = columns; refused = refused; safe = safe; rows = is };
    budget_is = h.budget_is ∙ sym (ap (λ (s : Space). s.budget) same);
    count = subst (λ (s : Space). IsCount s.counted map.archives) (sym same) h.count;
  }

  found : (key : List ℕ) (result : Result (Option Row) RecordFault) → Finds g old new key result → AnswersOpen before result → (IsRecord before → FindsIn before after key result) → FindsRow map key (answered result)
  found key (Ok None) raw open_then finds = none_kept (map.rows key) (has open_then key None (finds (record_of before columns (shown open_then))).0)
  found key (Ok (Some row)) raw open_then finds =
      let f = finds (record_of before columns (shown open_then)) in
      (row_kept f.0 (map.rows key) row (has open_then key (Some f.0) f.1) f.2, raw.3)
  found key (Err NotARecord) raw open_then finds =
      let f = finds (record_of before columns (shown open_then)) in
      unread_kept f.0 (map.rows key) (has open_then key (Some f.0) f.1) f.2
  found key (Err WrongVersion) raw open_then finds = raw
  found key (Err NoRow) raw open_then finds = raw
  found key (Err (Store e)) raw open_then finds = tt
  found key (Err UsesSpent) raw open_then finds = raw
  found key (Err OutOfMemory) raw open_then finds = tt

  pub finds_rows : (key : List ℕ) (result : Result (Option Row) RecordFault) → Finds g old new key result → AnswersOpen before result → (IsRecord before → FindsIn before after key result) → ReadsSafely before after → space_after ≡ space
      → FindsRow map key (answered result) × HoldsWithin after space_after map
  finds_rows key result raw open_then finds safely same = (found key result raw open_then finds, stays same h.rows.refused (safely columns h.rows.refused h.rows.safe))

  -- the map with a change
  changed : (c : Change) (next : RowMap) → IsMapOf (changed_by c columns) next → space_after.budget ≡ space.budget → (changed_by c columns).budget ≡ columns.budget → IsCount space_after.counted (changed_by c columns).archives → IsSafe after (changed_by c columns) []
      → HoldsWithin after space_after next
  changed c next map_of budget same count safe = record {
    rows = record { columns = changed_by c columns; refused = []; safe = safe; rows = map_of };
    budget_is = map_of.budget ∙ same ∙ fits.budget_is ∙ sym budget;
    count = subst (IsCount space_after.counted) (sym map_of.archives) count;
  }

  -- ---- put

  put_kept : (row : Row) → IsTrue before.is_open → (IsRecordOf before columns → IsRecordOf after (changed_by (sets row) columns)) → ReadsBack (kept_as columns.budget row) → IsRowOf (put_params (kept_as columns.budget row)) (kept_as columns.budget row)
  put_kept row open_then puts back =
      let p = puts (shown open_then) in
      let there = p.holds.rows row.key ∙ ap (λ b. if b then Some (put_params (kept_as columns.budget row)) else (if has_archive row.key (lost_for row columns.budget columns.archives) then option_map unarchived (columns.rows row.key) else columns.rows row.key)) (text_itself row.key) in
      put_reads (kept_as columns.budget row) back (cost_fits _ after.now (tables_of after.now _ p.holds) (kept_as columns.budget row) there)

  put_map : (row : Row) → IsTrue before.is_open → IsRowOf (put_params (kept_as columns.budget row)) (kept_as columns.budget row) → IsMapOf (changed_by (sets row) columns) (rows_changed_by (sets_row row) map)
  put_map row open_then reads_as = record {
    rows = λ k. subst (λ (m : Option Kept). AreKeptAs ((changed_by (sets row) columns).rows k) m) (sym (row_at k))
        (alike (bytes_eq k row.key) (Some (put_params (kept_as columns.budget row))) (if lost k then option_map unarchived (columns.rows k) else columns.rows k) (Some (reads (kept_as columns.budget row))) (if lost k then option_map unarchived_row (map.rows k) else map.rows k) reads_as
        (alike (lost k) (option_map unarchived (columns.rows k)) (columns.rows k) (option_map unarchived_row (map.rows k)) (map.rows k) (kept_unarchived before.now columns (shown open_then).holds k (columns.rows k) refl (map.rows k) (is.rows k)) (is.rows k)));
    archives = ap (λ (p : Option ℕ × List Archive). left_for row p.0 p.1) both;
    budget = is.budget;
  }
    where
      lost : List ℕ → Bool
      lost k = has_archive k (lost_for row columns.budget columns.archives)

      both : ◌≡◌ {A = Option ℕ × List Archive} (map.budget, map.archives) (columns.budget, columns.archives)
      both = λ i. (is.budget i, is.archives i)

      row_at : (k : List ℕ) → row_after row map k ≡ (if bytes_eq k row.key then Some (reads (kept_as columns.budget row)) else (if lost k then option_map unarchived_row (map.rows k) else map.rows k))
      row_at k = ap (λ (p : Option ℕ × List Archive).
          if bytes_eq k row.key then Some (reads (kept_as p.0 row)) else (if has_archive k (lost_for row p.0 p.1) then option_map unarchived_row (map.rows k) else map.rows k)) both

  pub puts_rows : (row : Row) (result : Result (List (List ℕ)) RecordFault) → AnswersOpen before result → ((columns : KeyMap) → FitsSpace space columns → IsRecordOf before columns → PutsIn columns before after row result)
      → ChangesSafely space before after (sets row) result → OnOk result (IsKept row.outputs → ReadsBack (kept_as space.budget row)) → space_after.budget ≡ space.budget
      → ((columns : KeyMap) → FitsSpace space columns → IsRecordOf before columns → OnOk result (IsCount space_after.counted (changed_by (sets row) columns).archives)) → OnErr result (space_after ≡ space)
      → PutsRow (λ next. HoldsWithin after space_after next) map row (answered result)
  puts_rows row (Ok keys) open_then puts safely back budget counts same =
      let p = puts columns fits (shown open_then) in
      let lists : lost_by row columns.budget columns.archives ≡ lost_by row map.budget map.archives = ap (λ (q : Option ℕ × List Archive). lost_by row q.0 q.1) (λ i. (sym is.budget i, sym is.archives i)) in (
        p.0 ∙ lists,
        λ keeps. subst AreUnspent (sym is.archives) (p.1 (sym (ap (keeps_archive row) is.budget) ∙ keeps)),
        λ kept.
            let reads_as = put_kept row open_then (λ it. p.2) (subst (λ b. ReadsBack (kept_as b row)) (sym fits.budget_is) (back kept)) in
            changed (sets row) _ (put_map row open_then reads_as) budget refl (counts columns fits (shown open_then)) (safely columns h.rows.refused fits h.rows.safe),
      )
  puts_rows row (Err NotARecord) open_then puts safely back budget counts same = puts columns fits (shown open_then)
  puts_rows row (Err WrongVersion) open_then puts safely back budget counts same = puts columns fits (shown open_then)
  puts_rows row (Err NoRow) open_then puts safely back budget counts same = puts columns fits (shown open_then)
  puts_rows row (Err (Store e)) open_then puts safely back budget counts same = stays same _ (safely columns h.rows.refused fits h.rows.safe)
  puts_rows row (Err UsesSpent) open_then puts safely back budget counts same =
      let p = puts columns fits (shown open_then) in
      (ap (keeps_archive row) is.budget ∙ p.0, subst AreSpent (sym is.archives) p.1, stays same _ (safely columns h.rows.refused fits h.rows.safe))
  puts_rows row (Err OutOfMemory) open_then puts safely back budget counts same = stays same _ (safely columns h.rows.refused fits h.rows.safe)

  -- ---- touch

  touch_map : (key : List ℕ) → IsMapOf (changed_by (touches key) columns) (rows_changed_by (touches_row key) map)
  touch_map key = record { rows = is.rows; archives = ap (touched key) is.archives; budget = is.budget }

  pub touches_rows : (key : List ℕ) (result : Result (Unit {0}) RecordFault) → AnswersOpen before result → ((columns : KeyMap) → FitsSpace space columns → IsRecordOf before columns → TouchesIn columns before after key result)
      → ChangesSafely space before after (touches key) result → space_after.budget ≡ space.budget
      → ((columns : KeyMap) → FitsSpace space columns → IsRecordOf before columns → OnOk result (IsCount space_after.counted (changed_by (touches key) columns).archives)) → OnErr result (space_after ≡ space)
      → TouchesRow (λ next. HoldsWithin after space_after next) map key (answered result)
  touches_rows key (Ok done) open_then touching safely budget counts same =
      let t = touching columns fits (shown open_then) in
      (ap (has_archive key) is.archives ∙ t.0, subst AreUnspent (sym is.archives) t.1, changed (touches key) _ (touch_map key) budget refl (counts columns fits (shown open_then)) (safely columns h.rows.refused fits h.rows.safe))
  touches_rows key (Err NotARecord) open_then touching safely budget counts same = touching columns fits (shown open_then)
  touches_rows key (Err WrongVersion) open_then touching safely budget counts same = touching columns fits (shown open_then)
  touches_rows key (Err NoRow) open_then touching safely budget counts same =
      (ap (has_archive key) is.archives ∙ (touching columns fits (shown open_then)).0, stays same _ (safely columns h.rows.refused fits h.rows.safe))
  touches_rows key (Err (Store e)) open_then touching safely budget counts same = stays same _ (safely columns h.rows.refused fits h.rows.safe)
  touches_rows key (Err UsesSpent) open_then touching safely budget counts same =
      let t = touching columns fits (shown open_then) in
      (ap (has_archive key) is.archives ∙ t.0, subst AreSpent (sym is.archives) t.1, stays same _ (safely columns h.rows.refused fits h.rows.safe))
  touches_rows key (Err OutOfMemory) open_then touching safely budget counts same = stays same _ (safely columns h.rows.refused fits h.rows.safe)

  -- ---- drop_archive

  unarchived_map : (key : List ℕ) → IsTrue before.is_open → IsMapOf (changed_by (unarchives key) columns) (rows_changed_by (unarchives_row key) map)
  unarchived_map key open_then = record {
    rows = λ k. alike (bytes_eq k key) (option_map unarchived (columns.rows k)) (columns.rows k) (option_map unarchived_row (map.rows k)) (map.rows k) (kept_unarchived before.now columns (shown open_then).holds k (columns.rows k) refl (map.rows k) (is.rows k)) (is.rows k);
    archives = ap (without_archive key) is.archives;
    budget = is.budget;
  }

  some_at : (key : List ℕ) (o : Option Columns) → columns.rows key ≡ o → IsSome o → (kept : Kept) × (map.rows key ≡ Some kept)
  some_at key None at some = absurd (let e = some in cc)
  some_at key (Some c) at some = some_kept c (map.rows key) (subst (λ o. AreKeptAs o (map.rows key)) at (is.rows key))

  pub drops_rows : (key : List ℕ) (result : Result (Unit {0}) RecordFault) → AnswersOpen before result → ((columns : KeyMap) → FitsSpace space columns → IsRecordOf before columns → ChangesIn (unarchives key) key columns before after result)
      → ChangesSafely space before after (unarchives key) result → space_after.budget ≡ space.budget
      → ((columns : KeyMap) → FitsSpace space columns → IsRecordOf before columns → OnOk result (IsCount space_after.counted (changed_by (unarchives key) columns).archives)) → OnErr result (space_after ≡ space)
      → DropsRow (λ next. HoldsWithin after space_after next) map key (answered result)
  drops_rows key (Ok done) open_then drops safely budget counts same =
      (some_at key (columns.rows key) refl (drops columns fits (shown open_then)).0, changed (unarchives key) _ (unarchived_map key open_then) budget refl (counts columns fits (shown open_then)) (safely columns h.rows.refused fits h.rows.safe))
  drops_rows key (Err NotARecord) open_then drops safely budget counts same = drops columns fits (shown open_then)
  drops_rows key (Err WrongVersion) open_then drops safely budget counts same = drops columns fits (shown open_then)
  drops_rows key (Err NoRow) open_then drops safely budget counts same =
      (none_kept (map.rows key) (subst (λ o. AreKeptAs o (map.rows key)) (drops columns fits (shown open_then)).0 (is.rows key)), stays same _ (safely columns h.rows.refused fits h.rows.safe))
  drops_rows key (Err (Store e)) open_then drops safely budget counts same = stays same _ (safely columns h.rows.refused fits h.rows.safe)
  drops_rows key (Err UsesSpent) open_then drops safely budget counts same = drops columns fits (shown open_then)
  drops_rows key (Err OutOfMemory) open_then drops safely budget counts same = stays same _ (safely columns h.rows.refused fits h.rows.safe)

-- ---- what is told of it

pub keyed_answered : (key : List ℕ) (r : Result (Option Row) RecordFault) → IfOk r (λ found. IfSome found (λ row. row.key ≡ key)) → IfOk (answered r) (λ found. IfSome found (λ row. row.key ≡ key))
keyed_answered key (Ok found) keyed = keyed
keyed_answered key (Err fault) keyed = tt

told_same : {T : Type 0} (r : Result T RecordFault) → told_of_row (answered r) ≡ told_of r
told_same (Ok value) = refl
told_same (Err NotARecord) = refl
told_same (Err WrongVersion) = refl
told_same (Err NoRow) = refl
told_same (Err (Store e)) = refl
told_same (Err UsesSpent) = refl
told_same (Err OutOfMemory) = refl

pub logs_answered : {T : Type 0} (command : Command) (key : List ℕ) (r : Result T RecordFault) (old new : List Entry) → Logs command key r old new → new ≡ old ++ entries_of command key (told_of_row (answered r))
logs_answered command key r old new logs = logs ∙ ap (λ told. old ++ entries_of command key told) (sym (told_same r))

-- What the statement that sets a row makes of the table.
use Rattle.std.proofs.Common.{◌≡◌, inl, inr, ℕ, ℤ, Bool, true, false, ◌&&◌, ◌||◌, cond, if◌then◌else◌, List, [], ◌∷◌, ◌++◌, drop, Option, Some, None, Ok, Err, refl, sym, ap, subst, ◌∙◌, true≢false, Ordering, Less, Equal, Greater}
use Rattle.std.specs.Str.{bytes_eq}
use Rattle.std.specs.Ordering.{is_eq}
use Rattle.std.proofs.lemmas.Cmp.{tied_itself}
use Rattle.sqlite.specs.declared.types.Value.{Value}
use Rattle.sqlite.specs.declared.types.Value.TheVariants.{Null, Int, Text}
use Rattle.sqlite.specs.Order.{Row, column, value_cmp}
use Rattle.sqlite.specs.Collation.TheVariants.{Binary}
use Rattle.sqlite_value.proofs.OrderLemmas.{value_cmp_total}
use Rattle.sqlite_sql.specs.Ops.{is_true, from_truth, binary, unary}
use Rattle.sqlite_sql.specs.declared.ops.BinaryOp.TheVariants.{Compare}
use Rattle.sqlite_sql.specs.declared.ops.CompareOp.TheVariants.{Eq}
use Rattle.sqlite.specs.Kind.TheVariants as kind
use Rattle.sqlite.specs.Cast.{cast, cast_row}
use Rattle.sqlite.specs.Tree.{Trees, rowid}
use Rattle.sqlite.specs.Schema.{Schema}
use Rattle.sqlite.specs.Term.{eval_all}
use Rattle.sqlite_schema.specs.declared.command.Conflict.TheVariants.{Abort}
use Rattle.sqlite_schema.specs.declared.command.Upsert.{Upsert}
use Rattle.sqlite_schema.specs.declared.schema.Keys.TheVariants.{Enforced}
use Rattle.sqlite.specs.Edit.{are_fresh, edit_of, taken_by, next_rowid, with_rowid, put_all, Applies}
use Rattle.sqlite.specs.Rowids.TheVariants.{Chosen, Given}
use Rattle.sqlite_trees.specs.Tree.{IsTable}
use Rattle.sqlite_rules.specs.Lists.{Has}
use Rattle.sqlite_rules.specs.Calls.{ids_of}
use Rattle.sqlite_rules.specs.Keys.{conflicts, AreConflicts}
use Rattle.sqlite_rules.specs.declared.error.Refusal.{Refusal}
use Rattle.sqlite_rules.proofs.TableLemmas.{put_all_has, put_all_keeps, put_all_adds}
use Rattle.sqlite.specs.Effect.{Database, edit_error}
use Rattle.sqlite.specs.Rows.{Task, Written, Puts, Clears, Updates, Upserts, Meets, Judged, Tries, TriesEach, shown, nothing, count_of}
use Rattle.sqlite.specs.Does.{Tally}
use Rattle.sqlite.specs.State.{State, mode_of, Executes}
use Rattle.sqlite.proofs.Callers.{runs_as, one_step}
use Rattle.job_record.specs.Places.{job_place, job_tree, job_in, archive_tree, HasRecord}
use Rattle.job_record.specs.Statements.{put_text}
use Rattle.job_record.specs.Keyed.{held_in, IsKeyed}
use Rattle.job_record.specs.Commands.{query_on, put_at, replace_tests, replace_project}
use Rattle.job_record.proofs.Compiled.{put_is, put_plain}
use Rattle.job_record.proofs.Beside.{shares_key, job_idle}
use Rattle.job_record.proofs.KeyTest.{texts_equal, same_text, text_itself}
use Rattle.job_record.proofs.RowMap.{SetsRow, set_is}
use Rattle.job_record.proofs.Shown.{AreShown, shown_rows, passes}
use Rattle.job_record.proofs.Edits.{cast_int}
use Rattle.job_record.proofs.KeyedRows.{keyed_set, fresh_apart}
use Rattle.job_record.proofs.Writing.{IsIdle, on_rows, went, same_value}
use Rattle.job_record.proofs.OneKey.{HasTexts, Only, replaces}
use Rattle.job_record.proofs.Standing.{AreTables, KeepsOthers, laid_row, others_kept, job_texts, job_alone}
use Rattle.job_record.proofs.JobRows.{Wrote}

either : (b : Bool) (x : Value) → cond b x x ≡ x
either true x = refl
either false x = refl

pub cast_null : cast kind.Integer Null ≡ Null
unfolding unary
cast_null = either _ Null

equal_is : (o : Ordering) → is_eq o ≡ true → o ≡ Equal
equal_is Less h = absurd (true≢false (sym h))
equal_is Equal h = refl
equal_is Greater h = absurd (true≢false (sym h))

truth_of : (b : Bool) → is_true (from_truth (Some b)) ≡ b
truth_of true = refl
truth_of false = refl

and_true : (b : Bool) → (b && true) ≡ b
and_true true = refl
and_true false = refl

or_false : (b : Bool) → (b || false) ≡ b
or_false true = refl
or_false false = refl

ints_equal : (m n : ℤ) → is_true (binary (Compare Eq Binary) (Int m) (Int n)) ≡ is_eq (value_cmp (Int m) (Int n))
unfolding binary
ints_equal m n = truth_of (is_eq (value_cmp (Int m) (Int n)))

-- two rows conflict if they have one key
conflict_is : (schema : Schema) → HasRecord schema → (new r : Row) → conflicts (Some (1 ∷ [])) schema.indexes (job_in schema) new r ≡ is_true (binary (Compare Eq Binary) (column r 1) (column new 1))
conflict_is schema h new r = shares_key schema h new r

module _ (schema : Schema) (old new : State) (key outputs files : List ℕ) (cost archived : ℤ) (it : AreTables schema old.now) where
  idle : IsIdle schema (job_in schema)
  idle = job_idle schema it.has

  abbrev params : Row
  params = Text key ∷ Text outputs ∷ Text files ∷ Int cost ∷ Int archived ∷ []

  abbrev table : List Row
  table = old.now.trees (job_tree schema)

  abbrev task : Task
  task = record { limit = old.step_limit; keys = Enforced; schema = schema; table = job_in schema; params = params }

  abbrev update : Upsert
  update = record { target = Some (1 ∷ []); update = Some (record { lets = []; body = query_on (job_tree schema) replace_tests replace_project [] }) }

  abbrev Sets : Trees → Type 0
  Sets after =
      (made : Row) × (drop 1 made ≡ params) × SetsRow table (after (job_tree schema)) key made × IsKeyed (after (job_tree schema)) × (after (archive_tree schema) ≡ old.now.trees (archive_tree schema))
      × KeepsOthers schema (job_tree schema) old.now.trees after

  abbrev texts : HasTexts table
  texts = job_texts schema old.now it

  -- the row that is to be inserted
  module _ (id : ℤ) (row : Row) (row_is : row ≡ Int id ∷ params) where
    row_key : column row 1 ≡ Text key
    row_key = ap (λ (r : Row). column r 1) row_is

    cast_again : cast_row (job_in schema) row ≡ Int id ∷ params
    cast_again = ap (cast_row (job_in schema)) row_is ∙ rw (cast_int id, cast_int cost, cast_int archived) refl

    meets : (r : Row) → Has table r → column r 1 ≡ Text key → conflicts (Some (1 ∷ [])) schema.indexes (job_in schema) row r ≡ true
    meets r there is = conflict_is schema it.has row r ∙ rw (is, row_key) (texts_equal key key ∙ text_itself key)

    met : (r : Row) → Has table r → conflicts (Some (1 ∷ [])) schema.indexes (job_in schema) row r ≡ true → column r 1 ≡ Text key
    met r there h =
        let laid = laid_row schema old.now it r there in
        let k : column r 1 ≡ Text laid.key = ap (λ (z : Row). column z 1) laid.is in
        let e : bytes_eq laid.key key ≡ true = sym (texts_equal laid.key key) ∙ (let f = sym (conflict_is schema it.has row r) ∙ h in rw (k, row_key) at f) in
        k ∙ ap Text (same_text laid.key key e)

    -- no row has the key
    inserts : (one : Written) → Puts task row old.now.trees (Ok one) → AreConflicts (Some (1 ∷ [])) schema.indexes (job_in schema) table row [] → Sets one.trees
    inserts one puts none =
        let edit = edit_of old.now.trees (job_in schema) [] Given 0 (row ∷ []) in
        let edited = went puts in
        let trees : one.trees ≡ edited.0 = ap (λ (w : Written). w.trees) (same_value edited.2) in
        let applies : Applies schema Enforced old.now.trees edit edited.0 = one_step schema _ old.now.trees edited.0 edit (idle (taken_by old.now.trees edit) edit.news) edited.1 in
        let made = Int id ∷ params in
        let fresh : are_fresh table (made ∷ []) ≡ true = subst (λ (z : Row). are_fresh table (z ∷ []) ≡ true) cast_again applies.fresh in
        let after : one.trees (job_tree schema) ≡ put_all table (made ∷ []) = ap (λ (t : Trees). t (job_tree schema)) trees ∙ applies.rows ∙ ap (λ (z : Row). put_all table (z ∷ [])) cast_again in
        let s : SetsRow table (put_all table (made ∷ [])) key made = record {
          keyed = refl;
          new_is = put_all_adds (made ∷ []) table made fresh (inl refl);
          sound = λ z h. elim (put_all_has (made ∷ []) table z h) [ inl is ↦ elim is [ inl same ↦ inl same | inr nothing ↦ absurd nothing ] | inr old_one ↦ inr (old_one, λ same. none.complete z old_one (meets z old_one same)) ];
          kept = λ z h other. put_all_keeps (made ∷ []) table z fresh h;
        } in
        let k = keyed_set table (put_all table (made ∷ [])) key it.keyed made s id refl (λ z h other tie. fresh_apart table made [] z fresh h tie) in
        let four = ap (λ (t : Trees). t (archive_tree schema)) trees ∙ job_alone schema it.has old.now.trees edited.0 edit refl applies in
        let others = subst (KeepsOthers schema (job_tree schema) old.now.trees) (sym trees) (others_kept schema it.has old.now.trees edited.0 edit applies) in
        (made, refl, subst (λ l. SetsRow table l key made) (sym after) s, subst IsKeyed (sym after) k, four, others)

    -- the row that has the key is replaced
    module _ (one : Written) (there r : Row) (in_table : Has table r) (r_key : column r 1 ≡ Text key) (there_is : there ≡ rowid r ∷ []) where
      abbrev at_id : ℤ
      at_id = (it.keyed.ids r in_table).0

      id_is : rowid r ≡ Int at_id
      id_is = (it.keyed.ids r in_table).1

      -- the parameters, the rowid that is there, and the row that is not inserted
      abbrev all_given : Row
      all_given = Text key ∷ Text outputs ∷ Text files ∷ Int cost ∷ Int archived ∷ Int at_id ∷ Int id ∷ Text key ∷ Text outputs ∷ Text files ∷ Int cost ∷ Int archived ∷ []

      given_is : params ++ rowid there ∷ shown (job_in schema) row ≡ all_given
      given_is = ap (λ (v : Value). params ++ v ∷ shown (job_in schema) row) (ap (λ (z : Row). rowid z) there_is ∙ id_is) ∙ ap (λ (w : Row). params ++ Int at_id ∷ shown (job_in schema) w) row_is

      tests_is : (z : Row) (j : ℤ) → rowid z ≡ Int j → passes replace_tests all_given z ≡ is_eq (value_cmp (Int j) (Int at_id))
      tests_is z j is = and_true _ ∙ ap (λ (v : Value). is_true (binary (Compare Eq Binary) v (Int at_id))) is ∙ ints_equal j at_id

      passes_itself : passes replace_tests all_given r ≡ true
      passes_itself = tests_is r at_id id_is ∙ ap is_eq (tied_itself value_cmp_total (Int at_id))

      only_it : (z : Row) → Has table z → passes replace_tests all_given z ≡ true → z ≡ r
      only_it z h good =
          let j = it.keyed.ids z h in
          let tie : value_cmp (Int j.0) (Int at_id) ≡ Equal = equal_is _ (sym (tests_is z j.0 j.1) ∙ good) in
          it.keyed.rowids z r h in_table (ap (λ (v : Value). value_cmp v (rowid r)) j.1 ∙ ap (λ (v : Value). value_cmp (Int j.0) v) id_is ∙ tie)

      the_row : (x : Row) (more : List Row) → AreShown replace_tests replace_project table all_given (x ∷ more) → Only table it.keyed texts key all_given replace_project x more
      the_row x more shows = record {
        row = r;
        there = in_table;
        key_is = r_key;
        id = at_id;
        id_is = id_is;
        first = let s = shows.sound x (inl refl) in s.3 ∙ ap (λ (z : Row). eval_all replace_project (all_given ∷ z ∷ [])) (only_it s.0 s.1 s.2);
        all = λ y h.
            let s = shows.sound x (inl refl) in
            let t = shows.sound y h in
            t.3 ∙ ap (λ (z : Row). eval_all replace_project (all_given ∷ z ∷ [])) (only_it t.0 t.1 t.2 ∙ sym (only_it s.0 s.1 s.2)) ∙ sym s.3;
      }

      made_from : (v k : Value) → v ≡ Int at_id → k ≡ Text key → cast_row (job_in schema) (v ∷ k ∷ Text outputs ∷ Text files ∷ Int cost ∷ Int archived ∷ []) ≡ Int at_id ∷ params
      made_from v k p q = rw (p, q, cast_int at_id, cast_int cost, cast_int archived) refl

      made_of : (x : Row) → x ≡ eval_all replace_project (all_given ∷ r ∷ []) → cast_row (job_in schema) (drop 1 x) ≡ Int at_id ∷ params
      made_of x is = ap (λ (z : Row). cast_row (job_in schema) (drop 1 z)) is ∙ made_from (column r 0) (column r 1) id_is r_key

      replaced_by : (rows : List Row) → AreShown replace_tests replace_project table all_given rows → (next : Trees) → Applies schema Enforced old.now.trees (edit_of old.now.trees (job_in schema) (ids_of rows) Given 1 rows) next → Sets next
      unfolding the_row
      replaced_by [] shows next applies = absurd (shows.complete r in_table passes_itself)
      replaced_by (x ∷ more) shows next applies =
          let o = the_row x more shows in
          let made = Int at_id ∷ params in
          let s = replaces schema (job_in schema) old.now.trees it.keyed texts key next all_given (drop 1 replace_project) x more o applies made (made_of x o.first) refl refl in
          let edit = edit_of old.now.trees (job_in schema) (ids_of (x ∷ more)) Given 1 (x ∷ more) in
          (made, refl, s.0, s.1, job_alone schema it.has old.now.trees next edit refl applies, others_kept schema it.has old.now.trees next edit applies)

      updates : Updates task (record { lets = []; body = query_on (job_tree schema) replace_tests replace_project [] }) (params ++ rowid there ∷ shown (job_in schema) row) old.now.trees (Ok one) → Sets one.trees
      updates h =
          let queried = went (subst (λ g. Updates task (record { lets = []; body = query_on (job_tree schema) replace_tests replace_project [] }) g old.now.trees (Ok one)) given_is h) in
          let edit = edit_of old.now.trees (job_in schema) (ids_of queried.0) Given 1 queried.0 in
          let edited = went queried.2 in
          let trees : one.trees ≡ edited.0 = ap (λ (w : Written). w.trees) (same_value edited.2) in
          let applies : Applies schema Enforced old.now.trees edit edited.0 = one_step schema _ old.now.trees edited.0 edit (idle (taken_by old.now.trees edit) edit.news) edited.1 in
          subst Sets (sym trees) (replaced_by queried.0 (shown_rows (job_tree schema) replace_tests replace_project [] old.now.trees all_given queried.0 queried.1.answer) edited.0 applies)

    clears : (one : Written) (found : List Row) → Clears task Abort row old.now.trees found (Ok one) → Puts task row old.now.trees (Ok one)
    clears one [] h = h
    clears one (x ∷ more) h = h

    upserted : (one : Written) (found : List Row) → AreConflicts (Some (1 ∷ [])) schema.indexes (job_in schema) table row found
        → Meets task (Upserts task Abort row old.now.trees []) row old.now.trees update found (Ok one) → Sets one.trees
    upserted one [] among h = inserts one (clears one h.0 h.2) among
    upserted one (x ∷ more) among h = let s = among.sound x (inl refl) in updates one x s.0 s.1 (met s.0 s.1 s.2) s.3 h

    judged : (one : Written) (verdict : Option Refusal) → Judged task Abort (update ∷ []) row old.now.trees verdict (Ok one) → Sets one.trees
    judged one None h = upserted one h.0 h.1 h.2
    judged one (Some why) h = absurd (let e : Ok one ≡ Err (Some (edit_error why)) = h in cc)

    tries : (one : Written) → Tries task Abort (update ∷ []) row old.now.trees (Ok one) → Sets one.trees
    tries one (inl h) = absurd (let e = h.1 in cc)
    tries one (inr h) = judged one h.0 h.2

  -- ---- the whole

  abbrev new_row : Row
  new_row = with_rowid Chosen table (cast_row (job_in schema) (Null ∷ params))

  new_row_is : new_row ≡ Int (next_rowid table) ∷ params
  new_row_is = rw (cast_null, cast_int cost, cast_int archived) refl

  pub puts : (count : ℕ) → Executes put_text params old new (Ok count) → Wrote schema old.now new.now (λ k. if bytes_eq k key then Some params else held_in table k)
  puts count h =
      let w = runs_as put_text params old new schema it.schema (put_at (job_place schema) (job_tree schema)) (put_is schema it.has.tables) (put_plain schema it.has.tables) count h in
      let done = went (on_rows old.step_limit (mode_of old) params old.now schema it.schema (job_place schema) (job_in schema) it.has.tables.job.placed (put_at (job_place schema) (job_tree schema)) w.tally new.now w.changed) in
      let end = same_value (went (went done.2).2).2 in
      let sourced = went done.1 in
      let counter = went sourced.2 in
      let tried = went counter.2 in
      let counted = went tried.2 in
      let each = subst (λ rows. TriesEach task Abort (update ∷ []) rows (count_of counter.0) (nothing old.now.trees) (Ok tried.0)) sourced.1.1 tried.1 in
      let one = went each in
      let s = tries (next_rowid table) new_row new_row_is one.0 one.1 in
      let last : tried.0.0.trees ≡ one.0.trees = ap (λ (p : Written × ℤ). p.0.trees) (same_value one.2) in
      let written : done.0.trees ≡ one.0.trees = ap (λ (it : Written). it.trees) (same_value counted.2) ∙ same_value counted.1 ∙ last in
      let now : new.now.trees ≡ one.0.trees = ap (λ (p : Tally × Database). p.1.trees) end ∙ written in
      let s : Sets new.now.trees = subst Sets (sym now) s in
      record {
        tables = record { schema = ap (λ (p : Tally × Database). p.1.schema) end; has = it.has; sound = w.sound; keyed = s.3; kept = subst IsKeyed (sym s.4) it.kept; ordered = subst IsTable (sym s.4) it.ordered };
        rows_are = λ k. set_is table (new.now.trees (job_tree schema)) key s.0 s.2 it.keyed.keys k ∙ ap (λ (c : Row). if bytes_eq k key then Some c else held_in table k) s.1;
        archives_are = s.4;
        others_are = s.5;
      }

-- What opening a record makes of the map, and what it may leave to a crash.
use Rattle.std.proofs.Common.{◌≡◌, ◌⊎◌, inl, inr, ℕ, pos, false, true, Bool, List, [], ◌∷◌, codes, Option, None, Ok, Err, Result, IsTrue, refl, sym, ap, subst, ◌∙◌, true≢false}
use Rattle.std.specs.Prelude.{IsOk}
use Rattle.sqlite.specs.Store.{Ghosts}
use Rattle.sqlite.specs.declared.types.Value.TheVariants.{Text}
use Rattle.sqlite.specs.Order.{Row as Columns, column}
use Rattle.sqlite.specs.Schema.{Schema}
use Rattle.sqlite.specs.Tree.{Trees}
use Rattle.sqlite.specs.declared.error.Error.{Error}
use Rattle.sqlite.specs.Effect.{Database, IsDatabase}
use Rattle.sqlite.specs.Listing.{understood}
use Rattle.sqlite.specs.State.{State, HasCleanDisk, Survives, IsUnchanged, IsRolledBack, IsNotRun, CommitsShowing}
use Rattle.sqlite.specs.Held.{Held, state}
use Rattle.sqlite.proofs.Callers.{IsPlain, unchanged_then, never_commits}
use Rattle.sqlite.proofs.StateLemmas.{survives_then, survives_weaker}
use Rattle.sqlite_trees.specs.Tree.{IsTable}
use Rattle.sqlite_rules.specs.Lists.{Has}
use Rattle.job_record.specs.declared.fault.RecordFault.{RecordFault}
use Rattle.job_record.specs.declared.fault.RecordFault.TheVariants.{NotARecord, WrongVersion, NoRow, Store, UsesSpent, OutOfMemory}
use Rattle.job_record.specs.declared.making.Tables.{Tables}
use Rattle.job_record.specs.declared.making.Tables.TheVariants as tables
use Rattle.job_record.specs.Places.{meta_tree, job_tree, archive_tree, HasRecord, HasFirst, IsVacant}
use Rattle.job_record.specs.Statements.{version_text, list_text}
use Rattle.job_record.specs.Archives.{look_text, AreArchives}
use Rattle.job_record.specs.Keyed.{held_in, IsKeyed}
use Rattle.job_record.specs.Map.{KeyMap, no_columns, migrated_beside, HoldsMap, IsInStep, IsRecord, IsRecordOf, Stands}
use Rattle.job_record.specs.Opening.{AreThere, ReadsVersion, GoesBack, Makes, Migrates, IsUnready, IsUndone, Opens}
use Rattle.job_record.specs.OpenMap.{IsBlank, IsFirst, AreArchivesOf, IsMigrated, SaysVersion, OpensAs, RefusesAs, AreEmptyRecord, AreMigrated, CrashesAs}
use Rattle.job_record.specs.inner.Opened.{HasThese, OpensMap, CommitsTables, CommitsMigrated, CommitsFirst}
use Rattle.job_record.proofs.ArchiveMade.{archive_free}
use Rattle.job_record.proofs.Chain.{left_trees}
use Rattle.job_record.proofs.Compiled.{version_plain, version_absent, version_first, look_absent, look_plain}
use Rattle.job_record.proofs.Made.{AreMade, version_noted, tables_made}
use Rattle.job_record.proofs.MapSteps.{same_shows}
use Rattle.job_record.proofs.Migrated.{keyed_none, no_list, migrated, says_two}
use Rattle.job_record.proofs.Queries.{row_same, error_same}
use Rattle.job_record.proofs.Renoted.{version_row}
use Rattle.job_record.proofs.TablesMade.{record_made, other_was}

-- ---- which tables there are

module _ (s : State) where
  -- a store in which there is room
  pub blank_none : (job archive : Bool) → IsBlank s → AreThere s.now.schema true job archive → ⊥
  blank_none job archive b h = absurd (true≢false (sym (subst IsOk (version_absent s.now.schema (b.schema.takes.meta, b.schema.meta.0, b.schema.meta.1)) h.meta_is)))

  -- one of version 1
  first_some : (job archive : Bool) → IsFirst s → AreThere s.now.schema false job archive → ⊥
  first_some job archive f h = subst IsPlain h.meta_is (version_first s.now.schema f.schema)

  first_fewer : (meta job : Bool) → IsFirst s → AreThere s.now.schema meta job true → ⊥
  first_fewer meta job f h = absurd (true≢false (sym (subst IsOk (look_absent s.now.schema (archive_free s.now.schema f.schema)) h.archive_is)))

  -- a record
  record_some : (job archive : Bool) → IsRecord s → AreThere s.now.schema false job archive → ⊥
  record_some job archive it h = subst IsPlain h.meta_is (version_plain s.now.schema it.schema.tables)

  record_all : (meta job : Bool) → IsRecord s → AreThere s.now.schema meta job false → ⊥
  record_all meta job it h = subst IsPlain h.archive_is (look_plain s.now.schema it.schema.tables)

-- ---- the store is as it was

-- the last commit is what is seen, and no transaction is open
pub record IsAtRest (s : State) : Type 0 where
  pub settled : s.committed ≡ s.now
  pub autocommit : s.in_transaction ≡ false

abbrev IsBack : State → State → Type 0
IsBack old new = IsTrue new.is_open → (new.now ≡ old.now) × (new.committed ≡ old.now) × (new.in_transaction ≡ false)

module _ (old new : State) (rest : IsAtRest old) where
  same_back : IsUnchanged old new → IsBack old new
  same_back u open_now = (u.0.now_is, u.0.committed_is ∙ rest.settled, u.0.mode ∙ rest.autocommit)

  undone_back : IsUnchanged old new ⊎ IsRolledBack old new → IsBack old new
  undone_back (inl u) open_now = same_back u open_now
  undone_back (inr r) open_now = let u = r.undone open_now in (u.0 ∙ rest.settled, u.1 ∙ rest.settled, r.autocommit)

  same_rest : IsUnchanged old new → IsAtRest new
  same_rest u = record { settled = u.0.committed_is ∙ rest.settled ∙ sym u.0.now_is; autocommit = u.0.mode ∙ rest.autocommit }

  goes_back : GoesBack old new → IsBack old new
  goes_back b open_now = let u = b.0 open_now in (u.0 ∙ rest.settled, u.1 ∙ rest.settled, b.1)

-- also by way of a state in which nothing was changed
back_from : (old at new : State) → IsUnchanged old at → IsBack at new → IsBack old new
back_from old at new u later open_now = let b = later open_now in (b.0 ∙ u.0.now_is, b.1 ∙ u.0.now_is, b.2)

not_run : (old new : State) (sql : List ℕ) (params : Columns) (e : Error) → IsNotRun old new sql params e → IsUnchanged old new ⊎ IsRolledBack old new
unfolding IsNotRun
not_run old new sql params e (inl h) = inl h.1
not_run old new sql params e (inr h) = inr h.3

module _ (old new : State) (plain : IsPlain (understood old.now.schema version_text)) where
  pub version_same : (n : _) → ReadsVersion old new (Ok n) → IsUnchanged old new
  version_same n h = row_same version_text [] old new plain h.0 h.1

  version_undone : (f : RecordFault) → ReadsVersion old new (Err f) → IsUnchanged old new ⊎ IsRolledBack old new
  version_undone NotARecord (inl h) = error_same version_text [] old new plain _ h
  version_undone NotARecord (inr h) = inl (row_same version_text [] old new plain h.0 h.1)
  version_undone WrongVersion h = absurd h
  version_undone NoRow h = absurd h
  version_undone (Store e) (inl h) = error_same version_text [] old new plain e h.1
  version_undone (Store e) (inr h) = inl (row_same version_text [] old new plain h.0 h.1)
  version_undone UsesSpent h = absurd h
  version_undone OutOfMemory h = absurd h

pub plain_at : (old found : State) → IsUnchanged old found → IsPlain (understood old.now.schema version_text) → IsPlain (understood found.now.schema version_text)
plain_at old found u = subst (λ (d : Database). IsPlain (understood d.schema version_text)) (sym u.0.now_is)

-- ---- what each store is then

module _ (old new : State) where
  blank_again : IsBlank old → IsBack old new → IsTrue new.is_open → (new.now ≡ old.now) × IsBlank new
  blank_again b back open_now = let u = back open_now in (u.0, record { schema = subst (λ (d : Database). IsVacant d.schema) (sym u.0) b.schema; settled = u.1 ∙ sym u.0; autocommit = u.2 })

  first_again : IsFirst old → IsBack old new → IsTrue new.is_open → (new.now ≡ old.now) × IsFirst new
  first_again f back open_now = let u = back open_now in (
    u.0,
    record {
      schema = subst (λ (d : Database). HasFirst d.schema) (sym u.0) f.schema;
      sound = subst IsDatabase (sym u.0) f.sound;
      keyed = subst (λ (d : Database). IsKeyed (d.trees (job_tree d.schema))) (sym u.0) f.keyed;
      settled = u.1 ∙ sym u.0;
      autocommit = u.2;
    },
  )

  record_again : IsRecord old → IsBack old new → Stands old new
  record_again it back open_now = let u = back open_now in (
    u.0,
    record {
      schema = subst (λ (d : Database). HasRecord d.schema) (sym u.0) it.schema;
      sound = subst IsDatabase (sym u.0) it.sound;
      keyed = subst (λ (d : Database). IsKeyed (d.trees (job_tree d.schema))) (sym u.0) it.keyed;
      kept = subst (λ (d : Database). IsKeyed (d.trees (archive_tree d.schema))) (sym u.0) it.kept;
      ordered = subst (λ (d : Database). IsTable (d.trees (archive_tree d.schema))) (sym u.0) it.ordered;
      settled = u.1 ∙ sym u.0;
      autocommit = u.2;
    },
  )

first_same : (old found : State) → IsUnchanged old found → IsFirst old → IsFirst found
first_same old found u f = (first_again old found f (same_back old found (record { settled = f.settled; autocommit = f.autocommit }) u) u.0.is_open).1

-- a store with the tables and no row, beside what the database had
made_map : (was : Database) (s : State) (budget : Option ℕ) → IsVacant was.schema → AreMade was s → HoldsMap s.now (no_columns was budget)
made_map was s budget v made = record {
  schema = made.schema_is;
  has = record_made was.schema v;
  beside = λ t there other. made.others t (other_was was.schema v.takes t there other);
  sound = made.sound;
  keyed = subst IsKeyed (sym made.jobs) keyed_none;
  kept = subst IsKeyed (sym made.archives) keyed_none;
  ordered = subst IsTable (sym made.archives) tt;
  rows = λ key. ap (λ rows. held_in rows key) made.jobs;
  archives = subst (λ l. AreArchives l []) (sym made.archives) (record { there = no_list.there; apart = tt; rising = tt; within = λ a h. absurd h });
}

empty_in_step : (was : Database) (budget : Option ℕ) → IsInStep (no_columns was budget)
empty_in_step was budget = record { flags = λ key c is. absurd (let e = is in cc); owned = λ key there. absurd (true≢false (sym there)) }

module _ {S : Type 0} (g : Ghosts S) where
  -- ---- the store is refused

  module _ (old new : Held S) (rest : IsAtRest (state g old)) (plain : (job archive : Bool) → AreThere (state g old).now.schema true job archive → IsPlain (understood (state g old).now.schema version_text)) where
    abbrev back_to : Held S → Type 0
    back_to at = IsBack (state g at) (state g new)

    found_rest : (found : Held S) → IsUnchanged (state g old) (state g found) → IsAtRest (state g found)
    found_rest found = same_rest (state g old) (state g found) rest

    unready_back : (f : RecordFault) → IsUnready g old new f → back_to old
    unready_back f (inl h) = same_back (state g old) (state g new) rest h.2
    unready_back f (inr (inl (e, is, inl h))) = undone_back (state g old) (state g new) rest (not_run (state g old) (state g new) version_text [] e (h []))
    unready_back f (inr (inl (e, is, inr (mid, u, inl h)))) =
        back_from (state g old) (state g mid) (state g new) u (undone_back (state g mid) (state g new) (found_rest mid u) (not_run (state g mid) (state g new) list_text [] e (h [])))
    unready_back f (inr (inl (e, is, inr (mid, u, inr h)))) =
        back_from (state g old) (state g mid) (state g new) u (undone_back (state g mid) (state g new) (found_rest mid u) (not_run (state g mid) (state g new) look_text [] e (h [])))
    unready_back f (inr (inr (inl (archive, has, found, u, reads)))) =
        back_from (state g old) (state g found) (state g new) u
        (undone_back (state g found) (state g new) (found_rest found u) (version_undone (state g found) (state g new) (plain_at (state g old) (state g found) u (plain true archive has)) f reads))
    unready_back f (inr (inr (inr (archive, n, (has, found, u, reads), why)))) =
        back_from (state g old) (state g found) (state g new) u
        (same_back (state g found) (state g new) (found_rest found u) (version_same (state g found) (state g new) (plain_at (state g old) (state g found) u (plain true archive has)) n reads))

    undone_all : (f : RecordFault) → IsUndone g old new f → back_to old
    undone_all f (inl (at, bare, back, e, is, why)) = back_from (state g old) (state g at) (state g new) bare.1 (goes_back (state g at) (state g new) (found_rest at bare.1) back)
    undone_all f (inr (at, (has, found, u, reads), back, why)) =
        let v = version_same (state g found) (state g at) (plain_at (state g old) (state g found) u (plain true false has)) (pos 1) reads in
        let both = unchanged_then (state g old) (state g found) (state g at) u v in
        back_from (state g old) (state g at) (state g new) both (goes_back (state g at) (state g new) (found_rest at both) back)

    refused_back : (f : RecordFault) → Opens g old new (Err f) → back_to old
    refused_back f (inl h) = unready_back f h
    refused_back f (inr h) = undone_all f h

  module _ (old new : Held S) where
    refuses_as : (f : RecordFault) → Opens g old new (Err f) → RefusesAs (state g old) (state g new)
    refuses_as f h = record {
      blank = λ b. blank_again (state g old) (state g new) b
          (refused_back old new (record { settled = b.settled; autocommit = b.autocommit }) (λ job archive has. absurd (blank_none (state g old) job archive b has)) f h);
      first = λ it. first_again (state g old) (state g new) it
          (refused_back old new (record { settled = it.settled; autocommit = it.autocommit }) (λ job archive has. version_first (state g old).now.schema it.schema) f h);
      taken = λ it. record_again (state g old) (state g new) it
          (refused_back old new (record { settled = it.settled; autocommit = it.autocommit }) (λ job archive has. version_plain (state g old).now.schema it.schema.tables) f h);
    }

    -- ---- it opens

    makes_empty : (budget : Option ℕ) → IsVacant (state g old).now.schema → Makes g old new → IsRecordOf (state g new) (no_columns (state g old).now budget)
    makes_empty budget v (last, ran, shown) = record {
      holds = subst (λ d. HoldsMap d (no_columns (state g old).now budget)) (sym shown.now_is) (made_map (state g old).now (state g last) budget v (tables_made g old v last ran));
      in_step = empty_in_step (state g old).now budget;
      settled = shown.committed_is ∙ sym shown.now_is;
      autocommit = shown.mode;
    }

    says_made : IsVacant (state g old).now.schema → Makes g old new → SaysVersion (state g new).now 2
    says_made v (last, ran, shown) =
        let t = tables_made g old v last ran in
        let rows : (state g new).now.trees (meta_tree (state g new).now.schema) ≡ version_noted ∷ [] =
        ap (λ (d : Database). d.trees (meta_tree d.schema)) shown.now_is ∙ ap (λ (z : Schema). (state g last).now.trees (meta_tree z)) t.schema_is ∙ t.version in
        record {
          row = version_noted;
          there = subst (λ l. Has l version_noted) (sym rows) (inl refl);
          name = refl;
          each = λ r h name. elim (subst (λ l. Has l r) rows h) [ inl same ↦ ap (λ (z : Columns). column z 2) same | inr none ↦ absurd none ];
        }

    abbrev versions : List Columns
    versions = (state g old).now.trees (meta_tree (state g old).now.schema)

    says_migrated : IsFirst (state g old) → IsKeyed versions → (r : Columns) → Has versions r → column r 1 ≡ Text (codes "version") → Migrates g old new → SaysVersion (state g new).now 2
    says_migrated f keyed r there is (last, m, shown) = subst (λ d. SaysVersion d 2) (sym shown.now_is) (says_two g old last f m keyed r there is)

    migrates_to : (budget : Option ℕ) → IsFirst (state g old) → Migrates g old new → (map : KeyMap) × (map.budget ≡ budget) × IsMigrated (state g old) map × IsRecordOf (state g new) map
    migrates_to budget f (last, m, shown) =
        let t = migrated g old last f m budget in (
          t.map,
          t.budget_is,
          t.is,
          record {
            holds = subst (λ d. HoldsMap d t.map) (sym shown.now_is) t.holds;
            in_step = t.in_step;
            settled = shown.committed_is ∙ sym shown.now_is;
            autocommit = shown.mode;
          },
        )

  is_migrated_at : (old at : State) (map : KeyMap) → at.now ≡ old.now → IsMigrated at map → IsMigrated old map
  is_migrated_at old at map same it = record {
    rows = λ key. it.rows key ∙ ap (λ (d : Database). held_in (d.trees (job_tree d.schema)) key) same;
    archives = subst (λ (d : Database). AreArchivesOf (held_in (d.trees (job_tree d.schema))) map.archives) same it.archives;
    beside = it.beside ∙ ap migrated_beside same;
  }

  vacant_at : (old at : Held S) → IsUnchanged (state g old) (state g at) → IsBlank (state g old) → IsVacant (state g at).now.schema
  vacant_at old at u b = subst (λ (d : Database). IsVacant d.schema) (sym u.0.now_is) b.schema

  module _ (old new : Held S) where
    opens_as : (budget : Option ℕ) → Opens g old new (Ok (tt {0})) → OpensAs budget (state g old) (state g new)
    opens_as budget (inl (has, found, u, reads)) = record {
      made = λ b. absurd (blank_none (state g old) true true b has);
      migrated = λ f. absurd (first_fewer (state g old) true true f has);
      taken = λ it.
          let plain = plain_at (state g old) (state g found) u (version_plain (state g old).now.schema it.schema.tables) in
          let all = unchanged_then (state g old) (state g found) (state g new) u (version_same (state g found) (state g new) plain (pos 2) reads) in
          (all, (same_shows (state g old) (state g new) it all).1);
      noted = λ b. absurd (blank_none (state g old) true true b has);
      renoted = λ f keyed. absurd (first_fewer (state g old) true true f has);
    }
    opens_as budget (inr (inl (at, bare, makes))) = record {
      made = λ b. subst (λ d. IsRecordOf (state g new) (no_columns d budget)) bare.1.0.now_is (makes_empty at new budget (vacant_at old at bare.1 b) makes);
      migrated = λ f. absurd (first_some (state g old) false false f bare.0);
      taken = λ it. absurd (record_some (state g old) false false it bare.0);
      noted = λ b. says_made at new (vacant_at old at bare.1 b) makes;
      renoted = λ f keyed. absurd (first_some (state g old) false false f bare.0);
    }
    opens_as budget (inr (inr (at, (has, found, u, reads), migrates))) = record {
      made = λ b. absurd (blank_none (state g old) true false b has);
      migrated = λ f.
          let plain = plain_at (state g old) (state g found) u (version_first (state g old).now.schema f.schema) in
          let both = unchanged_then (state g old) (state g found) (state g at) u (version_same (state g found) (state g at) plain (pos 1) reads) in
          let m = migrates_to at new budget (first_same (state g old) (state g at) both f) migrates in
          (m.0, m.1, is_migrated_at (state g old) (state g at) m.0 both.0.now_is m.2, m.3);
      taken = λ it. absurd (record_all (state g old) true true it has);
      noted = λ b. absurd (blank_none (state g old) true false b has);
      renoted = λ f keyed.
          let plain = plain_at (state g old) (state g found) u (version_first (state g old).now.schema f.schema) in
          let v = version_same (state g found) (state g at) plain (pos 1) reads in
          let both = unchanged_then (state g old) (state g found) (state g at) u v in
          let r = version_row (state g found) (state g at) (pos 1) (first_same (state g old) (state g found) u f) reads in
          let there = subst (λ (d : Database). Has (d.trees (meta_tree d.schema)) r.0) (sym v.0.now_is) r.1 in
          says_migrated at new (first_same (state g old) (state g at) both f) (subst (λ (d : Database). IsKeyed (d.trees (meta_tree d.schema))) (sym both.0.now_is) keyed) r.0 there r.2 migrates;
    }

    pub opens_map : (budget : Option ℕ) (r : Result (Unit {0}) RecordFault) → Opens g old new r → OpensMap budget (state g old) (state g new) r
    opens_map budget (Ok done) h = opens_as budget h
    opens_map budget (Err f) h = refuses_as old new f h

  -- ---- crashes

  module _ (old found : Held S) (u : IsUnchanged (state g old) (state g found)) where
    empty_left : HasThese (state g old).now.schema tables.None → IsBlank (state g old) → (trees : Trees) → CommitsTables g found trees → AreEmptyRecord (state g old).now trees
    empty_left has b trees (last, ran, same) =
        let v = vacant_at old found u b in
        let was = (state g found).now in
        subst (λ d. AreEmptyRecord d trees) u.0.now_is
        (record { holds = left_trees (state g last).now trees (no_columns was None) same (made_map was (state g last) None v (tables_made g found v last ran)); in_step = empty_in_step was None })

    migrated_at : IsFirst (state g old) → (trees : Trees) (at : Held S) → IsUnchanged (state g found) (state g at) → CommitsMigrated g at trees → AreMigrated (state g old) trees
    migrated_at f trees at v (last, m, same) =
        let both = unchanged_then (state g old) (state g found) (state g at) u v in
        let t = migrated g at last (first_same (state g old) (state g at) both f) m None in
        (t.map, is_migrated_at (state g old) (state g at) t.map both.0.now_is t.is, record { holds = left_trees (state g last).now trees t.map same t.holds; in_step = t.in_step })

    shows_nothing : IsPlain (understood (state g old).now.schema version_text) → (trees : Trees) → CommitsShowing version_text [] (state g found) trees → ⊥
    shows_nothing plain trees = never_commits version_text [] (state g found) trees (plain_at (state g old) (state g found) u plain)

    migrated_left : IsFirst (state g old) → (trees : Trees) → CommitsFirst g found trees → AreMigrated (state g old) trees
    migrated_left f trees (inl shows) = absurd (shows_nothing (version_first (state g old).now.schema f.schema) trees shows)
    migrated_left f trees (inr (at, reads, commits)) =
        let plain = plain_at (state g old) (state g found) u (version_first (state g old).now.schema f.schema) in
        migrated_at f trees at (version_same (state g found) (state g at) plain (pos 1) reads) commits

  module _ (old found new : Held S) (one : Survives (state g old) (state g found) (λ _. ⊥)) where
    after_look : (P Q : Trees → Type 0) → (HasCleanDisk (state g new) → (trees : Trees) → P trees → Q trees) → Survives (state g found) (state g new) P → Survives (state g old) (state g new) Q
    after_look P Q tells two = survives_then (state g old) (state g found) (state g new) (λ _. ⊥) P Q (λ _ db none. absurd none) tells one two

    abbrev Looked : Tables → Type 0
    Looked t = HasCleanDisk (state g new) → HasThese (state g old).now.schema t × IsUnchanged (state g old) (state g found)

    pub make_crashes : Looked tables.None → Survives (state g found) (state g new) (CommitsTables g found) → CrashesAs (state g old) (state g new)
    make_crashes looked two = record {
      blank = λ b. after_look _ _ (λ clean trees made. let l = looked clean in empty_left old found l.1 l.0 b trees made) two;
      first = λ f. after_look _ _ (λ clean trees made. absurd (first_some (state g old) false false f (looked clean).0)) two;
      taken = λ it. after_look _ _ (λ clean trees made. record_some (state g old) false false it (looked clean).0) two;
    }

    pub first_crashes : Looked tables.First → Survives (state g found) (state g new) (CommitsFirst g found) → CrashesAs (state g old) (state g new)
    first_crashes looked two = record {
      blank = λ b. after_look _ _ (λ clean trees made. absurd (blank_none (state g old) true false b (looked clean).0)) two;
      first = λ f. after_look _ _ (λ clean trees made. migrated_left old found (looked clean).1 f trees made) two;
      taken = λ it. after_look _ _ (λ clean trees made. record_all (state g old) true true it (looked clean).0) two;
    }

    pub current_crashes : Looked tables.All → Survives (state g found) (state g new) (CommitsShowing version_text [] (state g found)) → CrashesAs (state g old) (state g new)
    current_crashes looked two = record {
      blank = λ b. after_look _ _ (λ clean trees made. absurd (blank_none (state g old) true true b (looked clean).0)) two;
      first = λ f. after_look _ _ (λ clean trees made. absurd (first_fewer (state g old) true true f (looked clean).0)) two;
      taken = λ it. after_look _ _ (λ clean trees made. shows_nothing old found (looked clean).1 (version_plain (state g old).now.schema it.schema.tables) trees made) two;
    }

  pub unfound_crashes : (old new : Held S) → Survives (state g old) (state g new) (λ _. ⊥) → CrashesAs (state g old) (state g new)
  unfound_crashes old new s = record {
    blank = λ b. survives_weaker (state g old) (state g new) _ _ (λ clean db none. absurd none) s;
    first = λ f. survives_weaker (state g old) (state g new) _ _ (λ clean db none. absurd none) s;
    taken = λ it. s;
  }

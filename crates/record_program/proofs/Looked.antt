-- The look at a database before it is opened as a record changes neither a record nor a database with no table.
use Rattle.std.proofs.Common.{true≢false, ◌≡◌, ◌⊎◌, inl, inr, ℕ, List, [], Bool, true, false, if◌then◌else◌, Option, None, Result, Ok, Err, IsTrue, refl, sym, ap, subst, ◌∙◌}
use Rattle.std.specs.Prelude.{IfOk}
use Rattle.std.proofs.lemmas.Bool.{cases_Bool}
use Rattle.std.proofs.lemmas.Result.{IfOk-weaker}
use Rattle.sqlite.specs.Store.{Ghosts}
use Rattle.sqlite.specs.Order.{Row as Columns}
use Rattle.sqlite.specs.Schema.{Schema}
use Rattle.sqlite.specs.Effect.{Database, IsDatabase}
use Rattle.sqlite.specs.Listing.{understood, reads_listing, if_select, listing_schema}
use Rattle.sqlite.specs.Clock.{timed}
use Rattle.sqlite.specs.State.{State, HasCleanDisk, IsUnchanged, ShowsRows, Shown, QueriesRow}
use Rattle.sqlite.specs.Held.{Held, state}
use Rattle.sqlite.proofs.Callers.{unchanged_then}
use Rattle.sqlite_resolve.specs.declared.compiled.Compiled.{Compiled}
use Rattle.sqlite_resolve.specs.Lowering.{Checked, and_then}
use Rattle.sqlite_resolve.specs.Compile.{first, planned, meaning, returning, compiled, with_command}
use Rattle.sqlite_tied.specs.Compute.{everything}
use Rattle.sqlite_trees.specs.Tree.{IsTable}
use Rattle.sqlite_trees.specs.View.{doubt}
use Rattle.job_record.specs.declared.fault.RecordFault.TheVariants.{NotARecord, WrongVersion, NoRow, Store, UsesSpent, OutOfMemory}
use Rattle.job_record.specs.Places.{meta_tree, job_tree, archive_tree, HasRecord, HasFirst, IsVacant}
use Rattle.job_record.specs.Keyed.{held_in, IsKeyed}
use Rattle.job_record.specs.Map.{KeyMap, no_columns, migrated_beside, held, IsRecord, IsRecordOf, Stands}
use Rattle.job_record.specs.Opening.{Opens}
use Rattle.job_record.specs.OpenMap.{IsBlank, IsFirst, IsMigrated, AreArchivesOf, OpensAs}
use Rattle.job_record.specs.Rows.{OpensWithRows}
use Rattle.record_program.specs.Views.{views_text}
use Rattle.record_program.specs.declared.ending.Ending.{Ending}
use Rattle.record_program.specs.declared.ending.Ending.TheVariants.{Rows, Input, Record}
use Rattle.record_program.specs.Forgetting.{Shows, ShowsFirst}
use Rattle.record_program.specs.inner.Looked.{MayOpen, Spares}
use Rattle.record_program.proofs.LeavesOthers.{record_of, unchanged_of}

-- ---- the text is a query, which returns no row as a write does, whatever the schema has

views_return_none : IfOk (first views_text) (λ p. (schema : Schema) (base : ℕ) → returning schema base p.statement ≡ Ok None)
unfolding everything
views_return_none schema base = refl

-- what a text compiles to returns what its statement returns
by_parts : {R C F A : Type 0} (compiled : F × (C × R) → A) (get : A → R) → ((f : F) (c : C) (r : R) → get (compiled (f, (c, r))) ≡ r) → (none : R) (returned : Checked R) → returned ≡ Ok none → (command : Checked C) (formats : F) (a : A)
    → and_then (and_then (and_then returned (λ r. and_then command (λ c. Ok (c, r)))) (λ found. Ok (formats, found))) (λ plan. Ok (compiled plan)) ≡ Ok a → get a ≡ none
by_parts compiled get law none (Ok r) is (Ok c) formats a h =
    let same : r ≡ none = cc in
    let whole : compiled (formats, (c, r)) ≡ a = cc in
    ap get (sym whole) ∙ law formats c r ∙ same
by_parts compiled get law none (Ok r) is (Err e) formats a h = absurd (let e = h in cc)
by_parts compiled get law none (Err e) is command formats a h = absurd (let e = is in cc)

by_first : {P A R : Type 0} (get : A → R) (none : R) (parsed : Checked P) (next : P → Checked A) → IfOk parsed (λ p. (a : A) → next p ≡ Ok a → get a ≡ none) → (a : A) → and_then parsed next ≡ Ok a → get a ≡ none
by_first get none (Ok p) next each a h = each a h
by_first get none (Err e) next each a h = absurd (let e = h in cc)

compiled_none : (schema : Schema) (c : Compiled) → compiled schema views_text ≡ Ok c → c.returning ≡ None
unfolding compiled planned meaning
compiled_none schema c is =
    by_first (λ (c : Compiled). c.returning) None (first views_text) _
    (IfOk-weaker (first views_text) _ _ (λ p none c h. by_parts (with_command p) (λ (c : Compiled). c.returning) (λ f k r. refl) None _ (none schema _) _ _ c h) views_return_none) c is

listing_none : IfOk (if_select (compiled listing_schema views_text)) (λ c. c.returning ≡ None)
unfolding listing_schema everything
listing_none = refl

views_none : (schema : Schema) (c : Compiled) → understood schema views_text ≡ Ok c → c.returning ≡ None
unfolding understood
views_none schema c is = either (reads_listing schema views_text) is
  where
    either : (listed : Bool) → (if listed then if_select (compiled listing_schema views_text) else compiled schema views_text) ≡ Ok c → c.returning ≡ None
    either true is = subst (λ r. IfOk r (λ c. c.returning ≡ None)) is listing_none
    either false is = compiled_none schema c is

-- such a query changes nothing
module _ (old new : State) where
  shown_same : (rows : List Columns) → Shown views_text [] old new rows → IsUnchanged old new
  unfolding Shown
  shown_same rows h = (subst (ShowsRows old new views_text h.0 (timed [] h.0.formats h.1.now) rows) (views_none old.now.schema h.0 h.1.is) h.2).3

  row_same : (row : Columns) → QueriesRow views_text [] old new (Ok row) → IsUnchanged old new
  unfolding QueriesRow
  row_same row (inl h) = h.1
  row_same row (inr h) = shown_same h.0 h.1

module _ (old new : State) where
  pub looked : (c : Columns) → QueriesRow views_text [] old new (Ok c) → MayOpen old → IsUnchanged old new
  looked c asked fits = row_same old new c asked

  pub still_record : IsUnchanged old new → IsRecord old → IsRecord new
  still_record u it = record {
    schema = subst (λ (d : Database). HasRecord d.schema) (sym u.0.now_is) it.schema;
    sound = subst IsDatabase (sym u.0.now_is) it.sound;
    keyed = subst (λ (d : Database). IsKeyed (d.trees (job_tree d.schema))) (sym u.0.now_is) it.keyed;
    kept = subst (λ (d : Database). IsKeyed (d.trees (archive_tree d.schema))) (sym u.0.now_is) it.kept;
    ordered = subst (λ (d : Database). IsTable (d.trees (archive_tree d.schema))) (sym u.0.now_is) it.ordered;
    settled = u.0.committed_is ∙ it.settled ∙ sym u.0.now_is;
    autocommit = u.0.mode ∙ it.autocommit;
  }

  pub still_first : IsUnchanged old new → IsFirst old → IsFirst new
  still_first u it = record {
    schema = subst (λ (d : Database). HasFirst d.schema) (sym u.0.now_is) it.schema;
    sound = subst IsDatabase (sym u.0.now_is) it.sound;
    keyed = subst (λ (d : Database). IsKeyed (d.trees (job_tree d.schema))) (sym u.0.now_is) it.keyed;
    settled = u.0.committed_is ∙ it.settled ∙ sym u.0.now_is;
    autocommit = u.0.mode ∙ it.autocommit;
  }

  pub still_known : IsUnchanged old new → IsFirst old ⊎ IsRecord old → IsFirst new ⊎ IsRecord new
  still_known u (inl first) = inl (still_first u first)
  still_known u (inr it) = inr (still_record u it)

  pub still_blank : IsUnchanged old new → IsBlank old → IsBlank new
  still_blank u b = record {
    schema = subst (λ (d : Database). IsVacant d.schema) (sym u.0.now_is) b.schema;
    settled = u.0.committed_is ∙ b.settled ∙ sym u.0.now_is;
    autocommit = u.0.mode ∙ b.autocommit;
  }

  same_held : IsUnchanged old new → held new ≡ held old
  same_held u = ap (λ (d : Database). held_in (d.trees (job_tree d.schema))) u.0.now_is

  was_migrated : IsUnchanged old new → (map : KeyMap) → IsMigrated new map → IsMigrated old map
  was_migrated u map it = record {
    rows = λ key. it.rows key ∙ ap (λ (f : List ℕ → Option Columns). f key) (same_held u);
    archives = subst (λ (f : List ℕ → Option Columns). AreArchivesOf f map.archives) (same_held u) it.archives;
    beside = it.beside ∙ ap migrated_beside u.0.now_is;
  }

module _ (budget : Option ℕ) (old mid new : State) (spares : MayOpen old → IsUnchanged old mid) where
  opens_as : OpensAs budget mid new → OpensAs budget old new
  opens_as opens = record {
    made = λ blank. let u = spares (inl blank) in subst (λ d. IsRecordOf new (no_columns d budget)) u.0.now_is (opens.made (still_blank old mid u blank));
    migrated = λ first.
        let u = spares (inr (inl first)) in
        let later = opens.migrated (still_first old mid u first) in
        (later.0, later.1, was_migrated old mid u later.0 later.2, later.3);
    taken = λ it.
        let u = spares (inr (inr it)) in
        let later = opens.taken (still_record old mid u it) in
        (unchanged_then old mid new u later.0, later.1);
    noted = λ blank. opens.noted (still_blank old mid (spares (inl blank)) blank);
    renoted = λ first keyed.
        let u = spares (inr (inl first)) in
        opens.renoted (still_first old mid u first) (subst (λ (d : Database). IsKeyed (d.trees (meta_tree d.schema))) (sym u.0.now_is) keyed);
  }

  opens_with : OpensWithRows budget mid new → OpensWithRows budget old new
  opens_with opens = record {
    made = λ blank. opens.made (still_blank old mid (spares (inl blank)) blank);
    migrated = λ first.
        let u = spares (inr (inl first)) in
        let later = opens.migrated (still_first old mid u first) in
        (later.0, later.1, was_migrated old mid u later.0 later.2, later.3);
    taken = λ columns it.
        let is = record_of old columns it in
        let u = spares (inr (inr is)) in
        opens.taken columns (unchanged_of old mid columns it u (still_record old mid u is));
  }

-- what is shown of a record that was only looked at
module _ (old mid new : State) (u : IsUnchanged old mid) where
  held_before : (key : List ℕ) → held mid key ≡ held old key
  held_before key = ap (λ (f : List ℕ → Option Columns). f key) (same_held old mid u)

  stands_before : Stands mid new → Stands old new
  stands_before stands open_now = let s = stands open_now in (s.0 ∙ u.0.now_is, s.1)

  pub shows_before : (ending : Ending) → Shows mid new ending → Shows old new ending
  shows_before (Rows text) (rows, (all, are, sound, complete, sorted, same, it), is) = (
    rows,
    (all, are, λ c there. let k = sound c there in (k.0, sym (held_before k.0) ∙ k.1), λ key c h. complete key c (held_before key ∙ h), sorted, unchanged_then old mid new u same, it),
    is,
  )
  shows_before Input h = h
  shows_before (Record NoRow) h = h
  shows_before (Record NotARecord) (key, c, h, unread, same, it) = (key, c, sym (held_before key) ∙ h, unread, unchanged_then old mid new u same, it)
  shows_before (Record WrongVersion) h = h
  shows_before (Record (Store e)) h = stands_before h
  shows_before (Record UsesSpent) h = h
  shows_before (Record OutOfMemory) h = stands_before h

-- also of one of version 1
module _ (old mid new : State) (u : IsUnchanged old mid) where
  sees_before : IsTrue new.is_open → (new.now ≡ mid.now) × IsFirst new → (new.now ≡ old.now) × IsFirst new
  sees_before open_now s = (s.0 ∙ u.0.now_is, s.1)

  pub first_before : (ending : Ending) → ShowsFirst mid new ending → ShowsFirst old new ending
  first_before (Rows text) (rows, (all, are, sound, complete, sorted, same, it), is) = (
    rows,
    (all, are, λ c there. let k = sound c there in (k.0, sym (held_before old mid new u k.0) ∙ k.1), λ key c h. complete key c (held_before old mid new u key ∙ h), sorted, unchanged_then old mid new u same, it),
    is,
  )
  first_before Input h = h
  first_before (Record NoRow) h = h
  first_before (Record NotARecord) (key, c, h, unread, same, it) = (key, c, sym (held_before old mid new u key) ∙ h, unread, unchanged_then old mid new u same, it)
  first_before (Record WrongVersion) h = h
  first_before (Record (Store e)) h = λ open_now. sees_before open_now (h open_now)
  first_before (Record UsesSpent) h = h
  first_before (Record OutOfMemory) h = λ open_now. sees_before open_now (h open_now)

-- a connection that is opened as a record was open
module _ {S : Type 0} (g : Ghosts S) where
  was_open : (old new : Held S) → Opens g old new (Ok tt) → IsTrue (state g old).is_open
  was_open old new (inl ready) = ready.2.0.was_open
  was_open old new (inr (inl (at, bare, makes))) = bare.1.0.was_open
  was_open old new (inr (inr (at, ready, migrates))) = ready.2.0.was_open

  abbrev ShutIfDirty : Type 0
  ShutIfDirty = (s : S) → (g.view s).is_clean ≡ false → (g.view s).is_open ≡ false

  was_clean : ShutIfDirty → (h : Held S) → IsTrue (state g h).is_open → HasCleanDisk (state g h)
  unfolding doubt
  was_clean shut h open_now = elim (cases_Bool (g.view h.store).is_clean) [
    | inl clean ↦ ap doubt clean
    | inr dirty ↦ absurd (true≢false (sym open_now ∙ shut h.store dirty))
  ]

  module _ (old mid : Held S) (shut : ShutIfDirty) (spares : Spares (state g old) (state g mid)) where
    was_spared : (new : Held S) → Opens g mid new (Ok tt) → MayOpen (state g old) → IsUnchanged (state g old) (state g mid)
    was_spared new opens = (spares (was_clean shut mid (was_open mid new opens))).1

  module _ {K E : Type 0} (budget : Option ℕ) (conn_of : K → Held S) (old mid : Held S) (shut : ShutIfDirty) (spares : Spares (state g old) (state g mid)) where
    pub opens_first : (r : Result K E) → IfOk r (λ kept. HasCleanDisk (state g (conn_of kept)) → Opens g mid (conn_of kept) (Ok tt)) → IfOk r (λ kept. HasCleanDisk (state g (conn_of kept)) → OpensAs budget (state g mid) (state g (conn_of kept)))
        → IfOk r (λ kept. HasCleanDisk (state g (conn_of kept)) → OpensAs budget (state g old) (state g (conn_of kept)))
    opens_first (Ok kept) opens map = λ clean. opens_as budget (state g old) (state g mid) (state g (conn_of kept)) (was_spared old mid shut spares (conn_of kept) (opens clean)) (map clean)
    opens_first (Err e) opens map = tt

    pub rows_first : (r : Result K E) → IfOk r (λ kept. HasCleanDisk (state g (conn_of kept)) → Opens g mid (conn_of kept) (Ok tt)) → IfOk r (λ kept. HasCleanDisk (state g (conn_of kept)) → OpensWithRows budget (state g mid) (state g (conn_of kept)))
        → IfOk r (λ kept. HasCleanDisk (state g (conn_of kept)) → OpensWithRows budget (state g old) (state g (conn_of kept)))
    rows_first (Ok kept) opens rows = λ clean. opens_with budget (state g old) (state g mid) (state g (conn_of kept)) (was_spared old mid shut spares (conn_of kept) (opens clean)) (rows clean)
    rows_first (Err e) opens rows = tt

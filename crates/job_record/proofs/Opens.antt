-- What the looks for the tables and the version come to.
use Rattle.std.proofs.Common.{◌≡◌, ◌⊎◌, inl, inr, ℕ, ℤ, Bool, true, false, List, [], Result, Ok, Err, IfOk, IfErr, refl, sym, ap, subst, ◌∙◌}
use Rattle.std.specs.Prelude.{IsOk}
use Rattle.sqlite.specs.Order.{Row as Columns}
use Rattle.sqlite.specs.Store.{Ghosts}
use Rattle.sqlite.specs.Schema.{Schema}
use Rattle.sqlite.specs.Effect.{Database}
use Rattle.sqlite.specs.Listing.{understood}
use Rattle.sqlite.specs.Outline.{Outline}
use Rattle.sqlite.specs.Steps.{Outlines}
use Rattle.sqlite.specs.State.{State, IsUnchanged, IsNotRun, IsNoStatement, store_error, QueriesRow}
use Rattle.sqlite.specs.Held.{Held, state}
use Rattle.sqlite.specs.declared.error.Error.{Error}
use Rattle.sqlite.specs.declared.error.Error.TheVariants.{SqlInputError}
use Rattle.sqlite.proofs.Callers.{unchanged_then}
use Rattle.sqlite_trees.specs.declared.error.StoreError.{StoreError}
use Rattle.sqlite_trees.specs.declared.error.StoreError.TheVariants.{OutOfMemory, Io, Corrupt, Full, Broken, Unstorable}
use Rattle.sqlite_resolve.specs.declared.compiled.Compiled.{Compiled}
use Rattle.sqlite_resolve.specs.declared.error.CompileError.{CompileError}
use Rattle.sqlite_resolve.specs.declared.error.CompileError.TheVariants.{NoSuchTable, NoSuchColumn}
use Rattle.job_record.specs.declared.fault.RecordFault.{RecordFault}
use Rattle.job_record.specs.declared.fault.RecordFault.TheVariants as fault
use Rattle.job_record.specs.declared.making.Tables.{Tables}
use Rattle.job_record.specs.Statements.{version_text, list_text}
use Rattle.job_record.specs.Archives.{look_text}
use Rattle.job_record.specs.inner.Lacking.{lacking}
use Rattle.job_record.specs.inner.Opened.{tables_of, HasThese}
use Rattle.job_record.specs.Opening.{HasTable, AreThere, LacksColumn, VersionIn, ReadsVersion, CannotRead, IsUnready}

pub outlined : (r : Result Compiled CompileError) (o : Outline) → Outlines r o → IsOk r
outlined (Ok c) o h = refl
outlined (Err e) o h = absurd h

no_cause : (cause : StoreError) (f : CompileError) → SqlInputError f ≡ store_error cause → ⊥
no_cause OutOfMemory f h = cc
no_cause Io f h = cc
no_cause Corrupt f h = cc
no_cause Full f h = cc
no_cause Broken f h = cc
no_cause Unstorable f h = cc

misnamed : (s : State) (sql : List ℕ) (f : CompileError) → IsNoStatement s sql [] (SqlInputError f) → understood s.now.schema sql ≡ Err f
misnamed s sql f (inl h) = let same = h.2 in let is : h.0 ≡ f = cc in h.1 ∙ ap Err is
misnamed s sql f (inr h) = absurd (elim h.2 [
  | inl a ↦ let e = a.1 in cc
  | inr b ↦ elim b [ inl a ↦ let e = a.1 in cc | inr a ↦ let e = a.1 in cc ]
])

-- a text that does not compile is not run
pub misread : (old new : State) (sql : List ℕ) (f : CompileError) (e : Error) → e ≡ SqlInputError f → IsNotRun old new sql [] e → (understood old.now.schema sql ≡ Err f) × IsUnchanged old new
unfolding IsNotRun
misread old new sql f e is (inl h) = (misnamed old sql f (rw is at h.0), h.1)
misread old new sql f e is (inr h) = absurd (no_cause h.0 f (sym is ∙ h.1))

module _ (old new : State) (sql : List ℕ) where
  pub lacking_ok : (e : Error) → ((params : Columns) → IsNotRun old new sql params e) → IfOk (lacking e) (λ there. HasTable old.now.schema sql there × IsUnchanged old new)
  lacking_ok (SqlInputError NoSuchTable) h = misread old new sql NoSuchTable _ refl (h [])
  lacking_ok (SqlInputError NoSuchColumn) h = tt
  lacking_ok _ h = tt

  pub lacking_err : (e : Error) → ((params : Columns) → IsNotRun old new sql params e)
      → IfErr (lacking e) (λ f. ((f ≡ fault.NotARecord) × LacksColumn old.now.schema sql × IsUnchanged old new) ⊎ ((cause : Error) × (f ≡ fault.Store cause) × ((params : Columns) → IsNotRun old new sql params cause)))
  lacking_err (SqlInputError NoSuchTable) h = tt
  lacking_err (SqlInputError NoSuchColumn) h = let m = misread old new sql NoSuchColumn _ refl (h []) in inl (refl, m.0, m.1)
  lacking_err e h = inr (e, refl, h)

-- ---- the version

pub version_reads : (old new : State) (c : Columns) (r : Result ℤ RecordFault) → QueriesRow version_text [] old new (Ok c) → VersionIn c r → ReadsVersion old new r
version_reads old new c (Ok n) q h = (c, q, h)
version_reads old new c (Err fault.NotARecord) q h = inr (c, q, h)
version_reads old new c (Err fault.WrongVersion) q h = absurd h
version_reads old new c (Err fault.NoRow) q h = absurd h
version_reads old new c (Err (fault.Store e)) q h = inr (c, q, h)
version_reads old new c (Err fault.UsesSpent) q h = absurd h
version_reads old new c (Err fault.OutOfMemory) q h = absurd h

-- ---- the looks

-- a look that is refused: R1 if the table lacks a column, or R4
abbrev pub Lacks : {S : Type 0} → Ghosts S → Held S → Held S → List ℕ → RecordFault → Type 0
Lacks g from to query f =
    ((f ≡ fault.NotARecord) × LacksColumn (state g from).now.schema query × IsUnchanged (state g from) (state g to)) ⊎ ((e : Error) × (f ≡ fault.Store e) × CannotRead g query from to e)

same_schema : (old new : State) → IsUnchanged old new → new.now.schema ≡ old.now.schema
same_schema old new same = ap (λ (d : Database). d.schema) same.0.now_is

module _ {S : Type 0} (g : Ghosts S) where
  pub lacks_first : (old new : Held S) (f : RecordFault) → Lacks g old new version_text f → IsUnready g old new f
  lacks_first old new f (inl h) = inl (h.0, inl (inl h.1), h.2)
  lacks_first old new f (inr h) = inr (inl (h.0, h.1, inl h.2))

  module _ (old mid new : Held S) (same : IsUnchanged (state g old) (state g mid)) where
    pub lacks_second : (f : RecordFault) → Lacks g mid new list_text f → IsUnready g old new f
    lacks_second f (inl h) = inl (h.0, inl (inr (inl (subst (λ (s : Schema). LacksColumn s list_text) (same_schema (state g old) (state g mid) same) h.1))), unchanged_then (state g old) (state g mid) (state g new) same h.2)
    lacks_second f (inr h) = inr (inl (h.0, h.1, inr (mid, same, inl h.2)))

    pub lacks_third : (f : RecordFault) → Lacks g mid new look_text f → IsUnready g old new f
    lacks_third f (inl h) = inl (h.0, inl (inr (inr (subst (λ (s : Schema). LacksColumn s look_text) (same_schema (state g old) (state g mid) same) h.1))), unchanged_then (state g old) (state g mid) (state g new) same h.2)
    lacks_third f (inr h) = inr (inl (h.0, h.1, inr (mid, same, inr h.2)))

  module _ (old one two new : Held S) where
    abbrev Looks : Bool → Bool → Bool → Type 0
    Looks meta job archive =
        (HasTable (state g old).now.schema version_text meta × IsUnchanged (state g old) (state g one))
        × (HasTable (state g one).now.schema list_text job × IsUnchanged (state g one) (state g two))
        × (HasTable (state g two).now.schema look_text archive × IsUnchanged (state g two) (state g new))

    pub looked_twice : IsUnchanged (state g old) (state g one) → IsUnchanged (state g one) (state g two) → IsUnchanged (state g old) (state g two)
    looked_twice = unchanged_then (state g old) (state g one) (state g two)

    looked : (meta job archive : Bool) → Looks meta job archive → AreThere (state g old).now.schema meta job archive × IsUnchanged (state g old) (state g new)
    looked meta job archive h =
        let both = looked_twice h.0.1 h.1.1 in (
          record {
            meta_is = h.0.0;
            job_is = subst (λ (s : Schema). HasTable s list_text job) (same_schema (state g old) (state g one) h.0.1) h.1.0;
            archive_is = subst (λ (s : Schema). HasTable s look_text archive) (same_schema (state g old) (state g two) both) h.2.0;
          },
          unchanged_then (state g old) (state g two) (state g new) both h.2.1,
        )

    pub looks_ok : (meta job archive : Bool) (r : Result Tables RecordFault) → r ≡ tables_of meta job archive → Looks meta job archive
        → IfOk r (λ tables. HasThese (state g old).now.schema tables × IsUnchanged (state g old) (state g new))
    looks_ok true true true r is h = rw is (looked true true true h)
    looks_ok true true false r is h = rw is (looked true true false h)
    looks_ok false false false r is h = rw is (looked false false false h)
    looks_ok true false archive r is h = rw is tt
    looks_ok false true archive r is h = rw is tt
    looks_ok false false true r is h = rw is tt

    pub looks_err : (meta job archive : Bool) (r : Result Tables RecordFault) → r ≡ tables_of meta job archive → Looks meta job archive → IfErr r (IsUnready g old new)
    looks_err true true true r is h = rw is tt
    looks_err true true false r is h = rw is tt
    looks_err false false false r is h = rw is tt
    looks_err true false archive r is h = let t = looked true false archive h in rw is (inl (refl, inr (true, false, archive, t.0, refl), t.1))
    looks_err false true archive r is h = let t = looked false true archive h in rw is (inl (refl, inr (false, true, archive, t.0, refl), t.1))
    looks_err false false true r is h = let t = looked false false true h in rw is (inl (refl, inr (false, false, true, t.0, refl), t.1))

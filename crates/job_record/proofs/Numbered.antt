-- The archives that are added one after the other, each with the next number.
use Rattle.std.proofs.Common.{◌≡◌, inl, inr, ℕ, zero, suc, ◌+◌, ◌-◌, ◌^◌, ◌≤◌, ◌<◌, min, max, pos, List, [], ◌∷◌, ◌++◌, length, get_or, Some, Ok, bytes_eq, if◌then◌else◌, refl, sym, ap, subst, ◌∙◌, append-nil, append_assoc, arith}
use Rattle.std.proofs.Math.Nat.{min-eq_left}
use Rattle.sqlite.specs.declared.types.Value.TheVariants.{Int, Text}
use Rattle.sqlite.specs.Order.{Row as Columns}
use Rattle.sqlite.specs.Store.{Ghosts}
use Rattle.sqlite.specs.Schema.{Schema}
use Rattle.sqlite.specs.Effect.{Database}
use Rattle.sqlite.specs.State.{State, Executes}
use Rattle.sqlite.specs.Held.{Held, state}
use Rattle.sqlite_rules.specs.Lists.{Has}
use Rattle.job_rows.specs.declared.archive.Archive.{Archive}
use Rattle.job_rows.specs.Map.{greatest_used, greatest_number}
use Rattle.job_record.specs.Places.{archive_tree}
use Rattle.job_record.specs.Keyed.{held_in}
use Rattle.job_record.specs.Archives.{add_text, archive_params, archive_columns, IsWithinStore}
use Rattle.job_record.specs.Opening.{HasBytes, AddsAll}
use Rattle.job_record.proofs.Added.{key_free}
use Rattle.job_record.proofs.ArchiveList.{IsListOf, list_of, archives_of, list_more, columns_none}
use Rattle.job_record.proofs.ArchiveRows.{adds}
use Rattle.job_record.proofs.Standing.{AreTables, KeepsOthers}

-- each row has its archive, and the uses count on
abbrev pub AreNumbered : ℕ → List Columns → List Archive → Type 0
AreNumbered used [] [] = Unit {0}
AreNumbered used (c ∷ all) (own ∷ new) = HasBytes c own.key own.bytes × (own.used ≡ used + 1) × AreNumbered (used + 1) all new
AreNumbered used _ _ = ⊥

-- ---- what is so of each

pub of_row : (used : ℕ) (all : List Columns) (new : List Archive) → AreNumbered used all new → (c : Columns) → Has all c → (own : Archive) × Has new own × HasBytes c own.key own.bytes
of_row used [] new are c there = absurd there
of_row used (d ∷ all) [] are c there = absurd are
of_row used (d ∷ all) (own ∷ new) are c (inl same) = (own, inl refl, subst (λ (z : Columns). HasBytes z own.key own.bytes) (sym same) are.0)
of_row used (d ∷ all) (own ∷ new) are c (inr later) = let r = of_row (used + 1) all new are.2 c later in (r.0, inr r.1, r.2)

pub row_of : (used : ℕ) (all : List Columns) (new : List Archive) → AreNumbered used all new → (own : Archive) → Has new own → (c : Columns) × Has all c × HasBytes c own.key own.bytes
row_of used [] [] are own there = absurd there
row_of used [] (o ∷ new) are own there = absurd are
row_of used (c ∷ all) [] are own there = absurd there
row_of used (c ∷ all) (o ∷ new) are own (inl same) = (c, inl refl, subst (λ (z : Archive). HasBytes c z.key z.bytes) (sym same) are.0)
row_of used (c ∷ all) (o ∷ new) are own (inr later) = let r = row_of (used + 1) all new are.2 own later in (r.0, inr r.1, r.2)

pub use_at : (used : ℕ) (all : List Columns) (new : List Archive) → AreNumbered used all new → (i : ℕ) (d : Archive) → i < length new → (get_or new i d).used ≡ used + i + 1
use_at used [] [] are i d within = absurd (omega (arith, within))
use_at used [] (o ∷ new) are i d within = absurd are
use_at used (c ∷ all) [] are i d within = absurd are
use_at used (c ∷ all) (o ∷ new) are zero d within = omega (arith, are.1)
use_at used (c ∷ all) (o ∷ new) are (suc i) d within = let later = use_at (used + 1) all new are.2 i d (omega (arith, within)) in omega (arith, later)

-- ---- one more

greatest_more : (xs : List Archive) (own : Archive) (n : ℕ) → greatest_used xs ≤ n → own.used ≤ n → greatest_used (xs ++ own ∷ []) ≤ n
greatest_more [] own n low own_low = omega (arith, own_low)
greatest_more (x ∷ xs) own n low own_low =
    let parts : max x.used (greatest_used xs) ≤ n = low in
    let rest = greatest_more xs own n (omega (arith, parts)) own_low in
    omega (arith, parts, rest)

params_are : (key : List ℕ) (bytes used : ℕ) → bytes ≤ greatest_number → used ≤ greatest_number → archive_params key bytes used ≡ Text key ∷ Int (pos bytes) ∷ Int (pos used) ∷ []
params_are key bytes used low next =
    let b : min bytes (2 ^ 63 - 1) ≡ bytes = min-eq_left low in
    let u : min used (2 ^ 63 - 1) ≡ used = min-eq_left next in
    rw (b, u) refl

bytes_low : (c : Columns) (key : List ℕ) (bytes : ℕ) → HasBytes c key bytes → bytes ≤ greatest_number
bytes_low c key bytes has = let is = has.bytes_is in omega (arith, is)

-- a database to which archives were added: its tables, the rows of the others, and the list that they make
pub record Grown (schema : Schema) (was db : Database) (archives : List Archive) : Type 0 where
  pub tables : AreTables schema db
  pub others : KeepsOthers schema (archive_tree schema) was.trees db.trees
  pub list : IsListOf (held_in (db.trees (archive_tree schema))) archives

module _ (schema : Schema) (old new : State) (before : List Archive) (c : Columns) (own : Archive) (it : AreTables schema old.now) (list : IsListOf (held_in (old.now.trees (archive_tree schema))) before) (low : greatest_used before < own.used) (fits : own.used ≤ greatest_number) (has : HasBytes c own.key own.bytes) where
  grows : (count : ℕ) → Executes add_text (archive_params own.key own.bytes own.used) old new (Ok count) → Grown schema old.now new.now (before ++ own ∷ [])
  grows count h =
      let few = bytes_low c own.key own.bytes has in
      let ran = rw (params_are own.key own.bytes own.used few fits) at h in
      let free = key_free schema old new own.key (pos own.bytes) (pos own.used) it count ran in
      let w = adds schema old new own.key (pos own.bytes) (pos own.used) it free count ran in
      let none = columns_none (held_in (old.now.trees (archive_tree schema))) before list own.key free in
      let within : IsWithinStore own = record { key = has.key_is.1; bytes = few; used = fits } in
      let full = list_more (held_in (old.now.trees (archive_tree schema))) before list own none low within in
      record {
        tables = w.tables;
        others = w.others_are;
        list = list_of (new.now.trees (archive_tree schema)) (before ++ own ∷ []) (archives_of (new.now.trees (archive_tree schema)) (λ k. if bytes_eq k own.key then Some (archive_columns own) else held_in (old.now.trees (archive_tree schema)) k) (before ++ own ∷ []) w.rows_are full);
      }

-- ---- all of them

pub record GrownBy (schema : Schema) (was db : Database) (used : ℕ) (all : List Columns) (before : List Archive) : Type 0 where
  pub new : List Archive
  pub numbered : AreNumbered used all new
  pub grown : Grown schema was db (before ++ new)

module _ {S : Type 0} (g : Ghosts S) (schema : Schema) where
  pub grows_all : (at last : Held S) (used : ℕ) (all : List Columns) (before : List Archive) → AreTables schema (state g at).now → IsListOf (held_in ((state g at).now.trees (archive_tree schema))) before → greatest_used before ≤ used → used + length all ≤ greatest_number
      → AddsAll g at last used all → GrownBy schema (state g at).now (state g last).now used all before
  grows_all at last used [] before it list low few same = record {
    new = [];
    numbered = tt;
    grown = record {
      tables = subst (λ h. AreTables schema (state g h).now) (sym same) it;
      others = λ t there other. ap (λ h. (state g h).now.trees t.tree) same;
      list = subst (IsListOf (held_in ((state g last).now.trees (archive_tree schema)))) (sym (append-nil before)) (subst (λ h. IsListOf (held_in ((state g h).now.trees (archive_tree schema))) before) (sym same) list);
    };
  }
  grows_all at last used (c ∷ all) before it list low few (next, n, key, bytes, has, ran, more) =
      let own : Archive = record { key = key; bytes = bytes; used = used + 1 } in
      let one = grows schema (state g at) (state g next) before c own it list (omega (arith, low)) (omega (arith, few)) has n ran in
      let rest = grows_all next last (used + 1) all (before ++ own ∷ []) one.tables one.list (greatest_more before own (used + 1) (omega (arith, low)) (omega arith)) (omega (arith, few)) more in
      record {
        new = own ∷ rest.new;
        numbered = (has, refl, rest.numbered);
        grown = record {
          tables = rest.grown.tables;
          others = λ t there other. rest.grown.others t there other ∙ one.others t there other;
          list = subst (IsListOf (held_in ((state g last).now.trees (archive_tree schema)))) (append_assoc before (own ∷ []) rest.new) rest.grown.list;
        };
      }

-- The keys that are listed are those of the map.
use Rattle.std.proofs.Common.{◌≡◌, inl, inr, ℕ, ◌+◌, ◌<◌, List, [], ◌∷◌, ◌++◌, take, drop, length, get_or, Some, Ok, Err, Result, IsTrue, refl, sym, ap, subst, ◌∙◌, arith}
use Rattle.std.proofs.lemmas.List as lists
use Rattle.sqlite.specs.Store.{Ghosts}
use Rattle.sqlite.specs.declared.types.Value.TheVariants.{Text}
use Rattle.sqlite.specs.Order.{Row as Columns, column}
use Rattle.sqlite.specs.Tree.{Trees}
use Rattle.sqlite.specs.State.{State, HasCleanDisk, Survives, Shown, CommitsShowing}
use Rattle.sqlite.specs.Held.{Held, state}
use Rattle.sqlite_rules.specs.Lists.{Has}
use Rattle.sqlite_rules.proofs.ListLemmas.{any_has}
use Rattle.job_record.specs.declared.fault.RecordFault.{RecordFault}
use Rattle.job_record.specs.declared.fault.RecordFault.TheVariants.{NotARecord, WrongVersion, NoRow, Store, UsesSpent, OutOfMemory}
use Rattle.job_record.specs.Statements.{list_text}
use Rattle.job_record.specs.Columns.{IsText, AreKeysOf, HasNoKey}
use Rattle.job_record.specs.RecordMap.{ListsKeys}
use Rattle.job_record.specs.Places.{job_tree}
use Rattle.job_record.specs.Map.{held, IsRecord, Stands, KeysIn}
use Rattle.job_record.specs.Crash.{ReadsSafely}
use Rattle.job_record.specs.inner.Crash.{RunsOpen}
use Rattle.job_record.proofs.Standing.{laid_row, tables_in}
use Rattle.job_record.proofs.RowMap.{row_held, key_held}
use Rattle.job_record.proofs.Queries.{failed_same}
use Rattle.job_record.proofs.Reading.{list_is_plain, all_found, listed, lists_all}
use Rattle.job_record.proofs.MapSteps.{same_shows, undone_stands, listed_same}
use Rattle.job_record.proofs.SafeCalls.{reads_safe}

-- ---- keys that are read one after another

pub keys_more : (cs : List Columns) (keys : List (List ℕ)) (c : Columns) (key : List ℕ) → AreKeysOf cs keys → IsText (column c 0) key → AreKeysOf (cs ++ c ∷ []) (keys ++ key ∷ [])
keys_more [] [] c key before now = (now, tt)
keys_more (d ∷ cs) (k ∷ keys) c key before now = (before.0, keys_more cs keys c key before.1 now)
keys_more [] (k ∷ keys) c key before now = absurd before
keys_more (d ∷ cs) [] c key before now = absurd before

pub keys_taken : (cs : List Columns) (i : ℕ) (keys : List (List ℕ)) (c : Columns) (key : List ℕ) → i < length cs → c ≡ get_or cs i c → AreKeysOf (take i cs) keys → IsText (column c 0) key
    → AreKeysOf (take (i + 1) cs) (keys ++ key ∷ [])
keys_taken cs i keys c key within is before now =
    subst (λ some. AreKeysOf some (keys ++ key ∷ [])) (ap (λ last. take i cs ++ last ∷ []) is ∙ sym (lists.take_more cs i c within)) (keys_more (take i cs) keys c key before now)

-- each key is that of some columns, and each columns have their key
columns_with : (cs : List Columns) (keys : List (List ℕ)) → AreKeysOf cs keys → (key : List ℕ) → Has keys key → (c : Columns) × Has cs c × IsText (column c 0) key
columns_with [] [] are key h = absurd h
columns_with (c ∷ cs) (k ∷ keys) are key (inl is) = (c, inl refl, subst (IsText (column c 0)) (sym is) are.0)
columns_with (c ∷ cs) (k ∷ keys) are key (inr h) = let r = columns_with cs keys are.1 key h in (r.0, inr r.1, r.2)
columns_with [] (k ∷ keys) are key h = absurd are
columns_with (c ∷ cs) [] are key h = absurd are

key_with : (cs : List Columns) (keys : List (List ℕ)) → AreKeysOf cs keys → (c : Columns) → Has cs c → (key : List ℕ) × Has keys key × IsText (column c 0) key
key_with [] [] are c h = absurd h
key_with (d ∷ cs) (k ∷ keys) are c (inl is) = (k, inl refl, subst (λ (z : Columns). IsText (column z 0) k) (sym is) are.0)
key_with (d ∷ cs) (k ∷ keys) are c (inr h) = let r = key_with cs keys are.1 c h in (r.0, inr r.1, r.2)
key_with [] (k ∷ keys) are c h = absurd are
key_with (d ∷ cs) [] are c h = absurd are

-- ---- the map

same_key : (k key : List ℕ) → Text k ≡ Text key → k ≡ key
same_key k key e = cc

module _ (old new : State) (it : IsRecord old) where
  has_length : (c : Columns) (k : List ℕ) (v : Columns) → c ≡ Text k ∷ v → 0 < length c
  has_length c k v is = subst (λ (z : Columns). 0 < length z) (sym is) (grind arith)

  begins : (key : List ℕ) (c : Columns) → held old key ≡ Some c → (column c 0 ≡ Text key) × (0 < length c)
  begins key c h =
      let r = row_held (old.now.trees (job_tree old.now.schema)) key c h in
      let laid = laid_row old.now.schema old.now (tables_in old it) r.0 r.1 in
      let is = r.3 ∙ ap (λ (z : Columns). drop 1 z) laid.is in
      (key_held (old.now.trees (job_tree old.now.schema)) key c h, has_length c laid.key _ is)

  module _ (all : List Columns) (shown : Shown list_text [] old new all) where
    held_of : (c : Columns) → Has all c → (key : List ℕ) × (held old key ≡ Some c)
    held_of = listed old new it all (all_found old new it all shown)

    keys_held : (keys : List (List ℕ)) → AreKeysOf all keys → (key : List ℕ) → Has keys key → (c : Columns) × (held old key ≡ Some c)
    keys_held keys are key h =
        let r = columns_with all keys are key h in
        let l = held_of r.0 r.1 in
        (r.0, subst (λ k. held old k ≡ Some r.0) (same_key l.0 key (sym (begins l.0 r.0 l.1).0 ∙ r.2.0)) l.1)

    held_keys : (keys : List (List ℕ)) → AreKeysOf all keys → (key : List ℕ) (c : Columns) → held old key ≡ Some c → Has keys key
    held_keys keys are key c h =
        let r = key_with all keys are c (lists_all old new it all (all_found old new it all shown) key c h) in
        subst (Has keys) (sym (same_key key r.0 (sym (begins key c h).0 ∙ r.2.0))) r.1

module _ {S : Type 0} (g : Ghosts S) (old new : Held S) where
  pub keys_is_map : (result : Result (List (List ℕ)) RecordFault) → ListsKeys g old new result → IsRecord (state g old) → KeysIn (state g old) (state g new) result
  keys_is_map (Ok keys) h it =
      let u = listed_same g old new h.0 it h.1 in (
        keys_held (state g old) (state g new) it h.0 h.1 keys h.2,
        held_keys (state g old) (state g new) it h.0 h.1 keys h.2,
        u,
        (same_shows (state g old) (state g new) it u).1,
      )
  keys_is_map (Err NotARecord) h it =
      let c = any_has HasNoKey h.0 h.2 in
      let key = held_of (state g old) (state g new) it h.0 h.1 c.0 c.1 in
      let b = begins (state g old) (state g new) it key.0 c.0 key.1 in
      let u = listed_same g old new h.0 it h.1 in
      (key.0, c.0, key.1, λ text. c.2 b.1 key.0 (b.0, text), u, (same_shows (state g old) (state g new) it u).1)
  keys_is_map (Err WrongVersion) h it = absurd h
  keys_is_map (Err NoRow) h it = absurd h
  keys_is_map (Err UsesSpent) h it = absurd h
  keys_is_map (Err (Store e)) (inl h) it =
      undone_stands (state g old) (state g new) it (failed_same list_text [] (state g old) (state g new) (list_is_plain (state g old) (state g new) it) e h)
  keys_is_map (Err (Store e)) (inr h) it = λ open_now. same_shows (state g old) (state g new) it (listed_same g old new h.1 it h.2)
  keys_is_map (Err OutOfMemory) h it = λ open_now. same_shows (state g old) (state g new) it (listed_same g old new h.0 it h.1)

  keys_stand : (result : Result (List (List ℕ)) RecordFault) → IsRecord (state g old) → KeysIn (state g old) (state g new) result → Stands (state g old) (state g new)
  keys_stand (Ok keys) it h open_now = same_shows (state g old) (state g new) it h.2
  keys_stand (Err NotARecord) it h open_now = same_shows (state g old) (state g new) it h.4
  keys_stand (Err WrongVersion) it h open_now = h open_now
  keys_stand (Err NoRow) it h open_now = h open_now
  keys_stand (Err UsesSpent) it h open_now = h open_now
  keys_stand (Err (Store e)) it h open_now = h open_now
  keys_stand (Err OutOfMemory) it h open_now = h open_now

  pub keys_safe : (law : (s : S) (trees : Trees) → IsTrue (g.view s).is_open → g.recovers s trees → trees ≡ (g.view s).committed) (result : Result (List (List ℕ)) RecordFault) → ListsKeys g old new result
      → RunsOpen (state g old) (state g new) → HasCleanDisk (state g new) → Survives (state g old) (state g new) (CommitsShowing list_text [] (state g old)) → ReadsSafely (state g old) (state g new)
  keys_safe law result lists = reads_safe g old new law list_text [] (λ it. keys_stand result it (keys_is_map result lists it)) (list_is_plain (state g old) (state g new))

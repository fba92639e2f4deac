-- Each change leaves the rows and the archives of a record in step.
use Rattle.std.proofs.Common.{◌≡◌, inl, inr, ℕ, ℤ, pos, Bool, true, false, ◌||◌, if◌then◌else◌, List, [], ◌∷◌, ◌++◌, drop, Option, Some, None, option_map, bytes_eq, refl, sym, ap, ◌∙◌, append-nil, true≢false}
use Rattle.std.specs.Prelude.{IsSome, find, option_to_list}
use Rattle.std.specs.Cmp.Lexicographic.{bytes_decides}
use Rattle.sqlite.specs.declared.types.Value.TheVariants.{Int, Text}
use Rattle.sqlite.specs.Order.{Row as Columns, column}
use Rattle.sqlite.specs.Effect.{Database}
use Rattle.job_rows.specs.declared.archive.Archive.{Archive}
use Rattle.job_rows.specs.declared.row.Row.{Row}
use Rattle.job_rows.specs.Map.{is_of, has_archive, without_archive, touched, next_used, keeps_archive, lost_for, left_for}
use Rattle.job_record.specs.Statements.{put_params}
use Rattle.job_record.specs.Map.{KeyMap, HoldsMap, IsInStep, unarchived, kept_as, Change, sets, touches, unarchives, forgets, changed_by}
use Rattle.job_record.proofs.ArchiveList.{or_none, has_append, has_other, without_own, without_absent, none_there, found_there, found_in, found_cases}
use Rattle.job_record.proofs.Losing.{or_second, own_kept, other_kept}
use Rattle.job_record.proofs.RowMap.{row_held}
use Rattle.job_record.proofs.Standing.{rows_at, tables_of, laid_row}

-- the columns of a row, of which the last is its flag
pub record Literal (c : Columns) : Type 0 where
  pub key : List ℕ
  pub outputs : List ℕ
  pub files : List ℕ
  pub cost : ℤ
  pub archived : ℤ
  pub is : c ≡ Text key ∷ Text outputs ∷ Text files ∷ Int cost ∷ Int archived ∷ []

pub literal_of : (db : Database) (map : KeyMap) → HoldsMap db map → (key : List ℕ) (c : Columns) → map.rows key ≡ Some c → Literal c
literal_of db map it key c h =
    let r = row_held (db.trees (rows_at map)) key c (it.rows key ∙ h) in
    let laid = laid_row map.beside.schema db (tables_of db map it) r.0 r.1 in
    record {
      key = laid.key;
      outputs = laid.outputs;
      files = laid.files;
      cost = laid.cost;
      archived = laid.archived;
      is = r.3 ∙ ap (λ (z : Columns). drop 1 z) laid.is;
    }

flag_gone : (c : Columns) → Literal c → column (unarchived c) 4 ≡ Int (pos 0)
flag_gone c l = ap (λ (z : Columns). column (unarchived z) 4) l.is

-- ---- a key that is used keeps its archive

has_touched : (k key : List ℕ) (xs : List Archive) → has_archive k (touched key xs) ≡ has_archive k xs
has_touched k key xs = elim (found_cases (find (is_of key) xs)) [
  | inl none ↦ ap (λ o. has_archive k (without_archive key xs ++ option_to_list (option_map (λ (archive : Archive). record archive { used = next_used xs }) o))) none ∙ ap (has_archive k) (append-nil (without_archive key xs) ∙ without_absent key xs (none_there key xs none))
  | inr some ↦
      ap (λ o. has_archive k (without_archive key xs ++ option_to_list (option_map (λ (archive : Archive). record archive { used = next_used xs }) o))) some.1
      ∙ has_append k (without_archive key xs) (record some.0 { used = next_used xs } ∷ []) ∙ either some.0 some.1 (bytes_eq k key) refl
]
  where
    either : (a : Archive) → find (is_of key) xs ≡ Some a → (b : Bool) → bytes_eq k key ≡ b → (has_archive k (without_archive key xs) || has_archive k (record a { used = next_used xs } ∷ [])) ≡ has_archive k xs
    either a found true is =
        let keys : k ≡ key = (bytes_decides k key).0 is in
        let own : bytes_eq k a.key ≡ true = (bytes_decides k a.key).1 (keys ∙ sym (found_in key xs a found).0) in
        or_second (has_archive k (without_archive key xs)) (has_archive k (record a { used = next_used xs } ∷ [])) (or_none (bytes_eq k a.key) false refl ∙ own) ∙ sym (found_there k xs a (ap (λ j. find (is_of j) xs) keys ∙ found))
    either a found false is =
        let other : bytes_eq k a.key ≡ false = ap (bytes_eq k) (found_in key xs a found).0 ∙ is in
        or_none (has_archive k (without_archive key xs)) (has_archive k (record a { used = next_used xs } ∷ [])) (or_none (bytes_eq k a.key) false refl ∙ other) ∙ has_other key k xs is

-- ---- each change

abbrev flag_of : Bool → ℕ
flag_of b = if b then 1 else 0

module _ (db : Database) (map : KeyMap) (it : HoldsMap db map) (step : IsInStep map) where
  unflagged : (k : List ℕ) (o : Option Columns) → map.rows k ≡ o → (c : Columns) → option_map unarchived o ≡ Some c → column c 4 ≡ Int (pos 0)
  unflagged k None at c is = absurd (let e = is in cc)
  unflagged k (Some d) at c is = let same : unarchived d ≡ c = cc in sym (ap (λ (z : Columns). column z 4) same) ∙ flag_gone d (literal_of db map it k d at)

  without_at : (gone k : List ℕ) → bytes_eq k gone ≡ true → has_archive k (without_archive gone map.archives) ≡ false
  without_at gone k is = ap (λ j. has_archive j (without_archive gone map.archives)) ((bytes_decides k gone).0 is) ∙ without_own gone map.archives

  module _ (gone : List ℕ) where
    unarchive_step : IsInStep (changed_by (unarchives gone) map)
    unarchive_step = record { flags = λ k c is. flag k c (bytes_eq k gone) refl is; owned = λ k there. owner k (bytes_eq k gone) refl there }
      where
        flag : (k : List ℕ) (c : Columns) (b : Bool) → bytes_eq k gone ≡ b → (if b then option_map unarchived (map.rows k) else map.rows k) ≡ Some c → column c 4 ≡ Int (pos (flag_of (has_archive k (without_archive gone map.archives))))
        flag k c true same is = unflagged k (map.rows k) refl c is ∙ sym (ap (λ b. Int (pos (flag_of b))) (without_at gone k same))
        flag k c false differs is = step.flags k c is ∙ sym (ap (λ b. Int (pos (flag_of b))) (has_other gone k map.archives differs))

        owner : (k : List ℕ) (b : Bool) → bytes_eq k gone ≡ b → has_archive k (without_archive gone map.archives) ≡ true → IsSome (if b then option_map unarchived (map.rows k) else map.rows k)
        owner k true same there = absurd (true≢false (sym there ∙ without_at gone k same))
        owner k false differs there = step.owned k (sym (has_other gone k map.archives differs) ∙ there)

    forget_step : IsInStep (changed_by (forgets gone) map)
    forget_step = record { flags = λ k c is. flag k c (bytes_eq k gone) refl is; owned = λ k there. owner k (bytes_eq k gone) refl there }
      where
        flag : (k : List ℕ) (c : Columns) (b : Bool) → bytes_eq k gone ≡ b → (if b then None else map.rows k) ≡ Some c → column c 4 ≡ Int (pos (flag_of (has_archive k (without_archive gone map.archives))))
        flag k c true same is = absurd (let e = is in cc)
        flag k c false differs is = step.flags k c is ∙ sym (ap (λ b. Int (pos (flag_of b))) (has_other gone k map.archives differs))

        owner : (k : List ℕ) (b : Bool) → bytes_eq k gone ≡ b → has_archive k (without_archive gone map.archives) ≡ true → IsSome (if b then None else map.rows k)
        owner k true same there = absurd (true≢false (sym there ∙ without_at gone k same))
        owner k false differs there = step.owned k (sym (has_other gone k map.archives differs) ∙ there)

    touch_step : IsInStep (changed_by (touches gone) map)
    touch_step = record {
      flags = λ k c is. step.flags k c is ∙ sym (ap (λ b. Int (pos (flag_of b))) (has_touched k gone map.archives));
      owned = λ k there. step.owned k (sym (has_touched k gone map.archives) ∙ there);
    }

  module _ (row : Row) where
    abbrev lost : List ℕ → Bool
    lost k = has_archive k (lost_for row map.budget map.archives)

    abbrev left : List Archive
    left = left_for row map.budget map.archives

    own_flag : (b : Bool) → column (put_params (record row { archived = b })) 4 ≡ Int (pos (flag_of b))
    own_flag true = refl
    own_flag false = refl

    set_flag : (k : List ℕ) (c : Columns) (own gone : Bool) → bytes_eq k row.key ≡ own → lost k ≡ gone
        → (if own then Some (put_params (kept_as map.budget row)) else (if gone then option_map unarchived (map.rows k) else map.rows k)) ≡ Some c → column c 4 ≡ Int (pos (flag_of (has_archive k left)))
    set_flag k c true gone own_is gone_is is =
        let same : put_params (kept_as map.budget row) ≡ c = cc in
        sym (ap (λ (z : Columns). column z 4) same) ∙ own_flag (keeps_archive row map.budget) ∙ sym (ap (λ b. Int (pos (flag_of b))) (ap (λ j. has_archive j left) ((bytes_decides k row.key).0 own_is) ∙ own_kept map.budget row map refl it.archives.apart))
    set_flag k c false true own_is gone_is is = unflagged k (map.rows k) refl c is ∙ sym (ap (λ b. Int (pos (flag_of b))) (other_kept map.budget row map refl it.archives.apart k own_is true gone_is))
    set_flag k c false false own_is gone_is is = step.flags k c is ∙ sym (ap (λ b. Int (pos (flag_of b))) (other_kept map.budget row map refl it.archives.apart k own_is false gone_is))

    set_owner : (k : List ℕ) (own gone : Bool) → bytes_eq k row.key ≡ own → lost k ≡ gone → has_archive k left ≡ true
        → IsSome (if own then Some (put_params (kept_as map.budget row)) else (if gone then option_map unarchived (map.rows k) else map.rows k))
    set_owner k true gone own_is gone_is there = refl
    set_owner k false true own_is gone_is there = absurd (true≢false (sym there ∙ other_kept map.budget row map refl it.archives.apart k own_is true gone_is))
    set_owner k false false own_is gone_is there = step.owned k (sym (other_kept map.budget row map refl it.archives.apart k own_is false gone_is) ∙ there)

    set_step : IsInStep (changed_by (sets row) map)
    set_step = record {
      flags = λ k c is. set_flag k c (bytes_eq k row.key) (lost k) refl refl is;
      owned = λ k there. set_owner k (bytes_eq k row.key) (lost k) refl refl there;
    }

pub stays_in_step : (db : Database) (c : Change) (map : KeyMap) → HoldsMap db map → IsInStep map → IsInStep (changed_by c map)
stays_in_step db (sets row) map it step = set_step db map it step row
stays_in_step db (touches key) map it step = touch_step db map it step key
stays_in_step db (unarchives key) map it step = unarchive_step db map it step key
stays_in_step db (forgets key) map it step = forget_step db map it step key

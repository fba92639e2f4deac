-- Each command leaves the rows and the archives of a record in step.
use Rattle.std.proofs.Common.{◌≡◌, ℕ, suc, zero, ◌≤◌, ◌<◌, max, Bool, true, false, not, cond, if◌then◌else◌, List, [], ◌∷◌, ◌++◌, drop, Option, Some, None, option_map, bytes_eq, refl, sym, ap, subst, ◌∙◌, append-nil, arith, true≢false}
use Rattle.std.specs.Prelude.{IsSome, filter, find, option_to_list}
use Rattle.std.specs.Cmp.Lexicographic.{bytes_decides}
use Rattle.job_rows.specs.declared.archive.Archive.{Archive}
use Rattle.job_rows.specs.declared.row.Row.{Row}
use Rattle.job_rows.specs.InStep.{AreRising, IsInStep, StaysInStep}
use Rattle.job_rows.specs.Map.{Kept, reads, unread, RowMap, sets, touches, unarchives, forgets, unarchived, changed_by, is_of, has_archive, without_archive, touched, greatest_used, next_used, keeps_archive, bytes_of, archives_with, lost_for, left_for, lost_count}
use Rattle.job_rows.proofs.Losing.{without_own, without_other, without_apart, rest_apart, has_touched, has_absent}
use Rattle.job_rows.proofs.InMemory.{all_apart, found_apart, own_kept, other_kept}

-- ---- numbers rise

rising_from : (low high : ℕ) (list : List Archive) → low ≤ high → AreRising high list → AreRising low list
rising_from low high [] under rising = tt
rising_from low high (a ∷ list) under rising = let next : high < a.used = rising.0 in (omega arith, rising.1)

rising_kept : (keeps : Archive → Bool) (last : ℕ) (list : List Archive) → AreRising last list → AreRising last (filter keeps list)
rising_kept keeps last [] rising = tt
rising_kept keeps last (a ∷ list) rising = either (keeps a) (rising_kept keeps a.used list rising.1)
  where
    either : (b : Bool) → AreRising a.used (filter keeps list) → AreRising last (cond b (a ∷ filter keeps list) (filter keeps list))
    either true rest = (rising.0, rest)
    either false rest = let next : last < a.used = rising.0 in rising_from last a.used (filter keeps list) (omega arith) rest

greatest_kept : (keeps : Archive → Bool) (list : List Archive) → greatest_used (filter keeps list) ≤ greatest_used list
greatest_kept keeps [] = omega arith
greatest_kept keeps (a ∷ list) = either (keeps a) (greatest_kept keeps list)
  where
    either : (b : Bool) → greatest_used (filter keeps list) ≤ greatest_used list → greatest_used (cond b (a ∷ filter keeps list) (filter keeps list)) ≤ max a.used (greatest_used list)
    either true rest = omega arith
    either false rest = omega arith

rising_rest : (n last : ℕ) (list : List Archive) → AreRising last list → AreRising last (drop n list)
rising_rest zero last list rising = rising
rising_rest (suc n) last [] rising = tt
rising_rest (suc n) last (a ∷ list) rising = let next : last < a.used = rising.0 in rising_rest n last list (rising_from last a.used list (omega arith) rising.1)

rising_more : (last : ℕ) (list : List Archive) (own : Archive) → AreRising last list → last < own.used → greatest_used list < own.used → AreRising last (list ++ own ∷ [])
rising_more last [] own rising first all = (first, tt)
rising_more last (a ∷ list) own rising first all = (rising.0, rising_more a.used list own rising.1 (omega arith) (omega arith))

-- the archive of a key comes last, with the next number
rising_renewed : (key : List ℕ) (list : List Archive) (own : Archive) → AreRising 0 list → own.used ≡ next_used list → AreRising 0 (without_archive key list ++ own ∷ [])
rising_renewed key list own rising is =
    let less : greatest_used (without_archive key list) ≤ greatest_used list = greatest_kept (λ archive. not (is_of key archive)) list in
    rising_more 0 (without_archive key list) own (rising_kept (λ archive. not (is_of key archive)) 0 list rising) (omega arith) (omega arith)

rising_without : (key : List ℕ) (list : List Archive) → AreRising 0 list → AreRising 0 (without_archive key list)
rising_without key list rising = rising_kept (λ archive. not (is_of key archive)) 0 list rising

-- ---- each command

flag_gone : (o : Option Kept) (row : Row) → option_map unarchived o ≡ Some (reads row) → row.archived ≡ false
flag_gone None row is = cc
flag_gone (Some (reads other)) row is = let same : record other { archived = false } ≡ row = cc in sym (ap (λ (r : Row). r.archived) same)
flag_gone (Some unread) row is = cc

module _ (map : RowMap) (it : IsInStep map) where
  module _ (row : Row) where
    abbrev left : List Archive
    left = left_for row map.budget map.archives

    rising_all : AreRising 0 (archives_with row map.budget map.archives)
    rising_all = either (keeps_archive row map.budget)
      where
        either : (b : Bool) → AreRising 0 (without_archive row.key map.archives ++ (if b then record { key = row.key; bytes = bytes_of row; used = next_used map.archives } ∷ [] else []))
        either true = rising_renewed row.key map.archives (record { key = row.key; bytes = bytes_of row; used = next_used map.archives }) it.rising refl
        either false = subst (AreRising 0) (sym (append-nil (without_archive row.key map.archives))) (rising_without row.key map.archives it.rising)

    flag_after : (key : List ℕ) (found : Row) (own gone : Bool) → bytes_eq key row.key ≡ own → has_archive key (lost_for row map.budget map.archives) ≡ gone
        → (if own then Some (reads (record row { archived = keeps_archive row map.budget })) else if gone then option_map unarchived (map.rows key) else map.rows key) ≡ Some (reads found) → found.archived ≡ has_archive key left
    flag_after key found true gone own_is gone_is is =
        let same : record row { archived = keeps_archive row map.budget } ≡ found = cc in
        sym (ap (λ (r : Row). r.archived) same) ∙ sym (own_kept row map.budget map.archives it.apart) ∙ ap (λ k. has_archive k left) (sym ((bytes_decides key row.key).0 own_is))
    flag_after key found false true own_is gone_is is = flag_gone (map.rows key) found is ∙ sym (other_kept row map.budget map.archives it.apart key own_is true gone_is)
    flag_after key found false false own_is gone_is is = it.flags key found is ∙ sym (other_kept row map.budget map.archives it.apart key own_is false gone_is)

    owned_after : (key : List ℕ) (own gone : Bool) → bytes_eq key row.key ≡ own → has_archive key (lost_for row map.budget map.archives) ≡ gone → has_archive key left ≡ true
        → IsSome (if own then Some (reads (record row { archived = keeps_archive row map.budget })) else if gone then option_map unarchived (map.rows key) else map.rows key)
    owned_after key true gone own_is gone_is there = refl
    owned_after key false true own_is gone_is there = absurd (true≢false (sym there ∙ other_kept row map.budget map.archives it.apart key own_is true gone_is))
    owned_after key false false own_is gone_is there = it.owned key (sym (other_kept row map.budget map.archives it.apart key own_is false gone_is) ∙ there)

    set_step : IsInStep (changed_by (sets row) map)
    set_step = record {
      flags = λ key found is. flag_after key found (bytes_eq key row.key) (has_archive key (lost_for row map.budget map.archives)) refl refl is;
      owned = λ key there. owned_after key (bytes_eq key row.key) (has_archive key (lost_for row map.budget map.archives)) refl refl there;
      apart = rest_apart (lost_count map.budget (archives_with row map.budget map.archives)) (archives_with row map.budget map.archives) (all_apart row map.budget map.archives it.apart);
      rising = rising_rest (lost_count map.budget (archives_with row map.budget map.archives)) 0 (archives_with row map.budget map.archives) rising_all;
    }

  module _ (key : List ℕ) where
    same_keys : (there : Bool) → has_archive key map.archives ≡ there → (k : List ℕ) → has_archive k (touched key map.archives) ≡ has_archive k map.archives
    same_keys true is k = has_touched k key map.archives is
    same_keys false is k = has_absent k key map.archives is

    touched_keys : (k : List ℕ) → has_archive k (touched key map.archives) ≡ has_archive k map.archives
    touched_keys = same_keys (has_archive key map.archives) refl

    rising_touched : (list : List Archive) → AreRising 0 (without_archive key map.archives ++ option_to_list (option_map (λ (archive : Archive). record archive { used = next_used map.archives }) (find (is_of key) list)))
    rising_touched list = either (find (is_of key) list)
      where
        either : (o : Option Archive) → AreRising 0 (without_archive key map.archives ++ option_to_list (option_map (λ (archive : Archive). record archive { used = next_used map.archives }) o))
        either None = subst (AreRising 0) (sym (append-nil (without_archive key map.archives))) (rising_without key map.archives it.rising)
        either (Some a) = rising_renewed key map.archives (record a { used = next_used map.archives }) it.rising refl

    touch_step : IsInStep (changed_by (touches key) map)
    touch_step = record {
      flags = λ k row is. it.flags k row is ∙ sym (touched_keys k);
      owned = λ k there. it.owned k (sym (touched_keys k) ∙ there);
      apart = found_apart key (next_used map.archives) map.archives map.archives it.apart;
      rising = rising_touched map.archives;
    }

    without_at : (k : List ℕ) (b : Bool) → bytes_eq k key ≡ b → has_archive k (without_archive key map.archives) ≡ (if b then false else has_archive k map.archives)
    without_at k true is = ap (λ n. has_archive n (without_archive key map.archives)) ((bytes_decides k key).0 is) ∙ without_own key map.archives
    without_at k false is = without_other key k map.archives is

    unarchive_step : IsInStep (changed_by (unarchives key) map)
    unarchive_step = record {
      flags = λ k row is. flag k row (bytes_eq k key) refl is;
      owned = λ k there. owner k (bytes_eq k key) refl there;
      apart = without_apart key map.archives it.apart;
      rising = rising_without key map.archives it.rising;
    }
      where
        flag : (k : List ℕ) (row : Row) (b : Bool) → bytes_eq k key ≡ b → (if b then option_map unarchived (map.rows k) else map.rows k) ≡ Some (reads row) → row.archived ≡ has_archive k (without_archive key map.archives)
        flag k row true same is = flag_gone (map.rows k) row is ∙ sym (without_at k true same)
        flag k row false differs is = it.flags k row is ∙ sym (without_at k false differs)

        owner : (k : List ℕ) (b : Bool) → bytes_eq k key ≡ b → has_archive k (without_archive key map.archives) ≡ true → IsSome (if b then option_map unarchived (map.rows k) else map.rows k)
        owner k true same there = absurd (true≢false (sym there ∙ without_at k true same))
        owner k false differs there = it.owned k (sym (without_at k false differs) ∙ there)

    forget_step : IsInStep (changed_by (forgets key) map)
    forget_step = record {
      flags = λ k row is. flag k row (bytes_eq k key) refl is;
      owned = λ k there. owner k (bytes_eq k key) refl there;
      apart = without_apart key map.archives it.apart;
      rising = rising_without key map.archives it.rising;
    }
      where
        flag : (k : List ℕ) (row : Row) (b : Bool) → bytes_eq k key ≡ b → (if b then None else map.rows k) ≡ Some (reads row) → row.archived ≡ has_archive k (without_archive key map.archives)
        flag k row true same is = cc
        flag k row false differs is = it.flags k row is ∙ sym (without_at k false differs)

        owner : (k : List ℕ) (b : Bool) → bytes_eq k key ≡ b → has_archive k (without_archive key map.archives) ≡ true → IsSome (if b then None else map.rows k)
        owner k true same there = absurd (true≢false (sym there ∙ without_at k true same))
        owner k false differs there = it.owned k (sym (without_at k false differs) ∙ there)

pub stays_in_step : StaysInStep
stays_in_step (sets row) map it = set_step map it row
stays_in_step (touches key) map it = touch_step map it key
stays_in_step (unarchives key) map it = unarchive_step map it key
stays_in_step (forgets key) map it = forget_step map it key

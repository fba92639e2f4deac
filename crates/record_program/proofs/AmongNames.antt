-- Which folders are unknown and which archives have none, and what an unknown folder is not.
use Rattle.std.proofs.Common.{◌≡◌, ◌==◌, Bool, true, false, cond, not, ◌||◌, ◌&&◌, ℕ, zero, suc, List, [], ◌∷◌, Option, Some, inl, inr, refl, sym, ap, subst, ◌∙◌, arith}
use Rattle.std.specs.Prelude.{filter, is_some, bytes_eq, slice_index_or}
use Rattle.std.specs.List.{All}
use Rattle.std.proofs.lemmas.Bool.Decides.{Decides-eqb}
use Rattle.std.proofs.lemmas.Slice.Eq.{bytes_eq-Decides}
use Rattle.std.proofs.lemmas.Map.Views.{All-keys-insert_entry}
use Rattle.sqlite_rules.specs.Lists.{Has}
use Rattle.sqlite_rules.proofs.ListLemmas.{has_filtered}
use Rattle.plain_data.specs.ByName.{by_name, names, name_cmp, value_at}
use Rattle.plain_data.proofs.Lookup.{name_itself, value_at-by_name}
use Rattle.job_rows.specs.declared.archive.Archive.{Archive}
use Rattle.job_record.specs.declared.fault.RecordFault.{RecordFault}
use Rattle.record_program.specs.Lines.{key_sum}
use Rattle.record_program.specs.Checking.{entries, in_order, is_among, is_in, is_only_left, may_hold, unknown, missing, stored, sums, IsUnordered, Refuses, SparesArchives}

found_here : (b : Bool) (rest : Option (Unit {0})) → is_some (cond b (Some tt) rest) ≡ (b || is_some rest)
found_here true rest = refl
found_here false rest = refl

-- a name is looked up among the names
found_among : (texts : List (List ℕ)) (text : List ℕ) → is_some (value_at text (entries texts)) ≡ is_among texts text
found_among [] text = refl
found_among (t ∷ ts) text = found_here (bytes_eq text t) (value_at text (entries ts)) ∙ ap (λ found. bytes_eq text t || found) (found_among ts text)

in_table : (texts : List (List ℕ)) (text : List ℕ) → is_in (by_name (entries texts)) text ≡ is_among texts text
in_table texts text = ap is_some (value_at-by_name text (entries texts)) ∙ found_among texts text

module _ (found : List (List ℕ)) (archives : List Archive) (left : List (List ℕ)) (folders table : List (List ℕ × Unit {0})) where
  pub is_unknown : folders ≡ by_name (entries (stored found)) → table ≡ by_name (entries (sums archives))
      → left ≡ filter (λ name. not (may_hold (is_in folders) (is_in table) name)) (names folders) → left ≡ unknown found archives
  is_unknown folders_are table_is is =
      is ∙ (λ i. filter (λ name. not (may_hold (is_in (folders_are i)) (is_in (table_is i)) name)) (names (folders_are i)))
      ∙ (λ i. filter (λ name. not (may_hold (λ text. in_table (stored found) text i) (λ text. in_table (sums archives) text i) name)) (in_order (stored found)))

  pub is_missing : folders ≡ by_name (entries (stored found)) → table ≡ by_name (entries (sums archives)) → left ≡ filter (λ sum. not (is_in folders sum)) (names table) → left ≡ missing found archives
  is_missing folders_are table_is is =
      is ∙ (λ i. filter (λ sum. not (is_in (folders_are i) sum)) (names (table_is i))) ∙ (λ i. filter (λ sum. not (in_table (stored found) sum i)) (in_order (sums archives)))

-- a name without a point is not what a store left
pub not_left : (is_folder is_archive : List ℕ → Bool) (name : List ℕ) → ((rest : List ℕ) → ¬ (name ≡ 46 ∷ rest)) → false ≡ is_only_left is_folder is_archive name
not_left is_folder is_archive [] other = refl
not_left is_folder is_archive (b ∷ sum) other = either (b == 46) refl
  where
    either : (point : Bool) → (b == 46) ≡ point → false ≡ (point && (is_archive sum && not (is_folder sum)))
    either true same = absurd (other sum (ap (λ (c : ℕ). c ∷ sum) ((Decides-eqb b 46).0 same)))
    either false same = refl

-- ---- why they can't be compared

module _ (found : List (List ℕ)) (archives : List Archive) (fault : RecordFault) where
  pub refuses_folders : IsUnordered (stored found) fault → Refuses found archives fault
  refuses_folders (inl memory) = inl memory
  refuses_folders (inr twice) = inr (twice.0, inl twice.1)

  pub refuses_sums : IsUnordered (sums archives) fault → Refuses found archives fault
  refuses_sums (inl memory) = inl memory
  refuses_sums (inr twice) = inr (twice.0, inr twice.1)

-- ---- an unknown folder

all_at : {X : Type 0} (P : X → Type 0) (xs : List X) (x : X) → All P xs → Has xs x → P x
all_at P [] x all has = absurd has
all_at P (y ∷ ys) x all (inl is) = subst P (sym is) (all 0 y (omega arith))
all_at P (y ∷ ys) x all (inr has) = all_at P ys x (λ k d within. all (suc k) d (omega arith)) has

each_is_had : {X : Type 0} (xs : List X) → All (λ x. Has xs x) xs
each_is_had [] k d within = absurd (omega arith)
each_is_had (y ∷ ys) zero d within = inl refl
each_is_had (y ∷ ys) (suc k) d within = inr (each_is_had ys k d (omega arith))

-- what is put in order was there
was_there : (texts : List (List ℕ)) (text : List ℕ) → Has (in_order texts) text → Has texts text
was_there [] text has = absurd has
was_there (t ∷ ts) text has =
    let rest : All (λ x. Has (t ∷ ts) x) (in_order ts) = λ k d within. inr (was_there ts (slice_index_or (in_order ts) k d) (each_is_had (in_order ts) k d within)) in
    all_at (λ x. Has (t ∷ ts) x) (in_order (t ∷ ts)) text (All-keys-insert_entry name_cmp t tt (λ x. Has (t ∷ ts) x) (by_name (entries ts)) rest (inl refl)) has

or_true : (b : Bool) → (b || true) ≡ true
or_true true = refl
or_true false = refl

is_a_sum : (archives : List Archive) (archive : Archive) (name : List ℕ) → Has archives archive → key_sum archive.key ≡ name → is_among (sums archives) name ≡ true
is_a_sum [] archive name has same = absurd has
is_a_sum (a ∷ more) archive name (inl is) same =
    let here : bytes_eq name (key_sum a.key) ≡ true = subst (λ sum. bytes_eq name sum ≡ true) (sym same ∙ ap (λ (x : Archive). key_sum x.key) is) (name_itself name) in
    ap (λ b. b || is_among (sums more) name) here
is_a_sum (a ∷ more) archive name (inr has) same =
    ap (λ b. bytes_eq name (key_sum a.key) || b) (is_a_sum more archive name has same) ∙ or_true (bytes_eq name (key_sum a.key))

-- a name that is found among others is one of them
had_among : (texts : List (List ℕ)) (text : List ℕ) → is_among texts text ≡ true → Has texts text
had_among [] text is = absurd (let e : false ≡ true = is in cc)
had_among (t ∷ ts) text is = either (λ other. had_among ts text other) (bytes_eq text t) refl is
  where
    either : (is_among ts text ≡ true → Has ts text) → (b : Bool) → bytes_eq text t ≡ b → (b || is_among ts text) ≡ true → Has (t ∷ ts) text
    either later true same is = inl ((bytes_eq-Decides text t).0 same)
    either later false other is = inr (later is)

module _ (found : List (List ℕ)) (archives : List Archive) (archive : Archive) (at : Has archives archive) where
  abbrev folder : List ℕ → Bool
  folder = is_among (stored found)

  abbrev archive_of : List ℕ → Bool
  archive_of = is_among (sums archives)

  not_its_own : (name : List ℕ) → not (may_hold folder archive_of name) ≡ true → ¬ (key_sum archive.key ≡ name)
  not_its_own name free same = let e : false ≡ true = sym (ap (λ b. not (b || is_only_left folder archive_of name)) (is_a_sum archives archive name at same)) ∙ free in cc

  -- if its own folder is not there, what stores of it left may have its files
  has_its_own : (b : Bool) → folder (key_sum archive.key) ≡ b → not (may_hold folder archive_of (46 ∷ key_sum archive.key)) ≡ true → Has (stored found) (key_sum archive.key)
  has_its_own true there free = had_among (stored found) (key_sum archive.key) there
  has_its_own false gone free =
      let held : may_hold folder archive_of (46 ∷ key_sum archive.key) ≡ true = (λ i. archive_of (46 ∷ key_sum archive.key) || (is_a_sum archives archive (key_sum archive.key) at refl i && not (gone i))) ∙ or_true (archive_of (46 ∷ key_sum archive.key)) in
      let e : false ≡ true = sym (ap not held) ∙ free in absurd cc

pub spares_archives : SparesArchives
spares_archives found archives name has =
    let kept = has_filtered (λ text. not (may_hold (is_among (stored found)) (is_among (sums archives)) text)) (in_order (stored found)) name has in
    (was_there (stored found) name kept.0, λ archive at. (not_its_own found archives archive at name kept.1, λ same. has_its_own found archives archive at _ refl (subst (λ n. not (may_hold (is_among (stored found)) (is_among (sums archives)) n) ≡ true) (sym same) kept.1)))

-- What the writes of the record compile to, wherever its tables stand.
use Rattle.std.proofs.Common.{◌≡◌, ℕ, [], ◌∷◌, Some, option_map, refl}
use Rattle.std.specs.Prelude.{find}
use Rattle.sqlite.specs.Schema.{Schema}
use Rattle.sqlite.specs.Source.TheVariants.{Values}
use Rattle.sqlite_resolve.specs.Given.{is_key_at}
use Rattle.sqlite_tied.specs.Compute.{everything}
use Rattle.job_record.specs.Statements.{note_version, put_text, drop_archive_text, forget_text}
use Rattle.job_record.specs.Archives.{add_text, use_text, remove_text, renote_version}
use Rattle.job_record.specs.Tables.{meta_at, job_at, archive_at}
use Rattle.job_record.specs.Places.{StandsAt}
use Rattle.job_record.specs.Commands.{IsUnderstoodAs, updates, deletes, has_key, forget_project, forget_on, drop_project, drop_on, replace_tests, replace_project, put_row, put_at, use_project, use_on, add_row, add_at, is_version, version_row, note_at, renote_project, renote_on}
use Rattle.job_record.proofs.Understood.{draft_on}
use Rattle.job_record.proofs.UnderstoodWrite.{update_is, delete_is, insert_is, put_is as upsert_is}

pub drop_is : (schema : Schema) (place tree : ℕ) → StandsAt schema (job_at tree) place → IsUnderstoodAs schema drop_archive_text (updates place (drop_on tree))
unfolding everything
drop_is schema place tree h = update_is schema (job_at tree) place h drop_archive_text _ refl refl _ _ refl (tt, tt) ((0, refl), tt) (draft_on tree has_key drop_project []) refl refl refl

pub forget_is : (schema : Schema) (place tree : ℕ) → StandsAt schema (job_at tree) place → IsUnderstoodAs schema forget_text (deletes place (forget_on tree))
unfolding everything
forget_is schema place tree h = delete_is schema (job_at tree) place h forget_text _ refl refl _ refl ((0, refl), tt) (draft_on tree has_key forget_project []) refl refl refl

pub use_is : (schema : Schema) (place tree : ℕ) → StandsAt schema (archive_at tree) place → IsUnderstoodAs schema use_text (updates place (use_on tree))
unfolding everything
use_is schema place tree h = update_is schema (archive_at tree) place h use_text _ refl refl _ _ refl (tt, tt) ((0, refl), tt) (draft_on tree has_key use_project []) refl refl refl

pub remove_is : (schema : Schema) (place tree : ℕ) → StandsAt schema (archive_at tree) place → IsUnderstoodAs schema remove_text (deletes place (forget_on tree))
unfolding everything
remove_is schema place tree h = delete_is schema (archive_at tree) place h remove_text _ refl refl _ refl ((0, refl), tt) (draft_on tree has_key forget_project []) refl refl refl

pub renote_is : (schema : Schema) (place tree : ℕ) → StandsAt schema (meta_at tree) place → IsUnderstoodAs schema renote_version (updates place (renote_on tree))
unfolding everything
renote_is schema place tree h = update_is schema (meta_at tree) place h renote_version _ refl refl _ _ refl (tt, tt) ((0, refl), tt) (draft_on tree is_version renote_project []) refl refl refl

pub add_is : (schema : Schema) (place tree : ℕ) → StandsAt schema (archive_at tree) place → IsUnderstoodAs schema add_text (add_at place)
unfolding everything
add_is schema place tree h = insert_is schema (archive_at tree) place h add_text _ refl refl _ _ refl refl (Values add_row 4) refl

pub note_is : (schema : Schema) (place tree : ℕ) → StandsAt schema (meta_at tree) place → IsUnderstoodAs schema note_version (note_at place)
unfolding everything
note_is schema place tree h = insert_is schema (meta_at tree) place h note_version _ refl refl _ _ refl refl (Values version_row 3) refl

pub put_is : (schema : Schema) (place tree : ℕ) → StandsAt schema (job_at tree) place → option_map (λ i. i.columns) (find (is_key_at (job_at tree) (1 ∷ [])) schema.indexes) ≡ Some (1 ∷ [])
    → IsUnderstoodAs schema put_text (put_at place tree)
unfolding everything
put_is schema place tree h keyed =
    upsert_is schema (job_at tree) place h put_text _ refl refl _ _ _ refl refl (Values put_row 6) refl refl refl refl keyed (draft_on tree replace_tests replace_project []) refl refl refl

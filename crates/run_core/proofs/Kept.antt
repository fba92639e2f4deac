-- What becomes of collected outputs, by what was tested.
use Rattle.std.specs.Prelude.{option_copied}
use Rattle.std.proofs.Common.{◌≡◌, ◌∙◌, ◌↔◌, IsTrue, inl, inr, ℕ, Bool, true, false, List, [], ◌∷◌, Option, Some, None, refl, sym, subst}
use Rattle.cwl_process.specs.Acting.{reuse_of}
use Rattle.job_graph.specs.Words.{Fields}
use Rattle.job_key.specs.Key.{key}
use Rattle.job_reuse.specs.Laws.{OutputsAreTheSameOrNot}
use Rattle.job_reuse.specs.Rows.{made_row}
use Rattle.job_rows.specs.declared.row.Row.{Row}
use Rattle.staging.specs.declared.found.Found.{Found}
use Rattle.run_rules.specs.Events.{job_repeated, job_succeeded}
use Rattle.run_rules.specs.Keeps.{AgreesWith, Keeps, differs, keeps, keeps_none, work_to_keep}
use Rattle.run_core.specs.declared.site.Site.{Site}
use Rattle.run_core.specs.declared.state.JobNext.{JobNext}
use Rattle.run_core.specs.inner.Due.{DiffersAt, KeepsAt, job_at_site, told_in}

module _ (site : Site) (millis : ℕ) (found : List Found) (outputs : Fields) (reusable : Bool) (its : reusable ≡ reuse_of site.tool.now.asked) where
  pub kept_none : reusable ≡ false → KeepsAt site millis found outputs (JobNext.Gives outputs None)
  kept_none once = record { on = λ place. keeps_none (sym its ∙ once); asks_nothing = tt }

  module _ (again : reusable ≡ true) where
    may : reuse_of site.tool.now.asked ≡ true
    may = sym its ∙ again

    not_kept : (row : Option Row) → option_copied site.row ≡ row → DiffersAt row outputs → KeepsAt site millis found outputs (JobNext.Differs outputs)
    not_kept None is other = absurd other
    not_kept (Some row) is other = record { on = λ place. differs row may is other; asks_nothing = tt }

    pub kept_not : DiffersAt (option_copied site.row) outputs → KeepsAt site millis found outputs (JobNext.Differs outputs)
    kept_not other = not_kept (option_copied site.row) refl other

    -- no row has other outputs, so each has the same
    alike : OutputsAreTheSameOrNot → (row : Option Row) → (DiffersAt row outputs → ⊥) → AgreesWith outputs row
    alike same_or_not None never = tt
    alike same_or_not (Some row) never = elim (same_or_not row.outputs outputs) [
      | inl same ↦ same
      | inr other ↦ absurd (never other)
    ]

    abbrev its_made : Row
    its_made = made_row (key site.tool.now site.inputs.now) outputs found millis false

    told : (before : Option Row) → option_copied site.row ≡ before → AgreesWith outputs before → KeepsAt site millis found outputs (told_in before outputs its_made)
    told None is agrees = record {
      on = λ place. subst (λ (row : Option Row). Keeps site.options.now.keep place (job_at_site site place) row millis found outputs
          (work_to_keep site.options.now.keep place its_made) (job_succeeded place outputs ∷ [])) (sym is)
          (keeps may agrees);
      asks_nothing = tt;
    }
    told (Some before) is agrees = record {
      on = λ place. subst (λ (row : Option Row). Keeps site.options.now.keep place (job_at_site site place) row millis found outputs
          (work_to_keep site.options.now.keep place its_made) (job_repeated place ∷ [])) (sym is)
          (keeps may agrees);
      asks_nothing = tt;
    }

    pub kept_row : OutputsAreTheSameOrNot → (other : Bool) → IsTrue other ↔ DiffersAt (option_copied site.row) outputs → other ≡ false → (row : Row) →
        row ≡ made_row (key site.tool.now site.inputs.now) outputs found millis false → KeepsAt site millis found outputs (told_in (option_copied site.row) outputs row)
    kept_row same_or_not other tells is row made =
        subst (λ (its_row : Row). KeepsAt site millis found outputs (told_in (option_copied site.row) outputs its_row)) (sym made)
        (told (option_copied site.row) refl (alike same_or_not (option_copied site.row) (λ differ. let never : true ≡ false = sym (tells.1 differ) ∙ is in cc)))

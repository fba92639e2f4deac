-- What is turned to depends on what a course has come to, and not on the room that its lists have.
use Rattle.std.proofs.Common.{◌≡◌, ◌∙◌, ap}
use Rattle.run_core.specs.declared.state.Course.{Course}
use Rattle.run_core.specs.declared.state.Given.{Given}
use Rattle.run_core.specs.declared.state.Measuring.{Measuring}
use Rattle.run_core.specs.declared.state.Turn.{Turn}
use Rattle.run_core.specs.inner.Course.{Past, TellsAlike, past_of}
use Rattle.run_core.specs.inner.Measures.{Begins, MeasuresOn, all_measured, measures}
use Rattle.run_core.specs.inner.Picks.{Picks, chooses, drains, ends_so, finds}

tells_alike : (old new other : Past) → other ≡ new → TellsAlike old new → TellsAlike old other
tells_alike old new other same alike = record {
  notes = ap (λ (p : Past). p.notes) same ∙ alike.notes;
  planned = ap (λ (p : Past). p.planned) same ∙ alike.planned;
  plans = ap (λ (p : Past). p.plans) same ∙ alike.plans;
}

module _ (given : Given) (old new other : Course) (past : past_of other ≡ past_of new) (known : other.known ≡ new.known) where
  pub picks_same : (turn : Turn) → Picks given old turn new → Picks given old turn other
  picks_same turn (drains n settled flies same kept) = drains other settled flies (past ∙ same) (known ∙ kept)
  picks_same turn (ends_so end n is none left kept noted) = ends_so end other is none (ap (λ (p : Past). p.tickets) past ∙ left) (known ∙ kept) (tells_alike (past_of old) (past_of n) (past_of other) past noted)
  picks_same turn (finds number t n still is_next it same kept) = finds number t other still is_next it (past ∙ same) (known ∙ kept)
  picks_same turn (chooses planned t n still looked replans chosen same kept) = chooses planned t other still looked replans chosen (past ∙ same) (known ∙ kept)

module _ (given : Given) (old new other : Course) (past : past_of other ≡ past_of new) (known : other.known ≡ new.known) where
  measures_same : (measuring : Measuring) (turn : Turn) → MeasuresOn given old measuring turn new → MeasuresOn given old measuring turn other
  measures_same measuring turn (all_measured k t n none unfolds picks) =
      all_measured k t other none unfolds (picks_same given k n other past known t picks)
  measures_same measuring turn (measures rest path n is same kept) = measures rest path other is (past ∙ same) (known ∙ kept)

  pub begins_same : (turn : Turn) → Begins given old turn new → Begins given old turn other
  begins_same turn begins = record {
    measuring = begins.measuring;
    paths = begins.paths;
    few = begins.few;
    none = begins.none;
    on = measures_same begins.measuring turn begins.on;
  }

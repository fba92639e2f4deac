use Rattle.std.proofs.Common.{◌≡◌, drop, map}
use denote.Shadow.{shadow}
use denote.Text.{Utf8}
use Rattle.document_table.specs.inner.Climbs.{climb_from}
use Rattle.document_table.proofs.repeats.climb_from.Given as goal

abbrev pub invariant-loop-name : goal.invariant-loop-name
invariant-loop-name l = shadow (Utf8 l.last) × (climb_from l.last (map (λ name. name.now) (drop l.name-index l.others)) ≡ climb_from l.fn.first (map (λ name. name.now) l.others))

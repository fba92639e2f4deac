use Rattle.std.proofs.Common.{◌≡◌, map, take}
use Rattle.end_words.specs.RunEnds.{place_json}
use Rattle.plan_call.proofs.plan_texts.shown.Given as goal

abbrev pub invariant-loop-place : goal.invariant-loop-place
invariant-loop-place l = l.texts.items ≡ map place_json (take l.place-index l.places)

use Rattle.std.proofs.Common.{◌≡◌, ◌∙◌, ap, arith, length, map, rules}
use Rattle.std.proofs.lemmas.Grind.{common_steps}
use Rattle.std.proofs.lemmas.List.{length-map}
use Rattle.end_words.specs.RunEnds.{place_json}
use Rattle.plan_call.proofs.plan_texts.shown.Goals as goal

pub returns-clause-count : goal.returns-clause-count
returns-clause-count c =
    let texts : c.loop-place.texts.items ≡ map place_json c.args.places.now = first_of (search rules, grind (arith, common_steps)) in
    ap length texts ∙ length-map c.args.places.now place_json

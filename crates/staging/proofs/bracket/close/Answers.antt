use Rattle.std.proofs.Common.{arith, rules, ne_eqb}
use Rattle.std.specs.Str.{chars}
use Rattle.staging.proofs.Scanned.{closing-found, closing-next}
use Rattle.staging.proofs.bracket.close.Goals as goal

pub returns-then-character-eq93-clause-exact : goal.returns-then-character-eq93-clause-exact
returns-then-character-eq93-clause-exact c =
    closing-found (chars c.args.text.now) c.loop-character.count (chars c.loop-character.rest.now) (chars c.in-Some.after.now) c.in-Some.character c.loop-character.invariant.1 c.in-Some.ensures.0 c.if-character-eq93.true

pub loop-character-preserved : goal.loop-character-preserved
loop-character-preserved c = (
  search rules,
  closing-next (chars c.args.text.now) c.loop-character.count (chars c.loop-character.rest.now) (chars c.in-Some.after.now) c.in-Some.character c.loop-character.invariant.1 c.in-Some.ensures.0
      (ne_eqb c.in-Some.character 93 c.if-character-eq93.false)
      (ne_eqb c.in-Some.character 47 c.if-character-eq47.false),
  omega (arith, c.loop-character.invariant.2, c.in-Some.ensures.1),
)

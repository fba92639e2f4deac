use Rattle.std.proofs.Common.{bytes_eq, codes, refl}
use Rattle.std.proofs.lemmas.Map.Made.{lookup-map_values}
use Rattle.collected_outputs.specs.Readable.{seen}
use Rattle.collected_outputs.proofs.classes.is_classed.Goals as goal

pub returns-in-None : goal.returns-in-None
returns-in-None c = rw (lookup-map_values seen (bytes_eq (codes "class")) c.args.fields.now, ← c.in-None.ensures) refl

pub returns-in-Some : goal.returns-in-Some
returns-in-Some c = rw (lookup-map_values seen (bytes_eq (codes "class")) c.args.fields.now, ← c.in-Some.ensures) c.is_class.ensures

use Rattle.std.proofs.Common.{rules}
use Rattle.std.proofs.lemmas.Fn.{always_returns_same}
use Rattle.plain_data.specs.ByName.{name_cmp}
use Rattle.plain_data.proofs.Place.{searched}
use Rattle.plain_data.proofs.keyed.Keyed.place.Goals as goal

-- the closure compares an entry's name
pub returns : goal.returns
returns g c =
    let facts = c.binary_search_by.ensures in
    let compared = facts.position (λ e. name_cmp e.0 c.args.name.now) (always_returns_same _ _ _ (λ a r q called. search rules)) in
    rw (← c.self.view_is, ← c.deref.ensures.value) (searched _ (rw c.deref.ensures.value c.self.invariant) c.args.name.now _ facts.bound compared)

-- The code's order of origins is that of what they stand for.
use Rattle.std.proofs.Common.{◌≡◌, refl}
use Rattle.command_line.specs.Order.{origin_cmp}
use Rattle.command_line.specs.inner.View.{origin_of}
use Rattle.command_line.specs.declared.order.Origin.{Origin}
use Rattle.command_line.specs.declared.order.Origin.TheVariants as origin
use Rattle.command_line.specs.contracts.order.OriginOrd.TheImpl.{ghosts}

pub origins_agree : (x y : Origin) → ghosts.cmp x y ≡ origin_cmp (origin_of x) (origin_of y)
origins_agree (origin.Argument n) (origin.Argument m) = refl
origins_agree (origin.Argument n) (origin.Input j) = refl
origins_agree (origin.Input i) (origin.Argument m) = refl
origins_agree (origin.Input i) (origin.Input j) = refl

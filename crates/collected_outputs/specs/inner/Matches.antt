-- How matched names are added. No public contract cites this.
use Rattle.std.specs.Prelude.{◌≡◌, List, ◌++◌}
use Rattle.std.specs.Map.{keys_of}
use Rattle.staging.specs.declared.item.PatternItem.{PatternItem}
use Rattle.collected_outputs.specs.Listing.{Listing}
use Rattle.collected_outputs.specs.Matched.{Name, AreThose, AreOf}

pub record AddsThose (listing : Listing) (pattern : List PatternItem) (before after : List Name) : Type 0 where
  pub those : List Name
  pub are_those : AreThose pattern (keys_of listing) those
  pub added : after ≡ before ++ those

pub record AddsOf (listing : Listing) (pattern : List PatternItem) (before after : List Name) : Type 0 where
  pub those : List Name
  pub are_of : AreOf listing pattern those
  pub added : after ≡ before ++ those

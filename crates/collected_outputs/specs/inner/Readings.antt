-- How patterns are read one after another. No public contract cites this.
use Rattle.std.specs.Prelude.{◌≡◌, List, [], ◌∷◌, ◌++◌, Ok, Err}
use Rattle.std.specs.Str.{chars}
use Rattle.staging.specs.Reading.{IsReading}
use Rattle.staging.specs.declared.fault.GlobFault.{GlobFault}
use Rattle.staging.specs.declared.item.PatternItem.{PatternItem}
use Rattle.collected_outputs.specs.Matched.{Name}
use Rattle.collected_outputs.specs.Patterns.{AreRead}
use Rattle.collected_outputs.specs.declared.fault.CollectFault.TheVariants.{Pattern}
use Rattle.collected_outputs.specs.declared.fault.Stop.{Stop}
use Rattle.collected_outputs.specs.declared.fault.Stop.TheVariants.{Refused, OutOfMemory}

pub record IsRead (text : Name) (before after : List (List PatternItem)) : Type 0 where
  pub pattern : List PatternItem
  pub reads : IsReading (chars text) (Ok pattern)
  pub added : after ≡ before ++ pattern ∷ []

-- the text reads as no pattern
abbrev pub NotRead : Name → Stop → Type 0
NotRead text OutOfMemory = Unit {0}
NotRead text (Refused fault) = (why : GlobFault) × (fault ≡ Pattern why) × IsReading (chars text) (Err why)

abbrev pub NoneRead : List Name → Stop → Type 0
NoneRead texts OutOfMemory = Unit {0}
NoneRead texts (Refused fault) = (why : GlobFault) × (fault ≡ Pattern why) × AreRead texts (Err why)

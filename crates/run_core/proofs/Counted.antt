-- What was asked and answered is counted.
use Rattle.std.proofs.Common.{◌≡◌, ◌∙◌, [], length, sym, ap}
use Rattle.std.proofs.lemmas.List.{length-map}
use Rattle.run_core.specs.declared.transcript.Transcript.{Transcript}
use Rattle.run_core.specs.inner.Answered.{pair_of}
use Rattle.run_core.specs.inner.Asked.{pairs_in}

pub all_counted : (pairs : Transcript) → pairs.count ≡ length (pairs_in pairs)
all_counted pairs = pairs.counted ∙ sym (length-map pairs.past.items pair_of)

pub none_counted : (pairs : Transcript) → pairs_in pairs ≡ [] → pairs.count ≡ 0
none_counted pairs none = all_counted pairs ∙ ap length none

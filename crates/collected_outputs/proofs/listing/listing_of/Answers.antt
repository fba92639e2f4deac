use Rattle.std.proofs.Common.{◌≡◌, length, take, List, ap, subst, ◌∙◌, arith}
use Rattle.std.proofs.Math.Seq.{take-length}
use Rattle.staging.specs.declared.found.Found.{Found}
use Rattle.collected_outputs.proofs.Listings.{Holds, holds_none, holds_more, holds_all}
use Rattle.collected_outputs.proofs.listing.listing_of.Goals as goal

pub loop-one-init : goal.loop-one-init
loop-one-init c = holds_none c.new-listing.result c.new-listing.ensures

pub loop-one-preserved : goal.loop-one-preserved
loop-one-preserved c = holds_more c.args.found.now c.loop-one.one-index c.one-item.result c.loop-one.listing _ c.loop-one-test.true c.one-item.is c.in_ok-add_entry.ensures c.loop-one.invariant

pub returns : goal.returns
returns c =
    let end : c.loop-one.one-index ≡ length c.args.found.now = omega arith in
    let all : take c.loop-one.one-index c.args.found.now ≡ c.args.found.now = ap (λ n. take n c.args.found.now) end ∙ take-length c.args.found.now in
    holds_all c.args.found.now c.loop-one.listing (subst (λ (l : List Found). Holds l c.loop-one.listing) all c.loop-one.invariant)

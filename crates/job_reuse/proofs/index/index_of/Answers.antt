use Rattle.std.proofs.Common.{◌≡◌, length, take, List, ap, subst, ◌∙◌, arith}
use Rattle.std.proofs.Math.Seq.{take-length}
use Rattle.staging.specs.declared.found.Found.{Found}
use Rattle.collected_outputs.proofs.Listings.{Holds, holds_none, holds_more, holds_all}
use Rattle.job_reuse.specs.inner.Index.{listing_by}
use Rattle.job_reuse.proofs.Indexed.{found_along}
use Rattle.job_reuse.proofs.index.index_of.Goals as goal

pub loop-found-init : goal.loop-found-init
loop-found-init c = holds_none (listing_by c.new-index.result) (ap listing_by c.new-index.ensures)

pub loop-found-preserved : goal.loop-found-preserved
loop-found-preserved c =
    holds_more c.args.files.now c.loop-found.found-index c.found-item.result (listing_by c.loop-found.index) _ c.loop-found-test.true c.found-item.is (ap listing_by c.in_ok-add.ensures ∙ found_along c.found-item.result c.loop-found.index) c.loop-found.invariant

pub returns : goal.returns
returns c =
    let end : c.loop-found.found-index ≡ length c.args.files.now = omega arith in
    let all : take c.loop-found.found-index c.args.files.now ≡ c.args.files.now = ap (λ n. take n c.args.files.now) end ∙ take-length c.args.files.now in
    holds_all c.args.files.now (listing_by c.loop-found.index) (subst (λ (l : List Found). Holds l (listing_by c.loop-found.index)) all c.loop-found.invariant)

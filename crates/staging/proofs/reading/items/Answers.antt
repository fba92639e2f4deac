use Rattle.std.proofs.Common.{◌≡◌, true, [], rules}
use Rattle.std.specs.Str.{chars}
use Rattle.staging.specs.Reading.{Reads}
use Rattle.staging.specs.inner.Scans.{ItemThen, none_closed}
use Rattle.staging.proofs.Scanned.{items_begin, items_pushed, items_end}
use Rattle.staging.proofs.reading.items.Goals as goal

pub loop-items-init : goal.loop-items-init
loop-items-init c = (search rules, items_begin (chars c.args.text.now) c.new-items.result c.new-items.ensures, λ e. cc)

pub first_item-requires : goal.first_item-requires
first_item-requires c = c.loop-items.invariant.2

pub loop-items-preserved : goal.loop-items-preserved
loop-items-preserved c =
    let next : ItemThen (chars c.loop-items.rest.now) c.in-Some.item (chars c.in-Some.after.now) = rw c.in-Some.is at c.in_ok-item.ensures.exact in
    let still : c.in-Some.still ≡ true → none_closed (chars c.in-Some.after.now) ≡ true = rw c.in-Some.is at c.in_ok-item.ensures.unclosed in
    (search rules, items_pushed (chars c.args.text.now) (chars c.loop-items.rest.now) (chars c.in-Some.after.now) c.loop-items.items c.push.new.self c.in-Some.item c.loop-items.invariant.1 next c.in_ok-push.ensures.ok, still)

pub returns : goal.returns
returns c =
    let end : Reads (chars c.loop-items.rest.now) [] = rw c.in_default.is at c.in_ok-item.ensures.exact in
    items_end (chars c.args.text.now) (chars c.loop-items.rest.now) c.loop-items.items c.loop-items.invariant.1 end

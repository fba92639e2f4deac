use Rattle.std.proofs.Common.{Vec, Global, ◌≡◌, ℕ, List, length, get_or, sym, ap, ◌∙◌, subst, arith}
use Rattle.level_graphs.specs.Arcs.{tail_of}
use Rattle.level_graphs.specs.Blocked.{AreSentDown}
use Rattle.level_graphs.specs.inner.Search.{IsDead, IsSearch, IsWay, AreSentAlong, left_of}
use Rattle.level_graphs.specs.declared.blocking.Blocking.{Blocking}
use Rattle.level_graphs.specs.declared.network.Network.{Network}
use Rattle.level_graphs.proofs.Searched.{search_back, search_ends, less_left, left_lower, left_below, less_then, at_source, some_way}
use Rattle.level_graphs.proofs.Sent.{goes_down, search_stays}
use Rattle.level_graphs.proofs.Flows.{is_way}
use Rattle.level_graphs.proofs.blocking.Blocking.step.Goals as goal

-- what was sent along the path of a search that has come to the source goes down the levels
sent_down : (network after : Network) (levels : List ℕ) (self : Blocking) (node top : ℕ) → IsSearch network levels self node → node ≡ network.source → top ≡ get_or levels network.sink 0
    → AreSentAlong network.arcs.items after.arcs.items self.path.items top → AreSentDown network.arcs.items after.arcs.items levels
sent_down network after levels self node top s at is sent =
    let along : AreSentAlong network.arcs.items after.arcs.items self.path.items (get_or levels network.sink 0) = subst (λ t. AreSentAlong network.arcs.items after.arcs.items self.path.items t) is sent in
    goes_down network.arcs.items after.arcs.items levels self.current.items self.path.items network.sink network.source (get_or levels network.sink 0) (at_source network levels self node s at) along

pub send-full-requires-clause-some : goal.send-full-requires-clause-some
send-full-requires-clause-some c =
    let network = c.args.network.now in
    let levels = c.args.levels.now.of.items in
    let s = c.requires.search in
    let at = c.if-node-network.true in
    let top = c.at.ensures in
    let some = s.path.some in
    let way = some_way network levels c.args.self.now c.args.node c.requires.network s (λ e. c.requires.network.ends (sym at ∙ e)) in
    omega arith

pub send-full-requires-clause-top : goal.send-full-requires-clause-top
send-full-requires-clause-top c =
    let s = c.requires.search in
    let few = s.useful.few in
    let places = s.places in
    let top = c.at.ensures in
    omega (arith, c.args.self.now.path.ok.0)

pub send-full-requires-clause-way : goal.send-full-requires-clause-way
send-full-requires-clause-way c =
    let network = c.args.network.now in
    let levels = c.args.levels.now.of.items in
    let self = c.args.self.now in
    let at = c.if-node-network.true in
    let s = c.requires.search in
    let some = s.path.some in
    let below = some_way network levels self c.args.node c.requires.network s (λ e. c.requires.network.ends (sym at ∙ e)) in
    let way = at_source network levels self c.args.node s at in
    let W : ℕ → Type 0 = IsWay network.arcs.items self.path.items network.source network.sink in
    subst W (sym c.at.ensures) (is_way network.arcs.items levels self.current.items self.path.items network.source network.sink (get_or levels network.sink 0) way (omega arith))

pub returns-then-node-network-clause-sent : goal.returns-then-node-network-clause-sent
returns-then-node-network-clause-sent c =
    let network = c.args.network.now in
    let after = c.send-full.new.network in
    let levels = c.args.levels.now.of.items in
    let self = c.args.self.now in
    sent_down network after levels self c.args.node c.at.result c.requires.search c.if-node-network.true c.at.ensures c.send-full.ensures.sent

pub returns-then-node-network-clause-search : goal.returns-then-node-network-clause-search
returns-then-node-network-clause-search c =
    let network = c.args.network.now in
    let after = c.send-full.new.network in
    let levels = c.args.levels.now.of.items in
    let self = c.args.self.now in
    let node = c.args.node in
    let told = c.send-full.ensures in
    let down = sent_down network after levels self node c.at.result c.requires.search c.if-node-network.true c.at.ensures told.sent in
    let nodes = told.nodes in
    let s = search_stays network after levels self node c.requires.search down (ap (λ (v : Vec ℕ Global). length v.items) nodes) told.source told.sink in
    let first = c.requires.search.useful.first in
    let at = ap (λ x. get_or levels x 0) c.if-node-network.true in
    let at_sink = ap (λ x. get_or levels x 0) told.sink in
    let top = c.at.ensures in
    let from = told.some in
    let below = told.place in
    let full = told.full in
    search_back after levels self _ node c.send-full.result c.leave.result c.leave.ensures.node told.network s (omega arith) (omega arith) (λ room next. absurd (omega arith)) c.leave.ensures.current c.leave.ensures.path

pub returns-then-node-network-clause-fewer : goal.returns-then-node-network-clause-fewer
returns-then-node-network-clause-fewer c =
    let network = c.args.network.now in
    let after = c.send-full.new.network in
    let levels = c.args.levels.now.of.items in
    let self = c.args.self.now in
    let node = c.args.node in
    let told = c.send-full.ensures in
    let down = sent_down network after levels self node c.at.result c.requires.search c.if-node-network.true c.at.ensures told.sent in
    let nodes = told.nodes in
    let s = search_stays network after levels self node c.requires.search down (ap (λ (v : Vec ℕ Global). length v.items) nodes) told.source told.sink in
    let first = c.requires.search.useful.first in
    let at = ap (λ x. get_or levels x 0) c.if-node-network.true in
    let at_sink = ap (λ x. get_or levels x 0) told.sink in
    let top = c.at.ensures in
    let from = told.some in
    let below = told.place in
    less_left after levels self c.leave.new.self node c.send-full.result c.leave.result c.leave.ensures.node told.network s (omega arith) (omega arith) c.leave.ensures.current

pub returns-then-node-network-2-clause-blocked : goal.returns-then-node-network-2-clause-blocked
returns-then-node-network-2-clause-blocked c =
    search_ends c.args.network.now c.args.levels.now.of.items c.advance.new.self c.args.node c.requires.network c.in_default.ensures.still c.if-node-network-2.true c.in_default.ensures.dead

pub returns-clause-search : goal.returns-clause-search
returns-clause-search c =
    let network = c.args.network.now in
    let levels = c.args.levels.now.of.items in
    let self = c.advance.new.self in
    let node = c.args.node in
    let s = c.in_default.ensures.still in
    let low = c.at-2.ensures in
    let below = some_way network levels self node c.requires.network s c.if-node-network-2.false in
    let begins = s.path.begins below in
    let place = ap (λ p. tail_of network.arcs.items (get_or self.path.items p 0)) low in
    let dead : IsDead self.current.items network.source node = record { none = c.in_default.ensures.dead; other = c.if-node-network.false } in
    search_back network levels self _ node c.at-2.result c.leave-2.result c.leave-2.ensures.node c.requires.network s (omega arith) (omega arith) (λ room next. subst (λ v. IsDead self.current.items network.source v) (sym (place ∙ begins)) dead) c.leave-2.ensures.current c.leave-2.ensures.path

pub returns-clause-fewer : goal.returns-clause-fewer
returns-clause-fewer c =
    let network = c.args.network.now in
    let levels = c.args.levels.now.of.items in
    let self = c.advance.new.self in
    let node = c.args.node in
    let s = c.in_default.ensures.still in
    let low = c.at-2.ensures in
    let below = some_way network levels self node c.requires.network s c.if-node-network-2.false in
    let fewer = c.advance.ensures.fewer in
    let left = less_left network levels self c.leave-2.new.self node c.at-2.result c.leave-2.result c.leave-2.ensures.node c.requires.network s (omega arith) (omega arith) c.leave-2.ensures.current in
    let old = c.args.self.now in
    let same : length self.current.items ≡ length old.current.items = (let e = c.advance.ensures.current in omega (arith, self.current.ok.0, old.current.ok.0)) in
    less_then (left_of c.leave-2.new.self levels c.leave-2.result) (left_of self levels node) (left_of old levels node) left (left_lower self old levels node node fewer same (omega arith))

pub returns-in-Some-clause-fewer : goal.returns-in-Some-clause-fewer
returns-in-Some-clause-fewer c =
    let levels = c.args.levels.now.of.items in
    let self = c.advance.new.self in
    let old = c.args.self.now in
    let fewer = c.advance.ensures.fewer in
    let same : length self.current.items ≡ length old.current.items = (let e = c.advance.ensures.current in omega (arith, self.current.ok.0, old.current.ok.0)) in
    let level = c.in-Some.ensures.level in
    left_below self old levels c.in-Some.before c.args.node fewer same (omega arith)

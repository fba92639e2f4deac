use Rattle.std.proofs.Common.{◌≡◌, ◌∙◌, ◌+◌, ◌++◌, ◌∷◌, ℕ, [], length, sym, ap, subst, arith}
use Rattle.run_rules.specs.declared.request.Request.{Request}
use Rattle.run_rules.specs.Answers.{MayAnswer}
use Rattle.run_core.specs.Core.{Took}
use Rattle.run_core.specs.Machine.{Machine}
use Rattle.run_core.specs.declared.runner.RunCore.TheInside.{Inside}
use Rattle.run_core.specs.inner.Answered.{most_answers}
use Rattle.run_core.specs.inner.Asked.{pairs_in}
use Rattle.run_core.specs.inner.Inside.{Stands, seen}
use Rattle.run_core.proofs.Counted.{all_counted}
use Rattle.run_core.proofs.standing.Ready.{asks, ready, runs_on, some_ahead}
use Rattle.run_core.proofs.standing.Took.{core_with, counted, keeps_pairs, noted, one_fits, stands_counted, took}
use Rattle.run_core.proofs.runner.RunCore.take_next.Goals as goal

-- the machine that has counted its answers
abbrev counts : Inside → ℕ → Inside
counts core taken = counted core (taken + 1)

many : (core : Inside) → core.pairs.count + 1 ≡ length (pairs_in core.pairs) + 1
many core = ap (λ (n : ℕ). n + 1) (all_counted core.pairs)

abbrev still : (core : Inside) (taken : ℕ) → Stands core → Stands (counts core taken)
still core taken stands = stands_counted core (taken + 1) stands

pub step-request-requires-clause-asks : goal.step-request-requires-clause-asks
step-request-requires-clause-asks c =
    asks (counts c.self.inside c.self.inside.pairs.count) c.args.answer (still c.self.inside c.self.inside.pairs.count c.self.invariant) (subst (λ (core : Machine). MayAnswer core.flying core.asks c.args.answer) (sym c.self.view_is) c.requires)

pub step-request-requires-clause-answers : goal.step-request-requires-clause-answers
step-request-requires-clause-answers c = subst (λ (core : Machine). MayAnswer core.flying core.asks c.args.answer) (sym c.self.view_is) c.requires

pub step-request-requires-clause-room : goal.step-request-requires-clause-room
step-request-requires-clause-room c = c.self.invariant.room

pub step-request-requires-clause-ready : goal.step-request-requires-clause-ready
step-request-requires-clause-ready c =
    ready (counts c.self.inside c.self.inside.pairs.count) c.args.answer (still c.self.inside c.self.inside.pairs.count c.self.invariant) (subst (λ (core : Machine). MayAnswer core.flying core.asks c.args.answer) (sym c.self.view_is) c.requires)

pub overflow_add-self : goal.overflow_add-self
overflow_add-self c =
    let few = one_fits c.self.inside.pairs.count most_answers _
    (some_ahead (counts c.self.inside c.self.inside.pairs.count) c.args.answer (still c.self.inside c.self.inside.pairs.count c.self.invariant) (subst (λ (core : Machine). MayAnswer core.flying core.asks c.args.answer) (sym c.self.view_is) c.requires))
    c.self.invariant.pairs_room in
    omega (arith, few)

pub note-requires : goal.note-requires
note-requires c =
    one_fits c.self.inside.pairs.count most_answers _
    (some_ahead (counts c.self.inside c.self.inside.pairs.count) c.args.answer (still c.self.inside c.self.inside.pairs.count c.self.invariant) (subst (λ (core : Machine). MayAnswer core.flying core.asks c.args.answer) (sym c.self.view_is) c.requires))
    c.self.invariant.pairs_room

pub make_room-requires : goal.make_room-requires
make_room-requires c =
    keeps_pairs (counts c.self.inside c.self.inside.pairs.count) c.args.answer (runs_on (counts c.self.inside c.self.inside.pairs.count) (many c.self.inside) (still c.self.inside c.self.inside.pairs.count c.self.invariant)) (still c.self.inside c.self.inside.pairs.count c.self.invariant)
    (subst (λ (core : Machine). MayAnswer core.flying core.asks c.args.answer) (sym c.self.view_is) c.requires) c.step-request.new.course c.step-request.new.turn
    _ c.step-request.ensures.moved c.note.ensures.count

pub invariant_of-self : goal.invariant_of-self
invariant_of-self c =
    (took (counts c.self.inside c.self.inside.pairs.count) c.args.answer (runs_on (counts c.self.inside c.self.inside.pairs.count) (many c.self.inside) (still c.self.inside c.self.inside.pairs.count c.self.invariant)) (still c.self.inside c.self.inside.pairs.count c.self.invariant)
    (subst (λ (core : Machine). MayAnswer core.flying core.asks c.args.answer) (sym c.self.view_is) c.requires) c.note.new.self c.step-request.new.course
    c.make_room.new.course c.step-request.new.turn c.make_room.new.turn c.told_of.result
    c.can_go_on.ensures
    (c.note.ensures.items ∙ ap (λ (asked : Request). (pairs_in c.self.inside.pairs) ++ noted asked c.args.answer ∷ []) c.step-request.ensures.asked)
    c.step-request.ensures.moved c.make_room.ensures.room c.make_room.ensures.past c.make_room.ensures.known c.make_room.ensures.one_more c.told_of.ensures).0

pub returns : goal.returns
returns c =
    subst (λ (old : Machine). Took old c.args.answer c.told_of.result (seen (core_with (counts c.self.inside c.self.inside.pairs.count) c.note.new.self c.make_room.new.course c.make_room.new.turn)))
    c.self.view_is (took (counts c.self.inside c.self.inside.pairs.count) c.args.answer (runs_on (counts c.self.inside c.self.inside.pairs.count) (many c.self.inside) (still c.self.inside c.self.inside.pairs.count c.self.invariant)) (still c.self.inside c.self.inside.pairs.count c.self.invariant)
    (subst (λ (core : Machine). MayAnswer core.flying core.asks c.args.answer) (sym c.self.view_is) c.requires) c.note.new.self c.step-request.new.course
    c.make_room.new.course c.step-request.new.turn c.make_room.new.turn c.told_of.result
    c.can_go_on.ensures
    (c.note.ensures.items ∙ ap (λ (asked : Request). (pairs_in c.self.inside.pairs) ++ noted asked c.args.answer ∷ []) c.step-request.ensures.asked)
    c.step-request.ensures.moved c.make_room.ensures.room c.make_room.ensures.past c.make_room.ensures.known c.make_room.ensures.one_more c.told_of.ensures).1

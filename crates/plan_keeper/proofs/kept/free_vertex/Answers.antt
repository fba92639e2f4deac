use Rattle.std.proofs.Common.{◌-◌, List, ap, refl, sym, subst, ◌∙◌, arith}
use Rattle.plan_checker.specs.declared.plan.Mark.{Mark}
use Rattle.plan_keeper.specs.Kept.{IsRemarked}
use Rattle.plan_keeper.proofs.Freed.{charged-le-cost, freed_kept, left_after, was_alone}
use Rattle.plan_keeper.proofs.kept.free_vertex.Goals as goal

pub overflow_sub-planned : goal.overflow_sub-planned
overflow_sub-planned c =
    let charged = c.uncharge.ensures.charged in
    let low = charged-le-cost c.args.planned.now c.args.number c.requires.kept c.requires.there in
    omega arith

pub remark-requires-clause-left : goal.remark-requires-clause-left
remark-requires-clause-left c =
    let planned = c.args.planned.now in
    let was = was_alone planned.graph c.vertices.result.now c.args.number c.index-vertices-number.result c.mark_alone-was.result c.requires.there c.vertices.ensures.list c.index-vertices-number.is c.mark_alone-was.ensures in
    left_after planned.graph c.set.new.self c.args.number c.args.compute c.args.needed c.mark_alone-was.result
    c.requires.there c.requires.kept.apart was c.set.ensures

pub returns-clause-kept : goal.returns-clause-kept
returns-clause-kept c =
    let planned = c.args.planned.now in
    let was = was_alone planned.graph c.vertices.result.now c.args.number c.index-vertices-number.result c.mark_alone-was.result c.requires.there c.vertices.ensures.list c.index-vertices-number.is c.mark_alone-was.ensures in
    let marks_in = c.into_vec-marks.ensures ∙ c.replace.ensures.value in
    let marks_out = c.replace-2.ensures.after ∙ c.from_vec.ensures in
    let P : List Mark → Type 0 = λ xs. IsRemarked c.set.new.self xs c.remark.new.marks.items c.args.number c.mark_alone-was.result in
    let Q : List Mark → Type 0 = λ xs. IsRemarked c.set.new.self planned.plan.marks xs c.args.number c.mark_alone-was.result in
    freed_kept planned c.args.number c.args.compute c.args.needed c.set.new.self c.set.new.self (record { marks = c.replace-2.new.dest }) c.uncharge.new.charges _ c.mark_alone-was.result
    c.requires.there c.requires.kept c.set.ensures c.remark.ensures.within refl (subst Q (sym marks_out) (subst P marks_in c.remark.ensures.remarked)) was c.uncharge.ensures.taken
    (ap (λ x. planned.cost - x) c.uncharge.ensures.charged)

use Rattle.std.proofs.Common.{rules, ◌≡◌, ◌≢◌, ap, ◌∙◌, inr, arith}
use Rattle.plan_checker.specs.declared.vertex.Vertex.{Vertex}
use Rattle.plan_checker.specs.declared.plan.Mark.TheVariants.{Compute}
use Rattle.plan_keeper.proofs.Remarked.{own_mark, read_there, remarked_all, remarked_one}
use Rattle.plan_keeper.proofs.kept.remark.Goals as goal

pub returns-then-eq-clause-remarked : goal.returns-then-eq-clause-remarked
returns-then-eq-clause-remarked c =
    let counted = c.requires.counted in
    let there = c.requires.there in
    let computed : c.args.was ≡ Compute = search rules in
    let graph = c.args.graph.now in
    let number = c.args.number in
    let read = read_there graph c.vertices.result.now number c.index-vertices-number.result there c.vertices.ensures.list c.index-vertices-number.is in
    let good = own_mark graph number c.index-vertices-number.result c.mark_alone-own.result read c.mark_alone-own.ensures (inr (c.requires.left computed)) in
    remarked_all graph c.args.marks.now.items c.remark_all.new.marks.items number c.mark_alone-own.result c.args.was c.as_slice.result.now
    (omega arith) good (c.as_slice.ensures ∙ ap (λ (job : Vertex). job.parents) read) c.remark_all.ensures

pub returns-then-ne-clause-remarked : goal.returns-then-ne-clause-remarked
returns-then-ne-clause-remarked c =
    let counted = c.requires.counted in
    let there = c.requires.there in
    let spare : c.args.was ≢ Compute = search rules in
    remarked_one c.args.graph.now c.args.marks.now.items c.args.number c.mark_now.result c.args.was (omega arith) c.mark_now.ensures spare

use Rattle.std.proofs.Common.{◌≡◌, ◌∙◌, List, [], ◌∷◌, ◌++◌, map, ap, sym, subst, append_assoc, Ok, Err}
use Rattle.std.proofs.lemmas.List.{map-append}
use Rattle.std.specs.Vec.Iter.{into_iter_items}
use Rattle.job_graph.specs.declared.walk.Met.{Met as KeptMet}
use Rattle.job_graph.specs.Jobs.{Met}
use Rattle.job_graph.specs.inner.Growth.{Grows}
use Rattle.job_graph.specs.inner.Views.{met_of}
use Rattle.job_graph.proofs.Grows.{grows_front, grows_more}
use Rattle.job_graph.proofs.growing.grow.Goals as goal

pub loop-one-preserved : goal.loop-one-preserved
loop-one-preserved c = record {
  whole = c.loop-one.invariant.whole ∙ ap (λ (left : List KeptMet). c.loop-one.yielded ++ left) c.in-Some.ensures.steps.0
      ∙ sym (append_assoc c.loop-one.yielded (c.in-Some.one ∷ []) (into_iter_items c.next.new.self));
  grows = subst (λ (met : List Met). Grows c.args.known.now c.args.entries met c.add.new.known (Ok c.in-Ok.more)) (sym (map-append met_of c.loop-one.yielded (c.in-Some.one ∷ [])))
      (grows_more c.args.known.now c.loop-one.known c.args.entries c.loop-one.entries (map met_of c.loop-one.yielded) (met_of c.in-Some.one ∷ [])
      c.add.new.known (Ok c.in-Ok.more) c.loop-one.invariant.grows c.in-Ok.ensures);
}

pub returns-in-Err : goal.returns-in-Err
returns-in-Err c =
    let rest : List KeptMet = into_iter_items c.next.new.self in
    let whole : c.args.met ≡ c.loop-one.yielded ++ c.in-Some.one ∷ [] ++ rest = c.loop-one.invariant.whole ∙ ap (λ (left : List KeptMet). c.loop-one.yielded ++ left) c.in-Some.ensures.steps.0
    ∙ sym (append_assoc c.loop-one.yielded (c.in-Some.one ∷ []) (into_iter_items c.next.new.self)) in
    let parts : map met_of c.args.met ≡ map met_of c.loop-one.yielded ++ met_of c.in-Some.one ∷ [] ++ map met_of rest =
    ap (map met_of) whole ∙ map-append met_of (c.loop-one.yielded ++ c.in-Some.one ∷ []) rest
    ∙ ap (λ (front : List Met). front ++ map met_of rest) (map-append met_of c.loop-one.yielded (c.in-Some.one ∷ [])) in
    subst (λ (met : List Met). Grows c.args.known.now c.args.entries met c.add.new.known (Err c.in-Err.error)) (sym parts)
    (grows_front c.args.known.now c.args.entries (map met_of c.loop-one.yielded ++ met_of c.in-Some.one ∷ []) (map met_of rest) c.add.new.known c.in-Err.error
    (grows_more c.args.known.now c.loop-one.known c.args.entries c.loop-one.entries (map met_of c.loop-one.yielded) (met_of c.in-Some.one ∷ [])
    c.add.new.known (Err c.in-Err.error) c.loop-one.invariant.grows c.in-Err.ensures))

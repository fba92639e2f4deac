use Rattle.std.proofs.Common.{◌≡◌, ◌∙◌, ◌≤◌, ◌++◌, ◌∷◌, List, [], ap, ap₂, get_or, subst, subst₂, sym, unwrap_or}
use Rattle.plain_data.specs.ByName.{value_at, with_value}
use Rattle.job_graph.specs.Words.{Name}
use Rattle.job_graph.specs.Jobs.{Outs, Walk}
use Rattle.job_graph.specs.declared.readers.Awaited.{Awaited}
use Rattle.job_graph.specs.inner.Counts.{Lowers, awaited_of, is_new, waits_for}
use Rattle.job_graph.specs.inner.Rounds.{walk_at}
use Rattle.job_graph.proofs.waiting.walk_one.Goals as goal

pub lower-requires : goal.lower-requires
lower-requires c m =
    subst₂ (λ (before : Outs) (outputs : List Awaited). waits_for (is_new before c.as_slice.result.now) m outputs ≤ get_or c.args.going.now.waits.counts.items m 0)
    (sym (c.outs_of-before.ensures ∙ ap (λ (id : Name). unwrap_or (value_at id c.args.going.now.env) []) c.as_str-2.ensures.bytes))
    (sym (c.awaited-outputs.ensures ∙ ap (λ (id : Name). awaited_of id c.args.readers.now.awaited) c.as_str.ensures.bytes))
    (c.requires c.as_slice.result.now m)

pub returns : goal.returns
returns c =
    let outs : c.in_ok-walk.walk.outs ≡ (walk_at c.args.facts.now c.args.place.now c.args.inputs.now c.args.going.now.env c.args.step.now).outs = ap (λ (w : Walk). w.outs) c.in_ok-walk.ensures in
    record {
      met = c.in_ok-walk.walk.met;
      is = ap (λ (w : Walk). w.met) c.in_ok-walk.ensures;
      env = c.in_ok-insert-2.ensures.new ∙ ap₂ (λ (id : Name) (outs : Outs). with_value id outs c.args.going.now.env) c.in_ok-copied-2.ensures outs;
      kept = c.in_ok-insert.ensures.updates;
      changed = c.in_ok-push.ensures.ok ∙ ap (λ (id : Name). c.args.going.now.changed ++ id ∷ []) c.in_ok-copied.ensures;
      lowers =
          subst (λ (after : Outs). Lowers (λ m. waits_for (is_new (unwrap_or (value_at c.args.step.now.0 c.args.going.now.env) []) after) m (awaited_of c.args.step.now.0 c.args.readers.now.awaited)) c.args.going.now.waits c.lower.new.waits)
          (c.as_slice.ensures ∙ outs)
          (subst₂ (λ (before : Outs) (outputs : List Awaited). Lowers (λ m. waits_for (is_new before c.as_slice.result.now) m outputs) c.args.going.now.waits c.lower.new.waits)
          (c.outs_of-before.ensures ∙ ap (λ (id : Name). unwrap_or (value_at id c.args.going.now.env) []) c.as_str-2.ensures.bytes)
          (c.awaited-outputs.ensures ∙ ap (λ (id : Name). awaited_of id c.args.readers.now.awaited) c.as_str.ensures.bytes)
          c.in_ok-lower.ensures);
    }

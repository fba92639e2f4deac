use Rattle.std.proofs.Common.{◌≡◌, Some, drop, true, false, sym, ap, ◌∙◌, arith}
use Rattle.std.specs.List.{list_any}
use Rattle.std.proofs.lemmas.Bool.{not-false, not-true}
use Rattle.cwl_value.specs.Secondary.{name_of, has_name}
use Rattle.cwl_value.proofs.Differing.{still_distinct, repeated, seen_more}
use Rattle.cwl_value.proofs.distinct.names_differ.Goals as goal

pub returns-then-not-branch : goal.returns-then-not-branch
returns-then-not-branch c =
    let vs = c.args.values.now in
    let at = c.loop-at.at in
    let name = c.as_str.result.now in
    let named : Some name ≡ name_of c.index-values-at.result = ap Some c.as_str.ensures.bytes ∙ c.in-Some.ensures in
    let found : list_any (has_name name) (drop at vs) ≡ true
    = sym (c.loop-at.invariant.seen name) ∙ not-false _ (sym c.in_ok-insert.ensures.added ∙ c.if-not-branch.true) in
    sym (repeated vs at c.index-values-at.result name (omega arith) c.loop-at.invariant.within c.index-values-at.is named found)

pub loop-at-preserved-else-not-branch : goal.loop-at-preserved-else-not-branch
loop-at-preserved-else-not-branch c =
    let vs = c.args.values.now in
    let at = c.loop-at.at in
    let v = c.index-values-at.result in
    let name = c.as_str.result.now in
    let named : Some name ≡ name_of v = ap Some c.as_str.ensures.bytes ∙ c.in-Some.ensures in
    let none : list_any (has_name name) (drop at vs) ≡ false
    = sym (c.loop-at.invariant.seen name) ∙ not-true _ (sym c.in_ok-insert.ensures.added ∙ c.if-not-branch.false) in
    record {
      within = omega (arith, c.loop-at.invariant.within);
      seen = λ other. seen_more vs at v name (omega arith) c.loop-at.invariant.within c.index-values-at.is named other _ _ (c.loop-at.invariant.seen other) (c.in_ok-insert.ensures.updates.0 (record { ref_ptr = (0, 0); now = other }));
      distinct = still_distinct vs at v name (omega arith) c.loop-at.invariant.within c.index-values-at.is named c.loop-at.invariant.distinct none;
    }

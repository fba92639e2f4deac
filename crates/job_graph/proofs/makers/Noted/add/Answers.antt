use Rattle.std.proofs.Common.{◌∙◌, ap, ap₂, sym}
use Rattle.job_graph.specs.Words.{is_same_place}
use Rattle.job_graph.specs.inner.Marks.{mark_of}
use Rattle.job_graph.proofs.Noting.{noted_again, noted_first}
use Rattle.job_graph.proofs.makers.Noted.add.Goals as goal

pub returns-in_ok-insert-in-None : goal.returns-in_ok-insert-in-None
returns-in_ok-insert-in-None c =
    noted_first c.args.self.now.by_mark c.insert.new.self c.args.self.now.others.items c.args.place c.mark_of-mark.result (c.mark_of-mark.ensures ∙ ap mark_of c.as_slice.ensures)
    (sym c.get.ensures.value ∙ sym c.copied.ensures ∙ c.in-None.is) c.in_ok-insert-in-None.ensures.updates

pub returns-else-not-is_same_place : goal.returns-else-not-is_same_place
returns-else-not-is_same_place c =
    noted_again c.args.self.now.by_mark c.args.self.now.by_mark c.args.self.now.others.items c.args.place c.mark_of-mark.result (c.mark_of-mark.ensures ∙ ap mark_of c.as_slice.ensures) c.in-Some.found
    (sym c.get.ensures.value ∙ sym c.copied.ensures ∙ c.in-Some.is)
    (sym (ap₂ is_same_place c.as_slice-in-Some.ensures c.as_slice-in-Some-2.ensures) ∙ sym c.is_same_place.ensures ∙ c.if-not-is_same_place.false)

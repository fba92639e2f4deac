use Rattle.std.proofs.Common.{List, ℕ, subst, sym}
use Rattle.std.specs.List.{Contains}
use Rattle.run_given.proofs.held.held_by.Goals as goal

pub returns : goal.returns
returns g c = record {
  documents = λ file there. c.in_ok-add_kept.ensures.keeps file (c.in_ok-add_read.ensures.keeps file
      (subst (λ (files : List (List ℕ)). Contains files file) (sym c.in_ok-held.ensures) there));
  document = c.in_ok-add_kept.ensures.keeps _ c.in_ok-add_read.ensures.document;
  inputs = λ file named. c.in_ok-add_kept.ensures.keeps file (c.in_ok-add_read.ensures.inputs file named);
  record_file = c.in_ok-add_kept.ensures.record;
  times = c.in_ok-add_kept.ensures.times;
  new_times = c.in_ok-add_kept.ensures.new;
}

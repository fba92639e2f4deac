use Rattle.std.proofs.Common.{[], arith, refl}
use Rattle.proc_host.specs.Answers.{is_delivered, is_discarded, is_fetched, is_measured, is_read, is_staged, is_stored}
use Rattle.test_engine.proofs.alone.answer_to.Goals as goal

pub returns-in_ok-one_byte-in-Measure : goal.returns-in_ok-one_byte-in-Measure
returns-in_ok-one_byte-in-Measure c = rw c.in-Measure.is (is_measured _ _)

pub returns-in-Stage : goal.returns-in-Stage
returns-in-Stage c = rw c.in-Stage.is (is_staged _ _)

pub returns-in-Head : goal.returns-in-Head
returns-in-Head c = rw (c.in-Head.is, c.new.ensures) (is_read c.in-Head.field-0 c.in-Head.field-1 [] (omega arith))

pub returns-in-Fetch : goal.returns-in-Fetch
returns-in-Fetch c = rw (c.in-Fetch.is, c.new-in-Fetch.ensures) (is_fetched c.in-Fetch.field-0 c.in-Fetch.field-1 c.in-Fetch.field-2 [] refl)

pub returns-in-Store : goal.returns-in-Store
returns-in-Store c = rw c.in-Store.is (is_stored _ _ _)

pub returns-in-Deliver : goal.returns-in-Deliver
returns-in-Deliver c = rw c.in-Deliver.is (is_delivered _)

pub returns-in-Discard : goal.returns-in-Discard
returns-in-Discard c = rw c.in-Discard.is (is_discarded _)

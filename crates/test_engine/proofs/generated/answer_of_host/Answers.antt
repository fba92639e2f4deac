use Rattle.proc_host.specs.Answers.{is_fetched}
use Rattle.test_engine.proofs.Fetched.{among_itself}
use Rattle.test_engine.proofs.generated.answer_of_host.Goals as goal

pub returns-in_ok-listing_in-in-Fetch : goal.returns-in_ok-listing_in-in-Fetch
returns-in_ok-listing_in-in-Fetch c = rw (c.in-Fetch.is, c.in_ok-listing_in-in-Fetch.ensures) (is_fetched c.in-Fetch.field-0 c.in-Fetch.field-1 c.in-Fetch.files c.in-Fetch.files (among_itself c.in-Fetch.files))

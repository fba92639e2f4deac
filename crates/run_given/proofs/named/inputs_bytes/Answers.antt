use Rattle.std.proofs.Common.{ap, option_map}
use Rattle.program_words.specs.RunWords.{wish_of_run}
use Rattle.run_given.proofs.Stops.{read_inputs, unread_inputs}
use Rattle.run_given.proofs.named.inputs_bytes.Goals as goal

pub returns-in-Some-clause-ok : goal.returns-in-Some-clause-ok
returns-in-Some-clause-ok g c = read_inputs (λ bytes. bytes.items) _ _ _ (ap (option_map (λ s. s.now)) c.in-Some.is) c.named_bytes.ensures.ok

pub returns-in-Some-clause-err : goal.returns-in-Some-clause-err
returns-in-Some-clause-err g c = unread_inputs c.args.call.now.here.now (wish_of_run c.args.call.now.words.now) _ _ (ap (option_map (λ s. s.now)) c.in-Some.is) c.named_bytes.ensures.err

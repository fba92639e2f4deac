use Rattle.given_words.proofs.Listed.{read}
use Rattle.given_words.proofs.processors.number_in.Goals as goal

pub returns-in-Ok : goal.returns-in-Ok
returns-in-Ok c =
    let found = read c.args.text.now c.parse.result c.parse.ensures.value.0 in
    rw c.in-Ok.is at found

pub returns-in-Err : goal.returns-in-Err
returns-in-Err c =
    let found = read c.args.text.now c.parse.result c.parse.ensures.value.0 in
    rw c.in-Err.is at found

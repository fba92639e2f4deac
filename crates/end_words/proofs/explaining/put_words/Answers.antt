use Rattle.std.proofs.lemmas.Result.{on_ok_weaker}
use Rattle.end_words.proofs.explaining.put_words.Goals as goal

pub returns : goal.returns
returns g c = on_ok_weaker c.put_line.result (λ put. (c.as_str.result.now, put)) c.put_line.ensures

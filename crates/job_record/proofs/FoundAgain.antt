-- What a record left is that record again, if it is opened.
use Rattle.std.proofs.Common.{◌≡◌, sym}
use Rattle.sqlite.specs.State.{State}
use Rattle.sqlite_catalog.proofs.ReadLemmas.{lists_once}
use Rattle.job_record.specs.Crash.{FindsAgain}

pub found_again : (s : State) → FindsAgain s
found_again s map opens sound left =
    let same : s.now.schema ≡ map.beside.schema = lists_once _ s.now.schema map.beside.schema sound.lists left.holds.sound.lists in
    record {
      holds = record {
        schema = same;
        has = left.holds.has;
        beside = left.holds.beside;
        sound = sound;
        keyed = left.holds.keyed;
        kept = left.holds.kept;
        ordered = left.holds.ordered;
        rows = left.holds.rows;
        archives = left.holds.archives;
      };
      in_step = left.in_step;
      settled = sym opens.clean;
      autocommit = opens.autocommit;
    }

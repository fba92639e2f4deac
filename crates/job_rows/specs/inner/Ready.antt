-- What is made for a row before it is put.
use Rattle.std.specs.Prelude.{◌≡◌, ◌<◌, ℕ, [], Option, option_to_list}
use Rattle.std.specs.Global.{Vec}
use Rattle.std.specs.Vec.{vec_len, vec_capacity}
use Rattle.job_rows.specs.declared.archive.Archive.{Archive}
use Rattle.job_rows.specs.declared.archives.Ready.{Ready}
use Rattle.job_rows.specs.declared.row.Row.{Row}
use Rattle.job_rows.specs.Map.{archives_with, lost_count, own_archives, own_keys}

-- the row's archive and its key, where it is without one, and room for these and for the keys of the archives that have to go
pub record IsReady (row : Row) (budget : Option ℕ) (archives : Vec Archive) (ready : Ready) : Type 0 where
  pub archive : option_to_list ready.archive ≡ own_archives row budget archives.items
  pub own : option_to_list ready.own ≡ own_keys row budget archives.items
  pub none : ready.lost.items ≡ []
  pub room : vec_len archives < vec_capacity archives
  pub room_for_keys : lost_count budget (archives_with row budget archives.items) < vec_capacity ready.lost

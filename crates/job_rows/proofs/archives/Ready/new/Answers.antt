use Rattle.std.proofs.Common.{◌≡◌, ◌-◌, List, option_map, ap, sym, ◌∙◌, arith}
use Rattle.std.specs.Prelude.{option_to_list}
use Rattle.job_rows.specs.declared.archive.Archive.{Archive}
use Rattle.job_rows.specs.Map.{lost_count, own_archives, own_keys, total_bytes}
use Rattle.job_rows.proofs.Losing.{count_le, room_made}
use Rattle.job_rows.proofs.archives.Ready.new.Goals as goal

pub overflow_add-count : goal.overflow_add-count
overflow_add-count c =
    omega (arith, count_le c.room_beside.result c.as_slice-3.result.now, c.as_slice-3.ensures.len, c.lost_count-count.ensures, c.args.archives.now.ok, c.args.archives.now.small)

pub returns-clause-ready : goal.returns-clause-ready
returns-clause-ready c =
    let row = c.args.row.now in
    let budget = c.args.budget in
    let list = c.reserve-2.new.self.items in
    let same : c.args.archives.now.items ≡ list = sym c.in_ok-reserve-2.ensures.items in
    let own : List Archive = option_to_list c.in_ok-archive.archive in
    let own_is : own ≡ own_archives row budget list = c.in_ok-archive.ensures.ok ∙ ap (own_archives row budget) (c.as_slice.ensures.value ∙ same) in
    let count_is : c.lost_count-count.result ≡ lost_count (option_map (λ bytes. bytes - total_bytes own) budget) list =
    c.lost_count-count.ensures ∙ ap (λ room. lost_count room c.as_slice-3.result.now) c.room_beside.ensures ∙ ap (lost_count (option_map (λ bytes. bytes - total_bytes own) budget)) (c.as_slice-3.ensures.value ∙ same) in
    record {
      archive = own_is;
      own = c.in_ok-own.ensures ∙ ap (own_keys row budget) (c.as_slice-2.ensures.value ∙ same);
      none = c.in_ok-reserve.ensures.items ∙ c.new-lost.ensures.items;
      room = omega (arith, c.in_ok-reserve-2.ensures.ok);
      room_for_keys = room_made row budget list own c.lost_count-count.result _ own_is count_is (omega (arith, c.in_ok-reserve.ensures.ok));
    }

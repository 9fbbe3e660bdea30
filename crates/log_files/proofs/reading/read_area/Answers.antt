use Rattle.log_files.proofs.AreasRead.{some_read}
use Rattle.log_files.proofs.reading.read_area.Goals as goal

pub returns : goal.returns
returns g c = rw (c.in_ok-extend_from_slice.ensures.items, c.as_slice-2.ensures.value) (some_read _ _ _ _ _ _
    c.in_ok-octets.ensures.read c.in_ok-behind.ensures.read c.in_ok-octets.ensures.len
    (rw c.as_slice.ensures.value at c.len_behind-len.ensures.some) c.in_ok-behind.ensures.len)

use Rattle.gw_filter.proofs.checking.crc4_check_stream.Goals as goal

pub returns-clause-ok : goal.returns-clause-ok
returns-clause-ok g c =
    let f = c.in_ok-totals.ensures.ok in
    let counts = c.checked.ensures.counts f.octets f.returned f.returns in
    record {
      octets = f.octets;
      gives = f.gives;
      ended = f.ended;
      took = rw (f.returns.same) at f.took;
      totals_are = rw (c.checked.ensures.totals) f.totals_are;
      counts_are = counts.0;
      reported = counts.1;
      no_read = f.no_read;
      no_write = f.no_write;
    }

use Rattle.std.proofs.Common.{[], refl}
use Rattle.gw_filter.specs.Crc4.{trunk_octets_in, reports_in}
use Rattle.gw_filter.proofs.sending.ReportingSender.new.Goals as goal

pub returns : goal.returns
unfolding trunk_octets_in reports_in
returns g c = record { arrivals = []; octets_are = refl; reports_are = c.requires; sends = c.new.ensures }

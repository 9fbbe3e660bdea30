use Rattle.std.proofs.Common.{rules, refl}
use Rattle.gw_udp.proofs.udp.open_endpoint.Goals as goal

pub returns-clause-ok : goal.returns-clause-ok
returns-clause-ok g c =
    record { here_is = search rules; senders_are = refl; peer_is = search rules; one_family = search rules }

use Rattle.std.proofs.Math.Logic.{∥∥₁_map}
use Rattle.gw_udp.proofs.Calls.{each_has}
use Rattle.gw_udp.proofs.laws.each_has_its_socket.Goals as goal

pub returns : goal.returns
returns g c = ∥∥₁_map c.args._ports.now.called (λ called. each_has _ _ _ _ _ called)

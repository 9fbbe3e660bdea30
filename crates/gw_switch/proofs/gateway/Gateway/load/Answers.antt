use Rattle.gw_switch.proofs.Common.{◌++◌, saved_circuits}
use Rattle.gw_switch.proofs.GatewayLoading.{gateway-octets, same-stands, are-alike}
use Rattle.gw_switch.proofs.gateway.Gateway.load.Goals as goal

pub returns-in-Ok-clause-loaded : goal.returns-in-Ok-clause-loaded
returns-in-Ok-clause-loaded c = λ config other saved events before rest stands fits mine alike e.
    let first = c.load.ensures.loaded saved.trunk (saved_circuits saved.circuits.channels.items ++ rest) fits.trunk
    (gateway-octets saved _ rest e) in
    let told = c.in-Ok.ensures.loaded saved.circuits.channels.items rest
    (are-alike other config c.args.self saved before events mine stands alike fits) first.2 in
    (same-stands config _ saved events first.1 told.1 stands, told.2)

pub returns-in-Err-clause-loaded : goal.returns-in-Err-clause-loaded
returns-in-Err-clause-loaded c = λ config other saved events before rest stands fits mine alike e.
    let first = c.load.ensures.loaded saved.trunk (saved_circuits saved.circuits.channels.items ++ rest) fits.trunk
    (gateway-octets saved _ rest e) in
    let told = c.in-Err.ensures.loaded saved.circuits.channels.items rest
    (are-alike other config c.args.self saved before events mine stands alike fits) first.2 in
    absurd (cc told.0)

use Rattle.gw_switch.proofs.BundleLanes.{all-decoded}
use Rattle.gw_switch.proofs.circuits.Circuits.decode_from.Goals as goal

pub keep_octets-requires : goal.keep_octets-requires
keep_octets-requires c =
    all-decoded c.load_decoders-places.ensures c.decode.ensures.octets c.decode.ensures.states c.decode.ensures.words

pub load_decoders-places-requires : goal.load_decoders-places-requires
load_decoders-places-requires c = c.bundle-bundle.ensures

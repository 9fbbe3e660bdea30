use Rattle.gw_switch.proofs.BundleLanes.{all-coded}
use Rattle.gw_switch.proofs.circuits.Circuits.code_lanes.Goals as goal

pub store_lanes-requires : goal.store_lanes-requires
store_lanes-requires c =
    all-coded c.load_lanes-places.ensures.loaded c.encode.ensures.words c.encode.ensures.states

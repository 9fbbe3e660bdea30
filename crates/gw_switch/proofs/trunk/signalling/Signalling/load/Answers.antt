use Rattle.gw_switch.proofs.Common.{◌++◌, refl, saved_signalling, saved_nibbles, saved_alarms, read-three}
use Rattle.gw_switch.proofs.Loading.{signalling-octets, same-signalling}
use Rattle.gw_switch.proofs.trunk.signalling.Signalling.load.Goals as goal

pub returns-in_err-self-clause-loaded : goal.returns-in_err-self-clause-loaded
returns-in_err-self-clause-loaded c = λ other rest many each e.
    let told = c.in_err-self.ensures.loaded other.multiframe
    (saved_nibbles other.nibbles ++ (saved_alarms other.remote_frame other.remote_multiframe ++ rest))
    (signalling-octets other _ rest e) in
    absurd (cc told.0)

pub returns-in_err-load_nibbles-clause-loaded : goal.returns-in_err-load_nibbles-clause-loaded
returns-in_err-load_nibbles-clause-loaded c = λ other rest many each e.
    let first = c.in_ok-self.ensures.loaded other.multiframe
    (saved_nibbles other.nibbles ++ (saved_alarms other.remote_frame other.remote_multiframe ++ rest))
    (signalling-octets other _ rest e) in
    let told = c.in_err-load_nibbles.ensures.loaded other.nibbles
    (saved_alarms other.remote_frame other.remote_multiframe ++ rest) many each first.1 in
    absurd (cc told.0)

pub returns-in_err-alarms-clause-loaded : goal.returns-in_err-alarms-clause-loaded
returns-in_err-alarms-clause-loaded c = λ other rest many each e.
    let first = c.in_ok-self.ensures.loaded other.multiframe
    (saved_nibbles other.nibbles ++ (saved_alarms other.remote_frame other.remote_multiframe ++ rest))
    (signalling-octets other _ rest e) in
    let second = c.in_ok-load_nibbles.ensures.loaded other.nibbles
    (saved_alarms other.remote_frame other.remote_multiframe ++ rest) many each first.1 in
    let told = c.in_err-alarms.ensures.loaded other.remote_frame other.remote_multiframe rest second.2 in
    absurd (cc told.0)

pub returns-clause-loaded : goal.returns-clause-loaded
returns-clause-loaded c = λ other rest many each e.
    let first = c.in_ok-self.ensures.loaded other.multiframe
    (saved_nibbles other.nibbles ++ (saved_alarms other.remote_frame other.remote_multiframe ++ rest))
    (signalling-octets other _ rest e) in
    let second = c.in_ok-load_nibbles.ensures.loaded other.nibbles
    (saved_alarms other.remote_frame other.remote_multiframe ++ rest) many each first.1 in
    let third = c.in_ok-alarms.ensures.loaded other.remote_frame other.remote_multiframe rest second.2 in
    (refl, same-signalling _ other c.in_ok-alarms.alarms first.0 second.1 third.0 refl refl, third.1)

pub returns-clause-read : goal.returns-clause-read
unfolding saved_signalling
returns-clause-read c =
    read-three _ _ _ _ _ _ _ c.in_ok-self.ensures.read c.in_ok-load_nibbles.ensures.read c.in_ok-alarms.ensures.read

use Rattle.gw_switch.proofs.Common.{◌++◌, two_octets, saved_signalling, saved_slots}
use Rattle.gw_switch.proofs.Loading.{trunk-octets, same-trunk, trunk-read}
use Rattle.gw_switch.proofs.trunk.Trunk.load.Goals as goal

pub returns-in_err-self-clause-loaded : goal.returns-in_err-self-clause-loaded
returns-in_err-self-clause-loaded c = λ other rest fits e.
    let told = c.in_err-self.ensures.loaded other.aligner
    (two_octets other.position ++ (saved_slots other.octets ++ (saved_signalling other.signalling ++ rest)))
    (trunk-octets other _ rest e) in
    absurd (cc told.0)

pub returns-in_err-self-2-clause-loaded : goal.returns-in_err-self-2-clause-loaded
returns-in_err-self-2-clause-loaded c = λ other rest fits e.
    let behind = saved_slots other.octets ++ (saved_signalling other.signalling ++ rest) in
    let first = c.in_ok-self.ensures.loaded other.aligner (two_octets other.position ++ behind)
    (trunk-octets other _ rest e) in
    let told = c.in_err-self-2.ensures.next other.position behind fits.position first.1 in
    absurd (cc told.0)

pub returns-in_err-load_slots-clause-loaded : goal.returns-in_err-load_slots-clause-loaded
returns-in_err-load_slots-clause-loaded c = λ other rest fits e.
    let behind = saved_slots other.octets ++ (saved_signalling other.signalling ++ rest) in
    let first = c.in_ok-self.ensures.loaded other.aligner (two_octets other.position ++ behind)
    (trunk-octets other _ rest e) in
    let second = c.in_ok-self-2.ensures.next other.position behind fits.position first.1 in
    let told = c.in_err-load_slots.ensures.loaded other.octets (saved_signalling other.signalling ++ rest) fits.slots
    second.1 in
    absurd (cc told.0)

pub returns-clause-loaded : goal.returns-clause-loaded
returns-clause-loaded c = λ other rest fits e.
    let behind = saved_slots other.octets ++ (saved_signalling other.signalling ++ rest) in
    let first = c.in_ok-self.ensures.loaded other.aligner (two_octets other.position ++ behind)
    (trunk-octets other _ rest e) in
    let second = c.in_ok-self-2.ensures.next other.position behind fits.position first.1 in
    let third = c.in_ok-load_slots.ensures.loaded other.octets (saved_signalling other.signalling ++ rest) fits.slots
    second.1 in
    let fourth = c.load-2.ensures.loaded other.signalling rest fits.nibbles fits.each third.2 in
    (fourth.0, same-trunk _ other first.0 second.0 third.1 fourth.1, fourth.2)

pub returns-clause-read : goal.returns-clause-read
returns-clause-read c =
    trunk-read _ _ _ _ _ _ c.in_ok-self.ensures.read c.in_ok-self-2.ensures.read c.in_ok-load_slots.ensures.read
    c.load-2.result c.load-2.ensures.read

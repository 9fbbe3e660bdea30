use Rattle.gw_switch.proofs.Common.{◌≡◌, ◌<◌, length, slice_index_or, slice_set, ap, ◌∙◌, arith, get_or_default}
use Rattle.gw_switch.proofs.Common.{set-get_or, Circuit, BoxedCircuit}
use Rattle.gw_switch.proofs.BundleLanes.{still-loaded, one-more}
use Rattle.gw_switch.proofs.circuits.Circuits.load_next.Goals as goal

pub returns-clause-loaded : goal.returns-clause-loaded
returns-clause-loaded c =
    let circuits = c.args.self.now.channels.items in
    let number = c.args.number in
    let places = c.args.places.now.items in
    let before = c.index_mut-channel.result.now in
    let all : number < length circuits =
    omega (arith, c.args.self.now.thirty, c.args.self.now.channels.ok.0, c.requires.number) in
    let here : (d : BoxedCircuit) → before ≡ slice_index_or circuits number d = λ d.
    (rw c.from.ensures at c.index_mut-channel.ensures.value) ∙ get_or_default circuits number before d all in
    let after : BoxedCircuit = record { circuit = c.load_lane.new.self } in
    let same : after ≡ before = ap (λ (x : Circuit). record { circuit = x }) c.load_lane.ensures.state in
    let kept : slice_set circuits c.from.result after ≡ circuits =
    rw (c.from.ensures, same) (ap (slice_set circuits number) (here before) ∙ set-get_or circuits number before) in
    let still = still-loaded places c.requires.loaded c.load_lane.ensures.kept
    (rw c.len-k.ensures.value at c.load_lane.ensures.states)
    (rw c.len-k.ensures.value at c.load_lane.ensures.octets) in
    rw (kept, c.push.ensures.items)
    (one-more circuits places number c.load_lane.new.bundle still c.requires.room c.requires.number
    (λ d. rw (← here d, ← c.load_lane.ensures.state, ← c.len-k.ensures.value)
    (c.load_lane.ensures.loaded c.if-not-load_lane.false)))

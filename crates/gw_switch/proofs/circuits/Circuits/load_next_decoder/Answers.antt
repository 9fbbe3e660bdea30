use Rattle.gw_switch.proofs.Common.{◌≡◌, ◌<◌, length, slice_index_or, ◌∙◌, arith, get_or_default}
use Rattle.gw_switch.proofs.BundleLanes.{still-decoders, one-more}
use Rattle.gw_switch.proofs.circuits.Circuits.load_next_decoder.Goals as goal

pub returns : goal.returns
returns c =
    let circuits = c.args.self.now.channels.items in
    let places = c.args.places.now.items in
    let all : c.args.number < length circuits =
    omega (arith, c.args.self.now.thirty, c.args.self.now.channels.ok.0, c.requires.number) in
    let few : length places < 8 = c.requires.room in
    let still = still-decoders places c.requires.loaded c.load_words.ensures.kept c.load_words.ensures.fit
    (rw c.len-k.ensures.value at c.load_words.ensures.states) in
    rw c.push.ensures.items
    (record {
      loaded = one-more circuits places c.args.number c.load_words.new.bundle still.loaded few c.requires.number (λ d.
          let here : c.index.result.now ≡ slice_index_or circuits c.args.number d =
          (rw c.from.ensures at c.index.ensures)
          ∙ get_or_default circuits c.args.number c.index.result.now d all in
          rw (here, c.len-k.ensures.value) at (c.load_words.ensures.loaded c.if-not-load_words.false));
      fit = still.fit;
    })

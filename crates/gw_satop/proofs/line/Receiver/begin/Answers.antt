use Rattle.std.proofs.Common.{◌≡◌, ◌++◌, ◌∷◌, [], List, ◌∙◌, append_assoc}
use Rattle.satop_playout.specs.Calls.{PlayoutCall, Begins, Arrives}
use Rattle.satop_playout.specs.Plays.{given_octets}
use Rattle.gw_satop.proofs.line.Receiver.begin.Goals as goal

pub returns-clause-given : goal.returns-clause-given
returns-clause-given c calls =
    let settings = c.args.self.now.settings in
    let begun : List PlayoutCall = calls ++ Begins c.args.first ∷ [] in
    let all : begun ++ Arrives c.args.sequence c.args.octets.now ∷ []
    ≡ calls ++ Begins c.args.first ∷ Arrives c.args.sequence c.args.octets.now ∷ [] =
    append_assoc calls (Begins c.args.first ∷ []) (Arrives c.args.sequence c.args.octets.now ∷ []) in
    rw (← all) (c.plays_give_octets.ensures.arrives settings begun c.args.sequence c.args.octets.now
    ∙ c.plays_give_octets.ensures.begins settings calls c.args.first)

pub returns-clause-stands : goal.returns-clause-stands
returns-clause-stands c calls h =
    let settings = c.args.self.now.settings in
    let begun : List PlayoutCall = calls ++ Begins c.args.first ∷ [] in
    let all : begun ++ Arrives c.args.sequence c.args.octets.now ∷ []
    ≡ calls ++ Begins c.args.first ∷ Arrives c.args.sequence c.args.octets.now ∷ [] =
    append_assoc calls (Begins c.args.first ∷ []) (Arrives c.args.sequence c.args.octets.now ∷ []) in
    let same : given_octets settings (begun ++ Arrives c.args.sequence c.args.octets.now ∷ [])
    ≡ given_octets settings calls =
    c.plays_give_octets.ensures.arrives settings begun c.args.sequence c.args.octets.now
    ∙ c.plays_give_octets.ensures.begins settings calls c.args.first in
    record {
      playout = rw (← all) (c.arrive.ensures.stands settings begun (c.begin.ensures.stands settings calls h.playout));
      aligner = rw (← all, same) h.aligner;
    }

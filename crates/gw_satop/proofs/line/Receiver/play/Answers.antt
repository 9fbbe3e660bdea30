use Rattle.std.proofs.Common.{[], refl}
use Rattle.gw_filter.specs.Align.{align_reply}
use Rattle.satop_playout.specs.Plays.{given_octets, play_octets}
use Rattle.g704_framing.proofs.Replies.{replies-append}
use Rattle.gw_satop.proofs.line.Receiver.play.Goals as goal

pub returns-clause-played : goal.returns-clause-played
returns-clause-played c calls h =
    let settings = c.args.self.now.settings in
    rw (
      c.plays_give_octets.ensures.plays settings calls,
      replies-append align_reply [] (given_octets settings calls) (play_octets settings calls),
      ← c.play-is_there.ensures.octets settings calls h.playout,
      ← c.align_all.ensures.replies (given_octets settings calls) h.aligner,
    ) refl

use Rattle.std.proofs.Common.{◌∙◌, arith, refl}
use Rattle.gw_udp.proofs.udp.receive_more.Goals as goal

pub returns-then-rests-clause-turn : goal.returns-then-rests-clause-turn
returns-then-rests-clause-turn g c =
    let turn = c.rests.ensures in
    let less = turn.rested c.if-rests.true in
    record {
      looked = turn.looked;
      counted = turn.counted;
      receives = turn.receives;
      most = turn.most;
      others = turn.others;
      rested = λ some. (refl, less);
      waits = λ none enough. absurd (omega (arith, none, less));
      asked = λ none more. absurd (omega (arith, none, less));
    }

pub returns-clause-turn : goal.returns-clause-turn
returns-clause-turn g c =
    let turn = c.rests.ensures in
    let asks = turn.asks c.if-rests.false in
    let asked = c.ask_more.ensures in
    record {
      looked = turn.looked;
      counted = turn.counted;
      receives = asked.receives ∙ turn.receives;
      most = asked.most ∙ turn.most;
      others = λ k other. asked.others_rest k other ∙ turn.others k other;
      rested = λ some. absurd (omega (arith, some, asks.0));
      waits = λ none enough. rw (asked.enough enough).2 asks.1;
      asked = λ none more. (asked.asks more, rw (turn.most, turn.counted.1) at (asked.rests more));
    }

use Rattle.std.proofs.Common.{refl}
use Rattle.satop_playout.proofs.Keeping.{Played, there-answer, octets-answer, stands-play}
use Rattle.satop_playout.proofs.playout.SatopPlayout.play.Goals as goal
use Rattle.satop_playout.proofs.playout.SatopPlayout.play.Goals.{After-fill-self}

-- what was taken from the slot and replaced
is_played : (c : After-fill-self)
    → Played c.args.self.now c.index_mut.result.now c.take-is_there.result c.fill-self.new.room c.fill-self.result
is_played c = record {
  room = c.args.room.now;
  taken = c.take-is_there.new.room;
  read = c.index_mut.ensures.value;
  size = c.requires;
  taken_size = c.take-is_there.auto.room;
  told = c.take-is_there.ensures.there;
  octets = c.take-is_there.ensures.octets;
  replaced = c.fill-self.ensures.octets;
  filled_is = c.fill-self.ensures.filled;
}

pub returns-clause-there : goal.returns-clause-there
returns-clause-there c = λ settings calls k.
    there-answer c.args.self.now settings calls _ _ _ _
    (is_played (goal.at.returns-clause-there c).After-fill-self) k

pub returns-clause-octets : goal.returns-clause-octets
returns-clause-octets c = λ settings calls k.
    octets-answer c.args.self.now settings calls _ _ _ _
    (is_played (goal.at.returns-clause-octets c).After-fill-self) k

pub returns-clause-stands : goal.returns-clause-stands
returns-clause-stands c = λ settings calls k.
    stands-play c.args.self.now _ settings calls _ c.take-is_there.new.self _ _ _
    (is_played (goal.at.returns-clause-stands c).After-fill-self) k refl refl c.take-is_there.ensures.empty
    c.slot_after-self.ensures c.number_after-self.ensures c.saturating_sub-self.ensures c.extend_from_slice.ensures refl

-- Which receives of circuits ask the system (module `readiness`).
use Rattle.std.specs.Prelude.{◌≡◌, ◌≢◌, ◌⊎◌, ◌+◌, ◌-◌, ◌<◌, ℕ, Bool, true, false}
use Rattle.std.specs.Prelude.{Option, None, Result, Ok}
use Rattle.gw_records.specs.declared.ports.PortFault.{PortFault}
use Rattle.gw_udp.specs.Resting.{AsksSystem, rests_of}
use Rattle.gw_udp.specs.declared.readiness.Readiness.{Readiness}

-- A receive was counted: in the 250th since the system was last asked, it was asked what came.
abbrev pub IsCounted : Readiness → Readiness → Type 0
IsCounted r r' = (((r.receives + 1 < 250) × (r'.receives ≡ r.receives + 1) × (r'.rests ≡ r.rests))
    ⊎ ((r'.receives ≡ 0) × AsksSystem r.rests r'.rests)) × (r'.most ≡ r.most)

-- A receive of a circuit was counted. It rests or not, and if it rests, one less rests from now on.
pub record IsTurn (r r' : Readiness) (circuit : ℕ) (rests : Bool) : Type 0 where
  pub looked : Readiness
  pub counted : IsCounted r looked
  pub receives : r'.receives ≡ looked.receives
  pub most : r'.most ≡ looked.most
  pub others : (k : ℕ) → k ≢ circuit - 1 → rests_of r'.rests k ≡ rests_of looked.rests k
  pub asks : rests ≡ false → (rests_of looked.rests (circuit - 1) ≡ 0) × (r'.rests ≡ looked.rests)
  pub rested : rests ≡ true → rests_of r'.rests (circuit - 1) + 1 ≡ rests_of looked.rests (circuit - 1)

-- A receive of a circuit was counted. If none rests there, it asks at the socket, unless that has given enough.
-- Receives rest behind one that found none there.
pub record TakesTurn (r r' : Readiness) (circuit : ℕ) (enough asks none : Type 0)
    (answer : Result (Option ℕ) PortFault) : Type 0 where
  pub looked : Readiness
  pub counted : IsCounted r looked
  pub receives : r'.receives ≡ looked.receives
  pub most : r'.most ≡ looked.most
  pub others : (k : ℕ) → k ≢ circuit - 1 → rests_of r'.rests k ≡ rests_of looked.rests k
  pub rested : 0 < rests_of looked.rests (circuit - 1)
      → (answer ≡ Ok None) × (rests_of r'.rests (circuit - 1) + 1 ≡ rests_of looked.rests (circuit - 1))
  pub waits : rests_of looked.rests (circuit - 1) ≡ 0 → enough → r'.rests ≡ looked.rests
  pub asked : rests_of looked.rests (circuit - 1) ≡ 0 → ¬ enough
      → asks × ((rests_of r'.rests (circuit - 1) ≡ 0)
      ⊎ ((rests_of r'.rests (circuit - 1) ≡ rests_of r.most (circuit - 1)) × none))

-- A trunk of which nothing was read (module `opening`).
use Rattle.std.specs.Prelude.{◌≡◌, []}
use Rattle.run_trunk.specs.declared.opening.Incoming.{Incoming}
use Rattle.run_trunk.specs.declared.opening.Incoming.TheVariants.{Alone, Clients}
use Rattle.run_trunk.specs.declared.opening.OpenTrunk.{OpenTrunk}
use Rattle.trunk_filters.specs.Trunk.{AreFresh}

-- nothing came of the trunk, no client asked, and none was answered
abbrev pub IsFreshEnd : Incoming → Type 0
IsFreshEnd (Alone incoming) = (incoming.reader.log.octets ≡ []) × (incoming.told.octets ≡ [])
IsFreshEnd (Clients incoming) = (incoming.reader.log.octets ≡ []) × (incoming.asked.octets ≡ [])
    × (incoming.told.octets ≡ [])

-- .. and nothing went to it, nor through its filters
pub record IsFreshTrunk (trunk : OpenTrunk) : Type 0 where
  pub unread : IsFreshEnd trunk.incoming
  pub untaken : trunk.outgoing.log.octets ≡ []
  pub fresh : AreFresh trunk.filters

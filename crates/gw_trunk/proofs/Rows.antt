-- Worked rows.
use Rattle.std.proofs.Common.{◌≡◌, ◌∷◌, [], refl, true, List, flat_map}
use Rattle.gw_trunk.specs.Bodies.RecordPosition.{Kind, Body}
use Rattle.gw_records.specs.Records.{Record, spelled}
use Rattle.gw_trunk.specs.Bodies.{bodies, others, passed, to_clients, place_behind}
use Rattle.gw_trunk.specs.Pieces.{trunk_part, client_part}

-- A T record of two octets, an answer to a command of circuit 7, a T record without octets and one that is cut
-- behind the first of its three octets: what goes to the trunk.
row_bodies : bodies (0x54 ∷ 0 ∷ 0 ∷ 2 ∷ 0xd5 ∷ 0x2a ∷ 0x52 ∷ 7 ∷ 0 ∷ 2 ∷ 0x43 ∷ 0
    ∷ 0x54 ∷ 0 ∷ 0 ∷ 0 ∷ 0x54 ∷ 0 ∷ 0 ∷ 3 ∷ 0x9b ∷ [])
    ≡ 0xd5 ∷ 0x2a ∷ 0x9b ∷ []
unfolding passed place_behind
row_bodies = refl

-- .. and the place then: two octets are to come.
row_place : place_behind Kind (0x52 ∷ 7 ∷ 0 ∷ 2 ∷ 0x43 ∷ 0 ∷ 0x54 ∷ 0 ∷ 0 ∷ 3 ∷ 0x9b ∷ []) ≡ Body true 1
unfolding place_behind
row_place = refl

-- .. and what goes to clients.
row_others : others (0x54 ∷ 0 ∷ 0 ∷ 2 ∷ 0xd5 ∷ 0x2a ∷ 0x52 ∷ 7 ∷ 0 ∷ 2 ∷ 0x43 ∷ 0
    ∷ 0x54 ∷ 0 ∷ 0 ∷ 0 ∷ 0x54 ∷ 0 ∷ 0 ∷ 3 ∷ 0x9b ∷ [])
    ≡ 0x52 ∷ 7 ∷ 0 ∷ 2 ∷ 0x43 ∷ 0 ∷ []
unfolding to_clients place_behind
row_others = refl

-- Two pieces of a trunk with the command of a client between them.
abbrev row_woven : List Record
row_woven = Record.Trunk (0x9b ∷ 0xd5 ∷ []) ∷ Record.Command 7 1 ∷ Record.Trunk (0xdf ∷ []) ∷ []

-- .. what came
row_came : flat_map trunk_part row_woven ≡ 0x9b ∷ 0xd5 ∷ 0xdf ∷ []
row_came = refl

-- .. what was asked
row_asked : flat_map client_part row_woven ≡ 0x43 ∷ 7 ∷ 0 ∷ 1 ∷ 1 ∷ []
row_asked = refl

-- .. and their octets
row_given : flat_map spelled row_woven
    ≡ 0x54 ∷ 0 ∷ 0 ∷ 2 ∷ 0x9b ∷ 0xd5 ∷ 0x43 ∷ 7 ∷ 0 ∷ 1 ∷ 1 ∷ 0x54 ∷ 0 ∷ 0 ∷ 1 ∷ 0xdf ∷ []
row_given = refl

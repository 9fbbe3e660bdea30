-- One octet more is heard.
use Rattle.gw_switch.proofs.Common.{◌≡◌, ◌≢◌, ℕ, suc, ◌+◌, ◌-◌, ◌%◌, ◌<◌, ◌≤◌, List, length, [], ◌∷◌, ◌++◌, Option}
use Rattle.gw_switch.proofs.Common.{common_steps, None, get_or, refl, ◌∙◌, arith, length_push, Place, place, slot_of}
use Rattle.gw_switch.proofs.Common.{Trunk, latest, speech, abcd, slot16_octets, since, nibble_turn, HasHeard}
use Rattle.gw_switch.proofs.Common.{AwaitsTurn, HasTurn, HearsAt}
use Rattle.g704_align.specs.declared.alignment.Aligner.{Aligner}
use Rattle.g704_align.specs.Aligner as aligner
use Rattle.gw_switch.proofs.Rounds.{slot_at}
use Rattle.gw_switch.proofs.HearingLemmas.{octet_mid, nibble_mid, slot16_octets_now, remote_frame_stands}
use Rattle.gw_switch.proofs.HearingLemmas.{remote_multiframe_stands}

-- the aligner told the place of an octet, and the octet was heard there
pub hears_next : (old new : Trunk) (after : Aligner) (p : Place) (s : List ℕ) (o : ℕ) → HasHeard old s
    → p ≡ place (s ++ o ∷ []) (length s) → aligner.HasHistory after (s ++ o ∷ [])
    → HearsAt (record old { aligner = after }) new p o
    → AwaitsTurn new (s ++ o ∷ []) (length s)
hears_next old new after p s o h placed stands at =
    let z = slot16_octets s (length s) in
    let len : length (s ++ o ∷ []) ≡ suc (length s) = omega (arith, length_push s o) in
    record {
      position = at.position ∙ h.position;
      awaited = omega (arith, len);
      frames = rw (at.aligner) stands;
      multiframes = rw (len, slot16_octets_now s o, ← placed) (at.signalling.multiframes z h.multiframes);
      octets = λ k lt speech. octet_mid s o k _ _ _ placed (h.octets k lt speech) (at.octets k lt speech);
      nibbles = λ k low high.
          nibble_mid s o k _ _ _ _ placed refl (h.nibbles k low high)
          (at.signalling.nibbles z h.multiframes k low high);
      remote_frame = remote_frame_stands s o _ _ _ placed h.remote_frame at.signalling.remote_frame;
      remote_multiframe =
          remote_multiframe_stands s o _ _ _ _ placed refl h.remote_multiframe
          (at.signalling.remote_multiframe z h.multiframes);
    }

-- the slot of a circuit that has the turn is that of the octet whose turn it is
pub slot_of-turn : (t : Trunk) (s : List ℕ) (n c : ℕ) → AwaitsTurn t s n → HasTurn t c → n % 32 ≡ slot_of c
slot_of-turn t s n c h turn = slot_at n t.position h.position ∙ turn

-- a turn is over: what is kept of slots and nibbles is told, and all else is as it was
pub turn_over : (t : Trunk) (s : List ℕ) (n : ℕ) (octets nibbles : List (Option ℕ)) → AwaitsTurn t s n
    → ((k : ℕ) → k < 32 → k % 16 ≢ 0
    → get_or octets k None ≡ latest (speech k s) (length s) (0 + since 32 k (length s)))
    → ((c : ℕ) → 1 ≤ c → c ≤ 30
    → get_or nibbles (c - 1) None ≡ latest (abcd c s) (length s) (0 + since 512 (nibble_turn c) (length s)))
    → HasHeard (record t {
      octets = octets;
      signalling = record t.signalling { nibbles = nibbles };
      position = (t.position + 1) % 65536;
    }) s
turn_over t s n octets nibbles h speaks signals = grind (arith, common_steps)

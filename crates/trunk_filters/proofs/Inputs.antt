-- What comes of a trunk whose device has slots 1 to 31 alone.
use Rattle.std.proofs.Common.{rules, ◌≡◌, ◌<◌, ◌+◌, ◌*◌, ◌≤◌, ◌++◌, ◌∙◌, ℕ, List, [], Option, Some, None, Ok, Err}
use Rattle.std.proofs.Common.{length, take, refl, sym, ap, arith, append-nil, min}
use Rattle.std.proofs.Math.Dec.{eqb-suc-zero}
use Rattle.std.proofs.Math.Logic.{∥∥₁_map}
use Rattle.std.specs.Prelude.{MatchOption, IfOk, ⊤, Bool, false, not, ◌==◌, ◌∷◌}
use Rattle.std.proofs.lemmas.List.{take-append-le, length-append, length-take-le}
use Rattle.e1_g711.specs.declared.Law.{Law}
use Rattle.g704_framing.specs.Alignment.{alignments_from}
use Rattle.gw_trunk.specs.Device.{ReadResult, IsTaken, octets_taken}
use Rattle.gw_trunk.specs.declared.device.DeviceRead.TheVariants.{Octets, NoneNow, Ended}
use Rattle.trunk_filters.specs.Frames.{late_from}
use Rattle.trunk_filters.specs.Receiving.{HasMadeWhole, most_read}
use Rattle.trunk_filters.specs.declared.receiving.SlotReceiver.{SlotReceiver}
use Rattle.trunk_filters.proofs.Receives.{made-same}

-- Slot 16 is not found in no octets.
late-none : (place : ℕ) → late_from place [] ≡ None
unfolding alignments_from
late-none place = refl

-- So nothing is to be told at the start.
pub said-none : (slots : Option SlotReceiver) (place : ℕ) (came : List ℕ) → came ≡ []
    → MatchOption slots ⊤ (λ s. None ≡ late_from place came)
said-none None place came none = tt
said-none (Some s) place came none = rw none (sym (late-none place))

-- Nothing has come then.
pub came-none : (slots : Option SlotReceiver) (law : Law) (place : ℕ) (came log held : List ℕ) → came ≡ []
    → log ≡ [] → held ≡ [] → MatchOption slots ⊤ (λ s. HasMadeWhole s law place [] [])
    → MatchOption slots ((log ≡ came) × (held ≡ [])) (λ s. HasMadeWhole s law place came (log ++ held))
came-none None law place came log held none empty free begins = (empty ∙ sym none, free)
came-none (Some s) law place came log held none empty free begins = rw (none, empty, free) begins

-- What a read took is at the front of the room.
pub taken-front : (read : ReadResult) (room rest : List ℕ) → IfOk read (λ t. IsTaken t (length room))
    → octets_taken read (room ++ rest) ≡ octets_taken read room
taken-front (Ok (Octets n)) room rest fits = take-append-le n room rest fits.1
taken-front (Ok NoneNow) room rest fits = refl
taken-front (Ok Ended) room rest fits = refl
taken-front (Err fault) room rest fits = refl

-- The octets that a read took.
pub took-octets : (read : ReadResult) (n : ℕ) (room : List ℕ) → read ≡ Ok (Octets n)
    → take n room ≡ octets_taken read room
took-octets read n room e = ap (λ (r : ReadResult). octets_taken r room) (sym e)

-- Where the device has all slots, its octets come.
pub came-passed : (slots : Option SlotReceiver) (law : Law) (place : ℕ) (came came' log log' held taken : List ℕ)
    → slots ≡ None → came' ≡ came ++ taken → log' ≡ log ++ taken
    → MatchOption slots ((log ≡ came) × (held ≡ [])) (λ s. HasMadeWhole s law place came (log ++ held))
    → MatchOption slots ((log' ≡ came') × (held ≡ [])) (λ s. HasMadeWhole s law place came' (log' ++ held))
came-passed slots law place came came' log log' held taken off more logged h = search rules

-- There is no slot 16 then.
pub said-off : (slots : Option SlotReceiver) (told : Option ℕ) (place : ℕ) (came : List ℕ) → slots ≡ None
    → MatchOption slots ⊤ (λ s. told ≡ late_from place came)
said-off None told place came off = tt
said-off (Some s) told place came off = absurd (cc off)

-- Otherwise they come with slots 0, where nothing was held.
pub received : (slots : Option SlotReceiver) (s s' : SlotReceiver) (law : Law) (place : ℕ)
    (came came' taken log log' held held' left : List ℕ) → slots ≡ Some s → held ≡ []
    → ((law : Law) (place : ℕ) (octets made : List ℕ) → HasMadeWhole s law place octets made
    → HasMadeWhole s' law place (octets ++ taken) (made ++ held'))
    → came' ≡ came ++ taken → log' ++ left ≡ log ++ held'
    → ∥ MatchOption slots ((log ≡ came) × (held ≡ [])) (λ s. HasMadeWhole s law place came (log ++ held)) ∥₁
    → ∥ HasMadeWhole s' law place came' (log' ++ left) ∥₁
received slots s s' law place came came' taken log log' held held' left is none made more given h =
    ∥∥₁_map h (λ t. made-same s' law place _ came' _ (log' ++ left) (sym more)
    (ap (λ xs. (log ++ xs) ++ held') none ∙ ap (λ xs. xs ++ held') (append-nil log) ∙ sym given)
    (made law place came (log ++ held) (rw is at t)))

-- Nothing is held.
pub none-held : (held : List ℕ) (is_empty : Bool) → is_empty ≡ (length held == 0) → not is_empty ≡ false → held ≡ []
none-held [] is_empty e some = refl
none-held (x ∷ held) is_empty e some = absurd (cc (some, ap not (e ∙ eqb-suc-zero (length held))))

-- How many octets a read took into a piece of a room.
took-most : (read : ReadResult) (piece rest : List ℕ) → IfOk read (λ t. IsTaken t (length piece))
    → length (octets_taken read (piece ++ rest)) ≤ length piece
took-most (Ok (Octets n)) piece rest fits =
    omega (arith, fits.1, length-take-le n (piece ++ rest) (omega (arith, fits.1, length-append piece rest)))
took-most (Ok NoneNow) piece rest fits = omega arith
took-most (Ok Ended) piece rest fits = omega arith
took-most (Err fault) piece rest fits = omega arith

-- One octet at most is left of what is made of a read of the device for a room.
pub few-left : (read : ReadResult) (piece rest made left log log' room : List ℕ) (given size : ℕ)
    → 0 < size → IfOk read (λ t. IsTaken t (length piece)) → length piece ≡ most_read size
    → 31 * length made ≤ 32 * length (octets_taken read (piece ++ rest)) + 30
    → given ≡ min (length made) (length room) → length room ≡ size → log' ≡ log ++ take given room
    → log' ++ left ≡ log ++ made → length left ≤ 1
few-left read piece rest made left log log' room given size some fits most few count long logged all =
    let took = took-most read piece rest fits in
    let gave : given ≤ length room = omega (arith, count) in
    let lengths : length log + given + length left ≡ length log + length made
    = omega (
      arith,
      ap length all,
      ap length logged,
      length-append log' left,
      length-append log made,
      length-append log (take given room),
      length-take-le given room gave,
    ) in
    omega (arith, some, took, most, few, count, long, lengths)

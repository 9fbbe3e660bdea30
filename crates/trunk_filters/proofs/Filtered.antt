-- What has passed the filters of a trunk.
use Rattle.std.proofs.Common.{◌≡◌, ◌<◌, ◌≤◌, ◌++◌, ℕ, Bool, true, false, List, [], Option, Some, None, refl}
use Rattle.std.proofs.Common.{Result, Ok, Err, append-nil, arith}
use Rattle.std.proofs.Math.Logic.{∥∥₁_map₂}
use Rattle.std.specs.Prelude.{IfOk, IfSome, MatchOption, is_some, option_map}
use Rattle.e1_g711.specs.declared.Law.{Law}
use Rattle.g704_bits.specs.Standing.{StandsAfter}
use Rattle.g704_bits.specs.declared.bits.BitAligner.{BitAligner}
use Rattle.g704_crc4.specs.declared.counting.TrunkChecker.{TrunkChecker}
use Rattle.g704_framing.specs.Replies.{replies_after}
use Rattle.gw_filter.specs.Align.{align_reply}
use Rattle.gw_filter.specs.Check.{HasReported}
use Rattle.gw_filter.specs.Crc4.{HasSent}
use Rattle.gw_filter.specs.Filter.{RepliesTo}
use Rattle.gw_filter.specs.declared.sending.Crc4Sender.{Crc4Sender}
use Rattle.gw_filter.proofs.Sends.{is_sent}
use Rattle.trunk_filters.specs.Filters.{ReturnsBehind, ReturnsIf}
use Rattle.trunk_filters.specs.Frames.{whole_trunk}
use Rattle.trunk_filters.specs.Receiving.{HasMadeWhole}
use Rattle.trunk_filters.specs.declared.receiving.SlotReceiver.{SlotReceiver}
use Rattle.gw_trunk.specs.declared.device.DeviceFault.{DeviceFault}
use Rattle.trunk_filters.specs.Trunk.{Checks, SendsFrom, both_ended}

-- What an aligner has returned for octets.
abbrev pub Aligned : BitAligner → List ℕ → List ℕ → Type 0
Aligned aligner octets returned = StandsAfter aligner octets × RepliesTo align_reply octets returned

-- A new aligner has returned nothing for no octets.
pub aligner-begins : (filter aligner : Option BitAligner) → filter ≡ aligner → IfSome aligner (λ a. StandsAfter a [])
    → MatchOption filter (◌≡◌ {A = List ℕ} [] []) (λ f. Aligned f [] [])
unfolding replies_after
aligner-begins filter None e new = rw e refl
aligner-begins filter (Some a) e new = rw e (new, refl)

-- What a checker has checked.
pub checked : (checker : TrunkChecker) (reported : ℕ) (reports octets returned : List ℕ)
    → HasReported checker reported reports octets returned → Checks octets returned
checked checker reported reports octets returned s =
    (reports, record { same = s.same; unreported = s.unreported; reported = rw (← s.total) at s.others })

-- What a sender has sent from a place on.
pub sent : (place : ℕ) (sender : Crc4Sender) (reports : Option (List ℕ)) (octets returned : List ℕ)
    → ReturnsBehind place (HasSent sender reports) octets returned → SendsFrom place octets returned
sent place sender reports octets returned s =
    (reports, (s.0, s.1, is_sent sender reports _ _ s.2))

-- What a filter has returned from its place on, if it is used, in words that follow from its own.
pub returned-from : {F : Type 0} (place : F → ℕ) (Has : F → List ℕ → List ℕ → Type 0)
    (Returns : ℕ → List ℕ → List ℕ → Type 0) (filter : Option F) (octets returned : List ℕ)
    → ((f : F) → Has f octets returned → Returns (place f) octets returned)
    → MatchOption filter (returned ≡ octets) (λ f. Has f octets returned)
    → MatchOption (option_map place filter) (returned ≡ octets) (λ p. Returns p octets returned)
returned-from place Has Returns None octets returned said r = r
returned-from place Has Returns (Some f) octets returned said r = said f r

-- What a receiver of slots has made, and gives but for what is held.
pub made-if : (law : Law) (place : ℕ) (slots : Option SlotReceiver) (received given held : List ℕ)
    → MatchOption slots ((given ≡ received) × (held ≡ [])) (λ s. HasMadeWhole s law place received (given ++ held))
    → ReturnsIf (is_some slots) (λ octets whole. whole ≡ whole_trunk law place octets) received (given ++ held)
made-if law place None received given held made = rw (made.1, append-nil given) made.0
made-if law place (Some s) received given held made = made.made_are

-- What follows of three things, each of which is there.
pub of-three : {A B C D : Type 0} → ∥ A ∥₁ → ∥ B ∥₁ → ∥ C ∥₁ → (A → B → C → D) → ∥ D ∥₁
of-three {C = C} {D = D} a b c follows = ∥∥₁_map₂ {A = C → D} (∥∥₁_map₂ a b follows) c (λ rest z. rest z)

-- A device that did not fail in the end took all, if no wait for it has ended without room.
pub taken-whole : (A B : Type 0) (output rest : Result Bool DeviceFault) (before between behind : ℕ)
    → IfOk output (λ all. all ≡ true → A) → IfOk output (λ all. all ≡ false → before < between)
    → IfOk rest (λ all. all ≡ true → B) → IfOk rest (λ all. all ≡ false → between < behind)
    → between ≤ behind → IfOk (both_ended output rest) (λ _. behind ≡ 0 → A × B)
taken-whole A B (Ok true) (Ok true) before between behind a s b t more = λ none. (a refl, b refl)
taken-whole A B (Ok true) (Ok false) before between behind a s b t more = λ none. absurd (omega (arith, none, t refl))
taken-whole A B (Ok false) (Ok all) before between behind a s b t more =
    λ none. absurd (omega (arith, none, s refl, more))
taken-whole A B (Err fault) rest before between behind a s b t more = tt
taken-whole A B (Ok all) (Err fault) before between behind a s b t more = tt

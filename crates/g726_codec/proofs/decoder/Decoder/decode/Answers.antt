use Rattle.std.proofs.Common.{rules, ap, ℕ, Some, [], ◌∷◌}
use Rattle.std.proofs.lemmas.Int.{to_z-of_z}
use Rattle.g726_codec.specs.Codec.{sync, decoded, after_words}
use Rattle.g726_codec.proofs.Histories.{next_octets, next_decoder}
use Rattle.g726_codec.proofs.decoder.Decoder.decode.Goals as goal

pub returns-clause-octet : goal.returns-clause-octet
unfolding sync
returns-clause-octet g c =
    rw (← c.self.view_is) (search (rules, to_z-of_z))

pub returns-clause-state : goal.returns-clause-state
returns-clause-state g c = rw (← c.self.view_is) c.step-sr.ensures.state

pub returns-clause-octets : goal.returns-clause-octets
unfolding decoded after_words
returns-clause-octets g c =
    λ words stands. next_octets (Some g.R.Rate.tables) c.args.law words (c.args.word ∷ []) _ _ stands
    (ap (λ (o : ℕ). o ∷ []) (returns-clause-octet g c))

pub returns-clause-stands : goal.returns-clause-stands
unfolding after_words
returns-clause-stands g c =
    λ words stands. next_decoder (Some g.R.Rate.tables) words (c.args.word ∷ []) _ _ stands (returns-clause-state g c)

use Rattle.std.proofs.Common.{rules, ap, ℕ, Some, [], ◌∷◌}
use Rattle.std.proofs.lemmas.Int.{to_z-of_z}
use Rattle.g726_codec.specs.Codec.{encoded, after_words, after_octets}
use Rattle.g726_codec.proofs.Histories.{next_words, next_encoder}
use Rattle.g726_codec.proofs.encoder.Encoder.encode.Goals as goal

pub returns-clause-word : goal.returns-clause-word
returns-clause-word g c =
    rw (← c.self.view_is) (search (rules, to_z-of_z))

pub returns-clause-state : goal.returns-clause-state
returns-clause-state g c = rw (← c.self.view_is) c.step.ensures.state

pub returns-clause-words : goal.returns-clause-words
unfolding encoded after_octets after_words
returns-clause-words g c =
    λ octets stands. next_words (Some g.R.Rate.tables) c.args.law octets (c.args.octet ∷ []) _ _ stands
    (ap (λ (w : ℕ). w ∷ []) (returns-clause-word g c))

pub returns-clause-stands : goal.returns-clause-stands
unfolding encoded after_octets after_words
returns-clause-stands g c =
    λ octets stands. next_encoder (Some g.R.Rate.tables) c.args.law octets (c.args.octet ∷ []) _ _ _ stands
    (ap (λ (w : ℕ). w ∷ []) (returns-clause-word g c)) (returns-clause-state g c)

use Rattle.g704_crc4.proofs.Common.{◌≡◌, Some, subst, ◌<◌, ◌++◌, ◌∷◌, [], refl, sym, ap, ◌∙◌, arith, checked_octets}
use Rattle.g704_crc4.proofs.Common.{ChecksAfter}
use Rattle.g704_crc4.proofs.Blocks.{none-came, not_excessive}
use Rattle.g704_crc4.proofs.Followings.{followed-nothing, followed-is, followed-excess, none-yet, one-more, waits-on}
use Rattle.g704_crc4.proofs.Followings.{no-block, excess-is, block}
use Rattle.g704_crc4.proofs.receiving.SubmultiframeCheck.octet.Goals as goal

pub returns-then-self-gt0-clause-reply : goal.returns-then-self-gt0-clause-reply
returns-then-self-gt0-clause-reply c octets s =
    followed-nothing (octets ++ c.args.octet ∷ []) (none-yet _ octets c.args.octet s c.if-self-gt0.true)

pub returns-then-self-gt0-clause-stands : goal.returns-then-self-gt0-clause-stands
returns-then-self-gt0-clause-stands c octets s few =
    waits-on c.args.self.now octets c.args.octet s _ c.if-self-gt0.true refl

pub returns-then-is_excess-clause-reply : goal.returns-then-is_excess-clause-reply
returns-then-is_excess-clause-reply c octets s =
    let to : c.args.self.now.to_come ≡ 0 = omega (arith, c.if-self-gt0.false) in
    let is = sym (c.in-Some-Block.is ∙ ap Some c.in-Some-Block.field-0-is)
    ∙ c.octet.ensures.reply (checked_octets octets) s.checks in
    followed-excess (octets ++ c.args.octet ∷ []) _ (one-more c.args.self.now octets c.args.octet s to)
    (excess-is c.args.self.now octets c.args.octet s _ is
    ∙ sym (c.is_excess.ensures.reply s.few) ∙ c.if-is_excess.true)

pub returns-then-is_excess-clause-stands : goal.returns-then-is_excess-clause-stands
returns-then-is_excess-clause-stands c octets s few =
    let to : c.args.self.now.to_come ≡ 0 = omega (arith, c.if-self-gt0.false) in
    let kept = c.is_excess.ensures.kept in
    let is = sym (c.in-Some-Block.is ∙ ap Some c.in-Some-Block.field-0-is)
    ∙ c.octet.ensures.reply (checked_octets octets) s.checks in
    let below : c.args.self.now.known < 1000 = omega (arith, s.known) in
    block c.args.self.now octets c.args.octet s c.is_excess.new.self _ to (kept.0 ∙ to)
    (subst (λ k. ChecksAfter k (checked_octets octets ++ c.args.octet ∷ [])) (sym kept.1)
    (c.octet.ensures.stands (checked_octets octets) s.checks)) is (c.is_excess.ensures.known below)
    (c.is_excess.ensures.errored s.few) (rw (one-more c.args.self.now octets c.args.octet s to) at few)

pub returns-else-is_excess-clause-reply : goal.returns-else-is_excess-clause-reply
returns-else-is_excess-clause-reply c octets s =
    let to : c.args.self.now.to_come ≡ 0 = omega (arith, c.if-self-gt0.false) in
    let is = sym (c.in-Some-Block.is ∙ ap Some c.in-Some-Block.field-0-is)
    ∙ c.octet.ensures.reply (checked_octets octets) s.checks in
    followed-is (octets ++ c.args.octet ∷ []) _ _ (one-more c.args.self.now octets c.args.octet s to)
    (excess-is c.args.self.now octets c.args.octet s _ is
    ∙ sym (c.is_excess.ensures.reply s.few) ∙ c.if-is_excess.false)
    is

pub returns-else-is_excess-clause-stands : goal.returns-else-is_excess-clause-stands
returns-else-is_excess-clause-stands c octets s few =
    let to : c.args.self.now.to_come ≡ 0 = omega (arith, c.if-self-gt0.false) in
    let kept = c.is_excess.ensures.kept in
    let is = sym (c.in-Some-Block.is ∙ ap Some c.in-Some-Block.field-0-is)
    ∙ c.octet.ensures.reply (checked_octets octets) s.checks in
    let below : c.args.self.now.known < 1000 = omega (arith, s.known) in
    block c.args.self.now octets c.args.octet s c.is_excess.new.self _ to (kept.0 ∙ to)
    (subst (λ k. ChecksAfter k (checked_octets octets ++ c.args.octet ∷ [])) (sym kept.1)
    (c.octet.ensures.stands (checked_octets octets) s.checks)) is (c.is_excess.ensures.known below)
    (c.is_excess.ensures.errored s.few) (rw (one-more c.args.self.now octets c.args.octet s to) at few)

pub returns-in-Some-FarEnd-clause-reply : goal.returns-in-Some-FarEnd-clause-reply
returns-in-Some-FarEnd-clause-reply c octets s =
    let to : c.args.self.now.to_come ≡ 0 = omega (arith, c.if-self-gt0.false) in
    let is = sym (c.in-Some-FarEnd.is ∙ ap Some c.in-Some-FarEnd.field-0-is)
    ∙ c.octet.ensures.reply (checked_octets octets) s.checks in
    followed-is (octets ++ c.args.octet ∷ []) _ _ (one-more c.args.self.now octets c.args.octet s to)
    (not_excessive _ (none-came _ _ is (λ right e. cc))) is

pub returns-in-Some-FarEnd-clause-stands : goal.returns-in-Some-FarEnd-clause-stands
returns-in-Some-FarEnd-clause-stands c octets s few =
    let to : c.args.self.now.to_come ≡ 0 = omega (arith, c.if-self-gt0.false) in
    let is = sym (c.in-Some-FarEnd.is ∙ ap Some c.in-Some-FarEnd.field-0-is)
    ∙ c.octet.ensures.reply (checked_octets octets) s.checks in
    no-block c.args.self.now octets c.args.octet s _ to to (c.octet.ensures.stands (checked_octets octets) s.checks)
    (none-came _ _ is (λ right e. cc)) refl refl

pub returns-in-None-clause-reply : goal.returns-in-None-clause-reply
returns-in-None-clause-reply c octets s =
    let to : c.args.self.now.to_come ≡ 0 = omega (arith, c.if-self-gt0.false) in
    let is = sym c.in-None.is ∙ c.octet.ensures.reply (checked_octets octets) s.checks in
    followed-is (octets ++ c.args.octet ∷ []) _ _ (one-more c.args.self.now octets c.args.octet s to)
    (not_excessive _ (none-came _ _ is (λ right e. cc))) is

pub returns-in-None-clause-stands : goal.returns-in-None-clause-stands
returns-in-None-clause-stands c octets s few =
    let to : c.args.self.now.to_come ≡ 0 = omega (arith, c.if-self-gt0.false) in
    let is = sym c.in-None.is ∙ c.octet.ensures.reply (checked_octets octets) s.checks in
    no-block c.args.self.now octets c.args.octet s _ to to (c.octet.ensures.stands (checked_octets octets) s.checks)
    (none-came _ _ is (λ right e. cc)) refl refl

use Rattle.g704_crc4.proofs.Common.{◌≡◌, ◌/◌, ◌%◌, length, ap, sym, ◌∙◌, refl, arith, nat_le, no_remainder, si_at}
use Rattle.g704_crc4.proofs.Common.{with_si, check_bits_after, sent_octet}
use Rattle.g704_crc4.proofs.Sent.{at-frame}
use Rattle.g704_crc4.proofs.Steps.{sends-more}
use Rattle.g704_crc4.proofs.sending.Crc4Inserter.first_octet.Goals as goal

pub returns-clause-reply : goal.returns-clause-reply
unfolding sent_octet
returns-clause-reply c history s e =
    let next = c.begin_submultiframe.ensures history s in
    let bits = check_bits_after history in
    let n : c.begin_submultiframe.new.self.place / 32 % 16 ≡ length history / 32 % 16 = omega arith in
    c.with_si-2.ensures
    ∙ ap (λ si. with_si si c.args.octet) (c.si_at-2.ensures bits next.before
    ∙ ap (λ k. si_at bits k (nat_le 128 c.args.octet)) n)
    ∙ sym (at-frame bits (length history) c.args.octet e)

pub returns-clause-stands : goal.returns-clause-stands
returns-clause-stands c history s e =
    let next = c.begin_submultiframe.ensures history s in
    let n : c.begin_submultiframe.new.self.place / 32 % 16 ≡ length history / 32 % 16 = omega arith in
    sends-more c.begin_submultiframe.new.self history c.args.octet _ _ _ next
    (c.with_si.ensures
    ∙ ap (λ si. with_si si c.args.octet) (c.si_at.ensures no_remainder refl
    ∙ ap (λ k. si_at no_remainder k (nat_le 128 c.args.octet)) n)
    ∙ sym (at-frame no_remainder (length history) c.args.octet e))
    (omega arith) (c.number_after-self.ensures _ next.running)

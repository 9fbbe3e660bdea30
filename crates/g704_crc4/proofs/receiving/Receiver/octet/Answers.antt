use Rattle.g704_crc4.proofs.Common.{◌≡◌, ◌++◌, ◌∷◌, [], ◌-◌, length, refl, sym, ap, ◌∙◌, arith, None, inl, inr}
use Rattle.g704_crc4.proofs.Common.{cases_Bool, length_push, get_or_push, last_of, since-more, since-anew, learned_of}
use Rattle.g704_crc4.proofs.Common.{aligned_octets, is_given_up, parts, part_before}
use Rattle.g704_crc4.proofs.Alignments.{aligned-none, aligned-nil, slot-goes_on, part-begun}
use Rattle.g704_crc4.proofs.Parts.{part-is, part-over, part-kept, learned-is}
use Rattle.g704_crc4.proofs.Searched.{short-kept}
use Rattle.g704_crc4.proofs.receiving.Receiver.octet.Goals as goal

pub returns-in-Hunting-clause-reply : goal.returns-in-Hunting-clause-reply
returns-in-Hunting-clause-reply c history h =
    let f = h.fields in
    let none = aligned-none h.since c.args.octet (sym c.in-Hunting.is ∙ c.octet.ensures.placed h.since f.aligner) in
    c.hunt.ensures.reply h.since (aligned_octets h.since) f.stage
    ∙ ap (learned_of (aligned_octets h.since)) (sym none)
    ∙ learned-is history h.since c.args.octet (ap part_before h.whole
    ∙ part-is h.earlier h.since h.over f.kept)

pub returns-in-Hunting-clause-stands : goal.returns-in-Hunting-clause-stands
returns-in-Hunting-clause-stands c history h =
    let f = h.fields in
    let x = c.args.octet in
    let none = aligned-none h.since x (sym c.in-Hunting.is ∙ c.octet.ensures.placed h.since f.aligner) in
    let last : length (h.since ++ x ∷ []) - 1 ≡ length h.since = omega (arith, length_push h.since x) in
    since-more parts _ history h.earlier h.since x h.whole h.over (record {
      aligner = rw c.hunt.ensures.aligner (c.octet.ensures.stands h.since f.aligner);
      room = c.hunt.ensures.room ∙ f.room;
      stage = rw c.hunt.ensures.stage (grind (arith, get_or_push h.since x 0 (length h.since) refl));
      kept = part-kept h.since x f.kept (ap is_given_up none ∙ short-kept [] (omega arith));
    })

pub returns-in-Slot-clause-reply : goal.returns-in-Slot-clause-reply
returns-in-Slot-clause-reply c history h =
    let f = h.fields in
    let on = slot-goes_on h.since c.args.octet _ _ (sym c.in-Slot.is ∙ c.octet.ensures.placed h.since f.aligner) in
    c.follow.ensures.reply h.since (aligned_octets h.since) _ f.stage on f.room
    ∙ learned-is history h.since c.args.octet (ap part_before h.whole
    ∙ part-is h.earlier h.since h.over f.kept)

pub returns-in-Slot-clause-stands : goal.returns-in-Slot-clause-stands
returns-in-Slot-clause-stands c history h =
    let f = h.fields in
    let x = c.args.octet in
    let on = slot-goes_on h.since x _ _ (sym c.in-Slot.is ∙ c.octet.ensures.placed h.since f.aligner) in
    elim (cases_Bool (is_given_up (aligned_octets (h.since ++ x ∷ [])))) [
      | inr kept ↦
          let goes = c.follow.ensures.goes_on h.since (aligned_octets h.since) _ f.stage on f.room kept in
          since-more parts _ history h.earlier h.since x h.whole h.over (record {
            aligner = rw goes.0 (c.octet.ensures.stands h.since f.aligner);
            room = c.follow.ensures.room ∙ f.room;
            stage = goes.1;
            kept = part-kept h.since x f.kept kept;
          })
      | inl given_up ↦
          let anew = c.follow.ensures.anew h.since (aligned_octets h.since) _ f.stage on f.room given_up in
          since-anew parts _ history h.earlier h.since x h.whole h.over
          (part-over (last_of None h.earlier) h.since x (part-begun h.since x _ on) f.kept given_up) (record {
            aligner = anew.aligner;
            room = c.follow.ensures.room ∙ f.room;
            stage = rw anew.stage (aligned-nil, λ lt. absurd (omega arith));
            kept = λ position lt. absurd (omega arith);
          })
    ]

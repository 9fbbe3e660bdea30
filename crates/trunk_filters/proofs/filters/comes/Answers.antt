use Rattle.std.proofs.Common.{◌++◌, refl}
use Rattle.gw_filter.specs.Align.{align_reply}
use Rattle.gw_filter.specs.Check.{HasReported}
use Rattle.gw_filter.specs.Filter.{RepliesTo}
use Rattle.trunk_filters.proofs.Returned.{returned-if}
use Rattle.trunk_filters.proofs.Filtered.{Aligned, checked, made-if, of-three}
use Rattle.trunk_filters.specs.Trunk.{Checks}
use Rattle.trunk_filters.proofs.filters.comes.Goals as goal

pub returns : goal.returns
returns g c =
    let incoming = c.args.incoming.now in
    let aligned = incoming.incoming in
    let slots = aligned.incoming in
    of-three incoming.filtered aligned.filtered slots.came (λ checks aligns made. record {
      made = slots.log.octets ++ slots.held.items;
      is_made = made-if slots.law.value slots.place.value slots.slots _ _ _ made;
      whole = slots.log.octets;
      rest = slots.held.items;
      made_are = refl;
      few = slots.few;
      aligned = aligned.log.octets;
      aligns = returned-if Aligned (RepliesTo align_reply) aligned.filter.filter _ _ _ refl (λ f s. s.1) aligns;
      checks = returned-if (λ f. HasReported f.checker f.reported f.reports.log.octets) Checks
          incoming.filter.filter _ _ _ refl (λ f s. checked _ _ _ _ _ s) checks;
    })

use Rattle.std.proofs.Common.{◌++◌, [], sym, ap, ◌∙◌}
use Rattle.g704_framing.specs.Replies.{stream_replies}
use Rattle.g704_framing.proofs.Replies.{replies-append}
use Rattle.gw_filter.specs.Align.{align_reply}
use Rattle.gw_filter.proofs.filters.BitAlignerBufferFilter.filter_buffer.Goals as goal

pub returns-clause-stands : goal.returns-clause-stands
returns-clause-stands c taken returned s =
    let e = c.align_all.ensures in
    let new = c.align_all.new.octets in (
      e.stands taken s.0,
      ap (λ xs. xs ++ new) s.1 ∙ ap (λ xs. stream_replies align_reply taken ++ xs) (e.replies taken s.0)
          ∙ sym (replies-append align_reply [] taken _),
    )

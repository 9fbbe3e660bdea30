-- What circuits see of a gateway that is reconfigured.
use Rattle.gw_switch.proofs.Common.{◌≡◌, ◌≢◌, ℕ, zero, suc, ◌<◌, ◌≤◌, List, [], ◌∷◌, ◌++◌, inl, inr, refl, sym, ap, ◌∙◌}
use Rattle.gw_switch.proofs.Common.{append_assoc, append-nil, arith, cases_eq, CircuitEvent, GatewayConfig, Event}
use Rattle.gw_switch.proofs.Common.{octets, view, config_of, IsRenewal, AreRenewals, RenewalsAreApart}
use Rattle.gw_switch.proofs.Views.{view-given, view-join, octets-push_other}

-- what circuit c has seen of what happened to it
record HasSeen (c : ℕ) (old new : GatewayConfig) (before after : List Event) : Type 0 where
  same : config_of old c ≡ config_of new c → view c after ≡ view c before
  other : config_of old c ≢ config_of new c
      → view c after ≡ view c before ++ CircuitEvent.Configure (config_of new c) ∷ []

-- what circuits have seen when the first n of them were renewed
record HaveSeen (old new : GatewayConfig) (events after : List Event) (n : ℕ) : Type 0 where
  trunk : octets after ≡ octets events
  done : (c : ℕ) → 1 ≤ c → c ≤ n → HasSeen c old new events after
  left : (c : ℕ) → n < c → view c after ≡ view c events

-- one circuit more is renewed
seen-next : (old new : GatewayConfig) (events after last : List Event) (n : ℕ) → HaveSeen old new events after n
    → IsRenewal (suc n) (config_of old (suc n)) (config_of new (suc n)) last
    → HaveSeen old new events (after ++ last) (suc n)
seen-next old new events after last n seen (inl same) = rw (same.1, append-nil after) (record {
  trunk = seen.trunk;
  done = λ c low high. elim (cases_eq (suc n) c) [
    | inl e ↦ record {
      same = λ alike. seen.left c (omega (arith, e));
      other = λ ne. absurd (ne (rw e at same.0));
    }
    | inr ne ↦ seen.done c low (omega (arith, ne))
  ];
  left = λ c low. seen.left c (omega arith);
})
seen-next old new events after last n seen (inr other) = rw other.1 (record {
  trunk = octets-push_other after (Event.Given (suc n) (CircuitEvent.Configure (config_of new (suc n)))) refl
      ∙ seen.trunk;
  done = λ c low high. elim (view-given c (suc n) (CircuitEvent.Configure (config_of new (suc n))) after) [
    | inl own ↦ record {
      same = λ alike. absurd (other.0 (rw (← own.0) at alike));
      other = λ ne. own.1 ∙ ap (λ v. v ++ CircuitEvent.Configure (config_of new (suc n)) ∷ [])
          (seen.left c (omega (arith, own.0)))
          ∙ ap (λ d. view c events ++ CircuitEvent.Configure (config_of new d) ∷ []) own.0;
    }
    | inr ne ↦ record {
      same = λ alike. ne.1 ∙ (seen.done c low (omega (arith, ne.0))).same alike;
      other = λ unlike. ne.1 ∙ (seen.done c low (omega (arith, ne.0))).other unlike;
    }
  ];
  left = λ c low. elim (view-given c (suc n) (CircuitEvent.Configure (config_of new (suc n))) after) [
    | inl own ↦ absurd (omega (arith, own.0))
    | inr ne ↦ ne.1 ∙ seen.left c (omega arith)
  ];
})

-- the first circuits have seen what happens to them
seen-all : (old new : GatewayConfig) (events more : List Event) (n : ℕ) → AreRenewals old new n more
    → HaveSeen old new events (events ++ more) n
seen-all old new events more zero are = grind (arith, append-nil events)
seen-all old new events more (suc n) (before, last, are, is, joined) =
    rw (joined, ← append_assoc events before last)
    (seen-next old new events (events ++ before) last n (seen-all old new events before n are) is)

-- where trunk and view are the same, so is the view of what comes later
later-same : (c : ℕ) (here there later : List Event) → octets here ≡ octets there → view c here ≡ view c there
    → view c (here ++ later) ≡ view c (there ++ later)
later-same c here there later trunk seen =
    view-join c here later ∙ rw (seen, trunk) (sym (view-join c there later))

-- renewals have no octet, and each circuit sees its own alone
pub apart : RenewalsAreApart
apart old new events more are =
    let seen = seen-all old new events more 30 are in (
      seen.trunk,
      λ c low high. record {
        same = λ alike later.
            later-same c (events ++ more) events later seen.trunk ((seen.done c low high).same alike);
        other = (seen.done c low high).other;
      },
    )

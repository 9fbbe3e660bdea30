use Rattle.std.proofs.Common.{◌++◌, ◌∙◌, List, ℕ, ap, sym}
use Rattle.gw_state.specs.Layout.{saved_config}
use Rattle.gw_state.proofs.Setups.{ok-same}
use Rattle.gw_state.proofs.loading.read_gateway.Goals as goal

pub returns-in-Ok-reconfigure-clause-ok : goal.returns-in-Ok-reconfigure-clause-ok
returns-in-Ok-reconfigure-clause-ok c =
    let old = c.in-Ok.old in
    let read = c.in_ok-saved.ensures.loaded in
    let renewed = c.in-Ok-reconfigure.ensures.reconfigured in
    record {
      law = c.in-Ok.ensures.law;
      fits = c.in-Ok.ensures.fits;
      saved = c.in_ok-saved.saved;
      whole = c.in-Ok.ensures.read ∙ ap (λ (os : List ℕ). saved_config old ++ os) read;
      only = λ other rest fits law e.
          let told = c.in-Ok.ensures.next other rest fits law e in
          (sym (ok-same old other told.0), sym told.1 ∙ read);
      goes_on = rw read at (c.in_ok-saved.ensures.stands old c.in-Ok-open.ensures.opened);
      more = renewed.more;
      renewals = renewed.are;
      taken = renewed.taken;
    }

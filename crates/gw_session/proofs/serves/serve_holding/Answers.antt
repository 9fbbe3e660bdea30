use Rattle.gw_session.proofs.Common.{ap, refl, [], InputsShown}
use Rattle.gw_session.specs.declared.held.HeldPackets.{HeldPackets}
use Rattle.gw_session.proofs.Ends.{all_as, until_as, either_way}
use Rattle.gw_session.proofs.Silent.{serves, serves_until, serves_watched, serves_watched_until}
use Rattle.gw_session.proofs.serves.serve_holding.Goals as goal

pub returns : goal.returns
returns g c =
    let holds = ap (λ (h : HeldPackets). h.holds) c.new-session.ensures.held in
    let shown = InputsShown g.W.Watch.shows c.args.gateway.now c.args.observers.now.watch
    c.process_records.new.observers.watch in
    let ok = rw (c.requires.new.at_once, holds) at c.process_records.ensures.ok in
    let fault = rw (c.requires.new.at_once, holds) at c.process_records.ensures.fault in
    record {
      kept = c.process_records.ensures.kept;
      ok = all_as _ _ _ _ _ (λ t records p. serves records p.0) c.process_records.result ok;
      fault = until_as _ _ _ _ _ (λ t records p. serves records p.0) _ c.process_records.result
          (serves_until shown) fault;
      watched = either_way _ _ c.process_records.result
          (all_as _ _ _ _ _
          (λ t records p. serves_watched (λ inputs. shown inputs []) records p.0 p.1) c.process_records.result
          ok)
          (until_as _ _ _ _ _
          (λ t records p. serves_watched (λ inputs. shown inputs []) records p.0 p.1) _ c.process_records.result
          (serves_watched_until shown) fault);
      terms = c.process_records.ensures.terms;
    }

pub process_records-requires-clause-silent : goal.process_records-requires-clause-silent
process_records-requires-clause-silent g c = λ on p. refl

-- The names that most modules of this crate cite, passed on from one place. Declares nothing.
pub use Rattle.gw_circuit.specs.Items.{CircuitEvent, Datagram, Command, Codec, Answers, Obeys, Changes}
pub use Rattle.gw_records.specs.Outcome.{nothing_counted, EndsAll, EndsUntil, OrNoMemory}
pub use Rattle.gw_records.specs.Ports.{Waiting, PortsState, IfKnown, Extends, counted, PortCall}
pub use Rattle.gw_records.specs.Records.{Record, record_of, IsGood}
pub use Rattle.gw_records.specs.Streams.{SourceState, SinkState, AppendsBut, at_most, AppendsPrefix}
pub use Rattle.gw_records.specs.declared.outcome.RunFault.{RunFault}
pub use Rattle.gw_records.specs.declared.outcome.Totals.{Totals}
pub use Rattle.gw_records.specs.declared.records.AcceptedKinds.{AcceptedKinds}
pub use Rattle.gw_switch.specs.Events.{Event, octets}
unfoldable pub use Rattle.gw_switch.specs.Standing.{HasHistory}
pub use Rattle.gw_switch.specs.Whole.{Reply, whole_from, next_circuit}
pub use Rattle.gw_switch.specs.declared.GatewayConfig.{GatewayConfig}
pub use Rattle.gw_switch.specs.declared.gateway.Gateway.{Gateway}

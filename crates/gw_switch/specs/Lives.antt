-- A circuit of a gateway, which begins as new if it is configured again: what it is now, and its replies.
use Rattle.std.specs.Prelude.{ℕ, List, [], ◌∷◌, ◌++◌, fold}
use Rattle.e1_g711.specs.declared.Law.{Law}
use Rattle.q421_line.specs.Laws.{wait_after}
use Rattle.gw_circuit.specs.declared.config.CircuitConfig.{CircuitConfig}
use Rattle.gw_circuit.specs.Items.{CircuitEvent, Wait, Configure, Reply}
use Rattle.gw_circuit.specs.Spells.{line_items}
use Rattle.gw_circuit.specs.Lone.{reply_to}
use Rattle.gw_switch.specs.Events.{Event, view}

-- the configuration after one item more
abbrev pub next_config : CircuitConfig → CircuitEvent → CircuitConfig
next_config config (Configure other) = other
next_config config item = config

-- the configuration after items: that of the last `Configure`, else the first one
abbrev pub config_after : CircuitConfig → List CircuitEvent → CircuitConfig
config_after config items = fold next_config config items

-- the items since the circuit began as new, with one item more: a circuit that is configured begins as new,
-- and keeps its wait for an acknowledgement
abbrev pub next_since : List CircuitEvent → CircuitEvent → List CircuitEvent
next_since items (Configure config) = Wait (wait_after (line_items items)) ∷ []
next_since items item = items ++ item ∷ []

-- the items since the circuit began as new: all of them if it was never configured again
abbrev pub items_since : List CircuitEvent → List CircuitEvent
items_since items = fold next_since [] items

-- what circuit c has seen since it began as new
abbrev pub life : ℕ → List Event → List CircuitEvent
life c events = items_since (view c events)

-- the replies of one circuit by itself to items, after the items before them
abbrev pub replies_from : Law → CircuitConfig → List CircuitEvent → List CircuitEvent → List Reply
replies_from law config before [] = []
replies_from law config before (item ∷ items) =
    reply_to law (config_after config before) (items_since before) item
    ∷ replies_from law config (before ++ item ∷ []) items

-- the replies of one circuit by itself
abbrev pub lone : Law → CircuitConfig → List CircuitEvent → List Reply
lone law config items = replies_from law config [] items

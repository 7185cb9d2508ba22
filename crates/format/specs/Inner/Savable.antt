-- What the laws of the round trip ask of a study. Definitions only.
use Rattle.std.specs.Prelude.{◌≡◌}
use Rattle.grid.specs.declared.Record.{Record}
use Rattle.grid.specs.Fault.{fault_of}
use Rattle.grid.specs.Stores.{Stores, lengths_of, store_lengths}
use Rattle.block.specs.Inner.Held.{Held}
use Rattle.format.specs.InMemory.{StoresHeld}

-- a study: none of the first four faults, and each number such as code holds; what makes the round trip true
pub record Savable (r : Record) (s : Stores) : Type 0 where
  pub ok : fault_of r ≡ 0
  pub held : Held r
  pub fit : lengths_of s ≡ store_lengths r
  pub kept : StoresHeld s

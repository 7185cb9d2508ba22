-- What every record and every nine stores meet that memory holds. Definitions only.
use Rattle.grid.specs.declared.Record.{Record}
use Rattle.grid.specs.Stores.{Stores}
use Rattle.block.specs.Inner.Held.{Held}
use Rattle.format.specs.InMemory.{StoresHeld}

pub record Holding (r : Record) (s : Stores) : Type 0 where
  pub held : Held r
  pub fits : StoresHeld s
